-- The readers of exprs, a law for each way out of one: return forms, left sides, the binary levels, prefixes.
use Rattle.std.specs.Prelude.{Ok, Err}
use mathlib.Core.Path.{◌≡◌, refl, sym, ap, subst, ◌∙◌}
use mathlib.Core.List.{List, [], ◌∷◌}
use mathlib.Core.Bool.{Bool, true, false, not, ◌&&◌, ◌||◌, cond}
use mathlib.Core.Option.{some}
use mathlib.Core.Logic.{◌⊎◌, inl, inr, ◌≢◌}
use Prim.Native.Nat.{ℕ, zero, suc, ◌+◌, ◌≤◌, ◌<◌}
use lib.Dec.{T, eqb, eqb→eq, eqb_refl, T_not}
use native.Mathlib.Omega.{arith}
use Rattle.rows.specs.Kinds as kinds
use Rattle.tokens.specs.declared.Refusal.{Refusal}
use Rattle.rows.specs.declared.Row.{Row}
use Rattle.grammar.specs.Words.{'||', '&&', compare_signs, sum_signs, product_signs, assign_signs, return_words}
use Rattle.grammar.specs.Grammar.{plain, is_prefix, Symbol, left_side, one_of}
use Rattle.grammar.specs.Limits.{Counts, after, inside, kept}
use Rattle.grammar.specs.Table.{a, one, prefix, row, nothing, rest_kinds}
use Rattle.grammar.specs.Kinds.{EXPR, RETURNED, ASSIGNED, BINARY, OR_MORE, AND_MORE, COMPARE_MORE, SUM_MORE, PRODUCT_MORE, OPERAND}
use Rattle.grammar.specs.Rows.{place_in, detail_for}
use Rattle.grammar.specs.Refusals.{stops_none, stops_in, stops_side_none, stops_side_in}
use Rattle.grammar.specs.Refusals as refusals
use Rattle.grammar.specs.Phrases as phrases
use Rattle.grammar.proofs.Bools.{and_l, and_r, or_cases, T→eq, F→eq}
use Rattle.grammar.proofs.Open.{Left}
use Rattle.answers.specs.Source.{source}
use Rattle.parser.specs.declared.Here.{Here}
use Rattle.parser.specs.declared.Limits.{Limits}
use Rattle.parser.specs.declared.Node.{Node}
use Rattle.parser.specs.Results.{Read}
use Rattle.parser.specs.Places.{word_of, end_of, next_of, passed, later, under, refusal_at, node_of, put_over, plain_row}
use Rattle.parser.specs.Counted.{counts, signed, plain as plainly}
use Rattle.parser.specs.Going.{language, Stands, Tally, bare, lone, many, with_word, Phrase, Going, Stopped, Answers}
use Rattle.parser.proofs.Standing.{past_word, is_word, the_word, lexed, lexed_solid}
use Rattle.parser.proofs.Going.{at, few_rows, takes, out, last, writes, next_phrase, reads_one, ends, kept_length, refuses_past, done, stopped, whole_of, stopped_of, relays, fewer}
use Rattle.parser.proofs.Picks.{On, Off, begins_on, begins_any, into_on, into_off}
use Rattle.parser.proofs.Steps.{under_done, under_refused, counts_signed, counts_plain, few_used, all_used}
use Rattle.parser.proofs.Sides.{side_path, side_other, side_signed}
use Rattle.promises.specs.Firsts.{operand_firsts, expr_firsts, level_of, ends_return, sign_words, sign_kind, detail_row}
use Rattle.promises.specs.Promises.{the, LEVEL}
use Rattle.promises.proofs.Answered.{further, done_is, finished, finished_in}
use Rattle.promises.proofs.Alternatives.{but_for, expr_return_on, expr_side_on, returned_is, returned_on, returned_off, returned_any, assigned_on, assigned_off, binary_any, or_more_on, or_more_off, and_any, and_more_on, and_more_off, compare_any, compare_more_on, compare_more_off, sum_any, sum_more_on, sum_more_off, product_any, product_more_on, product_more_off, operand_not_on, operand_minus_on, rest_assigned, rest_binary, rest_or_more, rest_and, rest_and_more, rest_compare, rest_compare_more, rest_sum, rest_sum_more, rest_product, rest_product_more, rest_operand}

-- a word's place in a list is 0 exactly where it isn't there
pub placed : (c : ℕ) (w : List ℕ) → place_in c w ≢ 0 → T (one_of c w)
placed c [] n = absurd (n refl)
placed c (x ∷ xs) n = go (eqb c x) (place_in c xs) (placed c xs) n
  where
    go : (b : Bool) (k : ℕ) → (k ≢ 0 → T (one_of c xs)) → cond b 1 (cond (eqb k 0) 0 (suc k)) ≢ 0 → T (b || one_of c xs)
    go true k f n = tt
    go false zero f n = absurd (n refl)
    go false (suc k) f n = f (λ e. omega (arith, e))

pub unplaced : (c : ℕ) (w : List ℕ) → place_in c w ≡ 0 → T (one_of c w) → ⊥
unplaced c [] e m = m
unplaced c (x ∷ xs) e m = go (eqb c x) (eqb (place_in c xs) 0) (place_in c xs) (eqb→eq (place_in c xs) 0) (unplaced c xs) e m
  where
    go : (b z : Bool) (k : ℕ) → (T z → k ≡ 0) → (k ≡ 0 → T (one_of c xs) → ⊥) → cond b 1 (cond z 0 (suc k)) ≡ 0 → T (b || one_of c xs) → ⊥
    go true z k i f e m = omega (arith, e)
    go false true k i f e m = f (i tt) m
    go false false k i f e m = omega (arith, e)

pub is_return : (x : ℕ) {n : ℕ} → n ≡ detail_for kinds.RETURN x → n ≢ 0 → T (one_of x return_words)
is_return x e m = placed x return_words (λ i. m (e ∙ i))

pub no_return : (x : ℕ) {n : ℕ} → n ≡ detail_for kinds.RETURN x → n ≡ 0 → T (one_of x return_words) → ⊥
no_return x e m = unplaced x return_words (sym e ∙ m)

-- further on than the phrase began
pub goes_on : {f : Phrase} {ks : List Left} {h : Here} {t : List ℕ} {y : Tally} {v k : ℕ} → Going f ks h t y v k → 1 ≤ k → (next_of f.from < next_of h) × (next_of f.from < 65537)
goes_on g p = let r = g.rows in let e = g.spares in let b = few_rows g in (omega (arith, r, e, p), omega (arith, b))

-- past a prefix
module _ {f : Phrase} {ks : List Left} {h : Here} {t : List ℕ} {y : Tally} {v k : ℕ} {ss : List Symbol} {w : List ℕ} {r : Read} (l : Limits) (g : Going f (at (counts l) (prefix w ∷ ss) ∷ ks) h t y v k) (o : T (lexed w)) (m : T (one_of (word_of h) w)) (p : r ≡ under f.text h l.signs) where
  pub signs_on : {x : Node} {z : Here} → r ≡ Ok (x, z) → Going f (at (counts (signed l)) ss ∷ ks) z t (with_word y x.start x.end (word_of h)) v (k + 4)
  unfolding kept counts
  signs_on {x} {z} q =
      let u = under_done f.text h l.signs p q in
      subst (λ (c : Counts). Going f (at c ss ∷ ks) z t (with_word y x.start x.end (word_of h)) v (k + 4)) (counts_signed l u.0) (subst (λ (n : Node). Going f (at (after is_prefix (counts l)) ss ∷ ks) z t (with_word y n.start n.end (word_of h)) v (k + 4)) u.1.node (takes g (lexed_solid w o) m (few_used l.signs u.0) u.1.here))

  pub signs_off : {e : Refusal} → r ≡ Err e → Stopped f e t
  unfolding kept counts
  signs_off q = let u = under_refused f.text h l.signs w o m p q in subst (λ (x : Refusal). Stopped f x t) u.1 (refuses_past g (lexed_solid w o) m (all_used l.signs u.0))

-- a left side's own refusal
side_stops : (s : List ℕ) {d : Counts} {n n₁ i z : ℕ} {ss : List Symbol} {y : refusals.Why} → phrases.Refused (source s) language d Rattle.grammar.specs.Grammar.same n i z y → refusals.Stops (source s) language d (left_side n n₁ ∷ ss) i z y
unfolding inside
side_stops s (stops_none q) = stops_side_none q
side_stops s (stops_in q g) = stops_side_in q g
side_stops s {d = d} {n = n} {n₁ = n₁} {i = i} {z = z} {ss = ss} {y = y} (refusals.stops_after {m = m} {p = p} _ _ x24) = elim x24 [ ]

pub side_refused : {f : Phrase} {d : Counts} {ks : List Left} {h : Here} {t : List ℕ} {y : Tally} {v k : ℕ} {ss : List Symbol} {n n₁ : ℕ} {r : Refusal} {t' : List ℕ} → Going f (at d (left_side n n₁ ∷ ss) ∷ ks) h t y v k → Stopped (next_phrase f d n h t) r t' → Stopped f r t'
side_refused {f} g u = record { place = u.place; why = u.why; stops = g.opened.halt u.place u.why (inl (side_stops f.text u.stops)); says = u.says; kept = u.kept ∙ kept_length g }

-- Operands with a prefix

-- whether one stands there
pub no_sign : (x : ℕ) → (T (one_of x sign_words) → ⊥) → (x ≢ 52) × (x ≢ 53)
no_sign x n = (λ e. n (subst (λ (y : ℕ). T (one_of y sign_words)) (sym e) tt), λ e. n (subst (λ (y : ℕ). T (one_of y sign_words)) (sym e) tt))

some_sign : (x : ℕ) → T (one_of x sign_words) → (x ≡ 52) ⊎ (x ≡ 53)
some_sign x t = elim (or_cases (eqb x 52) (eqb x 53 || false) t) [ inl e ↦ inl (eqb→eq x 52 e) | inr e ↦ inr (the_word e) ]

-- its row, by the sign
pub record Sign (b : Bool) (c : ℕ) : Type 0 where
  pub on : On (OPERAND b) (some (prefix (c ∷ []) ∷ a (OPERAND b) ∷ row (sign_kind c) ∷ [])) (c ∷ [])
  pub word : T (lexed (c ∷ []))
  pub some_row : eqb (sign_kind c) 0 ≡ false
  pub own_row : eqb (sign_kind c) Rattle.grammar.specs.Table.literal_row ≡ false
  pub detail : detail_for (sign_kind c) c ≡ 0

pub sign_of : (b : Bool) (c : ℕ) → T (one_of c sign_words) → Sign b c
sign_of b c o = go (some_sign c o)
  where
    go : (c ≡ 52) ⊎ (c ≡ 53) → Sign b c
    go (inl e) = subst (Sign b) (sym e) (record { on = operand_not_on b; word = tt; some_row = refl; own_row = refl; detail = refl })
    go (inr e) = subst (Sign b) (sym e) (record { on = operand_minus_on b; word = tt; some_row = refl; own_row = refl; detail = refl })

module _ (s : List ℕ) (l : Limits) (b : Bool) (h : Here) (t : List ℕ) (g : Stands s h) (c : Sign b (word_of h)) {r : Read} (p : r ≡ under s h l.signs) where
  abbrev Operand : Phrase
  Operand = the s (counts l) (OPERAND b) h t

  operand_begins : Going Operand (at (counts l) (prefix (word_of h ∷ []) ∷ a (OPERAND b) ∷ row (sign_kind (word_of h)) ∷ []) ∷ []) h t bare 0 0
  operand_begins = begins_on c.on g (is_word {c = word_of h} refl)

  pub negate_deep : {e : Refusal} → r ≡ Err e → Answers Operand 1 r t
  negate_deep q = stopped q (signs_off l operand_begins c.word (is_word {c = word_of h} refl) p q)

  module _ {x : Node} {z : Here} (q : r ≡ Ok (x, z)) where
    pub operand_goes : Going Operand (at (counts (signed l)) (a (OPERAND b) ∷ row (sign_kind (word_of h)) ∷ []) ∷ []) z t (many x.start x.end 0 (some (word_of h))) 0 4
    operand_goes = signs_on l operand_begins c.word (is_word {c = word_of h} refl) p q

    module _ {p' : Limits} (v : p' ≡ signed l) {r' : Read} {t' : List ℕ} (u : Answers (the s (counts p') (OPERAND b) z t) 1 r' t') where
      pub negate_fails : {e : Refusal} → r' ≡ Err e → Answers Operand 1 r' t'
      unfolding inside
      negate_fails e = relays operand_goes (sym (ap counts v)) u e

      pub negate_ends : {m : Node} {h' : Here} {k : ℕ} {w : Row} {r'' : Read} {t'' : List ℕ} → r' ≡ Ok (m, h') → k ≡ sign_kind (word_of h) → w ≡ plain_row k x.start m.end 1 → r'' ≡ Ok (node_of w, later h') → t'' ≡ put_over t' h' w h.rows → Answers Operand 1 r'' t''
      unfolding inside
      negate_ends {m = m} e i w o y =
          let own : (n : ℕ) → Row = λ n. record { kind = sign_kind (word_of h); start = x.start; end = m.end; children = 1; value = 0; detail = n } in
          finished (reads_one operand_goes (rest_operand b) (sym (ap counts v)) (whole_of u e)) (omega arith) c.some_row c.own_row (w ∙ ap (λ (n : ℕ). plain_row n x.start m.end 1) i ∙ ap own (sym c.detail)) o y

-- The binary levels

abbrev pub MORE : ℕ → Bool → ℕ
MORE zero b = OR_MORE b
MORE (suc zero) b = OR_MORE b
MORE (suc (suc zero)) b = AND_MORE b
MORE (suc (suc (suc zero))) b = COMPARE_MORE b
MORE (suc (suc (suc (suc zero)))) b = SUM_MORE b
MORE (suc (suc (suc (suc (suc n))))) b = PRODUCT_MORE b

abbrev pub signs_of : ℕ → List ℕ
signs_of zero = []
signs_of (suc zero) = '||' ∷ []
signs_of (suc (suc zero)) = '&&' ∷ []
signs_of (suc (suc (suc zero))) = compare_signs
signs_of (suc (suc (suc (suc zero)))) = sum_signs
signs_of (suc (suc (suc (suc (suc zero))))) = product_signs
signs_of (suc (suc (suc (suc (suc (suc n)))))) = []

-- comparisons aren't chained
abbrev pub again : ℕ → Bool → List Symbol
again k b = cond (eqb k 3) [] (a (MORE k b) ∷ [])

pub record Level (k : ℕ) (b : Bool) : Type 0 where
  pub any : Off (LEVEL k b) (some (a (LEVEL (k + 1) b) ∷ a (MORE k b) ∷ [])) []
  pub on : On (MORE k b) (some (one (signs_of k) ∷ a (LEVEL (k + 1) b) ∷ row kinds.BINARY ∷ again k b)) (signs_of k)
  pub off : Off (MORE k b) (some nothing) (signs_of k)
  pub rest : one_of (MORE k b) rest_kinds ≡ true
  pub inner : one_of (LEVEL (k + 1) b) rest_kinds ≡ false
  pub words : T (lexed (signs_of k))

pub level_of_lem : (k : ℕ) (b : Bool) → 1 ≤ k → k ≤ 5 → Level k b
level_of_lem zero b p q = absurd (omega arith)
level_of_lem (suc zero) b p q = record { any = binary_any b; on = or_more_on b; off = or_more_off b; rest = rest_or_more b; inner = rest_and b; words = tt }
level_of_lem (suc (suc zero)) b p q = record { any = and_any b; on = and_more_on b; off = and_more_off b; rest = rest_and_more b; inner = rest_compare b; words = tt }
level_of_lem (suc (suc (suc zero))) b p q = record { any = compare_any b; on = compare_more_on b; off = compare_more_off b; rest = rest_compare_more b; inner = rest_sum b; words = tt }
level_of_lem (suc (suc (suc (suc zero)))) b p q = record { any = sum_any b; on = sum_more_on b; off = sum_more_off b; rest = rest_sum_more b; inner = rest_product b; words = tt }
level_of_lem (suc (suc (suc (suc (suc zero))))) b p q = record { any = product_any b; on = product_more_on b; off = product_more_off b; rest = rest_product_more b; inner = rest_operand b; words = tt }
level_of_lem (suc (suc (suc (suc (suc (suc n)))))) b p q = absurd (omega arith)

-- at 5 the signs join operands
pub tightest : {s : List ℕ} {d : Counts} {h : Here} {t t' : List ℕ} {j : ℕ} {r : Read} (b : Bool) (k : ℕ) → k ≤ 5 → 5 ≤ k → Answers (the s d (OPERAND b) h t) j r t' → Answers (the s d (LEVEL (k + 1) b) h t) j r t'
tightest {s} {d} {h} {t} {t'} {j} {r} b k p q u = let e : ◌≡◌ {A = ℕ} 5 k = omega arith in subst (λ (n : ℕ). Answers (the s d (LEVEL (n + 1) b) h t) j r t') e u

-- a sign's level, and the signs of a level
pub on_level : (x k : ℕ) → 1 ≤ k → level_of x ≡ k → T (one_of x (signs_of k))
on_level x k p e = go (eqb x '||') (eqb x '&&') (one_of x compare_signs) (one_of x sum_signs) (one_of x product_signs) (λ t. is_word (eqb→eq x '||' t)) (λ t. is_word (eqb→eq x '&&' t)) (λ t. t) (λ t. t) (λ t. t) e
  where
    go : (b₁ b₂ b₃ b₄ b₅ : Bool) → (T b₁ → T (one_of x (signs_of 1))) → (T b₂ → T (one_of x (signs_of 2))) → (T b₃ → T (one_of x (signs_of 3))) → (T b₄ → T (one_of x (signs_of 4))) → (T b₅ → T (one_of x (signs_of 5))) → cond b₁ 1 (cond b₂ 2 (cond b₃ 3 (cond b₄ 4 (cond b₅ 5 0)))) ≡ k → T (one_of x (signs_of k))
    go true b₂ b₃ b₄ b₅ f₁ f₂ f₃ f₄ f₅ e = subst (λ (n : ℕ). T (one_of x (signs_of n))) e (f₁ tt)
    go false true b₃ b₄ b₅ f₁ f₂ f₃ f₄ f₅ e = subst (λ (n : ℕ). T (one_of x (signs_of n))) e (f₂ tt)
    go false false true b₄ b₅ f₁ f₂ f₃ f₄ f₅ e = subst (λ (n : ℕ). T (one_of x (signs_of n))) e (f₃ tt)
    go false false false true b₅ f₁ f₂ f₃ f₄ f₅ e = subst (λ (n : ℕ). T (one_of x (signs_of n))) e (f₄ tt)
    go false false false false true f₁ f₂ f₃ f₄ f₅ e = subst (λ (n : ℕ). T (one_of x (signs_of n))) e (f₅ tt)
    go false false false false false f₁ f₂ f₃ f₄ f₅ e = absurd (omega (arith, e, p))

abbrev all_level : ℕ → List ℕ → Bool
all_level k [] = true
all_level k (c ∷ w) = eqb (level_of c) k && all_level k w

pub off_level : (x k : ℕ) → level_of x ≢ k → T (one_of x (signs_of k)) → ⊥
off_level x k n = go (signs_of k) (all k)
  where
    go : (w : List ℕ) → T (all_level k w) → T (one_of x w) → ⊥
    go [] t m = m
    go (c ∷ w) t m = elim (or_cases (eqb x c) (one_of x w) m) [
      | inl e ↦ n (ap level_of (eqb→eq x c e) ∙ eqb→eq (level_of c) k (and_l (eqb (level_of c) k) (all_level k w) t))
      | inr j ↦ go w (and_r (eqb (level_of c) k) (all_level k w) t) j
    ]

    all : (k : ℕ) → T (all_level k (signs_of k))
    all zero = tt
    all (suc zero) = tt
    all (suc (suc zero)) = tt
    all (suc (suc (suc zero))) = tt
    all (suc (suc (suc (suc zero)))) = tt
    all (suc (suc (suc (suc (suc zero))))) = tt
    all (suc (suc (suc (suc (suc (suc n)))))) = tt

-- behind an operand of a level; p are the limits behind the next sign
pub record Joins (f : Phrase) (p : Limits) (n : ℕ) (m : Node) (h : Here) (t : List ℕ) : Type 0 where
  pub at_counts : Counts
  pub then : after plain at_counts ≡ counts p
  pub going : Going f (at at_counts (a n ∷ []) ∷ []) h t (lone m.kind m.start m.end) 0 1

module _ (s : List ℕ) (b : Bool) (k : ℕ) (c : Level k b) where
  module _ {d : Counts} {i : Here} {t₀ : List ℕ} (g : Stands s i) {r : Read} {t : List ℕ} (u : Answers (the s d (LEVEL (k + 1) b) i t₀) 1 r t) where
    pub binop_refused : {e : Refusal} → r ≡ Err e → Answers (the s d (LEVEL k b) i t₀) 1 r t
    unfolding inside
    binop_refused e = relays (begins_any c.any g) refl u e

    pub binop_begins : {m : Node} {h : Here} (p : Limits) → r ≡ Ok (m, h) → after plain d ≡ counts p → Joins (the s d (LEVEL k b) i t₀) p (MORE k b) m h t
    unfolding inside
    binop_begins p e q = record { at_counts = d; then = q; going = reads_one (begins_any c.any g) c.inner refl (whole_of u e) }

  module _ {d : Counts} {n : ℕ} {i : Here} {t₀ : List ℕ} {p : Limits} {m : Node} {h : Here} {t : List ℕ} (j : Joins (the s d n i t₀) p (MORE k b) m h t) where
    pub binop_ends : {r : Read} → level_of (word_of h) ≢ k → r ≡ Ok (m, h) → Answers (the s d n i t₀) 1 r t
    unfolding inside
    binop_ends w e = done e (ends (out (out (into_off c.off c.rest (off_level (word_of h) k w) j.going))) refl refl refl)

    module _ (w : T (one_of (word_of h) (signs_of k))) {h' : Here} (e : h' ≡ passed s h) where
      sign_taken : Going (the s d n i t₀) (at (counts p) (a (LEVEL (k + 1) b) ∷ row kinds.BINARY ∷ again k b) ∷ at j.at_counts [] ∷ []) h' t (many m.start (end_of h) 1 (some (word_of h))) 0 5
      unfolding inside kept
      sign_taken = subst (λ (x : Counts). Going (the s d n i t₀) (at x (a (LEVEL (k + 1) b) ∷ row kinds.BINARY ∷ again k b) ∷ at j.at_counts [] ∷ []) h' t (many m.start (end_of h) 1 (some (word_of h))) 0 5) j.then (takes (into_on c.on c.rest w j.going) (lexed_solid (signs_of k) c.words) w tt e)

      pub binop_behind : Stands s h' × (next_of i < next_of h') × (next_of i < 65537)
      binop_behind = let x = sign_taken.stands in let y = goes_on sign_taken (omega arith) in (x, y.0, y.1)

      module _ {r : Read} {t' : List ℕ} (u : Answers (the s (counts p) (LEVEL (k + 1) b) h' t) 1 r t') where
        pub binop_fails : {x : Refusal} → r ≡ Err x → Answers (the s d n i t₀) 1 r t'
        unfolding inside
        binop_fails q = relays sign_taken refl u q

        module _ {x : Node} {z : Here} (q : r ≡ Ok (x, z)) {r' : Read} {t'' : List ℕ} (o : r' ≡ Ok (node_of (detail_row kinds.BINARY m x (word_of h)), later z)) (v : t'' ≡ put_over t' z (detail_row kinds.BINARY m x (word_of h)) i.rows) where
          row_joined : Going (the s d n i t₀) (at (counts p) (again k b) ∷ at j.at_counts [] ∷ []) (later z) t'' (lone 20 m.start x.end) 0 5
          unfolding inside
          row_joined = writes (reads_one sign_taken c.inner refl (whole_of u q)) refl refl refl refl v

          pub binop_compared : k ≡ 3 → {r₀ : Read} → r₀ ≡ r' → Answers (the s d n i t₀) 1 r₀ t''
          binop_compared y a₀ = done (a₀ ∙ o) (ends (fewer {k = 5} 1 (omega arith) (out (out (subst (λ (ss : List Symbol). Going (the s d n i t₀) (at (counts p) ss ∷ at j.at_counts [] ∷ []) (later z) t'' (lone 20 m.start x.end) 0 5) (ap (λ (x : Bool). cond x [] (a (MORE k b) ∷ [])) (T→eq (eqb k 3) (subst (λ (x : ℕ). T (eqb k x)) y (eqb_refl k)))) row_joined)))) refl refl refl)

          pub binop_less : {y : Node} {z' : Here} → r' ≡ Ok (y, z') → (next_of h < next_of z') × (next_of h < 65537)
          binop_less o' =
              let l = past_word (signs_of k) j.going.stands (lexed_solid (signs_of k) c.words) w e in
              let e₁ = (further u q).next in
              let e₂ = ap (λ (x : Here). next_of x) (done_is o o').1 in
              let few = few_rows j.going in
              (omega (arith, l, e₁, e₂), omega (arith, few))

          pub binop_joined : k ≢ 3 → {y : Node} {z' : Here} → r' ≡ Ok (y, z') → Joins (the s d n i t₀) p (MORE k b) y z' t''
          unfolding after
          binop_joined y {y = x'} o' =
              let same = done_is o o' in
              let more = ap (λ (x : Bool). cond x [] (a (MORE k b) ∷ [])) (F→eq (eqb k 3) (λ x. y (eqb→eq k 3 x))) in
              let g = subst (λ (ss : List Symbol). Going (the s d n i t₀) (at (counts p) ss ∷ at j.at_counts [] ∷ []) (later z) t'' (lone 20 m.start x.end) 0 5) more row_joined in
              subst (λ (x : Here). Joins (the s d n i t₀) p (MORE k b) x' x t'') same.1 (subst (λ (x : Node). Joins (the s d n i t₀) p (MORE k b) x (later z) t'') same.0 (record { at_counts = counts p; then = ap (after plain) (sym j.then) ∙ j.then; going = fewer {k = 5} 1 (omega arith) (last g) }))

-- Exprs

-- an expr that begins with no return word
pub operand_first : (x : ℕ) → T (one_of x expr_firsts) → (T (one_of x return_words) → ⊥) → T (one_of x operand_firsts)
operand_first x = but_for x expr_firsts return_words operand_firsts tt

-- behind a return word: nothing, or an expr
module _ {f : Phrase} {d : Counts} {ks : List Left} {h : Here} {t : List ℕ} {y : Tally} {v k : ℕ} {ss : List Symbol} where
  pub returned_none : (b : Bool) → T (ends_return (word_of h) b) → Going f (at d (a (RETURNED b) ∷ ss) ∷ ks) h t y v k → Going f (at d [] ∷ at d ss ∷ ks) h t y v k
  unfolding inside
  returned_none true e g = into_off returned_off refl (T_not (one_of (word_of h) expr_firsts) e) g
  returned_none false e g = absurd e

  pub returned_some : (b : Bool) → (T (ends_return (word_of h) b) → ⊥) → Going f (at d (a (RETURNED b) ∷ ss) ∷ ks) h t y v k → Going f (at d (returned_is b) ∷ at d ss ∷ ks) h t y v k
  unfolding inside
  returned_some true n g = into_on returned_on refl (so (one_of (word_of h) expr_firsts) n) g
    where
      so : (x : Bool) → (T (not x) → ⊥) → T x
      so true e = tt
      so false e = e tt
  returned_some false n g = into_off returned_any refl (λ x. x) g

module _ (s : List ℕ) (l : Limits) (b : Bool) (h : Here) (t : List ℕ) (g : Stands s h) where
  abbrev Expr : Phrase
  Expr = the s (counts l) (EXPR b) h t

  -- return forms
  module _ (w : T (one_of (word_of h) return_words)) {r : Read} (p : r ≡ under s h l.signs) where
    return_begins : Going Expr (at (counts l) (prefix return_words ∷ a (RETURNED b) ∷ row kinds.RETURN ∷ []) ∷ []) h t bare 0 0
    return_begins = begins_on (expr_return_on b) g w

    pub return_deep : {e : Refusal} → r ≡ Err e → Answers Expr 1 r t
    return_deep q = stopped q (signs_off l return_begins tt w p q)

    module _ {x : Node} {z : Here} (q : r ≡ Ok (x, z)) where
      pub return_goes : Going Expr (at (counts (signed l)) (a (RETURNED b) ∷ row kinds.RETURN ∷ []) ∷ []) z t (many x.start x.end 0 (some (word_of h))) 0 4
      return_goes = signs_on l return_begins tt w p q

  -- binary, or a left side
  module _ (w : T (one_of (word_of h) operand_firsts)) {r : Read} {t' : List ℕ} (u : Answers (the s (counts l) (BINARY b) h t) 1 r t') where
    side_begins : Going Expr (at (counts l) (left_side (BINARY b) (ASSIGNED b) ∷ []) ∷ []) h t bare 0 0
    side_begins = begins_on (expr_side_on b) g w

    pub expr_refused : {e : Refusal} → r ≡ Err e → Answers Expr 1 r t'
    expr_refused e = stopped e (side_refused side_begins (stopped_of u e))

    module _ {m : Node} {z : Here} (q : r ≡ Ok (m, z)) where
      pub expr_eight : {r' : Read} → T (one_of (word_of z) assign_signs) → m.kind ≢ 2 → r' ≡ Err (refusal_at 8 m.start m.end) → Answers Expr 1 r' t'
      expr_eight o n e = stopped e (side_signed side_begins (whole_of u q) n tt o)

      pub expr_plain : (T (one_of (word_of z) assign_signs) → ⊥) → {r' : Read} → r' ≡ Ok (m, z) → Answers Expr 1 r' t'
      unfolding inside
      expr_plain o {r'} q' = go (eqb m.kind 2) refl
        where
          go : (x : Bool) → eqb m.kind 2 ≡ x → Answers Expr 1 r' t'
          go true e = done q' (ends (out (out (into_off (assigned_off b) (rest_assigned b) o (side_path side_begins (whole_of u q) (rest_binary b) (eqb→eq m.kind 2 (subst T (sym e) tt)))))) refl refl refl)
          go false e = done q' (ends (out (side_other side_begins (whole_of u q) (rest_binary b) (λ y. subst T (sym (ap (λ (i : ℕ). eqb i 2) y) ∙ e) tt) o)) refl refl refl)

      module _ (o : T (one_of (word_of z) assign_signs)) (n : m.kind ≡ 2) {z' : Here} (e : z' ≡ passed s z) where
        side_taken : Going Expr (at (counts (plainly l)) (a (BINARY b) ∷ row kinds.ASSIGN ∷ []) ∷ at (counts l) [] ∷ []) z' t' (many m.start (end_of z) 1 (some (word_of z))) 0 5
        unfolding inside kept
        side_taken = subst (λ (d : Counts). Going Expr (at d (a (BINARY b) ∷ row kinds.ASSIGN ∷ []) ∷ at (counts l) [] ∷ []) z' t' (many m.start (end_of z) 1 (some (word_of z))) 0 5) (counts_plain l) (takes (into_on (assigned_on b) (rest_assigned b) o (side_path side_begins (whole_of u q) (rest_binary b) n)) tt o tt e)

        pub expr_behind : Stands s z' × (next_of h < next_of z') × (next_of h < 65537)
        expr_behind = let x = side_taken.stands in let y = goes_on side_taken (omega arith) in (x, y.0, y.1)

        module _ {p : Limits} (i : p ≡ plainly l) {r' : Read} {t'' : List ℕ} (v : Answers (the s (counts p) (BINARY b) z' t') 1 r' t'') where
          pub expr_fails : {x : Refusal} → r' ≡ Err x → Answers Expr 1 r' t''
          unfolding inside
          expr_fails x = relays side_taken (sym (ap counts i)) v x

          pub expr_assigned : {x : Node} {h' : Here} {r''' : Read} {t''' : List ℕ} → r' ≡ Ok (x, h') → r''' ≡ Ok (node_of (detail_row kinds.ASSIGN m x (word_of z)), later h') → t''' ≡ put_over t'' h' (detail_row kinds.ASSIGN m x (word_of z)) h.rows → Answers Expr 1 r''' t'''
          unfolding inside
          expr_assigned x y w = finished_in (reads_one side_taken (rest_binary b) (sym (ap counts i)) (whole_of v x)) (omega arith) refl refl refl y w
