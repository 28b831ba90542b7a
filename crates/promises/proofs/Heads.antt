-- `if`, `while`, `for` and `match`: their heads, and what stands behind an `if`.
use Rattle.std.specs.Prelude.{Ok, Err}
use mathlib.Core.Path.{◌≡◌, refl, sym, ap, subst, ◌∙◌}
use mathlib.Core.List.{List, [], ◌∷◌}
use mathlib.Core.Bool.{false, ◌&&◌, Bool}
use mathlib.Core.Option.{some}
use mathlib.Core.Logic.{◌⊎◌, inl, inr, ◌≢◌}
use Prim.Native.Nat.{ℕ, ◌+◌, ◌≤◌, ◌<◌}
use lib.Dec.{T, eqb, ltb, ltb→lt, not_T, eqb→eq}
use native.Mathlib.Omega.{arith}
use Rattle.rows.specs.Kinds as kinds
use Rattle.tokens.specs.declared.Refusal.{Refusal}
use Rattle.rows.specs.declared.Row.{Row}
use Rattle.grammar.specs.Words.{open_brace, close_brace, 'in', four_words}
use Rattle.grammar.specs.Grammar.{plain, is_head, is_else_if, opens_bracket, body, Scope, Symbol, phrase, one_of}
use Rattle.grammar.specs.Limits.{zeros, Counts, after, inside, kept}
use Rattle.grammar.specs.Table.{a, behind, closes, head, word, row, opens, rest_kinds, literal_row}
use Rattle.grammar.specs.Kinds.{no_records, NAME, BLOCK, FOUR, ELSE, ELSE_PART, ELSE_IF, ARMS, EXPR}
use Rattle.grammar.proofs.Bools.{and_l, and_r, both, or_cases}
use Rattle.grammar.proofs.Open.{Left}
use Rattle.parser.specs.declared.Here.{Here}
use Rattle.parser.specs.declared.Limits.{Limits}
use Rattle.parser.specs.declared.Node.{Node}
use Rattle.parser.specs.Results.{Read}
use Rattle.parser.specs.Places.{word_of, start_of, end_of, next_of, passed, later, unused, refusal_at, node_of, put_over, plain_row, expected, under, opening}
use Rattle.parser.specs.Counted.{counts, headed, chained, unchained, opened, plain as plainly, Alike, used}
use Rattle.parser.specs.Going.{Stands, Tally, bare, many, with_node, row_over, Phrase, Going, Stopped, Answers}
use Rattle.parser.proofs.Standing.{solid, past_word, is_word, the_word, lexed, lexed_solid}
use Rattle.parser.proofs.Going.{at, takes, out, reads_one, refuses_in, refuses_past, whole_of, stopped_of, stopped, fewer}
use Rattle.parser.proofs.Picks.{On, begins_on, begins_any, into_on, into_off, refuses_off}
use Rattle.parser.proofs.Sides.{none_yet}
use Rattle.parser.proofs.Steps.{expected_done, under_done, under_refused, counts_plain, counts_headed, counts_body, counts_chained, counts_chain_body, counts_same, counts_opened, alike_counts, expects, misses, opens_on, opens_off, opening_done, few_used, all_used}
use Rattle.promises.specs.Promises.{the, Anyhow, Partly, Headed, after_match, Tested, Elsed, Matched, NamedIn}
use Rattle.promises.proofs.Alternatives.{four_if_on, four_match_on, four_while_on, four_for_on, else_on, else_off, elses_block_on, elses_off, else_if_any, else_if_is}
use Rattle.promises.proofs.Answered.{further, not_both, of_text, not_first, put_since, finished}
use Rattle.promises.proofs.Partly.{partly, partly_of, stops_answer, partly_stops}

-- a phrase in it, by the answer of its reader
module _ {f : Phrase} {s : List ℕ} {d d' : Counts} {ks : List Left} {h : Here} {t t' : List ℕ} {y : Tally} {v k : ℕ} {ss : List Symbol} {o : Scope} {n j : ℕ} {r : Read} (q : f.text ≡ s) (e : inside o d ≡ d') (u : Answers (the s d' n h t) j r t') where
  pub reads_it : {m : Node} {h' : Here} → Going f (at d (phrase o n ∷ ss) ∷ ks) h t y v k → one_of n rest_kinds ≡ false → r ≡ Ok (m, h') → Going f (at d ss ∷ ks) h' t' (with_node y m) v (k + j)
  reads_it g z p = reads_one g z refl (whole_of (of_text f q e u) p)

  pub refuses_it : {x : Refusal} → Going f (at d (phrase o n ∷ ss) ∷ ks) h t y v k → r ≡ Err x → Stopped f x t'
  refuses_it g p = refuses_in g refl (stopped_of (of_text f q e u) p)

-- either way
pub reads_partly : {f : Phrase} {s : List ℕ} {d d' : Counts} {ks : List Left} {h : Here} {t t' : List ℕ} {y : Tally} {v k : ℕ} {ss : List Symbol} {o : Scope} {n j : ℕ} {r : Read} → f.text ≡ s → inside o d ≡ d' → Answers (the s d' n h t) j r t' → Going f (at d (phrase o n ∷ ss) ∷ ks) h t y v k → one_of n rest_kinds ≡ false → Partly f r t' (λ m h'. Going f (at d ss ∷ ks) h' t' (with_node y m) v (k + j))
reads_partly {f} {s} {d} {d'} {ks} {h} {t} {t'} {y} {v} {k} {ss} {n = n} {j = j} {r = r} q e u g z = go r u
  where
    go : (r : Read) → Answers (the s d' n h t) j r t' → Partly f r t' (λ m h'. Going f (at d ss ∷ ks) h' t' (with_node y m) v (k + j))
    go (Ok (m, h')) u = partly refl (reads_it q e u g z refl)
    go (Err x) u = partly_stops refl (refuses_it q e u g refl)

-- the counts behind a plain token
pub counts_behind : (l : Limits) {d : Counts} {l' : Limits} → d ≡ counts l → l' ≡ plainly l → after plain d ≡ counts l'
counts_behind l e p = ap (after plain) e ∙ counts_plain l ∙ ap counts (sym p)

-- where the reader stands behind a head's word, and behind a bracket
pub under_past : (w n : ℕ) {s : List ℕ} {h : Here} {r : Read} {m : Node} {z : Here} → Stands s h → T (solid (w ∷ [])) → word_of h ≡ w → r ≡ under s h n → r ≡ Ok (m, z) → Stands s z × (next_of h < next_of z)
under_past w n {s} {h} g o e u q = let k = past_word (w ∷ []) g o (is_word e) (under_done s h n u q).1.here in (k.0, k.1)

pub expected_past : (w : ℕ) {s : List ℕ} {h : Here} {r : Read} {m : Node} {z : Here} → Stands s h → T (solid (w ∷ [])) → r ≡ expected s h w → r ≡ Ok (m, z) → Stands s z × (next_of h < next_of z)
expected_past w {s} {h} g o u q = let x = expected_done s h w u q in let k = past_word (w ∷ []) g o (is_word x.0) x.1.here in (k.0, k.1)

pub opening_past : (w n : ℕ) {s : List ℕ} {h : Here} {r : Read} {m : Node} {z : Here} → Stands s h → T (solid (w ∷ [])) → r ≡ opening s h w n → r ≡ Ok (m, z) → Stands s z × (next_of h < next_of z)
opening_past w n {s} {h} g o u q = let x = opening_done s h w n u q in let k = past_word (w ∷ []) g o (is_word x.0) x.2.here in (k.0, k.1)

-- behind a head, with c rows: the counts of its expr and of its body
pub record Head (f : Phrase) (l : Limits) (ss : List Symbol) (h : Here) (t : List ℕ) (start c : ℕ) : Type 0 where
  pub at_counts : Counts
  pub end : ℕ
  pub sign : ℕ
  pub headed_so : at_counts ≡ counts (headed l)
  pub body_so : inside body at_counts ≡ counts l
  pub going : Going f (at at_counts ss ∷ []) h t (many start end c (some sign)) 0 4

-- the word of a head: 32 at most are open, or it is refused
module _ (l : Limits) {s : List ℕ} {h : Here} {t : List ℕ} {l' : Limits} (g : Stands s h) (p : l' ≡ unchained l) {r : Read} (u : r ≡ under s h l'.heads) where
  module _ {w : ℕ} {ss : List Symbol} (o : On FOUR (some (head w ∷ ss)) (w ∷ [])) (z : T (lexed (w ∷ []))) (e : word_of h ≡ w) where
    pub head_on : {m : Node} {i : Here} → r ≡ Ok (m, i) → Head (the s (counts l) FOUR h t) l' ss i t m.start 0
    unfolding kept counts
    head_on {m} {i} q =
        let k = under_done s h l'.heads u q in
        let b = k.0 in
        let c : l'.heads ≡ l.heads = ap (λ (x : Limits). x.heads) p in
        let small : 0 < l.heads = omega (arith, b, c) in
        record {
          at_counts = after is_head (counts l);
          end = end_of h;
          sign = word_of h;
          headed_so = counts_headed l small ∙ ap (λ (x : Limits). counts (headed x)) (sym p);
          body_so = counts_body l ∙ ap counts (sym p);
          going = subst (λ (x : Node). Going (the s (counts l) FOUR h t) (at (after is_head (counts l)) ss ∷ []) i t (many x.start (end_of h) 0 (some (word_of h))) 0 4) k.1.node (takes (begins_on o g (is_word e)) (lexed_solid (w ∷ []) z) (is_word e) (few_used l.heads small) k.1.here);
        }

    pub head_off : {x : Refusal} → r ≡ Err x → Answers (the s (counts l) FOUR h t) 1 r t
    unfolding kept counts
    head_off q =
        let k = under_refused s h l'.heads (w ∷ []) z (is_word e) u q in
        let c : l'.heads ≡ l.heads = ap (λ (x : Limits). x.heads) p in
        stopped q (subst (λ (y : Refusal). Stopped (the s (counts l) FOUR h t) y t) k.1 (refuses_past (begins_on o g (is_word e)) (lexed_solid (w ∷ []) z) (is_word e) (all_used l.heads (sym c ∙ k.0))))

-- the expr behind a head
module _ {f : Phrase} {s : List ℕ} {d d' : Counts} {ss : List Symbol} {h : Here} {t t' : List ℕ} {x e c w k : ℕ} {r : Read} (q : f.text ≡ s) (z : d ≡ d') (g : Going f (at d (a (EXPR no_records) ∷ ss) ∷ []) h t (many x e c (some w)) 0 k) (u : Answers (the s d' (EXPR no_records) h t) 1 r t') where
  head_expr : {m : Node} {i : Here} → r ≡ Ok (m, i) → Going f (at d ss ∷ []) i t' (many x m.end (c + 1) (some w)) 0 (k + 1)
  unfolding inside
  head_expr = reads_it q z u g refl

  head_expr_stops : {y : Refusal} → r ≡ Err y → Answers f 1 r t'
  unfolding inside
  head_expr_stops y = stopped y (refuses_it q z u g y)

-- `expr block`
module _ (l : Limits) {s : List ℕ} {i : Here} {t₀ : List ℕ} {l' : Limits} {r₁ : Read} {t₁ : List ℕ} (p : l' ≡ headed l) (u₁ : Answers (the s (counts l') (EXPR no_records) i t₀) 1 r₁ t₁) where
  pub test_fails : {y : Refusal} → r₁ ≡ Err y → Tested s i t₀ l r₁ t₁
  unfolding inside
  test_fails e₁ f d ss x e c w k q z b g = partly_stops e₁ (refuses_it q (z ∙ ap counts (sym p)) u₁ g e₁)

  pub test_block : {m₁ : Node} {h₁ : Here} {r₂ : Read} {t₂ : List ℕ} → r₁ ≡ Ok (m₁, h₁) → Answers (the s (counts l) BLOCK h₁ t₁) 1 r₂ t₂ → Tested s i t₀ l r₂ t₂
  test_block e₁ u₂ f d ss x e c w k q z b g = reads_partly q b u₂ (head_expr q (z ∙ ap counts (sym p)) g u₁ e₁) refl

-- from behind the word of a head
pub head_answers : {f : Phrase} {l : Limits} {ss : List Symbol} {h : Here} {t : List ℕ} {start : ℕ} {r : Read} {t' : List ℕ} → Head f l ss h t start 0 → Headed ss f.text h t l start r t' → Answers f 1 r t'
head_answers {f} b u = u f b.at_counts b.end b.sign refl b.headed_so b.body_so b.going

pub heads : {ss : List Symbol} {s : List ℕ} {h : Here} {t : List ℕ} {l : Limits} {start : ℕ} {r : Read} {t' : List ℕ} → ((f : Phrase) → f.text ≡ s → Head f l ss h t start 0 → Answers f 1 r t') → Headed ss s h t l start r t'
heads k f d e w q z b g = k f q (record { at_counts = d; end = e; sign = w; headed_so = z; body_so = b; going = g })

-- one of the four words
which_four : (x : ℕ) → T (one_of x four_words) → (x ≡ 69) ⊎ ((x ≡ 73) ⊎ ((x ≡ 81) ⊎ (x ≡ 67)))
which_four x m = elim (or_cases (eqb x 69) (one_of x (73 ∷ 81 ∷ 67 ∷ [])) m) [
  | inl e ↦ inl (eqb→eq x 69 e)
  | inr m ↦ inr (elim (or_cases (eqb x 73) (one_of x (81 ∷ 67 ∷ [])) m) [
    | inl e ↦ inl (eqb→eq x 73 e)
    | inr m ↦ inr (elim (or_cases (eqb x 81) (one_of x (67 ∷ [])) m) [
      | inl e ↦ inl (eqb→eq x 81 e)
      | inr m ↦ inr (the_word m)
    ])
  ])
]

pub last_four : (x : ℕ) → T (one_of x four_words) → x ≢ 69 → x ≢ 73 → x ≢ 81 → x ≡ 67
last_four x m i f w = go (which_four x m)
  where
    go : (x ≡ 69) ⊎ ((x ≡ 73) ⊎ ((x ≡ 81) ⊎ (x ≡ 67))) → x ≡ 67
    go (inl e) = absurd (i e)
    go (inr (inl e)) = absurd (f e)
    go (inr (inr (inl e))) = absurd (w e)
    go (inr (inr (inr e))) = e

pub four_deep : (l : Limits) {s : List ℕ} {h : Here} {t : List ℕ} {l' : Limits} {r : Read} {x : Refusal} → Stands s h → T (one_of (word_of h) four_words) → l' ≡ unchained l → r ≡ under s h l'.heads → r ≡ Err x → Answers (the s (counts l) FOUR h t) 1 r t
four_deep l {s} {h} {t} {r = r} g m p u q = go (which_four (word_of h) m)
  where
    go : (word_of h ≡ 69) ⊎ ((word_of h ≡ 73) ⊎ ((word_of h ≡ 81) ⊎ (word_of h ≡ 67))) → Answers (the s (counts l) FOUR h t) 1 r t
    go (inl e) = head_off l g p u four_if_on tt e q
    go (inr (inl e)) = head_off l g p u four_match_on tt e q
    go (inr (inr (inl e))) = head_off l g p u four_while_on tt e q
    go (inr (inr (inr e))) = head_off l g p u four_for_on tt e q

pub four_past : (n : ℕ) {s : List ℕ} {h : Here} {r : Read} {m : Node} {z : Here} → Stands s h → T (one_of (word_of h) four_words) → r ≡ under s h n → r ≡ Ok (m, z) → Stands s z × (next_of h < next_of z)
four_past n {s} {h} g o u q = let k = past_word four_words g tt o (under_done s h n u q).1.here in (k.0, k.1)

module _ (l : Limits) {s : List ℕ} {h : Here} {t : List ℕ} (g : Stands s h) (e : word_of h ≡ 69) where
  else_if_begins : Going (the s (counts l) ELSE_IF h t) (at (counts l) else_if_is ∷ []) h t bare 0 0
  else_if_begins = begins_any else_if_any g

  else_if_full : (0 < l.heads → 0 < l.chain → ⊥) → Stopped (the s (counts l) ELSE_IF h t) (refusal_at 9 (start_of h) (end_of h)) t
  unfolding kept counts
  else_if_full n =
      let b : ℕ → Bool = λ x. ltb (used x) 32 in
      refuses_past else_if_begins tt (is_word e) (not_T (b l.heads && b l.chain) (λ y. n (some_used l.heads (and_l (b l.heads) (b l.chain) y)) (some_used l.chain (and_r (b l.heads) (b l.chain) y))))
    where
      some_used : (x : ℕ) → T (ltb (used x) 32) → 0 < x
      some_used x y = let k = ltb→lt (used x) 32 y in omega (arith, k)

  -- with so many left, of which the chain may leave none
  module _ {n : ℕ} {r : Read} (u : r ≡ under s h n) where
    pub else_if_deep : {x : Refusal} → (n ≡ 0 → 0 < l.heads → 0 < l.chain → ⊥) → r ≡ Err x → Answers (the s (counts l) ELSE_IF h t) 1 r t
    else_if_deep m q = let k = under_refused s h n (69 ∷ []) tt (is_word e) u q in stopped q (subst (λ (y : Refusal). Stopped (the s (counts l) ELSE_IF h t) y t) k.1 (else_if_full (m k.0)))

  module _ {r : Read} (u : r ≡ under s h l.heads) where
    pub else_if_on : {l' : Limits} {m : Node} {i : Here} → 0 < l.chain → l' ≡ chained l → r ≡ Ok (m, i) → Head (the s (counts l) ELSE_IF h t) l' (a (EXPR no_records) ∷ behind BLOCK ∷ behind ELSE ∷ row kinds.IF ∷ []) i t m.start 0
    unfolding kept counts
    else_if_on {i = i} c p q =
        let k = under_done s h l.heads u q in
        record {
          at_counts = after is_else_if (counts l);
          end = end_of h;
          sign = word_of h;
          headed_so = counts_chained l k.0 c ∙ ap (λ (x : Limits). counts (headed x)) (sym p);
          body_so = counts_chain_body l c ∙ ap counts (sym p);
          going = subst (λ (x : Node). Going (the s (counts l) ELSE_IF h t) (at (after is_else_if (counts l)) (a (EXPR no_records) ∷ behind BLOCK ∷ behind ELSE ∷ row kinds.IF ∷ []) ∷ []) i t (many x.start (end_of h) 0 (some (word_of h))) 0 4) k.1.node (takes else_if_begins tt (is_word e) (both (ltb (used l.heads) 32) (ltb (used l.chain) 32) (few_used l.heads k.0) (few_used l.chain c)) k.1.here);
        }

-- its expr and block, and its row
module _ {f : Phrase} {s : List ℕ} {l : Limits} {n : ℕ} {h : Here} {t : List ℕ} {x c : ℕ} (q : f.text ≡ s) (b : Head f l (a (EXPR no_records) ∷ behind BLOCK ∷ row n ∷ []) h t x c) {r : Read} {t₁ : List ℕ} (u : Tested s h t l r t₁) where
  tested_head : Partly f r t₁ (λ m h'. Going f (at b.at_counts (row n ∷ []) ∷ []) h' t₁ (many x m.end (c + 1 + 1) (some b.sign)) 0 6)
  tested_head = u f b.at_counts (row n ∷ []) x b.end c b.sign 4 q b.headed_so b.body_so b.going

  pub head_fails : {y : Refusal} → r ≡ Err y → Answers f 1 r t₁
  head_fails e = stops_answer tested_head e

  pub head_ends : {m : Node} {h₁ : Here} {v : Row} {r₁ : Read} {t₂ : List ℕ} → r ≡ Ok (m, h₁) → eqb n 0 ≡ false → eqb n literal_row ≡ false → v ≡ row_over n (many x m.end (c + 1 + 1) (some b.sign)) 0 → r₁ ≡ Ok (node_of v, later h₁) → t₂ ≡ put_over t₁ h₁ v f.from.rows → Answers f 1 r₁ t₂
  head_ends e = finished (partly_of tested_head e) (omega arith)

-- `for name in`
module _ {f : Phrase} {s : List ℕ} {l : Limits} {ss : List Symbol} {h : Here} {t : List ℕ} {x c : ℕ} (q : f.text ≡ s) (b : Head f l (a NAME ∷ word 'in' ∷ ss) h t x c) {r₁ : Read} {t₁ : List ℕ} (u₁ : Anyhow s NAME h t 3 r₁ t₁) where
  pub for_name_fails : {y : Refusal} → r₁ ≡ Err y → Answers f 1 r₁ t₁
  unfolding inside
  for_name_fails e₁ = stopped e₁ (refuses_it q refl (u₁ b.at_counts) b.going e₁)

  module _ {m₁ : Node} {h₁ : Here} (e₁ : r₁ ≡ Ok (m₁, h₁)) {r₂ : Read} (u₂ : r₂ ≡ expected s h₁ 71) where
    for_in : Going f (at b.at_counts (word 'in' ∷ ss) ∷ []) h₁ t₁ (many x m₁.end (c + 1) (some b.sign)) 0 7
    unfolding inside
    for_in = reads_it q refl (u₁ b.at_counts) b.going refl e₁

    expects_in : r₂ ≡ expected f.text h₁ 71
    expects_in = subst (λ (y : List ℕ). r₂ ≡ expected y h₁ 71) (sym q) u₂

    pub for_in_fails : {y : Refusal} → r₂ ≡ Err y → Answers f 1 r₂ t₁
    for_in_fails e₂ = stopped e₂ (misses 71 for_in tt expects_in e₂)

    pub for_on : {m₂ : Node} {h₂ : Here} → l.signs ≡ 32 → r₂ ≡ Ok (m₂, h₂) → Head f l ss h₂ t₁ x (c + 1)
    unfolding after inside
    for_on {m₂} o e₂ = record {
      at_counts = after plain b.at_counts;
      end = m₂.end;
      sign = b.sign;
      headed_so = ap (after plain) b.headed_so ∙ counts_plain (headed l);
      body_so = ap (after plain) b.body_so ∙ counts_same l o;
      going = fewer 4 (omega arith) (expects 71 for_in tt expects_in e₂);
    }

-- the two as their reader tells of them
module _ {f : Phrase} {s : List ℕ} {l : Limits} {ss : List Symbol} {h : Here} {t : List ℕ} {x c : ℕ} (q : f.text ≡ s) (b : Head f l (a NAME ∷ word 'in' ∷ ss) h t x c) {r : Read} {t₁ : List ℕ} (u : NamedIn s h t r t₁) where
  pub name_in_fails : {y : Refusal} → r ≡ Err y → Answers f 1 r t₁
  name_in_fails {y} e = go u.first refl
    where
      go : (v : Read) → u.first ≡ v → Answers f 1 r t₁
      go (Ok (m, z)) i = for_in_fails q b u.name i (u.goes i) e
      go (Err z) i = subst (λ (v : Read). Answers f 1 v t₁) (sym (u.stops i)) (for_name_fails q b u.name i)

  pub name_in_on : {m : Node} {z : Here} → l.signs ≡ 32 → r ≡ Ok (m, z) → Head f l ss z t₁ x (c + 1)
  name_in_on {z = z₁} o e = go u.first refl
    where
      go : (v : Read) → u.first ≡ v → Head f l ss z₁ t₁ x (c + 1)
      go (Ok (m, z)) i = for_on q b u.name i (u.goes i) o e
      go (Err z) i = not_both e (u.stops i ∙ i)

pub name_in_past : {s : List ℕ} {h : Here} {t : List ℕ} {r : Read} {t₁ : List ℕ} {m : Node} {z : Here} → Stands s h → NamedIn s h t r t₁ → r ≡ Ok (m, z) → Stands s z × (next_of h < next_of z)
name_in_past {s} {h} {z = z} g u e = go u.first refl
  where
    go : (v : Read) → u.first ≡ v → Stands s z × (next_of h < next_of z)
    go (Ok (m₁, h₁)) i =
        let x = further (u.name zeros) i in
        let y = expected_past 71 x.stands tt (u.goes i) e in
        (y.0, let a = x.next in let b = y.1 in omega (arith, a, b))
    go (Err x) i = not_both e (u.stops i ∙ i)

-- `match expr {`
module _ {f : Phrase} {s : List ℕ} {l l' : Limits} {h : Here} {t : List ℕ} {x : ℕ} {r₁ : Read} {t₁ : List ℕ} (q : f.text ≡ s) (p : l' ≡ headed l) (b : Head f l after_match h t x 0) (u₁ : Answers (the s (counts l') (EXPR no_records) h t) 1 r₁ t₁) where
  pub match_expr_fails : {y : Refusal} → r₁ ≡ Err y → Answers f 1 r₁ t₁
  match_expr_fails e₁ = head_expr_stops q (b.headed_so ∙ ap counts (sym p)) b.going u₁ e₁

  module _ {m₁ : Node} {h₁ : Here} (e₁ : r₁ ≡ Ok (m₁, h₁)) {r₂ : Read} (u₂ : r₂ ≡ opening s h₁ 40 l.brackets) where
    matches : Going f (at b.at_counts (opens open_brace ∷ behind ARMS ∷ closes close_brace ∷ row kinds.MATCH ∷ []) ∷ []) h₁ t₁ (many x m₁.end 1 (some b.sign)) 0 5
    matches = head_expr q (b.headed_so ∙ ap counts (sym p)) b.going u₁ e₁

    match_alike : Alike b.at_counts (headed l)
    match_alike = subst (λ (d : Counts). Alike d (headed l)) (sym b.headed_so) (alike_counts (headed l))

    opens_arms : r₂ ≡ opening f.text h₁ 40 l.brackets
    opens_arms = subst (λ (y : List ℕ). r₂ ≡ opening y h₁ 40 l.brackets) (sym q) u₂

    pub match_fails : {y : Refusal} → r₂ ≡ Err y → Answers f 1 r₂ t₁
    match_fails e₂ = stopped e₂ (opens_off 40 (headed l) matches tt match_alike opens_arms e₂)

    pub match_ends : {l₃ : Limits} {m₂ : Node} {h₂ : Here} {r : Read} {t₂ : List ℕ} → r₂ ≡ Ok (m₂, h₂) → l₃ ≡ opened l → Matched s h₂ t₁ l₃ x h.rows r t₂ → Answers f 1 r t₂
    unfolding after inside
    match_ends e₂ o v = v f (after opens_bracket b.at_counts) _ _ q (none_yet b.going) (ap (after opens_bracket) b.body_so ∙ counts_opened l (opening_done s h₁ 40 l.brackets u₂ e₂).1 ∙ ap counts (sym o)) (fewer 1 (omega arith) (opens_on 40 (headed l) matches tt match_alike opens_arms e₂))

-- no `else`: the `if` ends
pub else_none : {f : Phrase} {d : Counts} {h : Here} {t : List ℕ} {x e w k : ℕ} {v : Row} {r : Read} {t' : List ℕ} → Going f (at d (behind ELSE ∷ row kinds.IF ∷ []) ∷ []) h t (many x e 2 (some w)) 0 k → 2 ≤ k → word_of h ≢ 63 → v ≡ plain_row kinds.IF x e 2 → r ≡ Ok (node_of v, later h) → t' ≡ put_over t h v f.from.rows → Answers f 1 r t'
else_none g j n v r t = finished (out (into_off else_off refl (λ m. n (the_word m)) g)) j refl refl v r t

-- behind `else`
pub else_word : (l : Limits) {f : Phrase} {d : Counts} {ss : List Symbol} {ks : List Left} {h h₁ : Here} {t : List ℕ} {x i c w v k : ℕ} → inside body d ≡ counts l → l.signs ≡ 32 → word_of h ≡ 63 → h₁ ≡ passed f.text h → Going f (at d (behind ELSE ∷ ss) ∷ ks) h t (many x i c (some w)) v k → Going f (at (counts l) (a ELSE_PART ∷ []) ∷ at d ss ∷ ks) h₁ t (many x (end_of h) c (some w)) v (k + 4)
unfolding kept
else_word l {f} {d} {ss} {ks} {h} {h₁} {t} {x} {i} {c} {w} {v} {k} b z e p g =
    subst (λ (y : Counts). Going f (at y (a ELSE_PART ∷ []) ∷ at d ss ∷ ks) h₁ t (many x (end_of h) c (some w)) v (k + 4)) (ap (after plain) b ∙ counts_same l z) (takes (into_on else_on refl (is_word e) g) tt (is_word e) tt p)

-- the block there
pub else_fails : (l : Limits) {s : List ℕ} {h : Here} {t : List ℕ} {start since : ℕ} {r : Read} → word_of h ≢ 69 → word_of h ≢ 40 → r ≡ unused h → Elsed s h t l start since r t
else_fails l i o u f d e w k q n g = stopped u (refuses_off elses_off (not_first _ 69 (40 ∷ []) i (not_first _ 40 [] o (λ y. y))) g)

module _ (l : Limits) {s : List ℕ} {h : Here} {t : List ℕ} (i : word_of h ≡ 40) {start since : ℕ} {r : Read} {t₁ : List ℕ} (u : Answers (the s (counts l) BLOCK h t) 1 r t₁) where
  pub else_block_fails : {y : Refusal} → r ≡ Err y → Elsed s h t l start since r t₁
  unfolding inside
  else_block_fails j f d e w k q n g = stopped j (refuses_it q refl u (into_on elses_block_on refl (is_word i) g) j)

  pub else_ends : {m : Node} {j : Here} {v : Row} {r₁ : Read} {t₂ : List ℕ} → r ≡ Ok (m, j) → v ≡ plain_row kinds.IF start m.end 3 → r₁ ≡ Ok (node_of v, later j) → t₂ ≡ put_over t₁ j v since → Elsed s h t l start since r₁ t₂
  unfolding inside
  else_ends {j = j} p v o y f d e w k q n g = finished (out (out (reads_it q refl u (into_on elses_block_on refl (is_word i) g) refl p))) (omega arith) refl refl v o (put_since _ j _ n y)
