-- A print whose counts stay within the limits has tokens that are bounded.
use mathlib.Core.Path.{◌≡◌, refl, sym, ap, subst, ◌∙◌}
use mathlib.Core.Logic.{inl, inr}
use mathlib.Core.List.{List, [], ◌∷◌, ◌++◌}
use mathlib.Core.Bool.{Bool, true, false, not, ◌&&◌, ◌||◌, cond}
use Prim.Native.Nat.{ℕ, zero, suc, pred, ◌+◌, ◌-◌, ◌≤◌}
use native.Mathlib.Omega.{arith}
use lib.Dec.{T, T_not, eqb, ltb, leb, eqb→eq, ltb→lt, lt→ltb, leb→le}
use lib.ListN.{length}
use lib.Seq.{slice, length-slice}
use Rattle.rows.specs.Kinds as kinds
use Rattle.grammar.specs.Words.{f_quote, text_then_hole, last_text}
use Rattle.grammar.specs.Grammar.{plain, text, Token, Parts, one_of}
use Rattle.grammar.specs.Limits.{Counts, after, kept, limit}
use Rattle.grammar.specs.Table.{row}
use Rattle.grammar.specs.Readings.{ReadingBy, reads_end, reads_token, reads_phrase, reads_unless, reads_note, reads_side, reads_text}
use Rattle.grammar.proofs.Bools.{and_l, and_r, both, or_cases, or_l, or_r}
use Rattle.answers.specs.Source.{source}
use Rattle.canon.specs.Text.{Bit, copy}
use Rattle.printing.specs.Groves.{starts, ends, bytes_of}
use Rattle.printing.specs.Spelled.{leaves, string_symbols, sign_words, stands_token, stands_string, Spells, spells_none, spells_sign, spells_copy}
use Rattle.printing.proofs.Lists.{l}
use Rattle.printing.proofs.Placed.{apart}
use Rattle.printing.proofs.Labels.{last_end}
use Rattle.printing.proofs.Sources.{sure}
use Rattle.respell.specs.Shown.{is_piece, tokens_of}
use Rattle.respell.proofs.Pieces.{piece_lies}
use Rattle.respell.proofs.Looks.{look_lies}
use Rattle.respell.proofs.FStrings.{roto_hole, roto_holes, text_moves, closes}
use Rattle.roundtrip.proofs.Lasts.{covered, within_one}
use Rattle.roundtrip.proofs.Meets.{same_leaves, copied_text, string_last}
use Rattle.sink.specs.Few.{prefix_words}
use Rattle.limits.specs.Within.{openers, closers, opening, closing, prefixing, Tally, behind, allowed, quoted, past, within, bounded}
use Rattle.limits.proofs.Balanced.{deeper, depth, balanced}
use Rattle.limits.proofs.Quotes.{quote_text}

-- ---- words that count nothing

abbrev Still : ℕ → Type 0
Still c = T (not (opening c)) × T (not (closing c)) × T (not (prefixing c))

none_of : (v w : List ℕ) (c : ℕ) → (T (one_of c v) → T (one_of c w)) → T (not (one_of c w)) → T (not (one_of c v))
none_of v w c f h = go (one_of c v) (λ t. T_not (one_of c w) h (f t))
  where
    go : (b : Bool) → (T b → ⊥) → T (not b)
    go true k = absurd (k tt)
    go false k = tt

-- what a print copies
still_copied : (c : ℕ) → T (not (one_of c sign_words)) → Still c
still_copied c h = (no openers tt, no closers tt, no prefix_words tt)
  where
    no : (v : List ℕ) → T (covered v sign_words) → T (not (one_of c v))
    no v t = none_of v sign_words c (within_one v sign_words c t) h

still_piece : (c : ℕ) → T (is_piece c) → Still c
still_piece c m = still_copied c (apart (text_then_hole ∷ last_text ∷ []) sign_words c tt m)

still_behind : (c : ℕ) (o : Tally) → Still c → behind c o ≡ past o
still_behind c o h = go (opening c) (closing c) (prefixing c) h.0 h.1 h.2
  where
    go : (a b p : Bool) → T (not a) → T (not b) → T (not p) → record { brackets = cond a (suc o.brackets) (cond b (pred o.brackets) o.brackets); prefixes = cond p (suc o.prefixes) 0 } ≡ past o
    go true b p t u v = absurd t
    go false true p t u v = absurd u
    go false false true t u v = absurd v
    go false false false t u v = refl

still_allowed : (c : ℕ) (o : Tally) → Still c → T (allowed c o)
still_allowed c o h = both (not (opening c) || ltb o.brackets limit) (not (prefixing c) || ltb o.prefixes limit) (or_l (not (opening c)) (ltb o.brackets limit) h.0) (or_l (not (prefixing c)) (ltb o.prefixes limit) h.2)

-- ---- fewer counts

pub record Under (o' o : Tally) : Type 0 where
  pub brackets : o'.brackets ≡ o.brackets
  pub prefixes : o'.prefixes ≤ o.prefixes

under_behind : (c : ℕ) {o' o : Tally} → Under o' o → Under (behind c o') (behind c o)
under_behind c {o'} {o} u = record { brackets = ap (deeper c) u.brackets; prefixes = run (prefixing c) u.prefixes }
  where
    run : (p : Bool) {a b : ℕ} → a ≤ b → cond p (suc a) 0 ≤ cond p (suc b) 0
    run true h = omega (arith, h)
    run false h = omega arith

fewer : (b : Bool) (a c : ℕ) → a ≤ c → T (not b || ltb c limit) → T (not b || ltb a limit)
fewer true a c h t = let k = ltb→lt c limit t in lt→ltb a limit (omega (arith, h, k))
fewer false a c h t = tt

under_allowed : (c : ℕ) {o' o : Tally} → Under o' o → T (allowed c o) → T (allowed c o')
under_allowed c {o'} {o} u t =
    let e = u.brackets in
    both (not (opening c) || ltb o'.brackets limit) (not (prefixing c) || ltb o'.prefixes limit)
    (fewer (opening c) o'.brackets o.brackets (omega (arith, e)) (and_l (not (opening c) || ltb o.brackets limit) (not (prefixing c) || ltb o.prefixes limit) t))
    (fewer (prefixing c) o'.prefixes o.prefixes u.prefixes (and_r (not (opening c) || ltb o.brackets limit) (not (prefixing c) || ltb o.prefixes limit) t))

-- ---- tokens that are few

-- those that are no piece of text
unfoldable weigh : List Token → ℕ
weigh [] = 0
weigh (x ∷ xs) = cond (is_piece x.word) (weigh xs) (suc (weigh xs))

weigh_append : (xs ys : List Token) → weigh (xs ++ ys) ≡ weigh xs + weigh ys
unfolding weigh
weigh_append [] ys = omega arith
weigh_append (x ∷ xs) ys = go (is_piece x.word) (weigh_append xs ys)
  where
    go : (b : Bool) → weigh (xs ++ ys) ≡ weigh xs + weigh ys → cond b (weigh (xs ++ ys)) (suc (weigh (xs ++ ys))) ≡ cond b (weigh xs) (suc (weigh xs)) + weigh ys
    go true e = e
    go false e = omega (arith, e)

weigh_one : (x : Token) (xs : List Token) → weigh (x ∷ xs) ≤ suc (weigh xs)
unfolding weigh
weigh_one x xs = go (is_piece x.word)
  where
    go : (b : Bool) → cond b (weigh xs) (suc (weigh xs)) ≤ suc (weigh xs)
    go true = omega arith
    go false = omega arith

weigh_piece : (x : Token) (xs : List Token) → T (is_piece x.word) → weigh (x ∷ xs) ≡ weigh xs
unfolding weigh
weigh_piece x xs m = go (is_piece x.word) m
  where
    go : (b : Bool) → T b → cond b (weigh xs) (suc (weigh xs)) ≡ weigh xs
    go true t = refl
    go false t = absurd t

unfoldable through : List Token → Tally → Tally
through [] o = o
through (x ∷ xs) o = through xs (behind x.word o)

through_brackets : (xs : List Token) (o : Tally) → (through xs o).brackets ≡ depth xs o.brackets
unfolding through depth
through_brackets [] o = refl
through_brackets (x ∷ xs) o = through_brackets xs (behind x.word o)

brackets_one : (c : ℕ) (o : Tally) → (behind c o).brackets ≤ suc o.brackets
brackets_one c o = go (opening c) (closing c) o.brackets
  where
    go : (a b : Bool) (k : ℕ) → cond a (suc k) (cond b (pred k) k) ≤ suc k
    go true b k = omega arith
    go false true zero = omega arith
    go false true (suc k) = omega arith
    go false false k = omega arith

prefixes_one : (c : ℕ) (o : Tally) → (behind c o).prefixes ≤ suc o.prefixes
prefixes_one c o = go (prefixing c)
  where
    go : (p : Bool) → cond p (suc o.prefixes) 0 ≤ suc o.prefixes
    go true = omega arith
    go false = omega arith

through_last : (xs : List Token) (x : Token) (o : Tally) → T (is_piece x.word) → (through (xs ++ (x ∷ [])) o).prefixes ≡ 0
unfolding through
through_last [] x o m = ap (λ (t : Tally). t.prefixes) (still_behind x.word o (still_piece x.word m))
through_last (y ∷ xs) x o m = through_last xs x (behind y.word o) m

ample : (b : Bool) (a : ℕ) → a + 1 ≤ limit → T (not b || ltb a limit)
ample b a h = or_r (not b) (ltb a limit) (lt→ltb a limit (omega (arith, h)))

slim : (xs ts : List Token) (o : Tally) (k : ℕ) → weigh xs ≤ k → o.brackets + k ≤ limit → o.prefixes + k ≤ limit → T (bounded (through xs o) ts) → T (bounded o (xs ++ ts))
unfolding through weigh bounded
slim [] ts o k w h i t = t
slim (x ∷ xs) ts o k w h i t = go (is_piece x.word) refl k w h i (λ k w h i. slim xs ts (behind x.word o) k w h i t)
  where
    c : ℕ
    c = x.word

    on : Tally
    on = behind x.word o

    go : (b : Bool) → is_piece x.word ≡ b → (k : ℕ) → cond b (weigh xs) (suc (weigh xs)) ≤ k → o.brackets + k ≤ limit → o.prefixes + k ≤ limit → ((k : ℕ) → weigh xs ≤ k → on.brackets + k ≤ limit → on.prefixes + k ≤ limit → T (bounded on (xs ++ ts))) → T (allowed x.word o && bounded (behind x.word o) (xs ++ ts))
    go true e k w h i rec =
        let f = still_piece c (subst T (sym e) tt) in
        let g = still_behind c o f in
        let g₀ = ap (λ (t : Tally). t.brackets) g in
        let g₁ = ap (λ (t : Tally). t.prefixes) g in
        both (allowed c o) (bounded on (xs ++ ts)) (still_allowed c o f) (rec k w (omega (arith, h, g₀)) (omega (arith, h, g₁)))
    go false e zero w h i rec = absurd (omega (arith, w))
    go false e (suc k) w h i rec =
        let g₀ = brackets_one c o in
        let g₁ = prefixes_one c o in
        both (allowed c o) (bounded on (xs ++ ts))
        (both (not (opening c) || ltb o.brackets limit) (not (prefixing c) || ltb o.prefixes limit) (ample (opening c) o.brackets (omega (arith, h))) (ample (prefixing c) o.prefixes (omega (arith, i))))
        (rec k (omega (arith, w)) (omega (arith, h, g₀)) (omega (arith, i, g₁)))

-- ---- f-strings

module _ (s : List ℕ) where
  -- each token of a source but a piece of text has a byte
  light : {d : Counts} {b : _} {i r : ℕ} {p : Parts} → ReadingBy (source s) l kept d b i r p → weigh (leaves p) + i ≤ r
  unfolding weigh
  light reads_end = omega arith
  light (reads_token {x = x} {i = i} {j = j} {p = p} e m k t) = let h = light t in let g = look_lies s i x j e in let g₀ = g.0 in let g₁ = g.1 in let w = weigh_one x (leaves p) in omega (arith, h, g₀, g₁, w)
  light (reads_phrase {p = p} {q = q} o t u) = let h = light t in let g = light u in let w = weigh_append (leaves p) (leaves q) in omega (arith, h, g, w)
  light (reads_unless m t) = light t
  light (reads_note t) = light t
  light (reads_side {p = p} {q = q} o t m u) = let h = light t in let g = light u in let w = weigh_append (leaves p) (leaves q) in omega (arith, h, g, w)
  light (reads_text {x = x} {i = i} {j = j} {p = p} e k t) = let h = light t in let g = (piece_lies s i x j e).0 in let w = weigh_piece x (leaves p) ((sure s).pieces i j x e) in omega (arith, h, g, w)

  still_quote : Still f_quote
  still_quote = (tt, tt, tt)

  quoted_within : (t : List ℕ) (o : Tally) (bs : List Bit) → quoted t ≡ true → T (within o (copy t ∷ bs)) → T (leb (o.brackets + length t) limit)
  unfolding within
  quoted_within t o bs e h = go (quoted t) e h
    where
      go : (b : Bool) → b ≡ true → T (cond b (leb (o.brackets + length t) limit && within (past o) bs) (within (past o) bs)) → T (leb (o.brackets + length t) limit)
      go true e h = and_l (leb (o.brackets + length t) limit) (within (past o) bs) h
      go false e h = let v : ◌≡◌ {A = ℕ} 0 1 = cc in absurd (omega arith)

  copy_within : (t : List ℕ) (o : Tally) (bs : List Bit) → T (within o (copy t ∷ bs)) → T (within (past o) bs)
  unfolding within
  copy_within t o bs h = go (quoted t) h
    where
      go : (b : Bool) → T (cond b (leb (o.brackets + length t) limit && within (past o) bs) (within (past o) bs)) → T (within (past o) bs)
      go true h = and_r (leb (o.brackets + length t) limit) (within (past o) bs) h
      go false h = h

  string_bounded : {d : Counts} {i r : ℕ} {p : Parts} (xs ts : List Token) (bs : List Bit) (o o' : Tally) → ReadingBy (source s) l kept d string_symbols i r p → xs ≡ leaves p → Under o' o → T (within o (copy (bytes_of s kinds.F_STRING xs) ∷ bs)) → ((o'' : Tally) → Under o'' (past o) → T (bounded o'' ts)) → T (bounded o' (xs ++ ts))
  unfolding tokens_of bounded
  string_bounded {d = d} {i = i} {r = r} xs ts bs o o' (reads_token {x = x} {j = j} {p = p} e m k u) are v h rec =
      let w : x.word ≡ f_quote = elim (or_cases (eqb x.word f_quote) false m) [ inl y ↦ eqb→eq x.word f_quote y | inr y ↦ absurd y ] in
      let z = string_last s kept (after plain d) j r p u in
      let cl = closes s l (roto_hole true) (roto_holes true) kept r (after plain d) (row kinds.F_STRING ∷ []) j r p tt u (omega arith) in
      let cl₁ = cl.1 in
      let cl₃ = cl.3 in
      let lies₁ = (look_lies s i x j e).1 in
      let far = text_moves s l (roto_hole true) (roto_holes true) kept u in
      let last_are : leaves p ≡ z.earlier ++ (z.final ∷ []) = same_leaves p ∙ z.tokens in
      let end_is : ends xs ≡ z.final.end = ap ends (are ∙ ap (λ (y : List Token). x ∷ y) last_are) ∙ last_end (x ∷ z.earlier) z.final in
      let text_is : bytes_of s kinds.F_STRING xs ≡ slice x.start r s = copied_text s kinds.F_STRING x.start r xs tt (ap starts are) (ap (λ (a : ℕ). a + 1) end_is ∙ z.there) in
      let inside : r ≤ length s = omega (arith, cl₁, cl₃) in
      let t : List ℕ = slice x.start r s in
      let n : ℕ = length t in
      let size : n ≡ r - x.start = length-slice x.start r s inside in
      let q = quoted_within t o bs (quote_text s i x j r e w (omega (arith, lies₁, far)) inside) (subst (λ (y : List ℕ). T (within o (copy y ∷ bs))) text_is h) in
      let fit = leb→le (o.brackets + n) limit q in
      let o₁ : Tally = behind x.word o' in
      let still = subst Still (sym w) still_quote in
      let b = still_behind x.word o' still in
      let b₀ = ap (λ (y : Tally). y.brackets) b in
      let b₁ = ap (λ (y : Tally). y.prefixes) b in
      let v₀ = v.brackets in
      let lt = light u in
      let bal : depth (leaves p) (o₁.brackets + 0) ≡ o₁.brackets = balanced (sure s).pieces 0 o₁.brackets u tt in
      let under : Under (through (leaves p) o₁) (past o) = record {
        brackets = through_brackets (leaves p) o₁ ∙ ap (depth (leaves p)) (omega arith) ∙ bal ∙ b₀ ∙ v₀;
        prefixes = let f = ap (λ (y : List Token). (through y o₁).prefixes) last_are ∙ through_last z.earlier z.final o₁ z.piece in omega (arith, f);
      } in
      subst (λ (y : List Token). T (bounded o' (y ++ ts))) (sym are) (both (allowed x.word o') (bounded o₁ (leaves p ++ ts)) (still_allowed x.word o' still)
      (slim (leaves p) ts o₁ n (omega (arith, lt, size, lies₁, far)) (omega (arith, fit, b₀, v₀)) (omega (arith, fit, b₁)) (rec (through (leaves p) o₁) under)))

  -- ---- the print

  pub spells_bounded : {bs : List Bit} {ts : List Token} (o o' : Tally) → Spells (source s) l kept s bs ts → Under o' o → T (within o bs) → T (bounded o' ts)
  unfolding within bounded
  spells_bounded o o' spells_none v h = tt
  spells_bounded o o' (spells_sign {bs = bs} {ts = ts} c u) v h = both (allowed c o') (bounded (behind c o') ts) (under_allowed c v (and_l (allowed c o) (within (behind c o) bs) h)) (spells_bounded (behind c o) (behind c o') u (under_behind c v) (and_r (allowed c o) (within (behind c o) bs) h))
  spells_bounded o o' (spells_copy {bs = bs} {ts = ts} k xs m (stands_token {x = x} i j f e w) u) v h =
      let still = still_copied x.word w in
      both (allowed x.word o') (bounded (behind x.word o') ts) (still_allowed x.word o' still) (subst (λ (y : Tally). T (bounded y ts)) (sym (still_behind x.word o' still)) (spells_bounded (past o) (past o') u (record { brackets = v.brackets; prefixes = omega arith }) (copy_within (bytes_of s k (x ∷ [])) o bs h)))
  spells_bounded o o' (spells_copy {bs = bs} {ts = ts} k xs m (stands_string d i j f r are) u) v h =
      let q = copy_within (bytes_of s k xs) o bs h in
      string_bounded xs ts bs o o' r are v (subst (λ (n : ℕ). T (within o (copy (bytes_of s n xs) ∷ bs))) f h) (λ o'' v'. spells_bounded (past o) o'' u v' q)
