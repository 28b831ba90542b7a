-- The text of a print has no byte of 128 or more, and is a source that passes 1, 2 and 3 where it isn't too long.
use Rattle.std.specs.Prelude.{None, Ok}
use mathlib.Core.Path.{◌≡◌, refl, subst}
use mathlib.Core.List.{List, [], ◌∷◌, ◌++◌}
use mathlib.Core.Bool.{Bool, true, false, not, ◌&&◌, cond}
use Prim.Native.Nat.{ℕ, zero, suc, ◌+◌, ◌<◌, ◌≤◌}
use native.Mathlib.Omega.{arith}
use lib.ListN.{length, take, drop}
use lib.Seq.{slice}
use lib.Dec.{T, eqb, ltb, ltb→lt, T_not}
use borrow.Author.Tests.{ltb-false}
use Rattle.chars.specs.declared.Class.TheVariants.{Ascii}
use Rattle.chars.specs.Chars.{byte_at, is_class}
use Rattle.chars.specs.Runs.{span, past_span, past_run}
use Rattle.tokens.specs.Words.{Entry, two_signs, one_signs, keywords}
use Rattle.tokens.specs.Rules.{pair_at}
use Rattle.tokens.specs.Tokens.{bad, whole_of}
use Rattle.values.specs.Results.{Worth}
use Rattle.grammar.specs.Grammar.{Ask, Token, found, Stream, Language}
use Rattle.grammar.specs.Limits.{Counts}
use Rattle.grammar.specs.Language.{roto}
use Rattle.grammar.proofs.Bools.{and_l, and_r, both}
use Rattle.answers.specs.Source.{source, token_for}
use Rattle.answers.proofs.Ahead.{true_T, left_true, right_true}
use Rattle.answers.proofs.Opened.{lexer}
use Rattle.answers.proofs.Shebang.{shebang_no_token, low_fine}
use Rattle.canon.specs.Text.{Bit, sign, copy, spelled, spelling, ends_line, blank_between, spaced}
use Rattle.respell.specs.Shown.{is_piece, Again, Shown, shown_token, shown_piece, tokens_of}
use Rattle.respell.specs.Spelt.{last_line, Spelt, spelt_none, spelt_sign, spelt_token, spelt_string}
use Rattle.respell.proofs.Skips.{front}
use Rattle.respell.proofs.Pieces.{byte_tail}
use Rattle.respell.proofs.Looks.{look_lies}
use Rattle.respell.proofs.Respelled.{all_of}
use Rattle.respell.proofs.FStrings.{roto_hole, roto_holes, roto_quotes}
use Rattle.respell.proofs.Spaced.{no_piece_sign, spaced_shown}

abbrev lows : List ℕ → Bool
lows [] = true
lows (b ∷ l) = ltb b 128 && lows l

lows_two : (x y : List ℕ) → T (lows x) → T (lows y) → T (lows (x ++ y))
lows_two [] y h k = k
lows_two (b ∷ x) y h k = both (ltb b 128) (lows (x ++ y)) (and_l (ltb b 128) (lows x) h) (lows_two x y (and_r (ltb b 128) (lows x) h) k)

lows_drop : (i : ℕ) (l : List ℕ) → T (lows l) → T (lows (drop i l))
lows_drop zero l h = h
lows_drop (suc i) [] h = tt
lows_drop (suc i) (b ∷ l) h = lows_drop i l (and_r (ltb b 128) (lows l) h)

lows_take : (n : ℕ) (l : List ℕ) → T (lows l) → T (lows (take n l))
lows_take zero l h = tt
lows_take (suc n) [] h = tt
lows_take (suc n) (b ∷ l) h = both (ltb b 128) (lows (take n l)) (and_l (ltb b 128) (lows l) h) (lows_take n l (and_r (ltb b 128) (lows l) h))

lows_slice : (s : List ℕ) (i e : ℕ) → T (lows s) → T (lows (slice i e s))
lows_slice s i e h = lows_drop i (take e s) (lows_take e s h)

lows_byte : (l : List ℕ) (at : ℕ) → T (lows l) → at < length l → byte_at l at < 128
lows_byte [] at h k = absurd (omega arith)
lows_byte (b ∷ l) zero h k = let f = front b l in let g = ltb→lt b 128 (and_l (ltb b 128) (lows l) h) in omega arith
lows_byte (b ∷ l) (suc n) h k = let f = byte_tail b l n (suc n) (omega arith) in let g = lows_byte l n (and_r (ltb b 128) (lows l) h) (omega arith) in omega arith

-- a source that passes 2
span_lows : (l : List ℕ) → length l ≤ span (λ c b. is_class Ascii b) (λ c b. c) false l → T (lows l)
unfolding span is_class
span_lows [] h = tt
span_lows (b ∷ l) h = by (ltb b 128) refl h (span_lows l)
  where
    by : (u : Bool) → ltb b 128 ≡ u → suc (length l) ≤ elim u [ true ↦ suc (span (λ c b. is_class Ascii b) (λ c b. c) false l) | false ↦ 0 ] → (length l ≤ span (λ c b. is_class Ascii b) (λ c b. c) false l → T (lows l)) → T (lows (b ∷ l))
    by true e k ih = both (ltb b 128) (lows l) (true_T e) (ih (omega arith))
    by false e k ih = absurd (omega arith)

run_lows : (s : List ℕ) → length s ≤ past_run (is_class Ascii) s 0 → T (lows s)
unfolding past_run past_span
run_lows s h = span_lows s (omega arith)

fine_lows : (s : List ℕ) → whole_of s ≡ (Ok tt) → T (lows s)
unfolding whole_of
fine_lows s = by (ltb 65535 (length s)) (ltb (past_run (is_class Ascii) s 0) (length s)) refl
  where
    by : (u v : Bool) → ltb (past_run (is_class Ascii) s 0) (length s) ≡ v → cond u (bad 1 65535 65535) (cond v (bad 2 (past_run (is_class Ascii) s 0) (past_run (is_class Ascii) s 0 + 1)) (cond (pair_at s 0 35 33) (bad 3 0 2) (Ok tt))) ≡ (Ok tt) → T (lows s)
    by true v e z = let n : ◌≡◌ {A = ℕ} 0 1 = cc in absurd (omega arith)
    by false true e z = let n : ◌≡◌ {A = ℕ} 0 1 = cc in absurd (omega arith)
    by false false e z = run_lows s (ltb-false (past_run (is_class Ascii) s 0) (length s) e)

words_low : all_of (λ x. lows x.text) (two_signs ++ (one_signs ++ keywords)) ≡ true
unfolding lexer
words_low = refl

spelled_lows : (xs : List Entry) (c : ℕ) → all_of (λ x. lows x.text) xs ≡ true → T (lows (spelled xs c))
spelled_lows [] c h = tt
spelled_lows (x ∷ xs) c h = by (eqb c x.word) (spelled_lows xs c (right_true (lows x.text) (all_of (λ x. lows x.text) xs) h))
  where
    by : (b : Bool) → T (lows (spelled xs c)) → T (lows (cond b x.text (spelled xs c)))
    by true k = true_T (left_true (lows x.text) (all_of (λ x. lows x.text) xs) h)
    by false k = k

blank_lows : (b : Bool) (bs : List Bit) → T (lows (blank_between b bs))
blank_lows true bs = tt
blank_lows false [] = tt
blank_lows false (x ∷ bs) = tt

one_more : (x : Bit) (bs : List Bit) → T (lows (spelling x)) → T (lows (spaced bs)) → T (lows (spaced (x ∷ bs)))
unfolding spaced
one_more x bs h k = lows_two (spelling x) (blank_between (ends_line x) bs ++ spaced bs) h (lows_two (blank_between (ends_line x) bs) (spaced bs) (blank_lows (ends_line x) bs) k)

module _ (s : List ℕ) (l : Language) (F : Ask → Counts → Token → Bool) (fine : whole_of s ≡ (Ok tt)) where
  print_lows : {bs : List Bit} {xs : List Token} → Spelt s l F bs xs → T (lows (spaced bs))
  unfolding spaced
  print_lows spelt_none = tt
  print_lows (spelt_sign {c = c} {bs = bs} g u) = one_more (sign c) bs (spelled_lows (two_signs ++ (one_signs ++ keywords)) c words_low) (print_lows u)
  print_lows (spelt_token {x = x} i j {bs = bs} g n u) = one_more (copy (slice x.start j s)) bs (lows_slice s x.start j (fine_lows s fine)) (print_lows u)
  print_lows (spelt_string {x = x} d i j q {bs = bs} g o y u) = one_more (copy (slice x.start (q + 1) s)) bs (lows_slice s x.start (q + 1) (fine_lows s fine)) (print_lows u)

-- a print begins with a token, or is empty
opens : (s : List ℕ) (l : Language) (F : Ask → Counts → Token → Bool) {x : Bit} {bs : List Bit} {xs : List Token} → Spelt s l F (x ∷ bs) xs → (y : Token) × (ys : List Token) × (xs ≡ y ∷ ys) × T (not (is_piece y.word))
opens s l F (spelt_sign {c = c} {xs = xs} g u) = (token_for c 0 0 None, xs, refl, no_piece_sign c g)
opens s l F (spelt_token {x = x} i j {xs = xs} g n u) = (x, xs, refl, (look_lies s i x j g).2)
opens s l F (spelt_string {x = x} {p = p} d i j q {xs = xs} g o y u) = (x, tokens_of p ++ xs, refl, (look_lies s i x j g).2)

shown_first : {S : Stream} {Q : Token → Token → Type 0} {x : Token} {xs : List Token} {i r : S.Place} → T (not (is_piece x.word)) → Shown S Q (x ∷ xs) i r → (y : Token) × (j : S.Place) × (S.look i ≡ found y j)
shown_first h (shown_token {y = y} {j = j} e k f u) = (y, j, e)
shown_first {x = x} h (shown_piece e k f u) = absurd (T_not (is_piece x.word) h f)

-- so a print that isn't too long passes 1, 2 and 3
module _ (tests : Bool) (s : List ℕ) (F : Ask → Counts → Token → Bool) where
  no_shebang : (bs : List Bit) {xs : List Token} → Spelt s (roto tests) F bs xs → T (last_line bs) → pair_at (spaced bs) 0 35 33 ≡ false
  unfolding spaced pair_at byte_at
  no_shebang [] u h = refl
  no_shebang (x ∷ bs) {xs} u h = go (pair_at (spaced (x ∷ bs)) 0 35 33) refl
    where
      w : List ℕ
      w = spaced (x ∷ bs)

      go : (b : Bool) → pair_at w 0 35 33 ≡ b → b ≡ false
      go false e = refl
      go true e =
          let v = spaced_shown s w (roto tests) (roto_hole tests) (roto_holes tests) (roto_quotes tests) F u h 0 0 refl (omega arith) refl in
          let o = opens s (roto tests) F u in
          let f = shown_first o.3 (subst (λ (z : List Token). Shown (source w) (Again s w (roto tests) F) z 0 v.stop) o.2 v.shown) in
          absurd (shebang_no_token w e f.2)

  pub print_fine : {bs : List Bit} {xs : List Token} → whole_of s ≡ (Ok tt) → Spelt s (roto tests) F bs xs → T (last_line bs) → length (spaced bs) ≤ 65535 → whole_of (spaced bs) ≡ (Ok tt)
  print_fine {bs = bs} fine u h short = low_fine (spaced bs) short (λ at k. lows_byte (spaced bs) at (print_lows s (roto tests) F fine u) k) (no_shebang bs u h)
