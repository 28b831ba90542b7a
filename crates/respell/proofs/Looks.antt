-- What the grammar sees at a place of the copy: the token that it sees at that place of s, with its bytes moved.
use Rattle.std.specs.Prelude.{Some, None, Ok, Err}
use mathlib.Core.Path.{◌≡◌, refl, sym, ap, ◌∙◌, subst}
use mathlib.Core.List.{List}
use mathlib.Core.Bool.{Bool, true, false, not, ◌||◌, cond}
use Prim.Native.Nat.{ℕ, ◌+◌, ◌<◌, ◌≤◌}
use native.Mathlib.Omega.{arith}
use lib.ListN.{length}
use lib.Seq.{slice}
use lib.Dec.{T, eqb, ltb}
use borrow.Author.Tests.{lt-ltb, ne_eqb, eqb-true}
use Rattle.chars.specs.Chars.{byte_at, is_blank}
use Rattle.values.specs.Results.{Worth}
use Rattle.values.specs.Literals.{literal_of}
use Rattle.tokens.specs.Results.{Fit}
use Rattle.tokens.specs.declared.Cursor.{Cursor}
use Rattle.tokens.specs.declared.Refusal.{Refusal}
use Rattle.tokens.specs.Results.{Step}
use Rattle.tokens.specs.Words.{code_of}
use Rattle.tokens.specs.Blanks.{skip_all}
use Rattle.tokens.specs.Rules.{pair_at, ipv6_at, ipv4_at, two_at, one_at, as_at, hex_at, number_at, quote_at, name_at, taken, refused, or_else, token_at}
use Rattle.tokens.specs.Tokens.{step_at}
use Rattle.tokens.proofs.Steps.{taken_good}
use Rattle.grammar.specs.Words.{f_quote, text_then_hole, last_text}
use Rattle.grammar.specs.Grammar.{Token, found}
use Rattle.answers.specs.Source.{source, look_of, look_after, token_for}
use Rattle.answers.proofs.Ahead.{Steps, steps_token, steps_over, steps_quote, steps_wrong, step_goes}
use Rattle.respell.specs.Copies.{Copied, is_stop}
use Rattle.respell.specs.Shown.{placed, is_piece}
use Rattle.respell.proofs.Rules.{text_copied}
use Rattle.respell.proofs.Tokens.{Room, Said, token_said}
use Rattle.respell.proofs.Skips.{skip_ge, skip_again, skip_blank, skip_copied}

-- a token begins where the rules look for it, and so does `f"`
abbrev Starts : ℕ → Step → Type 0
Starts i (Ok (w, a, n)) = a ≡ i
Starts i (Err r) = r.number ≡ 5 → (r.start ≡ i) × (r.end ≡ i + 2)

module _ (i : ℕ) where
  or_starts : (f : Fit) (d : Step) → Starts i d → Starts i (or_else i f d)
  unfolding or_else taken
  or_starts (Some (e, w)) d k = refl
  or_starts None d k = k

  cond_starts : (b : Bool) (d : Step) → Starts i d → Starts i (cond b (refused 5 i (i + 2)) d)
  unfolding refused
  cond_starts true d k = λ n. (refl, refl)
  cond_starts false d k = k

  none_starts : (n a e : ℕ) → (n ≡ 5 → ⊥) → Starts i (refused n a e)
  unfolding refused
  none_starts n a e h = λ k. absurd (h k)

  token_starts : (s : List ℕ) → Starts i (token_at s i)
  unfolding token_at
  token_starts s =
      or_starts (ipv6_at s i) _ (or_starts (ipv4_at s i) _ (or_starts (two_at s i) _ (or_starts (one_at s i) _ (or_starts (as_at s i) _ (or_starts (hex_at s i) _ (or_starts (number_at s i) _
      (cond_starts (pair_at s i 102 34) _
      (or_starts (quote_at 34 9 s i) _ (or_starts (quote_at 39 10 s i) _ (or_starts (name_at s i) _ (none_starts 4 i (i + 1) (λ n. omega arith))))))))))))

module _ (s : List ℕ) (i : ℕ) where
  pub step_starts : Starts (skip_all s i) (step_at s i)
  unfolding step_at
  step_starts = by (ltb (skip_all s i) (length s))
    where
      by : (b : Bool) → Starts (skip_all s i) (cond b (token_at s (skip_all s i)) (refused 11 (length s) (length s)))
      by true = token_starts (skip_all s i) s
      by false = none_starts (skip_all s i) 11 (length s) (length s) (λ n. omega arith)

-- a step inside the source is what the rules say
pub step_inside : (s : List ℕ) (i : ℕ) → skip_all s i < length s → step_at s i ≡ token_at s (skip_all s i)
unfolding step_at
step_inside s i h = ap (λ (b : Bool). cond b (token_at s (skip_all s i)) (refused 11 (length s) (length s))) (lt-ltb (skip_all s i) (length s) h)

module _ {s t : List ℕ} {lo q q' : ℕ} (copy : Copied s t lo q q') (stop : is_stop (byte_at t q') ≡ true) (closes : eqb (byte_at t q') 34 ≡ true → eqb (byte_at s q) 34 ≡ true)
    (i i' : ℕ) (from : lo ≤ i) (at : i + q' ≡ i' + q) where
  -- before the end of the copy, the step says what it says in s
  step_moved : skip_all s i < q → Said t q q' (step_at s i) (step_at t i')
  step_moved h =
      let in_s = copy.in_s in
      let in_t = copy.in_t in
      let g = skip_ge s i in
      let r = skip_copied copy stop i i' from at h in
      subst (Said t q q' (step_at s i)) (sym (step_inside t i' (omega arith)))
      (subst (λ (d : Step). Said t q q' d (token_at t (skip_all t i'))) (sym (step_inside s i (omega arith)))
      (token_said copy stop closes (skip_all s i) (skip_all t i') (omega arith) h (omega arith)))

  pub step_copied : {w a : ℕ} {n : Cursor} → step_at s i ≡ Ok (w, a, n) → n.at ≤ q → (a' e' : ℕ) → a + q' ≡ a' + q → n.at + q' ≡ e' + q → Room t w e' → step_at t i' ≡ taken a' e' w
  step_copied z h a' e' x y room =
      let o = subst (Starts (skip_all s i)) z (step_starts s i) in
      let g = (taken_good s i z).1 in
      subst (λ (d : Step). Said t q q' d (step_at t i')) z (step_moved (omega arith)) h a' e' x y room

  pub quote_copied : {r : Refusal} → step_at s i ≡ Err r → r.number ≡ 5 → r.end ≤ q → (a' e' : ℕ) → r.start + q' ≡ a' + q → r.end + q' ≡ e' + q → step_at t i' ≡ refused 5 a' e'
  quote_copied {r} z n h a' e' x y =
      let o = starts z n in
      let g = o.0 in
      let k = o.1 in
      subst (λ (d : Step). Said t q q' d (step_at t i')) z (step_moved (omega arith)) n h a' e' x y
    where
      starts : step_at s i ≡ Err r → r.number ≡ 5 → (r.start ≡ skip_all s i) × (r.end ≡ skip_all s i + 2)
      starts z = subst (Starts (skip_all s i)) z (step_starts s i)

-- the look at a place, told apart: a token by the rules, or `f"`
module _ (s : List ℕ) (i : ℕ) (x : Token) (j : ℕ) where
  pub data Seen : Type 0 where
    by_rule : (w a : ℕ) (n : Cursor) → step_at s i ≡ Ok (w, a, n) → x ≡ token_for w a n.at (literal_of (code_of w) (slice a n.at s)) → n.at ≡ j → Seen
    by_quote : (r : Refusal) → step_at s i ≡ Err r → r.number ≡ 5 → x ≡ token_for f_quote r.start r.end None → r.end ≡ j → Seen

  pub seen : (source s).look i ≡ found x j → Seen
  seen = by (step_at s i) refl
    where
      after : (b c : Bool) (r : Refusal) → step_at s i ≡ Err r → eqb r.number 5 ≡ c → look_after b c r ≡ found x j → Seen
      after true c r e h z = let v : ◌≡◌ {A = ℕ} 0 1 = cc in absurd (omega arith)
      after false true r e h z = by_quote r e (eqb-true r.number 5 h) (cc) (cc)
      after false false r e h z = let v : ◌≡◌ {A = ℕ} 0 1 = cc in absurd (omega arith)

      by : (k : Step) → step_at s i ≡ k → look_of s k ≡ found x j → Seen
      by (Ok (w, a, n)) e z = by_rule w a n e (cc) (cc)
      by (Err r) e z = after (eqb r.number 11) (eqb r.number 5) r e refl z

-- a token begins behind what is skipped
pub look_start : (s : List ℕ) (i : ℕ) (x : Token) (j : ℕ) → (source s).look i ≡ found x j → x.start ≡ skip_all s i
look_start s i x j z = by (seen s i x j z)
  where
    by : Seen s i x j → x.start ≡ skip_all s i
    by (by_rule w a n e v u) = ap (λ (o : Token). o.start) v ∙ subst (Starts (skip_all s i)) e (step_starts s i)
    by (by_quote r e m v u) = ap (λ (o : Token). o.start) v ∙ (starts e m).0
      where
        starts : step_at s i ≡ Err r → r.number ≡ 5 → (r.start ≡ skip_all s i) × (r.end ≡ skip_all s i + 2)
        starts z = subst (Starts (skip_all s i)) z (step_starts s i)

-- and ends where the next is looked for
pub look_end : (s : List ℕ) (i : ℕ) (x : Token) (j : ℕ) → (source s).look i ≡ found x j → x.end ≡ j
look_end s i x j z = by (seen s i x j z)
  where
    by : Seen s i x j → x.end ≡ j
    by (by_rule w a n e v u) = ap (λ (o : Token). o.end) v ∙ u
    by (by_quote r e m v u) = ap (λ (o : Token). o.end) v ∙ u

-- it is seen from where it begins too; a blank changes nothing
pub same_skip : (s : List ℕ) (i j : ℕ) → skip_all s i ≡ skip_all s j → step_at s i ≡ step_at s j
unfolding step_at
same_skip s i j e = ap (λ (a : ℕ). cond (ltb a (length s)) (token_at s a) (refused 11 (length s) (length s))) e

pub look_again : (s : List ℕ) (i : ℕ) (x : Token) (j : ℕ) → (source s).look i ≡ found x j → (source s).look x.start ≡ found x j
look_again s i x j z = ap (λ (n : ℕ). look_of s (step_at s n)) (look_start s i x j z) ∙ ap (look_of s) (same_skip s (skip_all s i) i (skip_again s i)) ∙ z

pub step_blank : (s : List ℕ) (i : ℕ) → is_blank (byte_at s i) ≡ true → step_at s i ≡ step_at s (i + 1)
step_blank s i e = same_skip s i (i + 1) (skip_blank s i e)

-- a word of the rules is no word of a piece
no_piece : (w : ℕ) → w < 91 → T (not (is_piece w))
no_piece w h = subst (λ (b : Bool). T (not b)) (sym (ap (λ (b : Bool). b || (eqb w last_text || false)) (ne_eqb w text_then_hole (λ e. omega arith)) ∙ ap (λ (b : Bool). b || false) (ne_eqb w last_text (λ e. omega arith)))) tt

-- a token begins at or behind the place where it is looked for, has a byte, is no piece of text, and ends in the source
pub look_lies : (s : List ℕ) (i : ℕ) (x : Token) (j : ℕ) → (source s).look i ≡ found x j → (i ≤ x.start) × (x.start < j) × T (not (is_piece x.word)) × (j ≤ length s)
look_lies s i x j z = by (seen s i x j z)
  where
    small : {w a : ℕ} {n : Cursor} → Steps s i (Ok (w, a, n)) → w < 91
    small (steps_token h m p v) = omega arith

    quote_in : {r : Refusal} → Steps s i (Err r) → r.number ≡ 5 → r.end ≤ length s
    quote_in steps_over h = absurd (omega arith)
    quote_in (steps_quote c l m) h = m
    quote_in (steps_wrong c) h = absurd (omega arith)

    by : Seen s i x j → (i ≤ x.start) × (x.start < j) × T (not (is_piece x.word)) × (j ≤ length s)
    by (by_rule w a n e v u) =
        let g = taken_good s i e in
        let g₀ = g.0 in
        let g₁ = g.1 in
        let b : a ≡ x.start = sym (ap (λ (o : Token). o.start) v) in
        let c : w ≡ x.word = sym (ap (λ (o : Token). o.word) v) in
        (omega arith, omega arith, subst (λ (m : ℕ). T (not (is_piece m))) c (no_piece w (small (subst (Steps s i) e (step_goes s i)))), let g₂ = g.2 in omega arith)
    by (by_quote r e m v u) =
        let o = starts e m in
        let o₀ = o.0 in
        let o₁ = o.1 in
        let g = skip_ge s i in
        let b : r.start ≡ x.start = sym (ap (λ (o : Token). o.start) v) in
        let c : f_quote ≡ x.word = sym (ap (λ (o : Token). o.word) v) in
        (omega arith, omega arith, subst (λ (m : ℕ). T (not (is_piece m))) c tt, let f = quote_in (subst (Steps s i) e (step_goes s i)) m in omega arith)
      where
        starts : step_at s i ≡ Err r → r.number ≡ 5 → (r.start ≡ skip_all s i) × (r.end ≡ skip_all s i + 2)
        starts z = subst (Starts (skip_all s i)) z (step_starts s i)

module _ {s t : List ℕ} {lo q q' : ℕ} (copy : Copied s t lo q q') (stop : is_stop (byte_at t q') ≡ true) (closes : eqb (byte_at t q') 34 ≡ true → eqb (byte_at s q) 34 ≡ true)
    (i i' : ℕ) (from : lo ≤ i) (at : i + q' ≡ i' + q) where
  pub look_copied : (x : Token) (j : ℕ) → (source s).look i ≡ found x j → j ≤ q → (a' j' : ℕ) → x.start + q' ≡ a' + q → j + q' ≡ j' + q → Room t x.word j' → (source t).look i' ≡ found (placed x a' j') j'
  unfolding taken refused
  look_copied x j z h a' j' y k room = by (seen s i x j z)
    where
      by : Seen s i x j → (source t).look i' ≡ found (placed x a' j') j'
      by (by_rule w a n e v u) =
          let g = taken_good s i e in
          let g₀ = g.0 in
          let g₁ = g.1 in
          let b : a ≡ x.start = sym (ap (λ (o : Token). o.start) v) in
          let c : w ≡ x.word = sym (ap (λ (o : Token). o.word) v) in
          let r = step_copied copy stop closes i i' from at e (omega arith) a' j' (omega arith) (omega arith) (subst (λ (m : ℕ). Room t m j') (sym c) room) in
          ap (look_of t) r
          ∙ ap (λ (l : List ℕ). found (token_for w a' j' (literal_of (code_of w) l)) j') (text_copied copy a a' n.at j' (omega arith) (omega arith) (omega arith) (omega arith) (omega arith))
          ∙ ap (λ (o : Token). found (placed o a' j') j') (sym v)
      by (by_quote r e m v u) =
          let b : r.start ≡ x.start = sym (ap (λ (o : Token). o.start) v) in
          let p = quote_copied copy stop closes i i' from at e m (omega arith) a' j' (omega arith) (omega arith) in
          ap (look_of t) p ∙ ap (λ (o : Token). found (placed o a' j') j') (sym v)
