-- A source that begins `#!` has no reading; so one that has a reading, of at most 65,535 bytes below 128, passes 1, 2 and 3.
use Rattle.std.specs.Prelude.{Ok, Err}
use mathlib.Core.Path.{◌≡◌, refl, sym, ap, subst, ◌∙◌}
use mathlib.Core.List.{List, [], ◌∷◌}
use mathlib.Core.Bool.{Bool, true, false, ◌&&◌, true≢false}
use mathlib.Core.Logic.{◌⊎◌, inl, inr}
use Prim.Native.Nat.{ℕ, ◌+◌, ◌≤◌, ◌<◌}
use lib.Dec.{T, eqb, ltb, eqb→eq}
use lib.ListN.{length}
use native.Mathlib.Omega.{arith}
use native.Mathlib.Decide.{dec_lt}
use borrow.Author.Tests.{lt-ltb, le-ltb}
use Rattle.chars.specs.declared.Class.TheVariants.{Ascii}
use Rattle.chars.specs.Chars.{byte_at, is_class}
use Rattle.chars.specs.Runs.{past_run}
use Rattle.chars.proofs.Runs.{byte_in, byte_out, past_stops, outside}
use Rattle.tokens.specs.Rules.{pair_at}
use Rattle.tokens.specs.Tokens.{step_at, whole_of}
use Rattle.grammar.specs.Words.{f_quote}
use Rattle.grammar.specs.Kinds.{HOLE}
use Rattle.grammar.specs.Grammar.{Symbol, Token, Look, found, over, wrong, Stream, Parts, Language}
use Rattle.grammar.specs.Limits.{Counts}
use Rattle.grammar.specs.Readings.{Text, reads_end, reads_token, reads_phrase, reads_unless, reads_note, reads_side, reads_text}
use Rattle.grammar.specs.Runs.{Run}
use Rattle.grammar.specs.Language.{roto, goal}
use Rattle.grammar.specs.Culprit.{Reach, reach_here, reach_on, Clean, textless}
use Rattle.grammar.proofs.Quiet.{run_quiet}
use Rattle.grammar.proofs.Checks.{roto_tame, goal_tame}
use Rattle.grammar.proofs.Demand.{text_runs}
use Rattle.answers.specs.Source.{source}
use Rattle.answers.proofs.Ahead.{left_true, right_true, true_T}
use Rattle.answers.proofs.Opened.{lexer}

-- where no token starts, nothing is read
module _ (S : Stream) (l : Language) where
  stuck : {n a b : ℕ} {d : Counts} {s : List Symbol} {i r : S.Place} {p : Parts} → S.look i ≡ wrong n a b → Run (textless S) l d s i r p → r ≡ i
  stuck w reads_end = refl
  stuck w (reads_token e m k u) = let z : ◌≡◌ {A = ℕ} 0 1 = cc in absurd (omega arith)
  stuck {n} {a} {b} w (reads_phrase {i = i} {m = m} e u v) = let q = stuck w u in stuck (subst (λ (j : S.Place). S.look j ≡ wrong n a b) (sym q) w) v ∙ q
  stuck w (reads_unless m u) = stuck w u
  stuck w (reads_note u) = stuck w u
  stuck {n} {a} {b} w (reads_side e u m v) = let q = stuck w u in stuck (subst (λ (j : S.Place). S.look j ≡ wrong n a b) (sym q) w) v ∙ q
  stuck w (reads_text e k u) = let z : ◌≡◌ {A = ℕ} 0 1 = cc in absurd (omega arith)

  clean : {n a b : ℕ} (quote : ℕ) (i : S.Place) → S.look i ≡ wrong n a b → Clean S quote i
  clean quote i w x j k reach_here f q = let z : ◌≡◌ {A = ℕ} 0 1 = cc in absurd (omega arith)
  clean quote i w x j k (reach_on e r) f q = let z : ◌≡◌ {A = ℕ} 0 1 = cc in absurd (omega arith)

wrong_none : (S : Stream) (tests tree : Bool) {n a b : ℕ} {i : S.Place} {p : Parts} → S.look i ≡ wrong n a b → Text S (roto tests) (goal tree) i p → ⊥
wrong_none S tests tree {n} {a} {b} {i} w x =
    let q = stuck S (roto tests) w (run_quiet f_quote (HOLE ∷ []) (roto tests) (roto_tame tests) S (text_runs S tests tree x) (goal_tame tree) (clean S (roto tests) f_quote i w)).0 in
    let e : wrong n a b ≡ over = sym w ∙ ap S.look (sym q) ∙ x.whole in
    let z : ◌≡◌ {A = ℕ} 0 1 = cc in
    omega arith

-- no token starts with `#`
hash : (l : List ℕ) → step_at (35 ∷ 33 ∷ l) 0 ≡ Err (record { number = 4; start = 0; end = 1 })
unfolding lexer
hash l = simp (lt-ltb 0 (length (35 ∷ 33 ∷ l)) (omega arith))

begins : (s : List ℕ) → pair_at s 0 35 33 ≡ true → (l : List ℕ) × (s ≡ 35 ∷ 33 ∷ l)
unfolding pair_at
begins [] e = absurd (true≢false (sym e ∙ ap (λ (n : ℕ). eqb n 35 && eqb (byte_at [] 1) 33) (byte_out [] 0 (omega arith))))
begins (x ∷ []) e = absurd (true≢false (sym (right_true (eqb (byte_at (x ∷ []) 0) 35) (eqb (byte_at (x ∷ []) 1) 33) e) ∙ ap (λ (n : ℕ). eqb n 33) (byte_out (x ∷ []) 1 (omega arith))))
begins (x ∷ y ∷ l) e =
    let s : List ℕ = x ∷ y ∷ l in
    let f : x ≡ 35 = sym (byte_in s 0 (omega arith)) ∙ eqb→eq (byte_at s 0) 35 (true_T (left_true (eqb (byte_at s 0) 35) (eqb (byte_at s 1) 33) e)) in
    let g : y ≡ 33 = sym (byte_in s 1 (omega arith)) ∙ eqb→eq (byte_at s 1) 33 (true_T (right_true (eqb (byte_at s 0) 35) (eqb (byte_at s 1) 33) e)) in
    (l, ap (λ (n : ℕ). n ∷ y ∷ l) f ∙ ap (λ (n : ℕ). 35 ∷ n ∷ l) g)

-- there no token stands
shebang_wrong : (l : List ℕ) → (source (35 ∷ 33 ∷ l)).look 0 ≡ wrong 4 0 1
shebang_wrong l = ap (Rattle.answers.specs.Source.look_of (35 ∷ 33 ∷ l)) (hash l)

pub shebang_none : (tests tree : Bool) (s : List ℕ) {p : Parts} → pair_at s 0 35 33 ≡ true → Text (source s) (roto tests) (goal tree) 0 p → ⊥
shebang_none tests tree s {p} e x = let k = begins s e in go k.0 (subst (λ (t : List ℕ). Text (source t) (roto tests) (goal tree) 0 p) k.1 x)
  where
    go : (l : List ℕ) → Text (source (35 ∷ 33 ∷ l)) (roto tests) (goal tree) 0 p → ⊥
    go l y = wrong_none (source (35 ∷ 33 ∷ l)) tests tree (shebang_wrong l) y

pub shebang_no_token : (s : List ℕ) {x : Token} {j : ℕ} → pair_at s 0 35 33 ≡ true → (source s).look 0 ≡ found x j → ⊥
shebang_no_token s {x} {j} e f = let k = begins s e in go k.0 (subst (λ (t : List ℕ). (source t).look 0 ≡ found x j) k.1 f)
  where
    go : (l : List ℕ) → (source (35 ∷ 33 ∷ l)).look 0 ≡ found x j → ⊥
    go l f = let w = shebang_wrong l in let z : ◌≡◌ {A = ℕ} 0 1 = cc in omega arith

all_low : (s : List ℕ) → ((at : ℕ) → at < length s → byte_at s at < 128) → length s ≤ past_run (is_class Ascii) s 0
unfolding is_class
all_low s low = elim (dec_lt (past_run (is_class Ascii) s 0) (length s)) [
  | yes h ↦ absurd (true≢false (sym (lt-ltb _ _ (low (past_run (is_class Ascii) s 0) h)) ∙ past_stops (is_class Ascii) (outside Ascii) s 0))
  | no f ↦ omega (arith, f)
]

-- one that doesn't begin so, of at most 65,535 bytes below 128, passes 1, 2 and 3
pub low_fine : (s : List ℕ) → length s ≤ 65535 → ((at : ℕ) → at < length s → byte_at s at < 128) → pair_at s 0 35 33 ≡ false → whole_of s ≡ (Ok tt)
unfolding whole_of
low_fine s short low e = rw (le-ltb 65535 (length s) short, le-ltb (past_run (is_class Ascii) s 0) (length s) (all_low s low), e)

pub reading_fine : (tests tree : Bool) (s : List ℕ) {p : Parts} → length s ≤ 65535 → ((at : ℕ) → at < length s → byte_at s at < 128) → Text (source s) (roto tests) (goal tree) 0 p → whole_of s ≡ (Ok tt)
reading_fine tests tree s short low x = go (pair_at s 0 35 33) refl
  where
    go : (b : Bool) → pair_at s 0 35 33 ≡ b → whole_of s ≡ (Ok tt)
    go true e = absurd (shebang_none tests tree s e x)
    go false e = low_fine s short low e
