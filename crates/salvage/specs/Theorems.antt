-- What the theorems of C-23 say.
use Rattle.std.specs.Prelude.{Ok, ◌≡◌, List, [], ◌∷◌, Bool, true, ◌⊎◌, ℕ, ◌≤◌, ◌<◌, length}
use Rattle.chars.specs.declared.Answer.{Answer}
use Rattle.chars.specs.Chars.{byte_at}
use Rattle.tokens.specs.Tokens.{whole_of}
use Rattle.tokens.specs.Blanks.{skip_all}
use Rattle.grammar.specs.Grammar.{Parts}
use Rattle.grammar.specs.Limits.{zeros}
use Rattle.grammar.specs.Table.{a}
use Rattle.grammar.specs.Kinds.{DECLARATION}
use Rattle.grammar.specs.Language.{roto}
use Rattle.grammar.specs.Readings.{Reading}
use Rattle.grammar.specs.Answers.{refused, Answers}
use Rattle.answers.specs.Source.{source}
use Rattle.answers.specs.Demands as demands
use Rattle.keeping.specs.Kept.{Kept}
use Rattle.salvage.specs.Salvage.{blanked, Range, Salvage}
use Rattle.salvage.specs.Answers.{Salvages}

-- The answer is determined, and so is what is left in all that was lent.
pub record OneSalvage (tests : Bool) (s : List ℕ) (size size' : ℕ) : Type 0 where
  pub one : {x y : Answer} {n m : ℕ} {t u v t' u' v' : List ℕ} → Salvages tests s size size' x n t u v → Salvages tests s size size' y m t' u' v' → (x ≡ y) × (n ≡ m) × (t ≡ t') × (u ≡ u') × (v ≡ v')

-- "What is kept must be exactly the declarations as a fresh read gives them when the dropped bytes are replaced by spaces": the text that is
-- left has a reading, so a fresh read of it accepts it.
pub record Fresh (tests : Bool) (t : List ℕ) : Type 0 where
  pub fine : whole_of t ≡ (Ok tt)
  pub parts : Parts
  pub reading : demands.Reading tests true t parts

pub record AlwaysFresh (tests : Bool) (s : List ℕ) : Type 0 where
  pub fresh : {rs : List Range} {t : List ℕ} → whole_of s ≡ (Ok tt) → Salvage tests s 0 rs t → Fresh tests t

-- Reading anew from the first byte on after each drop gives the same: each range's refusal is (a)'s answer to the text with the ranges before
-- it as spaces.
pub data Anew (tests : Bool) : List ℕ → List Range → List ℕ → Type 0 where
  read : {s : List ℕ} {p : Parts} → demands.Reading tests true s p → Anew tests s [] s
  again : {s t : List ℕ} {r : Range} {rs : List Range} → Answers (source s) tests true (length s) 0 (refused r.refusal) → Anew tests (blanked s r.start r.end) rs t → Anew tests s (r ∷ rs) t

pub record Again (tests : Bool) (s : List ℕ) : Type 0 where
  pub anew : {rs : List Range} {t : List ℕ} → Salvage tests s 0 rs t → Anew tests s rs t

-- A byte that a range holds.
pub data Dropped (b : ℕ) : List Range → Type 0 where
  here : {r : Range} {rs : List Range} → r.start ≤ b → b < r.end → Dropped b (r ∷ rs)
  there : {r : Range} {rs : List Range} → Dropped b rs → Dropped b (r ∷ rs)

-- A byte of a declaration of the text t, "first token to last": behind whole declarations from the first byte on one stands from i up to j.
pub record Declared (tests : Bool) (t : List ℕ) (b : ℕ) : Type 0 where
  pub from : ℕ
  pub to : ℕ
  pub parts : Parts
  pub before : Kept (source t) (roto tests) 0 from
  pub reads : Reading (source t) (roto tests) zeros (a DECLARATION ∷ []) from to parts
  pub first : skip_all t from ≤ b
  pub last : b < to

-- A byte that is "blank or comment": it is skipped behind whole declarations from the first byte on.
pub record Skipped (tests : Bool) (t : List ℕ) (b : ℕ) : Type 0 where
  pub from : ℕ
  pub before : Kept (source t) (roto tests) 0 from
  pub first : from ≤ b
  pub last : b < skip_all t from

-- "dropped ranges together with the kept declarations, first token to last, cover every byte that isn't blank or comment": a byte that no
-- range holds is still there, and is one of a kept declaration, or blank or comment.
pub record Stays (tests : Bool) (s t : List ℕ) (b : ℕ) : Type 0 where
  pub same : byte_at t b ≡ byte_at s b
  pub stands : Declared tests t b ⊎ Skipped tests t b

pub record Cover (tests : Bool) (s : List ℕ) : Type 0 where
  pub covers : {rs : List Range} {t : List ℕ} → Salvage tests s 0 rs t → (b : ℕ) → b < length s → Dropped b rs ⊎ Stays tests s t b
