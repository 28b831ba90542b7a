-- Where the declarations of a source break off. `tests`: whether `test` is a declaration (C-22).
use Rattle.std.specs.Prelude.{◌≡◌, List, [], ◌∷◌, Bool, ◌≢◌, ℕ, length}
use Rattle.tokens.specs.Blanks.{skip_all}
use Rattle.grammar.specs.Grammar.{over}
use Rattle.grammar.specs.Limits.{zeros}
use Rattle.grammar.specs.Table.{a}
use Rattle.grammar.specs.Kinds.{DECLARATION}
use Rattle.grammar.specs.Language.{roto}
use Rattle.grammar.specs.Refusals.{Why, Refusal, said, Stops}
use Rattle.answers.specs.Source.{source}
use Rattle.keeping.specs.Kept.{Kept}

-- C-23: from place i on whole declarations stand, up to something that is no declaration: its first byte, "of the declaration it falls in, or of
-- the refused token where none has begun", and the refusal with which reading it stops.
pub record Breaks (tests : Bool) (s : List ℕ) (i first : ℕ) (r : Refusal) : Type 0 where
  pub behind : ℕ
  pub kept : Kept (source s) (roto tests) i behind
  pub more : (source s).look behind ≢ over
  pub begins : first ≡ skip_all s behind
  pub place : ℕ
  pub why : Why
  pub stops : Stops (source s) (roto tests) zeros (a DECLARATION ∷ []) behind place why
  pub says : r ≡ said (length s) ((source s).look place) why
