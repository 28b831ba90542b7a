-- What the theory says of a source's bytes: the rows are bounded, and there is an answer.
use Rattle.std.specs.Prelude.{Ok, Err}
use mathlib.Core.Path.{◌≡◌, refl}
use mathlib.Core.List.{List}
use mathlib.Core.Bool.{Bool}
use Prim.Native.Nat.{ℕ, ◌+◌, ◌*◌, ◌≤◌}
use lib.ListN.{length, replicate}
use native.Mathlib.Omega.{arith}
use Rattle.chars.specs.declared.Answer as chars
use Rattle.tokens.specs.Results.{Whole}
use Rattle.tokens.specs.Tokens.{whole_of, refusal}
use Rattle.grammar.specs.Grammar.{Token, found, Parts}
use Rattle.grammar.specs.Readings.{Text}
use Rattle.grammar.specs.Rows.{rows}
use Rattle.grammar.specs.Language.{roto, goal}
use Rattle.grammar.proofs.Demand.{row_bound, an_answer}
use Rattle.answers.specs.Source.{source}
use Rattle.answers.specs.Entries.{answer_for, table_for, Permitted, early, read}
use Rattle.answers.proofs.Ahead.{ahead, tokens_take, pieces_take}

module _ (tests tree : Bool) (s : List ℕ) where
  -- at most 1.5 rows a byte and one more
  pub rows_bound : {p : Parts} → Text (source s) (roto tests) (goal tree) 0 p → 2 * length (rows tree (length s) p) ≤ 3 * length s + 2
  rows_bound x = let h = row_bound (source s) tests tree (length s) (ahead s) (tokens_take s) (pieces_take s) x in omega arith

  -- 98,304 rows serve any source
  pub rows_fit : {p : Parts} → Text (source s) (roto tests) (goal tree) 0 p → length s ≤ 65535 → length (rows tree (length s) p) ≤ 98304
  rows_fit x h = let k = rows_bound x in omega arith

  -- every source has an answer, and by `one_permitted` no other
  pub a_permitted : (size : ℕ) → (a : chars.Answer) × (t : List ℕ) × Permitted tests tree s size a t
  a_permitted size = go (whole_of s) refl
    where
      kept_back : (x : Token) (i j : ℕ) → (source s).piece i ≡ found x j → ahead s j ≤ ahead s i
      kept_back x i j e = let q = pieces_take s x i j e in omega arith

      go : (w : Whole) → whole_of s ≡ w → (a : chars.Answer) × (t : List ℕ) × Permitted tests tree s size a t
      go (Err r) e = (refusal r, replicate size 0, early e)
      go (Ok tt) e = let g = an_answer (source s) tests tree (length s) (ahead s) (tokens_take s) kept_back 0 in (answer_for (length s) size g.0, table_for size g.0, read e g.1)
