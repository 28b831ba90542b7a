-- Demands 1 and 3, in document 01's words, of what the entry points (a) and (b) promise: `Permitted`.
-- `tree`: (a), else (b); `tests`: whether `test` is a declaration; `size`: how many numbers the lent table has.
-- C-22: "Demand 3 has then two grammars, old and new": `Demand3 true` and `Demand3 false`. (a) and (b) promise `Permitted false`, the check of C-21 `Permitted true`.
use Rattle.std.specs.Prelude.{◌≡◌, List, ◌++◌, Bool, true, false, ◌≢◌, ℕ, ◌+◌, ◌-◌, ◌*◌, ◌≤◌, ◌<◌, length, replicate}
use Rattle.chars.specs.declared.Answer.{Answer}
use Rattle.chars.specs.Chars.{byte_at}
use Rattle.grammar.specs.Grammar.{over, Parts}
use Rattle.grammar.specs.Limits.{zeros}
use Rattle.grammar.specs.Readings.{ReadingBy, Text}
use Rattle.rows.specs.Rows.{width}
use Rattle.grammar.specs.Rows.{flat, rows, nodes}
use Rattle.grammar.specs.Language.{roto, goal, start}
use Rattle.grammar.specs.Culprit.{any}
use Rattle.answers.specs.Source.{source}
use Rattle.answers.specs.Entries.{room, Permitted}

-- The source has the reading p: it is one phrase to its end, "its literals hold and no limit is passed".
abbrev pub Reading : Bool → Bool → List ℕ → Parts → Type 0
Reading tests tree s p = Text (source s) (roto tests) (goal tree) 0 p

-- The source has the reading p by the rules alone: whatever its literals say, and whatever limit it passes.
pub record ByRules (tests tree : Bool) (s : List ℕ) (p : Parts) : Type 0 where
  pub stop : ℕ
  pub reads : ReadingBy (source s) (roto tests) any zeros (start tree) 0 stop p
  pub whole : (source s).look stop ≡ over

-- The rows of a reading, and how many nodes it has: (a) has one for the tree itself.
abbrev pub rows_of : Bool → List ℕ → Parts → List Rattle.grammar.specs.Rows.Row
rows_of tree s p = rows tree (length s) p

abbrev pub itself : Bool → ℕ
itself true = 1
itself false = 0

-- Demand 1: "Every text gets an answer, and no caller has to check anything first. A refusal is one of document 01's
-- numbers with its place, and leaves every lent table filled with zeros." Any bytes, any table.
pub record Demand1 (tests tree : Bool) (s : List ℕ) (size : ℕ) : Type 0 where
  pub some_answer : (a : Answer) × (t : List ℕ) × Permitted tests tree s size a t
  pub no_other : {a b : Answer} {t u : List ℕ} → Permitted tests tree s size a t → Permitted tests tree s size b u → (a ≡ b) × (t ≡ u)
  pub in_the_table : {a : Answer} {t : List ℕ} → Permitted tests tree s size a t → a.number ≤ 11
  pub refused_zeros : {a : Answer} {t : List ℕ} → Permitted tests tree s size a t → a.number ≢ 0 → t ≡ replicate size 0

-- Demand 3: "Over bytes below 128, and given room, a text is accepted exactly when it has a reading under 01's grammar, its
-- literals hold and no limit is passed. There is one reading, and the table handed back is that one." "A source is 0 to 65,535
-- bytes." No other reading is there by the rules alone. The count is the number of the reading's nodes.
pub record Demand3 (tests tree : Bool) (s : List ℕ) (size : ℕ) : Type 0 where
  pub only_readings : {a : Answer} {t : List ℕ} → Permitted tests tree s size a t → a.number ≡ 0 → (p : Parts) × Reading tests tree s p
  pub all_readings : {a : Answer} {t : List ℕ} {p : Parts} → Permitted tests tree s size a t → length s ≤ 65535 → ((at : ℕ) → at < length s → byte_at s at < 128) → Reading tests tree s p → length (rows_of tree s p) ≤ room size → a.number ≡ 0
  pub by_the_rules : {p : Parts} → Reading tests tree s p → ByRules tests tree s p
  pub one_reading : {p q : Parts} → Reading tests tree s p → ByRules tests tree s q → p ≡ q
  pub its_table : {a : Answer} {t : List ℕ} {p : Parts} → Permitted tests tree s size a t → a.number ≡ 0 → Reading tests tree s p → t ≡ flat (rows_of tree s p) ++ replicate (size - width * length (rows_of tree s p)) 0
  pub its_count : {a : Answer} {t : List ℕ} {p : Parts} → Permitted tests tree s size a t → a.number ≡ 0 → Reading tests tree s p → a.count ≡ nodes p + itself tree
