-- C-23: "On a refusal from 4 to 9 or 11, drop the bytes from the first of the declaration it falls in, or of the refused token where none
-- has begun, to just before the next line, starting at or after the refusal's place and after that first byte, that begins, at column 0, with
-- the whole word `const`, `fn`, `filter`, `filtermap` or `import`, or to the end, and go on. List each dropped range with its refusal."
-- `tests`: whether `test` is a declaration.
use Rattle.std.specs.Prelude.{Some, None, ◌≡◌, List, [], ◌∷◌, ◌++◌, Bool, true, false, ◌&&◌, ◌||◌, cond, ℕ, zero, suc, ◌+◌, ◌-◌, eqb, ltb, length, take, drop, replicate}
use Rattle.chars.specs.Chars.{byte_at}
use Rattle.tokens.specs.Results.{Fit}
use Rattle.tokens.specs.Rules.{name_at}
use Rattle.grammar.specs.Words.{'const', 'fn', 'import', filter_words}
use Rattle.grammar.specs.Grammar.{one_of}
use Rattle.grammar.specs.Language.{roto}
use Rattle.grammar.specs.Refusals.{Refusal}
use Rattle.answers.specs.Source.{source}
use Rattle.keeping.specs.Kept.{Ends}
use Rattle.keeping.specs.Breaks.{Breaks}

-- "the whole word `const`, `fn`, `filter`, `filtermap` or `import`": letters, digits and `_` up to another byte
abbrev pub line_words : List ℕ
line_words = 'const' ∷ 'fn' ∷ 'import' ∷ filter_words

abbrev pub is_line_word : Fit → Bool
is_line_word (Some (e, w)) = one_of w line_words
is_line_word None = false

-- "at column 0": at the start, or behind byte 10
abbrev pub at_column : List ℕ → ℕ → Bool
at_column s i = eqb i 0 || eqb (byte_at s (i - 1)) 10

-- a line "that begins, at column 0, with" one of them. Only bytes are asked, not what they mean there.
unfoldable pub line_at : List ℕ → ℕ → Bool
line_at s i = at_column s i && is_line_word (name_at s i)

-- "the next line .. or to the end": the first of n places from i on where one begins, or the end
unfoldable pub line_from : ℕ → List ℕ → ℕ → ℕ
line_from zero s i = length s
line_from (suc n) s i = elim (line_at s i) [ true ↦ i | false ↦ line_from n s (i + 1) ]

unfoldable pub next_line : List ℕ → ℕ → ℕ
next_line s i = line_from (length s - i) s i

-- "starting at or after the refusal's place and after that first byte": the later of the place's start and the byte behind the first
abbrev pub search_from : ℕ → Refusal → ℕ
search_from first r = cond (ltb first r.start) r.start (first + 1)

-- where a range that begins at `first` and is dropped for r ends
abbrev pub end_of : List ℕ → ℕ → Refusal → ℕ
end_of s first r = next_line s (search_from first r)

abbrev pub space : ℕ
space = 32

-- "when the dropped bytes are replaced by spaces"
unfoldable pub blanked : List ℕ → ℕ → ℕ → List ℕ
blanked s from to = take from s ++ (replicate (to - from) space ++ drop to s)

-- "List each dropped range with its refusal."
pub record Range : Type 0 where
  pub start : ℕ
  pub end : ℕ
  pub refusal : Refusal

abbrev pub range : ℕ → ℕ → Refusal → Range
range from to r = record { start = from; end = to; refusal = r }

-- `Salvage tests s i rs t`: reading s from place i on, up to what is refused; dropping that; and reading again from the next line on; drops the
-- ranges rs and leaves the text t, in which they are spaces.
pub data Salvage (tests : Bool) : List ℕ → ℕ → List Range → List ℕ → Type 0 where
  whole : {s : List ℕ} {i : ℕ} → Ends (source s) (roto tests) i → Salvage tests s i [] s
  drops : {s t : List ℕ} {i first : ℕ} {r : Refusal} {rs : List Range} → Breaks tests s i first r → Salvage tests (blanked s first (end_of s first r)) (end_of s first r) rs t → Salvage tests s i (range first (end_of s first r) r ∷ rs) t
