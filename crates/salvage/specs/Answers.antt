-- C-23: the complete answer, and what then stands in the lent source and in the two lent tables. "Refusals: 1, 2, 3 stop the tool; 10 covers
-- rows and ranges, rows counted first."
use Rattle.std.specs.Prelude.{Ok, Err, ◌≡◌, List, [], ◌∷◌, ◌++◌, Bool, true, ℕ, ◌-◌, ◌*◌, ◌/◌, ◌≤◌, ◌<◌, length, replicate}
use Rattle.chars.specs.declared.Answer.{Answer}
use Rattle.tokens.specs.declared.Refusal as lexer
use Rattle.tokens.specs.Tokens.{whole_of, refusal}
use Rattle.answers.specs.Entries.{Permitted}
use Rattle.salvage.specs.Salvage.{Range, Salvage}

-- The numbers of a range: its first byte and its end, and its refusal's number and place.
abbrev pub range_width : ℕ
range_width = 5

abbrev pub room_for : ℕ → ℕ
room_for size = size / range_width

abbrev pub flat_ranges : List Range → List ℕ
flat_ranges [] = []
flat_ranges (r ∷ rs) = r.start ∷ r.end ∷ r.refusal.number ∷ r.refusal.start ∷ r.refusal.end ∷ flat_ranges rs

-- "10: needs more room": 0, 0, and the ranges needed
abbrev pub many_ranges : List Range → Answer
many_ranges rs = record { number = 10; start = 0; end = 0; count = length rs }

-- What may be answered to the source s, with how many ranges; and what then stands in the lent source, in a lent table of `size` numbers for
-- the rows and in one of `size'` numbers for the ranges. The rows are those of (a) for the text that is left, so that "what is kept" is
-- "exactly the declarations as a fresh read gives them". Refused: both tables zeros throughout.
pub data Salvages (tests : Bool) (s : List ℕ) (size size' : ℕ) : Answer → ℕ → List ℕ → List ℕ → List ℕ → Type 0 where
  early : {r : lexer.Refusal} → whole_of s ≡ Err r → Salvages tests s size size' (refusal r) 0 s (replicate size 0) (replicate size' 0)
  many_rows : {rs : List Range} {t u : List ℕ} {x : Answer} → whole_of s ≡ (Ok tt) → Salvage tests s 0 rs t → Permitted tests true t size x u → x.number ≡ 10 → Salvages tests s size size' x 0 t (replicate size 0) (replicate size' 0)
  many_ranges_lem : {rs : List Range} {t u : List ℕ} {x : Answer} → whole_of s ≡ (Ok tt) → Salvage tests s 0 rs t → Permitted tests true t size x u → x.number ≡ 0 → room_for size' < length rs → Salvages tests s size size' (many_ranges rs) 0 t (replicate size 0) (replicate size' 0)
  accepts : {rs : List Range} {t u : List ℕ} {x : Answer} → whole_of s ≡ (Ok tt) → Salvage tests s 0 rs t → Permitted tests true t size x u → x.number ≡ 0 → length rs ≤ room_for size' → Salvages tests s size size' x (length rs) t u (flat_ranges rs ++ replicate (size' - range_width * length rs) 0)
