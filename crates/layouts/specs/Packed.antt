-- Words in one number (as sink/specs/Told.antt's `said` reads them), and a place with the words before it in one number. Not to be believed: only contracts inside the printer cite it.
use Rattle.std.specs.Prelude.{List, [], ◌∷◌, ℕ, ◌+◌, ◌*◌, ◌/◌, ◌%◌, eqb}
use Rattle.canon.specs.Layout as canon
use Rattle.places.specs.Meant.{unless_in, unless_of}

-- words, and behind them what another number says
unfoldable pub packed : List ℕ → ℕ → ℕ
packed [] n = n
packed (w ∷ ws) n = (w + 1) + 128 * packed ws n

-- more than any number of three words
abbrev pub past_three : ℕ
past_three = 2097152

unfoldable pub place_in : ℕ → canon.Place
place_in n =
    let c = n / past_three in
    record { level = c % 8; records = eqb (c / 8 % 2) 1; path = eqb (c / 16 % 2) 1; unless = unless_of (unless_in (c / 64 % 4)); more = eqb (c / 32 % 2) 1 }
