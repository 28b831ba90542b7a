-- What a test of two parts says of each.
use mathlib.Core.Path.{◌≡◌, refl}
use mathlib.Core.Bool.{Bool, true, false, not, ◌&&◌, ◌||◌}
use mathlib.Core.Logic.{◌⊎◌, inl, inr}
use lib.Dec.{T}

pub and_l : (a b : Bool) → T (a && b) → T a
and_l true b t = tt
and_l false b t = t

pub and_r : (a b : Bool) → T (a && b) → T b
and_r true b t = t
and_r false b t = absurd t

pub or_l : (a b : Bool) → T a → T (a || b)
or_l true b t = tt
or_l false b t = absurd t

pub or_r : (a b : Bool) → T b → T (a || b)
or_r true b t = tt
or_r false b t = t

pub or_cases : (a b : Bool) → T (a || b) → T a ⊎ T b
or_cases true b t = inl tt
or_cases false b t = inr t

pub T→eq : (b : Bool) → T b → b ≡ true
T→eq true t = refl
T→eq false t = absurd t

pub F→eq : (b : Bool) → (T b → ⊥) → b ≡ false
F→eq true t = absurd (t tt)
F→eq false t = refl

pub both : (a b : Bool) → T a → T b → T (a && b)
both true b t u = u
both false b t u = t

pub implied : (a b : Bool) → T (not a || b) → T a → T b
implied true b t u = t
implied false b t u = absurd u
