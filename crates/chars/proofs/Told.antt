-- An answer that is the promised case says the promised numbers.
use mathlib.Core.Path.{◌≡◌, ap}

pub told : {A B : Type 0} (f : A → B) {x y : A} → x ≡ y → (x ≡ y) × (f x ≡ f y)
told f e = (e, ap f e)
