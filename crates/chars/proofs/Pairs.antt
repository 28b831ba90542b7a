-- What a pair in an Option or a Result says of its parts: `cc` looks into constructors, and a pair has none.
use Rattle.std.specs.Prelude.{◌≡◌, Option, Some, Result, Ok}
use mathlib.Core.Path.{ap}

pub some_pair : {A B : Type 0} {a c : A} {b d : B} → ◌≡◌ {A = Option (A × B)} (Some (a, b)) (Some (c, d)) → (a ≡ c) × (b ≡ d)
some_pair {A} {B} {a} {c} {b} {d} e = let u : ◌≡◌ {A = A × B} (a, b) (c, d) = cc in (ap (λ (p : A × B). p.0) u, ap (λ (p : A × B). p.1) u)

pub ok_pair : {A B E : Type 0} {a c : A} {b d : B} → ◌≡◌ {A = Result (A × B) E} (Ok (a, b)) (Ok (c, d)) → (a ≡ c) × (b ≡ d)
ok_pair {A} {B} {E} {a} {c} {b} {d} e = let u : ◌≡◌ {A = A × B} (a, b) (c, d) = cc in (ap (λ (p : A × B). p.0) u, ap (λ (p : A × B). p.1) u)
