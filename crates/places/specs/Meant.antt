-- What the numbers of a place and of a row mean in the print's definition (canon/specs/Layout.antt). Not to be believed: only contracts inside the printer cite it.
use Rattle.std.specs.Prelude.{List, [], ◌∷◌, cond, ℕ, eqb}
use Rattle.grammar.specs.Words.{open_brace, four_words}
use Rattle.canon.specs.Trees.{Label}
use Rattle.canon.specs.Layout as canon
use Rattle.places.specs.declared.Mark.{Mark}
use Rattle.places.specs.declared.Place.{Place}
use Rattle.places.specs.declared.Unless.{Unless}
use Rattle.places.specs.declared.Unless.TheVariants.{Nothing, Four, Brace}

-- with what nothing may begin
abbrev pub unless_of : Unless → List ℕ
unless_of Nothing = []
unless_of Four = four_words
unless_of Brace = open_brace ∷ []

-- the same by its number
abbrev pub unless_in : ℕ → Unless
unless_in u = cond (eqb u 1) Four (cond (eqb u 2) Brace Nothing)

abbrev pub meant : Place → canon.Place
meant c = record { level = c.level; records = c.records; path = c.path; unless = unless_of c.unless; more = c.more }

-- a row's numbers, its text set aside
abbrev pub mark : Mark → Label
mark m = record { kind = m.kind; value = m.value; detail = m.detail; text = [] }
