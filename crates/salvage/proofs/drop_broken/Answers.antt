use native.Mathlib.Omega.{arith}
use mathlib.Core.Path.{◌≡◌, refl, ap, ◌∙◌}
use Prim.Native.Nat.{◌-◌}
use lib.ListN.{length}
use Rattle.salvage.specs.Salvage.{next_line}
use Rattle.salvage.specs.Steps.{Drops}
use Rattle.salvage.specs.Rows.{Upto}
use borrow.Author.Rules.{rules}
use Rattle.salvage.proofs.Drops.{none_dropped, all_dropped, lies, one_dropped, ended, broke}
use Rattle.salvage.proofs.Next.{first_upto, next_upto}
use Rattle.salvage.proofs.drop_broken.Goals as goal

pub loop-first-init : goal.loop-first-init
loop-first-init c = (none_dropped _ _, first_upto _ _ c.requires.1, refl)

pub read_on-r-requires : goal.read_on-r-requires
read_on-r-requires c = (omega (arith, c.requires.0, c.loop-first.invariant.0.text), c.loop-first.invariant.1)

pub returns-in_default : goal.returns-in_default
returns-in_default c = let e = ended c.read_on-r.ensures c.in_default.is in (all_dropped c.loop-first.invariant.0 e.0, e.1, c.read_on-r.ensures.long ∙ c.loop-first.invariant.2)

pub search_from-requires : goal.search_from-requires
search_from-requires c = let l = lies c.loop-first.invariant.0 _ (broke c.read_on-r.ensures c.in-Some.is).0 refl in let a = l.1 in let b = l.2 in omega (arith, a, b, c.requires.0, c.loop-first.invariant.0.text)

pub blank-requires : goal.blank-requires
blank-requires c = let l = lies c.loop-first.invariant.0 _ (broke c.read_on-r.ensures c.in-Some.is).0 (c.next_line-line.ensures ∙ ap (next_line _) c.search_from.ensures) in let a = l.1 in (omega (arith, a), l.2)

pub overflow_add-count : goal.overflow_add-count
overflow_add-count c = omega (arith, c.loop-first.invariant.0.few, c.loop-first.invariant.0.inside, c.loop-first.invariant.0.text, c.requires.0)

pub loop-first-smaller : goal.loop-first-smaller
loop-first-smaller c = let l = lies c.loop-first.invariant.0 _ (broke c.read_on-r.ensures c.in-Some.is).0 (c.next_line-line.ensures ∙ ap (next_line _) c.search_from.ensures) in let a = l.0 in let b = l.1 in let d = l.2 in omega (arith, a, b, d, c.loop-first.invariant.0.text)

pub loop-first-preserved : goal.loop-first-preserved
loop-first-preserved c = let b = broke c.read_on-r.ensures c.in-Some.is in (one_dropped c.loop-first.invariant.0 _ b.0 (c.next_line-line.ensures ∙ ap (next_line _) c.search_from.ensures) c.blank.ensures c.note.ensures, next_upto _ b.0 b.1 (c.next_line-line.ensures ∙ ap (next_line _) c.search_from.ensures) c.blank.ensures, c.read_on-r.ensures.long ∙ c.loop-first.invariant.2)
