use mathlib.Core.Path.{refl, ap, ◌≡◌, ◌∙◌}
use mathlib.Core.List.{◌∷◌, []}
use Prim.Native.Nat.{ℕ, ◌+◌, ◌*◌}
use native.Mathlib.Omega.{arith}
use lib.Seq.{sets}
use Rattle.sheets.specs.Files.{words}
use Rattle.sheets.proofs.Named.{walk_count}
use Rattle.sheets.proofs.Stores.{no_words, index_before, put_longer}
use Rattle.sheets.proofs.Firsts.{begun_at, one_back, number_back, walks, all_indexes}
use Rattle.sheets.proofs.put_indexes.Goals as goal

pub loop-i-init : goal.loop-i-init
loop-i-init c =
    let b = c.of-i-items.ensures.1 c.requires.0 in
    let r = begun_at c.requires.0 c.of-i-items.ensures.0 b in
    rw c.into_iter-i-iterator.ensures.into_iter_gives (walks c.requires.0 c.of-i-items.ensures.0 b, tt, c.requires.0, [], r, no_words c.args.file.now [] 4 _, c.requires.1, refl)

pub overflow_mul-i : goal.overflow_mul-i
overflow_mul-i c = let b = number_back _ _ _ _ _ _ c.in-Some.ensures.steps.1 in let w = walk_count c.loop-i.invariant.4.walk in omega (arith, b.0, w, c.loop-i.invariant.6)

pub overflow_add-at : goal.overflow_add-at
overflow_add-at c = let b = number_back _ _ _ _ _ _ c.in-Some.ensures.steps.1 in let w = walk_count c.loop-i.invariant.4.walk in omega (arith, b.0, w, c.loop-i.invariant.6)

pub put_short-requires : goal.put_short-requires
put_short-requires c = let b = number_back _ _ _ _ _ _ c.in-Some.ensures.steps.1 in let w = walk_count c.loop-i.invariant.4.walk in omega (arith, b.0, w, c.loop-i.invariant.6, c.loop-i.invariant.7)

pub loop-i-preserved : goal.loop-i-preserved
loop-i-preserved c =
    let s = c.in-Some.ensures.steps in
    let b = number_back _ _ _ _ _ _ s.1 in
    let l = c.loop-i.invariant in
    let f : c.put_short.new.b ≡ sets c.args.file.now (c.args.at + c.in-Some.i * 4) (words 4 (c.in-Some.row ∷ l.3)) = index_before 4 c.args.file.now _ _ c.args.at _ _ _ _ b.0 l.5 c.put_short.ensures in
    (c.in-Some.ensures.goes.keeps, tt, l.2, _ ∷ l.3, one_back l.4 s, f ∙ ap (λ (n : ℕ). sets c.args.file.now (c.args.at + n * 4) (words 4 (c.in-Some.row ∷ l.3))) b.1, l.6, put_longer 4 _ _ _ _ c.put_short.ensures ∙ l.7)

pub returns : goal.returns
returns c = λ d. let l = c.loop-i.invariant in let e = c.in-None.ensures.steps.1 in all_indexes c.args.file.now c.args.at _ _ _ _ l.2 d (omega (arith, e)) l.4.walk l.5
