use mathlib.Core.Path.{sym, ap, ◌∙◌}
use mathlib.Core.List.{List}
use native.Mathlib.Omega.{arith}
use Prim.Native.Nat.{ℕ}
use Rattle.grammar.specs.Rows.{Row}
use Rattle.canon.specs.Text.{copy}
use Rattle.grammar.specs.Grammar.{one_of}
use Rattle.canon.specs.Trees.{copied}
use Rattle.sink.specs.Told.{state, tell}
use Rattle.places.specs.Meant.{meant}
use Rattle.setter.specs.Waiting.{text_at}
use Rattle.setter.proofs.Turns.{fits_so, takes_words, open_fits, takes_copy, takes_open}
use Rattle.setter.proofs.take_turn.Goals as goal

pub overflow_mul-number : goal.overflow_mul-number
overflow_mul-number c = let e = (fits_so c.args.s.now c.args.rows.now c.args.plan.now c.args.top c.requires).entry in omega (arith, e)

pub offset_bounds-plan-top : goal.offset_bounds-plan-top
offset_bounds-plan-top c = let e = (fits_so c.args.s.now c.args.rows.now c.args.plan.now c.args.top c.requires).entry in omega (arith, e)

pub bounds-plan-top : goal.bounds-plan-top
bounds-plan-top c = let e = (fits_so c.args.s.now c.args.rows.now c.args.plan.now c.args.top c.requires).entry in omega (arith, e)

pub overflow_mul-what : goal.overflow_mul-what
overflow_mul-what c = let e = (fits_so c.args.s.now c.args.rows.now c.args.plan.now c.args.top c.requires).entry in omega (arith, e)

pub overflow_add-what : goal.overflow_add-what
overflow_add-what c = let e = (fits_so c.args.s.now c.args.rows.now c.args.plan.now c.args.top c.requires).entry in omega (arith, e)

pub offset_bounds-plan-top-2 : goal.offset_bounds-plan-top-2
offset_bounds-plan-top-2 c = let e = (fits_so c.args.s.now c.args.rows.now c.args.plan.now c.args.top c.requires).entry in omega (arith, e)

pub bounds-plan-top-2 : goal.bounds-plan-top-2
bounds-plan-top-2 c = let e = (fits_so c.args.s.now c.args.rows.now c.args.plan.now c.args.top c.requires).entry in omega (arith, e)

pub needs_pair-pair-requires : goal.needs_pair-pair-requires
needs_pair-pair-requires c = (fits_so c.args.s.now c.args.rows.now c.args.plan.now c.args.top c.requires).row

pub returns-then-number-eq0 : goal.returns-then-number-eq0
returns-then-number-eq0 c = takes_words c.args.s.now c.args.rows.now c.args.plan.now c.args.text.now _ c.args.top c.args.sink.now c.words.new.self c.needs_pair-pair.result c.words.ensures c.if-number-eq0.true (c.needs_pair-pair.ensures.0 c.if-number-eq0.true)

pub row_at-row-requires : goal.row_at-row-requires
row_at-row-requires c = let e = (fits_so c.args.s.now c.args.rows.now c.args.plan.now c.args.top c.requires).row in let n = c.if-number-eq0.false in omega (arith, e, n)

pub close-requires : goal.close-requires
close-requires c = let e = (fits_so c.args.s.now c.args.rows.now c.args.plan.now c.args.top c.requires).entry in omega (arith, e)

pub returns-then-is_copied : goal.returns-then-is_copied
returns-then-is_copied c =
    let k = ap (λ (r : Row). one_of r.kind copied) c.row_at-row.ensures in
    let t = ap (λ (r : Row). tell (state c.words.new.text c.words.new.self) (copy (text_at c.args.s.now r))) c.row_at-row.ensures in
    takes_copy c.args.s.now c.args.rows.now c.args.plan.now c.args.text.now _ c.args.top c.args.sink.now c.words.new.self c.needs_pair-pair.result c.words.ensures _ c.close.result (let n = c.if-number-eq0.false in omega (arith, n)) c.needs_pair-pair.ensures.1 c.close.ensures.0 _ c.copy.new.self (sym k ∙ sym c.is_copied.ensures ∙ c.if-is_copied.true) (c.copy.ensures ∙ ap (λ (l : List ℕ). tell (state c.words.new.text c.words.new.self) (copy l)) c.copied_text.ensures ∙ t) c.close.ensures.1

pub open-requires : goal.open-requires
open-requires c =
    let o = open_fits c.args.s.now c.args.rows.now c.args.plan.now c.args.text.now _ c.args.top c.args.sink.now c.words.new.self c.needs_pair-pair.result c.words.ensures c.requires (let n = c.if-number-eq0.false in omega (arith, n)) in
    record { row_in_bounds = (let e = (fits_so c.args.s.now c.args.rows.now c.args.plan.now c.args.top c.requires).row in let n = c.if-number-eq0.false in omega (arith, e, n)); backs = o.0; row_in_bounds_2 = o.1 }

pub returns : goal.returns
returns c =
    let k = ap (λ (r : Row). one_of r.kind copied) c.row_at-row.ensures in
    takes_open c.args.s.now c.args.rows.now c.args.plan.now c.args.text.now _ c.args.top c.args.sink.now c.words.new.self c.needs_pair-pair.result c.words.ensures _ c.open.result (let n = c.if-number-eq0.false in omega (arith, n)) c.needs_pair-pair.ensures.1 c.open.ensures.0 (meant c.place_of.result) (sym k ∙ sym c.is_copied.ensures ∙ c.if-is_copied.false) c.place_of.ensures c.open.ensures.1
