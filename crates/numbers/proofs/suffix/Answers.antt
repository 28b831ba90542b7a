use Rattle.std.proofs.Common.{rules, ◌≡◌, ℕ, List, map, length, refl, sym, ap, Bor}
use Rattle.std.specs.Prelude.{position, unwrap_or}
use Rattle.std.specs.Slice.Iter.{iter_rest}
use Rattle.std.proofs.lemmas.Iterator.{YieldsList-from_slice}
use Rattle.std.proofs.lemmas.Iterator.Search.{position_from_yields_List}
use borrow.Author.Tests.{tests}
use Rattle.chars.specs.Texts.{same, bytes}
use Rattle.numbers.proofs.Numbers.{suffix_is}
use Rattle.numbers.proofs.suffix.Goals as goal

pub returns : goal.returns
unfolding bytes
returns c =
    let found : c.position-number.result ≡ position (λ (u : Bor (List ℕ)). same c.args.t.now u.now) (iter_rest c.iter.result) =
    position_from_yields_List (λ (u : Bor (List ℕ)). same c.args.t.now u.now) _ _ c.position-number.result c.position-number.ensures.ran (YieldsList-from_slice (iter_rest c.iter.result) refl) (λ x b q k. search (rules, tests)) in
    let number : c.unwrap_or.result ≡ unwrap_or c.position-number.result 11 = c.unwrap_or.ensures in
    suffix_is c.args.t.now (iter_rest c.iter.result) (ap (map (λ (u : Bor (List ℕ)). u.now)) c.iter.ensures.rest) found (sym (ap length c.iter.ensures.rest)) number
