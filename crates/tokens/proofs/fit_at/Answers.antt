use mathlib.Core.Path.{◌∙◌, ap, sym}
use mathlib.Core.Bool.{◌||◌}
use lib.Dec.{eqb}
use Rattle.chars.specs.Chars.{is_digit}
use Rattle.tokens.specs.Rules.{token_at, is_name_start}
use Rattle.tokens.proofs.Fits.{so, found}
use Rattle.tokens.proofs.Firsts.{told, quote_low, quote_read, by_letter, by_digit, by_quote, by_sign}
use Rattle.tokens.proofs.fit_at.Goals as goal

pub returns-in-Some : goal.returns-in-Some
unfolding token_at
returns-in-Some c = found _ c.address-fit.ensures c.in-Some.is _ _

pub returns-then-is_name_start : goal.returns-then-is_name_start
returns-then-is_name_start c = by_letter _ _ (so c.address-fit.ensures c.in_default.is) (told is_name_start c.byte_at-b.ensures c.is_name_start.ensures c.if-is_name_start.true) c.letters.ensures

pub returns-then-is_digit : goal.returns-then-is_digit
returns-then-is_digit c =
    by_digit _ _ (so c.address-fit.ensures c.in_default.is)
    (told is_name_start c.byte_at-b.ensures c.is_name_start.ensures c.if-is_name_start.false)
    _ (told is_digit c.byte_at-b.ensures c.is_digit.ensures c.if-is_digit.true) c.figures.ensures

pub text-requires : goal.text-requires
text-requires c = quote_low _ c.if-b.true

pub returns-then-b : goal.returns-then-b
returns-then-b c =
    let read = c.byte_at-b.ensures in
    by_quote _ _ (so c.address-fit.ensures c.in_default.is)
    (told is_name_start read c.is_name_start.ensures c.if-is_name_start.false)
    (told is_digit read c.is_digit.ensures c.if-is_digit.false)
    (ap (λ b. eqb b 34 || eqb b 39) (sym read) ∙ c.if-b.true) (quote_read c.args.s.now c.args.at read c.text.ensures)

pub returns : goal.returns
returns c =
    let read = c.byte_at-b.ensures in
    by_sign _ _ (so c.address-fit.ensures c.in_default.is)
    (told is_name_start read c.is_name_start.ensures c.if-is_name_start.false)
    (told is_digit read c.is_digit.ensures c.if-is_digit.false)
    _ (ap (λ b. eqb b 34 || eqb b 39) (sym read) ∙ c.if-b.false) c.signs.ensures
