-- C-17: the answer to the bytes of one float literal.
use Rattle.std.specs.Prelude.{Some, None, Ok, Err, ◌≡◌, ℕ, List, Bool, true, false, ◌&&◌, cond, length, eqb, ltb}
use Rattle.rows.specs.Kinds as kinds
use Rattle.tokens.specs.Results.{Step}
use Rattle.tokens.specs.Tokens.{step_at}
use Rattle.tokens.specs.Words.{code_of}
use Rattle.values.specs.Results.{Worth}
use Rattle.values.specs.Literals.{literal_of}
use Rattle.floats.specs.declared.Width.{Width}
use Rattle.floats.specs.Nearest.{Nearest, format_of}
use Rattle.literals.specs.Results.{Alone}
use Rattle.literals.specs.declared.Answer.{Answer}
use Rattle.literals.specs.Decimals.{numerator, denominator, few}

-- the row of a token that is the whole text
unfoldable pub row_for : List ℕ → Step → Worth
row_for text (Ok (w, a, next)) = cond (eqb a 0 && eqb next.at (length text)) (literal_of (code_of w) text) None
row_for text (Err r) = None

-- "the bytes of one float literal": the lexer's token at their front is all of them
unfoldable pub row_of : List ℕ → Worth
row_of text = row_for text (step_at text 0)

-- "11 float (detail 0, 9 f32, 10 f64)": "An `f32` suffix gives the 32 bits"
unfoldable pub width_of : ℕ → Width
width_of detail = cond (eqb detail 9) Width.F32 Width.F64

unfoldable pub float_row : Worth → Alone
float_row (Some x) = cond (eqb x.kind kinds.FLOAT) (Some (width_of x.detail)) None
float_row None = None

-- one float with a value, of a width; no source is longer than 65,535 bytes, and no literal
unfoldable pub alone_of : List ℕ → Alone
alone_of text = cond (ltb 65535 (length text)) None (float_row (row_of text))

-- how many bits a width has
abbrev pub size_of : Width → ℕ
size_of Width.F32 = 32
size_of Width.F64 = 64

-- "both placed at the token"
abbrev pub refusal : ℕ → List ℕ → Answer
refusal number text = record { number = number; start = 0; end = length text; width = 0; bits = 0 }

-- "0: accepted: 0, length", and the bits of the float of that width that is nearest to the decimal itself
pub record Accepted (w : Width) (text : List ℕ) (a : Answer) : Type 0 where
  pub number : a.number ≡ 0
  pub start : a.start ≡ 0
  pub end : a.end ≡ length text
  pub width : a.width ≡ size_of w
  pub nearest : Nearest (format_of w) (numerator text) (denominator text) a.bits

-- "14, too many digits"
abbrev pub Counted : Bool → Width → List ℕ → Answer → Type 0
Counted true w text a = Accepted w text a
Counted false w text a = a ≡ refusal 14 text

-- "7 where the bytes aren't one float with a value, before new 14"
abbrev pub Says : Alone → List ℕ → Answer → Type 0
Says (Some w) text a = Counted (few text) w text a
Says None text a = a ≡ refusal 7 text

-- The answers to these bytes: there is one, and only one (proofs/Answered.antt: `an_answer`, `one_answer`).
unfoldable pub Permitted : List ℕ → Answer → Type 0
Permitted text a = Says (alone_of text) text a
