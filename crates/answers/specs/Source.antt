-- The bytes of a source as the grammar reads them: a place is a byte, and what stands there is what the lexer says.
use Rattle.std.specs.Prelude.{Some, None, Ok, Err, List, Bool, true, false, ℕ, ◌+◌, eqb}
use Rattle.std.proofs.Math.Seq.{slice}
use Rattle.tokens.specs.declared.Refusal.{Refusal}
use Rattle.tokens.specs.Results.{Step}
use Rattle.tokens.specs.Words.{code_of}
use Rattle.tokens.specs.Tokens.{step_at}
use Rattle.strings.specs.Results.{Size}
use Rattle.texts.specs.Results.{Scanned}
use Rattle.texts.specs.declared.Part.{Part}
use Rattle.texts.specs.declared.Part.TheVariants.{Before, Ends}
use Rattle.texts.specs.Parts.{part_at}
use Rattle.texts.specs.Texts.{text_of}
use Rattle.values.specs.Results.{Worth}
use Rattle.values.specs.Literals.{literal_of}
use Rattle.grammar.specs.Words.{f_quote, text_then_hole, last_text}
use Rattle.grammar.specs.Grammar.{Token, Look, found, over, wrong, Stream}

-- What a literal says: whether it has a value ("7: literal without a value"), and its row's kind, value and detail.
abbrev pub holds : Worth → Bool
holds (Some x) = true
holds None = false

abbrev pub kind_of : Worth → ℕ
kind_of (Some x) = x.kind
kind_of None = 0

abbrev pub value_of : Worth → ℕ
value_of (Some x) = x.value
value_of None = 0

abbrev pub detail_of : Worth → ℕ
detail_of (Some x) = x.detail
detail_of None = 0

-- The token of a word, with its bytes and what it says as a literal.
abbrev pub token_for : ℕ → ℕ → ℕ → Worth → Token
token_for w a e l = record { word = w; start = a; end = e; holds = holds l; kind = kind_of l; value = value_of l; detail = detail_of l }

-- 11 is the lexer's word for the end, and 5 its word for an f-string, whose `f"` is a token here ("5 remains for the token list
-- only").
abbrev pub look_after : Bool → Bool → Refusal → Look ℕ
look_after true q r = over
look_after false true r = found (token_for f_quote r.start r.end None) r.end
look_after false false r = wrong r.number r.start r.end

abbrev pub look_of : List ℕ → Step → Look ℕ
look_of s (Ok (w, a, next)) = found (token_for w a next.at (literal_of (code_of w) (slice a next.at s))) next.at
look_of s (Err r) = look_after (eqb r.number 11) (eqb r.number 5) r

-- A piece of text, from a place to its end, as a token: what it is worth, and the place of its hole's `{` or behind its quote.
abbrev pub text_token : ℕ → ℕ → ℕ → Size → Token
text_token w a e (Some n) = record { word = w; start = a; end = e; holds = true; kind = 47; value = n; detail = 0 }
text_token w a e None = record { word = w; start = a; end = e; holds = false; kind = 47; value = 0; detail = 0 }

abbrev pub piece_of : List ℕ → ℕ → Scanned → Look ℕ
piece_of s at (Some (Before e)) = found (text_token text_then_hole at e (text_of (slice at e s))) e
piece_of s at (Some (Ends e)) = found (text_token last_text at e (text_of (slice at e s))) (e + 1)
piece_of s at None = over

abbrev pub source : List ℕ → Stream
source s = record { Place = ℕ; look = λ at. look_of s (step_at s at); piece = λ at. piece_of s at (part_at s at) }
