-- The next token at a place, the whole list, and the answer to a source.
use Rattle.std.specs.Prelude.{Ok, Err, Bool, ◌||◌, cond, ℕ, zero, suc, ◌+◌, List, [], ◌∷◌, length, eqb, ltb, leb}
use Rattle.chars.specs.declared.Class.TheVariants.{Ascii}
use Rattle.chars.specs.Chars.{is_class}
use Rattle.chars.specs.Runs.{past_run}
use Rattle.tokens.specs.declared.Token.{Token}
use Rattle.tokens.specs.declared.Cursor.{Cursor}
use Rattle.tokens.specs.declared.Refusal.{Refusal}
use Rattle.chars.specs.declared.Answer.{Answer}
use Rattle.tokens.specs.Results.{Step}
use Rattle.tokens.specs.Results.{Whole}
use Rattle.tokens.specs.Words.{code_of}
use Rattle.tokens.specs.Blanks.{skip_all}
use Rattle.tokens.specs.Rules.{token_at, refused, pair_at}

-- what stands at a place, behind what is skipped; at the end 11, "source ends too early: length, length"
unfoldable pub step_at : List ℕ → ℕ → Step
step_at s at = let a : ℕ = skip_all s at in cond (ltb a (length s)) (token_at s a) (refused 11 (length s) (length s))

-- What the cases of a step say in document 01's numbers: a token as 0, its ends, its code and its word; a refusal as its number and place, and zeros
unfoldable pub step_numbers : Step → List ℕ
step_numbers (Ok (w, a, next)) = 0 ∷ a ∷ next.at ∷ code_of w ∷ w ∷ []
step_numbers (Err r) = r.number ∷ r.start ∷ r.end ∷ 0 ∷ 0 ∷ []

abbrev pub bad : ℕ → ℕ → ℕ → Whole
bad n a e = Err (record { number = n; start = a; end = e })

-- "1, 2, 3 are tested first, in that order": longer than 65,535; the first byte of 128 or more; a source that begins `#!`
unfoldable pub whole_of : List ℕ → Whole
whole_of s =
    let high : ℕ = past_run (is_class Ascii) s 0 in
    cond (ltb 65535 (length s)) (bad 1 65535 65535)
    (cond (ltb high (length s)) (bad 2 high (high + 1))
    (cond (pair_at s 0 35 33) (bad 3 0 2)
    (Ok tt)))

-- the tokens from a place on, and the refusal at which they end: 11 where the source does
pub record Listed : Type 0 where
  pub tokens : List Token
  pub ending : Refusal

abbrev pub more : Token → Listed → Listed
more t l = record { tokens = t ∷ l.tokens; ending = l.ending }

-- "A token record has code, start, end": the code is the number of the rule
abbrev pub token_of : ℕ → ℕ → Cursor → Token
token_of w a next = record { code = code_of w; start = a; end = next.at }

-- token after token; no more than n, and no source has more tokens than bytes
unfoldable pub list_from : ℕ → List ℕ → ℕ → Listed
list_from zero s at = record { tokens = []; ending = record { number = 11; start = length s; end = length s } }
list_from (suc n) s at = elim (step_at s at) [ Ok (w, a, next) ↦ more (token_of w a next) (list_from n s next.at) | Err r ↦ record { tokens = []; ending = r } ]

unfoldable pub list_of : List ℕ → Listed
list_of s = list_from (length s + 1) s 0

abbrev pub refusal : Refusal → Answer
refusal r = record { number = r.number; start = r.start; end = r.end; count = 0 }

-- "10 is given exactly when nothing else refuses and the count exceeds the room"; "0: accepted: 0, length"
abbrev pub counted : ℕ → ℕ → ℕ → Answer
counted len count room =
    cond (leb count room) (record { number = 0; start = 0; end = len; count = count }) (record { number = 10; start = 0; end = 0; count = count })

abbrev pub ended : ℕ → Listed → ℕ → Answer
ended len l room = cond (eqb l.ending.number 11) (counted len (length l.tokens) room) (refusal l.ending)

-- where a step is the last
unfoldable pub last_of : Step → ℕ → ℕ → ℕ → Answer
last_of (Ok (w, a, next)) len count room = counted len count room
last_of (Err r) len count room = cond (eqb r.number 11) (counted len count room) (refusal r)

-- What the cases of `Whole` say in document 01's numbers: 1, 2 or 3 with its place, or the answer to what is read then
abbrev pub unless : Whole → Answer → Answer
unless (Ok tt) a = a
unless (Err r) a = refusal r

-- "(c) gives only 0 to 5 and 10" (proofs/Only.antt)
abbrev pub is_given : ℕ → Bool
is_given n = leb n 5 || eqb n 10

-- the answer of (c)
unfoldable pub answer_of : List ℕ → ℕ → Answer
answer_of s room = unless (whole_of s) (ended (length s) (list_of s) room)
