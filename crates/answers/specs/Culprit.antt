-- C-24, of what the entry points (a) and (b) promise: "a refusal 6 names the first token that can't go there: the tokens before
-- it begin some text of the grammar, with limits and room set aside and literals taken as good, and with the named token added
-- they begin none. For 11, the whole source begins some text. Refusal 8 and sources with f-strings are left out."
-- `tree`: (a), else (b); `tests`: whether `test` is a declaration; `size`: how many numbers the lent table has.
use Rattle.std.specs.Prelude.{Ok, Err, ◌≡◌, List, [], ◌∷◌, ◌++◌, map, Bool, true, false, ◌≢◌, ℕ, zero, suc, ◌+◌, length}
use Prim.Native.String.{String}
use Rattle.std.proofs.Math.Seq.{slice}
use Rattle.chars.specs.Texts.{bytes}
use Rattle.chars.specs.declared.Answer.{Answer}
use Rattle.tokens.specs.declared.Token as lexer
use Rattle.tokens.specs.Words.{code_of}
use Rattle.tokens.specs.Tokens.{step_at, list_of}
use Rattle.values.specs.Literals.{literal_of}
use Rattle.grammar.specs.Grammar.{Token, Parts}
use Rattle.grammar.specs.Culprit.{FreeText}
use Rattle.answers.specs.Source.{token_for}
use Rattle.answers.specs.Entries.{Permitted}

-- The tokens of a source, step by step, each with its word: up to the end, or to what is no token.
unfoldable pub tokens_from : ℕ → List ℕ → ℕ → List Token
tokens_from zero s at = []
tokens_from (suc n) s at = elim (step_at s at) [ Ok (w, a, next) ↦ token_for w a next.at (literal_of (code_of w) (slice a next.at s)) ∷ tokens_from n s next.at | Err r ↦ [] ]

unfoldable pub tokens_of : List ℕ → List Token
tokens_of s = tokens_from (length s + 1) s 0

-- "A token record has code, start, end", as the list of (c) has it.
abbrev pub listed : Token → lexer.Token
listed x = record { code = code_of x.word; start = x.start; end = x.end }

-- "Sources with f-strings are left out": those of which (c) says 5.
abbrev pub FStringless : List ℕ → Type 0
FStringless s = (list_of s).ending.number ≢ 5

-- Tokens that "begin some text of the grammar, with limits and room set aside and literals taken as good": others can follow
-- so that all together have a reading by the rules alone.
abbrev pub Begins : Bool → Bool → List Token → Type 0
Begins tests tree ts = (more : List Token) × (p : Parts) × FreeText tests tree (ts ++ more) p

-- The token that an answer names, by its bytes, and the tokens before it.
pub record Named (s : List ℕ) (a : Answer) : Type 0 where
  pub before : List Token
  pub named : Token
  pub behind : List Token
  pub in_order : tokens_of s ≡ before ++ (named ∷ behind)
  pub starts : named.start ≡ a.start
  pub ends : named.end ≡ a.end

abbrev pub up_to : {s : List ℕ} {a : Answer} → Named s a → List Token
up_to k = k.before ++ (k.named ∷ [])

-- The list of (c) ends there, with the same number.
abbrev pub EndsAt : List ℕ → Answer → Type 0
EndsAt s a = (list_of s).ending ≡ record { number = a.number; start = a.start; end = a.end }

-- Refusals 6 and 11, as document 02 asks. Beyond it: for 4, what stands before the place begins a text; for 7 and 9 the named
-- token may still go there, and only its value or a limit refuses it.
pub record TrueCulprit (tests tree : Bool) (s : List ℕ) (size : ℕ) : Type 0 where
  pub the_list : map listed (tokens_of s) ≡ (list_of s).tokens
  pub on_6 : {a : Answer} {t : List ℕ} → Permitted tests tree s size a t → FStringless s → a.number ≡ 6 → (k : Named s a) × Begins tests tree k.before × (Begins tests tree (up_to k) → ⊥)
  pub on_11 : {a : Answer} {t : List ℕ} → Permitted tests tree s size a t → FStringless s → a.number ≡ 11 → EndsAt s a × Begins tests tree (tokens_of s)
  pub on_4 : {a : Answer} {t : List ℕ} → Permitted tests tree s size a t → FStringless s → a.number ≡ 4 → EndsAt s a × Begins tests tree (tokens_of s)
  pub on_7 : {a : Answer} {t : List ℕ} → Permitted tests tree s size a t → FStringless s → a.number ≡ 7 → (k : Named s a) × Begins tests tree (up_to k) × (k.named.holds ≡ false)
  pub on_9 : {a : Answer} {t : List ℕ} → Permitted tests tree s size a t → FStringless s → a.number ≡ 9 → (k : Named s a) × Begins tests tree (up_to k)

-- The same of small sources, by their bytes up to the named token and with it: no answer stands in this table.
abbrev pub BytesBegin : Bool → Bool → String → Type 0
BytesBegin tests tree t = Begins tests tree (tokens_of (bytes t))

abbrev pub CulpritAfter : Bool → Bool → String → String → Type 0
CulpritAfter tests tree before up_to = BytesBegin tests tree before × (BytesBegin tests tree up_to → ⊥)

pub record WorkedCulprits : Type 0 where
  -- pair 11, `a==b==c`: 6 at 4, 6
  pub chained : CulpritAfter false false "a==b" "a==b=="
  -- pair 12, `if x {y: 1} {}`: 6 at 7, 8
  pub head_record : CulpritAfter false false "if x {y" "if x {y:"
  -- `a b`: (b) gives 6 at a token left over
  pub left_over : CulpritAfter false false "a" "a b"
  -- C-22: `test a {}`, where `test` is no declaration
  pub no_test : CulpritAfter false true "" "test"
  -- `1+`: 11
  pub too_early : BytesBegin false false "1+"
