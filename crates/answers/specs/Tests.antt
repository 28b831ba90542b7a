-- C-22: "Tests now live in members' own repositories." "Demand 3 has then two grammars, old and new": `Permitted true` and `Permitted false`. "Refusals: 6 at `test` when a source
-- is read." What the two have to do with each other, for every source and every table: where no `test` stands, they give the same answer and the same table.
use Rattle.std.specs.Prelude.{◌≡◌, List, ◌∷◌, ◌++◌, true, false, ◌⊎◌, ◌≢◌, ℕ}
use Rattle.chars.specs.declared.Answer.{Answer}
use Rattle.grammar.specs.Words.{'test'}
use Rattle.grammar.specs.Grammar.{Token, found}
use Rattle.answers.specs.Source.{source}
use Rattle.answers.specs.Entries.{Permitted}
use Rattle.answers.specs.Culprit.{tokens_of, FStringless}

-- At a byte of the source stands the keyword `test`, and the answer is 6 there.
pub record AtTest (s : List ℕ) (a : Answer) : Type 0 where
  pub at : ℕ
  pub token : Token
  pub next : ℕ
  pub stands : (source s).look at ≡ found token next
  pub word : token.word ≡ 'test'
  pub number : a.number ≡ 6
  pub starts : token.start ≡ a.start
  pub ends : token.end ≡ a.end

-- None of the tokens of (c) is that keyword; none that stands at any byte is.
abbrev pub NoToken : List ℕ → Type 0
NoToken s = (before behind : List Token) (x : Token) → tokens_of s ≡ before ++ (x ∷ behind) → x.word ≢ 'test'

abbrev pub Nowhere : List ℕ → Type 0
Nowhere s = (at next : ℕ) (x : Token) → (source s).look at ≡ found x next → x.word ≢ 'test'

-- a: the answer by the old grammar, with the table t; b: that by the new one, with the table u.
pub record TwoGrammars (s : List ℕ) (size : ℕ) : Type 0 where
  -- (a): the same, or the new grammar's is 6 at a `test`
  pub same_or_test : {a b : Answer} {t u : List ℕ} → Permitted true true s size a t → Permitted false true s size b u → ((a ≡ b) × (t ≡ u)) ⊎ AtTest s b
  -- so the same for a source without that keyword: by the list of (c), where it has no f-string; by its bytes, where it has
  pub without_token : {a b : Answer} {t u : List ℕ} → FStringless s → NoToken s → Permitted true true s size a t → Permitted false true s size b u → (a ≡ b) × (t ≡ u)
  pub without_word : {a b : Answer} {t u : List ℕ} → Nowhere s → Permitted true true s size a t → Permitted false true s size b u → (a ≡ b) × (t ≡ u)
  -- (b), which has no declarations: the same always
  pub expressions : {a b : Answer} {t u : List ℕ} → Permitted true false s size a t → Permitted false false s size b u → (a ≡ b) × (t ≡ u)
