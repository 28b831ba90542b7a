-- C-22 over bytes: the two grammars give the same answer and the same table, or the new one gives 6 at a `test`.
use Rattle.std.specs.Prelude.{Some, None, Ok, Err}
use mathlib.Core.Path.{◌≡◌, refl, sym, ap, subst, ◌∙◌}
use mathlib.Core.List.{List, [], ◌∷◌, ◌++◌}
use mathlib.Core.Bool.{Bool, true, false, cond}
use mathlib.Core.Logic.{◌⊎◌, inl, inr}
use Prim.Native.Nat.{ℕ, zero, suc, ◌+◌}
use lib.Dec.{eqb, ltb}
use lib.ListN.{length}
use native.Mathlib.Omega.{arith}
use Rattle.chars.specs.declared.Answer.{Answer}
use Rattle.tokens.specs.declared.Cursor.{Cursor}
use Rattle.tokens.specs.Results.{Fit}
use Rattle.tokens.specs.declared.Refusal.{Refusal}
use Rattle.tokens.specs.Results.{Step}
use Rattle.tokens.specs.Blanks.{skip_all}
use Rattle.tokens.specs.Rules.{ipv6_at, ipv4_at, two_at, one_at, as_at, hex_at, number_at, quote_at, name_at, pair_at, taken, refused as refusing, or_else, token_at}
use Rattle.tokens.specs.Tokens.{step_at}
use Rattle.grammar.specs.Words.{'test', f_quote}
use Rattle.grammar.specs.Grammar.{Token, Look, found, over, wrong}
use Rattle.grammar.specs.Kinds.{DECLARATION}
use Rattle.grammar.specs.Language.{roto}
use Rattle.grammar.specs.Readings.{word_of_lem, peek}
use Rattle.grammar.specs.Refusals.{amiss, said}
use Rattle.grammar.specs.Answers.{refused}
use Rattle.grammar.proofs.Tests.{answers_either, answers_same}
use Rattle.answers.specs.Source.{source, look_of, look_after}
use Rattle.answers.specs.Entries.{Permitted, early, read, answer_for}
use Rattle.answers.specs.Culprit.{tokens_from, tokens_of, FStringless}
use Rattle.answers.specs.Tests.{AtTest, NoToken, TwoGrammars}
use Rattle.answers.proofs.Determined.{one_permitted}
use Rattle.answers.proofs.Culprits.{literal, tokens_taken, tokens_refused, true_culprit}

-- a token begins where it was asked for
abbrev Starts : ℕ → Step → Type 0
Starts at (Ok (w, a, next)) = a ≡ at
Starts at (Err r) = Prim.Unit {0}

or_starts : (at : ℕ) (f : Fit) (d : Step) → Starts at d → Starts at (or_else at f d)
unfolding or_else taken
or_starts at (Some (e, w)) d h = refl
or_starts at None d h = h

token_starts : (s : List ℕ) (at : ℕ) → Starts at (token_at s at)
unfolding token_at refusing
token_starts s at =
    or_starts at (ipv6_at s at) _ (or_starts at (ipv4_at s at) _ (or_starts at (two_at s at) _ (or_starts at (one_at s at) _ (or_starts at (as_at s at) _ (or_starts at (hex_at s at) _ (or_starts at (number_at s at) _ (quoted (pair_at s at 102 34))))))))
  where
    rest : Step
    rest = or_else at (quote_at 34 9 s at) (or_else at (quote_at 39 10 s at) (or_else at (name_at s at) (Err (record { number = 4; start = at; end = at + 1 }))))

    quoted : (b : Bool) → Starts at (cond b (Err (record { number = 5; start = at; end = at + 2 })) rest)
    quoted true = tt
    quoted false = or_starts at (quote_at 34 9 s at) _ (or_starts at (quote_at 39 10 s at) _ (or_starts at (name_at s at) _ tt))

module _ (s : List ℕ) where
  -- so where a token begins, that token stands, from wherever it is come to
  at_start : (i : ℕ) {w a : ℕ} {next : Cursor} → step_at s i ≡ Ok (w, a, next) → token_at s a ≡ Ok (w, a, next)
  unfolding step_at refusing
  at_start i {w} {a} {next} e = go (ltb (skip_all s i) (length s)) e
    where
      go : (b : Bool) → cond b (token_at s (skip_all s i)) (Err (record { number = 11; start = length s; end = length s })) ≡ Ok (w, a, next) → token_at s a ≡ Ok (w, a, next)
      go true q = ap (token_at s) (subst (Starts (skip_all s i)) q (token_starts s (skip_all s i))) ∙ q
      go false q = let z : ◌≡◌ {A = ℕ} 0 1 = cc in absurd (omega arith)

  one_word : (i j : ℕ) {w v a : ℕ} {next other : Cursor} → step_at s i ≡ Ok (w, a, next) → step_at s j ≡ Ok (v, a, other) → w ≡ v
  one_word i j {w} {v} {a} {next} {other} e f = let z : ◌≡◌ {A = Step} (Ok (w, a, next)) (Ok (v, a, other)) = sym (at_start i e) ∙ at_start j f in let y : ◌≡◌ {A = ℕ × ℕ × Cursor} (w, a, next) (v, a, other) = cc in ap (λ (p : ℕ × ℕ × Cursor). p.0) y

  -- the step behind a token of the list, and behind a `test`
  listed_at : (n at : ℕ) (b r : List Token) (y : Token) → tokens_from n s at ≡ b ++ (y ∷ r) → (i : ℕ) × (next : Cursor) × (step_at s i ≡ Ok (y.word, y.start, next))
  unfolding tokens_from
  listed_at zero at [] r y e = let z : ◌≡◌ {A = ℕ} 0 1 = cc in absurd (omega arith)
  listed_at zero at (x ∷ b) r y e = let z : ◌≡◌ {A = ℕ} 0 1 = cc in absurd (omega arith)
  listed_at (suc n) at b r y e = go (step_at s at) refl b e (λ next b q. listed_at n next b r y q)
    where
      go : (x : Step) → step_at s at ≡ x → (b : List Token) → tokens_from (suc n) s at ≡ b ++ (y ∷ r) → ((next : ℕ) (b : List Token) → tokens_from n s next ≡ b ++ (y ∷ r) → (i : ℕ) × (next : Cursor) × (step_at s i ≡ Ok (y.word, y.start, next))) → (i : ℕ) × (next : Cursor) × (step_at s i ≡ Ok (y.word, y.start, next))
      go (Ok (w, a, next)) q [] e more =
          let z : literal s w a next.at ∷ tokens_from n s next.at ≡ y ∷ r = sym (tokens_taken s n at q) ∙ e in
          let u : literal s w a next.at ≡ y = cc in
          (at, next, q ∙ ap (λ (t : Token). Ok (t.word, t.start, next)) u)
      go (Ok (w, a, next)) q (x ∷ b) e more =
          let z : literal s w a next.at ∷ tokens_from n s next.at ≡ x ∷ (b ++ (y ∷ r)) = sym (tokens_taken s n at q) ∙ e in
          let u : tokens_from n s next.at ≡ b ++ (y ∷ r) = cc in
          more next.at b u
      go (Err x) q [] e more = let z : [] ≡ y ∷ r = sym (tokens_refused s n at q) ∙ e in let k : ◌≡◌ {A = ℕ} 0 1 = cc in absurd (omega arith)
      go (Err x) q (c ∷ b) e more = let z : [] ≡ c ∷ (b ++ (y ∷ r)) = sym (tokens_refused s n at q) ∙ e in let k : ◌≡◌ {A = ℕ} 0 1 = cc in absurd (omega arith)

  test_at : {x : Token} (i : ℕ) {j : ℕ} → (source s).look i ≡ found x j → x.word ≡ 'test' → (next : Cursor) × (step_at s i ≡ Ok ('test', x.start, next))
  test_at {x} i {j} e w = go (step_at s i) refl e
    where
      after : (c q : Bool) (r : Refusal) → look_after c q r ≡ found x j → ⊥
      after true q r f = let z : ◌≡◌ {A = ℕ} 0 1 = cc in omega arith
      after false true r f = let z : ◌≡◌ {A = ℕ} f_quote 'test' = cc in omega (arith, z)
      after false false r f = let z : ◌≡◌ {A = ℕ} 0 1 = cc in omega arith

      go : (k : Step) → step_at s i ≡ k → look_of s k ≡ found x j → (next : Cursor) × (step_at s i ≡ Ok ('test', x.start, next))
      go (Ok (v, a, next)) q f =
          let u : literal s v a next.at ≡ x = cc in
          (next, q ∙ ap (λ (t : Token). Ok (t.word, t.start, next)) u ∙ ap (λ (n : ℕ). Ok (n, x.start, next)) w)
      go (Err r) q f = absurd (after (eqb r.number 11) (eqb r.number 5) r f)

module _ (s : List ℕ) (size : ℕ) where
  -- a refusal of a `test` as an answer
  met : (i : ℕ) → peek (source s) (roto false) i ≡ 'test' → AtTest s (answer_for (length s) size (refused (said (length s) ((source s).look i) (amiss DECLARATION))))
  met i w = go ((source s).look i) refl w
    where
      go : (k : Look ℕ) → (source s).look i ≡ k → word_of_lem (source s) (roto false) k ≡ 'test' → AtTest s (answer_for (length s) size (refused (said (length s) k (amiss DECLARATION))))
      go (found x j) e w = record { at = i; token = x; next = j; stands = e; word = w; number = refl; starts = refl; ends = refl }
      go over e w = absurd (omega (arith, w))
      go (wrong n a b) e w = absurd (omega (arith, w))

  same_or_test : {a b : Answer} {t u : List ℕ} → Permitted true true s size a t → Permitted false true s size b u → ((a ≡ b) × (t ≡ u)) ⊎ AtTest s b
  same_or_test (early e) q = inl (one_permitted false true s size (early e) q)
  same_or_test (read e x) q = elim (answers_either (source s) (length s) x) [
    | inl y ↦ inl (one_permitted false true s size (read e y) q)
    | inr m ↦ inr (subst (AtTest s) (one_permitted false true s size (read e m.1) q).0 (met m.0.place m.0.word))
  ]

  without_token : {a b : Answer} {t u : List ℕ} → FStringless s → NoToken s → Permitted true true s size a t → Permitted false true s size b u → (a ≡ b) × (t ≡ u)
  unfolding tokens_of
  without_token f n p q = elim (same_or_test p q) [
    | inl e ↦ e
    | inr k ↦ (
        let c = ((true_culprit false true s size).on_6 q f k.number).0 in
        let l = listed_at s (length s + 1) 0 c.before c.behind c.named c.in_order in
        let t = test_at s k.at k.stands k.word in
        let o = sym (c.starts ∙ sym k.starts) in
        absurd (n c.before c.behind c.named c.in_order (one_word s l.0 k.at l.2 (t.1 ∙ ap (λ (a : ℕ). Ok ('test', a, t.0)) o)))
        )
  ]

  pub two_grammars : TwoGrammars s size
  two_grammars = record {
    same_or_test = same_or_test;
    without_token = without_token;
    without_word = λ n p q. elim (same_or_test p q) [ inl e ↦ e | inr k ↦ absurd (n k.at k.next k.token k.stands k.word) ];
    expressions = expressions;
  }
    where
      expressions : {a b : Answer} {t u : List ℕ} → Permitted true false s size a t → Permitted false false s size b u → (a ≡ b) × (t ≡ u)
      expressions (early e) q = one_permitted false false s size (early e) q
      expressions (read e x) q = one_permitted false false s size (read e (answers_same (source s) (length s) x)) q
