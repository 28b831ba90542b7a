-- C-24 holds of bytes: the places over which the grammar's theorems speak are those of the lexer's list.
use Rattle.std.specs.Prelude.{Ok, Err}
use mathlib.Core.Path.{◌≡◌, refl, sym, ap, subst, ◌∙◌}
use mathlib.Core.List.{List, [], ◌∷◌, ◌++◌, map, append_assoc, append-nil}
use mathlib.Core.Bool.{Bool, true, false, cond}
use mathlib.Core.Logic.{◌⊎◌, inl, inr, ◌≢◌}
use Prim.Native.Nat.{ℕ, zero, suc, ◌+◌, ◌<◌}
use lib.Dec.{eqb, leb}
use lib.ListN.{length}
use lib.Seq.{slice}
use native.Mathlib.Omega.{arith}
use Rattle.chars.specs.declared.Answer.{Answer}
use Rattle.tokens.specs.declared.Token as lexer
use Rattle.tokens.specs.declared.Cursor.{Cursor}
use Rattle.tokens.specs.declared.Refusal.{Refusal}
use Rattle.tokens.specs.Results.{Step}
use Rattle.tokens.specs.Words.{code_of}
use Rattle.tokens.specs.Tokens.{step_at, token_of, Listed, list_from, list_of}
use Rattle.tokens.proofs.Lists.{list_taken, list_refused}
use Rattle.values.specs.Literals.{literal_of}
use Rattle.grammar.specs.Words.{f_quote}
use Rattle.grammar.specs.Grammar.{Token, Look, found, over, wrong}
use Rattle.grammar.specs.Refusals as grammar
use Rattle.grammar.specs.Answers.{refused, Answers, accepts, stops, leaves}
use Rattle.grammar.specs.Culprit.{FreeText, reach_here, reach_on, Clean, Before, before_here, before_there, With, with_here, with_there}
use Rattle.grammar.proofs.Culprits as streams
use Rattle.grammar.proofs.Culprits.{Ends, ends_over, ends_wrong, Wrong, Failing, refusal_6, refusal_4_11, refusal_7_9}
use Rattle.answers.specs.Source.{source, look_of, look_after, token_for}
use Rattle.answers.specs.Entries.{room, Permitted, early, read}
use Rattle.answers.specs.Demands.{rows_of}
use Rattle.answers.specs.Culprit.{tokens_from, tokens_of, listed, FStringless, Begins, Named, up_to, EndsAt, TrueCulprit}
use Rattle.answers.proofs.Ahead.{Steps, steps_token, steps_over, steps_quote, steps_wrong, step_goes, ahead, tokens_take}
use Rattle.answers.proofs.Scans.{look_few}
use Rattle.answers.proofs.Determined.{whole_number}

-- not 5, so neither where the same list goes on
still : {r r' : Refusal} → r ≡ r' → r.number ≢ 5 → r'.number ≢ 5
still e q f = q (ap (λ (x : Refusal). x.number) e ∙ f)

module _ (s : List ℕ) where
  abbrev pub literal : ℕ → ℕ → ℕ → Token
  literal w a e = token_for w a e (literal_of (code_of w) (slice a e s))

  module _ (n at : ℕ) where
    pub tokens_taken : {w a : ℕ} {next : Cursor} → step_at s at ≡ Ok (w, a, next) → tokens_from (suc n) s at ≡ literal w a next.at ∷ tokens_from n s next.at
    unfolding tokens_from
    tokens_taken e = ap (λ (x : Step). elim x [ Ok (w, a, next) ↦ literal w a next.at ∷ tokens_from n s next.at | Err r ↦ [] ]) e

    pub tokens_refused : {r : Refusal} → step_at s at ≡ Err r → tokens_from (suc n) s at ≡ []
    unfolding tokens_from
    tokens_refused e = ap (λ (x : Step). elim x [ Ok (w, a, next) ↦ literal w a next.at ∷ tokens_from n s next.at | Err r ↦ [] ]) e

  -- the tokens are those of the list of (c)
  same_list : (n at : ℕ) → map listed (tokens_from n s at) ≡ (list_from n s at).tokens
  unfolding tokens_from list_from
  same_list zero at = refl
  same_list (suc n) at = go (step_at s at) refl λ next. same_list n next
    where
      go : (x : Step) → step_at s at ≡ x → ((next : ℕ) → map listed (tokens_from n s next) ≡ (list_from n s next).tokens) → map listed (tokens_from (suc n) s at) ≡ (list_from (suc n) s at).tokens
      go (Ok (w, a, next)) e rest = ap (map listed) (tokens_taken n at e) ∙ ap (λ (l : List lexer.Token). token_of w a next ∷ l) (rest next.at) ∙ sym (ap (λ (l : Listed). l.tokens) (list_taken n s at e))
      go (Err r) e rest = ap (map listed) (tokens_refused n at e) ∙ sym (ap (λ (l : Listed). l.tokens) (list_refused n s at e))

  -- what is seen from a place with so many steps left: what stands there, the tokens, and how their list ends
  data Seen (n at : ℕ) : Look ℕ → Type 0 where
    seen_token : {x : Token} {j : ℕ} → tokens_from (suc n) s at ≡ x ∷ tokens_from n s j → (list_from (suc n) s at).ending ≡ (list_from n s j).ending → (x.word ≡ f_quote → ⊥) → Seen n at (found x j)
    seen_quote : {x : Token} {j : ℕ} → (list_from (suc n) s at).ending.number ≡ 5 → Seen n at (found x j)
    seen_over : tokens_from (suc n) s at ≡ [] → (list_from (suc n) s at).ending ≡ record { number = 11; start = length s; end = length s } → Seen n at over
    seen_wrong : {m a b : ℕ} → tokens_from (suc n) s at ≡ [] → (list_from (suc n) s at).ending ≡ record { number = m; start = a; end = b } → Seen n at (wrong m a b)

  seen : (n at : ℕ) → Seen n at ((source s).look at)
  seen n at = go (step_at s at) refl (step_goes s at)
    where
      ending : {r : Refusal} → step_at s at ≡ Err r → (list_from (suc n) s at).ending ≡ r
      ending e = ap (λ (l : Listed). l.ending) (list_refused n s at e)

      go : (x : Step) → step_at s at ≡ x → Steps s at x → Seen n at (look_of s x)
      go (Ok (w, a, next)) e (steps_token h k p v) = seen_token (tokens_taken n at e) (ap (λ (l : Listed). l.ending) (list_taken n s at e)) (λ q. omega arith)
      go (Err r) e steps_over = seen_over (tokens_refused n at e) (ending e)
      go (Err r) e (steps_quote c l m) = subst (λ (k : ℕ). Seen n at (look_after (eqb k 11) (eqb k 5) r)) (sym c) (seen_quote (ap (λ (x : Refusal). x.number) (ending e) ∙ c))
      go (Err r) e (steps_wrong c) = subst (λ (k : ℕ). Seen n at (look_after (eqb k 11) (eqb k 5) r)) (sym c) (seen_wrong (tokens_refused n at e) (ending e))

  -- what is seen of a token that stands there, in a source of which (c) doesn't say 5
  record Goes (n i j : ℕ) (x : Token) : Type 0 where
    steps : ℕ
    left : n ≡ suc steps
    tokens : tokens_from n s i ≡ x ∷ tokens_from steps s j
    ending : (list_from n s i).ending ≡ (list_from steps s j).ending
    enough : ahead s j < steps
    plain : x.word ≡ f_quote → ⊥

  goes : (n i j : ℕ) (x : Token) → ahead s i < n → (list_from n s i).ending.number ≢ 5 → (source s).look i ≡ found x j → Goes n i j x
  goes zero i j x h q e = absurd (omega arith)
  goes (suc n) i j x h q e = go ((source s).look i) (seen n i) e
    where
      go : (k : Look ℕ) → Seen n i k → k ≡ found x j → Goes (suc n) i j x
      go (found x' j') (seen_token t l p) f =
          let ex : x' ≡ x = cc in
          let ej : j' ≡ j = cc in
          let a = tokens_take s x i j e in
          record { steps = n; left = refl; tokens = t ∙ ap (λ (y : Token). y ∷ tokens_from n s j') ex ∙ ap (λ (k : ℕ). x ∷ tokens_from n s k) ej; ending = l ∙ ap (λ (k : ℕ). (list_from n s k).ending) ej; enough = omega arith; plain = λ g. p (ap (λ (y : Token). y.word) ex ∙ g) }
      go (found x' j') (seen_quote c) f = absurd (q c)
      go over (seen_over t l) f = let z : ◌≡◌ {A = ℕ} 0 1 = cc in absurd (omega arith)
      go (wrong m a b) (seen_wrong t l) f = let z : ◌≡◌ {A = ℕ} 0 1 = cc in absurd (omega arith)

  clean : (n : ℕ) {i : ℕ} → ahead s i < n → (list_from n s i).ending.number ≢ 5 → Clean (source s) f_quote i
  clean n h q x j k reach_here e w = (goes n j k x h q e).plain w
  clean n h q x j k (reach_on {x = y} {i = i} {j = m} e' r) e w =
      let g = goes n i m y h q e' in
      clean g.steps g.enough (still g.ending q) x j k r e w

  -- a list that goes from i to z as the tokens do, and from there on as `here` says
  data Upto (z : ℕ) (here : List Token → Type 0) : ℕ → List Token → Type 0 where
    upto_here : {ts : List Token} → here ts → Upto z here z ts
    upto_there : {x : Token} {i j : ℕ} {ts : List Token} → (source s).look i ≡ found x j → Upto z here j ts → Upto z here i (x ∷ ts)

  upto_before : {z i : ℕ} {ts : List Token} → Before (source s) z i ts → Upto z (λ us. Unit {0}) i ts
  upto_before before_here = upto_here tt
  upto_before (before_there e b) = upto_there e (upto_before b)

  upto_with : {z i : ℕ} {ts : List Token} → With (source s) z i ts → Upto z (With (source s) z z) i ts
  upto_with (with_here e) = upto_here (with_here e)
  upto_with (with_there e w) = upto_there e (upto_with w)

  record Cut (n i z : ℕ) (here : List Token → Type 0) (ts : List Token) : Type 0 where
    steps : ℕ
    enough : ahead s z < steps
    front : List Token
    others : List Token
    parted : ts ≡ front ++ others
    kept : here others
    tokens : tokens_from n s i ≡ front ++ tokens_from steps s z
    ending : (list_from n s i).ending ≡ (list_from steps s z).ending
    onward : (us : List Token) → With (source s) z z us → With (source s) z i (front ++ us)

  cut : {z : ℕ} {here : List Token → Type 0} (n : ℕ) {i : ℕ} {ts : List Token} → ahead s i < n → (list_from n s i).ending.number ≢ 5 → Upto z here i ts → Cut n i z here ts
  cut n {ts = ts} h q (upto_here k) = record { steps = n; enough = h; front = []; others = ts; parted = refl; kept = k; tokens = refl; ending = refl; onward = λ us w. w }
  cut n h q (upto_there {x = x} {i = i} {j = j} e b) =
      let g = goes n i j x h q e in
      let c = cut g.steps g.enough (still g.ending q) b in
      record { steps = c.steps; enough = c.enough; front = x ∷ c.front; others = c.others; parted = ap (λ (l : List Token). x ∷ l) c.parted; kept = c.kept; tokens = g.tokens ∙ ap (λ (l : List Token). x ∷ l) c.tokens; ending = g.ending ∙ c.ending; onward = λ us w. with_there e (c.onward us w) }

  more_of : {z u : ℕ} {x : Token} {ts : List Token} → (source s).look z ≡ found x u → With (source s) z z ts → (others : List Token) × (ts ≡ x ∷ others)
  more_of e w = go e w refl
    where
      go : {z i u : ℕ} {x : Token} {ts : List Token} → (source s).look z ≡ found x u → With (source s) z i ts → i ≡ z → (others : List Token) × (ts ≡ x ∷ others)
      go {x = x} e (with_here {x = y} {ts = ts} e') q = let k : y ≡ x = cc in (ts, ap (λ (t : Token). t ∷ ts) k)
      go {x = x} e (with_there {x = y} {ts = ts} e' w) q = let k : y ≡ x = cc in (ts, ap (λ (t : Token). t ∷ ts) k)

module _ (tests tree : Bool) (s : List ℕ) (size : ℕ) where
  few : (at n a b : ℕ) → (source s).look at ≡ wrong n a b → n < 6
  few at n a b e = look_few s at n a b e

  abbrev At : ℕ → grammar.Refusal → Type 0
  At z r = streams.Named (source s) tests tree (ahead s) (tokens_take s) (length s) few r z

  -- numbers from 4 on, but 10, are the grammar's
  record Refuses (a : Answer) : Type 0 where
    refusal : grammar.Refusal
    answers : Answers (source s) tests tree (length s) 0 (refused refusal)
    is : a ≡ record { number = refusal.number; start = refusal.start; end = refusal.end; count = 0 }

  refuses : {a : Answer} {t : List ℕ} → Permitted tests tree s size a t → 3 < a.number → a.number ≢ 10 → Refuses a
  refuses (early {r = r} e) h n = let k = (whole_number s r e).1 in absurd (omega arith)
  refuses (read e (accepts {p = p} x)) h n = absurd (go (leb k (room size)) h n)
    where
      k : ℕ
      k = length (rows_of tree s p)

      yes : Answer
      yes = record { number = 0; start = 0; end = length s; count = k }

      no : Answer
      no = record { number = 10; start = 0; end = 0; count = k }

      go : (b : Bool) → 3 < (cond b yes no).number → (cond b yes no).number ≢ 10 → ⊥
      go true h n = omega arith
      go false h n = n refl
  refuses (read e (stops f)) h n = record { refusal = _; answers = stops f; is = refl }
  refuses (read e (leaves u f)) h n = record { refusal = _; answers = leaves u f; is = refl }

  number_is : {a : Answer} {m : ℕ} (f : Refuses a) → a.number ≡ m → f.refusal.number ≡ m
  number_is f e = sym (ap (λ (x : Answer). x.number) f.is) ∙ e

  number_of : {a : Answer} {m n : ℕ} (f : Refuses a) → (a.number ≡ m) ⊎ (a.number ≡ n) → (f.refusal.number ≡ m) ⊎ (f.refusal.number ≡ n)
  number_of f (inl e) = inl (number_is f e)
  number_of f (inr e) = inr (number_is f e)

  clean_source : FStringless s → Clean (source s) f_quote 0
  unfolding list_of
  clean_source q = clean s (length s + 1) (omega arith) q

  -- a refusal at the token at z, and what stands before it in the list
  named_at : {a : Answer} (f : Refuses a) {z : ℕ} {here : List Token → Type 0} {ts : List Token} → FStringless s → At z f.refusal → Cut s (length s + 1) 0 z here ts → Named s a
  unfolding list_of tokens_of
  named_at f {z} q k c =
      let g = goes s c.steps z k.behind k.token c.enough (still c.ending q) k.stands in
      record {
        before = c.front;
        named = k.token;
        behind = tokens_from g.steps s k.behind;
        in_order = c.tokens ∙ ap (λ (l : List Token). c.front ++ l) g.tokens;
        starts = k.starts ∙ sym (ap (λ (x : Answer). x.start) f.is);
        ends = k.ends ∙ sym (ap (λ (x : Answer). x.end) f.is);
      }

  from_front : {z : ℕ} {here : List Token → Type 0} {ts : List Token} → FStringless s → Upto s z here 0 ts → Cut s (length s + 1) 0 z here ts
  unfolding list_of
  from_front q b = cut s (length s + 1) (omega arith) q b

  first_at : {a : Answer} (f : Refuses a) → FStringless s → Wrong (source s) tests tree (ahead s) (tokens_take s) (length s) few 0 f.refusal → (k : Named s a) × Begins tests tree k.before × (Begins tests tree (up_to k) → ⊥)
  unfolding named_at
  first_at f q w =
      let b = w.culprit.begins in
      let c = from_front q (upto_before s b.2) in
      let k = w.named in (
        named_at f q k c,
        (c.others, b.1, subst (λ (l : List Token). FreeText tests tree l b.1) c.parted b.3),
        λ o. w.culprit.begins_none (c.front ++ (k.token ∷ o.0)) o.1 (c.onward (k.token ∷ o.0) (with_here k.stands)) (subst (λ (l : List Token). FreeText tests tree l o.1) (append_assoc c.front (k.token ∷ []) o.0) o.2),
      )

  six : {a : Answer} → Refuses a → FStringless s → a.number ≡ 6 → (k : Named s a) × Begins tests tree k.before × (Begins tests tree (up_to k) → ⊥)
  six f q e = first_at f q (refusal_6 (source s) tests tree (ahead s) (tokens_take s) (length s) few f.refusal (clean_source q) f.answers refl (number_is f e))

  last : (n z : ℕ) (r : grammar.Refusal) → ahead s z < n → Ends (source s) tests tree (ahead s) (tokens_take s) (length s) few r ((source s).look z) → (tokens_from n s z ≡ []) × ((list_from n s z).ending ≡ record { number = r.number; start = r.start; end = r.end })
  last zero z r h e = absurd (omega arith)
  last (suc n) z r h e = go ((source s).look z) (seen s n z) e
    where
      go : (k : Look ℕ) → Seen s n z k → Ends (source s) tests tree (ahead s) (tokens_take s) (length s) few r k → (tokens_from (suc n) s z ≡ []) × ((list_from (suc n) s z).ending ≡ record { number = r.number; start = r.start; end = r.end })
      go over (seen_over t l) (ends_over q) = (t, l ∙ sym (ap (λ (x : grammar.Refusal). record { number = x.number; start = x.start; end = x.end }) q))
      go (wrong m a b) (seen_wrong t l) ends_wrong = (t, l)
      go (found _ _) _ x7 = elim x7 [ ]

  -- at the end, and where no token starts, the list of (c) ends
  ending : {a : Answer} → Refuses a → FStringless s → (a.number ≡ 4) ⊎ (a.number ≡ 11) → EndsAt s a × Begins tests tree (tokens_of s)
  unfolding list_of tokens_of
  ending f q o =
      let w = refusal_4_11 (source s) tests tree (ahead s) (tokens_take s) (length s) few f.refusal (clean_source q) f.answers refl (number_of f o) in
      let b = w.2 in
      let c = from_front q (upto_before s b.stand) in
      let l = last c.steps w.0 f.refusal c.enough w.1 in
      let whole : tokens_from (length s + 1) s 0 ≡ c.front = c.tokens ∙ ap (λ (l : List Token). c.front ++ l) l.0 ∙ append-nil c.front in (
        c.ending ∙ l.1 ∙ sym (ap (λ (x : Answer). record { number = x.number; start = x.start; end = x.end }) f.is),
        (c.others, b.parts, subst (λ (l : List Token). FreeText tests tree l b.parts) (c.parted ∙ ap (λ (l : List Token). l ++ c.others) (sym whole)) b.text),
      )

  -- a token that fails its test
  failing_at : {a : Answer} (f : Refuses a) → FStringless s → Failing (source s) tests tree (ahead s) (tokens_take s) (length s) few 0 f.refusal → (k : Named s a) × Begins tests tree (up_to k) × (a.number ≡ 7 → k.named.holds ≡ false)
  unfolding named_at
  failing_at f q w =
      let b = w.begun in
      let c = from_front q (upto_with s b.stand) in
      let k = w.named in
      let m = more_of s k.stands c.kept in
      let e : b.tokens ≡ (c.front ++ (k.token ∷ [])) ++ m.0 = c.parted ∙ ap (λ (l : List Token). c.front ++ l) m.1 ∙ sym (append_assoc c.front (k.token ∷ []) m.0) in
      (named_at f q k c, (m.0, b.parts, subst (λ (l : List Token). FreeText tests tree l b.parts) e b.text), λ h. w.no_value (number_is f h))

  failing : {a : Answer} → Refuses a → FStringless s → (a.number ≡ 7) ⊎ (a.number ≡ 9) → (k : Named s a) × Begins tests tree (up_to k) × (a.number ≡ 7 → k.named.holds ≡ false)
  failing f q o = failing_at f q (refusal_7_9 (source s) tests tree (ahead s) (tokens_take s) (length s) few f.refusal (clean_source q) f.answers refl (number_of f o))

  pub true_culprit : TrueCulprit tests tree s size
  unfolding list_of tokens_of
  true_culprit = record {
    the_list = same_list s (length s + 1) 0;
    on_6 = λ x q e. six (refuses x (omega arith) (λ h. omega arith)) q e;
    on_11 = λ x q e. ending (refuses x (omega arith) (λ h. omega arith)) q (inr e);
    on_4 = λ x q e. ending (refuses x (omega arith) (λ h. omega arith)) q (inl e);
    on_7 = λ x q e. let w = failing (refuses x (omega arith) (λ h. omega arith)) q (inl e) in (w.0, w.1, w.2 e);
    on_9 = λ x q e. let w = failing (refuses x (omega arith) (λ h. omega arith)) q (inr e) in (w.0, w.1);
  }
