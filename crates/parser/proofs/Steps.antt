-- What a step past a token tells, and the counts behind it.
use Rattle.std.specs.Prelude.{Ok, Err}
use mathlib.Core.Path.{◌≡◌, refl, sym, ap, subst, ◌∙◌}
use mathlib.Core.List.{List, [], ◌∷◌}
use mathlib.Core.Bool.{Bool, true, false, not, cond}
use mathlib.Core.Logic.{◌⊎◌, inl, inr, ◌≢◌}
use Prim.Native.Nat.{ℕ, zero, suc, ◌+◌, ◌-◌, ◌<◌}
use lib.Dec.{T, eqb, ltb, eqb→eq, eqb_refl, ltb→lt, lt→ltb}
use native.Mathlib.Omega.{arith}
use Rattle.tokens.specs.declared.Refusal.{Refusal}
use Rattle.tokens.specs.Results.{Step}
use Rattle.grammar.specs.Grammar.{plain, opens_bracket, closes_bracket, is_prefix, is_head, is_else_if, body, Token, Symbol, token, one_of}
use Rattle.grammar.specs.Limits.{Counts, after, inside, kept}
use Rattle.grammar.proofs.Open.{Left}
use Rattle.parser.specs.declared.Here.{Here}
use Rattle.parser.specs.declared.Limits.{Limits}
use Rattle.parser.specs.declared.Node.{Node}
use Rattle.parser.specs.Results.{Read}
use Rattle.parser.specs.Places.{word_of, start_of, end_of, passed, unused_at, refusal_at, token_node, list_node, past, unused, took_by, took, expected, under, opening, closing}
use Rattle.parser.specs.Counted.{used, lessened, counts, opened, signed, plain as plainly, headed, chained, unchained, Alike}
use Rattle.parser.specs.Going.{Tally, with_word, with_token, Phrase, Going, Stopped}
use Rattle.parser.proofs.Standing.{solid, lexed, lexed_solid, is_taken, is_word, the_word}
use Rattle.parser.proofs.Going.{at, takes, refuses_word, refuses_past}

-- two answers that are one
done_is : {m x : Node} {h z : Here} → ◌≡◌ {A = Read} (Ok (m, h)) (Ok (x, z)) → (m ≡ x) × (h ≡ z)
done_is {m} {x} {h} {z} e = let u : ◌≡◌ {A = Node × Here} (m, h) (x, z) = cc in (ap (λ (p : Node × Here). p.0) u, ap (λ (p : Node × Here). p.1) u)

refused_is : {a b : Refusal} → ◌≡◌ {A = Read} (Err a) (Err b) → a ≡ b
refused_is e = cc

never : {A : Type 0} {m : Node} {h : Here} {e : Refusal} → ◌≡◌ {A = Read} (Ok (m, h)) (Err e) → A
never e = let z : ◌≡◌ {A = ℕ} 0 1 = cc in absurd (omega arith)

-- past a token: whose node it is, and where the reader stands then
pub record Past (s : List ℕ) (h : Here) (x : Node) (z : Here) : Type 0 where
  pub node : token_node h ≡ x
  pub here : z ≡ passed s h

past_is : {s : List ℕ} {h : Here} {x : Node} {z : Here} → past s h ≡ Ok (x, z) → Past s h x z
past_is e = let k = done_is e in record { node = k.0; here = sym k.1 }

-- a step that was taken apart
took_is : {s : List ℕ} {h : Here} {x : Node} {z : Here} (k : Step) → took_by k (past s h) (unused h) ≡ Ok (x, z) → Past s h x z
unfolding took_by
took_is (Ok (w, a, next)) e = past_is e
took_is (Err r) e = never (sym e)

both_refused : {A : Type 0} {x : Node} {z : Here} (a b : Refusal) (k : Step) → took_by k (Err a) (Err b) ≡ Ok (x, z) → A
unfolding took_by
both_refused a b (Ok (v, i, next)) e = never (sym e)
both_refused a b (Err r) e = never (sym e)

pub some_left : (n : ℕ) → eqb n 0 ≡ false → 0 < n
some_left zero e = let z : T false = subst T e tt in absurd z
some_left (suc n) e = omega arith

not_word : {v w : ℕ} → eqb v w ≡ false → v ≢ w
not_word {v} e q = subst T (ap (λ (x : ℕ). eqb v x) q ∙ e) (eqb_refl v)

under_past : (s : List ℕ) (h : Here) (n : ℕ) {x : Node} {z : Here} → under s h n ≡ Ok (x, z) → (0 < n) × Past s h x z
unfolding under
under_past s h n {x} {z} e = go (eqb n 0) refl e
  where
    go : (b : Bool) → eqb n 0 ≡ b → took_by h.step (cond b (Err (refusal_at 9 (start_of h) (end_of h))) (past s h)) (unused h) ≡ Ok (x, z) → (0 < n) × Past s h x z
    go true f e = both_refused _ _ h.step e
    go false f e = (some_left n f, took_is h.step e)

module _ (s : List ℕ) (h : Here) {r : Read} where
  -- past a token, whatever its word
  pub took_done : {x : Node} {z : Here} → r ≡ took s h → r ≡ Ok (x, z) → Past s h x z
  took_done p q = took_is h.step (sym p ∙ q)

  -- where a word stands that the lexer takes, no token is refused
  module _ (w : List ℕ) (t : T (lexed w)) (m : T (one_of (word_of h) w)) where
    pub took_on : r ≡ took s h → r ≡ past s h
    took_on p = p ∙ is_taken h.step w t m (past s h) (unused h)

    pub never_refused : {e : Refusal} {A : Type 0} → r ≡ took s h → r ≡ Err e → A
    never_refused p q = never (sym (took_on p) ∙ q)

  pub expected_done : (w : ℕ) {x : Node} {z : Here} → r ≡ expected s h w → r ≡ Ok (x, z) → (word_of h ≡ w) × Past s h x z
  unfolding expected
  expected_done w {x} {z} p q = go (eqb (word_of h) w) (eqb→eq (word_of h) w) (sym p ∙ q)
    where
      go : (b : Bool) → (T b → word_of h ≡ w) → cond b (took s h) (unused h) ≡ Ok (x, z) → (word_of h ≡ w) × Past s h x z
      go true f e = (f tt, took_is h.step e)
      go false f e = never (sym e)

  pub expected_refused : (w : ℕ) {e : Refusal} → T (lexed (w ∷ [])) → r ≡ expected s h w → r ≡ Err e → (word_of h ≢ w) × (unused_at h ≡ e)
  unfolding expected
  expected_refused w {e} l p q = go (eqb (word_of h) w) refl (sym p ∙ q)
    where
      go : (b : Bool) → eqb (word_of h) w ≡ b → cond b (took s h) (unused h) ≡ Err e → (word_of h ≢ w) × (unused_at h ≡ e)
      go true f g = never (sym (is_taken h.step (w ∷ []) l (is_word (eqb→eq (word_of h) w (subst T (sym f) tt))) (past s h) (unused h)) ∙ g)
      go false f g = (not_word f, refused_is g)

  pub under_done : (n : ℕ) {x : Node} {z : Here} → r ≡ under s h n → r ≡ Ok (x, z) → (0 < n) × Past s h x z
  under_done n p q = under_past s h n (sym p ∙ q)

  pub under_refused : (n : ℕ) {e : Refusal} (w : List ℕ) → T (lexed w) → T (one_of (word_of h) w) → r ≡ under s h n → r ≡ Err e → (n ≡ 0) × (refusal_at 9 (start_of h) (end_of h) ≡ e)
  unfolding under
  under_refused n {e} w l m p q = go (eqb n 0) (eqb→eq n 0) (sym (is_taken h.step w l m (cond (eqb n 0) (Err (refusal_at 9 (start_of h) (end_of h))) (past s h)) (unused h)) ∙ sym p ∙ q)
    where
      go : (b : Bool) → (T b → n ≡ 0) → cond b (Err (refusal_at 9 (start_of h) (end_of h))) (past s h) ≡ Err e → (n ≡ 0) × (refusal_at 9 (start_of h) (end_of h) ≡ e)
      go true f g = (f tt, refused_is g)
      go false f g = never g

  pub opening_done : (w n : ℕ) {x : Node} {z : Here} → r ≡ opening s h w n → r ≡ Ok (x, z) → (word_of h ≡ w) × (0 < n) × Past s h x z
  unfolding opening
  opening_done w n {x} {z} p q = go (eqb (word_of h) w) (eqb→eq (word_of h) w) (sym p ∙ q)
    where
      go : (a : Bool) → (T a → word_of h ≡ w) → cond a (under s h n) (unused h) ≡ Ok (x, z) → (word_of h ≡ w) × (0 < n) × Past s h x z
      go true f e = let u = under_past s h n e in (f tt, u.0, u.1)
      go false f e = never (sym e)

  pub opening_refused : (w n : ℕ) {e : Refusal} → T (lexed (w ∷ [])) → r ≡ opening s h w n → r ≡ Err e → ((word_of h ≢ w) × (unused_at h ≡ e)) ⊎ ((word_of h ≡ w) × (n ≡ 0) × (refusal_at 9 (start_of h) (end_of h) ≡ e))
  unfolding opening under
  opening_refused w n {e} l p q = go (eqb (word_of h) w) (eqb n 0) refl (eqb→eq n 0) (sym p ∙ q)
    where
      go : (a b : Bool) → eqb (word_of h) w ≡ a → (T b → n ≡ 0) → cond a (took_by h.step (cond b (Err (refusal_at 9 (start_of h) (end_of h))) (past s h)) (unused h)) (unused h) ≡ Err e → ((word_of h ≢ w) × (unused_at h ≡ e)) ⊎ ((word_of h ≡ w) × (n ≡ 0) × (refusal_at 9 (start_of h) (end_of h) ≡ e))
      go true b f g q = let i = eqb→eq (word_of h) w (subst T (sym f) tt) in deep b g i (sym (is_taken h.step (w ∷ []) l (is_word i) (cond b (Err (refusal_at 9 (start_of h) (end_of h))) (past s h)) (unused h)) ∙ q)
        where
          deep : (b : Bool) → (T b → n ≡ 0) → word_of h ≡ w → cond b (Err (refusal_at 9 (start_of h) (end_of h))) (past s h) ≡ Err e → ((word_of h ≢ w) × (unused_at h ≡ e)) ⊎ ((word_of h ≡ w) × (n ≡ 0) × (refusal_at 9 (start_of h) (end_of h) ≡ e))
          deep true g i q = inr (i, g tt, refused_is q)
          deep false g i q = never q
      go false b f g q = inl (not_word f, refused_is q)

  pub closing_done : (w a c : ℕ) {x : Node} {z : Here} → r ≡ closing s h w a c → r ≡ Ok (x, z) → (word_of h ≡ w) × (list_node h a c ≡ x) × (z ≡ passed s h)
  unfolding closing took_by
  closing_done w a c {x} {z} p q = go (eqb (word_of h) w) (eqb→eq (word_of h) w) (sym p ∙ q)
    where
      there : (k : Step) → took_by k (Ok (list_node h a c, passed s h)) (unused h) ≡ Ok (x, z) → (list_node h a c ≡ x) × (z ≡ passed s h)
      there (Ok (v, b, next)) e = let k = done_is e in (k.0, sym k.1)
      there (Err f) e = never (sym e)

      go : (b : Bool) → (T b → word_of h ≡ w) → cond b (took_by h.step (Ok (list_node h a c, passed s h)) (unused h)) (unused h) ≡ Ok (x, z) → (word_of h ≡ w) × (list_node h a c ≡ x) × (z ≡ passed s h)
      go true f e = let k = there h.step e in (f tt, k.0, k.1)
      go false f e = never (sym e)

-- the counts behind a token: where one is left, one more stands open with one less left
pub used_more : (n : ℕ) → 0 < n → used (lessened n) ≡ suc (used n)
unfolding lessened
used_more n h = go (ltb 32 n) refl
  where
    go : (b : Bool) → ltb 32 n ≡ b → 32 - cond b 31 (n - 1) ≡ suc (32 - n)
    go true e = let k = ltb→lt 32 n (subst T (sym e) tt) in omega (arith, k)
    go false e = let k : 32 < n → ⊥ = λ x. (let y : T false = subst T e (lt→ltb 32 n x) in y) in omega (arith, k, h)

pub few_used : (n : ℕ) → 0 < n → T (ltb (used n) 32)
few_used n h = lt→ltb (used n) 32 (omega (arith, h))

pub all_used : (n : ℕ) → n ≡ 0 → T (not (ltb (used n) 32))
all_used n e = subst (λ (x : ℕ). T (not (ltb (used x) 32))) (sym e) tt

module _ (l : Limits) where
  pub counts_plain : after plain (counts l) ≡ counts (plainly l)
  unfolding after counts
  counts_plain = refl

  -- no prefix stands before: nothing to end
  pub counts_same : l.signs ≡ 32 → after plain (counts l) ≡ counts l
  unfolding after counts
  counts_same e = ap (λ (n : ℕ). record { brackets = used l.brackets; prefixes = used n; else_ifs = used l.chain; heads = used l.heads }) (sym e)

  pub counts_opened : 0 < l.brackets → after opens_bracket (counts l) ≡ counts (opened l)
  unfolding after counts
  counts_opened h = ap (λ (n : ℕ). record { brackets = n; prefixes = 0; else_ifs = used l.chain; heads = used l.heads }) (sym (used_more l.brackets h))

  pub counts_signed : 0 < l.signs → after is_prefix (counts l) ≡ counts (signed l)
  unfolding after counts
  counts_signed h = ap (λ (n : ℕ). record { brackets = used l.brackets; prefixes = n; else_ifs = used l.chain; heads = used l.heads }) (sym (used_more l.signs h))

  -- a head, and its body
  pub counts_headed : 0 < l.heads → after is_head (counts l) ≡ counts (headed (unchained l))
  unfolding after counts
  counts_headed h = ap (λ (n : ℕ). record { brackets = used l.brackets; prefixes = 0; else_ifs = 0; heads = n }) (sym (used_more l.heads h))

  pub counts_body : inside body (after is_head (counts l)) ≡ counts (unchained l)
  unfolding after inside counts
  counts_body = refl

  pub counts_chained : 0 < l.heads → 0 < l.chain → after is_else_if (counts l) ≡ counts (headed (chained l))
  unfolding after counts
  counts_chained h c = ap (λ (n : ℕ). record { brackets = used l.brackets; prefixes = 0; else_ifs = n; heads = suc (used l.heads) }) (sym (used_more l.chain c)) ∙ ap (λ (n : ℕ). record { brackets = used l.brackets; prefixes = 0; else_ifs = used (lessened l.chain); heads = n }) (sym (used_more l.heads h))

  pub counts_chain_body : 0 < l.chain → inside body (after is_else_if (counts l)) ≡ counts (chained l)
  unfolding after inside counts
  counts_chain_body c = ap (λ (n : ℕ). record { brackets = used l.brackets; prefixes = 0; else_ifs = n; heads = used l.heads }) (sym (used_more l.chain c))

  pub alike_counts : Alike (counts l) l
  unfolding counts
  alike_counts = record { brackets = refl; chain = refl; heads = refl }

  module _ {d : Counts} (g : Alike d l) where
    pub alike_plain : Alike (after plain d) l
    unfolding after counts
    alike_plain = record { brackets = g.brackets; chain = g.chain; heads = g.heads }

    pub alike_opened : 0 < l.brackets → after opens_bracket d ≡ counts (opened l)
    unfolding after counts
    alike_opened h = ap (λ (n : ℕ). record { brackets = suc n; prefixes = 0; else_ifs = d.else_ifs; heads = d.heads }) g.brackets ∙ ap (λ (n : ℕ). record { brackets = suc (used l.brackets); prefixes = 0; else_ifs = n; heads = d.heads }) g.chain ∙ ap (λ (n : ℕ). record { brackets = suc (used l.brackets); prefixes = 0; else_ifs = used l.chain; heads = n }) g.heads ∙ counts_opened h

    pub kept_opens : (x : Token) → 0 < l.brackets → T (kept opens_bracket d x)
    unfolding kept
    kept_opens x h = subst (λ (n : ℕ). T (ltb n 32)) (sym g.brackets) (few_used l.brackets h)

    pub full_opens : (x : Token) → l.brackets ≡ 0 → T (not (kept opens_bracket d x))
    unfolding kept
    full_opens x h = subst (λ (n : ℕ). T (not (ltb n 32))) (sym g.brackets) (all_used l.brackets h)

-- behind a list in brackets the counts are those behind a plain token
pub counts_listed : (d : Counts) → after closes_bracket (after opens_bracket d) ≡ after plain d
unfolding after
counts_listed d = refl

pub counts_inner : (d : Counts) → after plain (after opens_bracket d) ≡ after opens_bracket d
unfolding after
counts_inner d = refl

-- the same as laws of a phrase that is being read
word_tally : (y : Tally) (h : Here) (x : Node) (w : ℕ) → token_node h ≡ x → word_of h ≡ w → with_token y h ≡ with_word y x.start x.end w
word_tally y h x w e q = ap (λ (n : Node). with_word y n.start n.end (word_of h)) e ∙ ap (λ (n : ℕ). with_word y x.start x.end n) q

module _ {f : Phrase} {d : Counts} {ks : List Left} {h : Here} {t : List ℕ} {y : Tally} {v k : ℕ} {ss : List Symbol} {r : Read} where
  pub expects : (w : ℕ) {x : Node} {z : Here} → Going f (at d (token plain (w ∷ []) ∷ ss) ∷ ks) h t y v k → T (solid (w ∷ [])) → r ≡ expected f.text h w → r ≡ Ok (x, z) → Going f (at (after plain d) ss ∷ ks) z t (with_word y x.start x.end w) v (k + 4)
  unfolding kept
  expects w {x} {z} g o p q = let u = expected_done f.text h w p q in subst (λ (a : Tally). Going f (at (after plain d) ss ∷ ks) z t a v (k + 4)) (word_tally y h x w u.1.node u.0) (takes g o (is_word u.0) tt u.1.here)

  pub misses : (w : ℕ) {e : Refusal} {a : Rattle.grammar.specs.Grammar.Ask} → Going f (at d (token a (w ∷ []) ∷ ss) ∷ ks) h t y v k → T (lexed (w ∷ [])) → r ≡ expected f.text h w → r ≡ Err e → Stopped f e t
  misses w g o p q = let u = expected_refused f.text h w o p q in subst (λ (x : Refusal). Stopped f x t) u.1 (refuses_word g (λ m. u.0 (the_word m)))

  pub opens_on : (w : ℕ) (l : Limits) {x : Node} {z : Here} → Going f (at d (token opens_bracket (w ∷ []) ∷ ss) ∷ ks) h t y v k → T (solid (w ∷ [])) → Alike d l → r ≡ opening f.text h w l.brackets → r ≡ Ok (x, z) → Going f (at (after opens_bracket d) ss ∷ ks) z t (with_word y x.start x.end w) v (k + 4)
  opens_on w l {x} {z} g o a p q = let u = opening_done f.text h w l.brackets p q in subst (λ (b : Tally). Going f (at (after opens_bracket d) ss ∷ ks) z t b v (k + 4)) (word_tally y h x w u.2.node u.0) (takes g o (is_word u.0) (kept_opens l a _ u.1) u.2.here)

  pub opens_off : (w : ℕ) (l : Limits) {e : Refusal} → Going f (at d (token opens_bracket (w ∷ []) ∷ ss) ∷ ks) h t y v k → T (lexed (w ∷ [])) → Alike d l → r ≡ opening f.text h w l.brackets → r ≡ Err e → Stopped f e t
  opens_off w l g o a p q = elim (opening_refused f.text h w l.brackets o p q) [
    | inl u ↦ subst (λ (x : Refusal). Stopped f x t) u.1 (refuses_word g (λ m. u.0 (the_word m)))
    | inr u ↦ subst (λ (x : Refusal). Stopped f x t) u.2 (refuses_past g (lexed_solid (w ∷ []) o) (is_word u.0) (full_opens l a _ u.1))
  ]

  -- the bracket that closes; then the counts are those before it opened
  pub closes_on : (w : ℕ) {x : Node} {z : Here} → Going f (at d (token closes_bracket (w ∷ []) ∷ ss) ∷ ks) h t y v k → T (solid (w ∷ [])) → r ≡ expected f.text h w → r ≡ Ok (x, z) → Going f (at (after closes_bracket d) ss ∷ ks) z t (with_word y x.start x.end w) v (k + 4)
  unfolding kept
  closes_on w {x} {z} g o p q = let u = expected_done f.text h w p q in subst (λ (a : Tally). Going f (at (after closes_bracket d) ss ∷ ks) z t a v (k + 4)) (word_tally y h x w u.1.node u.0) (takes g o (is_word u.0) tt u.1.here)
