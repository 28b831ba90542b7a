-- How the definitions of a reader's answers follow from the tests that were made and the callees' answers.
use Rattle.std.specs.Prelude.{Ok, Err}
use mathlib.Core.Path.{◌≡◌, refl, sym, ap, ◌∙◌}
use Prim.Native.Nat.{ℕ, ◌+◌, ◌-◌, ◌<◌, ◌≤◌}
use mathlib.Core.Bool.{Bool, true, false, cond}
use mathlib.Core.List.{List}
use native.Mathlib.Omega.{arith}
use borrow.Author.Tests.{lt-ltb, le-ltb, eq-eqb, ne_eqb}
use Rattle.tokens.specs.declared.Cursor.{Cursor}
use Rattle.tokens.specs.declared.Refusal.{Refusal}
use Rattle.tokens.specs.Results.{Step}
use Rattle.tokens.specs.Tokens.{step_at}
use Rattle.parser.specs.declared.Here.{Here}
use Rattle.parser.specs.Results.{Read}
use Rattle.parser.specs.Places.{up_to, refused_word, step_word, step_start, step_end, step_next, step_unused, word_of, start_of, here_at, refusal_at, unused, passed, past, token_node, list_node, took_by, took, expected, under, opening, closing}
use Rattle.parser.specs.Counted.{lessened}

first : {A : Type 0} {t : Bool} {a x : A} (b : A) → t ≡ true → x ≡ a → x ≡ cond t a b
first b h g = rw h g

second : {A : Type 0} {t : Bool} (a : A) {b x : A} → t ≡ false → x ≡ b → x ≡ cond t a b
second a h g = rw h g

pub bump_more : (most n : ℕ) → n < most → (n + 1) ≡ up_to most n
bump_more most n h = first _ (lt-ltb _ _ h) refl

pub bump_same : (most n : ℕ) → most ≤ n → n ≡ up_to most n
bump_same most n h = second _ (le-ltb _ _ h) refl

pub lessened_full : (n : ℕ) → 32 < n → 31 ≡ lessened n
unfolding lessened
lessened_full n h = first _ (lt-ltb _ _ h) refl

pub lessened_is : (n x : ℕ) → n ≤ 32 → x ≡ n - 1 → x ≡ lessened n
unfolding lessened
lessened_is n x h e = second _ (le-ltb _ _ h) e

-- a word where there is no token
pub refused_over : (n : ℕ) {r : ℕ} → n ≡ 11 → r ≡ 0 → r ≡ refused_word n
unfolding refused_word
refused_over n e k = first _ (eq-eqb _ _ e) k

pub refused_quote : (n : ℕ) {r : ℕ} → n ≡ 5 → r ≡ 90 → r ≡ refused_word n
unfolding refused_word
refused_quote n e k = second _ (ne_eqb n 11 (λ q. absurd (omega (arith, q, e)))) (first _ (eq-eqb _ _ e) k)

pub refused_other : (n : ℕ) {r : ℕ} → (n ≡ 11 → ⊥) → (n ≡ 5 → ⊥) → r ≡ 99 → r ≡ refused_word n
unfolding refused_word
refused_other n e f k = second _ (ne_eqb _ _ e) (second _ (ne_eqb _ _ f) k)

-- a step taken apart
module _ {step : Step} where
  pub word_taken : {w a : ℕ} {next : Cursor} → step ≡ Ok (w, a, next) → w ≡ step_word step
  unfolding step_word
  word_taken e = rw e refl

  pub word_refused : {f : Refusal} {r : ℕ} → step ≡ Err f → r ≡ refused_word f.number → r ≡ step_word step
  unfolding step_word
  word_refused e k = rw e k

  pub start_taken : {w a : ℕ} {next : Cursor} → step ≡ Ok (w, a, next) → step_start step ≡ a
  unfolding step_start
  start_taken e = rw e refl

  pub end_taken : {w a : ℕ} {next : Cursor} → step ≡ Ok (w, a, next) → step_end step ≡ next.at
  unfolding step_end
  end_taken e = rw e refl

  pub next_taken : (place : ℕ) {w a : ℕ} {next : Cursor} → step ≡ Ok (w, a, next) → step_next place step ≡ next.at
  unfolding step_next
  next_taken place e = rw e refl

  pub end_refused : {f : Refusal} → step ≡ Err f → step_end step ≡ f.end
  unfolding step_end
  end_refused e = rw e refl

  pub start_refused : {f : Refusal} → step ≡ Err f → step_start step ≡ f.start
  unfolding step_start
  start_refused e = rw e refl

  pub took_taken : {w a : ℕ} {next : Cursor} {x r : Read} (y : Read) → step ≡ Ok (w, a, next) → r ≡ x → r ≡ took_by step x y
  unfolding took_by
  took_taken y e k = rw e k

  pub took_refused : {f : Refusal} (x : Read) {y r : Read} → step ≡ Err f → r ≡ y → r ≡ took_by step x y
  unfolding took_by
  took_refused x e k = rw e k

  pub unused_taken : {w a : ℕ} {next : Cursor} {r : Read} → step ≡ Ok (w, a, next) → r ≡ Err (refusal_at 6 a next.at) → r ≡ Err (step_unused step)
  unfolding step_unused
  unused_taken e k = rw e k

  pub unused_quote : {f : Refusal} {r : Read} → step ≡ Err f → f.number ≡ 5 → r ≡ Err (refusal_at 6 f.start f.end) → r ≡ Err (step_unused step)
  unfolding step_unused
  unused_quote e n k = k ∙ ap Err (rw e (first _ (eq-eqb _ _ n) refl))

  pub unused_other : {f : Refusal} {r : Read} → step ≡ Err f → (f.number ≡ 5 → ⊥) → r ≡ Err f → r ≡ Err (step_unused step)
  unfolding step_unused
  unused_other e n k = k ∙ ap Err (rw e (second _ (ne_eqb _ _ n) refl))

-- past a token whose step was taken apart
pub past_taken : (s : List ℕ) (h : Here) {w a : ℕ} {next : Cursor} {z : Here} → h.step ≡ Ok (w, a, next) → z ≡ here_at s next.at h.rows → Ok (record { kind = 0; start = a; end = next.at; children = 0 }, z) ≡ past s h
past_taken s h {w} {a} {next} {z} e k =
    let p = sym (start_taken e) in
    let q = sym (end_taken e) in
    let n = sym (next_taken h.place e) in
    ap (λ (x : ℕ). Ok (record { kind = 0; start = x; end = next.at; children = 0 }, z)) p ∙ ap (λ (x : ℕ). Ok (record { kind = 0; start = start_of h; end = x; children = 0 }, z)) q ∙ ap (λ (z : Here). Ok (token_node h, z)) (k ∙ ap (λ (x : ℕ). here_at s x h.rows) n)

pub list_taken : (s : List ℕ) (h : Here) (a' c : ℕ) {w a : ℕ} {next : Cursor} {z : Here} → h.step ≡ Ok (w, a, next) → z ≡ here_at s next.at h.rows → ◌≡◌ {A = Read} (Ok (record { kind = 0; start = a'; end = next.at; children = c }, z)) (Ok (list_node h a' c, passed s h))
list_taken s h a' c {w} {a} {next} {z} e k =
    ap (λ (x : ℕ). Ok (record { kind = 0; start = a'; end = x; children = c }, z)) (sym (end_taken e)) ∙ ap (λ (z : Here). Ok (list_node h a' c, z)) (k ∙ ap (λ (x : ℕ). here_at s x h.rows) (sym (next_taken h.place e)))

module _ (s : List ℕ) (h : Here) (w : ℕ) {r : Read} where
  pub expected_is : word_of h ≡ w → r ≡ took s h → r ≡ expected s h w
  unfolding expected
  expected_is e k = first _ (eq-eqb _ _ e) k

  pub expected_not : (word_of h ≡ w → ⊥) → r ≡ unused h → r ≡ expected s h w
  unfolding expected
  expected_not n k = second _ (ne_eqb _ _ n) k

  pub opening_is : (n : ℕ) → word_of h ≡ w → r ≡ under s h n → r ≡ opening s h w n
  unfolding opening
  opening_is n e k = first _ (eq-eqb _ _ e) k

  pub opening_not : (n : ℕ) → (word_of h ≡ w → ⊥) → r ≡ unused h → r ≡ opening s h w n
  unfolding opening
  opening_not n m k = second _ (ne_eqb _ _ m) k

  pub closing_is : (a c : ℕ) → word_of h ≡ w → r ≡ took_by h.step (Ok (list_node h a c, passed s h)) (unused h) → r ≡ closing s h w a c
  unfolding closing
  closing_is a c e k = first _ (eq-eqb _ _ e) k

  pub closing_not : (a c : ℕ) → (word_of h ≡ w → ⊥) → r ≡ unused h → r ≡ closing s h w a c
  unfolding closing
  closing_not a c m k = second _ (ne_eqb _ _ m) k

module _ (s : List ℕ) (h : Here) (n : ℕ) {r : Read} where
  pub under_in : (n ≡ 0 → ⊥) → {w a : ℕ} {next : Cursor} → h.step ≡ Ok (w, a, next) → r ≡ took s h → r ≡ under s h n
  unfolding under took_by
  under_in e f k = rw f (second _ (ne_eqb _ _ e) (k ∙ rw f refl))

  pub under_out : n ≡ 0 → {w a : ℕ} {next : Cursor} → h.step ≡ Ok (w, a, next) → r ≡ Err (refusal_at 9 a next.at) → r ≡ under s h n
  unfolding under took_by step_start step_end
  under_out e f k = rw f (first _ (eq-eqb _ _ e) k)

  pub under_none : {f : Refusal} → h.step ≡ Err f → r ≡ unused h → r ≡ under s h n
  unfolding under
  under_none f k = took_refused _ f k

-- under a limit that leaves some
pub under_on : (s : List ℕ) (h : Here) (n : ℕ) → (n ≡ 0 → ⊥) → {w a : ℕ} {next : Cursor} → h.step ≡ Ok (w, a, next) → past s h ≡ under s h n
unfolding under took_by
under_on s h n e f = rw f (second _ (ne_eqb _ _ e) refl)

-- behind a token that was taken apart
pub took_here : (s : List ℕ) (h : Here) {z : Here} {w a : ℕ} {next : Cursor} → h.step ≡ Ok (w, a, next) → z ≡ here_at s next.at h.rows → z ≡ passed s h
took_here s h e k = k ∙ ap (λ (x : ℕ). here_at s x h.rows) (sym (next_taken h.place e))

pub stepped_here : (s : List ℕ) (h : Here) {z : Here} {k : Step} {w a : ℕ} {next : Cursor} → h.step ≡ Ok (w, a, next) → k ≡ step_at s next.at → z ≡ record { step = k; place = next.at; rows = h.rows } → z ≡ passed s h
unfolding here_at
stepped_here s h {next = next} e q i = took_here s h e (i ∙ ap (λ (x : Step). record { step = x; place = next.at; rows = h.rows }) q)
