-- Where a reader stands, as the grammar sees it: the token there, the word that is peeked at, what is said of it.
use Rattle.std.specs.Prelude.{Ok, Err}
use mathlib.Core.Path.{◌≡◌, refl, sym, ap, subst, ◌∙◌}
use mathlib.Core.List.{List, [], ◌∷◌}
use mathlib.Core.Bool.{Bool, true, false, not, ◌&&◌, cond}
use mathlib.Core.Logic.{inl, inr, ◌≢◌}
use Prim.Native.Nat.{ℕ, ◌+◌, ◌*◌, ◌≤◌, ◌<◌}
use lib.Dec.{T, eqb, eqb→eq, eqb_refl, T_not, not_T}
use lib.ListN.{length}
use native.Mathlib.Omega.{arith}
use Rattle.tokens.specs.declared.Cursor.{Cursor}
use Rattle.tokens.specs.declared.Refusal.{Refusal}
use Rattle.tokens.specs.Results.{Step}
use Rattle.tokens.specs.Words.{code_of}
use Rattle.tokens.specs.Tokens.{step_at}
use Rattle.values.specs.Literals.{literal_of}
use Rattle.grammar.specs.Grammar.{Token, Look, found, over, wrong, one_of}
use Rattle.grammar.specs.Readings.{word_of_lem, peek}
use Rattle.grammar.specs.Refusals.{Why, said, said_at, said_text, lacks}
use Rattle.grammar.specs.Refusals as refusals
use Rattle.grammar.proofs.Bools.{and_l, and_r, or_l, or_cases}
use Rattle.grammar.proofs.Frame.{no_text}
use Rattle.tokens.proofs.Steps.{taken_good}
use Rattle.answers.specs.Source.{source, look_of}
use Rattle.answers.proofs.Ahead.{Steps, steps_token, steps_over, steps_quote, steps_wrong, step_goes}
use Rattle.parser.specs.declared.Here.{Here}
use Rattle.parser.specs.Results.{Read}
use Rattle.parser.specs.Places.{refused_word, step_word, step_start, step_end, step_next, step_unused, word_of, start_of, end_of, next_of, bumped, here_at, passed, later, refusal_at, unused_at, took_by}
use Rattle.parser.specs.Going.{language, token_of, Stands}

abbrev plainly : Refusal → refusals.Refusal
plainly r = record { number = r.number; start = r.start; end = r.end }

-- a reason that says 6 of a token, and nothing of its own elsewhere
abbrev pub Usual : Why → Type 0
Usual y = ((len : ℕ) (x : Token) → said_at len x y ≡ record { number = 6; start = x.start; end = x.end }) × ((len : ℕ) (q : refusals.Refusal) → said_text len y q ≡ q)

-- what a reader may see at a place
data Sees (s : List ℕ) (h : Here) : Look ℕ → Type 0 where
  sees_token : h.place < next_of h → next_of h ≤ length s → 0 < word_of h → word_of h < 99 → unused_at h ≡ refusal_at 6 (start_of h) (end_of h) → Sees s h (found (token_of s h) (next_of h))
  sees_over : word_of h ≡ 0 → next_of h ≡ h.place + 1 → unused_at h ≡ refusal_at 11 (length s) (length s) → Sees s h over
  sees_wrong : (r : Refusal) → word_of h ≡ 99 → next_of h ≡ h.place + 1 → unused_at h ≡ r → Sees s h (wrong r.number r.start r.end)

-- of a refusal only its number counts
abbrev SeesRefused : List ℕ → ℕ → ℕ → Refusal → Type 0
SeesRefused s place rows r = Sees s (record { step = Err r; place = place; rows = rows }) (look_of s (Err r))

numbered : (s : List ℕ) (place rows : ℕ) (r : Refusal) {n : ℕ} → r.number ≡ n → SeesRefused s place rows (refusal_at n r.start r.end) → SeesRefused s place rows r
numbered s place rows r q = subst (λ (y : ℕ). SeesRefused s place rows (refusal_at y r.start r.end)) (sym q)

sees_of : (s : List ℕ) (place rows : ℕ) (k : Step) → Steps s place k → Sees s (record { step = k; place = place; rows = rows }) (look_of s k)
unfolding literal_of code_of refused_word step_word step_start step_end step_next step_unused
sees_of s place rows (Ok (w, a, next)) (steps_token h m p v) = sees_token h m p (omega arith) refl
sees_of s place rows (Err r) steps_over = sees_over refl refl refl
sees_of s place rows (Err r) (steps_quote q l m) = numbered s place rows r q (sees_token l m (omega arith) (omega arith) refl)
sees_of s place rows (Err r) (steps_wrong q) = numbered s place rows r q (sees_wrong (refusal_at 4 r.start r.end) refl refl refl)

sees_at : (s : List ℕ) (place rows : ℕ) → Sees s (here_at s place rows) ((source s).look place)
unfolding here_at
sees_at s place rows = sees_of s place rows (step_at s place) (step_goes s place)

pub here_place : (s : List ℕ) (place rows : ℕ) → (here_at s place rows).place ≡ place
unfolding here_at
here_place s place rows = refl

pub here_rows : (s : List ℕ) (place rows : ℕ) → (here_at s place rows).rows ≡ rows
unfolding here_at
here_rows s place rows = refl

-- words of tokens that are no pieces of text
abbrev pub solid : List ℕ → Bool
solid w = no_text w && (not (one_of 0 w) && not (one_of 99 w))

-- words that the lexer takes: `f"` is none
abbrev pub lexed : List ℕ → Bool
lexed w = not (one_of 90 w) && solid w

module _ {s : List ℕ} {h : Here} (g : Stands s h) where
  sees : Sees s h ((source s).look h.place)
  sees = subst (λ (x : Here). Sees s x ((source s).look h.place)) (sym g.seen) (sees_at s h.place h.rows)

  pub peeks : peek (source s) language h.place ≡ word_of h
  peeks = go ((source s).look h.place) sees
    where
      go : (k : Look ℕ) → Sees s h k → word_of_lem (source s) language k ≡ word_of h
      go (found x j) (sees_token a b c d u) = refl
      go over (sees_over a b c) = sym a
      go (wrong n a e) (sees_wrong r w x v) = sym w

  pub word_small : word_of h < 100
  word_small = go ((source s).look h.place) sees
    where
      go : (k : Look ℕ) → Sees s h k → word_of h < 100
      go (found x j) (sees_token a b c d u) = omega arith
      go over (sees_over a b c) = omega arith
      go (wrong n a e) (sees_wrong r w x v) = omega arith

  pub next_small : next_of h ≤ length s + 1
  next_small = go ((source s).look h.place) sees
    where
      go : (k : Look ℕ) → Sees s h k → next_of h ≤ length s + 1
      go (found x j) (sees_token a b c d u) = omega arith
      go over (sees_over a b c) = let p = g.placed in omega (arith, b, p)
      go (wrong n a e) (sees_wrong r w x v) = let p = g.placed in omega (arith, x, p)

  -- a token: its place and bounds
  pub is_token : word_of h ≢ 0 → word_of h ≢ 99 → ((source s).look h.place ≡ found (token_of s h) (next_of h)) × (h.place < next_of h) × (next_of h ≤ length s)
  is_token a b = go ((source s).look h.place) sees
    where
      go : (k : Look ℕ) → Sees s h k → (k ≡ found (token_of s h) (next_of h)) × (h.place < next_of h) × (next_of h ≤ length s)
      go (found x j) (sees_token p q c d u) = (refl, p, q)
      go over (sees_over w x y) = absurd (a w)
      go (wrong n x e) (sees_wrong r w y v) = absurd (b w)

  -- the end
  pub is_over : word_of h ≡ 0 → (source s).look h.place ≡ over
  is_over e = go ((source s).look h.place) sees
    where
      go : (k : Look ℕ) → Sees s h k → k ≡ over
      go (found x j) (sees_token p q c d u) = absurd (omega (arith, e))
      go over (sees_over w x y) = refl
      go (wrong n x z) (sees_wrong r w y v) = let q : ◌≡◌ {A = ℕ} 99 0 = sym w ∙ e in absurd (omega (arith, q))

  pub not_over : word_of h ≢ 0 → (source s).look h.place ≡ over → ⊥
  not_over a = go ((source s).look h.place) sees
    where
      go : (k : Look ℕ) → Sees s h k → k ≡ over → ⊥
      go (found x j) (sees_token p q c d u) e = let z : ◌≡◌ {A = ℕ} 0 1 = cc in omega arith
      go over (sees_over w x y) e = a w
      go (wrong n x z) (sees_wrong r w y v) e = let q : ◌≡◌ {A = ℕ} 0 1 = cc in omega arith

  -- what is said where the token isn't usable
  pub says : (y : Why) → Usual y → said (length s) ((source s).look h.place) y ≡ plainly (unused_at h)
  says y u = go ((source s).look h.place) sees
    where
      go : (k : Look ℕ) → Sees s h k → said (length s) k y ≡ plainly (unused_at h)
      go (found x j) (sees_token p q c d v) = u.0 (length s) (token_of s h) ∙ sym (ap plainly v)
      go over (sees_over w x v) = u.1 (length s) (record { number = 11; start = length s; end = length s }) ∙ sym (ap plainly v)
      go (wrong n a e) (sees_wrong r w x v) = u.1 (length s) (record { number = n; start = a; end = e }) ∙ sym (ap plainly v)

  -- none of these words stands there
  pub lacking : (w : List ℕ) → (T (one_of (word_of h) w) → ⊥) → T (lacks ((source s).look h.place) w)
  lacking w n = go ((source s).look h.place) sees
    where
      go : (k : Look ℕ) → Sees s h k → T (lacks k w)
      go (found x j) (sees_token p q c d u) = not_T (one_of (word_of h) w) n
      go over (sees_over a b c) = tt
      go (wrong m a e) (sees_wrong r b x v) = tt

-- a word among solid ones is a token's
pub solid_word : (v : ℕ) (w : List ℕ) → T (solid w) → T (one_of v w) → (v ≢ 0) × (v ≢ 99)
solid_word v w t m =
    let k = and_r (no_text w) (not (one_of 0 w) && not (one_of 99 w)) t in
    (λ e. T_not (one_of 0 w) (and_l (not (one_of 0 w)) (not (one_of 99 w)) k) (subst (λ (x : ℕ). T (one_of x w)) e m), λ e. T_not (one_of 99 w) (and_r (not (one_of 0 w)) (not (one_of 99 w)) k) (subst (λ (x : ℕ). T (one_of x w)) e m))

pub lexed_solid : (w : List ℕ) → T (lexed w) → T (solid w)
lexed_solid w t = and_r (not (one_of 90 w)) (solid w) t

-- where one of them stands, the lexer took a token
no_refusal : {A : Type 0} (r : Refusal) (w : List ℕ) → T (lexed w) → T (one_of (step_word (Err r)) w) → A
unfolding step_word refused_word
no_refusal r w t m = absurd (go (eqb r.number 11) (eqb r.number 5) m)
  where
    go : (b c : Bool) → T (one_of (cond b 0 (cond c 90 99)) w) → ⊥
    go true c m = (solid_word 0 w (lexed_solid w t) m).0 refl
    go false true m = T_not (one_of 90 w) (and_l (not (one_of 90 w)) (solid w) t) m
    go false false m = (solid_word 99 w (lexed_solid w t) m).1 refl

pub never_untaken : {A : Type 0} {k : Step} {r : Refusal} (w : List ℕ) → T (lexed w) → T (one_of (step_word k) w) → k ≡ Err r → A
never_untaken {r = r} w t m e = no_refusal r w t (subst (λ (x : Step). T (one_of (step_word x) w)) e m)

pub is_taken : (k : Step) (w : List ℕ) → T (lexed w) → T (one_of (step_word k) w) → (x y : Read) → took_by k x y ≡ x
unfolding took_by
is_taken (Ok (v, a, next)) w t m x y = refl
is_taken (Err r) w t m x y = no_refusal r w t m

-- a token ends where the next place is
pub ends_next : (k : Step) (place : ℕ) (w : List ℕ) → T (solid w) → T (one_of (step_word k) w) → step_end k ≡ step_next place k
unfolding step_word refused_word step_end step_next
ends_next (Ok (v, a, next)) place w t m = refl
ends_next (Err r) place w t m = go (eqb r.number 11) (eqb r.number 5) m
  where
    go : (b c : Bool) → T (one_of (cond b 0 (cond c 90 99)) w) → r.end ≡ cond c r.end (place + 1)
    go true c m = absurd ((solid_word 0 w t m).0 refl)
    go false true m = refl
    go false false m = absurd ((solid_word 99 w t m).1 refl)

-- at a place further on
pub stands_at : {s : List ℕ} {h h' : Here} {j n : ℕ} → Stands s h → j ≤ length s → n ≤ 4 * j + 4 → h' ≡ here_at s j n → Stands s h' × (h'.place ≡ j) × (j < next_of h') × (h'.rows ≡ n)
stands_at {s} {h} {h'} {j} {n} g b f e =
    let p : h'.place ≡ j = ap (λ (x : Here). x.place) e ∙ here_place s j n in
    let r : h'.rows ≡ n = ap (λ (x : Here). x.rows) e ∙ here_rows s j n in
    let l = next_after ((source s).look j) (sees_at s j n) in
    let o : next_of h' ≡ next_of (here_at s j n) = ap (λ (x : Here). next_of x) e in
    let z : j < next_of h' = omega arith in
    (record { short = g.short; seen = e ∙ ap (λ (x : ℕ). here_at s x n) (sym p) ∙ ap (here_at s h'.place) (sym r); placed = omega (arith, b, p); few = omega (arith, f, r, z) }, p, z, r)
  where
    next_after : (k : Look ℕ) → Sees s (here_at s j n) k → j < next_of (here_at s j n)
    next_after (found x i) (sees_token p q' c d u) = let e = here_place s j n in omega arith
    next_after over (sees_over w x y) = let e = here_place s j n in omega (arith, e, x)
    next_after (wrong m x y) (sees_wrong r w z v) = let e = here_place s j n in omega (arith, e, z)

-- behind a token
pub goes_past : {s : List ℕ} {h h' : Here} → Stands s h → word_of h ≢ 0 → word_of h ≢ 99 → h' ≡ passed s h → Stands s h' × (h'.place ≡ next_of h) × (next_of h < next_of h') × (h'.rows ≡ h.rows)
goes_past {s} {h} {h'} g a b e = let f = g.few in stands_at g (is_token g a b).2 (omega arith) e

-- with one row more
pub more_rows : {s : List ℕ} {h h' : Here} → Stands s h → h' ≡ later h → h'.rows ≤ 4 * next_of h' → Stands s h'
unfolding here_at
more_rows {s} {h} {h'} g e f =
    let n : ℕ = bumped h.rows in
    let p : h'.place ≡ h.place = ap (λ (x : Here). x.place) e in
    let r : h'.rows ≡ n = ap (λ (x : Here). x.rows) e in
    let l = g.placed in
    record {
      short = g.short;
      seen = e ∙ ap (λ (k : Step). record { step = k; place = h.place; rows = n }) (ap (λ (x : Here). x.step) g.seen) ∙ ap (λ (x : ℕ). here_at s x n) (sym p) ∙ ap (here_at s h'.place) (sym r);
      placed = omega (arith, p, l);
      few = f;
    }

-- behind one of these words
pub past_word : {s : List ℕ} {h h' : Here} (w : List ℕ) → Stands s h → T (solid w) → T (one_of (word_of h) w) → h' ≡ passed s h → Stands s h' × (next_of h < next_of h') × (h'.rows ≡ h.rows)
past_word {h = h} w g o m e = let n = solid_word (word_of h) w o m in let k = goes_past g n.0 n.1 e in (k.0, k.2, k.3)

-- one word alone
pub the_word : {x c : ℕ} → T (one_of x (c ∷ [])) → x ≡ c
the_word {x} {c} t = elim (or_cases (eqb x c) false t) [ inl e ↦ eqb→eq x c e | inr e ↦ absurd e ]

pub is_word : {x c : ℕ} → x ≡ c → T (one_of x (c ∷ []))
is_word {x} {c} e = or_l (eqb x c) false (subst (λ (y : ℕ). T (eqb x y)) e (eqb_refl x))

-- what the lexer takes is no `f"`
pub f_quote_untaken : {A : Type 0} {s : List ℕ} {h : Here} {w a : ℕ} {next : Cursor} → Stands s h → word_of h ≡ 90 → h.step ≡ Ok (w, a, next) → A
unfolding here_at step_word
f_quote_untaken {s = s} {h = h} {w} {a} {next} g e q = absurd (go (step_at s h.place) (step_goes s h.place) (sym (ap (λ (x : Here). x.step) g.seen) ∙ q))
  where
    is : 90 ≡ w
    is = sym e ∙ ap step_word q

    go : (k : Step) → Steps s h.place k → k ≡ Ok (w, a, next) → ⊥
    go (Ok (v, b, z)) (steps_token x y p u) i = let j : v ≡ w = ap step_word i in omega (arith, u, j, is)
    go (Err r) x i = let z : ◌≡◌ {A = ℕ} 0 1 = cc in omega arith

-- where a token starts
pub start_small : {s : List ℕ} {h : Here} (w : List ℕ) → T (lexed w) → T (one_of (word_of h) w) → Stands s h → start_of h < 65536
unfolding here_at step_start
start_small {s} {h} w t m g = go h.step refl
  where
    go : (k : Step) → h.step ≡ k → step_start k < 65536
    go (Ok (v, a, next)) e = let x = taken_good s h.place (sym (ap (λ (x : Here). x.step) g.seen) ∙ e) in let y = g.short in omega (arith, x.1, x.2, y)
    go (Err r) e = never_untaken w t m e
