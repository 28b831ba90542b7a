-- Heads and chains of `else if` are the tree's: whether they keep to the limit in a reading is told by the trees that it leaves.
use mathlib.Core.Path.{◌≡◌, refl, sym, ap, subst, ◌∙◌}
use mathlib.Core.Logic.{inl, inr}
use mathlib.Core.List.{List, [], ◌∷◌}
use mathlib.Core.Bool.{Bool, true, false, not, ◌&&◌, ◌||◌, cond}
use Prim.Native.Nat.{ℕ, zero, suc, ◌≤◌}
use native.Mathlib.Omega.{arith}
use lib.Dec.{T, T_not, eqb, ltb, ltb→lt, lt→ltb}
use Rattle.rows.specs.Kinds as kinds
use Rattle.grammar.specs.Words.{'if', 'while', 'for', 'match', 'else', 'in', open_brace, close_brace, literals}
use Rattle.grammar.specs.Grammar.{Ask, plain, has_value, opens_bracket, closes_bracket, is_prefix, is_head, is_else_if, In, same, body, Symbol, token, phrase, unless, note, left_side, text, Token, Stream, Parts, end, leaf, node, mark, one_of, alternatives}
use Rattle.grammar.specs.Kinds.{no_records, NAME, BLOCK, STATEMENTS, LITERAL, FOUR, ELSE, ELSE_PART, ELSE_IF, ARMS, EXPR}
use Rattle.grammar.specs.Limits.{Counts, zeros, after, inside, limit}
use Rattle.grammar.specs.Table.{a, word, opens, closes, head, literal, behind, row, rest_kinds, literal_row}
use Rattle.grammar.specs.Language.{roto, start}
use Rattle.grammar.specs.Readings.{ReadingBy, reads_end, reads_token, reads_phrase, reads_unless, reads_note, reads_side, reads_text}
use Rattle.grammar.specs.Rows.{is_text, detail_for}
use Rattle.grammar.proofs.Bools.{and_l, and_r, both, or_cases}
use Rattle.grammar.proofs.Pass.{each_passes, passes_at}
use Rattle.grammar.proofs.Frame.{plain_word}
use Rattle.canon.specs.Trees.{Forest, none, tree}
use Rattle.canon.specs.Layout.{is_four}
use Rattle.printing.specs.Groves.{Head, Grove, nil, top, beside, State, fresh, with_word, with_text, add, leave, head_for, noted, labelled, grow}
use Rattle.printing.specs.Groves as groves
use Rattle.printing.proofs.Lists.{l, grow_phrase, grow_rest, grow_leaf}
use Rattle.printing.proofs.Exprs.{beside_nil}
use Rattle.printing.proofs.Back.{alt_at}
use Rattle.forests.proofs.Places.{one_of_each}
use Rattle.limits.proofs.Tested.{headless, Tested, AllHeads}
use Rattle.limits.proofs.Singles.{One, leaves_one}

abbrev pub Iff : Type 0 → Type 0 → Type 0
Iff A B = (A → B) × (B → A)

-- ---- trees

-- Where a tree stands in its row: anywhere; among the first so many, in the head; first, second and third of an `if`, the chain being so long.
pub data Mode : Type 0 where
  flat : Mode
  ahead cond_at block_at else_at : ℕ → Mode

abbrev pub heads_at : ℕ → Mode → ℕ
heads_at h flat = h
heads_at h (ahead zero) = h
heads_at h (ahead (suc j)) = suc h
heads_at h (cond_at e) = suc h
heads_at h (block_at e) = h
heads_at h (else_at e) = h

abbrev pub chain_at : Mode → ℕ
chain_at flat = 0
chain_at (ahead j) = 0
chain_at (cond_at e) = 0
chain_at (block_at e) = 0
chain_at (else_at e) = suc e

abbrev pub next : Mode → Mode
next flat = flat
next (ahead zero) = ahead zero
next (ahead (suc j)) = ahead j
next (cond_at e) = block_at e
next (block_at e) = else_at e
next (else_at e) = flat

abbrev pub mode_of : ℕ → ℕ → Mode
mode_of k e = cond (eqb k kinds.IF) (cond_at e) (cond (eqb k kinds.WHILE) (ahead 1) (cond (eqb k kinds.FOR) (ahead 2) (cond (eqb k kinds.MATCH) (ahead 1) flat)))

abbrev pub Here : ℕ → ℕ → ℕ → Forest → Type 0
Here h e k none = Unit {0}
Here h e k (tree b ks ts) = (T (is_four k) → T (ltb h limit)) × (T (eqb k kinds.IF) → e ≤ limit)

-- in trees that stand in h heads no limit is passed
unfoldable pub Fit : ℕ → Mode → Forest → Type 0
Fit h m none = Unit {0}
Fit h m (tree b ks ts) = Here (heads_at h m) (chain_at m) b.kind ks × Fit (heads_at h m) (mode_of b.kind (chain_at m)) ks × Fit h (next m) ts

ahead_none : (h : ℕ) (f : Forest) → Iff (Fit h flat f) (Fit h (ahead 0) f)
unfolding Fit
ahead_none h none = (λ x. tt, λ x. tt)
ahead_none h (tree b ks ts) = let r = ahead_none h ts in (λ x. (x.0, x.1, r.0 x.2), λ x. (x.0, x.1, r.1 x.2))

-- a row that is none of the four asks what its trees ask
no_four : (k e : ℕ) → T (not (is_four k)) → mode_of k e ≡ flat
no_four k e t = go (eqb k kinds.IF) (eqb k kinds.WHILE) (eqb k kinds.FOR) (eqb k kinds.MATCH) t
  where
    go : (p q r u : Bool) → T (not (p || (q || (r || (u || false))))) → cond p (cond_at e) (cond q (ahead 1) (cond r (ahead 2) (cond u (ahead 1) flat))) ≡ flat
    go true q r u t = absurd t
    go false true r u t = absurd t
    go false false true u t = absurd t
    go false false false true t = absurd t
    go false false false false t = refl

no_if : (k : ℕ) → T (not (is_four k)) → T (eqb k kinds.IF) → ⊥
no_if k t u = go (eqb k kinds.IF) _ t u
  where
    go : (p q : Bool) → T (not (p || q)) → T p → ⊥
    go true q t u = t
    go false q t u = u

here_plain : (h e k : ℕ) (f : Forest) → T (not (is_four k)) → Here h e k f
here_plain h e k none t = tt
here_plain h e k (tree b ks ts) t = (λ u. absurd (T_not (is_four k) t u), λ u. absurd (no_if k t u))

plain_row : (h e k : ℕ) (f : Forest) → T (not (is_four k)) → Iff (Fit h flat f) (Here h e k f × Fit h (mode_of k e) f × Unit {0})
plain_row h e k f t = (λ x. (here_plain h e k f t, subst (λ (m : Mode). Fit h m f) (sym (no_four k e t)) x, tt), λ x. subst (λ (m : Mode). Fit h m f) (no_four k e t) x.1)

-- ---- readings

data Class : Type 0 where
  elses else_if follows own : Class

abbrev class : ℕ → Class
class n = cond (one_of n (ELSE ∷ ELSE_PART ∷ [])) elses (cond (eqb n ELSE_IF) else_if (cond (one_of n rest_kinds) follows own))

abbrev simple : ℕ → Bool
simple n = not (one_of n (ELSE ∷ ELSE_PART ∷ [])) && not (eqb n ELSE_IF)

abbrev flat_note : ℕ → Bool
flat_note k = eqb k 0 || (not (is_four k) && not (eqb k literal_row))

-- alternatives with no head in them
abbrev level : List Symbol → Bool
level [] = true
level (token g w ∷ t) = headless g && level t
level (phrase same n ∷ t) = simple n && level t
level (phrase body n ∷ t) = false
level (unless w ∷ t) = level t
level (note k ∷ t) = flat_note k && level t
level (left_side n m ∷ t) = (simple n && simple m) && level t
level (text n ∷ t) = simple n && level t

abbrev special : List ℕ
special = FOUR ∷ ELSE ∷ ELSE_PART ∷ ELSE_IF ∷ LITERAL ∷ []

abbrev leveled : ℕ → List Symbol → Bool
leveled n t = one_of n special || level t

all_level : T (each_passes leveled l.rules)
unfolding roto
all_level = tt

level_if : (b : Bool) (n : ℕ) (t : List Symbol) → T (simple n) → T (level t) → T (level (cond b (phrase same n ∷ t) t))
level_if true n t h k = both (simple n) (level t) h k
level_if false n t h k = k

tested_calm : (g : Ask) (d : Counts) → T (headless g) → Tested g d × ((after g d).heads ≡ d.heads)
unfolding after
tested_calm plain d t = (tt, refl)
tested_calm has_value d t = (tt, refl)
tested_calm opens_bracket d t = (tt, refl)
tested_calm closes_bracket d t = (tt, refl)
tested_calm is_prefix d t = (tt, refl)
tested_calm is_head d t = absurd t
tested_calm is_else_if d t = absurd t

-- what an `if` has read before its `else`, and what it leaves
abbrev two_on : Token → Parts → Parts → State
two_on x p₁ p₂ = leave false (leave false (with_word x fresh) (grow p₁ fresh)) (grow p₂ fresh)

if_grown : (x : Token) (a₁ a₂ a₃ : List Symbol) (p₁ p₂ p₃ : Parts) → is_text x ≡ false → (grow (leaf x (node (EXPR no_records) a₁ p₁ (node BLOCK a₂ p₂ (node ELSE a₃ p₃ (mark kinds.IF end))))) fresh).kids ≡ top (head_for kinds.IF (grow p₃ (two_on x p₁ p₂))) (grow p₃ (two_on x p₁ p₂)).kids nil
unfolding grow
if_grown x a₁ a₂ a₃ p₁ p₂ p₃ t = ap (λ (b : State). b.kids)
    (grow_leaf x (node (EXPR no_records) a₁ p₁ (node BLOCK a₂ p₂ (node ELSE a₃ p₃ (mark kinds.IF end)))) fresh t
    ∙ grow_phrase (EXPR no_records) a₁ p₁ (node BLOCK a₂ p₂ (node ELSE a₃ p₃ (mark kinds.IF end))) (with_word x fresh) refl
    ∙ grow_phrase BLOCK a₂ p₂ (node ELSE a₃ p₃ (mark kinds.IF end)) (leave false (with_word x fresh) (grow p₁ fresh)) refl
    ∙ grow_rest ELSE a₃ p₃ (mark kinds.IF end) (two_on x p₁ p₂) refl)

while_grown : (x : Token) (a₁ a₂ : List Symbol) (p₁ p₂ : Parts) → is_text x ≡ false → (grow (leaf x (node (EXPR no_records) a₁ p₁ (node BLOCK a₂ p₂ (mark kinds.WHILE end)))) fresh).kids ≡ top (head_for kinds.WHILE (two_on x p₁ p₂)) (beside (grow p₁ fresh).kids (grow p₂ fresh).kids) nil
unfolding grow
while_grown x a₁ a₂ p₁ p₂ t = ap (λ (b : State). b.kids)
    (grow_leaf x (node (EXPR no_records) a₁ p₁ (node BLOCK a₂ p₂ (mark kinds.WHILE end))) fresh t
    ∙ grow_phrase (EXPR no_records) a₁ p₁ (node BLOCK a₂ p₂ (mark kinds.WHILE end)) (with_word x fresh) refl
    ∙ grow_phrase BLOCK a₂ p₂ (mark kinds.WHILE end) (leave false (with_word x fresh) (grow p₁ fresh)) refl)

abbrev name_on : Token → Parts → Token → State
name_on x p₀ y = with_word y (leave false (with_word x fresh) (grow p₀ fresh))

for_grown : (x y : Token) (a₀ a₁ a₂ : List Symbol) (p₀ p₁ p₂ : Parts) → is_text x ≡ false → is_text y ≡ false → (grow (leaf x (node NAME a₀ p₀ (leaf y (node (EXPR no_records) a₁ p₁ (node BLOCK a₂ p₂ (mark kinds.FOR end)))))) fresh).kids ≡ top (head_for kinds.FOR (leave false (leave false (name_on x p₀ y) (grow p₁ fresh)) (grow p₂ fresh))) (beside (beside (grow p₀ fresh).kids (grow p₁ fresh).kids) (grow p₂ fresh).kids) nil
unfolding grow
for_grown x y a₀ a₁ a₂ p₀ p₁ p₂ t t' = ap (λ (b : State). b.kids)
    (grow_leaf x (node NAME a₀ p₀ (leaf y (node (EXPR no_records) a₁ p₁ (node BLOCK a₂ p₂ (mark kinds.FOR end))))) fresh t
    ∙ grow_phrase NAME a₀ p₀ (leaf y (node (EXPR no_records) a₁ p₁ (node BLOCK a₂ p₂ (mark kinds.FOR end)))) (with_word x fresh) refl
    ∙ grow_leaf y (node (EXPR no_records) a₁ p₁ (node BLOCK a₂ p₂ (mark kinds.FOR end))) (leave false (with_word x fresh) (grow p₀ fresh)) t'
    ∙ grow_phrase (EXPR no_records) a₁ p₁ (node BLOCK a₂ p₂ (mark kinds.FOR end)) (name_on x p₀ y) refl
    ∙ grow_phrase BLOCK a₂ p₂ (mark kinds.FOR end) (leave false (name_on x p₀ y) (grow p₁ fresh)) refl)

abbrev arms_on : Token → Parts → Token → Parts → Token → State
arms_on x p₁ y p₂ z = with_word z (leave false (with_word y (leave false (with_word x fresh) (grow p₁ fresh))) (grow p₂ fresh))

match_grown : (x y z : Token) (a₁ a₂ : List Symbol) (p₁ p₂ : Parts) → is_text x ≡ false → is_text y ≡ false → is_text z ≡ false → (grow (leaf x (node (EXPR no_records) a₁ p₁ (leaf y (node ARMS a₂ p₂ (leaf z (mark kinds.MATCH end)))))) fresh).kids ≡ top (head_for kinds.MATCH (arms_on x p₁ y p₂ z)) (beside (grow p₁ fresh).kids (grow p₂ fresh).kids) nil
unfolding grow
match_grown x y z a₁ a₂ p₁ p₂ t t' t'' = ap (λ (b : State). b.kids)
    (grow_leaf x (node (EXPR no_records) a₁ p₁ (leaf y (node ARMS a₂ p₂ (leaf z (mark kinds.MATCH end))))) fresh t
    ∙ grow_phrase (EXPR no_records) a₁ p₁ (leaf y (node ARMS a₂ p₂ (leaf z (mark kinds.MATCH end)))) (with_word x fresh) refl
    ∙ grow_leaf y (node ARMS a₂ p₂ (leaf z (mark kinds.MATCH end))) (leave false (with_word x fresh) (grow p₁ fresh)) t'
    ∙ grow_phrase ARMS a₂ p₂ (leaf z (mark kinds.MATCH end)) (with_word y (leave false (with_word x fresh) (grow p₁ fresh))) refl
    ∙ grow_leaf z (mark kinds.MATCH end) (leave false (with_word y (leave false (with_word x fresh) (grow p₁ fresh))) (grow p₂ fresh)) t'')

block_grown : (x y : Token) (a₁ : List Symbol) (p₁ : Parts) → is_text x ≡ false → is_text y ≡ false → (h : Head) × (k : Grove) × ((grow (leaf x (node STATEMENTS a₁ p₁ (leaf y (mark kinds.BLOCK end)))) fresh).kids ≡ top h k nil) × (h.kind ≡ kinds.BLOCK)
unfolding grow
block_grown x y a₁ p₁ t t' =
    let b = with_word y (grow p₁ (with_word x fresh)) in
    (head_for kinds.BLOCK b, b.kids, ap (λ (b : State). b.kids) (grow_leaf x (node STATEMENTS a₁ p₁ (leaf y (mark kinds.BLOCK end))) fresh t ∙ grow_rest STATEMENTS a₁ p₁ (leaf y (mark kinds.BLOCK end)) (with_word x fresh) refl ∙ grow_leaf y (mark kinds.BLOCK end) (grow p₁ (with_word x fresh)) t'), refl)

chained : (h e : ℕ) → Iff (T (ltb h limit && ltb e limit)) (T (ltb h limit) × (suc e ≤ limit))
chained h e = (λ t. let k = ltb→lt e limit (and_r (ltb h limit) (ltb e limit) t) in (and_l (ltb h limit) (ltb e limit) t, omega (arith, k)), λ v. let k = v.1 in both (ltb h limit) (ltb e limit) v.0 (lt→ltb e limit (omega (arith, k))))

is_block : {t : List Symbol} → In t (alternatives l BLOCK) → t ≡ opens open_brace ∷ a STATEMENTS ∷ closes close_brace ∷ row kinds.BLOCK ∷ []
unfolding roto
is_block {t} o = alt_at (λ (c : List Symbol). c ≡ opens open_brace ∷ a STATEMENTS ∷ closes close_brace ∷ row kinds.BLOCK ∷ []) o (refl, tt)

module _ (s : List ℕ) where
  abbrev pub F : ℕ → Mode → Grove → Type 0
  F h m g = Fit h m (labelled s g)

  beside_fit : (h : ℕ) (g k : Grove) → Iff (F h flat g × F h flat k) (F h flat (beside g k))
  unfolding Fit
  beside_fit h nil k = (λ x. x.1, λ x. (tt, x))
  beside_fit h (top b ks t) k = let r = beside_fit h t k in (λ x. (x.0.0, x.0.1, r.0 (x.0.2, x.1)), λ x. let z = r.1 x.2 in ((x.0, x.1, z.0), z.1))

  abbrev Holds : Class → ℕ → ℕ → Parts → Type 0 → Type 0
  Holds elses h e p A = (b : State) → (x : Grove) × ((grow p b).kids ≡ beside b.kids x) × Iff A (F h (else_at e) x)
  Holds else_if h e p A = Iff A (F h (else_at e) (grow p fresh).kids)
  Holds follows h e p A = (b : State) → Iff (A × F h flat b.kids) (F h flat (grow p b).kids)
  Holds own h e p A = Iff A (F h flat (grow p fresh).kids)

  -- a token adds no tree with trees under it
  add_fit : (h : ℕ) (x : Token) (b : State) → Iff (F h flat b.kids) (F h flat (add x b).kids)
  unfolding Fit
  add_fit h x b = go (is_text x) (eqb x.value 0)
    where
      go : (p q : Bool) → Iff (F h flat b.kids) (F h flat (cond {A = State} p (cond {A = State} q (with_word x b) (with_text x b)) (with_word x b)).kids)
      go true true = (λ y. y, λ y. y)
      go true false = let r = beside_fit h b.kids (top (groves.text_head x) nil nil) in (λ y. r.0 (y, (tt, tt, tt)), λ y. (r.1 y).0)
      go false q = (λ y. y, λ y. y)

  note_fit : (h k : ℕ) (b : State) → T (flat_note k) → Iff (F h flat b.kids) (F h flat (noted k b).kids)
  unfolding Fit
  note_fit h k b t = go (eqb k 0) (eqb k literal_row) t
    where
      go : (p q : Bool) → T (p || (not (is_four k) && not q)) → Iff (F h flat b.kids) (F h flat (cond {A = State} p (record { kids = b.kids; sign = b.sign; lead = b.lead; part = 1; read = b.read }) (record { kids = top (groves.keep (cond {A = Head} q (groves.literal_head b.lead b.kids) (record { kind = k; value = b.part; detail = detail_for k (groves.sign_in b.sign); tokens = [] })) b.read) b.kids nil; sign = []; lead = groves.row; part = 0; read = b.read })).kids)
      go true q t = (λ y. y, λ y. y)
      go false true t = absurd (and_r (not (is_four k)) false t)
      go false false t = plain_row h 0 k (labelled s b.kids) (and_l (not (is_four k)) true t)

  -- a phrase, then the rest
  phrase_fit : (n h e : ℕ) (al : List Symbol) (p q : Parts) (b : State) (A B : Type 0) → T (simple n) → Holds (class n) h e p A → ((c : State) → Iff (B × F h flat c.kids) (F h flat (grow q c).kids)) → Iff ((A × B) × F h flat b.kids) (F h flat (grow (node n al p q) b).kids)
  phrase_fit n h e al p q b A B t c rec = go (one_of n (ELSE ∷ ELSE_PART ∷ [])) (eqb n ELSE_IF) (one_of n rest_kinds) refl t c
    where
      go : (x y z : Bool) → one_of n rest_kinds ≡ z → T (not x && not y) → Holds (cond x elses (cond y else_if (cond z follows own))) h e p A → Iff ((A × B) × F h flat b.kids) (F h flat (grow (node n al p q) b).kids)
      go true y z i t c = absurd t
      go false true z i t c = absurd t
      go false false true i t c =
          let r = rec (grow p b) in
          let u = c b in
          subst (λ (g : Grove). Iff ((A × B) × F h flat b.kids) (F h flat g)) (sym (ap (λ (w : State). w.kids) (grow_rest n al p q b i))) (λ v. r.0 (v.0.1, u.0 (v.0.0, v.1)), λ v. let w = r.1 v in let o = u.1 w.1 in ((o.0, w.0), o.1))
      go false false false i t c =
          let r = rec (leave false b (grow p fresh)) in
          let k = beside_fit h b.kids (grow p fresh).kids in
          subst (λ (g : Grove). Iff ((A × B) × F h flat b.kids) (F h flat g)) (sym (ap (λ (w : State). w.kids) (grow_phrase n al p q b i))) (λ v. r.0 (v.0.1, k.0 (v.1, c.0 v.0.0)), λ v. let w = r.1 v in let o = k.1 w.1 in ((c.1 o.1, w.0), o.0))

  -- ---- the four

  if_fit : (h e : ℕ) (g k x : Grove) → One g → One k → Iff (F (suc h) flat g × F h flat k × F h (else_at e) x) (F h (cond_at e) (beside (beside g k) x))
  unfolding Fit
  if_fit h e g k x o o' = subst (λ (y : Grove). Iff (F (suc h) flat y × F h flat k × F h (else_at e) x) (F h (cond_at e) (beside (beside y k) x))) (sym o.2) (subst (λ (y : Grove). Iff (F (suc h) flat (top o.0 o.1 nil) × F h flat y × F h (else_at e) x) (F h (cond_at e) (beside (beside (top o.0 o.1 nil) y) x))) (sym o'.2)
      (λ v. (v.0.0, v.0.1, (v.1.0, v.1.1, v.2)), λ v. ((v.0, v.1, tt), (v.2.0, v.2.1, tt), v.2.2)))

  -- some tree stands in it
  here_if : (h e : ℕ) (g k x : Grove) → One g → Iff (T (ltb h limit) × (e ≤ limit)) (Here h e kinds.IF (labelled s (beside (beside g k) x)))
  here_if h e g k x o = subst (λ (y : Grove). Iff (T (ltb h limit) × (e ≤ limit)) (Here h e kinds.IF (labelled s (beside (beside y k) x)))) (sym o.2) (λ v. (λ t. v.0, λ t. v.1), λ v. (v.0 tt, v.1 tt))

  -- a head's trees: the first, and then some; the first two, and then some
  one_fit : (h : ℕ) (g k : Grove) → One g → Iff (F (suc h) flat g × F h flat k) (F h (ahead 1) (beside g k))
  unfolding Fit
  one_fit h g k o = let r = ahead_none h (labelled s k) in subst (λ (y : Grove). Iff (F (suc h) flat y × F h flat k) (F h (ahead 1) (beside y k))) (sym o.2) (λ v. (v.0.0, v.0.1, r.0 v.1), λ v. ((v.0, v.1, tt), r.1 v.2))

  two_fit : (h : ℕ) (f g k : Grove) → One f → One g → Iff (F (suc h) flat f × F (suc h) flat g × F h flat k) (F h (ahead 2) (beside (beside f g) k))
  unfolding Fit
  two_fit h f g k o o' =
      let r = one_fit h g k o' in
      let q : Iff (F (suc h) flat (top o.0 o.1 nil) × F (suc h) flat g × F h flat k) (F h (ahead 2) (top o.0 o.1 (beside g k))) = (λ v. (v.0.0, v.0.1, r.0 (v.1, v.2)), λ v. let y = r.1 v.2 in ((v.0, v.1, tt), y.0, y.1)) in
      subst (λ (y : Grove). Iff (F (suc h) flat y × F (suc h) flat g × F h flat k) (F h (ahead 2) (beside (beside y g) k))) (sym o.2) q

  here_four : (h k : ℕ) (g x : Grove) → T (is_four k) → (T (eqb k kinds.IF) → ⊥) → One g → Iff (T (ltb h limit)) (Here h 0 k (labelled s (beside g x)))
  here_four h k g x t n o = subst (λ (y : Grove). Iff (T (ltb h limit)) (Here h 0 k (labelled s (beside y x)))) (sym o.2) (λ v. (λ u. v, λ u. absurd (n u)), λ v. v.0 t)

  one_beside : (g x y : Grove) → One g → beside (beside g x) y ≡ beside g (beside x y)
  one_beside g x y o = subst (λ (z : Grove). beside (beside z x) y ≡ beside z (beside x y)) (sym o.2) refl

  -- a block behind `else` is a block
  block_fit : (h e : ℕ) (g : Grove) → (b : Head) × (k : Grove) × (g ≡ top b k nil) × (b.kind ≡ kinds.BLOCK) → Iff (F h flat g) (F h (else_at e) g)
  unfolding Fit
  block_fit h e g o =
      let b = o.0 in
      let f = labelled s o.1 in
      let t : T (not (is_four b.kind)) = subst (λ (k : ℕ). T (not (is_four k))) (sym o.3) tt in
      let r = plain_row h 0 b.kind f t in
      let q = plain_row h (suc e) b.kind f t in
      subst (λ (y : Grove). Iff (F h flat y) (F h (else_at e) y)) (sym o.2) (λ v. q.0 (r.1 v), λ v. r.0 (q.1 v))

  module _ {S : Stream} {G : Ask → Counts → Token → Bool} where
    -- what is claimed of each phrase that is entered
    unfoldable AllC : {d : Counts} {t : List Symbol} {i r : S.Place} {p : Parts} → ReadingBy S l G d t i r p → Type 0
    AllC reads_end = Unit {0}
    AllC (reads_token e m k u) = AllC u
    AllC (reads_phrase {d = d} {n = n} {o = o} {p = p} y u v) = Holds (class n) (inside o d).heads (inside o d).else_ifs p (AllHeads u) × AllC v
    AllC (reads_unless m u) = AllC u
    AllC (reads_note u) = AllC u
    AllC (reads_side {d = d} {n = n} {p = p} y u k v) = Holds (class n) d.heads d.else_ifs p (AllHeads u) × AllC v
    AllC (reads_text e k u) = AllC u

    all_c : ((n : ℕ) (al : List Symbol) (d : Counts) (i r : S.Place) (p : Parts) → In al (alternatives l n) → (u : ReadingBy S l G d al i r p) → AllC u → Holds (class n) d.heads d.else_ifs p (AllHeads u)) → {d : Counts} {t : List Symbol} {i r : S.Place} {p : Parts} (u : ReadingBy S l G d t i r p) → AllC u
    unfolding AllC
    all_c f reads_end = tt
    all_c f (reads_token e m k u) = all_c f u
    all_c f (reads_phrase {n = n} y u v) = (f n _ _ _ _ _ y u (all_c f u), all_c f v)
    all_c f (reads_unless m u) = all_c f u
    all_c f (reads_note u) = all_c f u
    all_c f (reads_side {n = n} y u k v) = (f n _ _ _ _ _ y u (all_c f u), all_c f v)
    all_c f (reads_text e k u) = all_c f u

    unif : {d : Counts} {t : List Symbol} {i r : S.Place} {p : Parts} (u : ReadingBy S l G d t i r p) (h : ℕ) → d.heads ≡ h → T (level t) → AllC u → (b : State) → Iff (AllHeads u × F h flat b.kids) (F h flat (grow p b).kids)
    unfolding AllHeads AllC grow inside
    unif reads_end h e t c b = (λ x. x.1, λ x. (tt, x))
    unif (reads_token {d = d} {g = g} {s = t'} {x = x} y m k u) h e t c b =
        let z = tested_calm g d (and_l (headless g) (level t') t) in
        let r = unif u h (z.1 ∙ e) (and_r (headless g) (level t') t) c (add x b) in
        let f = add_fit h x b in
        (λ v. r.0 (v.0.1, f.0 v.1), λ v. let w = r.1 v in ((z.0, w.0), f.1 w.1))
    unif (reads_phrase {d = d} {n = n} {o = same} {a = al} {s = t'} {p = p} {q = q} y u v) h e t c b =
        phrase_fit n h d.else_ifs al p q b (AllHeads u) (AllHeads v) (and_l (simple n) (level t') t) (subst (λ (k : ℕ). Holds (class n) k d.else_ifs p (AllHeads u)) e c.0) (λ b'. unif v h e (and_r (simple n) (level t') t) c.1 b')
    unif (reads_phrase {o = body} y u v) h e t c b = absurd t
    unif (reads_unless m u) h e t c b = unif u h e t c b
    unif (reads_note {k = k} {s = t'} u) h e t c b =
        let r = unif u h e (and_r (flat_note k) (level t') t) c (noted k b) in
        let f = note_fit h k b (and_l (flat_note k) (level t') t) in
        (λ v. r.0 (v.0, f.0 v.1), λ v. let w = r.1 v in (w.0, f.1 w.1))
    unif (reads_side {d = d} {n = n} {n₁ = m} {a = al} {s = t'} {p = p} {q = q} y u k v) h e t c b =
        let w = and_l (simple n && simple m) (level t') t in
        phrase_fit n h d.else_ifs al p q b (AllHeads u) (AllHeads v) (and_l (simple n) (simple m) w) (subst (λ (j : ℕ). Holds (class n) j d.else_ifs p (AllHeads u)) e c.0) (λ b'. unif v h e (level_if (l.is_path p) m t' (and_r (simple n) (simple m) w) (and_r (simple n && simple m) (level t') t)) c.1 b')
    unif (reads_text {d = d} {n = n} {s = t'} {x = x} y k u) h e t c b =
        let r = unif u h ((tested_calm has_value d tt).1 ∙ e) (level_if (eqb x.word l.hole) n t' (and_l (simple n) (level t') t) (and_r (simple n) (level t') t)) c (add x b) in
        let f = add_fit h x b in
        (λ v. r.0 (v.0, f.0 v.1), λ v. let w = r.1 v in (w.0, f.1 w.1))

    -- such a phrase
    level_step : (n : ℕ) {al : List Symbol} {d : Counts} {i r : S.Place} {p : Parts} → T (simple n) → T (level al) → (u : ReadingBy S l G d al i r p) → AllC u → Holds (class n) d.heads d.else_ifs p (AllHeads u)
    unfolding Fit
    level_step n {d = d} {p = p} t k u c = go (one_of n (ELSE ∷ ELSE_PART ∷ [])) (eqb n ELSE_IF) (one_of n rest_kinds) t
      where
        go : (x y z : Bool) → T (not x && not y) → Holds (cond x elses (cond y else_if (cond z follows own))) d.heads d.else_ifs p (AllHeads u)
        go true y z t = absurd t
        go false true z t = absurd t
        go false false true t = λ b. unif u d.heads refl k c b
        go false false false t = let r = unif u d.heads refl k c fresh in (λ v. r.0 (v, tt), λ v. (r.1 v).0)

    -- a literal
    literal_step : {d : Counts} {i r : S.Place} {p : Parts} (u : ReadingBy S l G d (literal literals ∷ row literal_row ∷ []) i r p) → Holds own d.heads d.else_ifs p (AllHeads u)
    unfolding AllHeads Fit grow
    literal_step {d = d} (reads_token {x = x} e m k (reads_note reads_end)) = subst (λ (b : State). Iff (Unit {0} × Unit {0}) (F d.heads flat (noted literal_row b).kids)) (sym is) (λ v. (tt, tt, tt), λ v. (tt, tt))
      where
        t : is_text x ≡ false
        t = plain_word x literals tt m

        is : add x fresh ≡ with_word x fresh
        is = rw t refl

    -- ---- heads

    if_step : {d : Counts} {i r : S.Place} {p : Parts} (u : ReadingBy S l G d (head 'if' ∷ a (EXPR no_records) ∷ behind BLOCK ∷ behind ELSE ∷ row kinds.IF ∷ []) i r p) → AllC u → Holds own d.heads d.else_ifs p (AllHeads u)
    unfolding AllHeads AllC Fit after inside
    if_step {d = d} (reads_token {x = x} e m k (reads_phrase {a = a₁} {p = p₁} y₁ u₁ (reads_phrase {a = a₂} {p = p₂} y₂ u₂ (reads_phrase {a = a₃} {p = p₃} y₃ u₃ (reads_note reads_end))))) c =
        let h = d.heads in
        let b₃ = two_on x p₁ p₂ in
        let z = c.1.1.0 b₃ in
        let g₁ = (grow p₁ fresh).kids in
        let g₂ = (grow p₂ fresh).kids in
        let o₁ = leaves_one (EXPR no_records) y₁ tt u₁ in
        let f = if_fit h 0 g₁ g₂ z.0 o₁ (leaves_one BLOCK y₂ tt u₂) in
        let w = here_if h 0 g₁ g₂ z.0 o₁ in
        subst (λ (g : Grove). Iff (T (ltb h limit) × (AllHeads u₁ × (AllHeads u₂ × (AllHeads u₃ × Unit {0})))) (F h flat g)) (sym (if_grown x a₁ a₂ a₃ p₁ p₂ p₃ (plain_word x ('if' ∷ []) tt m) ∙ ap (λ (y : Grove). top (head_for kinds.IF (grow p₃ b₃)) y nil) z.1))
        (λ v. (w.0 (v.0, omega arith), f.0 (c.0.0 v.1.0, c.1.0.0 v.1.1.0, z.2.0 v.1.1.1.0), tt), λ v. let y = f.1 v.1 in ((w.1 v.0).0, (c.0.1 y.0, (c.1.0.1 y.1, (z.2.1 y.2, tt)))))

    else_if_step : {d : Counts} {i r : S.Place} {p : Parts} (u : ReadingBy S l G d (token is_else_if ('if' ∷ []) ∷ a (EXPR no_records) ∷ behind BLOCK ∷ behind ELSE ∷ row kinds.IF ∷ []) i r p) → AllC u → Holds else_if d.heads d.else_ifs p (AllHeads u)
    unfolding AllHeads AllC Fit after inside
    else_if_step {d = d} (reads_token {x = x} e m k (reads_phrase {a = a₁} {p = p₁} y₁ u₁ (reads_phrase {a = a₂} {p = p₂} y₂ u₂ (reads_phrase {a = a₃} {p = p₃} y₃ u₃ (reads_note reads_end))))) c =
        let h = d.heads in
        let n = d.else_ifs in
        let b₃ = two_on x p₁ p₂ in
        let z = c.1.1.0 b₃ in
        let g₁ = (grow p₁ fresh).kids in
        let g₂ = (grow p₂ fresh).kids in
        let o₁ = leaves_one (EXPR no_records) y₁ tt u₁ in
        let f = if_fit h (suc n) g₁ g₂ z.0 o₁ (leaves_one BLOCK y₂ tt u₂) in
        let w = here_if h (suc n) g₁ g₂ z.0 o₁ in
        let q = chained h n in
        subst (λ (g : Grove). Iff (T (ltb h limit && ltb n limit) × (AllHeads u₁ × (AllHeads u₂ × (AllHeads u₃ × Unit {0})))) (F h (else_at n) g)) (sym (if_grown x a₁ a₂ a₃ p₁ p₂ p₃ (plain_word x ('if' ∷ []) tt m) ∙ ap (λ (y : Grove). top (head_for kinds.IF (grow p₃ b₃)) y nil) z.1))
        (λ v. (w.0 (q.0 v.0), f.0 (c.0.0 v.1.0, c.1.0.0 v.1.1.0, z.2.0 v.1.1.1.0), tt), λ v. let y = f.1 v.1 in (q.1 (w.1 v.0), (c.0.1 y.0, (c.1.0.1 y.1, (z.2.1 y.2, tt)))))

    while_step : {d : Counts} {i r : S.Place} {p : Parts} (u : ReadingBy S l G d (head 'while' ∷ a (EXPR no_records) ∷ behind BLOCK ∷ row kinds.WHILE ∷ []) i r p) → AllC u → Holds own d.heads d.else_ifs p (AllHeads u)
    unfolding AllHeads AllC Fit after inside
    while_step {d = d} (reads_token {x = x} e m k (reads_phrase {a = a₁} {p = p₁} y₁ u₁ (reads_phrase {a = a₂} {p = p₂} y₂ u₂ (reads_note reads_end)))) c =
        let h = d.heads in
        let g₁ = (grow p₁ fresh).kids in
        let g₂ = (grow p₂ fresh).kids in
        let o₁ = leaves_one (EXPR no_records) y₁ tt u₁ in
        let f = one_fit h g₁ g₂ o₁ in
        let w = here_four h kinds.WHILE g₁ g₂ tt (λ t. t) o₁ in
        subst (λ (g : Grove). Iff (T (ltb h limit) × (AllHeads u₁ × (AllHeads u₂ × Unit {0}))) (F h flat g)) (sym (while_grown x a₁ a₂ p₁ p₂ (plain_word x ('while' ∷ []) tt m)))
        (λ v. (w.0 v.0, f.0 (c.0.0 v.1.0, c.1.0.0 v.1.1.0), tt), λ v. let y = f.1 v.1 in (w.1 v.0, (c.0.1 y.0, (c.1.0.1 y.1, tt))))

    for_step : {d : Counts} {i r : S.Place} {p : Parts} (u : ReadingBy S l G d (head 'for' ∷ a NAME ∷ word 'in' ∷ a (EXPR no_records) ∷ behind BLOCK ∷ row kinds.FOR ∷ []) i r p) → AllC u → Holds own d.heads d.else_ifs p (AllHeads u)
    unfolding AllHeads AllC Fit after inside
    for_step {d = d} (reads_token {x = x} e m k (reads_phrase {a = a₀} {p = p₀} y₀ u₀ (reads_token {x = y} e' m' k' (reads_phrase {a = a₁} {p = p₁} y₁ u₁ (reads_phrase {a = a₂} {p = p₂} y₂ u₂ (reads_note reads_end)))))) c =
        let h = d.heads in
        let g₀ = (grow p₀ fresh).kids in
        let g₁ = (grow p₁ fresh).kids in
        let g₂ = (grow p₂ fresh).kids in
        let o₀ = leaves_one NAME y₀ tt u₀ in
        let f = two_fit h g₀ g₁ g₂ o₀ (leaves_one (EXPR no_records) y₁ tt u₁) in
        let w = subst (λ (g : Grove). Iff (T (ltb h limit)) (Here h 0 kinds.FOR (labelled s g))) (sym (one_beside g₀ g₁ g₂ o₀)) (here_four h kinds.FOR g₀ (beside g₁ g₂) tt (λ t. t) o₀) in
        subst (λ (g : Grove). Iff (T (ltb h limit) × (AllHeads u₀ × (Unit {0} × (AllHeads u₁ × (AllHeads u₂ × Unit {0}))))) (F h flat g)) (sym (for_grown x y a₀ a₁ a₂ p₀ p₁ p₂ (plain_word x ('for' ∷ []) tt m) (plain_word y ('in' ∷ []) tt m')))
        (λ v. (w.0 v.0, f.0 (c.0.0 v.1.0, c.1.0.0 v.1.1.1.0, c.1.1.0.0 v.1.1.1.1.0), tt), λ v. let z = f.1 v.1 in (w.1 v.0, (c.0.1 z.0, (tt, (c.1.0.1 z.1, (c.1.1.0.1 z.2, tt))))))

    match_step : {d : Counts} {i r : S.Place} {p : Parts} (u : ReadingBy S l G d (head 'match' ∷ a (EXPR no_records) ∷ opens open_brace ∷ behind ARMS ∷ closes close_brace ∷ row kinds.MATCH ∷ []) i r p) → AllC u → Holds own d.heads d.else_ifs p (AllHeads u)
    unfolding AllHeads AllC Fit after inside
    match_step {d = d} (reads_token {x = x} e m k (reads_phrase {a = a₁} {p = p₁} y₁ u₁ (reads_token {x = y} e' m' k' (reads_phrase {a = a₂} {p = p₂} y₂ u₂ (reads_token {x = z} e'' m'' k'' (reads_note reads_end)))))) c =
        let h = d.heads in
        let g₁ = (grow p₁ fresh).kids in
        let g₂ = (grow p₂ fresh).kids in
        let o₁ = leaves_one (EXPR no_records) y₁ tt u₁ in
        let f = one_fit h g₁ g₂ o₁ in
        let w = here_four h kinds.MATCH g₁ g₂ tt (λ t. t) o₁ in
        subst (λ (g : Grove). Iff (T (ltb h limit) × (AllHeads u₁ × (Unit {0} × (AllHeads u₂ × (Unit {0} × Unit {0}))))) (F h flat g)) (sym (match_grown x y z a₁ a₂ p₁ p₂ (plain_word x ('match' ∷ []) tt m) (plain_word y (open_brace ∷ []) tt m') (plain_word z (close_brace ∷ []) tt m'')))
        (λ v. (w.0 v.0, f.0 (c.0.0 v.1.0, c.1.0.0 v.1.1.1.0), tt), λ v. let b = f.1 v.1 in (w.1 v.0, (c.0.1 b.0, (tt, (c.1.0.1 b.1, (tt, tt))))))

    -- behind an `if`
    none_step : {d : Counts} {i r : S.Place} {p : Parts} (u : ReadingBy S l G d [] i r p) → AllC u → Holds elses d.heads d.else_ifs p (AllHeads u)
    unfolding AllHeads Fit grow
    none_step reads_end c = λ b. (nil, sym (beside_nil b.kids), (λ v. tt, λ v. tt))

    else_step : {d : Counts} {i r : S.Place} {p : Parts} (u : ReadingBy S l G d (word 'else' ∷ a ELSE_PART ∷ []) i r p) → AllC u → Holds elses d.heads d.else_ifs p (AllHeads u)
    unfolding AllHeads AllC grow after inside
    else_step (reads_token {x = x} e m k (reads_phrase {a = a₁} {p = p₁} y₁ u₁ reads_end)) c = λ b.
        let z = c.0 (with_word x b) in
        (z.0, ap (λ (w : State). w.kids) (grow_leaf x (node ELSE_PART a₁ p₁ end) b (plain_word x ('else' ∷ []) tt m) ∙ grow_rest ELSE_PART a₁ p₁ end (with_word x b) refl) ∙ z.1, (λ v. z.2.0 v.1.0, λ v. (tt, (z.2.1 v, tt))))

    block_leaves : {d : Counts} {i r : S.Place} {p : Parts} → ReadingBy S l G d (opens open_brace ∷ a STATEMENTS ∷ closes close_brace ∷ row kinds.BLOCK ∷ []) i r p → (h : Head) × (k : Grove) × ((grow p fresh).kids ≡ top h k nil) × (h.kind ≡ kinds.BLOCK)
    block_leaves (reads_token {x = x} e m k (reads_phrase {a = a₁} {p = p₁} y u (reads_token {x = y'} e' m' k' (reads_note reads_end)))) = block_grown x y' a₁ p₁ (plain_word x (open_brace ∷ []) tt m) (plain_word y' (close_brace ∷ []) tt m')

    block_step : {d : Counts} {i r : S.Place} {p : Parts} (u : ReadingBy S l G d (a BLOCK ∷ []) i r p) → AllC u → Holds elses d.heads d.else_ifs p (AllHeads u)
    unfolding AllHeads AllC grow inside
    block_step {d = d} (reads_phrase {a = al} {i = i'} {m = j'} {p = p₂} y u reads_end) c = λ b.
        let g = (grow p₂ fresh).kids in
        let f = block_fit d.heads d.else_ifs g (block_leaves (subst (λ (t : List Symbol). ReadingBy S l G d t i' j' p₂) (is_block y) u)) in
        (g, ap (λ (w : State). w.kids) (grow_phrase BLOCK al p₂ end b refl), (λ v. f.0 (c.0.0 v.0), λ v. (c.0.1 (f.1 v), tt)))

    chain_step : {d : Counts} {i r : S.Place} {p : Parts} (u : ReadingBy S l G d (a ELSE_IF ∷ []) i r p) → AllC u → Holds elses d.heads d.else_ifs p (AllHeads u)
    unfolding AllHeads AllC grow inside
    chain_step (reads_phrase {a = al} {p = p₂} y u reads_end) c = λ b. ((grow p₂ fresh).kids, ap (λ (w : State). w.kids) (grow_phrase ELSE_IF al p₂ end b refl), (λ v. c.0.0 v.0, λ v. (c.0.1 v, tt)))

-- ---- every phrase

module _ (s : List ℕ) (S : Stream) (G : Ask → Counts → Token → Bool) where
  abbrev At : ℕ → List Symbol → Type 0
  At n t = (d : Counts) (i r : S.Place) (p : Parts) (u : ReadingBy S l G d t i r p) → AllC s u → Holds s (class n) d.heads d.else_ifs p (AllHeads u)

  abbrev By : ℕ → Type 0
  By n = (t : List Symbol) → In t (alternatives l n) → At n t

  fours : By FOUR
  unfolding roto
  fours t o = alt_at (At FOUR) o (λ d i r p u c. if_step s u c, (λ d i r p u c. while_step s u c, (λ d i r p u c. for_step s u c, (λ d i r p u c. match_step s u c, tt))))

  else_steps : By ELSE
  unfolding roto
  else_steps t o = alt_at (At ELSE) o (λ d i r p u c. none_step s u c, (λ d i r p u c. else_step s u c, tt))

  part_steps : By ELSE_PART
  unfolding roto
  part_steps t o = alt_at (At ELSE_PART) o (λ d i r p u c. block_step s u c, (λ d i r p u c. chain_step s u c, tt))

  else_ifs : By ELSE_IF
  unfolding roto
  else_ifs t o = alt_at (At ELSE_IF) o (λ d i r p u c. else_if_step s u c, tt)

  literal_steps : By LITERAL
  unfolding roto
  literal_steps t o = alt_at (At LITERAL) o (λ d i r p u c. literal_step s u, tt)

  simply : (n : ℕ) → T (not (one_of n special)) → T (simple n)
  simply n t = go (eqb n FOUR) (eqb n ELSE) (eqb n ELSE_PART) (eqb n ELSE_IF) (eqb n LITERAL) t
    where
      go : (a b c d e : Bool) → T (not (a || (b || (c || (d || (e || false)))))) → T (not (b || (c || false)) && not d)
      go true b c d e t = absurd t
      go false true c d e t = absurd t
      go false false true d e t = absurd t
      go false false false true e t = absurd t
      go false false false false e t = tt

  step : (n : ℕ) (t : List Symbol) (d : Counts) (i r : S.Place) (p : Parts) → In t (alternatives l n) → (u : ReadingBy S l G d t i r p) → AllC s u → Holds s (class n) d.heads d.else_ifs p (AllHeads u)
  step n t d i r p o u c = go (one_of n special) refl
    where
      go : (b : Bool) → one_of n special ≡ b → Holds s (class n) d.heads d.else_ifs p (AllHeads u)
      go true e = one_of_each By special (fours, (else_steps, (part_steps, (else_ifs, (literal_steps, tt))))) n (subst T (sym e) tt) t o d i r p u c
      go false e =
          let f : T (not (one_of n special)) = subst (λ (b : Bool). T (not b)) (sym e) tt in
          elim (or_cases (one_of n special) (level t) (passes_at leveled l.rules n all_level o)) [ inl k ↦ absurd (T_not (one_of n special) f k) | inr k ↦ level_step s n (simply n f) k u c ]

  -- the heads of a source's reading keep to the limits exactly when its trees do
  pub heads_told : {i r : S.Place} {p : Parts} (u : ReadingBy S l G zeros (start true) i r p) → Iff (AllHeads u) (F s 0 flat (grow p fresh).kids)
  unfolding Fit
  heads_told u = let r = unif s u 0 refl tt (all_c s step u) fresh in (λ v. r.0 (v, tt), λ v. (r.1 v).0)
