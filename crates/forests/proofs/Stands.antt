-- Which rows may stand without a pair at which places: one law for each kind of row.
use mathlib.Core.Path.{◌≡◌, refl, sym, subst}
use mathlib.Core.List.{List, [], ◌∷◌}
use mathlib.Core.Bool.{Bool, true, false, not, cond}
use Prim.Native.Nat.{ℕ, suc, ◌≤◌}
use lib.Dec.{T, eqb}
use native.Mathlib.Omega.{arith}
use Rattle.rows.specs.Kinds as kinds
use Rattle.grammar.specs.Words.{open_brace, open_paren, comma, 'if', 'else', 'while', 'for', 'match', four_words}
use Rattle.grammar.specs.Grammar.{one_of}
use Rattle.canon.specs.Trees.{Label, Forest}
use Rattle.canon.specs.Layout.{Place, asks, whole, head, left, right, pathless, with_more, binary_level, left_level, level, begins, empty, Slot, ◌then◌, statement, statements, arms, is_four, rest, joined, between, by, done, layouts, layout}
use Rattle.canon.specs.Text.{place_of, later}
use Rattle.forests.specs.Planted.{Marked, no_more, stands, unmarked}
use Rattle.forests.specs.Met.{Met}
use Rattle.forests.proofs.Places.{Tree, top, Fits, Each, not_needs, recorded, fits_pair, met_tree, met_none, met_wholes, joined_wholes, onlys, one_of_each, labelled, ordinary, record_wholes, ordinary_wholes}

-- A place that asks for level n at most, for no record only if r is false, for no path only if q is false, and not against a row that begins with u.
pub record Allows (n : ℕ) (r q : Bool) (u : ℕ) (c : Place) : Type 0 where
  pub level : c.level ≤ n
  pub records : T r → T c.records
  pub path : T q → T c.path
  pub first : T (not (one_of u c.unless))
  pub word : T (not (one_of 0 c.unless))

-- at all these places the tree may stand as it does
pub record At (n : ℕ) (r q : Bool) (u : ℕ) (x : Tree) : Type 0 where
  pub fits : (c : Place) → Allows n r q u c → Fits c x

pub at_whole : {n : ℕ} {r q : Bool} {u : ℕ} {x : Tree} → At n r q u x → Fits whole x
at_whole h = h.fits whole (record { level = omega arith; records = λ t. tt; path = λ t. tt; first = tt; word = tt })

pub at_looser : {n : ℕ} {r q : Bool} {u : ℕ} {x : Tree} (i : ℕ) → i ≤ n → At n r q u x → At i r q u x
at_looser i e h = record { fits = λ c g. h.fits c (record { level = omega (arith, g.level, e); records = g.records; path = g.path; first = g.first; word = g.word }) }

-- a row that is no record, and one that is no path
pub at_any : {n : ℕ} {q : Bool} {u : ℕ} {x : Tree} (r : Bool) → At n false q u x → At n r q u x
at_any r h = record { fits = λ c g. h.fits c (record { level = g.level; records = λ t. absurd t; path = g.path; first = g.first; word = g.word }) }

pub at_path : {n : ℕ} {r : Bool} {u : ℕ} {x : Tree} (q : Bool) → At n r false u x → At n r q u x
at_path q h = record { fits = λ c g. h.fits c (record { level = g.level; records = g.records; path = λ t. absurd t; first = g.first; word = g.word }) }

-- a row without a word of its own that may be asked for
pub at_first : {n : ℕ} {r q : Bool} {x : Tree} (u : ℕ) → At n r q 0 x → At n r q u x
at_first u h = record { fits = λ c g. h.fits c (record { level = g.level; records = g.records; path = g.path; first = g.word; word = g.word }) }

-- in a pair
pub at_pair : (n u : ℕ) (k : ℕ) (a : Label) (m : Marked) → Fits whole (top k a m) → At n false false u (top (suc k) a m)
at_pair n u k a m h = record { fits = λ c g. fits_pair c k a m h }

-- ---- kinds of level 7 whose children are asked for nothing

abbrev Seven : ℕ → ℕ → List ℕ → Forest → ℕ → Type 0
Seven v d t f k = (level (labelled k v d t) ≡ 7) × (begins (labelled k v d t) ≡ 0) × (T (recorded (labelled k v d t) f) → ⊥)

pub plain_at : (k v d : ℕ) (t : List ℕ) (m : Marked) (q : Bool) → Seven v d t (unmarked m) k → (T (eqb k kinds.PATH) → T q) → ((c : Place) → Met (layout c (labelled k v d t) (unmarked m)).slots m) → At 7 false q 0 (top 0 (labelled k v d t) m)
plain_at k v d t m q s p h = record {
  fits = λ c g.
      let e = s.0 in
      record { serves = not_needs c (labelled k v d t) (unmarked m) (omega (arith, g.level, e)) (λ x. g.path (p x)) (λ x. absurd (s.2 x)) (subst (λ (n : ℕ). T (not (one_of n c.unless))) (sym s.1) g.word); met = h c };
}

abbrev seven : (◌≡◌ {A = ℕ} 7 7) × (◌≡◌ {A = ℕ} 0 0) × (⊥ → ⊥)
seven = (refl, refl, λ x. x)

ordinary_seven : (v d : ℕ) (t : List ℕ) (f : Forest) (k : ℕ) → T (one_of k ordinary) → Seven v d t f k
ordinary_seven v d t f = one_of_each (Seven v d t f) ordinary (seven, (seven, (seven, (seven, (seven, (seven, (seven, (seven, (seven, (seven, (seven, (seven, (seven, (seven, (seven, (seven, (seven, (seven, (seven, (seven, (seven, tt)))))))))))))))))))))

pub ordinary_at : (k v d : ℕ) (t : List ℕ) (m : Marked) (q : Bool) → T (one_of k ordinary) → (T (eqb k kinds.PATH) → T q) → Each (Fits whole) m → At 7 false q 0 (top 0 (labelled k v d t) m)
ordinary_at k v d t m q o p h = plain_at k v d t m q (ordinary_seven v d t (unmarked m) k o) p (λ c. met_wholes (layout c (labelled k v d t) (unmarked m)).slots m (ordinary_wholes c v d t (unmarked m) k o) h)

-- a literal: its row's kind is its token's
abbrev pub literal_kinds : List ℕ
literal_kinds = kinds.NONE ∷ kinds.INTEGER ∷ kinds.FLOAT ∷ kinds.BOOL ∷ kinds.ASN ∷ kinds.IPV4 ∷ kinds.IPV6 ∷ kinds.STRING ∷ kinds.CHAR ∷ kinds.TEXT ∷ []

pub literal_at : (k v d : ℕ) (t : List ℕ) → T (one_of k literal_kinds) → At 7 false false 0 (top 0 (labelled k v d t) no_more)
literal_at k v d t o = plain_at k v d t no_more false is.0 (λ x. absurd (is.1 x)) (λ c. met_none (layout c (labelled k v d t) (unmarked no_more)).slots)
  where
    is : Seven v d t (unmarked no_more) k × (T (eqb k kinds.PATH) → ⊥)
    is = one_of_each (λ n. Seven v d t (unmarked no_more) n × (T (eqb n kinds.PATH) → ⊥)) literal_kinds ((seven, λ x. x), ((seven, λ x. x), ((seven, λ x. x), ((seven, λ x. x), ((seven, λ x. x), ((seven, λ x. x), ((seven, λ x. x), ((seven, λ x. x), ((seven, λ x. x), ((seven, λ x. x), tt)))))))))) k o

-- a record, without its path; with it
pub record_at : (v d : ℕ) (t : List ℕ) (m : Marked) → Each (Fits whole) m → At 7 true false open_brace (top 0 (labelled kinds.RECORD v d t) m)
record_at v d t m h = record { fits = λ c g. let a = labelled kinds.RECORD v d t in record { serves = not_needs c a (unmarked m) g.level (λ x. absurd x) (λ x. g.records tt) (go c g (eqb v 0)); met = met_wholes (layout c a (unmarked m)).slots m (record_wholes c v d t (unmarked m)) h } }
  where
    go : (c : Place) → Allows 7 true false open_brace c → (b : Bool) → T (not (one_of (cond b open_brace 0) c.unless))
    go c g true = g.first
    go c g false = g.word

pub path_record_at : (d : ℕ) (t : List ℕ) (m : Marked) → Each (Fits whole) m → At 7 true false 0 (top 0 (labelled kinds.RECORD 1 d t) m)
path_record_at d t m h = record { fits = λ c g. let a = labelled kinds.RECORD 1 d t in record { serves = not_needs c a (unmarked m) g.level (λ x. absurd x) (λ x. g.records tt) g.word; met = met_wholes (layout c a (unmarked m)).slots m (record_wholes c 1 d t (unmarked m)) h } }

-- ---- operators

-- the places of a row's first child and of a later one
left_allows : {n : ℕ} {r q : Bool} {u : ℕ} {c : Place} (k : ℕ) → Allows n r q u c → Allows k r true u (left k c)
left_allows k g = record { level = omega arith; records = g.records; path = λ t. tt; first = g.first; word = g.word }

right_allows : {n : ℕ} {r q : Bool} {u : ℕ} {c : Place} (k w : ℕ) → Allows n r q u c → Allows k r true w (right k c)
right_allows k w g = record { level = omega arith; records = g.records; path = λ t. tt; first = tt; word = tt }

pathless_allows : {n : ℕ} {r q : Bool} {u : ℕ} {c : Place} → Allows n r q u c → Allows 7 r false u (pathless (left 7 c))
pathless_allows g = record { level = omega arith; records = g.records; path = λ t. absurd t; first = g.first; word = g.word }

-- trees in a row
infixr 60 ◌also◌
abbrev pub ◌also◌ : Tree → Marked → Marked
x also ts = stands x.pairs x.label x.kids ts

abbrev pub alone : Tree → Marked
alone x = x also no_more

pub met_first : (xs : List Slot) (x : Tree) (ts : Marked) → Fits (place_of xs) x → Met (later xs) ts → Met xs (x also ts)
met_first xs x ts = met_tree xs x.pairs x.label x.kids ts

pub binary_at : {r : Bool} {u w : ℕ} (x y : Tree) (n v d : ℕ) (t : List ℕ) → binary_level d ≡ n → At (left_level d) r true u x → At (suc n) r true w y → At n r true u (top 0 (labelled kinds.BINARY v d t) (x also alone y))
unfolding layout layouts
binary_at {r} {u} {w} x y n v d t e h k = record {
  fits = λ c g. record {
    serves = not_needs c a (unmarked kids) (omega (arith, g.level, e)) (λ z. absurd z) (λ z. absurd z) g.word;
    met = met_first (layout c a (unmarked kids)).slots x (alone y) (h.fits (left (left_level d) c) (left_allows (left_level d) g))
        (met_first (later (layout c a (unmarked kids)).slots) y no_more (k.fits (right (suc (binary_level d)) c) (subst (λ (i : ℕ). Allows (suc n) r true w (right (suc i) c)) (sym e) (right_allows (suc n) w g))) (met_none []));
  };
}
  where
    a : Label
    a = labelled kinds.BINARY v d t

    kids : Marked
    kids = x also alone y

-- `!` and `-`
pub prefix_at : {r : Bool} {w : ℕ} (x : Tree) (u k v d : ℕ) (t : List ℕ) → T (one_of k (kinds.NOT ∷ kinds.NEGATE ∷ [])) → At 6 r true w x → At 6 r true u (top 0 (labelled k v d t) (alone x))
unfolding layout layouts
prefix_at {r} {w} x u k v d t o h = one_of_each (λ n. At 6 r true u (top 0 (labelled n v d t) (alone x))) (kinds.NOT ∷ kinds.NEGATE ∷ []) (not_at, (minus_at, tt)) k o
  where
    not_at : At 6 r true u (top 0 (labelled kinds.NOT v d t) (alone x))
    not_at = record { fits = λ c g. record { serves = not_needs c (labelled kinds.NOT v d t) (unmarked (alone x)) g.level (λ z. absurd z) (λ z. absurd z) g.word; met = met_first (layout c (labelled kinds.NOT v d t) (unmarked (alone x))).slots x no_more (h.fits (right 6 c) (right_allows 6 w g)) (met_none []) } }

    minus_at : At 6 r true u (top 0 (labelled kinds.NEGATE v d t) (alone x))
    minus_at = record { fits = λ c g. record { serves = not_needs c (labelled kinds.NEGATE v d t) (unmarked (alone x)) g.level (λ z. absurd z) (λ z. absurd z) g.word; met = met_first (layout c (labelled kinds.NEGATE v d t) (unmarked (alone x))).slots x no_more (h.fits (right 6 c) (right_allows 6 w g)) (met_none []) } }

-- `?`, a call, an access
pub question_at : {r : Bool} {u : ℕ} (x : Tree) (v d : ℕ) (t : List ℕ) → At 7 r true u x → At 7 r false u (top 0 (labelled kinds.QUESTION v d t) (alone x))
unfolding layout layouts
question_at x v d t h = record { fits = λ c g. record { serves = not_needs c (labelled kinds.QUESTION v d t) (unmarked (alone x)) g.level (λ z. absurd z) (λ z. absurd z) g.word; met = met_first (layout c (labelled kinds.QUESTION v d t) (unmarked (alone x))).slots x no_more (h.fits (left 7 c) (left_allows 7 g)) (met_none []) } }

pub call_at : {r : Bool} {u : ℕ} (x : Tree) (ts : Marked) (v d : ℕ) (t : List ℕ) → At 7 r true u x → Each (Fits whole) ts → At 7 r false u (top 0 (labelled kinds.CALL v d t) (x also ts))
unfolding layout layouts unmarked
call_at x ts v d t h k = record { fits = λ c g. record { serves = not_needs c (labelled kinds.CALL v d t) (unmarked (x also ts)) g.level (λ z. absurd z) (λ z. absurd z) g.word; met = met_first (layout c (labelled kinds.CALL v d t) (unmarked (x also ts))).slots x ts (h.fits (left 7 c) (left_allows 7 g)) (met_wholes (joined (open_paren ∷ []) (comma ∷ []) whole (unmarked ts)) ts (joined_wholes (open_paren ∷ []) (comma ∷ []) (unmarked ts)) k) } }

pub access_at : {r : Bool} {u : ℕ} (x y : Tree) (v d : ℕ) (t : List ℕ) → At 7 r false u x → Fits whole y → At 7 r false u (top 0 (labelled kinds.ACCESS v d t) (x also alone y))
unfolding layout layouts
access_at x y v d t h k = record { fits = λ c g. record { serves = not_needs c (labelled kinds.ACCESS v d t) (unmarked (x also alone y)) g.level (λ z. absurd z) (λ z. absurd z) g.word; met = met_first (layout c (labelled kinds.ACCESS v d t) (unmarked (x also alone y))).slots x (alone y) (h.fits (pathless (left 7 c)) (pathless_allows g)) (met_first (later (layout c (labelled kinds.ACCESS v d t) (unmarked (x also alone y))).slots) y no_more k (met_none [])) } }

-- an assignment; a return form, in a head with its expr
pub assign_at : {r : Bool} {w : ℕ} (x y : Tree) (u v d : ℕ) (t : List ℕ) → Fits whole x → At 1 r true w y → At 0 r true u (top 0 (labelled kinds.ASSIGN v d t) (x also alone y))
unfolding layout layouts
assign_at {r} {w} x y u v d t h k = record { fits = λ c g. record { serves = not_needs c (labelled kinds.ASSIGN v d t) (unmarked (x also alone y)) g.level (λ z. absurd z) (λ z. absurd z) g.word; met = met_first (layout c (labelled kinds.ASSIGN v d t) (unmarked (x also alone y))).slots x (alone y) h (met_first (later (layout c (labelled kinds.ASSIGN v d t) (unmarked (x also alone y))).slots) y no_more (k.fits (right 1 c) (right_allows 1 w g)) (met_none [])) } }

pub returns_at : {r : Bool} {w : ℕ} (x : Tree) (u v d : ℕ) (t : List ℕ) → At 0 r true w x → At 0 r true u (top 0 (labelled kinds.RETURN v d t) (alone x))
unfolding layout layouts unmarked
returns_at {r} {w} x u v d t h = record { fits = λ c g. record { serves = not_needs c (labelled kinds.RETURN v d t) (unmarked (alone x)) g.level (λ z. absurd z) (λ z. absurd z) g.word; met = met_first (layout c (labelled kinds.RETURN v d t) (unmarked (alone x))).slots x no_more (h.fits (right 0 c) (right_allows 0 w g)) (met_none []) } }

pub returned_at : (u v d : ℕ) (t : List ℕ) → At 0 true true u (top 0 (labelled kinds.RETURN v d t) no_more)
returned_at u v d t = record { fits = λ c g. record { serves = not_needs c (labelled kinds.RETURN v d t) (unmarked no_more) g.level (λ z. absurd z) (λ z. g.records tt) g.word; met = met_none (layout c (labelled kinds.RETURN v d t) (unmarked no_more)).slots } }

-- ---- blocks and the four

-- a statement
abbrev pub Stated : Tree → Type 0
Stated x = Fits (statement x.label.kind) x

pub stated_at : {u : ℕ} {x : Tree} → T (not (one_of u four_words)) → At 0 true true u x → Stated x
stated_at {u} {x} f h = go (is_four x.label.kind)
  where
    go : (b : Bool) → Fits (cond b whole (asks 0 true four_words)) x
    go true = at_whole h
    go false = h.fits (asks 0 true four_words) (record { level = omega arith; records = λ t. tt; path = λ t. tt; first = f; word = tt })

pub stated_four : (x : Tree) → T (is_four x.label.kind) → Fits whole x → Stated x
stated_four x f h = go (is_four x.label.kind) f
  where
    go : (b : Bool) → T b → Fits (cond b whole (asks 0 true four_words)) x
    go true t = h
    go false t = absurd t

statements_met : (v : ℕ) (w : List ℕ) (ts : Marked) → Each Stated ts → Met (statements v w (unmarked ts)).slots ts
unfolding unmarked
statements_met v w no_more h = met_none []
statements_met v w (stands k a m no_more) h = met_tree ((w then statement a.kind) ∷ []) k a m no_more h.0 (met_none [])
statements_met v w (stands k a m (stands j b n ts)) h =
    met_tree (statements v w (unmarked (stands k a m (stands j b n ts)))).slots k a m (stands j b n ts) h.0 (statements_met v (between a.kind) (stands j b n ts) h.1)

pub block_at : (v d : ℕ) (t : List ℕ) (m : Marked) → Each Stated m → At 7 false false open_brace (top 0 (labelled kinds.BLOCK v d t) m)
unfolding layout layouts
block_at v d t m h = record { fits = λ c g. record { serves = not_needs c (labelled kinds.BLOCK v d t) (unmarked m) g.level (λ z. absurd z) (λ z. absurd z) g.first; met = statements_met v (open_brace ∷ []) m h } }

in_head : {w : ℕ} {x : Tree} → At 0 false true w x → Fits head x
in_head h = h.fits head (record { level = omega arith; records = λ t. absurd t; path = λ t. tt; first = tt; word = tt })

pub if_at : {w : ℕ} (x : Tree) (ts : Marked) (v d : ℕ) (t : List ℕ) → At 0 false true w x → Each (Fits whole) ts → At 7 false false 'if' (top 0 (labelled kinds.IF v d t) (x also ts))
unfolding layout layouts unmarked
if_at x ts v d t h k = record {
  fits = λ c g. record {
    serves = not_needs c (labelled kinds.IF v d t) (unmarked (x also ts)) g.level (λ z. absurd z) (λ z. absurd z) g.first;
    met = met_first (layout c (labelled kinds.IF v d t) (unmarked (x also ts))).slots x ts (in_head h)
        (met_wholes (later (layout c (labelled kinds.IF v d t) (unmarked (x also ts))).slots) ts (refl, onlys (empty (rest (unmarked ts))) (done []) (by ('else' ∷ []) whole (done [])) tt (refl, tt)) k);
  };
}

pub while_at : {w : ℕ} (x : Tree) (ts : Marked) (v d : ℕ) (t : List ℕ) → At 0 false true w x → Each (Fits whole) ts → At 7 false false 'while' (top 0 (labelled kinds.WHILE v d t) (x also ts))
unfolding layout layouts
while_at x ts v d t h k = record { fits = λ c g. record { serves = not_needs c (labelled kinds.WHILE v d t) (unmarked (x also ts)) g.level (λ z. absurd z) (λ z. absurd z) g.first; met = met_first (layout c (labelled kinds.WHILE v d t) (unmarked (x also ts))).slots x ts (in_head h) (met_wholes (([] then whole) ∷ []) ts (refl, tt) k) } }

pub for_at : {w : ℕ} (y x : Tree) (ts : Marked) (v d : ℕ) (t : List ℕ) → Fits whole y → At 0 false true w x → Each (Fits whole) ts → At 7 false false 'for' (top 0 (labelled kinds.FOR v d t) (y also x also ts))
unfolding layout layouts
for_at y x ts v d t i h k = record { fits = λ c g. record { serves = not_needs c (labelled kinds.FOR v d t) (unmarked (y also x also ts)) g.level (λ z. absurd z) (λ z. absurd z) g.first; met = met_first (layout c (labelled kinds.FOR v d t) (unmarked (y also x also ts))).slots y (x also ts) i (met_first (later (layout c (labelled kinds.FOR v d t) (unmarked (y also x also ts))).slots) x ts (in_head h) (met_wholes (([] then whole) ∷ []) ts (refl, tt) k)) } }

-- an arm, whether one follows or not
abbrev pub Armed : Tree → Type 0
Armed x = (b : Bool) → Fits (with_more b) x

arms_met : (w : List ℕ) (ts : Marked) → Each Armed ts → Met (arms w (unmarked ts)) ts
unfolding unmarked
arms_met w no_more h = met_none []
arms_met w (stands k a m ts) h = met_tree (arms w (unmarked (stands k a m ts))) k a m ts (h.0 (not (empty (unmarked ts)))) (arms_met [] ts h.1)

pub match_at : {w : ℕ} (x : Tree) (ts : Marked) (v d : ℕ) (t : List ℕ) → At 0 false true w x → Each Armed ts → At 7 false false 'match' (top 0 (labelled kinds.MATCH v d t) (x also ts))
unfolding layout layouts unmarked
match_at x ts v d t h k = record { fits = λ c g. record { serves = not_needs c (labelled kinds.MATCH v d t) (unmarked (x also ts)) g.level (λ z. absurd z) (λ z. absurd z) g.first; met = met_first (layout c (labelled kinds.MATCH v d t) (unmarked (x also ts))).slots x ts (in_head h) (arms_met (open_brace ∷ []) ts k) } }

-- an arm's body: a block; or an expr that doesn't begin with `{`
abbrev pub Body : Tree → Type 0
Body x = Fits (cond (eqb x.label.kind kinds.BLOCK) whole (asks 0 true (open_brace ∷ []))) x

pub body_at : {u : ℕ} {x : Tree} → T (not (one_of u (open_brace ∷ []))) → At 0 true true u x → Body x
body_at {u} {x} f h = go (eqb x.label.kind kinds.BLOCK)
  where
    go : (b : Bool) → Fits (cond b whole (asks 0 true (open_brace ∷ []))) x
    go true = at_whole h
    go false = h.fits (asks 0 true (open_brace ∷ [])) (record { level = omega arith; records = λ t. tt; path = λ t. tt; first = f; word = tt })

pub body_block : (x : Tree) → T (eqb x.label.kind kinds.BLOCK) → Fits whole x → Body x
body_block x f h = go (eqb x.label.kind kinds.BLOCK) f
  where
    go : (b : Bool) → T b → Fits (cond b whole (asks 0 true (open_brace ∷ []))) x
    go true t = h
    go false t = absurd t

pub arm_at : (y x : Tree) (d : ℕ) (t : List ℕ) → Fits whole y → Body x → Armed (top 0 (labelled kinds.ARM 0 d t) (y also alone x))
unfolding layout layouts unmarked
arm_at y x d t h k b = record { serves = not_needs (with_more b) (labelled kinds.ARM 0 d t) (unmarked (y also alone x)) (omega arith) (λ z. tt) (λ z. tt) tt; met = met_first (layout (with_more b) (labelled kinds.ARM 0 d t) (unmarked (y also alone x))).slots y (alone x) h (met_first (later (layout (with_more b) (labelled kinds.ARM 0 d t) (unmarked (y also alone x))).slots) x no_more k (met_none [])) }

pub guarded_at : (y z x : Tree) (d : ℕ) (t : List ℕ) → Fits whole y → Fits whole z → Body x → Armed (top 0 (labelled kinds.ARM 1 d t) (y also z also alone x))
unfolding layout layouts unmarked
guarded_at y z x d t h i k b = record { serves = not_needs (with_more b) (labelled kinds.ARM 1 d t) (unmarked kids) (omega arith) (λ e. tt) (λ e. tt) tt; met = met_first (layout (with_more b) (labelled kinds.ARM 1 d t) (unmarked kids)).slots y (z also alone x) h (met_first (later (layout (with_more b) (labelled kinds.ARM 1 d t) (unmarked kids)).slots) z (alone x) i (met_first (later (later (layout (with_more b) (labelled kinds.ARM 1 d t) (unmarked kids)).slots)) x no_more k (met_none []))) }
  where
    kids : Marked
    kids = y also z also alone x
