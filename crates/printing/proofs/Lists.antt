-- Readings over lists of tokens, built from right to left: what stands behind a phrase is handed in.
use mathlib.Core.Path.{◌∙◌, ◌≡◌, ap, refl}
use mathlib.Core.List.{List, [], ◌∷◌}
use mathlib.Core.Bool.{Bool, false, not, true}
use Prim.Native.Nat.{ℕ}
use lib.Dec.{T, eqb}
use Rattle.rows.specs.Kinds as kinds
use Rattle.grammar.specs.Words.{'&&', '||', binary_signs, compare_signs, product_signs, sum_signs}
use Rattle.grammar.specs.Grammar.{Ask, In, Language, Parts, Scope, Symbol, Token, alternatives, closes_bracket, end, has_value, here, is_else_if, is_head, is_prefix, leaf, left_side, mark, node, note, one_of, opens_bracket, phrase, plain, same, there, token, unless}
use Rattle.grammar.specs.Kinds.{AFTER_PATH, AND, AND_MORE, ASSIGNED, BINARY, COMPARE, COMPARE_MORE, EXPR, OPERAND, OR_MORE, PARENS, POSTFIX, PRODUCT, PRODUCT_MORE, RETURNED, SUM, SUM_MORE}
use Rattle.grammar.specs.Limits.{Counts}
use Rattle.grammar.specs.Readings.{ReadingBy, peek, reads_end, reads_note, reads_phrase, reads_token, reads_unless}
use Rattle.grammar.specs.Table.{one, row, rest_kinds, literal_row}
use Rattle.grammar.specs.Rows.{is_text, place_in, detail_for}
use Rattle.grammar.specs.Language.{roto}
use Rattle.grammar.specs.Culprit.{lists}
use Rattle.canon.specs.Trees.{copied}
use Rattle.printing.specs.Groves.{Grove, State, beside, fresh, grow, leave, nil, noted, sign_in, signed, top, with_word}

abbrev pub l : Language
l = roto true

-- Limits set aside: a literal has a value.
abbrev pub held : Ask → Counts → Token → Bool
held plain d x = true
held has_value d x = x.holds
held opens_bracket d x = true
held closes_bracket d x = true
held is_prefix d x = true
held is_head d x = true
held is_else_if d x = true

abbrev pub Read : List Symbol → List Token → List Token → Parts → Type 0
Read a c z p = (d : Counts) → ReadingBy lists l held d a c z p

-- a phrase of kind n from c up to z, that leaves the trees g
pub record Whole (n : ℕ) (c z : List Token) (g : Grove) : Type 0 where
  pub alt : List Symbol
  pub takes : In alt (alternatives l n)
  pub parts : Parts
  pub reads : Read alt c z parts
  pub leaves : (grow parts fresh).kids ≡ g

pub grow_phrase : (n : ℕ) (s : List Symbol) (p q : Parts) (a : State) → one_of n rest_kinds ≡ false → grow (node n s p q) a ≡ grow q (leave false a (grow p fresh))
unfolding grow
grow_phrase n s p q a e = rw e refl

pub grow_rest : (n : ℕ) (s : List Symbol) (p q : Parts) (a : State) → one_of n rest_kinds ≡ true → grow (node n s p q) a ≡ grow q (grow p a)
unfolding grow
grow_rest n s p q a e = rw e refl

pub grow_leaf : (x : Token) (p : Parts) (a : State) → is_text x ≡ false → grow (leaf x p) a ≡ grow p (with_word x a)
unfolding grow
grow_leaf x p a e = rw e refl

pub own_expr : (r : Bool) → one_of (EXPR r) rest_kinds ≡ false
own_expr true = refl
own_expr false = refl

pub own_binary : (r : Bool) → one_of (BINARY r) rest_kinds ≡ false
own_binary true = refl
own_binary false = refl

pub own_and : (r : Bool) → one_of (AND r) rest_kinds ≡ false
own_and true = refl
own_and false = refl

pub own_compare : (r : Bool) → one_of (COMPARE r) rest_kinds ≡ false
own_compare true = refl
own_compare false = refl

pub own_sum : (r : Bool) → one_of (SUM r) rest_kinds ≡ false
own_sum true = refl
own_sum false = refl

pub own_product : (r : Bool) → one_of (PRODUCT r) rest_kinds ≡ false
own_product true = refl
own_product false = refl

pub own_operand : (r : Bool) → one_of (OPERAND r) rest_kinds ≡ false
own_operand true = refl
own_operand false = refl

pub more_returned : (r : Bool) → one_of (RETURNED r) rest_kinds ≡ true
more_returned true = refl
more_returned false = refl

pub more_assigned : (r : Bool) → one_of (ASSIGNED r) rest_kinds ≡ true
more_assigned true = refl
more_assigned false = refl

pub more_or_more : (r : Bool) → one_of (OR_MORE r) rest_kinds ≡ true
more_or_more true = refl
more_or_more false = refl

pub more_and_more : (r : Bool) → one_of (AND_MORE r) rest_kinds ≡ true
more_and_more true = refl
more_and_more false = refl

pub more_compare_more : (r : Bool) → one_of (COMPARE_MORE r) rest_kinds ≡ true
more_compare_more true = refl
more_compare_more false = refl

pub more_sum_more : (r : Bool) → one_of (SUM_MORE r) rest_kinds ≡ true
more_sum_more true = refl
more_sum_more false = refl

pub more_product_more : (r : Bool) → one_of (PRODUCT_MORE r) rest_kinds ≡ true
more_product_more true = refl
more_product_more false = refl

pub more_postfix : (r : Bool) → one_of (POSTFIX r) rest_kinds ≡ true
more_postfix true = refl
more_postfix false = refl

pub more_after_path : (r : Bool) → one_of (AFTER_PATH r) rest_kinds ≡ true
more_after_path true = refl
more_after_path false = refl

pub in_chain_or : (r : Bool) → In (phrase same (AND r) ∷ phrase same (OR_MORE r) ∷ []) (alternatives l (BINARY r))
unfolding roto
in_chain_or true = here
in_chain_or false = here

pub in_no_or : (r : Bool) → In ([]) (alternatives l (OR_MORE r))
unfolding roto
in_no_or true = here
in_no_or false = here

pub in_more_or : (r : Bool) → In (one ('||' ∷ []) ∷ phrase same (AND r) ∷ row kinds.BINARY ∷ phrase same (OR_MORE r) ∷ []) (alternatives l (OR_MORE r))
unfolding roto
in_more_or true = there here
in_more_or false = there here

pub in_chain_and : (r : Bool) → In (phrase same (COMPARE r) ∷ phrase same (AND_MORE r) ∷ []) (alternatives l (AND r))
unfolding roto
in_chain_and true = here
in_chain_and false = here

pub in_no_and : (r : Bool) → In ([]) (alternatives l (AND_MORE r))
unfolding roto
in_no_and true = here
in_no_and false = here

pub in_more_and : (r : Bool) → In (one ('&&' ∷ []) ∷ phrase same (COMPARE r) ∷ row kinds.BINARY ∷ phrase same (AND_MORE r) ∷ []) (alternatives l (AND_MORE r))
unfolding roto
in_more_and true = there here
in_more_and false = there here

pub in_chain_compare : (r : Bool) → In (phrase same (SUM r) ∷ phrase same (COMPARE_MORE r) ∷ []) (alternatives l (COMPARE r))
unfolding roto
in_chain_compare true = here
in_chain_compare false = here

pub in_no_compare : (r : Bool) → In ([]) (alternatives l (COMPARE_MORE r))
unfolding roto
in_no_compare true = here
in_no_compare false = here

pub in_more_compare : (r : Bool) → In (one compare_signs ∷ phrase same (SUM r) ∷ row kinds.BINARY ∷ []) (alternatives l (COMPARE_MORE r))
unfolding roto
in_more_compare true = there here
in_more_compare false = there here

pub in_chain_sum : (r : Bool) → In (phrase same (PRODUCT r) ∷ phrase same (SUM_MORE r) ∷ []) (alternatives l (SUM r))
unfolding roto
in_chain_sum true = here
in_chain_sum false = here

pub in_no_sum : (r : Bool) → In ([]) (alternatives l (SUM_MORE r))
unfolding roto
in_no_sum true = here
in_no_sum false = here

pub in_more_sum : (r : Bool) → In (one sum_signs ∷ phrase same (PRODUCT r) ∷ row kinds.BINARY ∷ phrase same (SUM_MORE r) ∷ []) (alternatives l (SUM_MORE r))
unfolding roto
in_more_sum true = there here
in_more_sum false = there here

pub in_chain_product : (r : Bool) → In (phrase same (OPERAND r) ∷ phrase same (PRODUCT_MORE r) ∷ []) (alternatives l (PRODUCT r))
unfolding roto
in_chain_product true = here
in_chain_product false = here

pub in_no_product : (r : Bool) → In ([]) (alternatives l (PRODUCT_MORE r))
unfolding roto
in_no_product true = here
in_no_product false = here

pub in_more_product : (r : Bool) → In (one product_signs ∷ phrase same (OPERAND r) ∷ row kinds.BINARY ∷ phrase same (PRODUCT_MORE r) ∷ []) (alternatives l (PRODUCT_MORE r))
unfolding roto
in_more_product true = there here
in_more_product false = there here

pub in_side : (r : Bool) → In (left_side (BINARY r) (ASSIGNED r) ∷ []) (alternatives l (EXPR r))
unfolding roto
in_side true = there here
in_side false = there here

pub in_no_assigned : (r : Bool) → In ([]) (alternatives l (ASSIGNED r))
unfolding roto
in_no_assigned true = here
in_no_assigned false = here

pub in_no_postfix : (r : Bool) → In ([]) (alternatives l (POSTFIX r))
unfolding roto
in_no_postfix true = here
in_no_postfix false = here

pub in_no_after : (r : Bool) → In ([]) (alternatives l (AFTER_PATH r))
unfolding roto
in_no_after true = here
in_no_after false = here

pub in_pair : (r : Bool) → In (phrase same PARENS ∷ phrase same (POSTFIX r) ∷ []) (alternatives l (OPERAND r))
unfolding roto
in_pair true = there (there (there (there (there here))))
in_pair false = there (there (there (there (there here))))

-- What a phrase has, as far as its tree depends on it.
pub record Shape : Type 0 where
  pub kids : Grove
  pub sign : List ℕ
  pub part : ℕ

abbrev pub shape : State → Shape
shape a = record { kids = a.kids; sign = a.sign; part = a.part }

abbrev pub only : Grove → Shape
only g = record { kids = g; sign = []; part = 0 }

abbrev pub with_sign : ℕ → Shape → Shape
with_sign c x = record { kids = x.kids; sign = signed x.sign c; part = x.part }

abbrev pub with_trees : Grove → Shape → Shape
with_trees g x = record { kids = beside x.kids g; sign = x.sign; part = x.part }

abbrev pub with_row : ℕ → Shape → Shape
with_row k x = only (top (record { kind = k; value = x.part; detail = detail_for k (sign_in x.sign); tokens = [] }) x.kids nil)

abbrev pub with_part : Shape → Shape
with_part x = record { kids = x.kids; sign = x.sign; part = 1 }

-- The parts p make y of what the phrase has.
pub record Has (p : Parts) (x y : Shape) : Type 0 where
  pub from : (a : State) → shape a ≡ x → shape (grow p a) ≡ y

pub has_end : (x : Shape) → Has end x x
unfolding grow
has_end x = record { from = λ a e. e }

pub has_tok : {p : Parts} {x y : Shape} (k : Token) → is_text k ≡ false → Has p (with_sign k.word x) y → Has (leaf k p) x y
has_tok {p} k t u = record { from = λ a e. ap shape (grow_leaf k p a t) ∙ u.from (with_word k a) (ap (with_sign k.word) e) }

pub has_sub : {n : ℕ} {s : List Symbol} {p q : Parts} {x y : Shape} {g : Grove} → one_of n rest_kinds ≡ false → (grow p fresh).kids ≡ g → Has q (with_trees g x) y → Has (node n s p q) x y
has_sub {n = n} {s = s} {p = p} {q = q} {g = g} h v u = record { from = λ a e. ap shape (grow_phrase n s p q a h) ∙ u.from (leave false a (grow p fresh)) (ap (λ (b : Grove). with_trees b (shape a)) v ∙ ap (with_trees g) e) }

pub has_rest : {n : ℕ} {s : List Symbol} {p q : Parts} {x x' y : Shape} → one_of n rest_kinds ≡ true → Has p x x' → Has q x' y → Has (node n s p q) x y
has_rest {n = n} {s = s} {p = p} {q = q} h v u = record { from = λ a e. ap shape (grow_rest n s p q a h) ∙ u.from (grow p a) (v.from a e) }

pub has_put : {p : Parts} {x y : Shape} (k : ℕ) → eqb k 0 ≡ false → eqb k literal_row ≡ false → one_of k copied ≡ false → Has p (with_row k x) y → Has (mark k p) x y
unfolding grow
has_put k h i j u = record { from = λ a e. u.from (noted k a) (noted_shape a ∙ ap (with_row k) e) }
  where
    noted_shape : (a : State) → shape (noted k a) ≡ with_row k (shape a)
    noted_shape a = rw (h, i, j) refl

pub has_told : {p : Parts} {x y : Shape} → Has p (with_part x) y → Has (mark 0 p) x y
unfolding grow
has_told u = record { from = λ a e. u.from (noted 0 a) (ap with_part e) }

-- what a phrase of its own leaves
pub left_trees : {p : Parts} {y : Shape} → Has p (only nil) y → (grow p fresh).kids ≡ y.kids
left_trees u = ap (λ (t : Shape). t.kids) (u.from fresh refl)

-- The symbols s are read from c up to z, and make y of what the phrase has.
pub record Go (s : List Symbol) (c z : List Token) (x y : Shape) : Type 0 where
  pub parts : Parts
  pub reads : Read s c z parts
  pub does : Has parts x y

-- The rest of a phrase.
pub record Rst (n : ℕ) (c z : List Token) (x y : Shape) : Type 0 where
  pub alt : List Symbol
  pub takes : In alt (alternatives l n)
  pub goes : Go alt c z x y

abbrev pub Rest : ℕ → List Token → List Token → Grove → Grove → Type 0
Rest n c z g g' = Rst n c z (only g) (only g')

pub done : {z : List Token} {x : Shape} → Go [] z z x x
done {x = x} = record { parts = end; reads = λ d. reads_end; does = has_end x }

-- a word
pub tok : {g : Ask} {w : List ℕ} {s : List Symbol} {c z : List Token} {x y : Shape} (k : Token) → is_text k ≡ false → T (one_of k.word w) → ((d : Counts) → T (held g d k)) → Go s c z (with_sign k.word x) y → Go (token g w ∷ s) (k ∷ c) z x y
tok k t i h u = record { parts = leaf k u.parts; reads = λ d. reads_token refl i (h d) (u.reads _); does = has_tok k t u.does }

-- a phrase of its own
pub sub : {o : Scope} {n : ℕ} {s : List Symbol} {c m z : List Token} {x y : Shape} {g : Grove} → one_of n rest_kinds ≡ false → Whole n c m g → Go s m z (with_trees g x) y → Go (phrase o n ∷ s) c z x y
sub {n = n} h v u = record { parts = node n v.alt v.parts u.parts; reads = λ d. reads_phrase v.takes (v.reads _) (u.reads _); does = has_sub h v.leaves u.does }

-- the rest of the phrase, or of a part of it
pub rest : {o : Scope} {n : ℕ} {s : List Symbol} {c m z : List Token} {x x' y : Shape} → one_of n rest_kinds ≡ true → Rst n c m x x' → Go s m z x' y → Go (phrase o n ∷ s) c z x y
rest {n = n} h v u = record { parts = node n v.alt v.goes.parts u.parts; reads = λ d. reads_phrase v.takes (v.goes.reads _) (u.reads _); does = has_rest h v.goes.does u.does }

-- a row; the part is there
pub put : {s : List Symbol} {c z : List Token} {x y : Shape} (k : ℕ) → eqb k 0 ≡ false → eqb k literal_row ≡ false → one_of k copied ≡ false → Go s c z (with_row k x) y → Go (note k ∷ s) c z x y
put k h i j u = record { parts = mark k u.parts; reads = λ d. reads_note (u.reads _); does = has_put k h i j u.does }

pub told : {s : List Symbol} {c z : List Token} {x y : Shape} → Go s c z (with_part x) y → Go (note 0 ∷ s) c z x y
told u = record { parts = mark 0 u.parts; reads = λ d. reads_note (u.reads _); does = has_told u.does }

-- none of these words stands next
pub bar : {w : List ℕ} {s : List Symbol} {c z : List Token} {x y : Shape} → T (not (one_of (peek lists l c) w)) → Go s c z x y → Go (unless w ∷ s) c z x y
bar h u = record { parts = u.parts; reads = λ d. reads_unless h (u.reads _); does = u.does }

pub finish : {n : ℕ} {s : List Symbol} {c z : List Token} {y : Shape} → In s (alternatives l n) → Go s c z (only nil) y → Whole n c z y.kids
finish o u = record { alt = _; takes = o; parts = u.parts; reads = u.reads; leaves = left_trees u.does }

-- nothing more of a chain; a phrase and its chain; a sign, a phrase, the row, and the rest of the chain
pub none : {n : ℕ} {c : List Token} {x : Shape} → In [] (alternatives l n) → Rst n c c x x
none h = record { alt = []; takes = h; goes = done }

pub chain : {n m k : ℕ} {c y z : List Token} {g g' : Grove} → In (phrase same n ∷ phrase same m ∷ []) (alternatives l k) → one_of n rest_kinds ≡ false → one_of m rest_kinds ≡ true → Whole n c y g → Rest m y z g g' → Whole k c z g'
chain o h k u v = finish o (sub h u (rest k v done))

abbrev pub row_over : ℕ → ℕ → ℕ → Grove → Grove
row_over k v d g = top (record { kind = k; value = v; detail = d; tokens = [] }) g nil

abbrev pub binary : ℕ → Grove → Grove
binary d g = row_over kinds.BINARY 0 d g

pub more : {n m k : ℕ} {w : List ℕ} {c y z : List Token} {g b g' : Grove} (x : Token) → In (one w ∷ phrase same n ∷ row kinds.BINARY ∷ phrase same m ∷ []) (alternatives l k) → is_text x ≡ false → T (one_of x.word w) → one_of n rest_kinds ≡ false → one_of m rest_kinds ≡ true → Whole n c y b → Rest m y z (binary (place_in x.word binary_signs) (beside g b)) g' → Rest k (x ∷ c) z g g'
more x o t i h k u v = record { alt = _; takes = o; goes = tok x t i (λ d. tt) (sub h u (put kinds.BINARY refl refl refl (rest k v done))) }

pub compared : {n k : ℕ} {w : List ℕ} {c y : List Token} {g b : Grove} (x : Token) → In (one w ∷ phrase same n ∷ row kinds.BINARY ∷ []) (alternatives l k) → is_text x ≡ false → T (one_of x.word w) → one_of n rest_kinds ≡ false → Whole n c y b → Rest k (x ∷ c) y g (binary (place_in x.word binary_signs) (beside g b))
compared x o t i h u = record { alt = _; takes = o; goes = tok x t i (λ d. tt) (sub h u (put kinds.BINARY refl refl refl done)) }
