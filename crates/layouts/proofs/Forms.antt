-- Phase by phase, kind by kind.
use mathlib.Core.Path.{◌≡◌, refl, ap, ◌∙◌}
use mathlib.Core.List.{List, [], ◌∷◌, ◌++◌}
use mathlib.Core.Bool.{Bool, true, false, not, ◌&&◌, cond}
use Prim.Native.Nat.{ℕ, suc, pred, ◌+◌}
use lib.Dec.{eqb}
use native.Mathlib.Omega.{arith}
use Rattle.rows.specs.Kinds as kinds
use Rattle.grammar.specs.Words.{'->', open_brace, close_brace, open_paren, close_paren, open_bracket, close_bracket, ':', semicolon, comma, dot, '=', '?', '!', '-', 'const', 'else', 'for', 'fn', 'if', 'import', 'in', 'let', 'match', 'test', 'while', assign_signs, binary_signs, return_words, filter_words}
use Rattle.canon.specs.Trees.{Label, Forest, none, tree}
use Rattle.canon.specs.Layout.{Place, whole, head, left, right, pathless, empty, rest, first_kind, Layout, each, ◌then◌, layout, layouts, nth, binary_level, left_level, closing, headed, is_four, is_expr, statements, between, arms, imports}
use Rattle.canon.specs.Layout as canon
use Rattle.canon.specs.Text.{signs, fill}
use Rattle.places.specs.Under.{under, under_operand}
use Rattle.layouts.specs.Phases.{in_phase, before_type, before_operand, before_part, before_headed, before_item, before, behind_param, next, end_of_type, end_of_operand, end_of_part, end_of_item, behind, going}
use Rattle.layouts.proofs.Steps.{row, seen, step, Steady, steady, steadily, at_end, stuck, on, parts, quiet, each_step, each_on, list_at_once, list_behind}

-- What is to be shown of a row's children.
abbrev pub Phased : Place → Label → Forest → Type 0
Phased c a ts = fill (layout c a ts).slots (layout c a ts).last ts ≡ going c a 0 ts

-- lists

pub path : (c : Place) (v d : ℕ) (t : List ℕ) (ts : Forest) → Phased c (row kinds.PATH v d t) ts
unfolding layout layouts before before_type under under_operand next behind end_of_type
path c v d t none = at_end c (row kinds.PATH v d t) 0 [] whole 1 [] [] (λ (k : ℕ) (m : Bool). refl)
path c v d t (tree b kids ts) = list_at_once c (row kinds.PATH v d t) [] (dot ∷ []) [] [] (λ (k : ℕ) (m : Bool). refl) (λ (k : ℕ) (m : Bool). refl) (λ (k : ℕ) (m : Bool). refl) (λ (k : ℕ) (m : Bool). refl) (tree b kids ts)

pub record_type : (c : Place) (v d : ℕ) (t : List ℕ) (ts : Forest) → Phased c (row kinds.RECORD_TYPE v d t) ts
unfolding layout layouts before before_type under under_operand next behind end_of_type
record_type c v d t ts = list_at_once c (row kinds.RECORD_TYPE v d t) (open_brace ∷ []) (comma ∷ []) (open_brace ∷ close_brace ∷ []) (close_brace ∷ []) (λ (k : ℕ) (m : Bool). refl) (λ (k : ℕ) (m : Bool). refl) (λ (k : ℕ) (m : Bool). refl) (λ (k : ℕ) (m : Bool). refl) ts

path_type_by : (c : Place) (v d : ℕ) (t : List ℕ) (ts : Forest) (z : Bool) → eqb v 0 ≡ z → Phased c (row kinds.PATH_TYPE v d t) ts
unfolding layout layouts before before_type under under_operand next behind end_of_type
path_type_by c v d t ts true e = rw e (parts c (row kinds.PATH_TYPE v d t) (([] then whole) ∷ []) [] refl (λ (k : ℕ) (m : Bool). rw e refl) (λ (k : ℕ) (m : Bool). rw e refl) (λ (k : ℕ) (m : Bool). rw e refl) (λ (k : ℕ) (m : Bool). rw e refl) ts)
path_type_by c v d t ts false e = rw e (list_behind c (row kinds.PATH_TYPE v d t) whole (open_bracket ∷ []) (comma ∷ []) (open_bracket ∷ close_bracket ∷ []) (close_bracket ∷ []) (λ (k : ℕ) (m : Bool). rw e refl) (λ (k : ℕ) (m : Bool). rw e refl) (λ (k : ℕ) (m : Bool). rw e refl) (λ (k : ℕ) (m : Bool). rw e refl) ts)

pub path_type : (c : Place) (v d : ℕ) (t : List ℕ) (ts : Forest) → Phased c (row kinds.PATH_TYPE v d t) ts
path_type c v d t ts = path_type_by c v d t ts (eqb v 0) refl

variant_by : (c : Place) (v d : ℕ) (t : List ℕ) (ts : Forest) (z : Bool) → eqb v 0 ≡ z → Phased c (row kinds.VARIANT v d t) ts
unfolding layout layouts before before_part under under_operand next behind end_of_part
variant_by c v d t ts true e = rw e (parts c (row kinds.VARIANT v d t) (([] then whole) ∷ []) [] refl (λ (k : ℕ) (m : Bool). rw e refl) (λ (k : ℕ) (m : Bool). rw e refl) (λ (k : ℕ) (m : Bool). rw e refl) (λ (k : ℕ) (m : Bool). rw e refl) ts)
variant_by c v d t ts false e = rw e (list_behind c (row kinds.VARIANT v d t) whole (open_paren ∷ []) (comma ∷ []) (open_paren ∷ close_paren ∷ []) (close_paren ∷ []) (λ (k : ℕ) (m : Bool). rw e refl) (λ (k : ℕ) (m : Bool). rw e refl) (λ (k : ℕ) (m : Bool). rw e refl) (λ (k : ℕ) (m : Bool). rw e refl) ts)

pub variant : (c : Place) (v d : ℕ) (t : List ℕ) (ts : Forest) → Phased c (row kinds.VARIANT v d t) ts
variant c v d t ts = variant_by c v d t ts (eqb v 0) refl

a_record_by : (c : Place) (v d : ℕ) (t : List ℕ) (ts : Forest) (z : Bool) → eqb v 0 ≡ z → Phased c (row kinds.RECORD v d t) ts
unfolding layout layouts before before_part under under_operand next behind end_of_part
a_record_by c v d t ts true e = rw e (list_at_once c (row kinds.RECORD v d t) (open_brace ∷ []) (comma ∷ []) (open_brace ∷ close_brace ∷ []) (close_brace ∷ []) (λ (k : ℕ) (m : Bool). rw e refl) (λ (k : ℕ) (m : Bool). rw e refl) (λ (k : ℕ) (m : Bool). rw e refl) (λ (k : ℕ) (m : Bool). rw e refl) ts)
a_record_by c v d t ts false e = rw e (list_behind c (row kinds.RECORD v d t) whole (open_brace ∷ []) (comma ∷ []) (open_brace ∷ close_brace ∷ []) (close_brace ∷ []) (λ (k : ℕ) (m : Bool). rw e refl) (λ (k : ℕ) (m : Bool). rw e refl) (λ (k : ℕ) (m : Bool). rw e refl) (λ (k : ℕ) (m : Bool). rw e refl) ts)

pub a_record : (c : Place) (v d : ℕ) (t : List ℕ) (ts : Forest) → Phased c (row kinds.RECORD v d t) ts
a_record c v d t ts = a_record_by c v d t ts (eqb v 0) refl

pub call : (c : Place) (v d : ℕ) (t : List ℕ) (ts : Forest) → Phased c (row kinds.CALL v d t) ts
unfolding layout layouts before before_operand under under_operand next behind end_of_operand
call c v d t ts = list_behind c (row kinds.CALL v d t) (left 7 c) (open_paren ∷ []) (comma ∷ []) (open_paren ∷ close_paren ∷ []) (close_paren ∷ []) (λ (k : ℕ) (m : Bool). refl) (λ (k : ℕ) (m : Bool). refl) (λ (k : ℕ) (m : Bool). refl) (λ (k : ℕ) (m : Bool). refl) ts

pub the_tree : (c : Place) (v d : ℕ) (t : List ℕ) (ts : Forest) → Phased c (row kinds.TREE v d t) ts
unfolding layout layouts before before_item under under_operand next behind end_of_item
the_tree c v d t ts = each_step c (row kinds.TREE v d t) 0 [] 1 [] (λ (k : ℕ) (m : Bool). refl) (each_step c (row kinds.TREE v d t) 1 [] 2 [] (λ (k : ℕ) (m : Bool). refl) (each_step c (row kinds.TREE v d t) 2 [] 3 [] (λ (k : ℕ) (m : Bool). refl) (each_on c (row kinds.TREE v d t) 3 [] [] (λ (k : ℕ) (m : Bool). refl)))) ts

-- one to three parts

pub never : (c : Place) (v d : ℕ) (t : List ℕ) (ts : Forest) → Phased c (row kinds.NEVER v d t) ts
unfolding layout layouts before before_type under under_operand next behind end_of_type
never c v d t ts = parts c (row kinds.NEVER v d t) [] ('!' ∷ []) refl (λ (k : ℕ) (m : Bool). refl) (λ (k : ℕ) (m : Bool). refl) (λ (k : ℕ) (m : Bool). refl) (λ (k : ℕ) (m : Bool). refl) ts

pub unit : (c : Place) (v d : ℕ) (t : List ℕ) (ts : Forest) → Phased c (row kinds.UNIT v d t) ts
unfolding layout layouts before before_type under under_operand next behind end_of_type
unit c v d t ts = parts c (row kinds.UNIT v d t) [] (open_paren ∷ close_paren ∷ []) refl (λ (k : ℕ) (m : Bool). refl) (λ (k : ℕ) (m : Bool). refl) (λ (k : ℕ) (m : Bool). refl) (λ (k : ℕ) (m : Bool). refl) ts

pub option : (c : Place) (v d : ℕ) (t : List ℕ) (ts : Forest) → Phased c (row kinds.OPTION v d t) ts
unfolding layout layouts before before_type under under_operand next behind end_of_type
option c v d t ts = parts c (row kinds.OPTION v d t) (([] then whole) ∷ []) ('?' ∷ []) refl (λ (k : ℕ) (m : Bool). refl) (λ (k : ℕ) (m : Bool). refl) (λ (k : ℕ) (m : Bool). refl) (λ (k : ℕ) (m : Bool). refl) ts

pub typed_name : (c : Place) (v d : ℕ) (t : List ℕ) (ts : Forest) → Phased c (row kinds.TYPED_NAME v d t) ts
unfolding layout layouts before before_type under under_operand next behind end_of_type
typed_name c v d t ts = parts c (row kinds.TYPED_NAME v d t) (([] then whole) ∷ ((':' ∷ []) then whole) ∷ []) [] refl (λ (k : ℕ) (m : Bool). refl) (λ (k : ℕ) (m : Bool). refl) (λ (k : ℕ) (m : Bool). refl) (λ (k : ℕ) (m : Bool). refl) ts

plus_one : (n : ℕ) → suc n ≡ n + 1
plus_one n = omega arith

pub binary : (c : Place) (v d : ℕ) (t : List ℕ) (ts : Forest) → Phased c (row kinds.BINARY v d t) ts
unfolding layout layouts before before_operand under under_operand next behind end_of_operand
binary c v d t ts = parts c (row kinds.BINARY v d t) (([] then left (left_level d) c) ∷ ((nth binary_signs (pred d) ∷ []) then right (suc (binary_level d)) c) ∷ []) [] refl (λ (k : ℕ) (m : Bool). refl) (λ (k : ℕ) (m : Bool). ap (λ (n : ℕ). seen (nth binary_signs (pred d) ∷ []) (right n c) 2 []) (plus_one (binary_level d))) (λ (k : ℕ) (m : Bool). refl) (λ (k : ℕ) (m : Bool). refl) ts

pub not_row : (c : Place) (v d : ℕ) (t : List ℕ) (ts : Forest) → Phased c (row kinds.NOT v d t) ts
unfolding layout layouts before before_operand under under_operand next behind end_of_operand
not_row c v d t ts = parts c (row kinds.NOT v d t) ((('!' ∷ []) then right 6 c) ∷ []) [] refl (λ (k : ℕ) (m : Bool). refl) (λ (k : ℕ) (m : Bool). refl) (λ (k : ℕ) (m : Bool). refl) (λ (k : ℕ) (m : Bool). refl) ts

pub negate : (c : Place) (v d : ℕ) (t : List ℕ) (ts : Forest) → Phased c (row kinds.NEGATE v d t) ts
unfolding layout layouts before before_operand under under_operand next behind end_of_operand
negate c v d t ts = parts c (row kinds.NEGATE v d t) ((('-' ∷ []) then right 6 c) ∷ []) [] refl (λ (k : ℕ) (m : Bool). refl) (λ (k : ℕ) (m : Bool). refl) (λ (k : ℕ) (m : Bool). refl) (λ (k : ℕ) (m : Bool). refl) ts

pub access : (c : Place) (v d : ℕ) (t : List ℕ) (ts : Forest) → Phased c (row kinds.ACCESS v d t) ts
unfolding layout layouts before before_operand under under_operand next behind end_of_operand
access c v d t ts = parts c (row kinds.ACCESS v d t) (([] then pathless (left 7 c)) ∷ ((dot ∷ []) then whole) ∷ []) [] refl (λ (k : ℕ) (m : Bool). refl) (λ (k : ℕ) (m : Bool). refl) (λ (k : ℕ) (m : Bool). refl) (λ (k : ℕ) (m : Bool). refl) ts

pub question : (c : Place) (v d : ℕ) (t : List ℕ) (ts : Forest) → Phased c (row kinds.QUESTION v d t) ts
unfolding layout layouts before before_operand under under_operand next behind end_of_operand
question c v d t ts = parts c (row kinds.QUESTION v d t) (([] then left 7 c) ∷ []) ('?' ∷ []) refl (λ (k : ℕ) (m : Bool). refl) (λ (k : ℕ) (m : Bool). refl) (λ (k : ℕ) (m : Bool). refl) (λ (k : ℕ) (m : Bool). refl) ts

pub assign : (c : Place) (v d : ℕ) (t : List ℕ) (ts : Forest) → Phased c (row kinds.ASSIGN v d t) ts
unfolding layout layouts before before_operand under under_operand next behind end_of_operand
assign c v d t ts = parts c (row kinds.ASSIGN v d t) (([] then whole) ∷ ((nth assign_signs d ∷ []) then right 1 c) ∷ []) [] refl (λ (k : ℕ) (m : Bool). refl) (λ (k : ℕ) (m : Bool). refl) (λ (k : ℕ) (m : Bool). refl) (λ (k : ℕ) (m : Bool). refl) ts

pub while_row : (c : Place) (v d : ℕ) (t : List ℕ) (ts : Forest) → Phased c (row kinds.WHILE v d t) ts
unfolding layout layouts before before_part under under_operand next behind end_of_part
while_row c v d t ts = parts c (row kinds.WHILE v d t) ((('while' ∷ []) then head) ∷ ([] then whole) ∷ []) [] refl (λ (k : ℕ) (m : Bool). refl) (λ (k : ℕ) (m : Bool). refl) (λ (k : ℕ) (m : Bool). refl) (λ (k : ℕ) (m : Bool). refl) ts

pub for_row : (c : Place) (v d : ℕ) (t : List ℕ) (ts : Forest) → Phased c (row kinds.FOR v d t) ts
unfolding layout layouts before before_part under under_operand next behind end_of_part
for_row c v d t ts = parts c (row kinds.FOR v d t) ((('for' ∷ []) then whole) ∷ (('in' ∷ []) then head) ∷ ([] then whole) ∷ []) [] refl (λ (k : ℕ) (m : Bool). refl) (λ (k : ℕ) (m : Bool). refl) (λ (k : ℕ) (m : Bool). refl) (λ (k : ℕ) (m : Bool). refl) ts

pub field : (c : Place) (v d : ℕ) (t : List ℕ) (ts : Forest) → Phased c (row kinds.FIELD v d t) ts
unfolding layout layouts before before_part under under_operand next behind end_of_part
field c v d t ts = parts c (row kinds.FIELD v d t) (([] then whole) ∷ ((':' ∷ []) then whole) ∷ []) [] refl (λ (k : ℕ) (m : Bool). refl) (λ (k : ℕ) (m : Bool). refl) (λ (k : ℕ) (m : Bool). refl) (λ (k : ℕ) (m : Bool). refl) ts

pub import_row : (c : Place) (v d : ℕ) (t : List ℕ) (ts : Forest) → Phased c (row kinds.IMPORT v d t) ts
unfolding layout layouts before before_item under under_operand next behind end_of_item
import_row c v d t ts = parts c (row kinds.IMPORT v d t) ((('import' ∷ []) then whole) ∷ []) (semicolon ∷ []) refl (λ (k : ℕ) (m : Bool). refl) (λ (k : ℕ) (m : Bool). refl) (λ (k : ℕ) (m : Bool). refl) (λ (k : ℕ) (m : Bool). refl) ts

pub const_row : (c : Place) (v d : ℕ) (t : List ℕ) (ts : Forest) → Phased c (row kinds.CONST v d t) ts
unfolding layout layouts before before_item under under_operand next behind end_of_item
const_row c v d t ts = parts c (row kinds.CONST v d t) ((('const' ∷ []) then whole) ∷ ((':' ∷ []) then whole) ∷ (('=' ∷ []) then whole) ∷ []) (semicolon ∷ []) refl (λ (k : ℕ) (m : Bool). refl) (λ (k : ℕ) (m : Bool). refl) (λ (k : ℕ) (m : Bool). refl) (λ (k : ℕ) (m : Bool). refl) ts

pub test_row : (c : Place) (v d : ℕ) (t : List ℕ) (ts : Forest) → Phased c (row kinds.TEST v d t) ts
unfolding layout layouts before before_item under under_operand next behind end_of_item
test_row c v d t ts = parts c (row kinds.TEST v d t) ((('test' ∷ []) then whole) ∷ ([] then whole) ∷ []) [] refl (λ (k : ℕ) (m : Bool). refl) (λ (k : ℕ) (m : Bool). refl) (λ (k : ℕ) (m : Bool). refl) (λ (k : ℕ) (m : Bool). refl) ts

let_row_by : (c : Place) (v d : ℕ) (t : List ℕ) (ts : Forest) (z : Bool) → eqb v 0 ≡ z → Phased c (row kinds.LET v d t) ts
unfolding layout layouts before before_item under under_operand next behind end_of_item
let_row_by c v d t ts true e = rw e (parts c (row kinds.LET v d t) ((('let' ∷ []) then whole) ∷ (('=' ∷ []) then whole) ∷ []) (semicolon ∷ []) refl (λ (k : ℕ) (m : Bool). rw e refl) (λ (k : ℕ) (m : Bool). rw e refl) (λ (k : ℕ) (m : Bool). rw e refl) (λ (k : ℕ) (m : Bool). rw e refl) ts)
let_row_by c v d t ts false e = rw e (parts c (row kinds.LET v d t) ((('let' ∷ []) then whole) ∷ ((':' ∷ []) then whole) ∷ (('=' ∷ []) then whole) ∷ []) (semicolon ∷ []) refl (λ (k : ℕ) (m : Bool). rw e refl) (λ (k : ℕ) (m : Bool). rw e refl) (λ (k : ℕ) (m : Bool). rw e refl) (λ (k : ℕ) (m : Bool). rw e refl) ts)

pub let_row : (c : Place) (v d : ℕ) (t : List ℕ) (ts : Forest) → Phased c (row kinds.LET v d t) ts
let_row c v d t ts = let_row_by c v d t ts (eqb v 0) refl

pub return_row : (c : Place) (v d : ℕ) (t : List ℕ) (ts : Forest) → Phased c (row kinds.RETURN v d t) ts
unfolding layout layouts before before_operand under under_operand next behind end_of_operand
return_row c v d t none = at_end c (row kinds.RETURN v d t) 0 (nth return_words (pred d) ∷ []) (right 0 c) 1 (nth return_words (pred d) ∷ []) [] (λ (k : ℕ) (m : Bool). refl)
return_row c v d t (tree b kids ts) = steadily c (row kinds.RETURN v d t) 0 (((nth return_words (pred d) ∷ []) then right 0 c) ∷ []) 1 [] (nth return_words (pred d) ∷ []) b kids ts (λ (k : ℕ) (m : Bool). refl) (quiet c (row kinds.RETURN v d t) [] (λ (k : ℕ) (m : Bool). refl) (λ (k : ℕ) (m : Bool). refl) (λ (k : ℕ) (m : Bool). refl) ts)

with_else : (c : Place) (v d : ℕ) (t : List ℕ) (ts : Forest) → fill ((('if' ∷ []) then head) ∷ ([] then whole) ∷ (('else' ∷ []) then whole) ∷ []) [] ts ≡ going c (row kinds.IF v d t) 0 ts
unfolding layout layouts before before_part under under_operand next behind end_of_part
with_else c v d t ts = parts c (row kinds.IF v d t) ((('if' ∷ []) then head) ∷ ([] then whole) ∷ (('else' ∷ []) then whole) ∷ []) [] refl (λ (k : ℕ) (m : Bool). refl) (λ (k : ℕ) (m : Bool). refl) (λ (k : ℕ) (m : Bool). refl) (λ (k : ℕ) (m : Bool). refl) ts

pub if_row : (c : Place) (v d : ℕ) (t : List ℕ) (ts : Forest) → Phased c (row kinds.IF v d t) ts
unfolding layout layouts fill
if_row c v d t none = with_else c v d t none
if_row c v d t (tree a i none) = with_else c v d t (tree a i none)
if_row c v d t (tree a i (tree b j none)) = with_else c v d t (tree a i (tree b j none))
if_row c v d t (tree a i (tree b j (tree e l ts))) = with_else c v d t (tree a i (tree b j (tree e l ts)))

-- arms: each but the last knows that one follows

arms_on : (c : Place) (v d : ℕ) (t : List ℕ) (ts : Forest) → fill (arms [] ts) (close_brace ∷ []) ts ≡ going c (row kinds.MATCH v d t) 3 ts
unfolding fill going before before_part under next behind end_of_part
arms_on c v d t none = refl
arms_on c v d t (tree b kids ts) = step c (row kinds.MATCH v d t) 3 (arms [] (tree b kids ts)) (close_brace ∷ []) b kids ts refl refl (arms_on c v d t ts)

arms_two : (c : Place) (v d : ℕ) (t : List ℕ) (ts : Forest) → fill (arms [] ts) (close_brace ∷ []) ts ≡ going c (row kinds.MATCH v d t) 2 ts
unfolding fill going before before_part under next behind end_of_part
arms_two c v d t none = refl
arms_two c v d t (tree b kids ts) = step c (row kinds.MATCH v d t) 2 (arms [] (tree b kids ts)) (close_brace ∷ []) b kids ts refl refl (arms_on c v d t ts)

arms_first : (c : Place) (v d : ℕ) (t : List ℕ) (ts : Forest) → fill (arms (open_brace ∷ []) ts) (cond (empty ts) (open_brace ∷ close_brace ∷ []) (close_brace ∷ [])) ts ≡ going c (row kinds.MATCH v d t) 1 ts
unfolding fill going before before_part under next behind end_of_part
arms_first c v d t none = refl
arms_first c v d t (tree b kids ts) = step c (row kinds.MATCH v d t) 1 (arms (open_brace ∷ []) (tree b kids ts)) (close_brace ∷ []) b kids ts refl refl (arms_two c v d t ts)

pub match_row : (c : Place) (v d : ℕ) (t : List ℕ) (ts : Forest) → Phased c (row kinds.MATCH v d t) ts
unfolding layout layouts fill going before before_part under next behind end_of_part
match_row c v d t none = refl
match_row c v d t (tree b kids ts) = step c (row kinds.MATCH v d t) 0 ((('match' ∷ []) then head) ∷ arms (open_brace ∷ []) ts) (cond (empty ts) (open_brace ∷ close_brace ∷ []) (close_brace ∷ [])) b kids ts refl refl (arms_first c v d t ts)

-- an arm: what is behind its body depends on whether that is a block

body_behind : (c : Place) (v d : ℕ) (t : List ℕ) (z : Bool) → eqb v 0 ≡ z → (block : Bool) (ts : Forest) → fill [] (cond (c.more && not block) (comma ∷ []) []) ts ≡ going c (row kinds.ARM v d t) (cond block 3 4) ts
unfolding layout layouts before before_part under under_operand next behind end_of_part
body_behind c v d t true e true ts = stuck c (row kinds.ARM v d t) 3 (cond (c.more && false) (comma ∷ []) []) (λ (k : ℕ) (m : Bool). rw e refl) ts
body_behind c v d t true e false ts = stuck c (row kinds.ARM v d t) 4 (cond (c.more && true) (comma ∷ []) []) (λ (k : ℕ) (m : Bool). rw e refl) ts
body_behind c v d t false e true ts = stuck c (row kinds.ARM v d t) 3 (cond (c.more && false) (comma ∷ []) []) (λ (k : ℕ) (m : Bool). rw e refl) ts
body_behind c v d t false e false ts = stuck c (row kinds.ARM v d t) 4 (cond (c.more && true) (comma ∷ []) []) (λ (k : ℕ) (m : Bool). rw e refl) ts

-- a body of this kind, by the arm's parts before it
body_on : (c : Place) (v d : ℕ) (t : List ℕ) (z : Bool) → eqb v 0 ≡ z → (b : Label) (j ts : Forest) → fill (canon.body c.more b.kind).slots (canon.body c.more b.kind).last (tree b j ts) ≡ going c (row kinds.ARM v d t) (cond z 1 2) (tree b j ts)
unfolding before before_part under next
body_on c v d t true e b j ts = step c (row kinds.ARM v d t) 1 (canon.body c.more b.kind).slots (canon.body c.more b.kind).last b j ts (rw e refl) (rw e refl) (body_behind c v d t true e (eqb b.kind kinds.BLOCK) ts ∙ ap (λ (n : ℕ). going c (row kinds.ARM v d t) n ts) (rw e refl))
body_on c v d t false e b j ts = step c (row kinds.ARM v d t) 2 (canon.body c.more b.kind).slots (canon.body c.more b.kind).last b j ts (rw e refl) (rw e refl) (body_behind c v d t false e (eqb b.kind kinds.BLOCK) ts ∙ ap (λ (n : ℕ). going c (row kinds.ARM v d t) n ts) (rw e refl))

abbrev bare_arm : Place → Forest → Layout
bare_arm c ts = canon.and_then ([] then whole) (canon.body c.more (first_kind (rest ts)))

abbrev guarded_arm : Place → Forest → Layout
guarded_arm c ts = canon.and_then ([] then whole) (canon.and_then (('if' ∷ []) then whole) (canon.body c.more (first_kind (rest (rest ts)))))

arm_bare : (c : Place) (v d : ℕ) (t : List ℕ) → eqb v 0 ≡ true → (ts : Forest) → fill (bare_arm c ts).slots (bare_arm c ts).last ts ≡ going c (row kinds.ARM v d t) 0 ts
unfolding fill going before before_part under next behind end_of_part
arm_bare c v d t e none = refl
arm_bare c v d t e (tree a i none) = steadily c (row kinds.ARM v d t) 0 (bare_arm c (tree a i none)).slots 1 (bare_arm c (tree a i none)).last (cond (c.more && true) (comma ∷ []) []) a i none (λ (k : ℕ) (m : Bool). rw e refl) refl
arm_bare c v d t e (tree a i (tree b j ts)) = steadily c (row kinds.ARM v d t) 0 (bare_arm c (tree a i (tree b j ts))).slots 1 (bare_arm c (tree a i (tree b j ts))).last (cond (c.more && true) (comma ∷ []) []) a i (tree b j ts) (λ (k : ℕ) (m : Bool). rw e refl) (body_on c v d t true e b j ts)

arm_guarded : (c : Place) (v d : ℕ) (t : List ℕ) → eqb v 0 ≡ false → (ts : Forest) → fill (guarded_arm c ts).slots (guarded_arm c ts).last ts ≡ going c (row kinds.ARM v d t) 0 ts
unfolding fill going before before_part under next behind end_of_part
arm_guarded c v d t e none = refl
arm_guarded c v d t e (tree a i ts) = steadily c (row kinds.ARM v d t) 0 (guarded_arm c (tree a i ts)).slots 1 (guarded_arm c (tree a i ts)).last (cond (c.more && true) (comma ∷ []) []) a i ts (λ (k : ℕ) (m : Bool). rw e refl) (guard ts)
  where
    guard : (us : Forest) → fill (canon.and_then (('if' ∷ []) then whole) (canon.body c.more (first_kind (rest us)))).slots (canon.body c.more (first_kind (rest us))).last us ≡ going c (row kinds.ARM v d t) 1 us
    guard none = refl
    guard (tree b j none) = steadily c (row kinds.ARM v d t) 1 (canon.and_then (('if' ∷ []) then whole) (canon.body c.more 0)).slots 2 (canon.body c.more 0).last (cond (c.more && true) (comma ∷ []) []) b j none (λ (k : ℕ) (m : Bool). rw e refl) refl
    guard (tree b j (tree f l us)) = steadily c (row kinds.ARM v d t) 1 (canon.and_then (('if' ∷ []) then whole) (canon.body c.more f.kind)).slots 2 (canon.body c.more f.kind).last (cond (c.more && true) (comma ∷ []) []) b j (tree f l us) (λ (k : ℕ) (m : Bool). rw e refl) (body_on c v d t false e f l us)

arm_by : (c : Place) (v d : ℕ) (t : List ℕ) (ts : Forest) (z : Bool) → eqb v 0 ≡ z → Phased c (row kinds.ARM v d t) ts
unfolding layout layouts
arm_by c v d t ts true e = rw e (arm_bare c v d t e ts)
arm_by c v d t ts false e = rw e (arm_guarded c v d t e ts)

pub arm_row : (c : Place) (v d : ℕ) (t : List ℕ) (ts : Forest) → Phased c (row kinds.ARM v d t) ts
arm_row c v d t ts = arm_by c v d t ts (eqb v 0) refl

-- statements: what was the last one decides the words before the next and behind all

between_so : (expr four : Bool) → cond (expr && not four) (semicolon ∷ []) [] ≡ in_phase (cond expr (cond four 2 3) 1) (open_brace ∷ []) [] [] (semicolon ∷ [])
between_so true true = refl
between_so true false = refl
between_so false four = refl

behind_so : (expr four no_last : Bool) → cond (expr && no_last) (semicolon ∷ close_brace ∷ []) (close_brace ∷ []) ≡ cond no_last (in_phase (cond expr (cond four 2 3) 1) (open_brace ∷ close_brace ∷ []) (close_brace ∷ []) (semicolon ∷ close_brace ∷ []) (semicolon ∷ close_brace ∷ [])) (in_phase (cond expr (cond four 2 3) 1) (open_brace ∷ close_brace ∷ []) (close_brace ∷ []) (close_brace ∷ []) (close_brace ∷ []))
behind_so true true true = refl
behind_so true true false = refl
behind_so true false true = refl
behind_so true false false = refl
behind_so false four true = refl
behind_so false four false = refl

statements_on : (c : Place) (v d : ℕ) (t : List ℕ) (p : ℕ) (w : List ℕ) (a : Label) (i ts : Forest) → w ≡ in_phase p (open_brace ∷ []) [] [] (semicolon ∷ []) → fill (statements v w (tree a i ts)).slots (statements v w (tree a i ts)).last (tree a i ts) ≡ going c (row kinds.BLOCK v d t) p (tree a i ts)
unfolding fill going before before_part under next behind end_of_part
statements_on c v d t p w a i none h = step c (row kinds.BLOCK v d t) p ((w then canon.statement a.kind) ∷ []) (canon.behind v a.kind) a i none h refl (ap signs (behind_so (is_expr a.kind) (is_four a.kind) (eqb v 0)))
statements_on c v d t p w a i (tree b j ts) h = step c (row kinds.BLOCK v d t) p (statements v w (tree a i (tree b j ts))).slots (statements v w (tree a i (tree b j ts))).last a i (tree b j ts) h refl (statements_on c v d t (cond (is_expr a.kind) (cond (is_four a.kind) 2 3) 1) (between a.kind) b j ts (between_so (is_expr a.kind) (is_four a.kind)))

alike : (z : Bool) (x : List ℕ) → x ≡ cond z x x
alike true x = refl
alike false x = refl

pub block : (c : Place) (v d : ℕ) (t : List ℕ) (ts : Forest) → Phased c (row kinds.BLOCK v d t) ts
unfolding layout layouts fill going behind end_of_part
block c v d t none = ap signs (alike (eqb v 0) (open_brace ∷ close_brace ∷ []))
block c v d t (tree a i ts) = statements_on c v d t 0 (open_brace ∷ []) a i ts refl

-- params, perhaps a result, the block

record Headed (c : Place) (a : Label) (w : ℕ) (result : Bool) : Type 0 where
  words : (p k : ℕ) → before_headed w result p k ≡ before a.kind a.value a.detail p k
  place : (p k : ℕ) (m : Bool) → whole ≡ under a.kind a.value a.detail c p k m
  phase : (p k : ℕ) → behind_param p k ≡ next a.kind a.value p k
  end : (p : ℕ) → [] ≡ behind a.kind a.value a.detail p c.more

abbrev by_param : ℕ → Bool → ℕ → Bool → List ℕ
by_param w result p q =
    cond q (in_phase p (w ∷ []) (open_paren ∷ []) (comma ∷ []) [])
    (cond result (in_phase p (w ∷ []) (open_paren ∷ close_paren ∷ '->' ∷ []) (close_paren ∷ '->' ∷ []) []) (in_phase p (w ∷ []) (open_paren ∷ close_paren ∷ []) (close_paren ∷ []) []))

abbrev past_param : ℕ → Bool → ℕ
past_param p q = cond q (in_phase p 1 2 2 3) (in_phase p 1 3 3 3)

behind_all : (c : Place) (a : Label) (w : ℕ) (result : Bool) → Headed c a w result → Steady c a 3 [] whole 3 []
behind_all c a w result h = steady c a 3 [] whole 3 [] (λ (k : ℕ). quiet_words result (eqb k kinds.TYPED_NAME) ∙ h.words 3 k) (λ (k : ℕ) (m : Bool). h.place 3 k m) (λ (k : ℕ). last_phase (eqb k kinds.TYPED_NAME) ∙ h.phase 3 k) (h.end 3)
  where
    quiet_words : (r q : Bool) → [] ≡ by_param w r 3 q
    quiet_words r true = refl
    quiet_words true false = refl
    quiet_words false false = refl

    last_phase : (q : Bool) → 3 ≡ past_param 3 q
    last_phase true = refl
    last_phase false = refl

result_behind : (c : Place) (a : Label) (w : ℕ) (result : Bool) → Headed c a w result → (ts : Forest) → fill (([] then whole) ∷ []) [] ts ≡ going c a 3 ts
result_behind c a w result h = on c a 3 (([] then whole) ∷ []) 3 [] (behind_all c a w result h) (stuck c a 3 [] (behind_all c a w result h))

-- a child behind the name, given those after it
headed_step : (c : Place) (a : Label) (w : ℕ) (result : Bool) → Headed c a w result → (bare param : Bool) (b : Label) (i ts : Forest) → param ≡ eqb b.kind kinds.TYPED_NAME → fill (headed result false ts) [] ts ≡ going c a 2 ts → fill (cond param ((cond bare (open_paren ∷ []) (comma ∷ []) then whole) ∷ headed result false ts) (cond result ((closing bare ++ ('->' ∷ []) then whole) ∷ ([] then whole) ∷ []) ((closing bare then whole) ∷ []))) [] (tree b i ts) ≡ going c a (cond bare 1 2) (tree b i ts)
headed_step c a w result h true true b i ts e j = step c a 1 (((open_paren ∷ []) then whole) ∷ headed result false ts) [] b i ts (ap (by_param w result 1) e ∙ h.words 1 b.kind) (h.place 1 b.kind (not (empty ts))) (j ∙ ap (λ (n : ℕ). going c a n ts) (ap (past_param 1) e ∙ h.phase 1 b.kind))
headed_step c a w result h false true b i ts e j = step c a 2 (((comma ∷ []) then whole) ∷ headed result false ts) [] b i ts (ap (by_param w result 2) e ∙ h.words 2 b.kind) (h.place 2 b.kind (not (empty ts))) (j ∙ ap (λ (n : ℕ). going c a n ts) (ap (past_param 2) e ∙ h.phase 2 b.kind))
headed_step c a w true h true false b i ts e j = step c a 1 (((open_paren ∷ close_paren ∷ '->' ∷ []) then whole) ∷ ([] then whole) ∷ []) [] b i ts (ap (by_param w true 1) e ∙ h.words 1 b.kind) (h.place 1 b.kind (not (empty ts))) (result_behind c a w true h ts ∙ ap (λ (n : ℕ). going c a n ts) (ap (past_param 1) e ∙ h.phase 1 b.kind))
headed_step c a w true h false false b i ts e j = step c a 2 (((close_paren ∷ '->' ∷ []) then whole) ∷ ([] then whole) ∷ []) [] b i ts (ap (by_param w true 2) e ∙ h.words 2 b.kind) (h.place 2 b.kind (not (empty ts))) (result_behind c a w true h ts ∙ ap (λ (n : ℕ). going c a n ts) (ap (past_param 2) e ∙ h.phase 2 b.kind))
headed_step c a w false h true false b i ts e j = step c a 1 (((open_paren ∷ close_paren ∷ []) then whole) ∷ []) [] b i ts (ap (by_param w false 1) e ∙ h.words 1 b.kind) (h.place 1 b.kind (not (empty ts))) (stuck c a 3 [] (behind_all c a w false h) ts ∙ ap (λ (n : ℕ). going c a n ts) (ap (past_param 1) e ∙ h.phase 1 b.kind))
headed_step c a w false h false false b i ts e j = step c a 2 (((close_paren ∷ []) then whole) ∷ []) [] b i ts (ap (by_param w false 2) e ∙ h.words 2 b.kind) (h.place 2 b.kind (not (empty ts))) (stuck c a 3 [] (behind_all c a w false h) ts ∙ ap (λ (n : ℕ). going c a n ts) (ap (past_param 2) e ∙ h.phase 2 b.kind))

headed_on : (c : Place) (a : Label) (w : ℕ) (result : Bool) → Headed c a w result → (bare : Bool) (ts : Forest) → fill (headed result bare ts) [] ts ≡ going c a (cond bare 1 2) ts
unfolding fill going
headed_on c a w result h bare none = ap signs (h.end (cond bare 1 2))
headed_on c a w result h bare (tree b i ts) = headed_step c a w result h bare (eqb b.kind kinds.TYPED_NAME) b i ts refl (headed_on c a w result h false ts)

headed_all : (c : Place) (a : Label) (w : ℕ) (result : Bool) → Headed c a w result → (ts : Forest) → fill (((w ∷ []) then whole) ∷ headed result true (rest ts)) [] ts ≡ going c a 0 ts
unfolding fill going
headed_all c a w result h none = ap signs (h.end 0)
headed_all c a w result h (tree b i ts) = step c a 0 (((w ∷ []) then whole) ∷ headed result true ts) [] b i ts (first_word result (eqb b.kind kinds.TYPED_NAME) ∙ h.words 0 b.kind) (h.place 0 b.kind (not (empty ts))) (headed_on c a w result h true ts ∙ ap (λ (n : ℕ). going c a n ts) (first_phase (eqb b.kind kinds.TYPED_NAME) ∙ h.phase 0 b.kind))
  where
    first_word : (r q : Bool) → (w ∷ []) ≡ by_param w r 0 q
    first_word r true = refl
    first_word true false = refl
    first_word false false = refl

    first_phase : (q : Bool) → 1 ≡ past_param 0 q
    first_phase true = refl
    first_phase false = refl

pub fn_row : (c : Place) (v d : ℕ) (t : List ℕ) (ts : Forest) → Phased c (row kinds.FN v d t) ts
unfolding layout layouts before before_item under under_operand next behind end_of_item
fn_row c v d t ts = headed_all c (row kinds.FN v d t) 'fn' (eqb v 1) (record { words = λ (p k : ℕ). refl; place = λ (p k : ℕ) (m : Bool). refl; phase = λ (p k : ℕ). refl; end = λ (p : ℕ). refl }) ts

pub filter_row : (c : Place) (v d : ℕ) (t : List ℕ) (ts : Forest) → Phased c (row kinds.FILTER v d t) ts
unfolding layout layouts before before_item under under_operand next behind end_of_item
filter_row c v d t ts = headed_all c (row kinds.FILTER v d t) (nth filter_words (pred d)) false (record { words = λ (p k : ℕ). refl; place = λ (p k : ℕ) (m : Bool). refl; phase = λ (p k : ℕ). refl; end = λ (p : ℕ). refl }) ts

-- import paths: a name or a path of the group, given those after it

abbrev by_name : ℕ → Bool → List ℕ
by_name p q = cond q (in_phase p [] (dot ∷ []) (dot ∷ []) (dot ∷ [])) (in_phase p (dot ∷ open_brace ∷ []) (dot ∷ open_brace ∷ []) (comma ∷ []) (dot ∷ open_brace ∷ []))

imports_step : (c : Place) (v d : ℕ) (t : List ℕ) (p : ℕ) (name : Bool) (b : Label) (i ts : Forest) → name ≡ eqb b.kind kinds.NAME → fill (imports false false ts).slots (imports false false ts).last ts ≡ going c (row kinds.IMPORT_PATH v d t) 1 ts → fill (imports false true ts).slots (imports false true ts).last ts ≡ going c (row kinds.IMPORT_PATH v d t) 2 ts → fill ((by_name p name then whole) ∷ (imports false (not name) ts).slots) (imports false (not name) ts).last (tree b i ts) ≡ going c (row kinds.IMPORT_PATH v d t) p (tree b i ts)
unfolding before before_item under under_operand next
imports_step c v d t p true b i ts e j l = step c (row kinds.IMPORT_PATH v d t) p ((by_name p true then whole) ∷ (imports false false ts).slots) (imports false false ts).last b i ts (ap (by_name p) e) refl (j ∙ ap (λ (q : Bool). going c (row kinds.IMPORT_PATH v d t) (cond q 1 2) ts) e)
imports_step c v d t p false b i ts e j l = step c (row kinds.IMPORT_PATH v d t) p ((by_name p false then whole) ∷ (imports false true ts).slots) (imports false true ts).last b i ts (ap (by_name p) e) refl (l ∙ ap (λ (q : Bool). going c (row kinds.IMPORT_PATH v d t) (cond q 1 2) ts) e)

abbrev imported : Bool → Bool → Bool → Forest → Layout
imported first group name ts = cond name (canon.and_then (cond first [] (dot ∷ []) then whole) (imports false false ts)) (canon.and_then (cond group (comma ∷ []) (dot ∷ open_brace ∷ []) then whole) (imports false true ts))

imported_first : (c : Place) (v d : ℕ) (t : List ℕ) (name : Bool) (b : Label) (i ts : Forest) → name ≡ eqb b.kind kinds.NAME → fill (imports false false ts).slots (imports false false ts).last ts ≡ going c (row kinds.IMPORT_PATH v d t) 1 ts → fill (imports false true ts).slots (imports false true ts).last ts ≡ going c (row kinds.IMPORT_PATH v d t) 2 ts → fill (imported true false name ts).slots (imported true false name ts).last (tree b i ts) ≡ going c (row kinds.IMPORT_PATH v d t) 0 (tree b i ts)
imported_first c v d t true b i ts e j l = imports_step c v d t 0 true b i ts e j l
imported_first c v d t false b i ts e j l = imports_step c v d t 0 false b i ts e j l

imported_later : (c : Place) (v d : ℕ) (t : List ℕ) (group name : Bool) (b : Label) (i ts : Forest) → name ≡ eqb b.kind kinds.NAME → fill (imports false false ts).slots (imports false false ts).last ts ≡ going c (row kinds.IMPORT_PATH v d t) 1 ts → fill (imports false true ts).slots (imports false true ts).last ts ≡ going c (row kinds.IMPORT_PATH v d t) 2 ts → fill (imported false group name ts).slots (imported false group name ts).last (tree b i ts) ≡ going c (row kinds.IMPORT_PATH v d t) (cond group 2 1) (tree b i ts)
imported_later c v d t true true b i ts e j l = imports_step c v d t 2 true b i ts e j l
imported_later c v d t true false b i ts e j l = imports_step c v d t 2 false b i ts e j l
imported_later c v d t false true b i ts e j l = imports_step c v d t 1 true b i ts e j l
imported_later c v d t false false b i ts e j l = imports_step c v d t 1 false b i ts e j l

imports_on : (c : Place) (v d : ℕ) (t : List ℕ) (group : Bool) (ts : Forest) → fill (imports false group ts).slots (imports false group ts).last ts ≡ going c (row kinds.IMPORT_PATH v d t) (cond group 2 1) ts
unfolding fill going behind end_of_item
imports_on c v d t true none = refl
imports_on c v d t false none = refl
imports_on c v d t group (tree b i ts) = imported_later c v d t group (eqb b.kind kinds.NAME) b i ts refl (imports_on c v d t false ts) (imports_on c v d t true ts)

pub import_path : (c : Place) (v d : ℕ) (t : List ℕ) (ts : Forest) → Phased c (row kinds.IMPORT_PATH v d t) ts
unfolding layout layouts fill going behind end_of_item
import_path c v d t none = refl
import_path c v d t (tree b i ts) = imported_first c v d t (eqb b.kind kinds.NAME) b i ts refl (imports_on c v d t false ts) (imports_on c v d t true ts)
