-- What is claimed of each kind of phrase in a reading: the trees that it leaves stand where they are put.
use mathlib.Core.Path.{◌≡◌, subst, sym}
use mathlib.Core.List.{List, [], ◌∷◌, ◌++◌}
use mathlib.Core.Bool.{Bool, true, false, not, ◌||◌, ◌&&◌, cond}
use Prim.Native.Nat.{ℕ, zero, suc, pred, ◌≤◌}
use lib.Dec.{T, eqb}
use Rattle.rows.specs.Kinds as kinds
use Rattle.grammar.specs.Words.{literals, name, names, path_items}
use Rattle.grammar.specs.Grammar.{Ask, Parts, Token, closes_bracket, end, has_value, is_else_if, is_head, is_prefix, one_of, opens_bracket, plain}
use Rattle.grammar.specs.Kinds.{AFTER_EXPR, AFTER_FOUR, AFTER_PATH, AND, AND_MORE, ARM, ARM_BODY, ARM_COMMA, ARM_NEXT, ARMS, ASSIGNED, BINARY, BLOCK, BRACES, BRACES_INSIDE, COMPARE, COMPARE_MORE, DECLARATION, DECLARATIONS, ELSE, ELSE_IF, ELSE_PART, EXPR, EXPRS, EXPRS_MORE, F_STRING, FIELD, FIELD_NAME, FIELDS, FIELDS_MORE, FOUR, GUARD, IMPORT, IMPORTED, IMPORTPATH, IMPORTPATH_DOT, IMPORTPATH_REST, IMPORTPATHS, IMPORTPATHS_MORE, LET, LET_TYPE, LITERAL, NAME, NAMES, NAMES_MORE, OPERAND, OR_MORE, PARAMS, PARENS, PATH, PATH_ITEM, PATH_REST, PATTERN, POSTFIX, PRODUCT, PRODUCT_MORE, RESULT, RETURNED, STATEMENT, STATEMENTS, SUM, SUM_MORE, TREE, TYPE, TYPE_BASE, TYPE_BRACKETS, TYPE_MARKS, TYPED_NAME, TYPED_NAMES, TYPED_NAMES_MORE, TYPES, TYPES_MORE, VARIANT, VARIANT_NAMES, records}
use Rattle.grammar.specs.Limits.{Counts}
use Rattle.grammar.specs.Table.{rest_kinds, literal_row}
use Rattle.grammar.specs.Rows.{is_text, place_in}
use Rattle.grammar.specs.Language.{roto}
use Rattle.grammar.proofs.Frame.{no_text, plain_word}
use Rattle.printing.specs.Groves.{Grove, Head, beside, fresh, grow, nil, top}
use Rattle.printing.proofs.Lists.{Has, Shape, has_end, only}
use Rattle.printing.proofs.Placed.{Items, PathTree, Placed, name_head, row_head}
use Rattle.printing.proofs.Exprs.{beside_nil, literal_kinds}
use Rattle.printing.proofs.Calls.{Listed, Says, mid}
use Rattle.printing.proofs.Types.{ImportRest, Paths, Typed}
use Rattle.printing.proofs.Blocks.{Stmts}
use Rattle.printing.proofs.Fours.{Arm, Arms, Else}
use Rattle.printing.proofs.Decls.{Declared, Params}
use Rattle.printing.proofs.Grown.{path_grown}

-- what is known of a token: a literal's has a value, and a literal's kind
abbrev pub Knows : Ask → Token → Type 0
Knows plain x = Unit {0}
Knows has_value x = T x.holds × (T (one_of x.word literals) → T (one_of x.kind literal_kinds))
Knows opens_bracket x = Unit {0}
Knows closes_bracket x = Unit {0}
Knows is_prefix x = Unit {0}
Knows is_head x = Unit {0}
Knows is_else_if x = Unit {0}

abbrev pub sh : Grove → List ℕ → ℕ → Shape
sh g w v = record { kids = g; sign = w; part = v }

pub keep_nil : (K : Grove) (w : List ℕ) (v : ℕ) → Has end (sh K w v) (sh (beside K nil) w v)
keep_nil K w v = subst (λ (t : Grove). Has end (sh K w v) (sh t w v)) (sym (beside_nil K)) (has_end (sh K w v))

-- no tree
pub data NoTrees : Grove → Type 0 where
  no_trees : NoTrees nil

pub data Ret (s : List ℕ) : Grove → Type 0 where
  ret_none : Ret s nil
  ret_one : {h : Head} {k : Grove} → Placed s h k → Ret s (top h k nil)

module _ (s : List ℕ) where
  -- phrases of their own: one tree; a name; a row of this kind; trees
  abbrev pub Tree : (Head → Grove → Type 0) → Parts → Type 0
  Tree X p = (h : Head) × (k : Grove) × ((grow p fresh).kids ≡ top h k nil) × X h k

  abbrev pub Expr : Parts → Type 0
  Expr p = Tree (Placed s) p

  abbrev pub Name : List ℕ → Parts → Type 0
  Name w p = (x : Token) × ((grow p fresh).kids ≡ top (name_head x) nil nil) × T (one_of x.word w)

  abbrev pub OfKind : Head → (Grove → Type 0) → Parts → Type 0
  OfKind h X p = (k : Grove) × ((grow p fresh).kids ≡ top h k nil) × X k

  abbrev pub Trees : (Grove → Type 0) → Parts → Type 0
  Trees X p = (g : Grove) × ((grow p fresh).kids ≡ g) × X g

  abbrev pub BlockOf : Parts → Type 0
  BlockOf p = (v : ℕ) × (g : Grove) × ((grow p fresh).kids ≡ top (row_head kinds.BLOCK v 0) g nil) × Stmts s v g

  abbrev pub LetOf : Parts → Type 0
  LetOf p = (v : ℕ) × (k : Grove) × ((grow p fresh).kids ≡ top (row_head kinds.LET v 0) k nil) × Says s LET (row_head kinds.LET v 0) k

  abbrev pub TypeOk : Head → Grove → Type 0
  TypeOk h k = Typed s h k × (eqb h.kind kinds.TYPED_NAME ≡ false)

  -- rests of phrases: from one tree to one; behind a bracket, more trees; behind anything
  abbrev pub On : (Head → Grove → Type 0) → (Head → Grove → Type 0) → Parts → Type 0
  On X Y p = (h : Head) (k : Grove) → X h k → (h' : Head) × (k' : Grove) × Has p (only (top h k nil)) (only (top h' k' nil)) × Y h' k'

  abbrev pub More : Parts → Type 0
  More p = On (Placed s) (Placed s) p

  abbrev pub Adds : (Grove → Type 0) → Parts → Type 0
  Adds L p = (K : Grove) (c v : ℕ) → (g : Grove) × Has p (mid K c v) (mid (beside K g) c v) × L g

  abbrev pub Joins : (Grove → Type 0) → Parts → Type 0
  Joins L p = (K : Grove) (w : List ℕ) → (g : Grove) × (w' : List ℕ) × Has p (sh K w 0) (sh (beside K g) w' 0) × L g

  -- the part that the row's value tells of, perhaps
  pub data Perhaps (X : Head → Grove → Type 0) : ℕ → Grove → Type 0 where
    not_there : Perhaps X 0 nil
    is_there : {h : Head} {k : Grove} → X h k → Perhaps X 1 (top h k nil)

  abbrev pub Parted : (ℕ → Grove → Type 0) → Parts → Type 0
  Parted L p = (K : Grove) (c : ℕ) → (v : ℕ) × (g : Grove) × Has p (mid K c 0) (mid (beside K g) c v) × L v g

  abbrev pub Guarded : Parts → Type 0
  Guarded p = (K : Grove) → (v : ℕ) × (g : Grove) × (w : List ℕ) × Has p (only K) (sh (beside K g) w v) × Perhaps (Placed s) v g

  abbrev pub After : Parts → Type 0
  After p = (K : Grove) (c : ℕ) (h : Head) (k : Grove) → Placed s h k → (v : ℕ) × (g : Grove) × Has p (mid (beside K (top h k nil)) c 0) (mid (beside K (top h k g)) c v) × Stmts s v (top h k g)

  abbrev pub Bodied : Parts → Type 0
  Bodied p = (K : Grove) (w : List ℕ) (v : ℕ) → ((h : Head) (k : Grove) → Placed s h k → Arm s v (beside K (top h k nil))) → (g : Grove) × (w' : List ℕ) × Has p (sh K w v) (sh g w' 0) × Arms s g

  abbrev pub Returned : Parts → Type 0
  Returned p = (c : ℕ) → (g : Grove) × Has p (mid nil c 0) (mid g c 0) × Ret s g

  abbrev pub Variants : Parts → Type 0
  Variants p = (x : Token) → T (one_of x.word (name ∷ [])) → (h : Head) × (k : Grove) × Has p (only (top (name_head x) nil nil)) (only (top h k nil)) × Says s PATTERN h k

  abbrev pub Braced : Parts → Type 0
  Braced p = (c : ℕ) → (h : Head) × (k : Grove) × Has p (mid nil c 0) (only (top h k nil)) × Placed s h k

  abbrev pub PathsOf : Parts → Type 0
  PathsOf p = (K : Grove) (w : List ℕ) → (k : Grove) × (g : Grove) × (w' : List ℕ) × Has p (sh K w 0) (sh (beside K (top (row_head kinds.IMPORT_PATH 0 0) k g)) w' 0) × Says s IMPORTPATH (row_head kinds.IMPORT_PATH 0 0) k × Paths s g

pub record Entry : Type 1 where
  pub kind : ℕ
  pub claim : Parts → Type 0

infix 10 ◌says◌
abbrev pub ◌says◌ : ℕ → (Parts → Type 0) → Entry
n says c = record { kind = n; claim = c }

abbrev pick : Bool → Type 0 → Type 0 → Type 0
pick true X Y = X
pick false X Y = Y

abbrev pub claim_in : List {1} Entry → ℕ → Parts → Type 0
claim_in [] n p = Unit {0}
claim_in (x ∷ xs) n p = pick (eqb n x.kind) (x.claim p) (claim_in xs n p)

abbrev pub exprs_claims : List ℕ → Bool → List {1} Entry
exprs_claims s r =
    (EXPR r says Expr s) ∷ (RETURNED r says Returned s) ∷ (ASSIGNED r says On s PathTree (Placed s)) ∷ (BINARY r says Expr s) ∷ (OR_MORE r says More s) ∷ (AND r says Expr s) ∷ (AND_MORE r says More s) ∷
    (COMPARE r says Expr s) ∷ (COMPARE_MORE r says More s) ∷ (SUM r says Expr s) ∷ (SUM_MORE r says More s) ∷ (PRODUCT r says Expr s) ∷ (PRODUCT_MORE r says More s) ∷ (OPERAND r says Expr s) ∷ (POSTFIX r says More s) ∷ (AFTER_PATH r says On s PathTree (Placed s)) ∷ []

abbrev pub claims : List ℕ → List {1} Entry
claims s =
    (TYPED_NAMES says Adds s (Params s)) ∷ (TYPED_NAMES_MORE says Adds s (Params s)) ∷ (TYPES says Adds s (Listed s TYPE)) ∷ (TYPES_MORE says Adds s (Listed s TYPE)) ∷
    (EXPRS says Adds s (Listed s (EXPR records))) ∷ (EXPRS_MORE says Adds s (Listed s (EXPR records))) ∷ (FIELDS says Adds s (Listed s FIELD)) ∷ (FIELDS_MORE says Adds s (Listed s FIELD)) ∷ (NAMES says Adds s (Listed s NAME)) ∷ (NAMES_MORE says Adds s (Listed s NAME)) ∷
    (TREE says Trees s (Declared s)) ∷ (DECLARATIONS says Joins s (Declared s)) ∷ (DECLARATION says Tree s (Says s DECLARATION)) ∷ (PARAMS says Adds s (Params s)) ∷ (RESULT says Parted s (Perhaps s (TypeOk s))) ∷ (TYPED_NAME says OfKind s (row_head kinds.TYPED_NAME 0 0) (Says s TYPED_NAME (row_head kinds.TYPED_NAME 0 0))) ∷ (NAME says Name s names) ∷ (IMPORT says OfKind s (row_head kinds.IMPORT 0 0) (Says s IMPORT (row_head kinds.IMPORT 0 0))) ∷
    (IMPORTED says OfKind s (row_head kinds.IMPORT 0 0) (Says s IMPORT (row_head kinds.IMPORT 0 0))) ∷ (IMPORTPATH says OfKind s (row_head kinds.IMPORT_PATH 0 0) (Says s IMPORTPATH (row_head kinds.IMPORT_PATH 0 0))) ∷ (IMPORTPATH_REST says Joins s (ImportRest s)) ∷ (IMPORTPATH_DOT says Joins s (ImportRest s)) ∷ (IMPORTPATHS says PathsOf s) ∷ (IMPORTPATHS_MORE says Joins s (Paths s)) ∷ (PATH_ITEM says Name s path_items) ∷ (PATH says Tree s PathTree) ∷ (PATH_REST says Joins s Items) ∷
    (TYPE says Tree s (TypeOk s)) ∷ (TYPE_MARKS says On s (TypeOk s) (TypeOk s)) ∷ (TYPE_BASE says Tree s (TypeOk s)) ∷ (TYPE_BRACKETS says On s PathTree (TypeOk s)) ∷
    (BLOCK says BlockOf s) ∷ (STATEMENTS says Parted s (Stmts s)) ∷ (STATEMENT says Parted s (Stmts s)) ∷ (AFTER_FOUR says After s) ∷ (AFTER_EXPR says After s) ∷ (LET says LetOf s) ∷ (LET_TYPE says Parted s (Perhaps s (TypeOk s))) ∷
    (LITERAL says Expr s) ∷ (F_STRING says Expr s) ∷ (PARENS says Expr s) ∷ (BRACES says Expr s) ∷ (BRACES_INSIDE says Braced s) ∷ (FIELD says Tree s (Says s FIELD)) ∷ (FIELD_NAME says Name s names) ∷ (FOUR says Expr s) ∷ (ELSE says Adds s (Else s)) ∷ (ELSE_PART says Adds s (Else s)) ∷ (ELSE_IF says Tree s (Says s ELSE_IF)) ∷
    (ARMS says Trees s (Arms s)) ∷ (ARM says Trees s (Arms s)) ∷ (ARM_BODY says Bodied s) ∷ (ARM_NEXT says Joins s (Arms s)) ∷ (ARM_COMMA says Joins s NoTrees) ∷ (GUARD says Guarded s) ∷ (PATTERN says Tree s (Says s PATTERN)) ∷ (VARIANT says Name s (name ∷ [])) ∷ (VARIANT_NAMES says Variants s) ∷
    (exprs_claims s true ++ exprs_claims s false)
