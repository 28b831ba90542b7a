-- Types, names with types, and imports, as they are put.
use mathlib.Core.Path.{refl, subst, sym}
use mathlib.Core.List.{List, [], ◌∷◌, ◌++◌}
use mathlib.Core.Bool.{Bool, true, false, not, ◌||◌, ◌&&◌, cond}
use Prim.Native.Nat.{ℕ, zero, suc, pred, ◌≤◌}
use lib.Dec.{T}
use Rattle.rows.specs.Kinds as kinds
use Rattle.grammar.specs.Words.{'!', ':', '?', 'import', close_brace, close_bracket, close_paren, comma, dot, names, open_brace, open_bracket, open_paren, path_items, semicolon}
use Rattle.grammar.specs.Grammar.{Token, here, one_of, there}
use Rattle.grammar.specs.Kinds.{IMPORT, IMPORTED, IMPORTPATH, IMPORTPATH_REST, IMPORTPATHS_MORE, NAME, TYPE, TYPE_BASE, TYPE_MARKS, TYPED_NAME}
use Rattle.grammar.specs.Table.{a, one, word, opens, closes, prefix, row, part, rest_kinds}
use Rattle.grammar.specs.Rows.{is_text, place_in}
use Rattle.grammar.specs.Language.{roto}
use Rattle.grammar.specs.Culprit.{lists}
use Rattle.canon.specs.Layout.{imports, layout, layouts, whole}
use Rattle.printing.specs.Groves.{Grove, Head, Suits, Under, beside, body, labelled, nil, said, signed, token_of, top}
use Rattle.printing.specs.Pairs.{Choice, after, under}
use Rattle.printing.proofs.Lists.{Rest, Rst, Whole, chain, done, finish, none, put, rest, row_over, sub, tok, told}
use Rattle.printing.proofs.Placed.{PathTree, name_head, row_head}
use Rattle.printing.proofs.Exprs.{beside_nil, beside_on, in_item, in_name, named, two}
use Rattle.printing.proofs.Calls.{Listed, Says, alone, list_all, path_said, said_list, type_list, typed_names}

module _ (s : List ℕ) where
  -- a type, whatever marks follow
  abbrev pub Typed : Head → Grove → Type 0
  Typed h k = (χ : Choice) → Under s whole h k χ → (y z : List Token) (g : Grove) → Rest TYPE_MARKS y z (top h k nil) g → Whole TYPE (body s whole h k χ y) z g

  pub says_type : {h : Head} {k : Grove} → Typed h k → Says s TYPE h k
  unfolding roto
  says_type t = alone s tt (λ χ b y. t χ b y y _ (none here))

  base : {h : Head} {k : Grove} → ((χ : Choice) → Under s whole h k χ → (z : List Token) → Whole TYPE_BASE (body s whole h k χ z) z (top h k nil)) → Typed h k
  unfolding roto
  base u χ b y z g v = chain here refl refl (u χ b y) v

  pub never_type : Typed (row_head kinds.NEVER 0 0) nil
  unfolding said layout layouts roto
  never_type = base (λ χ b z. finish here (tok (token_of '!') refl tt (λ d. tt) (put kinds.NEVER refl refl refl done)))

  pub unit_type : Typed (row_head kinds.UNIT 0 0) nil
  unfolding said layout layouts roto
  unit_type = base (λ χ b z. finish (there here) (tok (token_of open_paren) refl tt (λ d. tt) (tok (token_of close_paren) refl tt (λ d. tt) (put kinds.UNIT refl refl refl done))))

  pub record_type : (g : Grove) → Listed s TYPED_NAME g → Typed (row_head kinds.RECORD_TYPE 0 0) g
  unfolding said layout layouts roto
  record_type g u = base (λ χ b z. subst (λ (t : List Token). Whole TYPE_BASE t z (row_over kinds.RECORD_TYPE 0 0 g)) (sym (said_list s kinds.RECORD_TYPE true open_brace close_brace g χ z))
      (finish (there (there here)) (tok (token_of open_brace) refl tt (λ d. tt) (rest refl (list_all s typed_names kinds.RECORD_TYPE (λ i h t χ. tt) true χ open_brace nil open_brace 0 close_brace z u b) (tok (token_of close_brace) refl tt (λ d. tt) (put kinds.RECORD_TYPE refl refl refl done))))))

  pub path_type : (h : Head) (k : Grove) → PathTree h k → Typed (row_head kinds.PATH_TYPE 0 0) (top h k nil)
  unfolding said layout layouts roto
  path_type h k q = base (λ χ b z. finish (there (there (there here))) (sub refl (path_said s (under χ) z q) (rest refl (record { alt = _; takes = here; goes = put kinds.PATH_TYPE refl refl refl done }) done)))

  pub list_type : (h : Head) (k g : Grove) → PathTree h k → Listed s TYPE g → Typed (row_head kinds.PATH_TYPE 1 0) (top h k g)
  unfolding said layout layouts roto
  list_type h k g q u = base (λ χ b z. subst (λ (t : List Token). Whole TYPE_BASE (body s whole h k (under χ) t) z (row_over kinds.PATH_TYPE 1 0 (top h k g))) (sym (said_list s kinds.PATH_TYPE false open_bracket close_bracket g (after χ) z))
      (finish (there (there (there here))) (sub refl (path_said s (under χ) _ q) (rest refl (record { alt = _; takes = there here; goes = tok (token_of open_bracket) refl tt (λ d. tt) (rest refl (list_all s type_list kinds.PATH_TYPE (λ i h t χ. tt) false (after χ) open_bracket (top h k nil) open_bracket 0 close_bracket z u b.2) (tok (token_of close_bracket) refl tt (λ d. tt) (told (put kinds.PATH_TYPE refl refl refl done)))) }) done))))

  pub option_type : (h : Head) (k : Grove) → Typed h k → Typed (row_head kinds.OPTION 0 0) (top h k nil)
  unfolding said layout layouts roto
  option_type h k t χ b y z g v = t (under χ) b.1 (token_of '?' ∷ y) z g (record { alt = _; takes = there here; goes = tok (token_of '?') refl tt (λ d. tt) (put kinds.OPTION refl refl refl (rest refl v done)) })

  pub typed_name : (x : Token) (h : Head) (k : Grove) → T (one_of x.word names) → Typed h k → Says s TYPED_NAME (row_head kinds.TYPED_NAME 0 0) (two (name_head x) nil h k)
  unfolding said layout layouts roto
  typed_name x h k m t = alone s tt (λ χ b z. finish here (sub refl (named x names in_name tt m) (tok (token_of ':') refl tt (λ d. tt) (sub refl (says_type t 0 tt (under (after χ)) (b.2.0, b.2.1) z) (put kinds.TYPED_NAME refl refl refl done)))))

  pub name_says : (x : Token) → T (one_of x.word names) → Says s NAME (name_head x) nil
  name_says x m = alone s tt (λ χ b z. named x names in_name tt m)

  -- import paths: items, then perhaps a group of paths
  abbrev import_head : Head
  import_head = row_head kinds.IMPORT_PATH 0 0

  abbrev Onto : ℕ → List Token → List Token → Grove → List ℕ → Grove → Type 0
  Onto n c z K w g = (w' : List ℕ) × Rst n c z (record { kids = K; sign = w; part = 0 }) (record { kids = beside K g; sign = w'; part = 0 })

  pub data Paths : Grove → Type 0 where
    no_paths : Paths nil
    more_paths : {k g : Grove} → Says s IMPORTPATH (row_head kinds.IMPORT_PATH 0 0) k → Paths g → Paths (top (row_head kinds.IMPORT_PATH 0 0) k g)

  pub data ImportRest : Grove → Type 0 where
    import_end : ImportRest nil
    import_item : (x : Token) {g : Grove} → T (one_of x.word path_items) → ImportRest g → ImportRest (top (name_head x) nil g)
    import_group : {k g : Grove} → Says s IMPORTPATH (row_head kinds.IMPORT_PATH 0 0) k → Paths g → ImportRest (top (row_head kinds.IMPORT_PATH 0 0) k g)

  paths_more : {g : Grove} (χ : Choice) (K : Grove) (w : List ℕ) (z : List Token) → Paths g → Suits s kinds.IMPORT_PATH false (imports false true (labelled s g)).slots g χ → Onto IMPORTPATHS_MORE (said s kinds.IMPORT_PATH false (imports false true (labelled s g)).slots (imports false true (labelled s g)).last g χ z) (token_of close_brace ∷ z) K w g
  unfolding said roto
  paths_more χ K w z no_paths b = (w, subst (λ (t : Grove). Rst IMPORTPATHS_MORE (token_of close_brace ∷ z) (token_of close_brace ∷ z) (record { kids = K; sign = w; part = 0 }) (record { kids = t; sign = w; part = 0 })) (sym (beside_nil K)) (none here))
  paths_more χ K w z (more_paths {k = k} {g = g} f u) b =
      let v = paths_more (after χ) (beside K (top import_head k nil)) (signed w comma) z u b.2 in (
        v.0,
        subst (λ (t : Grove). Rst IMPORTPATHS_MORE (token_of comma ∷ body s whole import_head k (under χ) (said s kinds.IMPORT_PATH false (imports false true (labelled s g)).slots (imports false true (labelled s g)).last g (after χ) z)) (token_of close_brace ∷ z) (record { kids = K; sign = w; part = 0 }) (record { kids = t; sign = v.0; part = 0 })) (beside_on K import_head k g)
            (record { alt = _; takes = there here; goes = tok (token_of comma) refl tt (λ d. tt) (rest refl (record { alt = _; takes = here; goes = sub refl (f 0 tt (under χ) (b.0, b.1) _) (rest refl v.1 done) }) done) }),
      )

  imports_on : {g : Grove} (χ : Choice) (K : Grove) (w : List ℕ) (z : List Token) → ImportRest g → Suits s kinds.IMPORT_PATH false (imports false false (labelled s g)).slots g χ → Onto IMPORTPATH_REST (said s kinds.IMPORT_PATH false (imports false false (labelled s g)).slots (imports false false (labelled s g)).last g χ z) z K w g
  unfolding said roto
  imports_on χ K w z import_end b = (w, subst (λ (t : Grove). Rst IMPORTPATH_REST z z (record { kids = K; sign = w; part = 0 }) (record { kids = t; sign = w; part = 0 })) (sym (beside_nil K)) (none here))
  imports_on χ K w z (import_item x {g = g} m u) b =
      let v = imports_on (after χ) (beside K (top (name_head x) nil nil)) (signed w dot) z u b.2 in (
        v.0,
        subst (λ (t : Grove). Rst IMPORTPATH_REST (token_of dot ∷ x ∷ said s kinds.IMPORT_PATH false (imports false false (labelled s g)).slots (imports false false (labelled s g)).last g (after χ) z) z (record { kids = K; sign = w; part = 0 }) (record { kids = t; sign = v.0; part = 0 })) (beside_on K (name_head x) nil g)
            (record { alt = _; takes = there here; goes = tok (token_of dot) refl tt (λ d. tt) (rest refl (record { alt = _; takes = here; goes = sub refl (named x path_items in_item tt m) (rest refl v.1 done) }) done) }),
      )
  imports_on χ K w z (import_group {k = k} {g = g} f u) b =
      let v = paths_more (after χ) (beside K (top import_head k nil)) (signed (signed w dot) open_brace) z u b.2 in (
        signed v.0 close_brace,
        subst (λ (t : Grove). Rst IMPORTPATH_REST (token_of dot ∷ token_of open_brace ∷ body s whole import_head k (under χ) (said s kinds.IMPORT_PATH false (imports false true (labelled s g)).slots (imports false true (labelled s g)).last g (after χ) z)) z (record { kids = K; sign = w; part = 0 }) (record { kids = t; sign = signed v.0 close_brace; part = 0 })) (beside_on K import_head k g)
            (record { alt = _; takes = there here; goes = tok (token_of dot) refl tt (λ d. tt) (rest refl (record { alt = _; takes = there here; goes = tok (token_of open_brace) refl tt (λ d. tt) (rest refl (record { alt = _; takes = here; goes = sub refl (f 0 tt (under χ) (b.0, b.1) _) (rest refl v.1 done) }) (tok (token_of close_brace) refl tt (λ d. tt) done)) }) done) }),
      )

  pub import_path : (x : Token) (g : Grove) → T (one_of x.word path_items) → ImportRest g → Says s IMPORTPATH (row_head kinds.IMPORT_PATH 0 0) (top (name_head x) nil g)
  unfolding said layout layouts roto
  import_path x g m u = alone s tt (λ χ b z. finish here (sub refl (named x path_items in_item tt m) (rest refl (imports_on (after χ) (top (name_head x) nil nil) [] z u b.2).1 (put kinds.IMPORT_PATH refl refl refl done))))

  pub import_says : (k : Grove) → Says s IMPORTPATH (row_head kinds.IMPORT_PATH 0 0) k → Says s IMPORT (row_head kinds.IMPORT 0 0) (top (row_head kinds.IMPORT_PATH 0 0) k nil)
  unfolding said layout layouts roto
  import_says k f = alone s tt (λ χ b z. finish here (tok (token_of 'import') refl tt (λ d. tt) (sub {n = IMPORTED} refl (finish here (sub refl (f 0 tt (under χ) (b.0, b.1) _) (put kinds.IMPORT refl refl refl done))) (tok (token_of semicolon) refl tt (λ d. tt) done))))
