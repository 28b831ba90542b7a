-- In every reading a row that stands without a pair needs none: the claims for all alternatives of the table.
use mathlib.Core.Path.{◌≡◌, refl, sym, ap, subst, ◌∙◌}
use mathlib.Core.List.{List, [], ◌∷◌, ◌++◌}
use mathlib.Core.Bool.{Bool, true, false, not}
use Prim.Native.Nat.{ℕ}
use lib.Dec.{T, T_not}
use native.Mathlib.Omega.{arith}
use Rattle.rows.specs.Kinds as kinds
use Rattle.grammar.specs.Words.{'||', '&&', compare_signs, sum_signs, product_signs, binary_signs}
use Rattle.grammar.specs.Grammar.{Ask, Symbol, Token, found, Stream, Parts, end, Rule, alternatives, In, one_of}
use Rattle.grammar.specs.Kinds.{records, no_records, TYPED_NAME, TYPED_NAMES, TYPED_NAMES_MORE, TYPE, TYPES, TYPES_MORE, EXPR, EXPRS, EXPRS_MORE, FIELD, FIELDS, FIELDS_MORE, NAME, NAMES, NAMES_MORE}
use Rattle.grammar.specs.Readings.{ReadingBy, Text, peek}
use Rattle.grammar.specs.Limits.{Counts}
use Rattle.grammar.specs.Table.{list_of, lists, declarations, paths, types, blocks, exprs, atoms, arms, rules}
use Rattle.grammar.specs.Rows.{Row, place_in, row_of, rows}
use Rattle.grammar.specs.Language.{roto, goal, start}
use Rattle.grammar.proofs.Pass.{each_passes}
use Rattle.printing.proofs.Back.{Rules, rule_at}
use Rattle.canon.specs.Trees.{label, tree_of}
use Rattle.canon.specs.Layout.{whole, binary_level, left_level}
use Rattle.forests.specs.Planted.{Marked, no_more, branch, trees_in, Bough, bud, plant, tree_label, marked_from, marked, forest}
use Rattle.forests.specs.Met.{Met}
use Rattle.forests.proofs.Grown.{rows_grow, expr_grows}
use Rattle.forests.proofs.Peeked.{all_phrase, all_end, Claimed, by_alternatives, rules_by, rules_two}
use Rattle.forests.proofs.Places.{Tree, top, Fits, Each, met_tree, met_none, met_wholes, one_of_each, Both}
use Rattle.forests.proofs.Stands.{At, at_whole, at_looser, at_any, at_path, at_first, ordinary_at, prefix_at, Stated, stated_at, stated_four}
use Rattle.forests.proofs.Claims.{bough, Leaves, on_own, on_end, leaves_as, makes_as, leaves_each}
use Rattle.forests.proofs.Table.{claim_of, Claims, K, Alls, shown, shows, keeps_all}
use Rattle.forests.proofs.Alternatives.{adds_none, adds_noted, adds_one, adds_on, adds_item, adds_behind, adds_comma, adds_behind_own, adds_unless, around, chain, pair_chain, more_none, more_signed, once_signed, assigned, sided, returned_expr, returned_none, return_form, prefixed, questioned, called, accessed, path_record, literal, inner_block, a_block, braces, inner_record, an_if, a_while, a_for, a_match, no_arms, some_arms, no_guards, some_guard, an_arm, block_body, expr_body, a_variant}

-- the levels of signs
signs : (w : List ℕ) (n j : ℕ) → Both (λ c. (binary_level (place_in c binary_signs) ≡ n) × (left_level (place_in c binary_signs) ≡ j)) w → (c : ℕ) → T (one_of c w) → (binary_level (place_in c binary_signs) ≡ n) × (left_level (place_in c binary_signs) ≡ j)
signs w n j h c t = one_of_each (λ i. (binary_level (place_in i binary_signs) ≡ n) × (left_level (place_in i binary_signs) ≡ j)) w h c t

single_stated : {x : Tree} → At 7 false false 0 x → Stated x
single_stated k = stated_at tt (at_looser 0 (omega arith) (at_any true (at_path true k)))

module _ (s : List ℕ) (tests : Bool) where
  abbrev C : ℕ → List Symbol → Type 0
  C n a = Claimed (roto tests) K (Claims s) n a

  -- an alternative of which no test shows the claim
  abbrev D : ℕ → List Symbol → Type 0
  D n a = T (not (shown s tests (claim_of n) a)) → C n a

  covered : (rs : List Rule) → T (each_passes (λ n a. shown s tests (claim_of n) a) rs) → Rules D rs
  covered = rules_by D (λ n a. shown s tests (claim_of n) a) (λ n a t e. absurd (T_not (shown s tests (claim_of n) a) e t))

  operand : {r : Bool} {u : ℕ} {p : Parts} → Leaves s (At 7 r false u) p → Leaves s (At 6 r true u) p
  operand h = leaves_as s (λ x k. at_looser 6 (omega arith) (at_path true k)) h

  path_operand : {r : Bool} {u : ℕ} {p : Parts} → Leaves s (At 7 r true u) p → Leaves s (At 6 r true u) p
  path_operand h = leaves_as s (λ x k. at_looser 6 (omega arith) k) h

  in_exprs : Rules D (list_of (EXPR records) EXPRS EXPRS_MORE)
  in_exprs = (
    (λ t u p h. adds_none s tests h, (λ t u p h. adds_item s tests (refl, refl) refl (λ v q c. leaves_each s (Fits whole) (leaves_as s (λ y k. at_whole k) c)) (λ v q c. c) h, tt)),
    (
      (λ t u p h. adds_none s tests h, (λ t u p h. adds_behind s tests tt refl (λ v q c. c) h, tt)),
      tt,
    ),
  )

  in_lists : Rules D lists
  unfolding lists
  in_lists =
      let after-fields = list_of FIELD FIELDS FIELDS_MORE ++ list_of NAME NAMES NAMES_MORE in
      let after-exprs = list_of (EXPR records) EXPRS EXPRS_MORE ++ after-fields in
      rules_two D (list_of TYPED_NAME TYPED_NAMES TYPED_NAMES_MORE) (list_of TYPE TYPES TYPES_MORE ++ after-exprs) (covered (list_of TYPED_NAME TYPED_NAMES TYPED_NAMES_MORE) tt)
      (rules_two D (list_of TYPE TYPES TYPES_MORE) after-exprs (covered (list_of TYPE TYPES TYPES_MORE) tt) (rules_two D (list_of (EXPR records) EXPRS EXPRS_MORE) after-fields in_exprs (covered after-fields tt)))

  in_paths : Rules D paths
  unfolding paths
  in_paths = covered paths tt

  in_types : Rules D types
  unfolding types
  in_types = covered types tt

  in_blocks : Rules D blocks
  unfolding blocks
  in_blocks = (
    (λ t u p h. a_block s tests tt h, tt),
    (
      (λ t u p h. adds_none s tests h, (λ t u p h. adds_on s tests refl (λ v q c. c) h, tt)),
      (
        (λ t u p h. adds_item s tests (refl, refl) refl (λ v q c. leaves_each s Stated (leaves_as s (λ y k. single_stated k) c)) (λ v q c. c) h, (λ t u p h. adds_item s tests (refl, refl) refl (λ v q c. leaves_each s Stated (leaves_as s (λ y k. single_stated k) c)) (λ v q c. c) h, (λ t u p h. adds_item s tests (refl, refl) refl (λ v q c. leaves_each s Stated (leaves_as s (λ y k. stated_four y k.1 (at_whole k.0)) c)) (λ v q c. c) h, (λ t u p h. adds_unless s tests (refl, refl) refl (λ v q f c. leaves_each s Stated (leaves_as s (λ y k. stated_at f k) c)) (λ v q c. c) h, tt)))),
        (
          (λ t u p h. adds_noted s tests h, (λ t u p h. adds_behind s tests tt refl (λ v q c. c) h, (λ t u p h. adds_on s tests refl (λ v q c. c) h, tt))),
          (
            (λ t u p h. adds_noted s tests h, (λ t u p h. adds_behind s tests tt refl (λ v q c. c) h, tt)),
            (
              (λ t. absurd t, tt),
              (
                (λ t. absurd t, (λ t. absurd t, tt)),
                tt,
              ),
            ),
          ),
        ),
      ),
    ),
  )

  in_exprs_with : Rules D (exprs records)
  unfolding exprs row_of
  in_exprs_with = (
    (λ t u p h. return_form s tests true tt refl (λ v q c. c) h, (λ t u p h. sided s tests true (refl, refl) refl (λ v q c. c) (λ v q c. c) h, tt)),
    (
      (λ t u p h. returned_expr s tests true (refl, refl) (λ v q c. c) h, (λ t u p h. returned_none s tests h, tt)),
      (
        (λ t u p h. more_none s tests 1 0 true true (omega arith) h, (λ t u p h. assigned s tests true tt (refl, refl) (λ v q c. c) h, tt)),
        (
          (λ t u p h. chain s tests 1 1 true true (refl, refl) refl (λ v q c. leaves_as s (λ y k. at_looser 1 (omega arith) k) c) (λ v q c. c) h, tt),
          (
            (λ t u p h. more_none s tests 1 1 true true (omega arith) h, (λ t u p h. more_signed s tests 1 true tt (signs ('||' ∷ []) 1 1 ((refl, refl), tt)) (refl, refl) refl (λ v q c. c) (λ v q c. c) h, tt)),
            (
              (λ t u p h. chain s tests 2 2 true true (refl, refl) refl (λ v q c. leaves_as s (λ y k. at_looser 2 (omega arith) k) c) (λ v q c. c) h, tt),
              (
                (λ t u p h. more_none s tests 2 2 true true (omega arith) h, (λ t u p h. more_signed s tests 2 true tt (signs ('&&' ∷ []) 2 2 ((refl, refl), tt)) (refl, refl) refl (λ v q c. c) (λ v q c. c) h, tt)),
                (
                  (λ t u p h. chain s tests 4 3 true true (refl, refl) refl (λ v q c. c) (λ v q c. c) h, tt),
                  (
                    (λ t u p h. more_none s tests 4 3 true true (omega arith) h, (λ t u p h. once_signed s tests 3 4 true tt (signs compare_signs 3 4 ((refl, refl), ((refl, refl), ((refl, refl), ((refl, refl), ((refl, refl), ((refl, refl), tt))))))) (refl, refl) (λ v q c. c) h, tt)),
                    (
                      (λ t u p h. chain s tests 4 4 true true (refl, refl) refl (λ v q c. leaves_as s (λ y k. at_looser 4 (omega arith) k) c) (λ v q c. c) h, tt),
                      (
                        (λ t u p h. more_none s tests 4 4 true true (omega arith) h, (λ t u p h. more_signed s tests 4 true tt (signs sum_signs 4 4 ((refl, refl), ((refl, refl), tt))) (refl, refl) refl (λ v q c. c) (λ v q c. c) h, tt)),
                        (
                          (λ t u p h. chain s tests 5 5 true true (refl, refl) refl (λ v q c. leaves_as s (λ y k. at_looser 5 (omega arith) k) c) (λ v q c. c) h, tt),
                          (
                            (λ t u p h. more_none s tests 5 5 true true (omega arith) h, (λ t u p h. more_signed s tests 5 true tt (signs product_signs 5 5 ((refl, refl), ((refl, refl), ((refl, refl), tt)))) (refl, refl) refl (λ v q c. c) (λ v q c. c) h, tt)),
                            (
                              (λ t u p h. prefixed s tests kinds.NOT true tt refl (refl, refl) (λ v q c. c) (λ v x row pairs kids z. prefix_at (top pairs (label s row) kids) u kinds.NOT 0 0 [] tt z) h, (λ t u p h. prefixed s tests kinds.NEGATE true tt refl (refl, refl) (λ v q c. c) (λ v x row pairs kids z. prefix_at (top pairs (label s row) kids) u kinds.NEGATE 0 0 [] tt z) h, (λ t u p h. operand (chain s tests 7 7 true false (refl, refl) refl (λ v x c. leaves_as s (λ y k. at_first v (at_any true k)) c) (λ v q c. c) h), (λ t u p h. operand (chain s tests 7 7 true false (refl, refl) refl (λ v x c. leaves_as s (λ y k. at_first v (at_any true k)) c) (λ v q c. c) h), (λ t u p h. path_operand (chain s tests 7 7 true true (refl, refl) refl (λ v x c. leaves_as s (λ y k. at_first v (at_any true k)) c) (λ v q c. c) h), (λ t u p h. operand (pair_chain s tests true refl (λ v q c. c) h), (λ t u p h. operand (chain s tests 7 7 true false (refl, refl) refl (λ v x c. leaves_as s (λ y k. at_any true k.0) c) (λ v q c. c) h), (λ t u p h. operand (chain s tests 7 7 true false (refl, refl) refl (λ v q c. c) (λ v q c. c) h), tt)))))))),
                              (
                                (λ t u p h. more_none s tests 7 7 true false (omega arith) h, (λ t u p h. questioned s tests true false tt refl (λ v q c. c) h, (λ t u p h. called s tests true false tt tt refl (λ v q c. c) h, (λ t u p h. accessed s tests true tt refl (λ v q c. c) h, tt)))),
                                (
                                  (λ t u p h. more_none s tests 7 7 true true (omega arith) h, (λ t u p h. questioned s tests true true tt refl (λ v q c. c) h, (λ t u p h. called s tests true true tt tt refl (λ v q c. c) h, (λ t u p h. path_record s tests tt tt refl (λ v q c. c) h, tt)))),
                                  tt,
                                ),
                              ),
                            ),
                          ),
                        ),
                      ),
                    ),
                  ),
                ),
              ),
            ),
          ),
        ),
      ),
    ),
  )

  in_exprs_without : Rules D (exprs no_records)
  unfolding exprs row_of
  in_exprs_without = (
    (λ t u p h. return_form s tests false tt refl (λ v q c. c) h, (λ t u p h. sided s tests false (refl, refl) refl (λ v q c. c) (λ v q c. c) h, tt)),
    (
      (λ t u p h. returned_expr s tests false (refl, refl) (λ v q c. c) h, tt),
      (
        (λ t u p h. more_none s tests 1 0 false true (omega arith) h, (λ t u p h. assigned s tests false tt (refl, refl) (λ v q c. c) h, tt)),
        (
          (λ t u p h. chain s tests 1 1 false true (refl, refl) refl (λ v q c. leaves_as s (λ y k. at_looser 1 (omega arith) k) c) (λ v q c. c) h, tt),
          (
            (λ t u p h. more_none s tests 1 1 false true (omega arith) h, (λ t u p h. more_signed s tests 1 false tt (signs ('||' ∷ []) 1 1 ((refl, refl), tt)) (refl, refl) refl (λ v q c. c) (λ v q c. c) h, tt)),
            (
              (λ t u p h. chain s tests 2 2 false true (refl, refl) refl (λ v q c. leaves_as s (λ y k. at_looser 2 (omega arith) k) c) (λ v q c. c) h, tt),
              (
                (λ t u p h. more_none s tests 2 2 false true (omega arith) h, (λ t u p h. more_signed s tests 2 false tt (signs ('&&' ∷ []) 2 2 ((refl, refl), tt)) (refl, refl) refl (λ v q c. c) (λ v q c. c) h, tt)),
                (
                  (λ t u p h. chain s tests 4 3 false true (refl, refl) refl (λ v q c. c) (λ v q c. c) h, tt),
                  (
                    (λ t u p h. more_none s tests 4 3 false true (omega arith) h, (λ t u p h. once_signed s tests 3 4 false tt (signs compare_signs 3 4 ((refl, refl), ((refl, refl), ((refl, refl), ((refl, refl), ((refl, refl), ((refl, refl), tt))))))) (refl, refl) (λ v q c. c) h, tt)),
                    (
                      (λ t u p h. chain s tests 4 4 false true (refl, refl) refl (λ v q c. leaves_as s (λ y k. at_looser 4 (omega arith) k) c) (λ v q c. c) h, tt),
                      (
                        (λ t u p h. more_none s tests 4 4 false true (omega arith) h, (λ t u p h. more_signed s tests 4 false tt (signs sum_signs 4 4 ((refl, refl), ((refl, refl), tt))) (refl, refl) refl (λ v q c. c) (λ v q c. c) h, tt)),
                        (
                          (λ t u p h. chain s tests 5 5 false true (refl, refl) refl (λ v q c. leaves_as s (λ y k. at_looser 5 (omega arith) k) c) (λ v q c. c) h, tt),
                          (
                            (λ t u p h. more_none s tests 5 5 false true (omega arith) h, (λ t u p h. more_signed s tests 5 false tt (signs product_signs 5 5 ((refl, refl), ((refl, refl), ((refl, refl), tt)))) (refl, refl) refl (λ v q c. c) (λ v q c. c) h, tt)),
                            (
                              (λ t u p h. prefixed s tests kinds.NOT false tt refl (refl, refl) (λ v q c. c) (λ v x row pairs kids z. prefix_at (top pairs (label s row) kids) u kinds.NOT 0 0 [] tt z) h, (λ t u p h. prefixed s tests kinds.NEGATE false tt refl (refl, refl) (λ v q c. c) (λ v x row pairs kids z. prefix_at (top pairs (label s row) kids) u kinds.NEGATE 0 0 [] tt z) h, (λ t u p h. operand (chain s tests 7 7 false false (refl, refl) refl (λ v x c. leaves_as s (λ y k. at_first v (at_any false k)) c) (λ v q c. c) h), (λ t u p h. operand (chain s tests 7 7 false false (refl, refl) refl (λ v x c. leaves_as s (λ y k. at_first v (at_any false k)) c) (λ v q c. c) h), (λ t u p h. path_operand (chain s tests 7 7 false true (refl, refl) refl (λ v x c. leaves_as s (λ y k. at_first v (at_any false k)) c) (λ v q c. c) h), (λ t u p h. operand (pair_chain s tests false refl (λ v q c. c) h), (λ t u p h. operand (chain s tests 7 7 false false (refl, refl) refl (λ v x c. leaves_as s (λ y k. at_any false k.0) c) (λ v q c. c) h), (λ t u p h. operand (chain s tests 7 7 false false (refl, refl) refl (λ v x c. leaves_as s (λ y k. k.0) c) (λ v q c. c) h), tt)))))))),
                              (
                                (λ t u p h. more_none s tests 7 7 false false (omega arith) h, (λ t u p h. questioned s tests false false tt refl (λ v q c. c) h, (λ t u p h. called s tests false false tt tt refl (λ v q c. c) h, (λ t u p h. accessed s tests false tt refl (λ v q c. c) h, tt)))),
                                (
                                  (λ t u p h. more_none s tests 7 7 false true (omega arith) h, (λ t u p h. questioned s tests false true tt refl (λ v q c. c) h, (λ t u p h. called s tests false true tt tt refl (λ v q c. c) h, tt))),
                                  tt,
                                ),
                              ),
                            ),
                          ),
                        ),
                      ),
                    ),
                  ),
                ),
              ),
            ),
          ),
        ),
      ),
    ),
  )

  in_atoms : Rules D atoms
  unfolding atoms
  in_atoms = (
    (λ t u p h. literal s tests tt h, tt),
    (
      (λ t. absurd t, tt),
      (
        (λ t. absurd t, tt),
        (
          (λ t u p h. around s tests tt tt (refl, refl) (λ v q c. leaves_as s (λ y k. at_whole k) c) h, tt),
          (
            (λ t u p h. braces s tests h, tt),
            (
              (λ t u p h. inner_record s tests h, (λ t u p h. (λ x part. makes_as s (λ y k. at_any true k.0) (inner_block s tests tt h x part)), tt)),
              (
                (λ t. absurd t, tt),
                (
                  (λ t. absurd t, tt),
                  (
                    (λ t u p h. an_if s tests (refl, refl) (λ v q c. c) h, (λ t u p h. a_while s tests (refl, refl) (λ v q c. c) h, (λ t u p h. a_for s tests tt (refl, refl) (λ v q c. c) h, (λ t u p h. a_match s tests tt tt (refl, refl) (λ v q c. c) h, tt)))),
                    (
                      (λ t u p h. adds_none s tests h, (λ t u p h. adds_behind s tests tt refl (λ v q c. c) h, tt)),
                      (
                        (λ t u p h. adds_one s tests (refl, refl) (λ v q c. leaves_each s (Fits whole) (leaves_as s (λ y k. at_whole k.0) c)) h, (λ t u p h. adds_one s tests (refl, refl) (λ v q c. leaves_each s (Fits whole) (leaves_as s (λ y k. at_whole k.0) c)) h, tt)),
                        (
                          (λ t u p h. an_if s tests (refl, refl) (λ v q c. c) h, tt),
                          tt,
                        ),
                      ),
                    ),
                  ),
                ),
              ),
            ),
          ),
        ),
      ),
    ),
  )

  in_arms : Rules D arms
  unfolding arms
  in_arms = (
    (λ t u p h. no_arms s tests h, (λ t u p h. some_arms s tests h, tt)),
    (
      (λ t u p h. an_arm s tests tt h, tt),
      (
        (λ t u p h. block_body s tests h, (λ t u p h. expr_body s tests (refl, refl) refl (λ v q c. c) (λ v q c. c) h, tt)),
        (
          (λ t u p h. adds_none s tests h, (λ t u p h. adds_behind_own s tests tt (refl, refl) (λ v q c. c) h, tt)),
          (
            (λ t u p h. adds_none s tests h, (λ t u p h. adds_comma s tests tt h, tt)),
            (
              (λ t u p h. no_guards s tests h, (λ t u p h. some_guard s tests tt (refl, refl) (λ v q c. leaves_as s (λ y k. at_whole k) c) h, tt)),
              (
                (λ t u p h. a_variant s tests h, (λ t. absurd t, tt)),
                (
                  (λ t. absurd t, tt),
                  (
                    (λ t. absurd t, (λ t. absurd t, tt)),
                    tt,
                  ),
                ),
              ),
            ),
          ),
        ),
      ),
    ),
  )

module _ (s : List ℕ) where
  in_declarations : (tests : Bool) → Rules (D s tests) (declarations tests)
  unfolding declarations
  in_declarations true =
      let tests = true in (
        (λ t. absurd t, tt),
        (
          (λ t. absurd t, (λ t. absurd t, tt)),
          (
            (λ t. absurd t, (λ t. absurd t, (λ t. absurd t, (λ t. absurd t, (λ t. absurd t, tt))))),
            (
              (λ t. absurd t, tt),
              (
                (λ t. absurd t, (λ t. absurd t, tt)),
                (
                  (λ t. absurd t, tt),
                  (
                    (λ t. absurd t, tt),
                    (
                      (λ t u p h. around s tests tt tt (refl, refl) (λ v q c. c) h, tt),
                      tt,
                    ),
                  ),
                ),
              ),
            ),
          ),
        ),
      )
  in_declarations false =
      let tests = false in (
        (λ t. absurd t, tt),
        (
          (λ t. absurd t, (λ t. absurd t, tt)),
          (
            (λ t. absurd t, (λ t. absurd t, (λ t. absurd t, (λ t. absurd t, tt)))),
            (
              (λ t. absurd t, tt),
              (
                (λ t. absurd t, (λ t. absurd t, tt)),
                (
                  (λ t. absurd t, tt),
                  (
                    (λ t. absurd t, tt),
                    (
                      (λ t u p h. around s tests tt tt (refl, refl) (λ v q c. c) h, tt),
                      tt,
                    ),
                  ),
                ),
              ),
            ),
          ),
        ),
      )

  in_rules : (tests : Bool) → Rules (D s tests) (rules tests)
  unfolding rules
  in_rules tests =
      let two = rules_two (D s tests) in
      let without = exprs no_records ++ (atoms ++ arms) in
      let with-records = exprs records ++ without in
      two lists (declarations tests ++ (paths ++ (types ++ (blocks ++ with-records)))) (in_lists s tests)
      (two (declarations tests) (paths ++ (types ++ (blocks ++ with-records))) (in_declarations tests)
      (two paths (types ++ (blocks ++ with-records)) (in_paths s tests)
      (two types (blocks ++ with-records) (in_types s tests)
      (two blocks with-records (in_blocks s tests)
      (two (exprs records) without (in_exprs_with s tests) (two (exprs no_records) (atoms ++ arms) (in_exprs_without s tests) (two atoms arms (in_atoms s tests) (in_arms s tests))))))))

  step : (tests : Bool) (n : ℕ) (a : List Symbol) → In a (alternatives (roto tests) n) → C s tests n a
  unfolding roto
  step tests n a o = go (shown s tests (claim_of n) a) refl
    where
      go : (b : Bool) → shown s tests (claim_of n) a ≡ b → C s tests n a
      go true e = λ u p h. shows s tests (claim_of n) a u p (subst T (sym e) tt) h
      go false e = rule_at (D s tests) (rules tests) n o (in_rules tests) (subst (λ (b : Bool). T (not b)) (sym e) tt)

  module _ (tests : Bool) (S : Stream) (looks : (i j : S.Place) (x : Token) → S.look i ≡ found x j → K x) (pieces : (i j : S.Place) (x : Token) → S.piece i ≡ found x j → K x) where
    -- G: whatever is asked of a token beside its word
    all_read : (tree : Bool) {G : Ask → Counts → Token → Bool} {d : Counts} {i r : S.Place} {p : Parts} → ReadingBy S (roto tests) G d (start tree) i r p → Alls s tests (start tree) (peek S (roto tests) i) p
    all_read tree t = by_alternatives (roto tests) K (Claims s) S looks pieces (step tests) t

    trees_fit : (tree : Bool) {G : Ask → Counts → Token → Bool} {d : Counts} {i r : S.Place} {p : Parts} → ReadingBy S (roto tests) G d (start tree) i r p → Each (Fits whole) (trees_in s (plant s p bud).twigs)
    trees_fit true t = (keeps_all s tests tt (all_read true t)).kept [] 0 tt
    trees_fit false t = (keeps_all s tests tt (all_read false t)).kept [] 0 tt

    -- in any reading, a row that stands without a pair needs none at its place
    pub bare_fits_by : (tree : Bool) {G : Ask → Counts → Token → Bool} {d : Counts} {i r : S.Place} {p : Parts} → ReadingBy S (roto tests) G d (start tree) i r p → Met [] (marked s tree p)
    unfolding marked marked_from
    bare_fits_by true {p = p} t = let ts = trees_in s (plant s p bud).twigs in met_tree [] 0 tree_label ts no_more (at_whole (ordinary_at kinds.TREE 0 0 [] ts true tt (λ x. tt) (trees_fit true t))) (met_none [])
    bare_fits_by false {p = p} t = met_wholes [] (trees_in s (plant s p bud).twigs) tt (trees_fit false t)

    pub bare_fits : (tree : Bool) {i : S.Place} {p : Parts} → Text S (roto tests) (goal tree) i p → Met [] (marked s tree p)
    bare_fits tree t = bare_fits_by tree t.reads

    -- one expression leaves one tree
    lone : {u : ℕ} {p : Parts} → Alls s tests (start false) u p → (r : Row) × (k : ℕ) × (kids : Marked) × ((plant s p bud).twigs ≡ branch r k kids ∷ [])
    lone (all_phrase {a = a} c all_end) = (c.row, c.pairs, c.kids, ap (λ (b : Bough). b.twigs) (on_own s (EXPR records) a end [] 0 (refl, refl) c ∙ on_end s (bough (branch c.row c.pairs c.kids ∷ []) 0)))

    pub reading_grows : (tree : Bool) (len : ℕ) {i : S.Place} {p : Parts} → Text S (roto tests) (goal tree) i p → tree_of s (rows tree len p) ≡ forest s tree p
    reading_grows true len {p = p} t = rows_grow s len p
    reading_grows false len {p = p} t = let h = lone (all_read false t.reads) in expr_grows s len p h.3
