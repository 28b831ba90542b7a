-- Declarations: `const`, `fn`, `filter` or `filtermap`, `test`, and which of them stands where.
use Rattle.std.specs.Prelude.{Ok, Err}
use mathlib.Core.Path.{◌≡◌, refl, sym, ap, subst, ◌∙◌}
use mathlib.Core.List.{List, [], ◌∷◌}
use mathlib.Core.Bool.{Bool, true, false}
use mathlib.Core.Option.{some}
use mathlib.Core.Logic.{◌⊎◌, inl, inr, ◌≢◌}
use Prim.Native.Nat.{ℕ, ◌+◌, ◌≤◌, ◌<◌}
use lib.Dec.{T, eqb, eqb→eq, eqb_refl}
use native.Mathlib.Omega.{arith}
use Rattle.rows.specs.Kinds as kinds
use Rattle.tokens.specs.declared.Refusal.{Refusal}
use Rattle.rows.specs.declared.Row.{Row}
use Rattle.grammar.specs.Words.{':', '=', semicolon, filter_words}
use Rattle.grammar.specs.Grammar.{Symbol, token, plain, one_of}
use Rattle.grammar.specs.Limits.{after, inside, kept}
use Rattle.grammar.specs.Table.{a, row, word}
use Rattle.grammar.specs.Kinds.{records, DECLARATION, NAME, PARAMS, RESULT, TYPED_NAMES, IMPORT, TYPE, BLOCK, EXPR}
use Rattle.grammar.specs.Rows.{detail_for}
use Rattle.grammar.proofs.Bools.{or_cases}
use Rattle.parser.specs.declared.Here.{Here}
use Rattle.parser.specs.declared.Limits.{Limits}
use Rattle.parser.specs.declared.Node.{Node}
use Rattle.parser.specs.Results.{Read}
use Rattle.parser.specs.Places.{word_of, start_of, end_of, passed, later, unused, node_of, put_over, plain_row, expected}
use Rattle.parser.specs.Counted.{counts, plain as plainly}
use Rattle.parser.specs.Going.{Stands, many, Phrase, Going, Answers}
use Rattle.parser.proofs.Standing.{solid, is_word}
use Rattle.parser.proofs.Going.{at, takes, out, writes, reads_one, ends, done, stopped, whole_of, relays, fewer}
use Rattle.parser.proofs.Picks.{On, begins_on, into_off}
use Rattle.parser.proofs.Steps.{expects, misses, alike_counts}
use Rattle.promises.specs.Firsts.{declaration_firsts}
use Rattle.promises.specs.Promises.{the, Anyhow, Partly, Listed, Typing, Perhaps}
use Rattle.promises.proofs.Alternatives.{declaration_const_on, declaration_fn_on, declaration_filter_on, declaration_import_on, declaration_test_on, declaration_off, params_any}
use Rattle.promises.proofs.Answered.{none_fits}
use Rattle.promises.proofs.Partly.{partly_of, stops_answer}

-- the words of a match, and none of them
not_in : (x c : ℕ) (w : List ℕ) → x ≢ c → (T (one_of x w) → ⊥) → T (one_of x (c ∷ w)) → ⊥
not_in x c w n m t = elim (or_cases (eqb x c) (one_of x w) t) [ inl e ↦ n (eqb→eq x c e) | inr e ↦ m e ]

pub filter_word : (x : ℕ) → 65 ≤ x → x < 67 → T (one_of x filter_words)
filter_word x a b = go (eqb x 65) refl
  where
    go : (q : Bool) → eqb x 65 ≡ q → T (one_of x filter_words)
    go true e = subst (λ (y : ℕ). T (one_of y filter_words)) (sym (eqb→eq x 65 (subst T (sym e) tt))) tt
    go false e = let n : x ≢ 65 = (λ z. subst T (ap (λ (y : ℕ). eqb x y) z ∙ e) (eqb_refl x)) in let k : x ≡ 66 = above n in subst (λ (y : ℕ). T (one_of y filter_words)) (sym k) tt
      where
        above : x ≢ 65 → x ≡ 66
        above n = omega (arith, a, b, n)

pub no_declaration : (x : ℕ) → x ≢ 61 → x ≢ 68 → x ≢ 70 → x ≢ 80 → (x < 65) ⊎ (67 ≤ x) → T (one_of x declaration_firsts) → ⊥
no_declaration x a b c d e = not_in x 61 (68 ∷ 70 ∷ 80 ∷ filter_words) a (not_in x 68 (70 ∷ 80 ∷ filter_words) b (not_in x 70 (80 ∷ filter_words) c (not_in x 80 filter_words d (not_in x 65 (66 ∷ []) (outside 65 (omega arith) (omega arith)) (not_in x 66 [] (outside 66 (omega arith) (omega arith)) (λ z. z))))))
  where
    outside : (n : ℕ) → 65 ≤ n → n < 67 → x ≢ n
    outside n p q z = elim e [ inl y ↦ omega (arith, y, p, z) | inr y ↦ omega (arith, y, q, z) ]

-- a list's and a type's promise at limits that were computed
pub limited_list : {s : List ℕ} {h : Here} {t t' : List ℕ} {x y : Limits} {o n c : ℕ} {r : Read} → x ≡ y → Listed s h t x o n c r t' → Listed s h t y o n c r t'
limited_list {s} {h} {t} {t'} {o = o} {n = n} {c = c} {r = r} e = subst (λ (l : Limits). Listed s h t l o n c r t') e

pub limited_typing : {s : List ℕ} {h : Here} {t t' : List ℕ} {x y : Limits} {n : ℕ} {r : Read} → x ≡ y → Typing s h t x n r t' → Typing s h t y n r t'
limited_typing {s} {h} {t} {t'} {n = n} {r = r} e = subst (λ (l : Limits). Typing s h t l n r t') e

-- the rows of `fn`, and of `filter` or `filtermap`: their list has so many children
abbrev fn_row : ℕ → ℕ → ℕ → ℕ → Row
fn_row x e c n = record { kind = kinds.FN; start = x; end = e; children = c + n + 2; value = n; detail = 0 }

abbrev filter_row : ℕ → ℕ → ℕ → ℕ → Row
filter_row x e c w = record { kind = kinds.FILTER; start = x; end = e; children = c + 2; value = 0; detail = w }

module _ (s : List ℕ) (l : Limits) (i : Here) (t₀ : List ℕ) (g : Stands s i) where
  abbrev Declared : Phrase
  Declared = the s (counts l) DECLARATION i t₀

  -- its word and its name
  module _ {w : List ℕ} {ss : List Symbol} (c : On DECLARATION (some (token plain w ∷ a NAME ∷ ss)) w) (o : T (solid w)) (m : T (one_of (word_of i) w)) {j : Here} (b : j ≡ passed s i) {r : Read} {t : List ℕ} (u : Anyhow s NAME j t₀ 3 r t) where
    declared_word : Going Declared (at (counts (plainly l)) (a NAME ∷ ss) ∷ []) j t₀ (many (start_of i) (end_of i) 0 (some (word_of i))) 0 4
    unfolding after kept counts
    declared_word = takes (begins_on c g m) o m tt b

    pub unnamed : {e : Refusal} → r ≡ Err e → Answers Declared 1 r t
    unfolding inside
    unnamed e = relays declared_word refl (u (counts (plainly l))) e

    pub named : {n : Node} {h : Here} → r ≡ Ok (n, h) → Going Declared (at (counts (plainly l)) ss ∷ []) h t (many (start_of i) n.end 1 (some (word_of i))) 0 7
    unfolding inside
    named e = reads_one declared_word refl refl (whole_of (u (counts (plainly l))) e)

  -- `const name : type = expr ;`
  module _ (m : word_of i ≡ 61) {j : Here} (b : j ≡ passed s i) {r₁ : Read} {t₁ : List ℕ} (u₁ : Anyhow s NAME j t₀ 3 r₁ t₁) where
    pub const_unnamed : {e : Refusal} → r₁ ≡ Err e → Answers Declared 1 r₁ t₁
    const_unnamed e = unnamed declaration_const_on tt (is_word m) b u₁ e

    module _ {n₁ : Node} {h₁ : Here} (e₁ : r₁ ≡ Ok (n₁, h₁)) {r₂ : Read} (q₂ : r₂ ≡ expected s h₁ 46) where
      const_named : Going Declared (at (counts (plainly l)) (word ':' ∷ a TYPE ∷ word '=' ∷ a (EXPR records) ∷ word semicolon ∷ row kinds.CONST ∷ []) ∷ []) h₁ t₁ (many (start_of i) n₁.end 1 (some (word_of i))) 0 7
      const_named = named declaration_const_on tt (is_word m) b u₁ e₁

      pub const_no_colon : {e : Refusal} → r₂ ≡ Err e → Answers Declared 1 r₂ t₁
      const_no_colon e = stopped e (misses 46 const_named tt q₂ e)

      module _ {n₂ : Node} {h₂ : Here} (e₂ : r₂ ≡ Ok (n₂, h₂)) where
        pub const_colon : Going Declared (at (counts (plainly l)) (a TYPE ∷ word '=' ∷ a (EXPR records) ∷ word semicolon ∷ row kinds.CONST ∷ []) ∷ []) h₂ t₁ (many (start_of i) n₂.end 1 (some (word_of i))) 0 11
        unfolding after counts
        const_colon = expects 46 const_named tt q₂ e₂

        module _ {r₃ : Read} {t₃ : List ℕ} (u₃ : Answers (the s (counts (plainly l)) TYPE h₂ t₁) 1 r₃ t₃) where
          pub const_untyped : {e : Refusal} → r₃ ≡ Err e → Answers Declared 1 r₃ t₃
          unfolding inside
          const_untyped e = relays const_colon refl u₃ e

          module _ {n₃ : Node} {h₃ : Here} (e₃ : r₃ ≡ Ok (n₃, h₃)) {r₄ : Read} (q₄ : r₄ ≡ expected s h₃ 50) where
            const_typed : Going Declared (at (counts (plainly l)) (word '=' ∷ a (EXPR records) ∷ word semicolon ∷ row kinds.CONST ∷ []) ∷ []) h₃ t₃ (many (start_of i) n₃.end 2 (some (word_of i))) 0 12
            unfolding inside
            const_typed = reads_one const_colon refl refl (whole_of u₃ e₃)

            pub const_no_equals : {e : Refusal} → r₄ ≡ Err e → Answers Declared 1 r₄ t₃
            const_no_equals e = stopped e (misses 50 const_typed tt q₄ e)

            module _ {n₄ : Node} {h₄ : Here} (e₄ : r₄ ≡ Ok (n₄, h₄)) where
              pub const_equals : Going Declared (at (counts (plainly l)) (a (EXPR records) ∷ word semicolon ∷ row kinds.CONST ∷ []) ∷ []) h₄ t₃ (many (start_of i) n₄.end 2 (some (word_of i))) 0 16
              unfolding after counts
              const_equals = expects 50 const_typed tt q₄ e₄

              module _ {r₅ : Read} {t₅ : List ℕ} (u₅ : Answers (the s (counts (plainly l)) (EXPR records) h₄ t₃) 1 r₅ t₅) where
                pub const_no_value : {e : Refusal} → r₅ ≡ Err e → Answers Declared 1 r₅ t₅
                unfolding inside
                const_no_value e = relays const_equals refl u₅ e

                module _ {n₅ : Node} {h₅ : Here} (e₅ : r₅ ≡ Ok (n₅, h₅)) {r₆ : Read} (q₆ : r₆ ≡ expected s h₅ 47) where
                  const_value : Going Declared (at (counts (plainly l)) (word semicolon ∷ row kinds.CONST ∷ []) ∷ []) h₅ t₅ (many (start_of i) n₅.end 3 (some (word_of i))) 0 17
                  unfolding inside
                  const_value = reads_one const_equals refl refl (whole_of u₅ e₅)

                  pub const_unended : {e : Refusal} → r₆ ≡ Err e → Answers Declared 1 r₆ t₅
                  const_unended e = stopped e (misses 47 const_value tt q₆ e)

                  pub const_read : {n₆ : Node} {h₆ : Here} {x : Row} {r : Read} {t : List ℕ} → r₆ ≡ Ok (n₆, h₆) → x ≡ plain_row kinds.CONST (start_of i) n₆.end 3 → (r ≡ Ok (node_of x, later h₆)) × (t ≡ put_over t₅ h₆ x i.rows) → Answers Declared 1 r t
                  unfolding after
                  const_read e₆ e p = done p.0 (ends (out (writes (fewer 2 (omega arith) (expects 47 const_value tt q₆ e₆)) refl refl e refl p.1)) refl refl refl)

  -- the list behind its name
  module _ {w : List ℕ} {ss : List Symbol} (c : On DECLARATION (some (token plain w ∷ a NAME ∷ a PARAMS ∷ ss)) w) (o : T (solid w)) (m : T (one_of (word_of i) w)) {j : Here} (b : j ≡ passed s i) {r₁ : Read} {t₁ : List ℕ} (u₁ : Anyhow s NAME j t₀ 3 r₁ t₁) {n₁ : Node} {h₁ : Here} (e₁ : r₁ ≡ Ok (n₁, h₁)) {r₂ : Read} {t₂ : List ℕ} (u₂ : Listed s h₁ t₁ (plainly l) 42 TYPED_NAMES 43 r₂ t₂) where
    listed_partly : Partly Declared r₂ t₂ (λ n h. Going Declared (at (counts (plainly l)) [] ∷ at (counts (plainly l)) ss ∷ []) h t₂ (many (start_of i) n.end (1 + n.children) (some (word_of i))) 0 11)
    unfolding inside after counts
    listed_partly = u₂ Declared (counts (plainly l)) [] (at (counts (plainly l)) ss ∷ []) _ 0 7 refl (alike_counts (plainly l)) (into_off params_any refl (λ z. z) (named c o m b u₁ e₁))

    pub unlisted : {e : Refusal} → r₂ ≡ Err e → Answers Declared 1 r₂ t₂
    unlisted e = stops_answer listed_partly e

    pub with_params : {n₂ : Node} {h₂ : Here} → r₂ ≡ Ok (n₂, h₂) → Going Declared (at (counts (plainly l)) ss ∷ []) h₂ t₂ (many (start_of i) n₂.end (1 + n₂.children) (some (word_of i))) 0 8
    with_params e = fewer 8 (omega arith) (out (partly_of listed_partly e))

  -- `fn name (params) [-> type] block`
  module _ (m : word_of i ≡ 68) {j : Here} (b : j ≡ passed s i) {r₁ : Read} {t₁ : List ℕ} (u₁ : Anyhow s NAME j t₀ 3 r₁ t₁) where
    pub fn_unnamed : {e : Refusal} → r₁ ≡ Err e → Answers Declared 1 r₁ t₁
    fn_unnamed e = unnamed declaration_fn_on tt (is_word m) b u₁ e

    module _ {n₁ : Node} {h₁ : Here} (e₁ : r₁ ≡ Ok (n₁, h₁)) where
      pub fn_named : Stands s h₁
      fn_named = (named declaration_fn_on tt (is_word m) b u₁ e₁).stands

      module _ {r₂ : Read} {t₂ : List ℕ} (u₂ : Listed s h₁ t₁ (plainly l) 42 TYPED_NAMES 43 r₂ t₂) where
        pub fn_unlisted : {e : Refusal} → r₂ ≡ Err e → Answers Declared 1 r₂ t₂
        fn_unlisted e = unlisted declaration_fn_on tt (is_word m) b u₁ e₁ u₂ e

        module _ {n₂ : Node} {h₂ : Here} (e₂ : r₂ ≡ Ok (n₂, h₂)) where
          pub fn_listed : Going Declared (at (counts (plainly l)) (a RESULT ∷ a BLOCK ∷ row kinds.FN ∷ []) ∷ []) h₂ t₂ (many (start_of i) n₂.end (1 + n₂.children) (some (word_of i))) 0 8
          fn_listed = with_params declaration_fn_on tt (is_word m) b u₁ e₁ u₂ e₂

          module _ {r₃ : Read} {t₃ : List ℕ} (u₃ : Typing s h₂ t₂ (plainly l) 27 r₃ t₃) where
            fn_partly : Partly Declared r₃ t₃ (λ n h. Perhaps Declared (at (counts (plainly l)) (a BLOCK ∷ row kinds.FN ∷ []) ∷ []) (start_of i) (1 + n₂.children) 8 n.children h t₃)
            fn_partly = u₃ Declared (counts (plainly l)) (a BLOCK ∷ row kinds.FN ∷ []) [] RESULT (start_of i) n₂.end (1 + n₂.children) 8 (some (word_of i)) refl refl (inl (refl, refl)) fn_listed

            pub fn_untyped : {e : Refusal} → r₃ ≡ Err e → Answers Declared 1 r₃ t₃
            fn_untyped e = stops_answer fn_partly e

            module _ {n₃ : Node} {h₃ : Here} (e₃ : r₃ ≡ Ok (n₃, h₃)) where
              pub fn_typed : Perhaps Declared (at (counts (plainly l)) (a BLOCK ∷ row kinds.FN ∷ []) ∷ []) (start_of i) (1 + n₂.children) 8 n₃.children h₃ t₃
              fn_typed = partly_of fn_partly e₃

              module _ {r₄ : Read} {t₄ : List ℕ} (u₄ : Answers (the s (counts (plainly l)) BLOCK h₃ t₃) 1 r₄ t₄) where
                pub fn_no_block : {e : Refusal} → r₄ ≡ Err e → Answers Declared 1 r₄ t₄
                unfolding inside
                fn_no_block e = relays fn_typed.going refl u₄ e

                pub fn_read : {n₄ : Node} {h₄ : Here} {x : Row} {r : Read} {t : List ℕ} → r₄ ≡ Ok (n₄, h₄) → x ≡ fn_row (start_of i) n₄.end n₂.children n₃.children → (r ≡ Ok (node_of x, later h₄)) × (t ≡ put_over t₄ h₄ x i.rows) → Answers Declared 1 r t
                unfolding inside
                fn_read {n₄} e₄ e p = done p.0 (ends (out (writes (fewer 2 (omega arith) (reads_one fn_typed.going refl refl (whole_of u₄ e₄))) refl refl (e ∙ ap (λ (k : ℕ). record { kind = kinds.FN; start = start_of i; end = n₄.end; children = k; value = n₃.children; detail = 0 }) (omega arith)) refl p.1)) refl refl refl)

  -- `filter` or `filtermap name (params) block`
  module _ (m : T (one_of (word_of i) filter_words)) {j : Here} (b : j ≡ passed s i) {r₁ : Read} {t₁ : List ℕ} (u₁ : Anyhow s NAME j t₀ 3 r₁ t₁) where
    pub filter_unnamed : {e : Refusal} → r₁ ≡ Err e → Answers Declared 1 r₁ t₁
    filter_unnamed e = unnamed declaration_filter_on tt m b u₁ e

    module _ {n₁ : Node} {h₁ : Here} (e₁ : r₁ ≡ Ok (n₁, h₁)) where
      pub filter_named : Stands s h₁
      filter_named = (named declaration_filter_on tt m b u₁ e₁).stands

      module _ {r₂ : Read} {t₂ : List ℕ} (u₂ : Listed s h₁ t₁ (plainly l) 42 TYPED_NAMES 43 r₂ t₂) where
        pub filter_unlisted : {e : Refusal} → r₂ ≡ Err e → Answers Declared 1 r₂ t₂
        filter_unlisted e = unlisted declaration_filter_on tt m b u₁ e₁ u₂ e

        module _ {n₂ : Node} {h₂ : Here} (e₂ : r₂ ≡ Ok (n₂, h₂)) where
          pub filter_listed : Going Declared (at (counts (plainly l)) (a BLOCK ∷ row kinds.FILTER ∷ []) ∷ []) h₂ t₂ (many (start_of i) n₂.end (1 + n₂.children) (some (word_of i))) 0 8
          filter_listed = with_params declaration_filter_on tt m b u₁ e₁ u₂ e₂

          module _ {r₃ : Read} {t₃ : List ℕ} (u₃ : Answers (the s (counts (plainly l)) BLOCK h₂ t₂) 1 r₃ t₃) where
            pub filter_no_block : {e : Refusal} → r₃ ≡ Err e → Answers Declared 1 r₃ t₃
            unfolding inside
            filter_no_block e = relays filter_listed refl u₃ e

            pub filter_read : {n₃ : Node} {h₃ : Here} {x : ℕ} {r : Read} {t : List ℕ} → r₃ ≡ Ok (n₃, h₃) → x ≡ detail_for kinds.FILTER (word_of i) → (r ≡ Ok (node_of (filter_row (start_of i) n₃.end n₂.children x), later h₃)) × (t ≡ put_over t₃ h₃ (filter_row (start_of i) n₃.end n₂.children x) i.rows) → Answers Declared 1 r t
            unfolding inside
            filter_read {n₃} {x = x} e₃ e p = done p.0 (ends (out (writes (fewer 2 (omega arith) (reads_one filter_listed refl refl (whole_of u₃ e₃))) refl refl (ap (filter_row (start_of i) n₃.end n₂.children) e ∙ ap (λ (k : ℕ). record { kind = kinds.FILTER; start = start_of i; end = n₃.end; children = k; value = 0; detail = detail_for kinds.FILTER (word_of i) }) (omega arith)) refl p.1)) refl refl refl)

  -- `test name block`
  module _ (m : word_of i ≡ 80) {j : Here} (b : j ≡ passed s i) {r₁ : Read} {t₁ : List ℕ} (u₁ : Anyhow s NAME j t₀ 3 r₁ t₁) where
    pub test_unnamed : {e : Refusal} → r₁ ≡ Err e → Answers Declared 1 r₁ t₁
    test_unnamed e = unnamed declaration_test_on tt (is_word m) b u₁ e

    module _ {n₁ : Node} {h₁ : Here} (e₁ : r₁ ≡ Ok (n₁, h₁)) where
      pub test_named : Going Declared (at (counts (plainly l)) (a BLOCK ∷ row kinds.TEST ∷ []) ∷ []) h₁ t₁ (many (start_of i) n₁.end 1 (some (word_of i))) 0 7
      test_named = named declaration_test_on tt (is_word m) b u₁ e₁

      module _ {r₂ : Read} {t₂ : List ℕ} (u₂ : Answers (the s (counts (plainly l)) BLOCK h₁ t₁) 1 r₂ t₂) where
        pub test_no_block : {e : Refusal} → r₂ ≡ Err e → Answers Declared 1 r₂ t₂
        unfolding inside
        test_no_block e = relays test_named refl u₂ e

        pub test_read : {n₂ : Node} {h₂ : Here} {x : Row} {r : Read} {t : List ℕ} → r₂ ≡ Ok (n₂, h₂) → x ≡ plain_row kinds.TEST (start_of i) n₂.end 2 → (r ≡ Ok (node_of x, later h₂)) × (t ≡ put_over t₂ h₂ x i.rows) → Answers Declared 1 r t
        unfolding inside
        test_read e₂ e p = done p.0 (ends (out (writes (fewer 2 (omega arith) (reads_one test_named refl refl (whole_of u₂ e₂))) refl refl e refl p.1)) refl refl refl)

  -- an import; none of them
  pub declared_import : {r : Read} {t : List ℕ} → word_of i ≡ 70 → Answers (the s (counts l) IMPORT i t₀) 1 r t → Answers Declared 1 r t
  unfolding inside
  declared_import {r} {t} m u = go r u
    where
      go : (r : Read) → Answers (the s (counts l) IMPORT i t₀) 1 r t → Answers Declared 1 r t
      go (Ok (n, h)) u = done refl (ends (out (reads_one (begins_on declaration_import_on g (is_word m)) refl refl u.is)) refl refl refl)
      go (Err e) u = relays (begins_on declaration_import_on g (is_word m)) refl u refl

  pub undeclared : {r : Read} → (T (one_of (word_of i) declaration_firsts) → ⊥) → r ≡ unused i → Answers Declared 1 r t₀
  undeclared n e = none_fits declaration_off g n e
