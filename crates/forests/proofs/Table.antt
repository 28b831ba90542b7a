-- The claim on each kind of phrase, and those alternatives of which a test shows it.
use mathlib.Core.Path.{◌≡◌, refl, sym, subst, ◌∙◌}
use mathlib.Core.List.{List, [], ◌∷◌, ◌++◌}
use mathlib.Core.Bool.{Bool, true, false, not, ◌&&◌, ◌||◌, cond}
use mathlib.Core.Logic.{inl, inr}
use Prim.Native.Nat.{ℕ, suc}
use lib.Dec.{T, eqb, eqb→eq}
use Rattle.rows.specs.Kinds as kinds
use Rattle.grammar.specs.Words.{open_brace}
use Rattle.grammar.specs.Grammar.{same, Symbol, token, phrase, unless, note, left_side, text, Token, Parts, end, node, mark, one_of}
use Rattle.grammar.specs.Kinds.{records, no_records, NAME, IMPORT, IMPORTED, PATH, BLOCK, STATEMENTS, STATEMENT, AFTER_FOUR, AFTER_EXPR, LET, LITERAL, F_STRING, PARENS, BRACES, BRACES_INSIDE, EXPRS, EXPRS_MORE, FOUR, ELSE, ELSE_PART, ELSE_IF, ARMS, ARM, ARM_BODY, ARM_NEXT, ARM_COMMA, GUARD, PATTERN, VARIANT_NAMES, EXPR, RETURNED, ASSIGNED, BINARY, OR_MORE, AND, AND_MORE, COMPARE, COMPARE_MORE, SUM, SUM_MORE, PRODUCT, PRODUCT_MORE, OPERAND, POSTFIX, AFTER_PATH}
use Rattle.grammar.specs.Table.{rest_kinds, literal_row}
use Rattle.grammar.specs.Rows.{Item, count, sizes, starts, ends, sign_of, detail_for, row_of}
use Rattle.grammar.specs.Language.{roto}
use Rattle.grammar.proofs.Bools.{and_l, and_r, or_cases, implied}
use Rattle.canon.specs.Trees.{Label, label}
use Rattle.canon.specs.Layout.{whole, is_four}
use Rattle.forests.specs.Planted.{Twig, word, branch, items_of, trees_in, branches, bud, plant_token, plant}
use Rattle.forests.proofs.Grown.{plant_phrase, plant_row, plant_part}
use Rattle.forests.proofs.Peeked.{All, all_end, all_token, all_phrase, all_unless, all_note, all_side, all_text}
use Rattle.forests.proofs.Places.{top, Fits, Each, one_of_each, ordinary}
use Rattle.forests.proofs.Stands.{At, at_whole, Stated, Armed, ordinary_at, literal_kinds}
use Rattle.forests.proofs.Claims.{bough, Leaves, Makes, More, Adds, Wholly, Keeps, Returned, Guarded, Ready, on_rest, on_leaf, makes_from, leaves_made, makes_row, leaves_as, leaves_each, each_append, wholes_pair, adds_keeps, adds_each, keeps_token, keeps_end, keeps_leaf, keeps_part, keeps_row, keeps_own, keeps_rest}

pub data Claim : Type 0 where
  keeps adds states arms_more armed paired four block inside guard body variant : Claim
  single returned : Bool → Claim
  expr : ℕ → Bool → Bool → Claim
  more : ℕ → ℕ → Bool → Bool → Claim

pub record Entry : Type 0 where
  pub kind : ℕ
  pub claim : Claim

infix 70 ◌is◌
abbrev pub ◌is◌ : ℕ → Claim → Entry
n is c = record { kind = n; claim = c }

abbrev pub expr_claims : Bool → List Entry → List Entry
expr_claims r rest =
    EXPR r is expr 0 r true ∷ BINARY r is expr 1 r true ∷ AND r is expr 2 r true ∷ COMPARE r is expr 3 r true ∷ SUM r is expr 4 r true ∷ PRODUCT r is expr 5 r true ∷ OPERAND r is expr 6 r true ∷
    RETURNED r is returned r ∷ ASSIGNED r is more 1 0 r true ∷ OR_MORE r is more 1 1 r true ∷ AND_MORE r is more 2 2 r true ∷ COMPARE_MORE r is more 4 3 r true ∷ SUM_MORE r is more 4 4 r true ∷ PRODUCT_MORE r is more 5 5 r true ∷
    POSTFIX r is more 7 7 r false ∷ AFTER_PATH r is more 7 7 r true ∷ rest

abbrev pub claims : List Entry
claims =
    NAME is single false ∷ LET is single false ∷ IMPORT is single false ∷ IMPORTED is single false ∷ PATTERN is single false ∷ LITERAL is single false ∷ F_STRING is single false ∷ PATH is single true ∷
    PARENS is paired ∷ FOUR is four ∷ ELSE_IF is four ∷ BLOCK is block ∷ BRACES is expr 7 true false ∷ BRACES_INSIDE is inside ∷
    EXPRS is adds ∷ EXPRS_MORE is adds ∷ ELSE is adds ∷ ELSE_PART is adds ∷ STATEMENTS is states ∷ STATEMENT is states ∷ AFTER_FOUR is states ∷ AFTER_EXPR is states ∷
    ARMS is armed ∷ ARM is armed ∷ ARM_BODY is body ∷ ARM_NEXT is arms_more ∷ ARM_COMMA is arms_more ∷ GUARD is guard ∷ VARIANT_NAMES is variant ∷
    expr_claims records (expr_claims no_records [])

-- all other kinds leave trees that are asked for nothing
abbrev pub claim_in : List Entry → ℕ → Claim
claim_in [] n = keeps
claim_in (x ∷ xs) n = let c = claim_in xs n in cond (eqb n x.kind) x.claim c

abbrev pub claim_of : ℕ → Claim
claim_of n = claim_in claims n

-- what is known of each token: a literal's row has a literal's kind
abbrev pub K : Token → Type 0
K x = T (one_of x.kind literal_kinds)

module _ (s : List ℕ) where
  abbrev pub Holds : Claim → ℕ → Parts → Type 0
  Holds keeps u p = Keeps s p
  Holds adds u p = Adds s (Fits whole) p
  Holds states u p = Adds s Stated p
  Holds arms_more u p = Adds s Armed p
  Holds armed u p = Each Armed (trees_in s (plant s p bud).twigs)
  Holds paired u p = Leaves s (Fits whole) p
  Holds four u p = Leaves s (λ x. At 7 false false u x × T (is_four x.label.kind)) p
  Holds block u p = Leaves s (λ x. At 7 false false u x × T (eqb x.label.kind kinds.BLOCK)) p
  Holds inside u p = (x : Token) (part : ℕ) → Makes s (At 7 true false open_brace) (word x ∷ []) part p
  Holds guard u p = (xs : List Twig) (part : ℕ) → Guarded s xs part p
  Holds body u p = (xs : List Twig) (part : ℕ) → Ready s xs part → Each Armed (trees_in s (plant s p (bough xs part)).twigs)
  Holds variant u p = (xs : List Twig) (part : ℕ) → Wholly s xs → Makes s (At 7 false false 0) xs part p
  Holds (single q) u p = Leaves s (At 7 false q 0) p
  Holds (returned r) u p = (x : Token) (part : ℕ) → Returned s r x part p
  Holds (expr n r q) u p = Leaves s (At n r q u) p
  Holds (more n i r q) u p = More s n i r q p

  abbrev pub Claims : ℕ → ℕ → Parts → Type 0
  Claims n u p = Holds (claim_of n) u p

  -- ---- by tests

  abbrev keep_claim : Claim → Bool
  keep_claim keeps = true
  keep_claim adds = true
  keep_claim states = false
  keep_claim arms_more = false
  keep_claim armed = false
  keep_claim paired = false
  keep_claim four = false
  keep_claim block = false
  keep_claim inside = false
  keep_claim guard = false
  keep_claim body = false
  keep_claim variant = false
  keep_claim (single q) = false
  keep_claim (returned r) = false
  keep_claim (expr n r q) = false
  keep_claim (more n i r q) = false

  abbrev whole_claim : Claim → Bool
  whole_claim keeps = true
  whole_claim adds = true
  whole_claim states = false
  whole_claim arms_more = false
  whole_claim armed = false
  whole_claim paired = true
  whole_claim four = true
  whole_claim block = true
  whole_claim inside = false
  whole_claim guard = false
  whole_claim body = false
  whole_claim variant = false
  whole_claim (single q) = true
  whole_claim (returned r) = false
  whole_claim (expr n r q) = true
  whole_claim (more n i r q) = false

  holds_keeps : (c : Claim) (u : ℕ) (p : Parts) → T (keep_claim c) → Holds c u p → Keeps s p
  holds_keeps keeps u p t h = h
  holds_keeps adds u p t h = adds_keeps s h
  holds_keeps states u p t h = absurd t
  holds_keeps arms_more u p t h = absurd t
  holds_keeps armed u p t h = absurd t
  holds_keeps paired u p t h = absurd t
  holds_keeps four u p t h = absurd t
  holds_keeps block u p t h = absurd t
  holds_keeps inside u p t h = absurd t
  holds_keeps guard u p t h = absurd t
  holds_keeps body u p t h = absurd t
  holds_keeps variant u p t h = absurd t
  holds_keeps (single q) u p t h = absurd t
  holds_keeps (returned r) u p t h = absurd t
  holds_keeps (expr n r q) u p t h = absurd t
  holds_keeps (more n i r q) u p t h = absurd t

  pub holds_whole : (c : Claim) (u : ℕ) (p : Parts) → T (whole_claim c) → Holds c u p → Wholly s (plant s p bud).twigs
  holds_whole keeps u p t h = h.kept [] 0 tt
  holds_whole adds u p t h = adds_each s (Fits whole) h
  holds_whole states u p t h = absurd t
  holds_whole arms_more u p t h = absurd t
  holds_whole armed u p t h = absurd t
  holds_whole paired u p t h = leaves_each s (Fits whole) h
  holds_whole four u p t h = leaves_each s (Fits whole) (leaves_as s (λ x k. at_whole k.0) h)
  holds_whole block u p t h = leaves_each s (Fits whole) (leaves_as s (λ x k. at_whole k.0) h)
  holds_whole inside u p t h = absurd t
  holds_whole guard u p t h = absurd t
  holds_whole body u p t h = absurd t
  holds_whole variant u p t h = absurd t
  holds_whole (single q) u p t h = leaves_each s (Fits whole) (leaves_as s (λ x k. at_whole k) h)
  holds_whole (returned r) u p t h = absurd t
  holds_whole (expr n r q) u p t h = leaves_each s (Fits whole) (leaves_as s (λ x k. at_whole k) h)
  holds_whole (more n i r q) u p t h = absurd t

  abbrev keepable : ℕ → Bool
  keepable n = cond (one_of n rest_kinds) (keep_claim (claim_of n)) (whole_claim (claim_of n))

  abbrev keepables : List Symbol → Bool
  keepables [] = true
  keepables (token g w ∷ a) = keepables a
  keepables (phrase o n ∷ a) = keepable n && keepables a
  keepables (unless w ∷ a) = keepables a
  keepables (note k ∷ a) = one_of k (0 ∷ ordinary) && keepables a
  keepables (left_side n m ∷ a) = false
  keepables (text n ∷ a) = keepable n && keepables a

  -- an ordinary row, as a label
  row_label : (k : ℕ) (xs : List Item) (part : ℕ) → eqb k literal_row ≡ false → label s (row_of k xs part) ≡ label s (record { kind = k; start = starts xs; end = ends xs; children = count xs; value = part; detail = detail_for k (sign_of xs); size = suc (sizes xs) })
  unfolding row_of
  row_label k xs part e = rw e refl

  ordinary_row : (k : ℕ) (q : Bool) → T (one_of k ordinary) → (T (eqb k kinds.PATH) → T q) → (xs : List Twig) (part : ℕ) → Wholly s xs → At 7 false q 0 (top 0 (label s (row_of k (items_of xs) part)) (trees_in s xs))
  ordinary_row k q o e xs part w =
      subst (λ (a : Label). At 7 false q 0 (top 0 a (trees_in s xs))) (sym (row_label k (items_of xs) part (one_of_each (λ n. eqb n literal_row ≡ false) ordinary (refl, (refl, (refl, (refl, (refl, (refl, (refl, (refl, (refl, (refl, (refl, (refl, (refl, (refl, (refl, (refl, (refl, (refl, (refl, (refl, (refl, tt))))))))))))))))))))) k o)))
      (ordinary_at k part (detail_for k (sign_of (items_of xs))) _ (trees_in s xs) q o e w)

  not_part : (k : ℕ) → T (one_of k ordinary) → eqb k 0 ≡ false
  not_part = one_of_each (λ n. eqb n 0 ≡ false) ordinary (refl, (refl, (refl, (refl, (refl, (refl, (refl, (refl, (refl, (refl, (refl, (refl, (refl, (refl, (refl, (refl, (refl, (refl, (refl, (refl, (refl, tt)))))))))))))))))))))

  noted : (k : ℕ) {p : Parts} → T (one_of k (0 ∷ ordinary)) → Keeps s p → Keeps s (mark k p)
  noted k {p} t h = elim (or_cases (eqb k 0) (one_of k ordinary) t) [
    | inl e ↦ subst (λ (n : ℕ). Keeps s (mark n p)) (sym (eqb→eq k 0 e)) (keeps_part s h)
    | inr o ↦ keeps_row s k (not_part k o) (λ xs part w. at_whole (ordinary_row k true o (λ x. tt) xs part w)) h
  ]

  module _ (tests : Bool) where
    abbrev pub Alls : List Symbol → ℕ → Parts → Type 0
    Alls = All (roto tests) K Claims

    one_phrase : (n u : ℕ) (a : List Symbol) (p q : Parts) → T (keepable n) → Claims n u p → Keeps s q → Keeps s (node n a p q)
    one_phrase n u a p q t h k = go (one_of n rest_kinds) refl t
      where
        go : (b : Bool) → one_of n rest_kinds ≡ b → T (cond b (keep_claim (claim_of n)) (whole_claim (claim_of n))) → Keeps s (node n a p q)
        go true e f = keeps_rest s n a e (holds_keeps (claim_of n) u p f h) k
        go false e f = keeps_own s n a e (holds_whole (claim_of n) u p f h) k

    forked : (b : Bool) (n : ℕ) (a : List Symbol) → T (keepable n && keepables a) → T (keepables (cond b (phrase same n ∷ a) a))
    forked true n a t = t
    forked false n a t = and_r (keepable n) (keepables a) t

    pub keeps_all : {a : List Symbol} {u : ℕ} {p : Parts} → T (keepables a) → Alls a u p → Keeps s p
    keeps_all t all_end = keeps_end s
    keeps_all t (all_token {x = x} m k e h) = keeps_leaf s x (keeps_all t h)
    keeps_all {u = u} t (all_phrase {n = n} {a = b} {s = a} {p = p} {q = q} c h) = one_phrase n u b p q (and_l (keepable n) (keepables a) t) c (keeps_all (and_r (keepable n) (keepables a) t) h)
    keeps_all t (all_unless g h) = keeps_all t h
    keeps_all t (all_note {k = k} {s = a} h) = noted k (and_l (one_of k (0 ∷ ordinary)) (keepables a) t) (keeps_all (and_r (one_of k (0 ∷ ordinary)) (keepables a) t) h)
    keeps_all t (all_side c h) = absurd t
    keeps_all t (all_text {n = n} {s = a} {x = x} k h) = keeps_leaf s x (keeps_all (forked (eqb x.word (roto tests).hole) n a t) h)

    -- ---- an alternative whose last part is a row

    abbrev last_note : List Symbol → ℕ
    last_note [] = 0
    last_note (token g w ∷ a) = last_note a
    last_note (phrase o n ∷ a) = last_note a
    last_note (unless w ∷ a) = last_note a
    last_note (note k ∷ []) = k
    last_note (note k ∷ b ∷ a) = last_note (b ∷ a)
    last_note (left_side n m ∷ a) = 0
    last_note (text n ∷ a) = last_note a

    abbrev pub closes : ℕ → List Symbol → Bool
    closes k [] = false
    closes k (token g w ∷ a) = closes k a
    closes k (phrase o n ∷ a) = keepable n && closes k a
    closes k (unless w ∷ a) = closes k a
    closes k (note i ∷ []) = eqb i k
    closes k (note i ∷ b ∷ a) = one_of i (0 ∷ ordinary) && closes k (b ∷ a)
    closes k (left_side n m ∷ a) = false
    closes k (text n ∷ a) = keepable n && closes k a

    pub record Closed (k : ℕ) (xs : List Twig) (part : ℕ) (p : Parts) : Type 0 where
      pub twigs_now : List Twig
      pub part_now : ℕ
      pub closing : plant s p (bough xs part) ≡ plant s (mark k end) (bough twigs_now part_now)
      pub wholly : Wholly s twigs_now

    closed_from : {k : ℕ} {xs ys : List Twig} {part now : ℕ} {p q : Parts} → plant s p (bough xs part) ≡ plant s q (bough ys now) → Closed k ys now q → Closed k xs part p
    closed_from e h = record { twigs_now = h.twigs_now; part_now = h.part_now; closing = e ∙ h.closing; wholly = h.wholly }

    abbrev Closing : ℕ → Parts → Type 0
    Closing k p = (xs : List Twig) (part : ℕ) → Wholly s xs → Closed k xs part p

    phrase_closed : (k n u : ℕ) (a : List Symbol) (p q : Parts) → T (keepable n) → Claims n u p → Closing k q → Closing k (node n a p q)
    phrase_closed k n u a p q t h c xs part w = go (one_of n rest_kinds) refl t
      where
        go : (b : Bool) → one_of n rest_kinds ≡ b → T (cond b (keep_claim (claim_of n)) (whole_claim (claim_of n))) → Closed k xs part (node n a p q)
        go true e f = let b = plant s p (bough xs part) in closed_from (on_rest s n a p q xs part e) (c b.twigs b.part ((holds_keeps (claim_of n) u p f h).kept xs part w))
        go false e f =
            let ys = branches (eqb n PARENS) (plant s p bud).twigs in
            closed_from (plant_phrase s n a p q (bough xs part) e) (c (xs ++ ys) part (each_append s (Fits whole) xs ys w (wholes_pair s (eqb n PARENS) (plant s p bud).twigs (holds_whole (claim_of n) u p f h))))

    note_closed : (k i : ℕ) (p : Parts) → T (one_of i (0 ∷ ordinary)) → Closing k p → Closing k (mark i p)
    note_closed k i p t c xs part w = elim (or_cases (eqb i 0) (one_of i ordinary) t) [
      | inl e ↦ subst (λ (n : ℕ). Closed k xs part (mark n p)) (sym (eqb→eq i 0 e)) (closed_from (plant_part s p (bough xs part)) (c xs 1 w))
      | inr o ↦ closed_from (plant_row s i p (bough xs part) (not_part i o)) (c (branch (row_of i (items_of xs) part) 0 (trees_in s xs) ∷ []) 0 (at_whole (ordinary_row i true o (λ x. tt) xs part w), tt))
    ]

    at_end : {u : ℕ} {p : Parts} → Alls [] u p → p ≡ end
    at_end all_end = refl

    last_closed : (k i : ℕ) (a : List Symbol) {u : ℕ} (p : Parts) → T (closes k (note i ∷ a)) → Alls a u p → (T (closes k a) → Closing k p) → Closing k (mark i p)
    last_closed k i [] p t h c xs part w = subst (λ (q : Parts). Closed k xs part (mark i q)) (sym (at_end h)) (subst (λ (n : ℕ). Closed k xs part (mark n end)) (sym (eqb→eq i k t)) (record { twigs_now = xs; part_now = part; closing = refl; wholly = w }))
    last_closed k i (b ∷ a) p t h c xs part w = note_closed k i p (and_l (one_of i (0 ∷ ordinary)) (closes k (b ∷ a)) t) (c (and_r (one_of i (0 ∷ ordinary)) (closes k (b ∷ a)) t)) xs part w

    closed_forked : (b : Bool) (k n : ℕ) (a : List Symbol) → T (keepable n && closes k a) → T (closes k (cond b (phrase same n ∷ a) a))
    closed_forked true k n a t = t
    closed_forked false k n a t = and_r (keepable n) (closes k a) t

    pub closed : (k : ℕ) {a : List Symbol} {u : ℕ} {p : Parts} → T (closes k a) → Alls a u p → Closing k p
    closed k t all_end xs part w = absurd t
    closed k t (all_token {x = x} {p = p} m e g h) xs part w = let b = plant_token x (bough xs part) in closed_from (on_leaf s x p xs part) (closed k t h b.twigs b.part (keeps_token s x (bough xs part) w))
    closed k {u = u} t (all_phrase {n = n} {a = b} {s = a} {p = p} {q = q} c h) xs part w = phrase_closed k n u b p q (and_l (keepable n) (closes k a) t) c (λ ys now v. closed k (and_r (keepable n) (closes k a) t) h ys now v) xs part w
    closed k t (all_unless g h) xs part w = closed k t h xs part w
    closed k t (all_note {k = i} {s = a} {p = p} h) xs part w = last_closed k i a p t h (λ f ys now v. closed k f h ys now v) xs part w
    closed k t (all_side c h) xs part w = absurd t
    closed k t (all_text {n = n} {s = a} {x = x} {p = p} e h) xs part w = let b = plant_token x (bough xs part) in closed_from (on_leaf s x p xs part) (closed k (closed_forked (eqb x.word (roto tests).hole) k n a t) h b.twigs b.part (keeps_token s x (bough xs part) w))

    -- an ordinary row over all
    abbrev final : Bool → ℕ → Bool
    final q k = one_of k ordinary && (not (eqb k kinds.PATH) || q)

    abbrev overs : Bool → List Symbol → Bool
    overs q a = final q (last_note a) && closes (last_note a) a

    over : (q : Bool) {a : List Symbol} {u : ℕ} {p : Parts} → T (overs q a) → Alls a u p → (xs : List Twig) (part : ℕ) → Wholly s xs → Makes s (At 7 false q 0) xs part p
    over q {a} t h xs part w =
        let k = last_note a in
        let f = and_l (final q k) (closes k a) t in
        let o = and_l (one_of k ordinary) (not (eqb k kinds.PATH) || q) f in
        let c = closed k (and_r (final q k) (closes k a) t) h xs part w in
        makes_from s c.closing (makes_row s k c.twigs_now c.part_now (not_part k o) (ordinary_row k q o (implied (eqb k kinds.PATH) q (and_r (one_of k ordinary) (not (eqb k kinds.PATH) || q) f)) c.twigs_now c.part_now c.wholly))

    -- ---- all that tests show

    abbrev pub shown : Claim → List Symbol → Bool
    shown keeps a = keepables a
    shown adds a = false
    shown states a = false
    shown arms_more a = false
    shown armed a = false
    shown paired a = false
    shown four a = false
    shown block a = false
    shown inside a = false
    shown guard a = false
    shown body a = false
    shown variant a = overs false a
    shown (single q) a = overs q a
    shown (returned r) a = false
    shown (expr n r q) a = false
    shown (more n i r q) a = false

    pub shows : (c : Claim) (a : List Symbol) (u : ℕ) (p : Parts) → T (shown c a) → Alls a u p → Holds c u p
    shows keeps a u p t h = keeps_all t h
    shows adds a u p t h = absurd t
    shows states a u p t h = absurd t
    shows arms_more a u p t h = absurd t
    shows armed a u p t h = absurd t
    shows paired a u p t h = absurd t
    shows four a u p t h = absurd t
    shows block a u p t h = absurd t
    shows inside a u p t h = absurd t
    shows guard a u p t h = absurd t
    shows body a u p t h = absurd t
    shows variant a u p t h = over false t h
    shows (single q) a u p t h = leaves_made s (over q t h [] 0 tt)
    shows (returned r) a u p t h = absurd t
    shows (expr n r q) a u p t h = absurd t
    shows (more n i r q) a u p t h = absurd t
