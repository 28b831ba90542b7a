-- Behind a phrase the counts are those before it; no prefix stands there that would be asked with them: a test of the table.
use mathlib.Core.Path.{◌≡◌, refl, sym, ap, ◌∙◌}
use mathlib.Core.List.{List, [], ◌∷◌}
use mathlib.Core.Bool.{Bool, true, false, not, ◌&&◌, ◌||◌, cond}
use mathlib.Core.Logic.{◌⊎◌, inl, inr}
use Prim.Native.Nat.{ℕ, suc}
use lib.Dec.{T, eqb}
use Rattle.grammar.specs.Kinds.{records, no_records, DECLARATIONS, DECLARATION, PARAMS, RESULT, TYPED_NAMES_MORE, IMPORT, IMPORTPATH_REST, IMPORTPATHS_MORE, PATH_REST, TYPE_MARKS, TYPE_BRACKETS, TYPES_MORE, BLOCK, STATEMENTS, STATEMENT, AFTER_FOUR, AFTER_EXPR, LET, LET_TYPE, BRACES_INSIDE, FIELDS_MORE, EXPRS_MORE, FOUR, ELSE, ELSE_PART, ELSE_IF, ARMS, ARM, ARM_NEXT, ARM_COMMA, GUARD, PATTERN, VARIANT, VARIANT_NAMES, NAMES_MORE, ASSIGNED, OR_MORE, AND_MORE, COMPARE_MORE, SUM_MORE, PRODUCT_MORE, POSTFIX, AFTER_PATH}
use Rattle.grammar.specs.Grammar.{Ask, plain, has_value, opens_bracket, closes_bracket, is_prefix, is_head, is_else_if, Scope, same, body, Symbol, token, phrase, unless, note, left_side, text, Rule, Token, Stream, Parts, Language, one_of}
use Rattle.grammar.specs.Limits.{Counts, zeros, after, inside}
use Rattle.grammar.specs.Readings.{ReadingBy, reads_end, reads_token, reads_phrase, reads_unless, reads_note, reads_side, reads_text}
use Rattle.grammar.specs.InARow.{row_after, Asked, row_behind, InARow}
use Rattle.grammar.specs.Language.{roto, start}
use Rattle.grammar.proofs.Bools.{and_l, and_r, or_cases, implied}
use Rattle.grammar.proofs.Pass.{each_passes, passes_at}

-- kinds that begin with no prefix; that stand only where no prefix is counted and none stands; behind which none stands
abbrev tails : List ℕ
tails =
    DECLARATIONS ∷ DECLARATION ∷ PARAMS ∷ RESULT ∷ TYPED_NAMES_MORE ∷ IMPORT ∷ IMPORTPATH_REST ∷ IMPORTPATHS_MORE ∷ PATH_REST ∷ TYPE_MARKS ∷ TYPE_BRACKETS ∷ TYPES_MORE ∷
    BLOCK ∷ AFTER_EXPR ∷ LET_TYPE ∷ FIELDS_MORE ∷ EXPRS_MORE ∷ ARMS ∷ ARM ∷ ARM_NEXT ∷ ARM_COMMA ∷ GUARD ∷ PATTERN ∷ VARIANT ∷ VARIANT_NAMES ∷ NAMES_MORE ∷
    ASSIGNED records ∷ OR_MORE records ∷ AND_MORE records ∷ COMPARE_MORE records ∷ SUM_MORE records ∷ PRODUCT_MORE records ∷ POSTFIX records ∷ AFTER_PATH records ∷
    ASSIGNED no_records ∷ OR_MORE no_records ∷ AND_MORE no_records ∷ COMPARE_MORE no_records ∷ SUM_MORE no_records ∷ PRODUCT_MORE no_records ∷ POSTFIX no_records ∷ AFTER_PATH no_records ∷ []

abbrev fresh : List ℕ
fresh = STATEMENTS ∷ STATEMENT ∷ AFTER_FOUR ∷ ELSE ∷ BRACES_INSIDE ∷ []

abbrev ends : List ℕ
ends = BLOCK ∷ FOUR ∷ IMPORT ∷ LET ∷ ELSE ∷ ELSE_PART ∷ ELSE_IF ∷ []

-- what is known at a place: none is counted; none stands there; as many are counted as stand there
record Known : Type 0 where
  counted : Bool
  stands : Bool
  level : Bool

abbrev knows : Bool → Bool → Bool → Known
knows a b c = record { counted = a; stands = b; level = c }

abbrev begins : ℕ → Known
begins n = cond (one_of n tails) (knows false false false) (cond (one_of n fresh) (knows true true true) (knows false false true))

abbrev may_ask : Ask → Known → Bool
may_ask plain k = true
may_ask has_value k = true
may_ask opens_bracket k = true
may_ask closes_bracket k = true
may_ask is_prefix k = k.level
may_ask is_head k = true
may_ask is_else_if k = true

abbrev past_token : Ask → Known
past_token plain = knows true true true
past_token has_value = knows true true true
past_token opens_bracket = knows true true true
past_token closes_bracket = knows true true true
past_token is_prefix = knows false false true
past_token is_head = knows true true true
past_token is_else_if = knows true true true

abbrev may_enter : ℕ → Known → Bool
may_enter n k = one_of n tails || (k.level && (not (one_of n fresh) || (k.counted && k.stands)))

abbrev past_phrase : ℕ → Known → Known
past_phrase n k = let e = one_of n ends in knows k.counted e (k.counted && e)

-- each prefix is asked rightly; and none stands in a row at the end
abbrev even : Known → List Symbol → Bool
even k [] = true
even k (token g w ∷ s) = may_ask g k && even (past_token g) s
even k (phrase o n ∷ s) = may_enter n k && even (past_phrase n k) s
even k (unless w ∷ s) = even k s
even k (note j ∷ s) = even k s
even k (left_side n n₁ ∷ s) = may_enter n k && ((may_enter n₁ (past_phrase n k) && even (past_phrase n₁ (past_phrase n k)) s) && even (past_phrase n k) s)
even k (text n ∷ s) = (may_enter n (knows true true true) && even (past_phrase n (knows true true true)) s) && even (knows true true true) s

abbrev quiet : Known → List Symbol → Bool
quiet k [] = k.stands
quiet k (token g w ∷ s) = quiet (past_token g) s
quiet k (phrase o n ∷ s) = quiet (past_phrase n k) s
quiet k (unless w ∷ s) = quiet k s
quiet k (note j ∷ s) = quiet k s
quiet k (left_side n n₁ ∷ s) = quiet (past_phrase n₁ (past_phrase n k)) s && quiet (past_phrase n k) s
quiet k (text n ∷ s) = quiet (past_phrase n (knows true true true)) s && quiet (knows true true true) s

abbrev all_even : List Rule → Bool
all_even = each_passes (λ n a. even (begins n) a && (not (one_of n ends) || quiet (begins n) a))

-- what is known holds of the count and of the row
record Holds (k : Known) (c : ℕ) (d : Counts) : Type 0 where
  counted : T k.counted → d.prefixes ≡ 0
  stands : T k.stands → c ≡ 0
  level : T k.level → d.prefixes ≡ c

asked_so : (g : Ask) {k : Known} {c : ℕ} {d : Counts} → Holds k c d → T (may_ask g k) → Asked g d c
asked_so plain h t = tt
asked_so has_value h t = tt
asked_so opens_bracket h t = tt
asked_so closes_bracket h t = tt
asked_so is_prefix h t = h.level t
asked_so is_head h t = tt
asked_so is_else_if h t = tt

none_left : {c : ℕ} {d : Counts} → c ≡ 0 → d.prefixes ≡ 0 → Holds (knows true true true) c d
none_left e f = record { counted = λ t. f; stands = λ t. e; level = λ t. f ∙ sym e }

token_holds : (g : Ask) {k : Known} {c : ℕ} {d : Counts} → Holds k c d → T (may_ask g k) → Holds (past_token g) (row_after g c) (after g d)
unfolding after
token_holds plain h t = none_left refl refl
token_holds has_value h t = none_left refl refl
token_holds opens_bracket h t = none_left refl refl
token_holds closes_bracket h t = none_left refl refl
token_holds is_prefix h t = record { counted = λ f. absurd f; stands = λ f. absurd f; level = λ f. ap suc (h.level t) }
token_holds is_head h t = none_left refl refl
token_holds is_else_if h t = none_left refl refl

inside_same : (o : Scope) (d : Counts) → (inside o d).prefixes ≡ d.prefixes
unfolding inside
inside_same same d = refl
inside_same body d = refl

-- a kind is entered with what it may begin with
enter_holds : (n : ℕ) (k : Known) {c : ℕ} {d e : Counts} → e.prefixes ≡ d.prefixes → Holds k c d → T (may_enter n k) → Holds (begins n) c e
enter_holds n k {c} {d} {e} q h t = go (one_of n tails) (one_of n fresh) t
  where
    go : (a b : Bool) → T (a || (k.level && (not b || (k.counted && k.stands)))) → Holds (cond a (knows false false false) (cond b (knows true true true) (knows false false true))) c e
    go true b u = record { counted = λ f. absurd f; stands = λ f. absurd f; level = λ f. absurd f }
    go false true u = let v = and_r k.level (k.counted && k.stands) u in none_left (h.stands (and_r k.counted k.stands v)) (q ∙ h.counted (and_l k.counted k.stands v))
    go false false u = record { counted = λ f. absurd f; stands = λ f. absurd f; level = λ f. q ∙ h.level (and_l k.level true u) }

leave_holds : (n : ℕ) (k : Known) {c c' : ℕ} {d : Counts} → Holds k c d → (T (one_of n ends) → c' ≡ 0) → Holds (past_phrase n k) c' d
leave_holds n k h e = record { counted = h.counted; stands = e; level = λ t. h.counted (and_l k.counted (one_of n ends) t) ∙ sym (e (and_r k.counted (one_of n ends) t)) }

either_even : (b : Bool) (k : Known) (n : ℕ) (s : List Symbol) → T (may_enter n k && even (past_phrase n k) s) → T (even k s) → T (even k (cond b (phrase same n ∷ s) s))
either_even true k n s t u = t
either_even false k n s t u = u

either_quiet : (b : Bool) (k : Known) (n : ℕ) (s : List Symbol) → T (quiet (past_phrase n k) s && quiet k s) → T (quiet k (cond b (phrase same n ∷ s) s))
either_quiet true k n s t = and_l (quiet (past_phrase n k) s) (quiet k s) t
either_quiet false k n s t = and_r (quiet (past_phrase n k) s) (quiet k s) t

module _ {S : Stream} {l : Language} (good : T (all_even l.rules)) {G : Ask → Counts → Token → Bool} where
  rowed : (k : Known) (c : ℕ) {d : Counts} {s : List Symbol} {i r : S.Place} {p : Parts} (t : ReadingBy S l G d s i r p) → Holds k c d → T (even k s) → InARow c t × (T (quiet k s) → row_behind c t ≡ 0)
  unfolding row_behind InARow
  rowed k c reads_end h e = (tt, h.stands)
  rowed k c (reads_token {g = g} {s = s} x m w u) h e =
      let a = and_l (may_ask g k) (even (past_token g) s) e in
      let q = rowed (past_token g) (row_after g c) u (token_holds g h a) (and_r (may_ask g k) (even (past_token g) s) e) in
      ((asked_so g h a, q.0), q.1)
  rowed k c (reads_phrase {d = d} {n = n} {o = o} {a = a} {s = s} y u v) h e =
      let z = passes_at (λ m b. even (begins m) b && (not (one_of m ends) || quiet (begins m) b)) l.rules n good y in
      let q = rowed (begins n) c u (enter_holds n k (inside_same o d) h (and_l (may_enter n k) (even (past_phrase n k) s) e)) (and_l (even (begins n) a) (not (one_of n ends) || quiet (begins n) a) z) in
      let x = rowed (past_phrase n k) (row_behind c u) v (leave_holds n k h (λ f. q.1 (implied (one_of n ends) (quiet (begins n) a) (and_r (even (begins n) a) (not (one_of n ends) || quiet (begins n) a) z) f))) (and_r (may_enter n k) (even (past_phrase n k) s) e) in
      ((q.0, x.0), x.1)
  rowed k c (reads_unless m u) h e = rowed k c u h e
  rowed k c (reads_note u) h e = rowed k c u h e
  rowed k c (reads_side {n = n} {n₁ = n₁} {a = a} {s = s} {p = p} y u m v) h e =
      let b = l.is_path p in
      let k' = past_phrase n k in
      let f = and_r (may_enter n k) ((may_enter n₁ k' && even (past_phrase n₁ k') s) && even k' s) e in
      let z = passes_at (λ m b. even (begins m) b && (not (one_of m ends) || quiet (begins m) b)) l.rules n good y in
      let q = rowed (begins n) c u (enter_holds n k refl h (and_l (may_enter n k) ((may_enter n₁ k' && even (past_phrase n₁ k') s) && even k' s) e)) (and_l (even (begins n) a) (not (one_of n ends) || quiet (begins n) a) z) in
      let x = rowed k' (row_behind c u) v (leave_holds n k h (λ g. q.1 (implied (one_of n ends) (quiet (begins n) a) (and_r (even (begins n) a) (not (one_of n ends) || quiet (begins n) a) z) g))) (either_even b k' n₁ s (and_l (may_enter n₁ k' && even (past_phrase n₁ k') s) (even k' s) f) (and_r (may_enter n₁ k' && even (past_phrase n₁ k') s) (even k' s) f)) in
      ((q.0, x.0), λ t. x.1 (either_quiet b k' n₁ s t))
  rowed k c (reads_text {d = d} {n = n} {s = s} {x = w} y j u) h e =
      let k' = knows true true true in
      let b = eqb w.word l.hole in
      let x = rowed k' 0 u (token_holds has_value h tt) (either_even b k' n s (and_l (may_enter n k' && even (past_phrase n k') s) (even k' s) e) (and_r (may_enter n k' && even (past_phrase n k') s) (even k' s) e)) in
      (x.0, λ t. x.1 (either_quiet b k' n s t))

roto_even : (b : Bool) → T (all_even (roto b).rules)
unfolding roto
roto_even true = tt
roto_even false = tt

goal_even : (c : Bool) → T (even (knows true true true) (start c))
goal_even true = tt
goal_even false = tt

-- from the start of a source on, each prefix is asked with as many as stand in a row before it
pub in_a_row : (S : Stream) (tests tree : Bool) {G : Ask → Counts → Token → Bool} {i r : S.Place} {p : Parts} (t : ReadingBy S (roto tests) G zeros (start tree) i r p) → InARow 0 t
in_a_row S tests tree t = (rowed (roto_even tests) (knows true true true) 0 t (none_left refl refl) (goal_even tree)).0
