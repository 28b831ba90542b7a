-- Types and patterns: one law for each step of their readers.
use Rattle.std.specs.Prelude.{Ok, Err}
use mathlib.Core.Path.{◌≡◌, refl, sym, ap, subst, ◌∙◌}
use mathlib.Core.List.{List, [], ◌∷◌}
use mathlib.Core.Option.{Option, some}
use mathlib.Core.Logic.{◌⊎◌, inl, inr}
use Prim.Native.Nat.{ℕ, ◌+◌, ◌-◌, ◌<◌}
use lib.Dec.{T}
use lib.ListN.{length}
use native.Mathlib.Omega.{arith}
use Rattle.rows.specs.Kinds as kinds
use Rattle.tokens.specs.declared.Refusal.{Refusal}
use Rattle.rows.specs.declared.Row.{Row}
use Rattle.grammar.specs.Words.{close_paren, ':', path_items}
use Rattle.grammar.specs.Grammar.{plain, opens_bracket, Symbol, one_of}
use Rattle.grammar.specs.Limits.{Counts, after, inside, kept}
use Rattle.grammar.specs.Table.{word, a, row, part, closes, rest_kinds}
use Rattle.grammar.specs.Kinds.{RESULT, LET_TYPE, NAME, NAMES, TYPED_NAME, TYPED_NAMES, PATH, PATTERN, TYPE, TYPE_BASE, TYPE_BRACKETS, TYPE_MARKS, TYPES, VARIANT, VARIANT_NAMES}
use Rattle.grammar.proofs.Open.{Left}
use Rattle.grammar.proofs.Summary.{or_word}
use Rattle.parser.specs.declared.Here.{Here}
use Rattle.parser.specs.declared.Limits.{Limits}
use Rattle.parser.specs.declared.Node.{Node}
use Rattle.parser.specs.Results.{Read}
use Rattle.parser.specs.Places.{word_of, start_of, end_of, next_of, passed, later, unused, node_of, put_over, plain_row, expected, opening, closing}
use Rattle.parser.specs.Counted.{counts, plain as plainly}
use Rattle.parser.specs.Going.{Stands, bare, lone, many, Phrase, Going, Answers}
use Rattle.parser.proofs.Standing.{solid, lexed, lexed_solid, next_small, past_word, is_word, the_word}
use Rattle.parser.proofs.Going.{at, takes, out, last, parts, writes, reads_one, ends, done, stopped, whole_of, relays, fewer}
use Rattle.parser.proofs.Picks.{On, Off, begins_on, begins_any, into_on, into_off}
use Rattle.parser.proofs.Steps.{alike_counts, expects, misses, opens_on, opens_off, closes_on}
use Rattle.promises.specs.Firsts.{closing_of, part_of}
use Rattle.promises.specs.Promises.{the, Anyhow, Partly, item_row, wrote, Listed, TypeSign, Typing}
use Rattle.promises.proofs.Alternatives.{type_any, type_marks_on, type_marks_off, type_base_never_on, type_base_unit_on, type_base_record_on, type_base_path_on, type_base_off, type_brackets_on, type_brackets_off, typed_name_any, result_on, result_off, let_type_on, let_type_off, pattern_variant_on, pattern_underscore_on, pattern_off, variant_any, variant_names_on, variant_names_off}
use Rattle.promises.proofs.Partly.{partly_of, partly, stops_answer, relays_partly}
use Rattle.promises.proofs.Answered.{of_text, behind_plain, none_fits, done_is, not_first, put_behind, put_since, finished, finished_in, word_row}

-- `!`
pub never_read : {s : List ℕ} {h h' : Here} {t t' : List ℕ} {q : Row} {r : Read} → Stands s h → word_of h ≡ 52 → h' ≡ passed s h → q ≡ plain_row kinds.NEVER (start_of h) (end_of h) 0 → r ≡ Ok (node_of q, later h') → t' ≡ put_over t h' q h.rows → Anyhow s TYPE_BASE h t 1 r t'
never_read g m p e u w d = word_row (begins_on type_base_never_on g (is_word m)) tt refl refl (omega arith) m p e u w

-- `( )`
module _ (l : Limits) {s : List ℕ} {h : Here} {t : List ℕ} {r : Read} (g : Stands s h) (m : word_of h ≡ 42) (u : r ≡ opening s h 42 l.brackets) where
  pub unit_unopened : {e : Refusal} → r ≡ Err e → Answers (the s (counts l) TYPE_BASE h t) 1 r t
  unit_unopened q = stopped q (opens_off 42 l (begins_on type_base_unit_on g (is_word m)) tt (alike_counts l) u q)

  pub unit_opened : {x : Node} {z : Here} → r ≡ Ok (x, z) → Going (the s (counts l) TYPE_BASE h t) (at (after opens_bracket (counts l)) (closes close_paren ∷ row kinds.UNIT ∷ []) ∷ []) z t (many x.start x.end 0 (some 42)) 0 4
  unit_opened q = opens_on 42 l (begins_on type_base_unit_on g (is_word m)) tt (alike_counts l) u q

  module _ {x : Node} {z : Here} (q : r ≡ Ok (x, z)) {r₁ : Read} (v : r₁ ≡ expected s z 43) where
    pub unit_unclosed : {e : Refusal} → r₁ ≡ Err e → Answers (the s (counts l) TYPE_BASE h t) 1 r₁ t
    unit_unclosed p = stopped p (misses 43 (unit_opened q) tt v p)

    pub unit_read : {x₁ : Node} {z₁ : Here} {b : Row} {r₂ : Read} {t' : List ℕ} → r₁ ≡ Ok (x₁, z₁) → b ≡ plain_row kinds.UNIT x.start x₁.end 0 → r₂ ≡ Ok (node_of b, later z₁) → t' ≡ put_over t z₁ b h.rows → Answers (the s (counts l) TYPE_BASE h t) 1 r₂ t'
    unit_read p e w k = finished (closes_on 43 (unit_opened q) tt v p) (omega arith) refl refl e w k

-- `{ list of name : type }`
module _ {s : List ℕ} {l : Limits} {h : Here} {t : List ℕ} {r : Read} {t₁ : List ℕ} (g : Stands s h) (m : word_of h ≡ 40) (u : Listed s h t l 40 TYPED_NAMES 41 r t₁) where
  fields_partly : Partly (the s (counts l) TYPE_BASE h t) r t₁ (λ x z. Going (the s (counts l) TYPE_BASE h t) (at (after plain (counts l)) (row kinds.RECORD_TYPE ∷ []) ∷ []) z t₁ (many x.start x.end x.children (some 40)) 0 4)
  fields_partly = u (the s (counts l) TYPE_BASE h t) (counts l) (row kinds.RECORD_TYPE ∷ []) [] bare 0 0 refl (alike_counts l) (begins_on type_base_record_on g (is_word m))

  pub fields_refused : {e : Refusal} → r ≡ Err e → Answers (the s (counts l) TYPE_BASE h t) 1 r t₁
  fields_refused q = stops_answer fields_partly q

  pub fields_read : {x : Node} {z : Here} {b : Row} {r₁ : Read} {t₂ : List ℕ} → r ≡ Ok (x, z) → b ≡ plain_row kinds.RECORD_TYPE x.start x.end x.children → r₁ ≡ Ok (node_of b, later z) → t₂ ≡ put_over t₁ z b h.rows → Answers (the s (counts l) TYPE_BASE h t) 1 r₁ t₂
  fields_read q e w k = finished (partly_of fields_partly q) (omega arith) refl refl e w k

-- a path with perhaps `[ list of types ]`
module _ (l : Limits) {s : List ℕ} {h : Here} {t : List ℕ} {r : Read} {t₁ : List ℕ} (g : Stands s h) (m : T (one_of (word_of h) path_items)) (u : Anyhow s PATH h t 2 r t₁) where
  pub base_refused : {e : Refusal} → r ≡ Err e → Answers (the s (counts l) TYPE_BASE h t) 1 r t₁
  unfolding inside
  base_refused q = relays (begins_on type_base_path_on g m) refl (u (counts l)) q

  module _ {x : Node} {z : Here} (q : r ≡ Ok (x, z)) where
    pub base_read : Going (the s (counts l) TYPE_BASE h t) (at (counts l) (a TYPE_BRACKETS ∷ []) ∷ []) z t₁ (lone x.kind x.start x.end) 0 2
    unfolding inside
    base_read = reads_one (begins_on type_base_path_on g m) refl refl (whole_of (u (counts l)) q)

    pub base_alone : {b : Row} {r₁ : Read} {t₂ : List ℕ} → (word_of z ≡ 44 → ⊥) → b ≡ plain_row kinds.PATH_TYPE x.start x.end 1 → r₁ ≡ Ok (node_of b, later z) → t₂ ≡ put_over t₁ z b h.rows → Answers (the s (counts l) TYPE_BASE h t) 1 r₁ t₂
    base_alone n e w k = finished_in (into_off type_brackets_off refl (λ o. n (the_word o)) base_read) (omega arith) refl refl e w k

    module _ {r₁ : Read} {t₂ : List ℕ} (o : word_of z ≡ 44) (v : Listed s z t₁ l 44 TYPES 45 r₁ t₂) where
      bracketed : Partly (the s (counts l) TYPE_BASE h t) r₁ t₂ (λ y i. Going (the s (counts l) TYPE_BASE h t) (at (after plain (counts l)) (part ∷ row kinds.PATH_TYPE ∷ []) ∷ at (counts l) [] ∷ []) i t₂ (many x.start y.end (y.children + 1) (some 44)) 0 6)
      unfolding inside
      bracketed = v (the s (counts l) TYPE_BASE h t) (counts l) (part ∷ row kinds.PATH_TYPE ∷ []) (at (counts l) [] ∷ []) (lone x.kind x.start x.end) 0 2 refl (alike_counts l) (into_on type_brackets_on refl (is_word o) base_read)

      pub brackets_refused : {e : Refusal} → r₁ ≡ Err e → Answers (the s (counts l) TYPE_BASE h t) 1 r₁ t₂
      brackets_refused p = stops_answer bracketed p

      pub brackets_read : {y : Node} {i : Here} → r₁ ≡ Ok (y, i) → Going (the s (counts l) TYPE_BASE h t) (at (after plain (counts l)) (row kinds.PATH_TYPE ∷ []) ∷ at (counts l) [] ∷ []) i t₂ (many x.start y.end (y.children + 1) (some 44)) 1 6
      brackets_read p = parts (partly_of bracketed p)

      pub brackets_ended : {y : Node} {i : Here} {b : Row} {r₂ : Read} {t₃ : List ℕ} → r₁ ≡ Ok (y, i) → b ≡ record { kind = kinds.PATH_TYPE; start = x.start; end = y.end; children = y.children + 1; value = 1; detail = 0 } → r₂ ≡ Ok (node_of b, later i) → t₃ ≡ put_over t₂ i b h.rows → Answers (the s (counts l) TYPE_BASE h t) 1 r₂ t₃
      brackets_ended p e w k = finished_in (brackets_read p) (omega arith) refl refl e w k

-- no type begins there
pub no_type : {s : List ℕ} {d : Counts} {h : Here} {t : List ℕ} {r : Read} → Stands s h → (word_of h ≡ 52 → ⊥) → (word_of h ≡ 42 → ⊥) → (word_of h ≡ 40 → ⊥) → (T (one_of (word_of h) path_items) → ⊥) → r ≡ unused h → Answers (the s d TYPE_BASE h t) 1 r t
no_type {h = h} g i j k l e = none_fits type_base_off g (not_first (word_of h) 52 (42 ∷ 40 ∷ path_items) i (not_first (word_of h) 42 (40 ∷ path_items) j (not_first (word_of h) 40 path_items k l))) e

-- a type so far: its base, and the `?` behind it
pub record Marked (f : Phrase) (m : Node) (h : Here) (t : List ℕ) : Type 0 where
  pub counts : Counts
  pub going : Going f (at counts (a TYPE_MARKS ∷ []) ∷ []) h t (lone m.kind m.start m.end) 0 1

abbrev pub Marks : List ℕ → ℕ → Node → Here → List ℕ → Node → Here → List ℕ → Type 0
Marks s since m₀ h₀ t₀ m h t = (f : Phrase) → f.text ≡ s → f.from.rows ≡ since → Marked f m₀ h₀ t₀ → Marked f m h t

module _ {s : List ℕ} {d : Counts} {h : Here} {t : List ℕ} {r : Read} {t₁ : List ℕ} (g : Stands s h) (u : Answers (the s d TYPE_BASE h t) 1 r t₁) where
  pub type_begins : {m : Node} {z : Here} → r ≡ Ok (m, z) → Marked (the s d TYPE h t) m z t₁
  unfolding inside
  type_begins q = record { counts = d; going = reads_one (begins_any type_any g) refl refl (whole_of u q) }

  pub type_refused : {e : Refusal} → r ≡ Err e → Answers (the s d TYPE h t) 1 r t₁
  unfolding inside
  type_refused q = relays (begins_any type_any g) refl u q

pub type_marks : {f : Phrase} {since : ℕ} {m m' : Node} {h h' : Here} {s t t' : List ℕ} {r : Read} → f.text ≡ s → f.from.rows ≡ since → Marked f m h t → word_of h ≡ 51 → r ≡ wrote s h (plain_row kinds.OPTION m.start (end_of h) 1) → t' ≡ put_over t h (plain_row kinds.OPTION m.start (end_of h) 1) since → r ≡ Ok (m', h') → Marked f m' h' t'
unfolding inside kept
type_marks {f} {since} {m} {m'} {h} {h'} {s} {t} {t'} i n g o u p q =
    let b : Row = plain_row kinds.OPTION m.start (end_of h) 1 in
    let e = done_is (u ∙ ap (λ (x : List ℕ). wrote x h b) (sym i)) q in
    let c : Counts = after plain g.counts in
    record {
      counts = c;
      going = subst (λ (x : Node). Going f (at c (a TYPE_MARKS ∷ []) ∷ []) h' t' (lone x.kind x.start x.end) 0 1) e.0 (subst (λ (x : Here). Going f (at c (a TYPE_MARKS ∷ []) ∷ []) x t' (lone 5 m.start (end_of h)) 0 1) e.1 (fewer {k = 4} 1 (omega arith) (last (writes (takes (into_on type_marks_on refl (is_word o) g.going) tt (is_word o) tt refl) refl refl refl refl (put_behind f.text h t b f.from.rows (put_since _ h _ n p))))));
    }

pub type_ends : {f : Phrase} {m : Node} {h : Here} {t : List ℕ} {r : Read} → Marked f m h t → (word_of h ≡ 51 → ⊥) → r ≡ Ok (m, h) → Answers f 1 r t
unfolding inside
type_ends g o e = done e (ends (out (out (into_off type_marks_off refl (λ m. o (the_word m)) g.going))) refl refl refl)

pub mark_falls : {f : Phrase} {m m' : Node} {h h' : Here} {t : List ℕ} {r : Read} → Marked f m h t → word_of h ≡ 51 → r ≡ wrote f.text h (plain_row kinds.OPTION m.start (end_of h) 1) → r ≡ Ok (m', h') → length f.text + 1 - next_of h' < length f.text + 1 - next_of h
mark_falls {f} g o u q =
    let k = past_word (51 ∷ []) g.going.stands tt (is_word o) refl in
    let n = next_small k.0 in
    let l = k.1 in
    let e = ap (λ (x : Here). next_of x) (done_is u q).1 in
    omega (arith, n, l, e)

-- `name : type`
module _ (l : Limits) {s : List ℕ} {h : Here} {t : List ℕ} {r : Read} {t₁ : List ℕ} (g : Stands s h) (u : Anyhow s NAME h t 3 r t₁) where
  pub name_refused : {e : Refusal} → r ≡ Err e → Answers (the s (counts l) TYPED_NAME h t) 1 r t₁
  unfolding inside
  name_refused q = relays (begins_any typed_name_any g) refl (u (counts l)) q

  module _ {x : Node} {z : Here} (q : r ≡ Ok (x, z)) {r₁ : Read} (v : r₁ ≡ expected s z 46) where
    name_read : Going (the s (counts l) TYPED_NAME h t) (at (counts l) (word ':' ∷ a TYPE ∷ row kinds.TYPED_NAME ∷ []) ∷ []) z t₁ (lone x.kind x.start x.end) 0 3
    unfolding inside
    name_read = reads_one (begins_any typed_name_any g) refl refl (whole_of (u (counts l)) q)

    pub colon_missed : {e : Refusal} → r₁ ≡ Err e → Answers (the s (counts l) TYPED_NAME h t) 1 r₁ t₁
    colon_missed p = stopped p (misses 46 name_read tt v p)

    module _ {y : Node} {i : Here} (p : r₁ ≡ Ok (y, i)) where
      pub colon_read : Going (the s (counts l) TYPED_NAME h t) (at (after plain (counts l)) (a TYPE ∷ row kinds.TYPED_NAME ∷ []) ∷ []) i t₁ (many x.start y.end 1 (some 46)) 0 7
      colon_read = expects 46 name_read tt v p

      module _ {l' : Limits} {r₂ : Read} {t₂ : List ℕ} (e : l' ≡ plainly l) (w : Answers (the s (counts l') TYPE i t₁) 1 r₂ t₂) where
        pub typed_refused : {o : Refusal} → r₂ ≡ Err o → Answers (the s (counts l) TYPED_NAME h t) 1 r₂ t₂
        unfolding inside
        typed_refused o = relays colon_read refl (behind_plain l e w) o

        pub typed_read : {x₁ : Node} {z₁ : Here} {b : Row} {r₃ : Read} {t₃ : List ℕ} → r₂ ≡ Ok (x₁, z₁) → b ≡ plain_row kinds.TYPED_NAME x.start x₁.end 2 → r₃ ≡ Ok (node_of b, later z₁) → t₃ ≡ put_over t₂ z₁ b h.rows → Answers (the s (counts l) TYPED_NAME h t) 1 r₃ t₃
        unfolding inside
        typed_read o b k j = finished (reads_one colon_read refl refl (whole_of (behind_plain l e w) o)) (omega arith) refl refl b k j

-- perhaps a sign and a type: what is computed of either sign
module _ {n sign : ℕ} (u : TypeSign n sign) where
  signs : (P : ℕ → ℕ → Type 0) → P RESULT 27 → P LET_TYPE 46 → P n sign
  signs P x y = elim u [
    | inl q ↦ subst (λ (i : ℕ). P i sign) (sym q.0) (subst (λ (i : ℕ). P RESULT i) (sym q.1) x)
    | inr q ↦ subst (λ (i : ℕ). P i sign) (sym q.0) (subst (λ (i : ℕ). P LET_TYPE i) (sym q.1) y)
  ]

  sign_on : On n (some (word sign ∷ a TYPE ∷ part ∷ [])) (sign ∷ [])
  sign_on = signs (λ i j. On i (some (word j ∷ a TYPE ∷ part ∷ [])) (j ∷ [])) result_on let_type_on

  sign_off : Off n (some []) (sign ∷ [])
  sign_off = signs (λ i j. Off i (some []) (j ∷ [])) result_off let_type_off

  sign_rest : one_of n rest_kinds ≡ mathlib.Core.Bool.true
  sign_rest = signs (λ i j. one_of i rest_kinds ≡ mathlib.Core.Bool.true) refl refl

pub sign_lexed : {sign : ℕ} → (sign ≡ 27) ⊎ (sign ≡ 46) → T (lexed (sign ∷ []))
sign_lexed u = elim u [ inl e ↦ subst (λ (i : ℕ). T (lexed (i ∷ []))) (sym e) tt | inr e ↦ subst (λ (i : ℕ). T (lexed (i ∷ []))) (sym e) tt ]

pub sign_solid : {sign : ℕ} → (sign ≡ 27) ⊎ (sign ≡ 46) → T (solid (sign ∷ []))
sign_solid {sign} u = lexed_solid (sign ∷ []) (sign_lexed u)

module _ {s : List ℕ} {h : Here} {t : List ℕ} {sign : ℕ} where
  pub type_absent : (l : Limits) {r : Read} → (word_of h ≡ sign → ⊥) → r ≡ Ok (part_of 0, h) → Typing s h t l sign r t
  unfolding inside
  type_absent l o e = λ f d ss ks n x b c k w i q u g. partly e (record { end = b; sign = w; one = omega arith; going = subst (λ (y : ℕ). Going f (at d ss ∷ ks) h t (many x b y w) 0 k) (omega arith) (out (into_off (sign_off u) (sign_rest u) (λ m. o (the_word m)) g)) })

  module _ {z : Here} (v : (sign ≡ 27) ⊎ (sign ≡ 46)) (m : word_of h ≡ sign) (p : z ≡ passed s h) where
    signed : (f : Phrase) (d : Counts) (ss : List Symbol) (ks : List Left) (n x e c k : ℕ) (w : Option ℕ) → f.text ≡ s → TypeSign n sign → Going f (at d (a n ∷ ss) ∷ ks) h t (many x e c w) 0 k → Going f (at (after plain d) (a TYPE ∷ part ∷ []) ∷ at d ss ∷ ks) z t (many x (end_of h) c (or_word w (word_of h))) 0 (k + 4)
    unfolding inside kept
    signed f d ss ks n x e c k w i u g = takes (into_on (sign_on u) (sign_rest u) (is_word m) g) (sign_solid v) (is_word m) tt (p ∙ ap (λ (y : List ℕ). passed y h) (sym i))

    module _ (l : Limits) {l' : Limits} {r : Read} {t' : List ℕ} (j : l' ≡ plainly l) (a' : Answers (the s (counts l') TYPE z t) 1 r t') where
      pub type_fails : {e : Refusal} → r ≡ Err e → Typing s h t l sign r t'
      unfolding inside
      type_fails q = λ f d ss ks n x e c k w i y u g. relays_partly (signed f d ss ks n x e c k w i u g) refl (of_text f i (ap (after plain) y) (behind_plain l j a')) q

      pub type_present : {b : Node} {z' : Here} {r' : Read} → r ≡ Ok (b, z') → r' ≡ Ok (part_of 1, z') → Typing s h t l sign r' t'
      unfolding inside
      type_present {b} q e' = λ f d ss ks n x e c k w i y u g. partly e' (record { end = b.end; sign = or_word w (word_of h); one = omega arith; going = fewer k (omega arith) (out (parts (reads_one (signed f d ss ks n x e c k w i u g) refl refl (whole_of (of_text f i (ap (after plain) y) (behind_plain l j a')) q)))) })

-- `_`
pub any_read : {s : List ℕ} {h h' : Here} {t t' : List ℕ} {q : Row} {r : Read} → Stands s h → word_of h ≡ 14 → h' ≡ passed s h → q ≡ plain_row kinds.ANY (start_of h) (end_of h) 0 → r ≡ Ok (node_of q, later h') → t' ≡ put_over t h' q h.rows → Anyhow s PATTERN h t 1 r t'
any_read g m p e u w d = word_row (begins_on pattern_underscore_on g (is_word m)) tt refl refl (omega arith) m p e u w

-- a name with perhaps `( list of names )`
pub no_pattern : {s : List ℕ} {d : Counts} {h : Here} {t : List ℕ} {r : Read} → Stands s h → (word_of h ≡ 14 → ⊥) → (word_of h ≡ 13 → ⊥) → r ≡ unused h → Answers (the s d PATTERN h t) 1 r t
no_pattern {h = h} g i j e = none_fits pattern_off g (not_first (word_of h) 13 (14 ∷ []) j (not_first (word_of h) 14 [] i (λ x. x))) e

module _ (l : Limits) {s : List ℕ} {h : Here} {t : List ℕ} {r : Read} {t₁ : List ℕ} (g : Stands s h) (m : word_of h ≡ 13) (u : r ≡ wrote s h (item_row h)) (p : t₁ ≡ put_over t h (item_row h) h.rows) where
  variant : Answers (the s (counts l) VARIANT h t) 3 r t₁
  variant = word_row (begins_any variant_any g) tt refl refl (omega arith) m refl refl u (put_behind s h t (item_row h) h.rows p)

  module _ {x : Node} {z : Here} (q : r ≡ Ok (x, z)) where
    pub variant_read : Going (the s (counts l) PATTERN h t) (at (counts l) (a VARIANT_NAMES ∷ []) ∷ []) z t₁ (lone x.kind x.start x.end) 0 3
    unfolding inside
    variant_read = reads_one (begins_on pattern_variant_on g (is_word m)) refl refl (whole_of variant q)

    pub variant_alone : {b : Row} {r₁ : Read} {t₂ : List ℕ} → (word_of z ≡ 42 → ⊥) → b ≡ plain_row kinds.VARIANT x.start x.end 1 → r₁ ≡ Ok (node_of b, later z) → t₂ ≡ put_over t₁ z b h.rows → Answers (the s (counts l) PATTERN h t) 1 r₁ t₂
    variant_alone n e w k = finished_in (into_off variant_names_off refl (λ o. n (the_word o)) variant_read) (omega arith) refl refl e w k

    module _ {r₁ : Read} {t₂ : List ℕ} (o : word_of z ≡ 42) (v : Listed s z t₁ l 42 NAMES 43 r₁ t₂) where
      named : Partly (the s (counts l) PATTERN h t) r₁ t₂ (λ y i. Going (the s (counts l) PATTERN h t) (at (after plain (counts l)) (part ∷ row kinds.VARIANT ∷ []) ∷ at (counts l) [] ∷ []) i t₂ (many x.start y.end (y.children + 1) (some 42)) 0 7)
      unfolding inside
      named = v (the s (counts l) PATTERN h t) (counts l) (part ∷ row kinds.VARIANT ∷ []) (at (counts l) [] ∷ []) (lone x.kind x.start x.end) 0 3 refl (alike_counts l) (into_on variant_names_on refl (is_word o) variant_read)

      pub names_refused : {e : Refusal} → r₁ ≡ Err e → Answers (the s (counts l) PATTERN h t) 1 r₁ t₂
      names_refused p = stops_answer named p

      pub names_read : {y : Node} {i : Here} → r₁ ≡ Ok (y, i) → Going (the s (counts l) PATTERN h t) (at (after plain (counts l)) (row kinds.VARIANT ∷ []) ∷ at (counts l) [] ∷ []) i t₂ (many x.start y.end (y.children + 1) (some 42)) 1 7
      names_read p = parts (partly_of named p)

      pub names_ended : {y : Node} {i : Here} {b : Row} {r₂ : Read} {t₃ : List ℕ} → r₁ ≡ Ok (y, i) → b ≡ record { kind = kinds.VARIANT; start = x.start; end = y.end; children = y.children + 1; value = 1; detail = 0 } → r₂ ≡ Ok (node_of b, later i) → t₃ ≡ put_over t₂ i b h.rows → Answers (the s (counts l) PATTERN h t) 1 r₂ t₃
      names_ended p e w k = finished_in (names_read p) (omega arith) refl refl e w k

-- a bracket of typed names
pub bracket_lexed : {o : ℕ} → (o ≡ 42) ⊎ (o ≡ 40) → T (lexed (o ∷ []))
bracket_lexed u = elim u [ inl e ↦ subst (λ (i : ℕ). T (lexed (i ∷ []))) (sym e) tt | inr e ↦ subst (λ (i : ℕ). T (lexed (i ∷ []))) (sym e) tt ]

pub bracket_solid : {o : ℕ} → (o ≡ 42) ⊎ (o ≡ 40) → T (solid (o ∷ []))
bracket_solid {o} u = lexed_solid (o ∷ []) (bracket_lexed u)

pub closing_lexed : {o : ℕ} → (o ≡ 42) ⊎ (o ≡ 40) → T (lexed (closing_of o ∷ []))
closing_lexed u = elim u [ inl e ↦ subst (λ (i : ℕ). T (lexed (closing_of i ∷ []))) (sym e) tt | inr e ↦ subst (λ (i : ℕ). T (lexed (closing_of i ∷ []))) (sym e) tt ]

pub closed_by : (s : List ℕ) (h : Here) (b n : ℕ) {o c : ℕ} {r : Read} → c ≡ o → r ≡ closing s h c b n → r ≡ closing s h o b n
closed_by s h b n e u = u ∙ ap (λ (x : ℕ). closing s h x b n) e
