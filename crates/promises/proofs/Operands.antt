-- Operands: an atom and what follows it. One law for each way that a reader of one of them ends.
use Rattle.std.specs.Prelude.{Ok, Err}
use mathlib.Core.Path.{◌≡◌, refl, sym, ap, subst, ◌∙◌}
use mathlib.Core.List.{List, [], ◌∷◌, ◌++◌}
use mathlib.Core.Bool.{Bool, true, false}
use mathlib.Core.Option.{Option, some}
use mathlib.Core.Logic.{◌⊎◌, inl, inr, ◌≢◌}
use Prim.Native.Nat.{ℕ, zero, suc, ◌+◌, ◌≤◌, ◌<◌}
use lib.Dec.{T, eqb, eqb→eq, eqb_refl}
use lib.ListN.{length}
use native.Mathlib.Omega.{arith}
use Rattle.rows.specs.Kinds as kinds
use Rattle.tokens.specs.declared.Refusal.{Refusal}
use Rattle.rows.specs.declared.Row.{Row}
use Rattle.grammar.specs.Words.{names, path_items, literals, four_words, close_brace, open_brace, comma}
use Rattle.grammar.specs.Grammar.{plain, same, opens_bracket, closes_bracket, Symbol, one_of}
use Rattle.grammar.specs.Limits.{Counts, zeros, after, inside, kept}
use Rattle.grammar.specs.Table.{a, word, row, part, opens, closes, rest_kinds}
use Rattle.grammar.specs.Kinds.{EXPR, EXPRS, OPERAND, POSTFIX, AFTER_PATH, NAME, PATH, PARENS, BRACES, BRACES_INSIDE, BLOCK, FIELD, FIELD_NAME, FIELDS, FIELDS_MORE, STATEMENTS}
use Rattle.grammar.specs.Refusals.{Why, said}
use Rattle.grammar.specs.Refusals as refusals
use Rattle.grammar.specs.Readings.{reads_end, reads_phrase}
use Rattle.grammar.proofs.Bools.{or_r}
use Rattle.grammar.proofs.Open.{Left}
use Rattle.grammar.proofs.Summary.{or_word}
use Rattle.grammar.proofs.Refused.{not_both, one_stop}
use Rattle.answers.specs.Source.{source}
use Rattle.parser.specs.declared.Here.{Here}
use Rattle.parser.specs.declared.Limits.{Limits}
use Rattle.parser.specs.declared.Node.{Node}
use Rattle.parser.specs.Results.{Read}
use Rattle.parser.specs.Places.{word_of, end_of, next_of, passed, later, unused_at, unused, node_of, put_over, plain_row, expected, opening, closing}
use Rattle.parser.specs.Counted.{counts, opened}
use Rattle.parser.specs.Counted as counted
use Rattle.parser.specs.Going.{language, Stands, lone, many, Phrase, Going, Whole, Stopped, Either, Answers}
use Rattle.parser.proofs.Standing.{next_small, solid, past_word, is_word, the_word}
use Rattle.parser.proofs.Going.{at, takes, into, out, last, alone, parts, writes, reads_one, ends, refuses_in, refuses_word, whole_of, stopped_of, done, stopped, relays, fewer, few_rows}
use Rattle.parser.proofs.Picks.{On, begins_on, begins_any, into_on, into_off, refuses_off}
use Rattle.parser.proofs.Steps.{opening_done, expected_done, expected_refused, closing_done, counts_plain, counts_same, counts_opened, alike_counts, alike_plain, expects, misses, opens_on, opens_off}
use Rattle.parser.proofs.Sides.{encloses, encloses_word, encloses_out, encloses_misses, encloses_ends}
use Rattle.promises.specs.Firsts.{statement_firsts, operand_firsts, postfix_signs, undotted, onward, few}
use Rattle.promises.specs.Promises.{the, Anyhow, PartlyIs, Partly, wrote, Closed, Listed, Postfixed, Atom, Behind, AnyBehind, fields_tail, Fielded, Stated}
use Rattle.promises.proofs.Alternatives.{within, of_two, but_for, inside_firsts, statements_off, block_any, operand_path_on, operand_off, operand_braces_on, operand_block_on, postfix_question, postfix_question_on, postfix_call, postfix_call_on, postfix_access, postfix_access_on, postfix_off, after_path_question_on, after_path_call_on, after_path_record_on, after_path_off_records, after_path_off_none, rest_postfix, rest_after_path, parens_any, braces_any, braces_inside_on, braces_inside_off, braces_inside_fields, braces_inside_statements, braces_inside_field, braces_inside_other, field_any}
use Rattle.promises.proofs.Answered.{none_fits, of_text, partly_as, put_behind, put_since}
use Rattle.promises.proofs.Blocks.{leaves_row}
use Rattle.promises.proofs.Imports.{whole_fewer}
use Rattle.promises.proofs.Lists.{Lists, fields_list, Listing, Loops, reads_item, item_stops, no_item, no_comma}
use Rattle.promises.proofs.Partly.{partly_of, partly, partly_stops, stops_partly, relays_partly}

-- No place is far from a source.
pub place_near : {s : List ℕ} {h : Here} → Stands s h → next_of h ≤ 65536
place_near g = let a = next_small g in let b = g.short in omega (arith, a, b)

-- Atoms that are a phrase alone; no atom.
module _ (s : List ℕ) (l : Limits) (b : Bool) (h : Here) (t : List ℕ) (g : Stands s h) where
  abbrev Operand : Phrase
  Operand = the s (counts l) (OPERAND b) h t

  pub atom_read : {n : ℕ} {w : List ℕ} {r : Read} {t' : List ℕ} → On (OPERAND b) (some (a n ∷ a (POSTFIX b) ∷ [])) w → one_of n rest_kinds ≡ false → T (one_of (word_of h) w) → Answers (the s (counts l) n h t) 1 r t' → Atom s h t l b r t'
  unfolding inside
  atom_read {n} {w} {r} {t'} p q o u = record { is = go r u.is }
    where
      go : (r : Read) → Either (the s (counts l) n h t) 1 r t' → PartlyIs Operand r t' (λ m h'. Postfixed Operand l b m h' t')
      go (Ok (m, z)) x = record { at_counts = counts l; alike = alike_counts l; going = inl (reads_one (begins_on p g o) q refl x) }
      go (Err e) x = refuses_in (begins_on p g o) refl x

  pub atom_unused : {r : Read} → word_of h ≢ 52 → word_of h ≢ 53 → word_of h ≢ 42 → word_of h ≢ 40 → word_of h ≢ 90 → (T (one_of (word_of h) literals) → ⊥) → (T (one_of (word_of h) path_items) → ⊥) → (T (one_of (word_of h) four_words) → ⊥) → r ≡ unused h → Atom s h t l b r t
  atom_unused bang minus paren brace quote lit path four e = partly_stops e (stopped_of (none_fits {j = 1} (operand_off b) g none_of_them e) e)
    where
      x : ℕ
      x = word_of h

      none_of_them : T (one_of x operand_firsts) → ⊥
      none_of_them m = elim (of_two x (52 ∷ []) (53 ∷ 42 ∷ 40 ∷ 90 ∷ (literals ++ (path_items ++ four_words))) m) [
        | inl k ↦ bang (the_word k)
        | inr m₁ ↦ elim (of_two x (53 ∷ []) (42 ∷ 40 ∷ 90 ∷ (literals ++ (path_items ++ four_words))) m₁) [
          | inl k ↦ minus (the_word k)
          | inr m₂ ↦ elim (of_two x (42 ∷ []) (40 ∷ 90 ∷ (literals ++ (path_items ++ four_words))) m₂) [
            | inl k ↦ paren (the_word k)
            | inr m₃ ↦ elim (of_two x (40 ∷ []) (90 ∷ (literals ++ (path_items ++ four_words))) m₃) [
              | inl k ↦ brace (the_word k)
              | inr mq ↦ elim (of_two x (90 ∷ []) (literals ++ (path_items ++ four_words)) mq) [
                | inl k ↦ quote (the_word k)
                | inr m₄ ↦ elim (of_two x literals (path_items ++ four_words) m₄) [
                  | inl k ↦ lit k
                  | inr m₅ ↦ elim (of_two x path_items four_words m₅) [ inl k ↦ path k | inr k ↦ four k ]
                ]
              ]
            ]
          ]
        ]
      ]

  -- a path, perhaps with a record behind it
  module _ {r : Read} {t' : List ℕ} (o : T (one_of (word_of h) path_items)) (u : Anyhow s PATH h t 2 r t') where
    pub path_stops : {e : Refusal} → r ≡ Err e → Atom s h t l b r t'
    unfolding inside
    path_stops e = relays_partly (begins_on (operand_path_on b) g o) refl (u (counts l)) e

    module _ {m : Node} {z : Here} (e : r ≡ Ok (m, z)) where
      behind_path : Going Operand (at (counts l) (a (AFTER_PATH b) ∷ []) ∷ []) z t' (lone m.kind m.start m.end) 0 2
      unfolding inside
      behind_path = reads_one (begins_on (operand_path_on b) g o) refl refl (whole_of (u (counts l)) e)

      pub path_alone : {q : Read} → undotted r → (T b → word_of z ≢ open_brace) → q ≡ Ok (m, z) → Atom s h t l b q t'
      path_alone n k i = partly i (record { at_counts = counts l; alike = alike_counts l; going = inr (fewer 1 (omega arith) behind_path, subst undotted e n, k) })

-- A path and a record behind it, where one may stand.
module _ (s : List ℕ) (l : Limits) (h : Here) (t : List ℕ) (g : Stands s h) {r : Read} {t' : List ℕ} (o : T (one_of (word_of h) path_items)) (u : Anyhow s PATH h t 2 r t') {m : Node} {z : Here} (e : r ≡ Ok (m, z)) (w : word_of z ≡ open_brace) {q : Read} (p : q ≡ opening s z 40 l.brackets) where
  before_record : Going (Operand s l true h t g) (at (counts l) (opens open_brace ∷ a FIELDS ∷ closes close_brace ∷ part ∷ row kinds.RECORD ∷ a (POSTFIX true) ∷ []) ∷ at (counts l) [] ∷ []) z t' (lone m.kind m.start m.end) 0 2
  unfolding inside
  before_record = into_on after_path_record_on (rest_after_path true) (is_word w) (behind_path s l true h t g o u e)

  pub record_shut : {x : Refusal} → q ≡ Err x → Atom s h t l true q t'
  record_shut i = partly_stops i (opens_off 40 l before_record tt (alike_counts l) p i)

  module _ {x : Node} {y : Here} (i : q ≡ Ok (x, y)) where
    pub record_read : {l' : Limits} {r' : Read} {t'' : List ℕ} → l' ≡ opened l → Fielded s y t' l' m.start 1 h.rows r' t'' → Atom s h t l true r' t''
    unfolding after counts
    record_read j v = partly_as (v (Operand s l true h t g) (after opens_bracket (counts l)) (a (POSTFIX true) ∷ []) (at (counts l) [] ∷ []) x.end 6 (some 40) refl refl (counts_opened l (opening_done s z 40 l.brackets p i).1 ∙ ap counts (sym j)) (inl (opens_on 40 l before_record tt (alike_counts l) p i))) (λ n z' k. record { at_counts = after closes_bracket (after opens_bracket (counts l)); alike = record { brackets = refl; chain = refl; heads = refl }; going = inl (fewer 1 (omega arith) (last k)) })

-- `{` begins a block or a record; a block where no record may stand.
pub atom_braces : (s : List ℕ) (l : Limits) (b : Bool) (h : Here) (t : List ℕ) {r : Read} {t' : List ℕ} → Stands s h → T b → word_of h ≡ 40 → Answers (the s (counts l) BRACES h t) 1 r t' → Atom s h t l b r t'
atom_braces s l true h t g o w u = atom_read s l true h t g operand_braces_on refl (is_word w) u
atom_braces s l false h t g o w u = absurd o

pub atom_block : (s : List ℕ) (l : Limits) (b : Bool) (h : Here) (t : List ℕ) {r : Read} {t' : List ℕ} → Stands s h → (T b → ⊥) → word_of h ≡ 40 → Answers (the s (counts l) BLOCK h t) 1 r t' → Atom s h t l b r t'
atom_block s l true h t g o w u = absurd (o tt)
atom_block s l false h t g o w u = atom_read s l false h t g operand_block_on refl (is_word w) u

pub where_records : (s : List ℕ) (l : Limits) (b : Bool) (h : Here) (t : List ℕ) {r : Read} {t' : List ℕ} → T b → Atom s h t l true r t' → Atom s h t l b r t'
where_records s l true h t o u = u
where_records s l false h t o u = absurd o

-- Behind an operand: `?`, a list of exprs, `.` and a name; nothing more.
module _ {f : Phrase} {l : Limits} {b : Bool} {m : Node} {h : Here} {t : List ℕ} (u : Postfixed f l b m h t) where
  before_question : word_of h ≡ 51 → Going f (at u.at_counts (postfix_question b) ∷ at u.at_counts [] ∷ []) h t (lone m.kind m.start m.end) 0 1
  unfolding inside
  before_question o = elim u.going [
    | inl g ↦ into_on (postfix_question_on b) (rest_postfix b) (is_word o) g
    | inr g ↦ into_on (after_path_question_on b) (rest_after_path b) (is_word o) g.0
  ]

  before_call : word_of h ≡ 42 → Going f (at u.at_counts (postfix_call b) ∷ at u.at_counts [] ∷ []) h t (lone m.kind m.start m.end) 0 1
  unfolding inside
  before_call o = elim u.going [
    | inl g ↦ into_on (postfix_call_on b) (rest_postfix b) (is_word o) g
    | inr g ↦ into_on (after_path_call_on b) (rest_after_path b) (is_word o) g.0
  ]

  before_access : word_of h ≡ 49 → Going f (at u.at_counts (postfix_access b) ∷ at u.at_counts [] ∷ []) h t (lone m.kind m.start m.end) 0 1
  unfolding inside
  before_access o = elim u.going [
    | inl g ↦ into_on (postfix_access_on b) (rest_postfix b) (is_word o) g
    | inr g ↦ absurd (g.1 o)
  ]

  -- no sign stands there
  nothing_behind : (T (one_of (word_of h) postfix_signs) → ⊥) → Going f [] h t (lone m.kind m.start m.end) 0 1
  unfolding inside
  nothing_behind o = elim u.going [
    | inl g ↦ out (out (into_off (postfix_off b) (rest_postfix b) o g))
    | inr g ↦ go b g.0 g.2
  ]
    where
      two : T (one_of (word_of h) (51 ∷ 42 ∷ [])) → ⊥
      two k = o (within (word_of h) (51 ∷ 42 ∷ []) postfix_signs tt k)

      go : (b : Bool) → Going f (at u.at_counts (a (AFTER_PATH b) ∷ []) ∷ []) h t (lone m.kind m.start m.end) 0 1 → (T b → word_of h ≢ open_brace) → Going f [] h t (lone m.kind m.start m.end) 0 1
      go true g n = out (out (into_off after_path_off_records refl (λ k. elim (of_two (word_of h) (51 ∷ 42 ∷ []) (40 ∷ []) k) [ inl q ↦ two q | inr q ↦ n tt (the_word q) ]) g))
      go false g n = out (out (into_off after_path_off_none refl two g))

module _ (s : List ℕ) (m : Node) (h : Here) (t : List ℕ) (since : ℕ) (g : Stands s h) where
  pub questioned : {r : Read} {t' : List ℕ} (l : Limits) → word_of h ≡ 51 → r ≡ wrote s h (plain_row kinds.QUESTION m.start (end_of h) 1) → t' ≡ put_over t h (plain_row kinds.QUESTION m.start (end_of h) 1) since → Behind s m h t l since r t' × onward h r
  unfolding kept
  questioned {r} {t'} l o e q = (λ f b i n u. partly e (record { at_counts = after plain u.at_counts; alike = alike_plain l u.alike; going = inl (fewer {k = 4} 1 (omega arith) (last (writes (takes (before_question u o) tt (is_word o) tt (ap (λ (x : List ℕ). passed x h) (sym i))) refl refl refl refl (put_since _ (passed s h) _ n (put_behind s h t _ since q))))) }), subst (onward h) (sym e) (past_word (51 ∷ []) g tt (is_word o) refl).1)

  module _ (l : Limits) (o : word_of h ≡ 42) {r : Read} {t' : List ℕ} (u : Listed s h t l 42 EXPRS 43 r t' × onward h r × few r) where
    call_list : (f : Phrase) (b : Bool) → f.text ≡ s → (p : Postfixed f l b m h t) → Partly f r t' (λ x z. Going f (at (after plain p.at_counts) (row kinds.CALL ∷ a (POSTFIX b) ∷ []) ∷ at p.at_counts [] ∷ []) z t' (many m.start x.end (x.children + 1) (some 42)) 0 5)
    call_list f b i p = u.0 f p.at_counts (row kinds.CALL ∷ a (POSTFIX b) ∷ []) (at p.at_counts [] ∷ []) (lone m.kind m.start m.end) 0 1 i p.alike (before_call p o)

    pub call_stops : {e : Refusal} → r ≡ Err e → Behind s m h t l since r t' × onward h r
    call_stops e = (λ f b i n p. stops_partly (call_list f b i p) e, u.1)

    module _ {x : Node} {z : Here} (e : r ≡ Ok (x, z)) where
      pub called : {q : Read} {t'' : List ℕ} {y : Row} → y ≡ plain_row kinds.CALL m.start x.end (x.children + 1) → q ≡ Ok (node_of y, later z) → t'' ≡ put_over t' z y since → Behind s m h t l since q t'' × onward h q
      called y d p = (λ f b i n v. partly d (record { at_counts = after plain v.at_counts; alike = alike_plain l v.alike; going = inl (fewer {k = 4} 1 (omega arith) (last (writes {k = 4} (partly_of (call_list f b i v) e) refl refl y refl (put_since _ z _ n p)))) }), subst (onward h) (sym d) (subst (onward h) e u.1))

  module _ (o : word_of h ≡ 49) {h' : Here} (c : h' ≡ passed s h) where
    module _ {r : Read} {t' : List ℕ} (u : Anyhow s NAME h' t 3 r t') where
      before_name : (f : Phrase) (b : Bool) (l : Limits) → f.text ≡ s → (p : Postfixed f l b m h t) → Going f (at (after plain p.at_counts) (a NAME ∷ row kinds.ACCESS ∷ a (POSTFIX b) ∷ []) ∷ at p.at_counts [] ∷ []) h' t (many m.start (end_of h) 1 (some (word_of h))) 0 5
      unfolding kept
      before_name f b l i p = takes (before_access p o) tt (is_word o) tt (c ∙ ap (λ (x : List ℕ). passed x h) (sym i))

      pub access_stops : {e : Refusal} → r ≡ Err e → AnyBehind s m h t since r t' × onward h r
      unfolding inside
      access_stops e = (λ l f b i n p. relays_partly (before_name f b l i p) refl (of_text f i refl (u (after plain p.at_counts))) e, subst (onward h) (sym e) tt)

      pub accessed : {x : Node} {z : Here} → r ≡ Ok (x, z) → {q : Read} {t'' : List ℕ} {y : Row} → y ≡ plain_row kinds.ACCESS m.start x.end 2 → q ≡ Ok (node_of y, later z) → t'' ≡ put_over t' z y since → AnyBehind s m h t since q t'' × onward h q
      unfolding inside
      accessed {x} {z} e {q} {t''} y d p = (λ l f b i n v. partly d (record { at_counts = after plain v.at_counts; alike = alike_plain l v.alike; going = inl (fewer {k = 7} 1 (omega arith) (last (writes {k = 7} (reads_one (before_name f b l i v) refl refl (whole_of (of_text f i refl (u (after plain v.at_counts))) e)) refl refl y refl (put_since _ z _ n p)))) }), subst (onward h) (sym d) beyond)
        where
          beyond : next_of h < next_of z
          beyond =
              let w = whole_of (u zeros) e in
              let a = (past_word (49 ∷ []) g tt (is_word o) c).1 in
              let b = w.counted in
              let k = w.spares in
              omega (arith, a, b, k)

pub last_sign : (x : ℕ) → T (one_of x postfix_signs) → x ≢ 51 → x ≢ 42 → x ≡ 49
last_sign x m a b = elim (of_two x (51 ∷ []) (42 ∷ 49 ∷ []) m) [
  | inl k ↦ absurd (a (the_word k))
  | inr n ↦ elim (of_two x (42 ∷ []) (49 ∷ []) n) [ inl k ↦ absurd (b (the_word k)) | inr k ↦ the_word k ]
]

-- An operand's atom was read, and signs behind it.
pub access_ends : {f : Phrase} {l : Limits} {b : Bool} {m : Node} {h : Here} {t : List ℕ} {r : Read} → Postfixed f l b m h t → (T (one_of (word_of h) postfix_signs) → ⊥) → r ≡ Ok (m, h) → Answers f 1 r t
access_ends u o e = done e (ends (nothing_behind u o) refl refl refl)

-- from where the loop began
abbrev pub Accesses : List ℕ → Limits → ℕ → Node → Here → List ℕ → Node → Here → List ℕ → Type 0
Accesses s l since m₀ h₀ t₀ m h t = (f : Phrase) (b : Bool) → f.text ≡ s → f.from.rows ≡ since → Postfixed f l b m₀ h₀ t₀ → Postfixed f l b m h t

-- where a reader stands behind an operand
pub operand_stands : {f : Phrase} {l : Limits} {b : Bool} {m : Node} {h : Here} {t : List ℕ} → Postfixed f l b m h t → Stands f.text h × (next_of f.from ≤ next_of h)
operand_stands u = elim u.going [ inl g ↦ (g.stands, (few_rows g).4) | inr g ↦ (g.0.stands, (few_rows g.0).4) ]

pub access_on : {f : Phrase} {l : Limits} {b : Bool} {m : Node} {h : Here} {t : List ℕ} {r : Read} {t' : List ℕ} {n : Node} {z : Here} → Postfixed f l b m h t → Behind f.text m h t l f.from.rows r t' × onward h r → r ≡ Ok (n, z) → (next_of h < next_of z) × (next_of z ≤ 65536)
access_on {h = h} {r} u v e = (subst (onward h) e v.1, place_near (operand_stands (partly_of (v.0 _ _ refl refl u) e)).0)

-- behind a bracket that opens
pub opening_stands : (w n : ℕ) {s : List ℕ} {h : Here} {r : Read} {x : Node} {y : Here} → T (solid (w ∷ [])) → Stands s h → r ≡ opening s h w n → r ≡ Ok (x, y) → Stands s y × (next_of h < next_of y)
opening_stands w n {s} {h} o g p i = let u = opening_done s h w n p i in let k = past_word (w ∷ []) g o (is_word u.0) u.2.here in (k.0, k.1)

-- `( expr )`
module _ (s : List ℕ) (l : Limits) (h : Here) (t : List ℕ) (g : Stands s h) {r : Read} (p : r ≡ opening s h 42 l.brackets) where
  abbrev Parens : Phrase
  Parens = the s (counts l) PARENS h t

  pub parens_shut : {x : Refusal} → r ≡ Err x → Answers Parens 1 r t
  parens_shut i = stopped i (opens_off 42 l (begins_any parens_any g) tt (alike_counts l) p i)

  module _ {x : Node} {y : Here} (i : r ≡ Ok (x, y)) where
    in_parens : Going Parens (at (after opens_bracket (counts l)) (a (EXPR true) ∷ closes 43 ∷ []) ∷ []) y t (many x.start x.end 0 (some 42)) 0 4
    in_parens = opens_on 42 l (begins_any parens_any g) tt (alike_counts l) p i

    module _ {l' : Limits} {q : Read} {t' : List ℕ} (j : l' ≡ opened l) (u : Answers (the s (counts l') (EXPR true) y t) 1 q t') where
      inner : inside same (after opens_bracket (counts l)) ≡ counts l'
      unfolding inside
      inner = counts_opened l (opening_done s h 42 l.brackets p i).1 ∙ ap counts (sym j)

      pub parens_stops : {e : Refusal} → q ≡ Err e → Answers Parens 1 q t'
      parens_stops e = relays in_parens inner u e

      module _ {m : Node} {z : Here} (e : q ≡ Ok (m, z)) {k : Read} (c : k ≡ expected s z 43) where
        pub parens_open : {e' : Refusal} → k ≡ Err e' → Answers Parens 1 k t'
        parens_open d = let w = expected_refused s z 43 tt c d in stopped d (subst (λ (x : Refusal). Stopped Parens x t') w.1 (encloses_misses (encloses in_parens refl inner (whole_of u e)) (λ m. w.0 (the_word m))))

        pub parens_read : {n : Node} {z' : Here} {r' : Read} → k ≡ Ok (n, z') → r' ≡ Ok (m, z') → Answers Parens 1 r' t'
        unfolding kept
        parens_read d v = let w = expected_done s z 43 c d in done v (whole_fewer 1 (omega arith) (encloses_ends (encloses_out (encloses_word (encloses in_parens refl inner (whole_of u e)) tt (is_word w.0) tt w.1.here))))

-- `name : expr`
module _ (s : List ℕ) (l : Limits) (h : Here) (t : List ℕ) (g : Stands s h) {r : Read} {t₁ : List ℕ} (u : Anyhow s FIELD_NAME h t 3 r t₁) where
  abbrev Field : Phrase
  Field = the s (counts l) FIELD h t

  pub field_nameless : {e : Refusal} → r ≡ Err e → Answers Field 1 r t₁
  unfolding inside
  field_nameless e = relays (begins_any field_any g) refl (u (counts l)) e

  module _ {m : Node} {y : Here} (e : r ≡ Ok (m, y)) {q : Read} (p : q ≡ expected s y 46) where
    field_named : Going Field (at (counts l) (word 46 ∷ a (EXPR true) ∷ row kinds.FIELD ∷ []) ∷ []) y t₁ (lone m.kind m.start m.end) 0 3
    unfolding inside
    field_named = reads_one (begins_any field_any g) refl refl (whole_of (u (counts l)) e)

    pub field_signless : {x : Refusal} → q ≡ Err x → Answers Field 1 q t₁
    field_signless i = stopped i (misses 46 field_named tt p i)

    module _ {x : Node} {z : Here} (i : q ≡ Ok (x, z)) where
      field_signed : Going Field (at (after plain (counts l)) (a (EXPR true) ∷ row kinds.FIELD ∷ []) ∷ []) z t₁ (many m.start x.end 1 (some 46)) 0 7
      field_signed = expects 46 field_named tt p i

      pub field_stands : Stands s z × (next_of h < next_of z)
      field_stands = (field_signed.stands, let c = field_signed.counted in let k = field_signed.spares in omega (arith, c, k))

      module _ {l' : Limits} {v : Read} {t₂ : List ℕ} (j : l' ≡ counted.plain l) (w : Answers (the s (counts l') (EXPR true) z t₁) 1 v t₂) where
        inner_field : inside same (after plain (counts l)) ≡ counts l'
        unfolding inside
        inner_field = counts_plain l ∙ ap counts (sym j)

        pub field_stops : {k : Refusal} → v ≡ Err k → Answers Field 1 v t₂
        field_stops k = relays field_signed inner_field w k

        pub field_read : {n : Node} {z' : Here} {o : Read} {t₃ : List ℕ} {ρ : Row} → v ≡ Ok (n, z') → ρ ≡ plain_row kinds.FIELD m.start n.end 2 → o ≡ Ok (node_of ρ, later z') → t₃ ≡ put_over t₂ z' ρ h.rows → Answers Field 1 o t₃
        field_read k ρ o b = done o (ends (fewer {k = 7} 1 (omega arith) (out (writes {k = 7} (reads_one field_signed refl inner_field (whole_of w k)) refl refl ρ refl b))) refl refl refl)

-- A phrase stops at one place, for one reason.
abbrev told : Refusal → refusals.Refusal
told r = record { number = r.number; start = r.start; end = r.end }

one_refusal : {f : Phrase} {e e' : Refusal} {t t' : List ℕ} → Stopped f e t → Stopped f e' t' → told e ≡ told e'
one_refusal {f} u w =
    let S = source f.text in
    let k = one_stop S language u.stops w.stops in
    sym u.says ∙ ap (λ (z : ℕ). said (length f.text) (S.look z) u.why) k.0 ∙ ap (λ (y : Why). said (length f.text) (S.look w.place) y) k.1 ∙ w.says

read_and_refused : {f : Phrase} {k : ℕ} {m : Node} {h : Here} {e : Refusal} {t t' : List ℕ} → Whole f k m h t → Stopped f e t' → ⊥
unfolding inside
read_and_refused {f} u w = not_both (source f.text) language (reads_phrase u.read.picks u.read.run reads_end) w.stops

-- A record in braces, or a block.
abbrev bracketed : Limits → Counts
bracketed l = after opens_bracket (counts l)

module _ (s : List ℕ) (l : Limits) (h : Here) (t : List ℕ) (g : Stands s h) {r : Read} (p : r ≡ opening s h 40 l.brackets) where
  abbrev Braces : Phrase
  Braces = the s (counts l) BRACES h t

  pub braces_shut : {x : Refusal} → r ≡ Err x → Answers Braces 1 r t
  braces_shut i = stopped i (opens_off 40 l (begins_any braces_any g) tt (alike_counts l) p i)

  module _ {x : Node} {y : Here} (i : r ≡ Ok (x, y)) {l' : Limits} (j : l' ≡ opened l) where
    in_braces : Going Braces (at (bracketed l) (a BRACES_INSIDE ∷ []) ∷ []) y t (many x.start x.end 0 (some 40)) 0 4
    in_braces = opens_on 40 l (begins_any braces_any g) tt (alike_counts l) p i

    inner_braces : (bracketed l) ≡ counts l'
    inner_braces = counts_opened l (opening_done s h 40 l.brackets p i).1 ∙ ap counts (sym j)

    stated : {q : Read} {t' : List ℕ} → Going Braces (at (bracketed l) braces_inside_statements ∷ at (bracketed l) [] ∷ []) y t (many x.start x.end 0 (some 40)) 0 4 → Stated s y t l' x.start q t' → Answers Braces 1 q t'
    stated k v = leaves_row _ (omega arith) (partly_as (v Braces (bracketed l) (at (bracketed l) [] ∷ []) x.end 4 (some 40) refl inner_braces k) (λ m z y. out y))

    module _ (n : T (one_of (word_of y) names)) {y' : Here} (c : y' ≡ passed s y) where
      pub braces_fields : {q : Read} {t' : List ℕ} → word_of y' ≡ 46 → Fielded s y t l' x.start 0 h.rows q t' → Answers Braces 1 q t'
      unfolding inside
      braces_fields o v = leaves_row _ (omega arith) (partly_as (v Braces (bracketed l) [] (at (bracketed l) [] ∷ []) x.end 4 (some 40) refl refl inner_braces (inr (into braces_inside_fields refl (braces_inside_field s in_braces.stands n c o) in_braces, n))) (λ m z y. out y))

      pub braces_named : {q : Read} {t' : List ℕ} → word_of y' ≢ 46 → Stated s y t l' x.start q t' → Answers Braces 1 q t'
      unfolding inside
      braces_named o v = stated (into braces_inside_statements refl (braces_inside_other s in_braces.stands n c o) in_braces) v

    -- where nothing fits, a block's reader stops for the same reason
    neither : {q : Read} {t' : List ℕ} → (T (one_of (word_of y) (41 ∷ statement_firsts)) → ⊥) → Stated s y t l' x.start q t' → Answers Braces 1 q t'
    unfolding inside
    neither {q} {t'} n v = record { is = go q (v Block (bracketed l) [] x.end 4 (some 40) refl inner_braces in_block).is }
      where
        Block : Phrase
        Block = the s (counts l) BLOCK h t

        in_block : Going Block (at (bracketed l) (a STATEMENTS ∷ closes 41 ∷ row kinds.BLOCK ∷ []) ∷ []) y t (many x.start x.end 0 (some 40)) 0 4
        in_block = opens_on 40 l (begins_any block_any g) tt (alike_counts l) p i

        block_stops : Stopped Block (unused_at y) t
        block_stops = refuses_word (out (into_off statements_off refl (λ k. n (or_r (eqb (word_of y) 41) (one_of (word_of y) statement_firsts) k)) in_block)) (λ k. n (within (word_of y) (41 ∷ []) (41 ∷ statement_firsts) tt k))

        stops : Stopped Braces (unused_at y) t
        stops = refuses_off braces_inside_off n in_braces

        go : (q : Read) → PartlyIs Block q t' (λ m z. Going Block (at (after closes_bracket (bracketed l)) [] ∷ []) z t' (lone m.kind m.start m.end) 0 4) → Either Braces 1 q t'
        go (Ok (m, z)) k = absurd (read_and_refused (ends {m = m} (out k) refl refl refl) block_stops)
        go (Err e) k = record { place = stops.place; why = stops.why; stops = stops.stops; says = stops.says ∙ one_refusal block_stops k; kept = k.kept }

    pub braces_stated : {q : Read} {t' : List ℕ} → (T (one_of (word_of y) names) → ⊥) → Stated s y t l' x.start q t' → Answers Braces 1 q t'
    unfolding inside
    braces_stated {q} {t'} n v = go (one_of (word_of y) (41 ∷ statement_firsts)) refl
      where
        go : (b : Bool) → one_of (word_of y) (41 ∷ statement_firsts) ≡ b → Answers Braces 1 q t'
        go true e = stated (into_on braces_inside_on refl (but_for (word_of y) (41 ∷ statement_firsts) names inside_firsts tt (subst T (sym e) tt) n) in_braces) v
        go false e = neither (λ k. subst T e k) v

-- A list's loop has few items.
pub loop_few : {ITEM LIST MORE : ℕ} {firsts : List ℕ} (p : Lists ITEM LIST MORE firsts) {s : List ℕ} {l : Limits} {h₀ : Here} {t₀ : List ℕ} {c₀ : ℕ} {h : Here} {t : List ℕ} {c : ℕ} → Loops p s l h₀ t₀ c₀ h t c → c₀ ≤ 1 → c + 1 < 300000
loop_few p w o = let a = w.few in let b = w.stands.few in let k = place_near w.stands in omega (arith, a, b, k, o)

-- The arguments of a call: the bracket that closes them leads on, and they are few.
pub closed_onward : (w b c : ℕ) {s : List ℕ} (i : Here) {h : Here} (r : Read) → T (solid (w ∷ [])) → Stands s h → next_of i ≤ next_of h → c < 300000 → r ≡ closing s h w b c → onward i r × few r
closed_onward w b c {s} i {h} (Ok (m, z)) o g n k e =
    let u = closing_done s h w b c e refl in
    let y = (past_word (w ∷ []) g o (is_word u.0) u.2).1 in
    let x : c ≡ m.children = ap (λ (q : Node). q.children) u.1 in
    (omega (arith, n, y), omega (arith, k, x))
closed_onward w b c i (Err x) o g n k e = (tt, tt)

pub refused_onward : (i : Here) {r : Read} {x : Refusal} → r ≡ Err x → onward i r × few r
refused_onward i e = (subst (onward i) (sym e) tt, subst few (sym e) tt)

-- The `}` of a record, and its row.
abbrev record_row : ℕ → ℕ → ℕ → ℕ → Row
record_row a e c v = record { kind = kinds.RECORD; start = a; end = e; children = c; value = v; detail = 0 }

fields_end : {f : Phrase} {since : ℕ} {d : Counts} {ss : List Symbol} {ks : List Left} {h : Here} {t : List ℕ} {b e c k : ℕ} {w : Option ℕ} {q : Row} {r : Read} {t' : List ℕ} (p : ℕ) → p ≤ 1 → Going f (at d (closes close_brace ∷ fields_tail p ss) ∷ ks) h t (many b e c w) 0 k → q ≡ record_row b (end_of h) c p → f.from.rows ≡ since → Closed f.text h t close_brace q since r t' → Partly f r t' (λ m h'. Going f (at (after closes_bracket d) ss ∷ ks) h' t' (lone m.kind m.start m.end) 0 k)
unfolding kept
fields_end {f} {since} {d} {ss} {ks} {h} {t} {b} {e} {c} {k} {w} {q} {r} {t'} p n g i o u = go (eqb (word_of h) close_brace) refl
  where
    G : Node → Here → Type 0
    G m h' = Going f (at (after closes_bracket d) ss ∷ ks) h' t' (lone m.kind m.start m.end) 0 k

    wrote_row : (p : ℕ) → p ≤ 1 → q ≡ record_row b (end_of h) c p → Going f (at (after closes_bracket d) (fields_tail p ss) ∷ ks) (passed f.text h) t (many b (end_of h) c (or_word w (word_of h))) 0 (k + 1) → t' ≡ put_over t (passed f.text h) q f.from.rows → G (node_of q) (later (passed f.text h))
    wrote_row zero n i g j = writes g refl refl i refl j
    wrote_row (suc zero) n i g j = writes (parts g) refl refl i refl j
    wrote_row (suc (suc x)) n i g j = absurd (omega (arith, n))

    closed : word_of h ≡ close_brace → Partly f r t' G
    closed m = let b = u.closed m in partly b.0 (wrote_row p n i (fewer (k + 1) (omega arith) (takes g tt (is_word m) tt refl)) (put_since _ (passed f.text h) _ o (put_behind f.text h t q since b.1)))

    missed : word_of h ≢ close_brace → Partly f r t' G
    missed m = let b = u.other m in partly_stops b.0 (subst (λ (y : List ℕ). Stopped f (unused_at h) y) (sym b.1) (refuses_word g (λ y. m (the_word y))))

    go : (b : Bool) → eqb (word_of h) close_brace ≡ b → Partly f r t' G
    go true y = closed (eqb→eq (word_of h) close_brace (subst T (sym y) tt))
    go false y = missed (λ m. subst T (ap (λ (b : ℕ). eqb (word_of h) b) m ∙ y) (eqb_refl (word_of h)))

-- The fields of a record, from where its loop began.
module _ {s : List ℕ} {l : Limits} {h₀ : Here} {t₀ : List ℕ} {p : ℕ} {h : Here} {t : List ℕ} {c : ℕ} (g : l.signs ≡ 32) (w : Loops fields_list s l h₀ t₀ p h t c) (start since : ℕ) where
  module _ (f : Phrase) (d : Counts) (ss : List Symbol) (ks : List Left) (e k : ℕ) (x : Option ℕ) (i : f.text ≡ s) (j : d ≡ counts l) (u : Going f (at d (a FIELDS ∷ closes close_brace ∷ fields_tail p ss) ∷ ks) h₀ t₀ (many start e p x) 0 k ⊎ (Going f (at d (a FIELD ∷ a FIELDS_MORE ∷ closes close_brace ∷ fields_tail p ss) ∷ ks) h₀ t₀ (many start e p x) 0 k × T (one_of (word_of h₀) names))) where
    fielding : Listing fields_list f d (closes close_brace ∷ fields_tail p ss) ks start (0 + c) x 0 k h t
    fielding = w.goes f d (closes close_brace ∷ fields_tail p ss) ks start 0 x 0 k i j (ap (after plain) j ∙ counts_same l g ∙ sym j) (subst (λ (n : ℕ). Listing fields_list f d (closes close_brace ∷ fields_tail p ss) ks start n x 0 k h₀ t₀) none_more (record { end = e; sign = x; settled = λ z. refl; going = elim u [ inl v ↦ inl (alone v) | inr v ↦ inr v ] }))
      where
        none_more : p ≡ 0 + p
        none_more = omega arith

  module _ {r : Read} {t' : List ℕ} (o : T (one_of (word_of h) names)) (v : Answers (the s (counts l) FIELD h t) 1 r t') where
    pub fields_stop : {y : Refusal} → r ≡ Err y → Fielded s h₀ t₀ l start p since r t'
    fields_stop y = λ f d ss ks e k x i a j u. partly_stops y (item_stops fields_list (fielding f d ss ks e k x i j u) o (of_text f i j v) y)

    pub fields_last : {m : Node} {z : Here} {q : Row} {r' : Read} {t'' : List ℕ} → p ≤ 1 → r ≡ Ok (m, z) → word_of z ≢ comma → q ≡ record_row start (end_of z) (c + 1) p → Closed s z t' close_brace q since r' t'' → Fielded s h₀ t₀ l start p since r' t''
    fields_last {m} {z} {q} {r'} {t''} n y b ρ a = λ f d ss ks e k x i o' j u. fields_end p n (no_comma fields_list (reads_item fields_list (fielding f d ss ks e k x i j u) o (of_text f i j v) y) b).going (ρ ∙ ap (λ (k : ℕ). record_row start (end_of z) k p) (omega arith)) o' (subst (λ (x : List ℕ). Closed x z t' close_brace q since r' t'') (sym i) a)

  pub fields_over : {q : Row} {r : Read} {t' : List ℕ} → p ≤ 1 → (T (one_of (word_of h) names) → ⊥) → q ≡ record_row start (end_of h) c p → Closed s h t close_brace q since r t' → Fielded s h₀ t₀ l start p since r t'
  fields_over {q} {r} {t'} n o ρ a = λ f d ss ks e k x i o' j u. fields_end p n (no_item fields_list (fielding f d ss ks e k x i j u) o).going (ρ ∙ ap (λ (k : ℕ). record_row start (end_of h) k p) (omega arith)) o' (subst (λ (x : List ℕ). Closed x h t close_brace q since r t') (sym i) a)
