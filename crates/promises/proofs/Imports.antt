-- Import paths and their groups, and an import.
use Rattle.std.specs.Prelude.{Ok, Err}
use mathlib.Core.Path.{◌≡◌, refl, sym, ap, subst, ◌∙◌}
use mathlib.Core.List.{List, [], ◌∷◌}
use mathlib.Core.Bool.{Bool, true, false}
use mathlib.Core.Option.{Option, none, some}
use mathlib.Core.Logic.{inl, inr, ◌≢◌}
use Prim.Native.Nat.{ℕ, ◌+◌, ◌≤◌, ◌<◌}
use lib.Dec.{T, eqb, eqb→eq, eqb_refl}
use lib.ListN.{length}
use native.Mathlib.Omega.{arith}
use Rattle.rows.specs.Kinds as kinds
use Rattle.tokens.specs.declared.Refusal.{Refusal}
use Rattle.rows.specs.declared.Row.{Row}
use Rattle.grammar.specs.Words.{path_items, open_brace, close_brace, semicolon}
use Rattle.grammar.specs.Grammar.{plain, opens_bracket, one_of}
use Rattle.grammar.specs.Limits.{Counts, after, inside, kept}
use Rattle.grammar.specs.Table.{a, row, closes, word}
use Rattle.grammar.specs.Kinds.{IMPORT, IMPORTED, IMPORTPATH, IMPORTPATH_REST, IMPORTPATH_DOT, IMPORTPATHS, IMPORTPATHS_MORE, PATH_ITEM}
use Rattle.grammar.proofs.Bools.{or_cases}
use Rattle.grammar.proofs.Summary.{or_word}
use Rattle.parser.specs.declared.Here.{Here}
use Rattle.parser.specs.declared.Limits.{Limits}
use Rattle.parser.specs.declared.Node.{Node}
use Rattle.parser.specs.Results.{Read}
use Rattle.parser.specs.Places.{word_of, end_of, next_of, passed, later, unused, node_of, size_from, put_over, plain_row, expected, opening, start_of}
use Rattle.parser.specs.Counted.{counts, opened, plain as plainly, Alike}
use Rattle.parser.specs.Going.{Stands, store, many, Phrase, Going, Whole, Answers}
use Rattle.parser.proofs.Standing.{next_small, past_word, is_word, the_word}
use Rattle.parser.proofs.Tables.{put_length}
use Rattle.parser.proofs.Going.{at, takes, out, last, alone, writes, reads_one, ends, refuses_word, done, stopped, whole_of, relays, as_many, fewer, few_rows}
use Rattle.parser.proofs.Picks.{begins_any, into_on, into_off, refuses_off}
use Rattle.parser.proofs.Steps.{expected_done, expected_refused, opening_done, opens_on, opens_off, alike_counts, alike_plain, alike_opened, counts_inner}
use Rattle.parser.proofs.Sides.{Around, encloses, encloses_word, encloses_out, encloses_misses, encloses_ends}
use Rattle.promises.specs.Promises.{the, Anyhow, wrote, Closed, Grouped}
use Rattle.promises.proofs.Answered.{put_behind}
use Rattle.promises.proofs.Alternatives.{import_any, imported_any, importpath_any, importpath_rest_on, importpath_rest_off, importpath_dot_item_on, importpath_dot_group_on, importpath_dot_off, importpaths_any, importpaths_more_on, importpaths_more_off}

-- an answer at limits that were computed
pub limited : {s : List ℕ} {x y : Limits} {n k : ℕ} {h : Here} {t t' : List ℕ} {r : Read} → x ≡ y → Answers (the s (counts x) n h t) k r t' → Answers (the s (counts y) n h t) k r t'
limited {s} {n = n} {k = k} {h = h} {t = t} {t' = t'} {r = r} e = subst (λ (l : Limits). Answers (the s (counts l) n h t) k r t') e

-- An import path that was begun: behind an item of it.
pub record Begun (f : Phrase) (l : Limits) (start end children : ℕ) (h : Here) (t : List ℕ) : Type 0 where
  pub at_counts : Counts
  pub alike : Alike at_counts l
  pub sign : Option ℕ
  pub going : Going f (at at_counts (a IMPORTPATH_REST ∷ []) ∷ at f.counts (row kinds.IMPORT_PATH ∷ []) ∷ []) h t (many start end children sign) 0 3

module _ (s : List ℕ) (i : Here) (t₀ : List ℕ) (l : Limits) where
  abbrev Path : Phrase
  Path = the s (counts l) IMPORTPATH i t₀

  module _ (g : Stands s i) {r : Read} {t : List ℕ} (u : Anyhow s PATH_ITEM i t₀ 3 r t) where
    pub path_begins : {m : Node} {h : Here} → r ≡ Ok (m, h) → Begun Path l m.start m.end 1 h t
    unfolding inside
    path_begins e = record { at_counts = counts l; alike = alike_counts l; sign = none; going = as_many (alone (reads_one (begins_any importpath_any g) refl refl (whole_of (u (counts l)) e))) }

    pub path_refused : {e : Refusal} → r ≡ Err e → Answers Path 2 r t
    unfolding inside
    path_refused e = relays (begins_any importpath_any g) refl (u (counts l)) e

  module _ {x e c : ℕ} {h : Here} {t : List ℕ} (b : Begun Path l x e c h t) where
    module _ {h' : Here} (m : word_of h ≡ 49) (p : h' ≡ passed s h) where
      -- behind the `.`
      pub path_behind : Going Path (at (after plain b.at_counts) (a IMPORTPATH_DOT ∷ []) ∷ at (counts l) (row kinds.IMPORT_PATH ∷ []) ∷ []) h' t (many x (end_of h) c (or_word b.sign (word_of h))) 0 3
      unfolding inside kept
      path_behind = fewer 3 (omega arith) (last (takes (into_on importpath_rest_on refl (is_word m) b.going) tt (is_word m) tt p))

      pub path_more : {r : Read} {t' : List ℕ} {n : Node} {z : Here} → T (one_of (word_of h') path_items) → Anyhow s PATH_ITEM h' t 3 r t' → r ≡ Ok (n, z) → Begun Path l x n.end (c + 1) z t'
      unfolding inside
      path_more k u q = record { at_counts = after plain b.at_counts; alike = alike_plain l b.alike; sign = or_word b.sign (word_of h); going = fewer 3 (omega arith) (last (reads_one (into_on importpath_dot_item_on refl k path_behind) refl refl (whole_of (u (after plain b.at_counts)) q))) }

      pub path_fails : {r : Read} {t' : List ℕ} {z : Refusal} → T (one_of (word_of h') path_items) → Anyhow s PATH_ITEM h' t 3 r t' → r ≡ Err z → Answers Path 2 r t'
      unfolding inside
      path_fails k u q = relays (into_on importpath_dot_item_on refl k path_behind) refl (u (after plain b.at_counts)) q

      -- how far it has come; the group there
      pub path_onward : Stands s h' × (c ≤ h'.rows) × (next_of i < next_of h') × (next_of h < next_of h') × (next_of h' ≤ 65536)
      path_onward =
          let k = past_word (49 ∷ []) b.going.stands tt (is_word m) p in
          let n = k.1 in
          let r = k.2 in
          let few = few_rows b.going in
          let counted = b.going.counted in
          let small = next_small k.0 in
          let short = k.0.short in
          (k.0, omega (arith, counted, r), omega (arith, few, n), n, omega (arith, small, short))

      pub path_grouped : {r : Read} {t' : List ℕ} → Grouped s h' t l x c i.rows r t' → Answers Path 2 r t'
      path_grouped u = u Path (after plain b.at_counts) (end_of h) (or_word b.sign (word_of h)) refl refl (alike_plain l b.alike) path_behind

      -- neither an item nor a group
      pub path_neither : {r : Read} → word_of h' ≢ 40 → (T (one_of (word_of h') path_items) → ⊥) → r ≡ unused h' → Answers Path 2 r t
      path_neither n k q = stopped q (refuses_off importpath_dot_off (λ z. elim (or_cases (eqb (word_of h') open_brace) (one_of (word_of h') path_items) z) [ inl y ↦ n (eqb→eq (word_of h') open_brace y) | inr y ↦ k y ]) path_behind)

    pub path_ends : {q : Row} {r : Read} {t' : List ℕ} → word_of h ≢ 49 → q ≡ plain_row kinds.IMPORT_PATH x e c → (r ≡ Ok (node_of q, later h)) × (t' ≡ put_over t h q i.rows) → Answers Path 2 r t'
    unfolding inside
    path_ends n o p = done p.0 (ends (out (writes (out (out (into_off importpath_rest_off refl (λ z. n (the_word z)) b.going))) refl refl o refl p.1)) refl refl refl)

-- From where the loop over its items began.
abbrev pub Goes : List ℕ → Limits → ℕ → ℕ → ℕ → Here → List ℕ → ℕ → ℕ → Here → List ℕ → Type 0
Goes s l x e₀ c₀ h₀ t₀ e c h t = (i : Here) (t' : List ℕ) → Begun (the s (counts l) IMPORTPATH i t') l x e₀ c₀ h₀ t₀ → Begun (the s (counts l) IMPORTPATH i t') l x e c h t

-- Whether the bracket that has to close stands there.
by_closed : {A : Type 0} {s : List ℕ} {h : Here} {t : List ℕ} {w : ℕ} {q : Row} {since : ℕ} {r : Read} {t' : List ℕ} → Closed s h t w q since r t' → (word_of h ≡ w → r ≡ wrote s h q → t' ≡ put_over t (passed s h) q since → A) → (word_of h ≢ w → (r ≡ unused h) × (t' ≡ t) → A) → A
by_closed {A} {s} {h} {t} {w} {q} {since} u f g = go (eqb (word_of h) w) refl
  where
    go : (b : Bool) → eqb (word_of h) w ≡ b → A
    go true e = let k = eqb→eq (word_of h) w (subst T (sym e) tt) in let z = u.closed k in f k z.0 (put_behind s h t q since z.1)
    go false e = let k : word_of h ≢ w = (λ z. subst T (ap (λ (x : ℕ). eqb (word_of h) x) z ∙ e) (eqb_refl (word_of h))) in g k (u.other k)

pub closed_kept : {s : List ℕ} {h : Here} {t : List ℕ} {w : ℕ} {q : Row} {since : ℕ} {r : Read} {t' : List ℕ} → Closed s h t w q since r t' → length t' ≡ length t
unfolding store
closed_kept {s} {h} {t} {q = q} {since} u = by_closed u (λ k e p. ap length p ∙ put_length t (passed s h).rows q (size_from (passed s h) since)) (λ k e. ap length e.1)

-- A group that was opened: where its next path is to stand.
pub record Grouping (f : Phrase) (d : Counts) (start children : ℕ) (h : Here) (t : List ℕ) : Type 0 where
  pub end : ℕ
  pub sign : Option ℕ
  pub going : Going f (at (after opens_bracket d) (a IMPORTPATHS ∷ []) ∷ at (after opens_bracket d) (closes close_brace ∷ []) ∷ at d [] ∷ at f.counts (row kinds.IMPORT_PATH ∷ []) ∷ []) h t (many start end children sign) 0 3

module _ {f : Phrase} {d : Counts} (l : Limits) (k : Alike d l) where
  module _ {x e m : ℕ} {w : Option ℕ} {h : Here} {t : List ℕ} {r : Read} (b : Going f (at d (a IMPORTPATH_DOT ∷ []) ∷ at f.counts (row kinds.IMPORT_PATH ∷ []) ∷ []) h t (many x e m w) 0 3) (o : word_of h ≡ 40) (q : r ≡ opening f.text h 40 l.brackets) where
    pub group_opens : {y : Node} {z : Here} → r ≡ Ok (y, z) → Grouping f d x m z t
    unfolding inside
    group_opens {y} {z} p = record { end = y.end; sign = or_word w 40; going = fewer 3 (omega arith) (alone (opens_on 40 l (into_on importpath_dot_group_on refl (is_word o) b) tt k q p)) }

    pub group_unopened : {z : Refusal} → r ≡ Err z → Answers f 2 r t
    unfolding inside
    group_unopened p = stopped p (opens_off 40 l (into_on importpath_dot_group_on refl (is_word o) b) tt k q p)

module _ {f : Phrase} {d : Counts} (l : Limits) (k : after opens_bracket d ≡ counts l) where
  module _ {x m : ℕ} {h : Here} {t : List ℕ} {r : Read} {t' : List ℕ} (b : Grouping f d x m h t) (u : Answers (the f.text (counts l) IMPORTPATH h t) 2 r t') where
    pub group_refused : {z : Refusal} → r ≡ Err z → Answers f 2 r t'
    unfolding inside
    group_refused p = relays (into_off importpaths_any refl (λ z. z) b.going) k u p

    module _ {y : Node} {z : Here} (p : r ≡ Ok (y, z)) where
      group_read : Going f (at (after opens_bracket d) (a IMPORTPATHS_MORE ∷ []) ∷ at (after opens_bracket d) (closes close_brace ∷ []) ∷ at d [] ∷ at f.counts (row kinds.IMPORT_PATH ∷ []) ∷ []) z t' (many x y.end (m + 1) b.sign) 0 5
      unfolding inside
      group_read = last (reads_one (into_off importpaths_any refl (λ z. z) b.going) refl k (whole_of u p))

      pub group_more : {z' : Here} → word_of z ≡ 48 → z' ≡ passed f.text z → Grouping f d x (m + 1) z' t'
      unfolding inside kept
      group_more {z'} v q = record { end = end_of z; sign = or_word b.sign (word_of z); going = fewer 3 (omega arith) (subst (λ (j : Counts). Going f (at j (a IMPORTPATHS ∷ []) ∷ at (after opens_bracket d) (closes close_brace ∷ []) ∷ at d [] ∷ at f.counts (row kinds.IMPORT_PATH ∷ []) ∷ []) z' t' (many x (end_of z) (m + 1) (or_word b.sign (word_of z))) 0 9) (counts_inner d) (last (takes (into_on importpaths_more_on refl (is_word v) group_read) tt (is_word v) tt q))) }

      pub group_ends : {q : Row} {r' : Read} {t'' : List ℕ} → word_of z ≢ 48 → q ≡ plain_row kinds.IMPORT_PATH x (end_of z) (m + 1) → Closed f.text z t' 41 q f.from.rows r' t'' → Answers f 2 r' t''
      unfolding inside kept
      group_ends {r' = r'} {t'' = t''} v j q = by_closed q (λ e g h. done g (ends (out (writes (fewer 3 (omega arith) (out (out (takes ended tt (is_word e) tt refl)))) refl refl j refl h)) refl refl refl)) (λ n g. unwritten g (stopped g.0 (refuses_word ended (λ j. n (the_word j)))))
        where
          ended : Going f (at (after opens_bracket d) (closes close_brace ∷ []) ∷ at d [] ∷ at f.counts (row kinds.IMPORT_PATH ∷ []) ∷ []) z t' (many x y.end (m + 1) b.sign) 0 5
          ended = out (out (into_off importpaths_more_off refl (λ j. v (the_word j)) group_read))

          unwritten : {q : Read} → (r' ≡ q) × (t'' ≡ t') → Answers f 2 r' t' → Answers f 2 r' t''
          unwritten g = subst (λ (y : List ℕ). Answers f 2 r' y) (sym g.1)

-- A reader that has counted no more than the rows that are written, from a place on.
pub record Counting (s : List ℕ) (i : Here) (c : ℕ) (h : Here) : Type 0 where
  pub stands : Stands s h
  pub few : c ≤ h.rows
  pub ahead : next_of i ≤ next_of h

module _ {s : List ℕ} {i : Here} {c : ℕ} {h : Here} (b : Counting s i c h) where
  pub counting_few : (c < 300000) × (next_of h ≤ 65536)
  counting_few = let p = b.stands.few in let q = next_small b.stands in let r = b.stands.short in let x = b.few in (omega arith, omega arith)

  pub counting_more : {d : Counts} {n k : ℕ} {t t' : List ℕ} {r : Read} {m : Node} {z z' : Here} → Answers (the s d n h t) k r t' → r ≡ Ok (m, z) → word_of z ≡ 48 → z' ≡ passed s z → Counting s i (c + 1) z' × (next_of h < next_of z')
  counting_more u e w p =
      let v = whole_of u e in
      let q = past_word (48 ∷ []) v.stands tt (is_word w) p in
      let x = v.counted in
      let y = v.spares in
      let few = b.few in
      let ahead = b.ahead in
      let g = q.1 in
      let j = q.2 in
      (record { stands = q.0; few = omega (arith, x, few, j); ahead = omega (arith, x, y, ahead, g) }, omega (arith, x, y, g))

-- Behind the `{`: the counts there, and how far the reader came.
pub group_inner : (s : List ℕ) (h : Here) (l : Limits) {r : Read} {y : Node} {z : Here} {d : Counts} {x : Limits} → r ≡ opening s h 40 l.brackets → r ≡ Ok (y, z) → Alike d l → x ≡ opened l → after opens_bracket d ≡ counts x
group_inner s h l q p k e = alike_opened l k (opening_done s h 40 l.brackets q p).1 ∙ ap counts (sym e)

pub group_starts : (s : List ℕ) (h : Here) (n : ℕ) {c : ℕ} {r : Read} {y : Node} {z : Here} → r ≡ opening s h 40 n → r ≡ Ok (y, z) → Stands s h → c ≤ h.rows → Counting s z c z × (next_of h < next_of z)
group_starts s h n q p g f =
    let o = opening_done s h 40 n q p in
    let k = past_word (40 ∷ []) g tt (is_word o.0) o.2.here in
    let e = k.2 in
    (record { stands = k.0; few = omega (arith, f, e); ahead = omega arith }, k.1)

-- A group's promise, of a phrase of its source.
pub grouped_of : {s : List ℕ} {h : Here} {t : List ℕ} {l : Limits} {x m since : ℕ} {r : Read} {t' : List ℕ} → ((d₀ : Counts) (n : ℕ) (i : Here) (t₀ : List ℕ) (d : Counts) (e : ℕ) (w : Option ℕ) → i.rows ≡ since → Alike d l → Going (the s d₀ n i t₀) (at d (a IMPORTPATH_DOT ∷ []) ∷ at d₀ (row kinds.IMPORT_PATH ∷ []) ∷ []) h t (many x e m w) 0 3 → Answers (the s d₀ n i t₀) 2 r t') → Grouped s h t l x m since r t'
grouped_of {h = h} {t = t} {l = l} {x = x} {m = m} {since = since} {r = r} {t' = t'} k f d e w q = subst (λ (y : List ℕ). f.from.rows ≡ since → Alike d l → Going (the y f.counts f.kind f.from f.table) (at d (a IMPORTPATH_DOT ∷ []) ∷ at f.counts (row kinds.IMPORT_PATH ∷ []) ∷ []) h t (many x e m w) 0 3 → Answers (the y f.counts f.kind f.from f.table) 2 r t') (sym q) (k f.counts f.kind f.from f.table d e w)

-- From where the loop over its paths began.
abbrev pub Gathers : List ℕ → Limits → ℕ → ℕ → Here → List ℕ → ℕ → Here → List ℕ → Type 0
Gathers s l x c₀ h₀ t₀ c h t = (d₀ : Counts) (n : ℕ) (i : Here) (t' : List ℕ) (d : Counts) → after opens_bracket d ≡ counts l → Grouping (the s d₀ n i t') d x c₀ h₀ t₀ → Grouping (the s d₀ n i t') d x c h t

-- Of a phrase that was read, fewer rows may be known to be spare.
pub whole_fewer : {f : Phrase} {m : Node} {h : Here} {t : List ℕ} {k : ℕ} (j : ℕ) → j ≤ k → Whole f k m h t → Whole f j m h t
whole_fewer j q u = record { draft = u.draft; read = u.read; stands = u.stands; leaves = u.leaves; rows = u.rows; stored = u.stored; counted = u.counted; spares = let x = u.spares in omega (arith, x, q) }

-- An import path and its row; `import`, that and `;`.
module _ (s : List ℕ) (l : Limits) (i : Here) (t₀ : List ℕ) (g : Stands s i) where
  module _ {r : Read} {t : List ℕ} (u : Answers (the s (counts l) IMPORTPATH i t₀) 2 r t) where
    pub imported_read : {m : Node} {h : Here} {q : Row} {r' : Read} {t' : List ℕ} → r ≡ Ok (m, h) → q ≡ plain_row kinds.IMPORT m.start m.end 1 → (r' ≡ Ok (node_of q, later h)) × (t' ≡ put_over t h q i.rows) → Answers (the s (counts l) IMPORTED i t₀) 1 r' t'
    unfolding inside
    imported_read e q p = done p.0 (ends (out (writes (reads_one (begins_any imported_any g) refl refl (whole_of u e)) refl refl q refl p.1)) refl refl refl)

    pub imported_refused : {e : Refusal} → r ≡ Err e → Answers (the s (counts l) IMPORTED i t₀) 1 r t
    unfolding inside
    imported_refused e = relays (begins_any imported_any g) refl u e

  module _ (o : word_of i ≡ 70) {j : Here} (b : j ≡ passed s i) where
    abbrev Import : Phrase
    Import = the s (counts l) IMPORT i t₀

    import_word : Going Import (at (counts (plainly l)) (a IMPORTED ∷ word semicolon ∷ []) ∷ []) j t₀ (many (start_of i) (end_of i) 0 (some (word_of i))) 0 4
    unfolding after kept counts
    import_word = takes (begins_any import_any g) tt (is_word o) tt b

    module _ {r : Read} {t : List ℕ} (u : Answers (the s (counts (plainly l)) IMPORTED j t₀) 1 r t) where
      pub import_refused : {e : Refusal} → r ≡ Err e → Answers Import 1 r t
      unfolding inside
      import_refused e = relays import_word refl u e

      module _ {m : Node} {h : Here} (e : r ≡ Ok (m, h)) where
        import_row : Around Import (at (counts (plainly l)) (word semicolon ∷ []) ∷ []) h t m 5
        unfolding inside
        import_row = encloses import_word refl refl (whole_of u e)

        module _ {r' : Read} (q : r' ≡ expected s h 47) where
          pub import_unended : {e' : Refusal} → r' ≡ Err e' → Answers Import 1 r' t
          import_unended e' = let k = expected_refused s h 47 tt q e' in stopped (e' ∙ ap Err (sym k.1)) (encloses_misses import_row (λ x. k.0 (the_word x)))

          pub import_read : {m' : Node} {h' : Here} → r' ≡ Ok (m', h') → Answers Import 1 (Ok (m, h')) t
          unfolding kept
          import_read e' = let k = expected_done s h 47 q e' in done refl (whole_fewer 1 (omega arith) (encloses_ends (encloses_out (encloses_word import_row tt (is_word k.0) tt k.1.here))))
