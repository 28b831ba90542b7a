-- Lists: items with commas between them, in brackets. One law for each step of a list's reader, whatever its items are.
use Rattle.std.specs.Prelude.{Ok, Err}
use mathlib.Core.Path.{◌≡◌, refl, sym, ap, subst, ◌∙◌}
use mathlib.Core.List.{List, [], ◌∷◌}
use mathlib.Core.Bool.{Bool, true, false, cond}
use mathlib.Core.Option.{Option, none, some}
use mathlib.Core.Logic.{◌⊎◌, inl, inr, ◌≢◌}
use Prim.Native.Nat.{ℕ, ◌+◌, ◌-◌, ◌≤◌, ◌<◌}
use lib.Dec.{T, eqb, eqb→eq, eqb_refl}
use lib.ListN.{length}
use native.Mathlib.Omega.{arith}
use Rattle.tokens.specs.declared.Refusal.{Refusal}
use Rattle.grammar.specs.Words.{comma, names}
use Rattle.grammar.specs.Grammar.{plain, opens_bracket, closes_bracket, Symbol, one_of}
use Rattle.grammar.specs.Limits.{Counts, after, inside, kept}
use Rattle.grammar.specs.Table.{word, a, closes, rest_kinds}
use Rattle.grammar.specs.Kinds.{records, TYPED_NAMES, TYPED_NAMES_MORE, TYPED_NAME, TYPES, TYPES_MORE, TYPE, EXPRS, EXPRS_MORE, EXPR, FIELDS, FIELDS_MORE, FIELD, NAMES, NAMES_MORE, NAME}
use Rattle.grammar.proofs.Open.{Left}
use Rattle.grammar.proofs.Summary.{or_word}
use Rattle.parser.specs.declared.Here.{Here}
use Rattle.parser.specs.declared.Limits.{Limits}
use Rattle.parser.specs.declared.Node.{Node}
use Rattle.parser.specs.Results.{Read}
use Rattle.parser.specs.Places.{word_of, end_of, next_of, passed, unused, list_node, opening, closing, took_by}
use Rattle.parser.specs.Counted.{counts, opened}
use Rattle.parser.specs.Going.{Stands, Tally, bare, lone, many, with_word, Phrase, Going, Stopped, Answers}
use Rattle.parser.proofs.Standing.{solid, next_small, past_word, is_word, the_word, lexed, lexed_solid, is_taken}
use Rattle.parser.proofs.Going.{at, takes, out, last, alone, next_phrase, reads_one, refuses_in, refuses_word, whole_of, stopped_of, fewer}
use Rattle.parser.proofs.Picks.{On, Off, into_on, into_off}
use Rattle.parser.proofs.Steps.{opening_done, counts_listed, counts_inner, alike_opened, opens_on, opens_off}
use Rattle.promises.specs.Firsts.{expr_firsts, type_firsts}
use Rattle.promises.specs.Promises.{the, Partly, listed, Listed}
use Rattle.promises.proofs.Alternatives.{typed_names_on, typed_names_off, typed_names_more_on, typed_names_more_off, types_on, types_off, types_more_on, types_more_off, exprs_on, exprs_off, exprs_more_on, exprs_more_off, fields_on, fields_off, fields_more_on, fields_more_off, names_on, names_off, names_more_on, names_more_off}
use Rattle.promises.proofs.Partly.{partly, partly_stops}
use Rattle.promises.proofs.Answered.{further, of_text, partly_as}

-- a bracket that closes is there, or not
closing_either : (s : List ℕ) (h : Here) (w b c : ℕ) → T (lexed (w ∷ [])) → ((word_of h ≡ w) × (closing s h w b c ≡ Ok (list_node h b c, passed s h))) ⊎ ((word_of h ≢ w) × (closing s h w b c ≡ unused h))
unfolding closing
closing_either s h w b c l = go (eqb (word_of h) w) refl
  where
    no : eqb (word_of h) w ≡ false → word_of h ≢ w
    no f g = subst T (ap (λ (x : ℕ). eqb (word_of h) x) g ∙ f) (eqb_refl (word_of h))

    go : (q : Bool) → eqb (word_of h) w ≡ q → ((word_of h ≡ w) × (cond q (took_by h.step (Ok (list_node h b c, passed s h)) (unused h)) (unused h) ≡ Ok (list_node h b c, passed s h))) ⊎ ((word_of h ≢ w) × (cond q (took_by h.step (Ok (list_node h b c, passed s h)) (unused h)) (unused h) ≡ unused h))
    go true f = let e = eqb→eq (word_of h) w (subst T (sym f) tt) in inl (e, is_taken h.step (w ∷ []) l (is_word e) (Ok (list_node h b c, passed s h)) (unused h))
    go false f = inr (no f, refl)

-- behind a list's brackets
behind_list : {f : Phrase} (d : Counts) {ss : List Symbol} {ks : List Left} {h : Here} {t : List ℕ} {y y' : Tally} {v k : ℕ} → y ≡ y' → Going f (at (after closes_bracket (after opens_bracket d)) ss ∷ ks) h t y v k → Going f (at (after plain d) ss ∷ ks) h t y' v k
behind_list {f} d {ss} {ks} {h} {t} {y} {y'} {v} {k} e g = subst (λ (x : Tally). Going f (at (after plain d) ss ∷ ks) h t x v k) e (subst (λ (x : Counts). Going f (at x ss ∷ ks) h t y v k) (counts_listed d) g)

or_settled : (x : Option ℕ) (o j : ℕ) → or_word (or_word x o) j ≡ or_word x o
or_settled none o j = refl
or_settled (some v) o j = refl

-- behind a bracket that opens
pub opened_on : {s : List ℕ} {i : Here} {r : Read} {m : Node} {z : Here} (o n : ℕ) → T (solid (o ∷ [])) → Stands s i → r ≡ opening s i o n → r ≡ Ok (m, z) → Stands s z × (next_of i < next_of z) × (z.rows ≡ i.rows)
opened_on {s} {i} o n w g u q = let k = opening_done s i o n u q in past_word (o ∷ []) g w (is_word k.0) k.2.here

-- limits of no list, where any will do
abbrev pub no_limits : Limits
no_limits = record { brackets = 0; signs = 0; chain = 0; heads = 0 }

-- A list's kinds: an item, the list, what follows an item; the words that an item begins with; what is computed of them.
pub record Lists (ITEM LIST MORE : ℕ) (firsts : List ℕ) : Type 0 where
  pub on : On LIST (some (a ITEM ∷ a MORE ∷ [])) firsts
  pub off : Off LIST (some []) firsts
  pub more_on : On MORE (some (word comma ∷ a LIST ∷ [])) (comma ∷ [])
  pub more_off : Off MORE (some []) (comma ∷ [])
  pub list_rest : one_of LIST rest_kinds ≡ true
  pub more_rest : one_of MORE rest_kinds ≡ true
  pub item_whole : one_of ITEM rest_kinds ≡ false

pub typed_names_list : Lists TYPED_NAME TYPED_NAMES TYPED_NAMES_MORE names
typed_names_list = record { on = typed_names_on; off = typed_names_off; more_on = typed_names_more_on; more_off = typed_names_more_off; list_rest = refl; more_rest = refl; item_whole = refl }

pub types_list : Lists TYPE TYPES TYPES_MORE type_firsts
types_list = record { on = types_on; off = types_off; more_on = types_more_on; more_off = types_more_off; list_rest = refl; more_rest = refl; item_whole = refl }

pub exprs_list : Lists (EXPR records) EXPRS EXPRS_MORE expr_firsts
exprs_list = record { on = exprs_on; off = exprs_off; more_on = exprs_more_on; more_off = exprs_more_off; list_rest = refl; more_rest = refl; item_whole = refl }

pub fields_list : Lists FIELD FIELDS FIELDS_MORE names
fields_list = record { on = fields_on; off = fields_off; more_on = fields_more_on; more_off = fields_more_off; list_rest = refl; more_rest = refl; item_whole = refl }

pub names_list : Lists NAME NAMES NAMES_MORE names
names_list = record { on = names_on; off = names_off; more_on = names_more_on; more_off = names_more_off; list_rest = refl; more_rest = refl; item_whole = refl }

-- A phrase with n rows so far that began at b, x being its first word if that word was there before the list.
pub record Spans (b n : ℕ) (x : Option ℕ) (G : Tally → Type 0) : Type 0 where
  pub end : ℕ
  pub sign : Option ℕ
  pub settled : ((j : ℕ) → or_word x j ≡ x) → sign ≡ x
  pub going : G (many b end n sign)

module _ {ITEM LIST MORE : ℕ} {firsts : List ℕ} (p : Lists ITEM LIST MORE firsts) where
  module _ (f : Phrase) (d : Counts) (ss : List Symbol) (ks : List Left) (b n : ℕ) (x : Option ℕ) (v k : ℕ) (h : Here) (t : List ℕ) where
    -- where an item may begin, or where one has to and does
    abbrev pub Listing : Type 0
    Listing = Spans b n x (λ y. Going f (at d (a LIST ∷ []) ∷ at d ss ∷ ks) h t y v k ⊎ (Going f (at d (a ITEM ∷ a MORE ∷ ss) ∷ ks) h t y v k × T (one_of (word_of h) firsts)))

    -- behind an item
    abbrev pub Itemed : Type 0
    Itemed = Spans b n x (λ y. Going f (at d (a MORE ∷ []) ∷ at d ss ∷ ks) h t y v k)

    -- behind the list
    abbrev pub Over : Type 0
    Over = Spans b n x (λ y. Going f (at d ss ∷ ks) h t y v k)

  module _ {f : Phrase} {d : Counts} {ss : List Symbol} {ks : List Left} {b n : ℕ} {x : Option ℕ} {v k : ℕ} {h : Here} {t : List ℕ} where
    pub reads_item : {j : ℕ} {r : Read} {t' : List ℕ} {m : Node} {z : Here} → Listing f d ss ks b n x v k h t → T (one_of (word_of h) firsts) → Answers (next_phrase f d ITEM h t) j r t' → r ≡ Ok (m, z) → Itemed f d ss ks b (n + 1) x v k z t'
    unfolding inside
    reads_item {m = m} g o u e = record {
      end = m.end;
      sign = g.sign;
      settled = g.settled;
      going = elim g.going [
        | inl q ↦ fewer k (omega arith) (last (reads_one (into_on p.on p.list_rest o q) p.item_whole refl (whole_of u e)))
        | inr q ↦ fewer k (omega arith) (alone (reads_one q.0 p.item_whole refl (whole_of u e)))
      ];
    }

    pub item_stops : {j : ℕ} {r : Read} {t' : List ℕ} {e : Refusal} → Listing f d ss ks b n x v k h t → T (one_of (word_of h) firsts) → Answers (next_phrase f d ITEM h t) j r t' → r ≡ Err e → Stopped f e t'
    unfolding inside
    item_stops g o u e = elim g.going [
      | inl q ↦ refuses_in (into_on p.on p.list_rest o q) refl (stopped_of u e)
      | inr q ↦ refuses_in q.0 refl (stopped_of u e)
    ]

    pub no_item : Listing f d ss ks b n x v k h t → (T (one_of (word_of h) firsts) → ⊥) → Over f d ss ks b n x v k h t
    unfolding inside
    no_item g o = record {
      end = g.end;
      sign = g.sign;
      settled = g.settled;
      going = elim g.going [
        | inl q ↦ out (out (into_off p.off p.list_rest o q))
        | inr q ↦ absurd (o q.1)
      ];
    }

    pub no_comma : Itemed f d ss ks b n x v k h t → (word_of h ≡ comma → ⊥) → Over f d ss ks b n x v k h t
    unfolding inside
    no_comma g o = record { end = g.end; sign = g.sign; settled = g.settled; going = out (out (into_off p.more_off p.more_rest (λ m. o (the_word m)) g.going)) }

    pub takes_comma : {z : Here} → after plain d ≡ d → Itemed f d ss ks b n x v k h t → word_of h ≡ comma → z ≡ passed f.text h → Listing f d ss ks b n x v k z t
    unfolding inside kept
    takes_comma {z} i g o e = record {
      end = end_of h;
      sign = or_word g.sign (word_of h);
      settled = λ q. ap (λ (s : Option ℕ). or_word s (word_of h)) (g.settled q) ∙ q (word_of h);
      going = inl (fewer k (omega arith) (subst (λ (c : Counts). Going f (at c (a LIST ∷ []) ∷ at d ss ∷ ks) z t (many b (end_of h) n (or_word g.sign (word_of h))) v (k + 4)) i (last (takes (into_on p.more_on p.more_rest (is_word o) g.going) tt (is_word o) tt e))));
    }

  -- A list from behind its bracket on: what the phrase has behind the bracket that closes.
  abbrev pub Finishes : List ℕ → Limits → ℕ → ℕ → Here → List ℕ → Read → List ℕ → Type 0
  Finishes s l begin o h₀ t₀ r t' =
      (f : Phrase) (d : Counts) (ss : List Symbol) (ks : List Left) (b e n : ℕ) (x : Option ℕ) (v k : ℕ) → f.text ≡ s → d ≡ counts l → after plain d ≡ d → ((j : ℕ) → or_word x j ≡ x)
      → Going f (at d (a LIST ∷ closes o ∷ ss) ∷ ks) h₀ t₀ (many b e n x) v k
      → Partly f r t' (λ m h'. (m.start ≡ begin) × Going f (at (after closes_bracket d) ss ∷ ks) h' t' (many b m.end (n + m.children) x) v k)

  closes_list : {f : Phrase} {d : Counts} {ss : List Symbol} {ks : List Left} {b : ℕ} {x : Option ℕ} {v k : ℕ} {h : Here} {t : List ℕ} {r : Read} (n o begin c : ℕ) → T (lexed (o ∷ [])) → ((j : ℕ) → or_word x j ≡ x) → Over f d (closes o ∷ ss) ks b (n + c) x v k h t → r ≡ closing f.text h o begin c → Partly f r t (λ m h'. (m.start ≡ begin) × Going f (at (after closes_bracket d) ss ∷ ks) h' t (many b m.end (n + m.children) x) v k)
  unfolding kept
  closes_list {f} {d} {ss} {ks} {b} {x} {v} {k} {h} {t} n o begin c w i g e = elim (closing_either f.text h o begin c w) [
    | inl q ↦ partly (e ∙ q.1) (refl, fewer k (omega arith) (subst (λ (y : Option ℕ). Going f (at (after closes_bracket d) ss ∷ ks) (passed f.text h) t (many b (end_of h) (n + c) y) v (k + 4)) (ap (λ (y : Option ℕ). or_word y (word_of h)) (g.settled i) ∙ i (word_of h)) (takes g.going (lexed_solid (o ∷ []) w) (is_word q.0) tt refl)))
    | inr q ↦ partly_stops (e ∙ q.1) (refuses_word g.going (λ m. q.0 (the_word m)))
  ]

  -- From where a list's loop began: whatever the phrase is, and however many rows it had before the list.
  pub record Loops (s : List ℕ) (l : Limits) (h₀ : Here) (t₀ : List ℕ) (c₀ : ℕ) (h : Here) (t : List ℕ) (c : ℕ) : Type 0 where
    pub stands : Stands s h
    pub next : next_of h₀ ≤ next_of h
    pub few : c + h₀.rows ≤ c₀ + h.rows
    pub kept : length t ≡ length t₀
    pub goes : (f : Phrase) (d : Counts) (ss : List Symbol) (ks : List Left) (b n : ℕ) (x : Option ℕ) (v k : ℕ) → f.text ≡ s → d ≡ counts l → after plain d ≡ d → Listing f d ss ks b (n + c₀) x v k h₀ t₀ → Listing f d ss ks b (n + c) x v k h t

  pub loop_begins : {s : List ℕ} {l : Limits} {h : Here} {t : List ℕ} {c : ℕ} → Stands s h → Loops s l h t c h t c
  loop_begins g = record { stands = g; next = omega arith; few = omega arith; kept = refl; goes = λ f d ss ks b n x v k e q i u. u }

  module _ {s : List ℕ} {l : Limits} {h₀ : Here} {t₀ : List ℕ} {c₀ : ℕ} {h : Here} {t : List ℕ} {c : ℕ} (w : Loops s l h₀ t₀ c₀ h t c) where
    -- one item more, and its comma
    pub loop_more : {j : ℕ} {r : Read} {t' : List ℕ} {m : Node} {z z' : Here} → T (one_of (word_of h) firsts) → Answers (the s (counts l) ITEM h t) j r t' → r ≡ Ok (m, z) → word_of z ≡ comma → z' ≡ passed s z → Loops s l h₀ t₀ c₀ z' t' (c + 1)
    loop_more {t' = t'} {z = z} {z'} o u e m q =
        let y = further u e in
        let g = past_word (comma ∷ []) y.stands tt (is_word m) q in
        let a = w.next in
        let b = w.few in
        let k = y.next in
        let i = y.rows in
        let f = g.1 in
        let r = g.2 in
        record {
          stands = g.0;
          next = omega (arith, a, k, f);
          few = omega (arith, b, i, r);
          kept = y.kept ∙ w.kept;
          goes = λ f d ss ks b n x v k i j v' g. subst (λ (y : ℕ). Listing f d ss ks b y x v k z' t') (nested n c) (takes_comma v' (reads_item (w.goes f d ss ks b n x v k i j v' g) o (of_text f i j u) e) m (q ∙ ap (λ (y : List ℕ). passed y z) (sym i)));
        }
      where
        nested : (n c : ℕ) → n + c + 1 ≡ n + (c + 1)
        nested n c = omega arith

    pub loop_falls : {j : ℕ} {r : Read} {t' : List ℕ} {m : Node} {z z' : Here} → Answers (the s (counts l) ITEM h t) j r t' → r ≡ Ok (m, z) → word_of z ≡ comma → z' ≡ passed s z → length s + 1 - next_of z' < length s + 1 - next_of h
    loop_falls u e m q =
        let y = further u e in
        let g = past_word (comma ∷ []) y.stands tt (is_word m) q in
        let a = next_small g.0 in
        let b = y.next in
        let k = g.1 in
        omega (arith, a, b, k)

    -- the items stay far below what a number holds
    pub loop_room : c₀ ≤ 1 → c < 300000
    loop_room o =
        let a = w.few in
        let b = w.stands.few in
        let k = w.stands.short in
        let n = next_small w.stands in
        omega (arith, a, b, k, n, o)

  -- a list's loop that begins with no item yet: an item refuses; an item is the last; no item follows
  module _ {s : List ℕ} {l : Limits} {h₀ : Here} {t₀ : List ℕ} {h : Here} {t : List ℕ} {c : ℕ} (w : Loops s l h₀ t₀ 0 h t c) where
    entered : (f : Phrase) (d : Counts) (ss : List Symbol) (ks : List Left) (b e n : ℕ) (x : Option ℕ) (v k : ℕ) → f.text ≡ s → d ≡ counts l → after plain d ≡ d → Going f (at d (a LIST ∷ ss) ∷ ks) h₀ t₀ (many b e n x) v k → Listing f d ss ks b (n + c) x v k h t
    entered f d ss ks b e n x v k i j q g = w.goes f d ss ks b n x v k i j q (record { end = e; sign = x; settled = λ z. refl; going = inl (alone (subst (λ (y : ℕ). Going f (at d (a LIST ∷ ss) ∷ ks) h₀ t₀ (many b e y x) v k) (omega arith) g)) })

    pub loop_refused : (o begin : ℕ) {j : ℕ} {r : Read} {t' : List ℕ} {e : Refusal} → T (one_of (word_of h) firsts) → Answers (the s (counts l) ITEM h t) j r t' → r ≡ Err e → Finishes s l begin o h₀ t₀ r t'
    loop_refused o begin m u q = λ f d ss ks b e n x v k i j z y g. partly_stops q (item_stops (entered f d (closes o ∷ ss) ks b e n x v k i j z g) m (of_text f i j u) q)

    module _ (o begin : ℕ) (z : T (lexed (o ∷ []))) where
      pub loop_ends : {j : ℕ} {r r' : Read} {t' : List ℕ} {m : Node} {h' : Here} → T (one_of (word_of h) firsts) → Answers (the s (counts l) ITEM h t) j r t' → r ≡ Ok (m, h') → (word_of h' ≡ comma → ⊥) → r' ≡ closing s h' o begin (c + 1) → Finishes s l begin o h₀ t₀ r' t'
      loop_ends {t' = t'} {h' = h'} m u q p r = λ f d ss ks b e n x v k i j y a g. closes_list n o begin (c + 1) z a (no_comma (subst (λ (q : ℕ). Itemed f d (closes o ∷ ss) ks b q x v k h' t') (omega arith) (reads_item (entered f d (closes o ∷ ss) ks b e n x v k i j y g) m (of_text f i j u) q)) p) (r ∙ ap (λ (s : List ℕ). closing s h' o begin (c + 1)) (sym i))

      pub loop_closes : {r : Read} → (T (one_of (word_of h) firsts) → ⊥) → r ≡ closing s h o begin c → Finishes s l begin o h₀ t₀ r t
      loop_closes m r = λ f d ss ks b e n x v k i j y a g. closes_list n o begin c z a (no_item (entered f d (closes o ∷ ss) ks b e n x v k i j y g) m) (r ∙ ap (λ (s : List ℕ). closing s h o begin c) (sym i))

  -- the bracket that opens it
  module _ {s : List ℕ} {i : Here} {t₀ : List ℕ} {l : Limits} {r₀ : Read} (o c : ℕ) (w : T (lexed (o ∷ []))) (u : r₀ ≡ opening s i o l.brackets) where
    pub list_unopened : {e : Refusal} → r₀ ≡ Err e → Listed s i t₀ l o LIST c r₀ t₀
    list_unopened q = λ f d ss ks y v k e z g. partly_stops q (opens_off o l g w z (u ∙ ap (λ (s : List ℕ). opening s i o l.brackets) (sym e)) q)

    pub list_opened : {m : Node} {h₀ : Here} {l' : Limits} {r : Read} {t' : List ℕ} → r₀ ≡ Ok (m, h₀) → l' ≡ opened l → Finishes s l' m.start c h₀ t₀ r t' → Listed s i t₀ l o LIST c r t'
    list_opened {m} {h₀} {l'} {r} {t'} q p z = λ f d ss ks y v k e al g. go f d ss ks y v k e (alike_opened l al (opening_done s i o l.brackets u q).1 ∙ ap counts (sym p)) (opens_on o l g (lexed_solid (o ∷ []) w) al (u ∙ ap (λ (s : List ℕ). opening s i o l.brackets) (sym e)) q)
      where
        go : (f : Phrase) (d : Counts) (ss : List Symbol) (ks : List Left) (y : Tally) (v k : ℕ) → f.text ≡ s → after opens_bracket d ≡ counts l' → Going f (at (after opens_bracket d) (a LIST ∷ closes c ∷ ss) ∷ ks) h₀ t₀ (with_word y m.start m.end o) v (k + 4) → Partly f r t' (λ m h'. Going f (at (after plain d) ss ∷ ks) h' t' (listed y o m) v (k + 4))
        go f d ss ks bare v k e al g = partly_as (z f (after opens_bracket d) ss ks m.start m.end 0 (some o) v (k + 4) e al (counts_inner d) (λ j. refl) g) (λ n h x. behind_list d (ap (λ (a : ℕ). many a n.end (0 + n.children) (some o)) (sym x.0) ∙ ap (λ (a : ℕ). many n.start n.end a (some o)) (omega arith)) x.1)
        go f d ss ks (lone j b x) v k e al g = partly_as (z f (after opens_bracket d) ss ks b m.end 1 (some o) v (k + 4) e al (counts_inner d) (λ j. refl) g) (λ n h x. behind_list d (ap (λ (a : ℕ). many b n.end a (some o)) (omega arith)) x.1)
        go f d ss ks (many b x j y) v k e al g = partly_as (z f (after opens_bracket d) ss ks b m.end j (or_word y o) v (k + 4) e al (counts_inner d) (or_settled y o) g) (λ n h x. behind_list d refl x.1)
