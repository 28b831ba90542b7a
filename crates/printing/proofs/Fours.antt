-- The four, arms and patterns, as they are put.
use mathlib.Core.Path.{◌∙◌, ◌≡◌, ap, refl, subst, sym}
use mathlib.Core.List.{List, [], ◌∷◌, ◌++◌}
use mathlib.Core.Bool.{Bool, true, false, not, ◌||◌, ◌&&◌, cond}
use Prim.Native.Nat.{ℕ, zero, suc, pred, ◌≤◌}
use lib.Dec.{T, eqb}
use Rattle.rows.specs.Kinds as kinds
use Rattle.grammar.specs.Words.{'=>', 'else', 'for', 'if', 'in', 'match', 'while', close_brace, close_paren, comma, name, names, open_brace, open_paren, underscore}
use Rattle.grammar.specs.Grammar.{Ask, In, Token, alternatives, end, here, leaf, mark, one_of, there, token}
use Rattle.grammar.specs.Kinds.{ARM, ARM_BODY, ARM_COMMA, ARM_NEXT, ARMS, BLOCK, ELSE, ELSE_IF, EXPR, FOUR, GUARD, NAME, PATTERN, VARIANT, no_records}
use Rattle.grammar.specs.Readings.{peek, reads_end, reads_note, reads_token}
use Rattle.grammar.specs.Table.{a, one, word, opens, closes, prefix, row, part, rest_kinds, behind}
use Rattle.grammar.specs.Rows.{is_text, place_in}
use Rattle.grammar.specs.Language.{roto}
use Rattle.grammar.specs.Limits.{Counts}
use Rattle.grammar.proofs.Frame.{plain_word}
use Rattle.grammar.specs.Culprit.{lists}
use Rattle.canon.specs.Layout.{Place, arms, asks, empty, head, layout, layouts, whole}
use Rattle.printing.specs.Groves.{Grove, Head, State, Suit, Suits, Under, beside, body, fresh, grow, labelled, nil, pairs_at, said, say, token_of, top, words}
use Rattle.printing.specs.Pairs.{Choice, after, number, under}
use Rattle.printing.proofs.Lists.{Rst, Whole, bar, chain, done, finish, grow_leaf, held, l, more, more_postfix, none, only, put, rest, row_over, sub, tok, told}
use Rattle.printing.proofs.Placed.{Placed, a_brace, barred, name_head, needs_begins, path, row_head, settle}
use Rattle.printing.proofs.Exprs.{beside_nil, in_four, in_name, named, two}
use Rattle.printing.proofs.Calls.{Listed, Says, alone, list_all, mid, name_list, own_begin, said_list}

module _ (s : List ℕ) where
  -- the pairs round a last child: none round a block
  abbrev many_if : Bool → Choice → ℕ
  many_if b χ = cond (not b || false) (number χ) 0

  -- what follows an `if`'s block
  pub data Else : Grove → Type 0 where
    no_else : Else nil
    else_block : {h : Head} {k : Grove} → Says s BLOCK h k → Else (top h k nil)
    else_if : {h : Head} {k : Grove} → Says s ELSE_IF h k → Else (top h k nil)

  abbrev elses : Grove → Choice → List Token → List Token
  elses nil χ z = z
  elses (top h k t) χ z = token_of 'else' ∷ body s whole h k (under χ) z

  abbrev ElseSuits : Grove → Choice → Type 0
  ElseSuits nil χ = Unit {0}
  ElseSuits (top h k t) χ = Suit s whole 0 h k (under χ)

  else_read : {g : Grove} (χ : Choice) (K : Grove) (i : ℕ) (z : List Token) → Else g → ElseSuits g χ → Rst ELSE (elses g χ z) z (mid K i 0) (mid (beside K g) i 0)
  unfolding roto
  else_read χ K i z no_else b = subst (λ (t : Grove). Rst ELSE z z (mid K i 0) (mid t i 0)) (sym (beside_nil K)) (none here)
  else_read χ K i z (else_block f) b = record { alt = _; takes = there here; goes = tok (token_of 'else') refl tt (λ d. tt) (rest refl (record { alt = _; takes = here; goes = sub refl (f 0 tt (under χ) b z) done }) done) }
  else_read χ K i z (else_if f) b = record { alt = _; takes = there here; goes = tok (token_of 'else') refl tt (λ d. tt) (rest refl (record { alt = _; takes = there here; goes = sub refl (f 0 tt (under χ) b z) done }) done) }

  module _ (h : Head) (k : Grove) (p : Placed s h k) (h' : Head) (k' : Grove) (q : Says s BLOCK h' k') where
    abbrev if_kids : Grove → Grove
    if_kids g = top h k (top h' k' g)

    if_said : {g : Grove} (c : Place) (χ : Choice) (z : List Token) → Else g → body s c (row_head kinds.IF 0 0) (if_kids g) χ z ≡ token_of 'if' ∷ say s head (number χ) h k (under χ) (body s whole h' k' (under (after χ)) (elses g (after (after χ)) z))
    unfolding said layout layouts
    if_said c χ z no_else = refl
    if_said c χ z (else_block f) = refl
    if_said c χ z (else_if f) = refl

    else_suits : {g : Grove} (c : Place) (χ : Choice) → Else g → Under s c (row_head kinds.IF 0 0) (if_kids g) χ → ElseSuits g (after (after χ))
    unfolding layout layouts
    else_suits c χ no_else b = tt
    else_suits c χ (else_block f) b = (b.2.2.0, b.2.2.1)
    else_suits c χ (else_if f) b = (b.2.2.0, b.2.2.1)

    if_read : {n : ℕ} {o : Ask} {g : Grove} (c : Place) (χ : Choice) (z : List Token) → Under s c (row_head kinds.IF 0 0) (if_kids g) χ → In (token o ('if' ∷ []) ∷ a (EXPR no_records) ∷ behind BLOCK ∷ behind ELSE ∷ row kinds.IF ∷ []) (alternatives l n) → ((d : Counts) → T (held o d (token_of 'if'))) → Else g → Whole n (body s c (row_head kinds.IF 0 0) (if_kids g) χ z) z (row_over kinds.IF 0 0 (if_kids g))
    unfolding layout layouts
    if_read {n = n} {g = g} c χ z b o t u = subst (λ (y : List Token). Whole n y z (row_over kinds.IF 0 0 (if_kids g))) (sym (if_said c χ z u)) (finish o (tok (token_of 'if') refl tt t (sub refl (p.stands head tt (number χ) (under χ) (b.0, b.1) _) (sub refl (q 0 tt (under (after χ)) (b.2.0, b.2.1) _) (rest refl (else_read (after (after χ)) (two h k h' k') 'if' z u (else_suits c χ u b)) (put kinds.IF refl refl refl done))))))

    pub else_if_says : (g : Grove) → Else g → Says s ELSE_IF (row_head kinds.IF 0 0) (if_kids g)
    unfolding said layout layouts roto
    else_if_says g u = alone s tt (λ χ b z. if_read whole χ z b here (λ d. tt) u)

    pub if_row : (g : Grove) → Else g → Placed s (row_head kinds.IF 0 0) (if_kids g)
    unfolding said layout layouts roto
    if_row g u = settle s (row_head kinds.IF 0 0) (if_kids g) (record {
      stands = λ c χ e b y z g' v. chain {n = FOUR} (in_four c.records) refl (more_postfix c.records) (if_read c χ y b here (λ d. tt) u) v;
      begin = λ c i χ e b f z. subst (λ (t : List Token). T (not (one_of (peek lists l t) (barred i)))) (sym (if_said c χ z u)) (own_begin s 'if' c i (needs_begins s c (row_head kinds.IF 0 0) (if_kids g) e) f);
      path = absurd;
      four = λ t χ b z. if_read whole χ z b here (λ d. tt) u;
      block = absurd;
      expr = tt;
    })

    while_read : (c : Place) (χ : Choice) (z : List Token) → Under s c (row_head kinds.WHILE 0 0) (two h k h' k') χ → Whole FOUR (body s c (row_head kinds.WHILE 0 0) (two h k h' k') χ z) z (row_over kinds.WHILE 0 0 (two h k h' k'))
    unfolding said layout layouts roto
    while_read c χ z b = finish (there here) (tok (token_of 'while') refl tt (λ d. tt) (sub refl (p.stands head tt (number χ) (under χ) (b.0, b.1) _) (sub refl (q 0 tt (under (after χ)) (b.2.0, b.2.1) z) (put kinds.WHILE refl refl refl done))))

    pub while_row : Placed s (row_head kinds.WHILE 0 0) (two h k h' k')
    unfolding said layout layouts
    while_row = settle s (row_head kinds.WHILE 0 0) (two h k h' k') (record {
      stands = λ c χ e b y z g' v. chain {n = FOUR} (in_four c.records) refl (more_postfix c.records) (while_read c χ y b) v;
      begin = λ c i χ e b f z. own_begin s 'while' c i (needs_begins s c (row_head kinds.WHILE 0 0) (two h k h' k') e) f;
      path = absurd;
      four = λ t χ b z. while_read whole χ z b;
      block = absurd;
      expr = tt;
    })

    block_last : eqb h'.kind kinds.BLOCK ≡ true → (χ : Choice) (z : List Token) → Suit s whole (many_if (eqb h'.kind kinds.BLOCK) χ) h' k' (under χ) → Whole BLOCK (say s whole (many_if (eqb h'.kind kinds.BLOCK) χ) h' k' (under χ) z) z (top h' k' nil)
    block_last e χ z = subst (λ (b : Bool). Suit s whole (many_if b χ) h' k' (under χ) → Whole BLOCK (say s whole (many_if b χ) h' k' (under χ) z) z (top h' k' nil)) (sym e) (λ b. q 0 tt (under χ) b z)

    for_read : (x : Token) → T (one_of x.word names) → eqb h'.kind kinds.BLOCK ≡ true → (c : Place) (χ : Choice) (z : List Token) → Under s c (row_head kinds.FOR 0 0) (top (name_head x) nil (two h k h' k')) χ → Whole FOUR (body s c (row_head kinds.FOR 0 0) (top (name_head x) nil (two h k h' k')) χ z) z (row_over kinds.FOR 0 0 (top (name_head x) nil (two h k h' k')))
    unfolding said layout layouts roto
    for_read x m o c χ z b = finish (there (there here)) (tok (token_of 'for') refl tt (λ d. tt) (sub refl (named x names in_name tt m) (tok (token_of 'in') refl tt (λ d. tt) (sub refl (p.stands head tt (number (after χ)) (under (after χ)) (b.2.0, b.2.1) _) (sub refl (block_last o (after (after χ)) z (b.2.2.0, b.2.2.1)) (put kinds.FOR refl refl refl done))))))

    pub for_row : (x : Token) → T (one_of x.word names) → eqb h'.kind kinds.BLOCK ≡ true → Placed s (row_head kinds.FOR 0 0) (top (name_head x) nil (two h k h' k'))
    unfolding said layout layouts
    for_row x m o = settle s (row_head kinds.FOR 0 0) (top (name_head x) nil (two h k h' k')) (record {
      stands = λ c χ e b y z g' v. chain {n = FOUR} (in_four c.records) refl (more_postfix c.records) (for_read x m o c χ y b) v;
      begin = λ c i χ e b f z. own_begin s 'for' c i (needs_begins s c (row_head kinds.FOR 0 0) (top (name_head x) nil (two h k h' k')) e) f;
      path = absurd;
      four = λ t χ b z. for_read x m o whole χ z b;
      block = absurd;
      expr = tt;
    })

  -- patterns
  abbrev pub any_head : Token → Head
  any_head x = record { kind = kinds.ANY; value = 0; detail = 0; tokens = x ∷ [] }

  pub any_says : (x : Token) → T (one_of x.word (underscore ∷ [])) → Says s PATTERN (any_head x) nil
  unfolding roto grow
  any_says x m = alone s tt (λ χ b z. record { alt = _; takes = there here; parts = leaf x (mark kinds.ANY end); reads = λ d. reads_token refl m tt (reads_note reads_end); leaves = ap (λ (t : State). t.kids) (grow_leaf x (mark kinds.ANY end) fresh (plain_word x (underscore ∷ []) tt m)) })

  pub variant_says : (x : Token) → T (one_of x.word (name ∷ [])) → Says s PATTERN (row_head kinds.VARIANT 0 0) (top (name_head x) nil nil)
  unfolding said layout layouts roto
  variant_says x m = alone s tt (λ χ b z. finish here (sub {n = VARIANT} refl (named x (name ∷ []) here tt m) (rest refl (record { alt = _; takes = here; goes = put kinds.VARIANT refl refl refl done }) done)))

  pub variant_of : (x : Token) (g : Grove) → T (one_of x.word (name ∷ [])) → Listed s NAME g → Says s PATTERN (row_head kinds.VARIANT 1 0) (top (name_head x) nil g)
  unfolding said layout layouts roto
  variant_of x g m u = alone s tt (λ χ b z. subst (λ (t : List Token). Whole PATTERN (x ∷ t) z (row_over kinds.VARIANT 1 0 (top (name_head x) nil g))) (sym (said_list s kinds.VARIANT false open_paren close_paren g (after χ) z))
      (finish here (sub {n = VARIANT} refl (named x (name ∷ []) here tt m) (rest refl (record { alt = _; takes = there here; goes = tok (token_of open_paren) refl tt (λ d. tt) (rest refl (list_all s name_list kinds.VARIANT (λ i h t χ. tt) false (after χ) open_paren (top (name_head x) nil nil) open_paren 0 close_paren z u b.2) (tok (token_of close_paren) refl tt (λ d. tt) (told (put kinds.VARIANT refl refl refl done)))) }) done))))

  -- arms: pattern, perhaps a guard, body
  pub data Arm : ℕ → Grove → Type 0 where
    plain_arm : {h h' : Head} {k k' : Grove} → Says s PATTERN h k → Placed s h' k' → Arm 0 (two h k h' k')
    guarded_arm : {h h' h'' : Head} {k k' k'' : Grove} → Says s PATTERN h k → Placed s h' k' → Placed s h'' k'' → Arm 1 (top h k (two h' k' h'' k''))

  pub data Arms : Grove → Type 0 where
    no_arms : Arms nil
    more_arms : {v : ℕ} {k g : Grove} → Arm v k → Arms g → Arms (top (row_head kinds.ARM v 0) k g)

  abbrev armed : Grove → Choice → List Token → List Token
  armed g χ z = said s kinds.MATCH false (arms [] (labelled s g)) (close_brace ∷ []) g χ z

  abbrev ArmsSuit : Grove → Choice → Type 0
  ArmsSuit g χ = Suits s kinds.MATCH false (arms [] (labelled s g)) g χ

  abbrev has : Grove → Bool
  has g = not (empty (labelled s g))

  -- behind an arm's body: a block as it stands is in no pair
  abbrev place_if : Bool → Place
  place_if b = cond b whole (asks 0 true (open_brace ∷ []))

  abbrev body_place : ℕ → Place
  body_place k = place_if (eqb k kinds.BLOCK)

  abbrev many : Head → Choice → ℕ
  many h χ = pairs_at s kinds.ARM false h nil χ

  abbrev comma_if : Bool → ℕ → List ℕ
  comma_if more k = cond (more && not (eqb k kinds.BLOCK)) (comma ∷ []) []

  say_block : (h : Head) (k : Grove) (χ : Choice) (y : List Token) → eqb h.kind kinds.BLOCK ≡ true → say s (body_place h.kind) (many h χ) h k (under χ) y ≡ body s whole h k (under χ) y
  say_block h k χ y e = ap (λ (b : Bool). say s (place_if b) (many_if b χ) h k (under χ) y) e

  suit_block : (h : Head) (k : Grove) (χ : Choice) → eqb h.kind kinds.BLOCK ≡ true → Suit s (body_place h.kind) (many h χ) h k (under χ) → Under s whole h k (under χ)
  suit_block h k χ e b = (subst (λ (b : Bool). Suit s (place_if b) (many_if b χ) h k (under χ)) e b).1

  say_body : (h : Head) (k : Grove) (n : ℕ) (χ : Choice) (y : List Token) → eqb h.kind kinds.BLOCK ≡ false → say s (body_place h.kind) n h k χ y ≡ say s (asks 0 true (open_brace ∷ [])) n h k χ y
  say_body h k n χ y e = ap (λ (b : Bool). say s (place_if b) n h k χ y) e

  suit_body : (h : Head) (k : Grove) (n : ℕ) (χ : Choice) → eqb h.kind kinds.BLOCK ≡ false → Suit s (body_place h.kind) n h k χ → Suit s (asks 0 true (open_brace ∷ [])) n h k χ
  suit_body h k n χ e b = subst (λ (b : Bool). Suit s (place_if b) n h k χ) e b

  no_comma : (b : Bool) (k : ℕ) (z : List Token) → eqb k kinds.BLOCK ≡ true → words (comma_if b k) z ≡ z
  no_comma true k z e = ap (λ (c : Bool). words (cond (not c) (comma ∷ []) []) z) e
  no_comma false k z e = refl

  a_comma : (k : ℕ) (z : List Token) → eqb k kinds.BLOCK ≡ false → words (comma_if true k) z ≡ token_of comma ∷ z
  a_comma k z e = ap (λ (c : Bool). words (cond (not c) (comma ∷ []) []) z) e

  module _ (h : Head) (k : Grove) (p : Placed s h k) (v : ℕ) (K : Grove) (z : List Token) (χ χ' : Choice) (q : Suit s (body_place h.kind) (many h χ) h k (under χ)) where
    abbrev arm_top : Grove → Grove
    arm_top g = top (row_head kinds.ARM v 0) (beside K (top h k nil)) g

    -- the body and the arms behind it, i being the phrase's first word
    body_read : (b : Bool) → eqb h.kind kinds.BLOCK ≡ b → (g : Grove) (i : ℕ) → Whole ARMS (armed g χ' z) (token_of close_brace ∷ z) g → (w : List ℕ) × Rst ARM_BODY (say s (body_place h.kind) (many h χ) h k (under χ) (words (comma_if (has g) h.kind) (armed g χ' z))) (token_of close_brace ∷ z) (mid K i v) (record { kids = arm_top g; sign = w; part = 0 })
    unfolding roto said
    body_read true e g i u = (
      [],
      subst (λ (t : List Token). Rst ARM_BODY t (token_of close_brace ∷ z) (mid K i v) (only (arm_top g))) (sym (say_block h k χ (words (comma_if (has g) h.kind) (armed g χ' z)) e ∙ ap (body s whole h k (under χ)) (no_comma (has g) h.kind (armed g χ' z) e)))
          (record { alt = _; takes = here; goes = sub refl (p.block (subst T (sym e) tt) (under χ) (suit_block h k χ e q) (armed g χ' z)) (put kinds.ARM refl refl refl (rest refl (none {n = ARM_COMMA} here) (sub refl u done))) }),
    )
    body_read false e nil i u =
        let c = asks 0 true (open_brace ∷ []) in
        let n = many h χ in
        let f = suit_body h k n (under χ) e q in (
          [],
          subst (λ (t : List Token). Rst ARM_BODY t (token_of close_brace ∷ z) (mid K i v) (only (arm_top nil))) (sym (say_body h k n (under χ) (token_of close_brace ∷ z) e))
              (record { alt = _; takes = there here; goes = bar (p.begin c a_brace n (under χ) f refl (token_of close_brace ∷ z)) (sub refl (p.stands c tt n (under χ) f (token_of close_brace ∷ z)) (put kinds.ARM refl refl refl (rest refl (none {n = ARM_NEXT} here) done))) }),
        )
    body_read false e (top h' k' g) i u =
        let c = asks 0 true (open_brace ∷ []) in
        let n = many h χ in
        let f = suit_body h k n (under χ) e q in (
          comma ∷ [],
          subst (λ (t : List Token). Rst ARM_BODY t (token_of close_brace ∷ z) (mid K i v) (record { kids = arm_top (top h' k' g); sign = comma ∷ []; part = 0 })) (sym (say_body h k n (under χ) (words (comma_if true h.kind) (armed (top h' k' g) χ' z)) e ∙ ap (say s c n h k (under χ)) (a_comma h.kind (armed (top h' k' g) χ' z) e)))
              (record { alt = _; takes = there here; goes = bar (p.begin c a_brace n (under χ) f refl _) (sub refl (p.stands c tt n (under χ) f _) (put kinds.ARM refl refl refl (rest refl (record { alt = _; takes = there here; goes = tok (token_of comma) refl tt (λ d. tt) (sub {n = ARMS} refl u done) }) done))) }),
        )

  arms_read : {g : Grove} (χ : Choice) (z : List Token) → Arms g → ArmsSuit g χ → Whole ARMS (armed g χ z) (token_of close_brace ∷ z) g
  unfolding said layout layouts roto
  arms_read χ z no_arms b = finish here done
  arms_read χ z (more_arms {g = g} (plain_arm {h = h} {h' = h'} {k = k} {k' = k'} f p) u) b =
      let d = b.1 in
      let r = body_read h' k' p 0 (top h k nil) z (after (under χ)) (after χ) (d.2.0, d.2.1) (eqb h'.kind kinds.BLOCK) refl g '=>' (arms_read (after χ) z u b.2) in
      finish (there here) (sub {n = ARM} refl (finish here (sub refl (f 0 tt (under (under χ)) (d.0, d.1) _) (rest refl (none {n = GUARD} here) (tok (token_of '=>') refl tt (λ d. tt) (rest refl r.1 done))))) done)
  arms_read χ z (more_arms {g = g} (guarded_arm {h = h} {h' = h'} {h'' = h''} {k = k} {k' = k'} {k'' = k''} f q p) u) b =
      let d = b.1 in
      let x = after (under χ) in
      let r = body_read h'' k'' p 1 (two h k h' k') z (after x) (after χ) (d.2.2.0, d.2.2.1) (eqb h''.kind kinds.BLOCK) refl g 'if' (arms_read (after χ) z u b.2) in
      finish (there here) (sub {n = ARM} refl (finish here (sub refl (f 0 tt (under (under χ)) (d.0, d.1) _) (rest refl (record { alt = _; takes = there here; goes = tok (token_of 'if') refl tt (λ d. tt) (sub refl (q.stands whole tt (number x) (under x) (d.2.0, d.2.1) _) (told done)) }) (tok (token_of '=>') refl tt (λ d. tt) (rest refl r.1 done))))) done)

  match_said : (c : Place) (h : Head) (k g : Grove) (χ : Choice) (z : List Token) → body s c (row_head kinds.MATCH 0 0) (top h k g) χ z ≡ token_of 'match' ∷ say s head (number χ) h k (under χ) (token_of open_brace ∷ armed g (after χ) z)
  unfolding said layout layouts
  match_said c h k nil χ z = refl
  match_said c h k (top h' k' g) χ z = refl

  arms_suit : (g : Grove) (χ : Choice) → Suits s kinds.MATCH false (arms (open_brace ∷ []) (labelled s g)) g χ → ArmsSuit g χ
  arms_suit nil χ b = tt
  arms_suit (top h k g) χ b = b

  match_read : (h : Head) (k g : Grove) (c : Place) (χ : Choice) (z : List Token) → Placed s h k → Arms g → Under s c (row_head kinds.MATCH 0 0) (top h k g) χ → Whole FOUR (body s c (row_head kinds.MATCH 0 0) (top h k g) χ z) z (row_over kinds.MATCH 0 0 (top h k g))
  unfolding layout layouts roto
  match_read h k g c χ z p u b = subst (λ (t : List Token). Whole FOUR t z (row_over kinds.MATCH 0 0 (top h k g))) (sym (match_said c h k g χ z))
      (finish (there (there (there here))) (tok (token_of 'match') refl tt (λ d. tt) (sub refl (p.stands head tt (number χ) (under χ) (b.0, b.1) _) (tok (token_of open_brace) refl tt (λ d. tt) (sub refl (arms_read (after χ) z u (arms_suit g (after χ) b.2)) (tok (token_of close_brace) refl tt (λ d. tt) (put kinds.MATCH refl refl refl done)))))))

  pub match_row : (h : Head) (k g : Grove) → Placed s h k → Arms g → Placed s (row_head kinds.MATCH 0 0) (top h k g)
  match_row h k g p u = settle s (row_head kinds.MATCH 0 0) (top h k g) (record {
    stands = λ c χ e b y z g' v. chain {n = FOUR} (in_four c.records) refl (more_postfix c.records) (match_read h k g c χ y p u b) v;
    begin = λ c i χ e b f z. subst (λ (t : List Token). T (not (one_of (peek lists l t) (barred i)))) (sym (match_said c h k g χ z)) (own_begin s 'match' c i (needs_begins s c (row_head kinds.MATCH 0 0) (top h k g) e) f);
    path = absurd;
    four = λ t χ b z. match_read h k g whole χ z p u b;
    block = absurd;
    expr = tt;
  })
