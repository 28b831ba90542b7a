-- Readings that differ token by token leave trees that differ token by token: Q says which token may stand for which.
use mathlib.Core.Path.{◌≡◌, refl, sym, ap, subst}
use mathlib.Core.List.{List, [], ◌∷◌, ◌++◌}
use mathlib.Core.Bool.{Bool, true, false, cond}
use Prim.Native.Nat.{ℕ}
use lib.Dec.{eqb}
use Rattle.grammar.specs.Words.{text_then_hole, last_text}
use Rattle.grammar.specs.Grammar.{Token, Parts, one_of}
use Rattle.grammar.specs.Table.{rest_kinds, literal_row}
use Rattle.grammar.specs.Rows.{detail_for}
use Rattle.canon.specs.Trees.{copied}
use Rattle.printing.specs.Alike.{Match, match_end, match_leaf, match_node, match_mark}
use Rattle.printing.specs.Groves.{Head, Grove, nil, top, beside, Lead, nobody, row, word, State, fresh, signed, sign_in, led, lead_of, with_word, text_head, with_text, add, first_head, literal_head, keep, head_for, noted, enter, leave, grow}
use Rattle.respell.specs.Shown.{Like}

module _ (Q : Token → Token → Type 0) (as_like : (x y : Token) → Q x y → Like x y) where
  pub data Twins : List Token → List Token → Type 0 where
    twins_none : Twins [] []
    twins_more : {x y : Token} {xs ys : List Token} → Q x y → Twins xs ys → Twins (x ∷ xs) (y ∷ ys)

  twins_two : {xs ys vs ws : List Token} → Twins xs ys → Twins vs ws → Twins (xs ++ vs) (ys ++ ws)
  twins_two twins_none u = u
  twins_two (twins_more q t) u = twins_more q (twins_two t u)

  -- the numbers of a row, and its tokens
  record Numbers (h h' : Head) : Type 0 where
    kinds_same : h.kind ≡ h'.kind
    values_same : h.value ≡ h'.value
    details_same : h.detail ≡ h'.detail

  pub record Twin (h h' : Head) : Type 0 where
    pub kind_same : h.kind ≡ h'.kind
    pub value_same : h.value ≡ h'.value
    pub detail_same : h.detail ≡ h'.detail
    pub twins : Twins h.tokens h'.tokens

  abbrev pub Paired : Grove → Grove → Type 0
  Paired nil nil = Unit {0}
  Paired nil (top h k t) = ⊥
  Paired (top h k t) nil = ⊥
  Paired (top h k t) (top h' k' t') = Twin h h' × Paired k k' × Paired t t'

  abbrev Leads : Lead → Lead → Type 0
  Leads nobody nobody = Unit {0}
  Leads nobody row = ⊥
  Leads nobody (word y) = ⊥
  Leads row nobody = ⊥
  Leads row row = Unit {0}
  Leads row (word y) = ⊥
  Leads (word x) nobody = ⊥
  Leads (word x) row = ⊥
  Leads (word x) (word y) = Q x y

  pub record States (a a' : State) : Type 0 where
    pub trees : Paired a.kids a'.kids
    pub signs : a.sign ≡ a'.sign
    pub leads : Leads a.lead a'.lead
    pub parts_same : a.part ≡ a'.part
    pub reads : Twins a.read a'.read

  beside_pairs : (g g' k k' : Grove) → Paired g g' → Paired k k' → Paired (beside g k) (beside g' k')
  beside_pairs nil nil k k' u v = v
  beside_pairs nil (top h j t) k k' u v = absurd u
  beside_pairs (top h j t) nil k k' u v = absurd u
  beside_pairs (top h j t) (top h' j' t') k k' u v = (u.0, u.1, beside_pairs t t' k k' u.2 v)

  led_leads : (a a' b b' : Lead) → Leads a a' → Leads b b' → Leads (led a b) (led a' b')
  led_leads nobody nobody b b' u v = v
  led_leads nobody row b b' u v = absurd u
  led_leads nobody (word y) b b' u v = absurd u
  led_leads row nobody b b' u v = absurd u
  led_leads row row b b' u v = tt
  led_leads row (word y) b b' u v = absurd u
  led_leads (word x) nobody b b' u v = absurd u
  led_leads (word x) row b b' u v = absurd u
  led_leads (word x) (word y) b b' u v = u

  first_leads : (g g' : Grove) → Paired g g' → Leads (lead_of g) (lead_of g')
  first_leads nil nil u = tt
  first_leads nil (top h k t) u = absurd u
  first_leads (top h k t) nil u = absurd u
  first_leads (top h k t) (top h' k' t') u = tt

  -- a token more
  module _ {x y : Token} (q : Q x y) where
    like : Like x y
    like = as_like x y q

    words_same : x.word ≡ y.word
    words_same = sym (ap (λ (o : Token). o.word) like)

    numbers_same : x.value ≡ y.value
    numbers_same = sym (ap (λ (o : Token). o.value) like)

    word_states : (a a' : State) → States a a' → States (with_word x a) (with_word y a')
    word_states a a' u = record { trees = u.trees; signs = λ i. signed (u.signs i) (words_same i); leads = led_leads a.lead a'.lead (word x) (word y) u.leads q; parts_same = u.parts_same; reads = twins_two u.reads (twins_more q twins_none) }

    text_twin : Twin (text_head x) (text_head y)
    text_twin = record { kind_same = refl; value_same = numbers_same; detail_same = refl; twins = twins_more q twins_none }

    text_states : (a a' : State) → States a a' → States (with_text x a) (with_text y a')
    text_states a a' u = record { trees = beside_pairs a.kids a'.kids (top (text_head x) nil nil) (top (text_head y) nil nil) u.trees (text_twin, tt, tt); signs = u.signs; leads = led_leads a.lead a'.lead row row u.leads tt; parts_same = u.parts_same; reads = twins_two u.reads (twins_more q twins_none) }

    add_states : (a a' : State) → States a a' → States (add x a) (add y a')
    add_states a a' u =
        subst (λ (w : ℕ). States (add x a) (cond (one_of w (text_then_hole ∷ last_text ∷ [])) (cond (eqb y.value 0) (with_word y a') (with_text y a')) (with_word y a'))) words_same
        (subst (λ (v : ℕ). States (add x a) (cond (one_of x.word (text_then_hole ∷ last_text ∷ [])) (cond (eqb v 0) (with_word y a') (with_text y a')) (with_word y a'))) numbers_same
        (go (one_of x.word (text_then_hole ∷ last_text ∷ [])) (eqb x.value 0)))
      where
        go : (b c : Bool) → States (cond b (cond c (with_word x a) (with_text x a)) (with_word x a)) (cond b (cond c (with_word y a') (with_text y a')) (with_word y a'))
        go true true = word_states a a' u
        go true false = text_states a a' u
        go false c = word_states a a' u

  -- a row more
  first_numbers : (g g' : Grove) → Paired g g' → Numbers (first_head g) (first_head g')
  first_numbers nil nil u = record { kinds_same = refl; values_same = refl; details_same = refl }
  first_numbers nil (top h k t) u = absurd u
  first_numbers (top h k t) nil u = absurd u
  first_numbers (top h k t) (top h' k' t') u = record { kinds_same = u.0.kind_same; values_same = u.0.value_same; details_same = u.0.detail_same }

  literal_numbers : (a a' : Lead) (g g' : Grove) → Leads a a' → Paired g g' → Numbers (literal_head a g) (literal_head a' g')
  literal_numbers nobody nobody g g' u v = record { kinds_same = refl; values_same = refl; details_same = refl }
  literal_numbers nobody row g g' u v = absurd u
  literal_numbers nobody (word y) g g' u v = absurd u
  literal_numbers row nobody g g' u v = absurd u
  literal_numbers row row g g' u v = first_numbers g g' v
  literal_numbers row (word y) g g' u v = absurd u
  literal_numbers (word x) nobody g g' u v = absurd u
  literal_numbers (word x) row g g' u v = absurd u
  literal_numbers (word x) (word y) g g' u v =
      let e = as_like x y u in
      record { kinds_same = sym (ap (λ (o : Token). o.kind) e); values_same = sym (ap (λ (o : Token). o.value) e); details_same = sym (ap (λ (o : Token). o.detail) e) }

  keep_twin : (h h' : Head) (ts ts' : List Token) → Numbers h h' → Twins ts ts' → Twin (keep h ts) (keep h' ts')
  keep_twin h h' ts ts' n t = record {
    kind_same = n.kinds_same;
    value_same = n.values_same;
    detail_same = n.details_same;
    twins = subst (λ (k : ℕ). Twins (cond (one_of h.kind copied) ts []) (cond (one_of k copied) ts' [])) n.kinds_same (go (one_of h.kind copied));
  }
    where
      go : (b : Bool) → Twins (cond b ts []) (cond b ts' [])
      go true = t
      go false = twins_none

  head_twin : (k : ℕ) (a a' : State) → States a a' → Twin (head_for k a) (head_for k a')
  head_twin k a a' u = keep_twin _ _ a.read a'.read (go (eqb k literal_row)) u.reads
    where
      plain : State → Head
      plain b = record { kind = k; value = b.part; detail = detail_for k (sign_in b.sign); tokens = [] }

      go : (b : Bool) → Numbers (cond b (literal_head a.lead a.kids) (plain a)) (cond b (literal_head a'.lead a'.kids) (plain a'))
      go true = literal_numbers a.lead a'.lead a.kids a'.kids u.leads u.trees
      go false = record { kinds_same = refl; values_same = u.parts_same; details_same = ap (λ (w : List ℕ). detail_for k (sign_in w)) u.signs }

  note_states : (k : ℕ) (a a' : State) → States a a' → States (noted k a) (noted k a')
  note_states k a a' u = go (eqb k 0)
    where
      parted : State → State
      parted b = record { kids = b.kids; sign = b.sign; lead = b.lead; part = 1; read = b.read }

      rowed : State → State
      rowed b = record { kids = top (head_for k b) b.kids nil; sign = []; lead = row; part = 0; read = b.read }

      go : (b : Bool) → States (cond b (parted a) (rowed a)) (cond b (parted a') (rowed a'))
      go true = record { trees = u.trees; signs = u.signs; leads = u.leads; parts_same = refl; reads = u.reads }
      go false = record { trees = (head_twin k a a' u, u.trees, tt); signs = refl; leads = tt; parts_same = refl; reads = u.reads }

  fresh_states : States fresh fresh
  fresh_states = record { trees = tt; signs = refl; leads = tt; parts_same = refl; reads = twins_none }

  enter_states : (b : Bool) (a a' : State) → States a a' → States (enter b a) (enter b a')
  enter_states true a a' u = u
  enter_states false a a' u = fresh_states

  leave_states : (b : Bool) (a a' c c' : State) → States a a' → States c c' → States (leave b a c) (leave b a' c')
  leave_states true a a' c c' u v = v
  leave_states false a a' c c' u v = record { trees = beside_pairs a.kids a'.kids c.kids c'.kids u.trees v.trees; signs = u.signs; leads = led_leads a.lead a'.lead (lead_of c.kids) (lead_of c'.kids) u.leads (first_leads c.kids c'.kids v.trees); parts_same = u.parts_same; reads = twins_two u.reads v.reads }

  grow_states : {p p' : Parts} (a a' : State) → Match Q p p' → States a a' → States (grow p a) (grow p' a')
  unfolding grow
  grow_states a a' match_end u = u
  grow_states a a' (match_leaf {x = x} {y = y} q m) u = grow_states (add x a) (add y a') m (add_states q a a' u)
  grow_states a a' (match_node {n = n} {p = p} {p' = p'} m k) u =
      let b = one_of n rest_kinds in
      let v = grow_states (enter b a) (enter b a') m (enter_states b a a' u) in
      grow_states (leave b a (grow p (enter b a))) (leave b a' (grow p' (enter b a'))) k (leave_states b a a' (grow p (enter b a)) (grow p' (enter b a')) u v)
  grow_states a a' (match_mark {k = k} m) u = grow_states (noted k a) (noted k a') m (note_states k a a' u)

  -- the trees of readings that match
  pub paired : {p p' : Parts} → Match Q p p' → Paired (grow p fresh).kids (grow p' fresh).kids
  paired m = (grow_states fresh fresh m fresh_states).trees
