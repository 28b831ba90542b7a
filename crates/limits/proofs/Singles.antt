-- Which phrases leave one tree: a test of the table.
use mathlib.Core.Path.{◌≡◌, refl, sym, ap, subst}
use mathlib.Core.List.{List, [], ◌∷◌}
use mathlib.Core.Bool.{Bool, true, false, not, ◌&&◌, cond}
use Prim.Native.Nat.{ℕ, zero, suc}
use lib.Dec.{T, T_not, eqb, eqb→eq}
use Rattle.grammar.specs.Grammar.{Ask, In, Scope, same, Symbol, token, phrase, unless, note, left_side, text, Token, Stream, Parts, node, one_of, alternatives}
use Rattle.grammar.specs.Kinds.{records, no_records, NAME, PATH, BLOCK, LITERAL, F_STRING, PARENS, BRACES, BRACES_INSIDE, FOUR, EXPR, ASSIGNED, BINARY, OR_MORE, AND, AND_MORE, COMPARE, COMPARE_MORE, SUM, SUM_MORE, PRODUCT, PRODUCT_MORE, OPERAND, POSTFIX, AFTER_PATH}
use Rattle.grammar.specs.Limits.{Counts}
use Rattle.grammar.specs.Table.{rest_kinds}
use Rattle.grammar.specs.Language.{roto}
use Rattle.grammar.specs.Readings.{ReadingBy, reads_end, reads_token, reads_phrase, reads_unless, reads_note, reads_side, reads_text}
use Rattle.grammar.proofs.Bools.{or_l, and_l, and_r, T→eq, F→eq}
use Rattle.grammar.proofs.Pass.{each_passes, passes_at}
use Rattle.grammar.proofs.Frame.{no_text, plain_word}
use Rattle.printing.specs.Groves as groves
use Rattle.printing.specs.Groves.{head_for, Head, Grove, nil, top, beside, State, fresh, add, leave, grow}
use Rattle.printing.proofs.Lists.{l, grow_phrase, grow_rest, grow_leaf}
use Rattle.printing.proofs.Placed.{apart}
use Rattle.roundtrip.proofs.Lasts.{within_one}

-- phrases that leave one tree, and rests of phrases that make one of one
abbrev one_kinds : List ℕ
one_kinds =
    NAME ∷ PATH ∷ BLOCK ∷ LITERAL ∷ F_STRING ∷ PARENS ∷ BRACES ∷ FOUR ∷
    EXPR records ∷ BINARY records ∷ AND records ∷ COMPARE records ∷ SUM records ∷ PRODUCT records ∷ OPERAND records ∷
    EXPR no_records ∷ BINARY no_records ∷ AND no_records ∷ COMPARE no_records ∷ SUM no_records ∷ PRODUCT no_records ∷ OPERAND no_records ∷ []

abbrev more_kinds : List ℕ
more_kinds =
    ASSIGNED records ∷ OR_MORE records ∷ AND_MORE records ∷ COMPARE_MORE records ∷ SUM_MORE records ∷ PRODUCT_MORE records ∷ POSTFIX records ∷ AFTER_PATH records ∷
    ASSIGNED no_records ∷ OR_MORE no_records ∷ AND_MORE no_records ∷ COMPARE_MORE no_records ∷ SUM_MORE no_records ∷ PRODUCT_MORE no_records ∷ POSTFIX no_records ∷ AFTER_PATH no_records ∷ []

-- c trees so far; 2: any number
abbrev one_left : ℕ → List Symbol → Bool
one_left c [] = eqb c 1
one_left c (token g w ∷ s) = no_text w && one_left c s
one_left c (phrase o n ∷ s) = cond (one_of n more_kinds) (eqb c 1 && one_left 1 s) (cond (eqb n BRACES_INSIDE) (one_left 1 s) (cond (one_of n one_kinds) (one_left (cond (eqb c 0) 1 2) s) (one_left 2 s)))
one_left c (unless w ∷ s) = one_left c s
one_left c (note k ∷ s) = cond (eqb k 0) (one_left c s) (one_left 1 s)
one_left c (left_side n m ∷ s) = (one_of n one_kinds && (one_of m more_kinds && eqb c 0)) && (not (one_of n more_kinds) && (not (eqb n BRACES_INSIDE) && one_left 1 s))
one_left c (text n ∷ s) = (not (one_of n more_kinds) && (not (eqb n BRACES_INSIDE) && not (one_of n one_kinds))) && one_left 2 s

abbrev one_alternative : ℕ → List Symbol → Bool
one_alternative n a = cond (one_of n more_kinds) (one_left 1 a) (cond (eqb n BRACES_INSIDE) (one_left 2 a) (cond (one_of n one_kinds) (one_left 0 a) true))

all_ones : T (each_passes one_alternative l.rules)
unfolding roto
all_ones = tt

abbrev pub One : Grove → Type 0
One g = (h : Head) × (k : Grove) × (g ≡ top h k nil)

abbrev Sized : ℕ → Grove → Type 0
Sized zero g = g ≡ nil
Sized (suc zero) g = One g
Sized (suc (suc c)) g = Unit {0}

one_here : (w b o x y z : Bool) → T (not w) → T (not b) → T o → T (cond w x (cond b y (cond o z true))) → T z
one_here true b o x y z f g h t = absurd f
one_here false true o x y z f g h t = absurd g
one_here false false true x y z f g h t = t
one_here false false false x y z f g h t = absurd h

-- one of one, where it stands
side_one : (b : Bool) (m : ℕ) (s : List Symbol) → T (one_of m more_kinds) → T (one_left 1 s) → T (one_left 1 (cond b (phrase same m ∷ s) s))
side_one false m s h t = t
side_one true m s h t = go (one_of m more_kinds) h
  where
    go : (w : Bool) → T w → T (cond w (eqb 1 1 && one_left 1 s) (cond (eqb m BRACES_INSIDE) (one_left 1 s) (cond (one_of m one_kinds) (one_left (cond (eqb 1 0) 1 2) s) (one_left 2 s))))
    go true h = t
    go false h = absurd h

text_one : (b : Bool) (n : ℕ) (s : List Symbol) → T (one_left 2 (text n ∷ s)) → T (one_left 2 (cond b (phrase same n ∷ s) s))
text_one false n s t = and_r (not (one_of n more_kinds) && (not (eqb n BRACES_INSIDE) && not (one_of n one_kinds))) (one_left 2 s) t
text_one true n s t = go (one_of n more_kinds) (eqb n BRACES_INSIDE) (one_of n one_kinds) t
  where
    go : (w i o : Bool) → T ((not w && (not i && not o)) && one_left 2 s) → T (cond w (eqb 2 1 && one_left 1 s) (cond i (one_left 1 s) (cond o (one_left (cond (eqb 2 0) 1 2) s) (one_left 2 s))))
    go true i o t = absurd t
    go false true o t = absurd t
    go false false true t = absurd t
    go false false false t = t

abbrev Sizes : Parts → List Symbol → Type 0
Sizes p s = (c : ℕ) (a : State) → Sized c a.kids → T (one_left c s) → One (grow p a).kids

phrase_one : (o : Scope) (n c : ℕ) (al s : List Symbol) (p q : Parts) (a : State) → In al (alternatives l n) → Sizes p al → Sizes q s → Sized c a.kids → T (one_left c (phrase o n ∷ s)) → One (grow (node n al p q) a).kids
phrase_one o n c al s p q a y f g z t = go (one_of n more_kinds) (eqb n BRACES_INSIDE) (one_of n one_kinds) refl refl refl t (passes_at one_alternative l.rules n all_ones y)
  where
    is_rest : T (one_of n rest_kinds) → (grow (node n al p q) a).kids ≡ (grow q (grow p a)).kids
    is_rest m = ap (λ (b : State). b.kids) (grow_rest n al p q a (T→eq (one_of n rest_kinds) m))

    sized_by : (x : Bool) (g' : Grove) → (T x → a.kids ≡ nil) → One g' → Sized (cond x 1 2) (beside a.kids g')
    sized_by true g' e u = subst (λ (b : Grove). One (beside b g')) (sym (e tt)) u
    sized_by false g' e u = tt

    none_yet : T (eqb c 0) → a.kids ≡ nil
    none_yet e = subst (λ (i : ℕ). Sized i a.kids) (eqb→eq c 0 e) z

    go : (w b o : Bool) → one_of n more_kinds ≡ w → eqb n BRACES_INSIDE ≡ b → one_of n one_kinds ≡ o → T (cond w (eqb c 1 && one_left 1 s) (cond b (one_left 1 s) (cond o (one_left (cond (eqb c 0) 1 2) s) (one_left 2 s)))) → T (cond w (one_left 1 al) (cond b (one_left 2 al) (cond o (one_left 0 al) true))) → One (grow (node n al p q) a).kids
    go true b o e e₁ e₂ t u =
        let one = f 1 a (subst (λ (i : ℕ). Sized i a.kids) (eqb→eq c 1 (and_l (eqb c 1) (one_left 1 s) t)) z) u in
        subst One (sym (is_rest (within_one more_kinds rest_kinds n tt (subst T (sym e) tt)))) (g 1 (grow p a) one (and_r (eqb c 1) (one_left 1 s) t))
    go false true o e e₁ e₂ t u =
        subst One (sym (is_rest (within_one (BRACES_INSIDE ∷ []) rest_kinds n tt (or_l (eqb n BRACES_INSIDE) false (subst T (sym e₁) tt))))) (g 1 (grow p a) (f 2 a tt u) t)
    go false false true e e₁ e₂ t u =
        let own = F→eq (one_of n rest_kinds) (T_not (one_of n rest_kinds) (apart one_kinds rest_kinds n tt (subst T (sym e₂) tt))) in
        subst One (sym (ap (λ (b : State). b.kids) (grow_phrase n al p q a own))) (g (cond (eqb c 0) 1 2) (leave false a (grow p fresh)) (sized_by (eqb c 0) (grow p fresh).kids none_yet (f 0 fresh refl u)) t)
    go false false false e e₁ e₂ t u = other (one_of n rest_kinds) refl
      where
        other : (b : Bool) → one_of n rest_kinds ≡ b → One (grow (node n al p q) a).kids
        other true e = subst One (sym (ap (λ (b : State). b.kids) (grow_rest n al p q a e))) (g 2 (grow p a) tt t)
        other false e = subst One (sym (ap (λ (b : State). b.kids) (grow_phrase n al p q a e))) (g 2 (leave false a (grow p fresh)) tt t)

-- a reading of such a phrase leaves one
module _ {S : Stream} {G : Ask → Counts → Token → Bool} where
  sized : {d : Counts} {s : List Symbol} {i r : S.Place} {p : Parts} → ReadingBy S l G d s i r p → Sizes p s
  unfolding grow
  sized reads_end c a z t = subst (λ (n : ℕ). Sized n a.kids) (eqb→eq c 1 t) z
  sized (reads_token {w = w} {s = s} {x = x} {p = p} e m k u) c a z t = subst One (sym (ap (λ (b : State). b.kids) (grow_leaf x p a (plain_word x w (and_l (no_text w) (one_left c s) t) m)))) (sized u c _ z (and_r (no_text w) (one_left c s) t))
  sized (reads_phrase {n = n} {o = o} {a = al} {s = s} {p = p} {q = q} y u v) c a z t = phrase_one o n c al s p q a y (sized u) (sized v) z t
  sized (reads_unless m u) c a z t = sized u c a z t
  sized (reads_note {k = k} {s = s} {p = p} u) c a z t = go (eqb k 0) (sized u) t
    where
      go : (b : Bool) → Sizes p s → T (cond b (one_left c s) (one_left 1 s)) → One (grow p (cond b (record { kids = a.kids; sign = a.sign; lead = a.lead; part = 1; read = a.read }) (record { kids = top (head_for k a) a.kids nil; sign = []; lead = groves.row; part = 0; read = a.read }))).kids
      go true f t = f c _ z t
      go false f t = f 1 _ (head_for k a, a.kids, refl) t
  sized (reads_side {n = n} {n₁ = m} {a = al} {s = s} {p = p} {q = q} y u k v) c a z t =
      let x = and_l (one_of n one_kinds && (one_of m more_kinds && eqb c 0)) (not (one_of n more_kinds) && (not (eqb n BRACES_INSIDE) && one_left 1 s)) t in
      let x₁ = and_r (one_of n one_kinds) (one_of m more_kinds && eqb c 0) x in
      let w = and_r (one_of n one_kinds && (one_of m more_kinds && eqb c 0)) (not (one_of n more_kinds) && (not (eqb n BRACES_INSIDE) && one_left 1 s)) t in
      let w₁ = and_r (not (one_of n more_kinds)) (not (eqb n BRACES_INSIDE) && one_left 1 s) w in
      let t₁ = and_r (not (eqb n BRACES_INSIDE)) (one_left 1 s) w₁ in
      let own = F→eq (one_of n rest_kinds) (T_not (one_of n rest_kinds) (apart one_kinds rest_kinds n tt (and_l (one_of n one_kinds) (one_of m more_kinds && eqb c 0) x))) in
      let alt = one_here (one_of n more_kinds) (eqb n BRACES_INSIDE) (one_of n one_kinds) (one_left 1 al) (one_left 2 al) (one_left 0 al) (and_l (not (one_of n more_kinds)) (not (eqb n BRACES_INSIDE) && one_left 1 s) w) (and_l (not (eqb n BRACES_INSIDE)) (one_left 1 s) w₁) (and_l (one_of n one_kinds) (one_of m more_kinds && eqb c 0) x) (passes_at one_alternative l.rules n all_ones y) in
      let none : a.kids ≡ nil = subst (λ (i : ℕ). Sized i a.kids) (eqb→eq c 0 (and_r (one_of m more_kinds) (eqb c 0) x₁)) z in
      let one : One (beside a.kids (grow p fresh).kids) = subst (λ (b : Grove). One (beside b (grow p fresh).kids)) (sym none) (sized u 0 fresh refl alt) in
      subst One (sym (ap (λ (b : State). b.kids) (grow_phrase n al p q a own))) (sized v 1 (leave false a (grow p fresh)) one (side_one (l.is_path p) m s (and_l (one_of m more_kinds) (eqb c 0) x₁) t₁))
  sized (reads_text {n = n} {s = s} {x = x} e k u) c a z t = sized u 2 (add x a) tt (text_one (eqb x.word l.hole) n s t)

  pub leaves_one : {d : Counts} {al : List Symbol} {i r : S.Place} {p : Parts} (n : ℕ) → In al (alternatives l n) → T (one_of n one_kinds && (not (one_of n more_kinds) && not (eqb n BRACES_INSIDE))) → ReadingBy S l G d al i r p → One (grow p fresh).kids
  leaves_one {al = al} n y h u =
      let h₁ = and_r (one_of n one_kinds) (not (one_of n more_kinds) && not (eqb n BRACES_INSIDE)) h in
      sized u 0 fresh refl (one_here (one_of n more_kinds) (eqb n BRACES_INSIDE) (one_of n one_kinds) (one_left 1 al) (one_left 2 al) (one_left 0 al) (and_l (not (one_of n more_kinds)) (not (eqb n BRACES_INSIDE)) h₁) (and_r (not (one_of n more_kinds)) (not (eqb n BRACES_INSIDE)) h₁) (and_l (one_of n one_kinds) (not (one_of n more_kinds) && not (eqb n BRACES_INSIDE)) h) (passes_at one_alternative l.rules n all_ones y))
