-- A refusal excludes a run, and there is one refusal.
use mathlib.Core.Path.{◌≡◌, refl, sym, ◌∙◌, ap, subst}
use mathlib.Core.List.{List, ◌∷◌}
use mathlib.Core.Bool.{Bool, cond}
use mathlib.Core.Option.{Option, none, some}
use Prim.Native.Nat.{ℕ}
use lib.Dec.{T, eqb, T_not}
use native.Mathlib.Omega.{arith}
use Rattle.grammar.specs.Grammar.{has_value, same, Look, found, Stream, Symbol, phrase, Token, Parts, Language, View, one_of}
use Rattle.grammar.specs.Limits.{Counts, after, inside, kept}
use Rattle.grammar.specs.Choice.{among}
use Rattle.grammar.specs.Readings.{peek, reads_end, reads_token, reads_phrase, reads_unless, reads_note, reads_side, reads_text, Reading}
use Rattle.grammar.specs.Runs.{view, may, Run}
use Rattle.grammar.specs.Refusals.{Why, ill, left, lacks, torn, Stops, stops_want, stops_past, stops_token, stops_none, stops_in, stops_after, stops_barred, stops_unless, stops_note, stops_side_none, stops_side_in, stops_left, stops_side_after, stops_torn, stops_ill, stops_text}
use Rattle.grammar.proofs.Good.{closed, all_good}
use Rattle.grammar.proofs.Core.{one_run, complete}

pub untorn : {P : Type 0} {A : Type 0} {x : Token} {j : P} (k : Look P) → T (torn k) → k ≡ found x j → A
untorn k t e = absurd (subst (λ (y : Look _). T (torn y)) e t)

module _ (S : Stream) (l : Language) where
  pub clash : {A : Type 0} {o : Option (List Symbol)} {a : List Symbol} → o ≡ none → o ≡ some a → A
  clash p q = let z : ◌≡◌ {A = ℕ} 0 1 = cc in absurd (omega arith)

  pub has : {A : Type 0} {x : Token} {j : S.Place} (k : Look S.Place) (w : List ℕ) → T (lacks k w) → k ≡ found x j → T (one_of x.word w) → A
  has {x = x} k w h e m = absurd (T_not (one_of x.word w) (subst (λ (y : Look S.Place). T (lacks y w)) e h) m)

  -- a text is not both run and refused
  pub not_both : {d : Counts} {s : List Symbol} {i r z : S.Place} {p : Parts} {y : Why} → Run S l d s i r p → Stops S l d s i z y → ⊥
  not_both {z = z} {y = y} (reads_end {d = d} {i = i}) x7 = elim x7 [ ]
  not_both (reads_token {w = w} {i = i} e h k t) (stops_want g) = has (S.look i) w g e h
  not_both (reads_token {d = d} {g = g} {x = x} e h k t) (stops_past {x = x'} e' h' n) = let ex : x ≡ x' = cc in T_not (kept g d x') n (subst (λ (y : Token). T (kept g d y)) ex k)
  not_both (reads_token {d = d} {g = g} {s = s} {x = x} {j = j} e h k t) (stops_token {x = x'} {j = j'} {z = z} {y = y} e' h' k' u) = let ej : j ≡ j' = cc in not_both t (subst (λ (q : S.Place). Stops S l (after g d) s q z y) (sym ej) u)
  not_both (reads_text {i = i} e k t) (stops_torn h) = untorn (S.piece i) h e
  not_both (reads_text {d = d} {x = x} e k t) (stops_ill {x = x'} e' n) = let ex : x ≡ x' = cc in T_not (kept has_value d x') n (subst (λ (y : Token). T (kept has_value d y)) ex k)
  not_both (reads_text {d = d} {n = n} {s = s} {x = x} {j = j} e k t) (stops_text {x = x'} {j = j'} {z = z} {y = y} e' k' u) =
      let ex : x ≡ x' = cc in
      let ej : j ≡ j' = cc in
      not_both t (subst (λ (q : S.Place). Stops S l (after has_value d) (cond (eqb x.word l.hole) (phrase same n ∷ s) s) q z y) (sym ej) (subst (λ (q : Token). Stops S l (after has_value d) (cond (eqb q.word l.hole) (phrase same n ∷ s) s) j' z y) (sym ex) u))
  not_both (reads_phrase c t u) (stops_none e) = clash e c
  not_both (reads_phrase {d = d} {o = o} {a = a} {i = i} c t u) (stops_in {a = a'} {z = z} {y = y} e f) =
      let ea : a' ≡ a = cc in not_both t (subst (λ (x : List Symbol). Stops S l (inside o d) x i z y) ea f)
  not_both (reads_phrase {d = d} {o = o} {a = a} {s = s} {i = i} {m = m} c t u) (stops_after {a = a'} {m = m'} {z = z} {p = p'} {y = y} e t' f) =
      let ea : a' ≡ a = cc in
      let k = one_run S l t (subst (λ (x : List Symbol). Run S l (inside o d) x i m' p') ea t') in
      not_both u (subst (λ (x : S.Place). Stops S l d s x z y) (sym k.0) f)
  not_both (reads_unless {w = w} {i = i} h t) (stops_barred g) = T_not (one_of (peek S l i) w) h g
  not_both (reads_unless h t) (stops_unless g u) = not_both t u
  not_both (reads_note t) (stops_note u) = not_both t u
  not_both (reads_side c t h u) (stops_side_none e) = clash e c
  not_both (reads_side {d = d} {a = a} {i = i} c t h u) (stops_side_in {a = a'} {z = z} {y = y} e f) =
      let ea : a' ≡ a = cc in not_both t (subst (λ (x : List Symbol). Stops S l d x i z y) ea f)
  not_both (reads_side {d = d} {a = a} {i = i} {m = m} {p = p} c t h u) (stops_left {a = a'} {m = m'} {p = p'} e t' g) =
      let ea : a' ≡ a = cc in
      let k = one_run S l t (subst (λ (x : List Symbol). Run S l d x i m' p') ea t') in
      let en : may S l (l.is_path p) (peek S l m) ≡ may S l (l.is_path p') (peek S l m') = ap₂' k.0 k.1 in
      T_not (may S l (l.is_path p') (peek S l m')) g (subst T en h)
    where
      ap₂' : {m m' : S.Place} {p p' : Parts} → m ≡ m' → p ≡ p' → may S l (l.is_path p) (peek S l m) ≡ may S l (l.is_path p') (peek S l m')
      ap₂' {m} {m'} {p} {p'} e f = ap (λ (x : S.Place). may S l (l.is_path p) (peek S l x)) e ∙ ap (λ (x : Parts). may S l (l.is_path x) (peek S l m')) f
  not_both (reads_side {d = d} {n = n} {n₁ = n₁} {a = a} {s = s} {i = i} {m = m} {p = p} c t h u) (stops_side_after {a = a'} {m = m'} {z = z} {p = p'} {y = y} e t' h' f) =
      let ea : a' ≡ a = cc in
      let k = one_run S l t (subst (λ (x : List Symbol). Run S l d x i m' p') ea t') in
      let en : l.is_path p' ≡ l.is_path p = cc k.1 in
      not_both u (subst (λ (x : S.Place). Stops S l d (cond (l.is_path p) (phrase same n₁ ∷ s) s) x z y) (sym k.0) (subst (λ (x : Bool). Stops S l d (cond x (phrase same n₁ ∷ s) s) m' z y) en f))

  peek_same : {m m' : S.Place} {p p' : Parts} → m ≡ m' → p ≡ p' → may S l (l.is_path p) (peek S l m) ≡ may S l (l.is_path p') (peek S l m')
  peek_same {m} {m'} {p} {p'} e f = ap (λ (x : S.Place). may S l (l.is_path p) (peek S l x)) e ∙ ap (λ (x : Parts). may S l (l.is_path x) (peek S l m')) f

  -- one refusal
  pub one_stop : {d : Counts} {s : List Symbol} {i z z' : S.Place} {y y' : Why} → Stops S l d s i z y → Stops S l d s i z' y' → (z ≡ z') × (y ≡ y')
  one_stop (stops_want h) (stops_want h') = (refl, refl)
  one_stop (stops_want {w = w} {i = i} h) (stops_past e m k) = has (S.look i) w h e m
  one_stop (stops_want {w = w} {i = i} h) (stops_token e m k f) = has (S.look i) w h e m
  one_stop (stops_past {w = w} {i = i} e m k) (stops_want h) = has (S.look i) w h e m
  one_stop (stops_past e m k) (stops_past e' m' k') = (refl, refl)
  one_stop (stops_past {d = d} {g = g} {x = x} e m k) (stops_token {x = x'} e' m' k' f) = let ex : x' ≡ x = cc in absurd (T_not (kept g d x) k (subst (λ (y : Token). T (kept g d y)) ex k'))
  one_stop (stops_token {w = w} {i = i} e m k f) (stops_want h) = has (S.look i) w h e m
  one_stop (stops_token {d = d} {g = g} {x = x} e m k f) (stops_past {x = x'} e' m' k') = let ex : x ≡ x' = cc in absurd (T_not (kept g d x') k' (subst (λ (y : Token). T (kept g d y)) ex k))
  one_stop (stops_token {d = d} {g = g} {s = s} {x = x} {j = j} e m k f) (stops_token {x = x'} {j = j'} {z = z'} {y = y'} e' m' k' f') = let ej : j' ≡ j = cc in one_stop f (subst (λ (q : S.Place). Stops S l (after g d) s q z' y') ej f')
  one_stop (stops_torn h) (stops_torn h') = (refl, refl)
  one_stop (stops_torn {i = i} h) (stops_ill e k) = untorn (S.piece i) h e
  one_stop (stops_torn {i = i} h) (stops_text e k f) = untorn (S.piece i) h e
  one_stop (stops_ill {i = i} e k) (stops_torn h) = untorn (S.piece i) h e
  one_stop (stops_ill {x = x} e k) (stops_ill {x = x'} e' k') = let ex : x ≡ x' = cc in (refl, ap ill ex)
  one_stop (stops_ill {d = d} {x = x} e k) (stops_text {x = x'} e' k' f) = let ex : x' ≡ x = cc in absurd (T_not (kept has_value d x) k (subst (λ (y : Token). T (kept has_value d y)) ex k'))
  one_stop (stops_text {i = i} e k f) (stops_torn h) = untorn (S.piece i) h e
  one_stop (stops_text {d = d} {x = x} e k f) (stops_ill {x = x'} e' k') = let ex : x ≡ x' = cc in absurd (T_not (kept has_value d x') k' (subst (λ (y : Token). T (kept has_value d y)) ex k))
  one_stop (stops_text {d = d} {n = n} {s = s} {x = x} {j = j} e k f) (stops_text {x = x'} {j = j'} {z = z'} {y = y'} e' k' f') =
      let ex : x ≡ x' = cc in
      let ej : j ≡ j' = cc in
      one_stop f (subst (λ (q : S.Place). Stops S l (after has_value d) (cond (eqb x.word l.hole) (phrase same n ∷ s) s) q z' y') (sym ej) (subst (λ (q : Token). Stops S l (after has_value d) (cond (eqb q.word l.hole) (phrase same n ∷ s) s) j' z' y') (sym ex) f'))
  one_stop (stops_none e) (stops_none e') = (refl, refl)
  one_stop (stops_none e) (stops_in c f) = clash e c
  one_stop (stops_none e) (stops_after c t f) = clash e c
  one_stop (stops_in c f) (stops_none e) = clash e c
  one_stop (stops_in {d = d} {o = o} {a = a} {i = i} c f) (stops_in {a = a'} {z = z'} {y = y'} c' f') = let ea : a' ≡ a = cc in one_stop f (subst (λ (x : List Symbol). Stops S l (inside o d) x i z' y') ea f')
  one_stop (stops_in {d = d} {o = o} {a = a} {i = i} c f) (stops_after {a = a'} {m = m'} {p = p'} c' t f') = let ea : a' ≡ a = cc in absurd (not_both (subst (λ (x : List Symbol). Run S l (inside o d) x i m' p') ea t) f)
  one_stop (stops_after c t f) (stops_none e) = clash e c
  one_stop (stops_after {d = d} {o = o} {a = a} {i = i} c t f) (stops_in {a = a'} {z = z'} {y = y'} c' f') = let ea : a' ≡ a = cc in absurd (not_both t (subst (λ (x : List Symbol). Stops S l (inside o d) x i z' y') ea f'))
  one_stop (stops_after {d = d} {o = o} {a = a} {s = s} {i = i} c t f) (stops_after {a = a'} {m = m'} {z = z'} {p = p'} {y = y'} c' t' f') =
      let ea : a' ≡ a = cc in
      let k = one_run S l t (subst (λ (x : List Symbol). Run S l (inside o d) x i m' p') ea t') in
      one_stop f (subst (λ (x : S.Place). Stops S l d s x z' y') (sym k.0) f')
  one_stop (stops_barred h) (stops_barred h') = (refl, refl)
  one_stop (stops_barred {w = w} {i = i} h) (stops_unless h' f) = absurd (T_not (one_of (peek S l i) w) h' h)
  one_stop (stops_unless {w = w} {i = i} h f) (stops_barred h') = absurd (T_not (one_of (peek S l i) w) h h')
  one_stop (stops_unless h f) (stops_unless h' f') = one_stop f f'
  one_stop (stops_note f) (stops_note f') = one_stop f f'
  one_stop (stops_side_none e) (stops_side_none e') = (refl, refl)
  one_stop (stops_side_none e) (stops_side_in c f) = clash e c
  one_stop (stops_side_none e) (stops_left c t h) = clash e c
  one_stop (stops_side_none e) (stops_side_after c t h f) = clash e c
  one_stop (stops_side_in c f) (stops_side_none e) = clash e c
  one_stop (stops_side_in {d = d} {a = a} {i = i} c f) (stops_side_in {a = a'} {z = z'} {y = y'} c' f') = let ea : a' ≡ a = cc in one_stop f (subst (λ (x : List Symbol). Stops S l d x i z' y') ea f')
  one_stop (stops_side_in {d = d} {a = a} {i = i} c f) (stops_left {a = a'} {m = m'} {p = p'} c' t h) = let ea : a' ≡ a = cc in absurd (not_both (subst (λ (x : List Symbol). Run S l d x i m' p') ea t) f)
  one_stop (stops_side_in {d = d} {a = a} {i = i} c f) (stops_side_after {a = a'} {m = m'} {p = p'} c' t h f') = let ea : a' ≡ a = cc in absurd (not_both (subst (λ (x : List Symbol). Run S l d x i m' p') ea t) f)
  one_stop (stops_left c t h) (stops_side_none e) = clash e c
  one_stop (stops_left {d = d} {a = a} {i = i} c t h) (stops_side_in {a = a'} {z = z'} {y = y'} c' f') = let ea : a' ≡ a = cc in absurd (not_both t (subst (λ (x : List Symbol). Stops S l d x i z' y') ea f'))
  one_stop (stops_left {d = d} {a = a} {i = i} c t h) (stops_left {a = a'} {m = m'} {p = p'} c' t' h') =
      let ea : a' ≡ a = cc in
      let k = one_run S l t (subst (λ (x : List Symbol). Run S l d x i m' p') ea t') in
      (k.0, ap left k.1)
  one_stop (stops_left {d = d} {a = a} {i = i} {m = m} {p = p} c t h) (stops_side_after {a = a'} {m = m'} {p = p'} c' t' h' f) =
      let ea : a' ≡ a = cc in
      let k = one_run S l t (subst (λ (x : List Symbol). Run S l d x i m' p') ea t') in
      absurd (T_not (may S l (l.is_path p) (peek S l m)) h (subst T (sym (peek_same k.0 k.1)) h'))
  one_stop (stops_side_after c t h f) (stops_side_none e) = clash e c
  one_stop (stops_side_after {d = d} {a = a} {i = i} c t h f) (stops_side_in {a = a'} {z = z'} {y = y'} c' f') = let ea : a' ≡ a = cc in absurd (not_both t (subst (λ (x : List Symbol). Stops S l d x i z' y') ea f'))
  one_stop (stops_side_after {d = d} {a = a} {i = i} {m = m} {p = p} c t h f) (stops_left {a = a'} {m = m'} {p = p'} c' t' h') =
      let ea : a' ≡ a = cc in
      let k = one_run S l t (subst (λ (x : List Symbol). Run S l d x i m' p') ea t') in
      absurd (T_not (may S l (l.is_path p') (peek S l m')) h' (subst T (peek_same k.0 k.1) h))
  one_stop (stops_side_after {d = d} {n₁ = n₁} {a = a} {s = s} {i = i} {m = m} {p = p} c t h f) (stops_side_after {a = a'} {m = m'} {z = z'} {p = p'} {y = y'} c' t' h' f') =
      let ea : a' ≡ a = cc in
      let k = one_run S l t (subst (λ (x : List Symbol). Run S l d x i m' p') ea t') in
      let en : l.is_path p' ≡ l.is_path p = cc k.1 in
      one_stop f (subst (λ (x : S.Place). Stops S l d (cond (l.is_path p) (phrase same n₁ ∷ s) s) x z' y') (sym k.0) (subst (λ (x : Bool). Stops S l d (cond x (phrase same n₁ ∷ s) s) m' z' y') en f'))

  -- so what is refused has no reading
  pub refused : T (all_good l l.rules) → {d : Counts} {s : List Symbol} {i r z : S.Place} {p : Parts} {y : Why} (f : List View) → T (closed l s f) → T (among (view S l r) f) → Stops S l d s i z y → Reading S l d s i r p → ⊥
  refused good f c m u t = not_both (complete S l good t f c m).0 u
