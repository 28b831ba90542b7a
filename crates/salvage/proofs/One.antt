-- The answer of C-23 is determined.
use Rattle.std.specs.Prelude.{Ok}
use mathlib.Core.Path.{◌≡◌, refl, sym, ap, subst, ◌∙◌}
use mathlib.Core.List.{List, [], ◌∷◌, ◌++◌}
use mathlib.Core.Bool.{Bool, true, false, cond}
use Prim.Native.Nat.{ℕ, ◌-◌, ◌*◌}
use native.Mathlib.Omega.{arith}
use lib.Dec.{eqb, ltb}
use lib.ListN.{length, replicate}
use borrow.Author.Tests.{lt-ltb, le-ltb}
use Rattle.chars.specs.declared.Answer.{Answer}
use Rattle.tokens.specs.Tokens.{whole_of, refusal}
use Rattle.tokens.specs.Blanks.{skip_all}
use Rattle.grammar.specs.Grammar.{over, Parts}
use Rattle.grammar.specs.Limits.{zeros}
use Rattle.grammar.specs.Table.{a}
use Rattle.grammar.specs.Kinds.{DECLARATION}
use Rattle.grammar.specs.Language.{roto}
use Rattle.grammar.specs.Readings.{Reading}
use Rattle.grammar.specs.Refusals.{Why, Refusal, said, Stops}
use Rattle.grammar.proofs.Refused.{one_stop}
use Rattle.answers.specs.Source.{source}
use Rattle.answers.specs.Entries.{Permitted}
use Rattle.answers.proofs.Ahead.{tokens_take}
use Rattle.answers.proofs.Determined.{one_permitted}
use Rattle.keeping.specs.Kept.{Kept, none, more, Ends}
use Rattle.keeping.proofs.Lists.{not_at_end}
use Rattle.keeping.proofs.Dropped.{pieces_keep}
use Rattle.keeping.proofs.Runs.{one_declaration, no_declaration}
use Rattle.keeping.specs.Breaks.{Breaks}
use Rattle.salvage.specs.Salvage.{end_of, blanked, Range, range, Salvage, whole, drops}
use Rattle.salvage.specs.Answers.{range_width, room_for, flat_ranges, many_ranges, Salvages, early, many_rows, many_ranges_lem, accepts}
use Rattle.salvage.specs.Theorems.{OneSalvage}

module _ (tests : Bool) (s : List ℕ) where
  -- no declaration stands there
  Halts : ℕ → Type 0
  Halts m = (j : ℕ) (p : Parts) → Reading (source s) (roto tests) zeros (a DECLARATION ∷ []) m j p → ⊥

  -- whole declarations up to such a place: there is one
  one_list : {i m m' : ℕ} → Kept (source s) (roto tests) i m → Kept (source s) (roto tests) i m' → Halts m → Halts m' → m ≡ m'
  unfolding Halts
  one_list none none h h' = refl
  one_list none (more r k) h h' = absurd (h _ _ r)
  one_list (more r k) none h h' = absurd (h' _ _ r)
  one_list {m' = m'} (more r k) (more r' k') h h' = one_list k (subst (λ (j : ℕ). Kept (source s) (roto tests) j m') (sym (one_declaration (source s) tests r r')) k') h h'

  end_halts : (m : ℕ) → (source s).look m ≡ over → Halts m
  unfolding Halts
  end_halts m e j p r = not_at_end tests ℕ (source s).look (source s).piece (λ n. length s - n) (tokens_take s) (pieces_keep s) r e

  break_halts : {i first : ℕ} {r : Refusal} (b : Breaks tests s i first r) → Halts b.behind
  unfolding Halts
  break_halts b j p r = no_declaration (source s) tests r b.stops

  -- there is one break, or none
  one_place : {i first first' : ℕ} {r r' : Refusal} (b : Breaks tests s i first r) (c : Breaks tests s i first' r') → b.behind ≡ c.behind
  one_place b c = one_list b.kept c.kept (break_halts b) (break_halts c)

  one_break : {i first first' : ℕ} {r r' : Refusal} → Breaks tests s i first r → Breaks tests s i first' r' → (first ≡ first') × (r ≡ r')
  one_break b c =
      let e = one_place b c in
      let k = one_stop (source s) (roto tests) (subst (λ (m : ℕ). Stops (source s) (roto tests) zeros (a DECLARATION ∷ []) m b.place b.why) e b.stops) c.stops in (
        b.begins ∙ ap (skip_all s) e ∙ sym c.begins,
        b.says ∙ ap (λ (z : ℕ). said (length s) ((source s).look z) b.why) k.0 ∙ ap (λ (y : Why). said (length s) ((source s).look c.place) y) k.1 ∙ sym c.says,
      )

  no_break : {i first : ℕ} {r : Refusal} → Ends (source s) (roto tests) i → Breaks tests s i first r → ⊥
  no_break e b = b.more (ap (source s).look (sym (one_list e.kept b.kept (end_halts e.stop e.whole) (break_halts b))) ∙ e.whole)

module _ (tests : Bool) where
  pub one_way : {s t t' : List ℕ} {i : ℕ} {rs rs' : List Range} → Salvage tests s i rs t → Salvage tests s i rs' t' → (rs ≡ rs') × (t ≡ t')
  one_way (whole e) (whole e') = (refl, refl)
  one_way (whole {s = s} e) (drops b u) = absurd (no_break tests s e b)
  one_way (drops {s = s} b u) (whole e) = absurd (no_break tests s e b)
  one_way {t' = t'} (drops {s = s} {first = first} {r = r} {rs = rs} b u) (drops {first = first'} {r = r'} {rs = rs'} c v) =
      let k = one_break tests s b c in
      let w = subst (λ (n : ℕ). Salvage tests (blanked s n (end_of s n r)) (end_of s n r) rs' t') (sym k.0) (subst (λ (x : Refusal). Salvage tests (blanked s first' (end_of s first' x)) (end_of s first' x) rs' t') (sym k.1) v) in
      let z = one_way u w in (
        ap (λ (l : List Range). range first (end_of s first r) r ∷ l) z.0
            ∙ ap (λ (n : ℕ). range n (end_of s n r) r ∷ rs') k.0
            ∙ ap (λ (x : Refusal). range first' (end_of s first' x) x ∷ rs') k.1,
        z.1,
      )

-- the answer from what was dropped, what is left and (a)'s answer to it
record Out : Type 0 where
  answer : Answer
  ranges : ℕ
  text : List ℕ
  rows : List ℕ
  table : List ℕ

abbrev out : Answer → ℕ → List ℕ → List ℕ → List ℕ → Out
out x n t u v = record { answer = x; ranges = n; text = t; rows = u; table = v }

module _ (tests : Bool) (s : List ℕ) (size size' : ℕ) where
  abbrev out_of : List Range → List ℕ → Answer → List ℕ → Out
  out_of rs t x u =
      cond (eqb x.number 10) (out x 0 t (replicate size 0) (replicate size' 0))
      (cond (ltb (room_for size') (length rs)) (out (many_ranges rs) 0 t (replicate size 0) (replicate size' 0))
      (out x (length rs) t u (flat_ranges rs ++ replicate (size' - range_width * length rs) 0)))

  record Way (o : Out) : Type 0 where
    drop : List Range
    left : List ℕ
    said_of : Answer
    its_rows : List ℕ
    salvage : Salvage tests s 0 drop left
    reads : Permitted tests true left size said_of its_rows
    is_out : out_of drop left said_of its_rows ≡ o

  one_out : {o o' : Out} → Way o → Way o' → o ≡ o'
  one_out w w' =
      let k = one_way tests w.salvage w'.salvage in
      let z = one_permitted tests true w'.left size (subst (λ (t : List ℕ). Permitted tests true t size w.said_of w.its_rows) k.1 w.reads) w'.reads in
      sym w.is_out
      ∙ ap (λ (l : List Range). out_of l w.left w.said_of w.its_rows) k.0
      ∙ ap (λ (t : List ℕ). out_of w'.drop t w.said_of w.its_rows) k.1
      ∙ ap (λ (x : Answer). out_of w'.drop w'.left x w.its_rows) z.0
      ∙ ap (λ (u : List ℕ). out_of w'.drop w'.left w'.said_of u) z.1
      ∙ w'.is_out

  ten : (n : ℕ) → n ≡ 10 → eqb n 10 ≡ true
  ten n e = ap (λ (m : ℕ). eqb m 10) e

  none_ten : (n : ℕ) → n ≡ 0 → eqb n 10 ≡ false
  none_ten n e = ap (λ (m : ℕ). eqb m 10) e

  way : {x : Answer} {n : ℕ} {t u v : List ℕ} → Salvages tests s size size' x n t u v → whole_of s ≡ (Ok tt) → Way (out x n t u v)
  way (early e) f = let z : ◌≡◌ {A = ℕ} 0 1 = cc in absurd (omega arith)
  way (many_rows {rs = rs} {t = t} {u = u} {x = x} f w p e) g = record { drop = rs; left = t; said_of = x; its_rows = u; salvage = w; reads = p; is_out = rw (ten x.number e) refl }
  way (many_ranges_lem {rs = rs} {t = t} {u = u} {x = x} f w p e h) g = record { drop = rs; left = t; said_of = x; its_rows = u; salvage = w; reads = p; is_out = rw (none_ten x.number e, lt-ltb (room_for size') (length rs) h) refl }
  way (accepts {rs = rs} {t = t} {u = u} {x = x} f w p e h) g = record { drop = rs; left = t; said_of = x; its_rows = u; salvage = w; reads = p; is_out = rw (none_ten x.number e, le-ltb (room_for size') (length rs) h) refl }

  parted : {x y : Answer} {n m : ℕ} {t u v t' u' v' : List ℕ} → out x n t u v ≡ out y m t' u' v' → (x ≡ y) × (n ≡ m) × (t ≡ t') × (u ≡ u') × (v ≡ v')
  parted e = (ap (λ (o : Out). o.answer) e, ap (λ (o : Out). o.ranges) e, ap (λ (o : Out). o.text) e, ap (λ (o : Out). o.rows) e, ap (λ (o : Out). o.table) e)

  one : {x y : Answer} {n m : ℕ} {t u v t' u' v' : List ℕ} → Salvages tests s size size' x n t u v → Salvages tests s size size' y m t' u' v' → (x ≡ y) × (n ≡ m) × (t ≡ t') × (u ≡ u') × (v ≡ v')
  one (early {r = r} e) (early {r = r'} e') = let q : r ≡ r' = cc in (ap refusal q, refl, refl, refl, refl)
  one (early e) (many_rows f w p k) = let z : ◌≡◌ {A = ℕ} 0 1 = cc in absurd (omega arith)
  one (early e) (many_ranges_lem f w p k h) = let z : ◌≡◌ {A = ℕ} 0 1 = cc in absurd (omega arith)
  one (early e) (accepts f w p k h) = let z : ◌≡◌ {A = ℕ} 0 1 = cc in absurd (omega arith)
  one (many_rows f w p k) z = parted (one_out (way (many_rows f w p k) f) (way z f))
  one (many_ranges_lem f w p k h) z = parted (one_out (way (many_ranges_lem f w p k h) f) (way z f))
  one (accepts f w p k h) z = parted (one_out (way (accepts f w p k h) f) (way z f))

  pub one_salvage : OneSalvage tests s size size'
  one_salvage = record { one = one }
