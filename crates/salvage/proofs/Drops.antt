-- The loop that drops what is broken, and the answer.
use Rattle.std.specs.Prelude.{Some, None, Ok, Err}
use mathlib.Core.Path.{◌≡◌, refl, sym, ap, subst, ◌∙◌}
use mathlib.Core.List.{List, [], ◌∷◌, ◌++◌, append_assoc, append-nil}
use mathlib.Core.Bool.{true, false, cond}
use mathlib.Core.Logic.{◌⊎◌, inl, inr, ◌≢◌}
use Prim.Native.Nat.{ℕ, ◌+◌, ◌-◌, ◌*◌, ◌/◌, ◌≤◌, ◌<◌}
use native.Mathlib.Decide.{dec_lt}
use native.Mathlib.Omega.{arith}
use lib.Dec.{ltb}
use lib.ListN.{length, replicate, length-append, length-drop}
use lib.ListN as lists
use lib.Seq.{sets, sets-eq}
use borrow.Author.Tests.{lt-ltb, le-ltb}
use Rattle.chars.specs.declared.Answer.{Answer}
use Rattle.rows.specs.Rows.{zeroed}
use Rattle.strings.proofs.Utf8.{sets_append}
use Rattle.tokens.specs.declared.Refusal as lexer
use Rattle.tokens.specs.Tokens.{whole_of, refusal}
use Rattle.grammar.specs.Refusals.{Refusal}
use Rattle.grammar.specs.Language.{roto}
use Rattle.answers.specs.Source.{source}
use Rattle.answers.specs.Entries.{Permitted}
use Rattle.entry.proofs.Stored.{zeroed_all, zeroed_behind}
use Rattle.keeping.specs.Kept.{Ends}
use Rattle.keeping.specs.Breaks.{Breaks}
use Rattle.salvage.specs.Results.{Break}
use Rattle.salvage.specs.Salvage.{end_of, blanked, Range, range, Salvage, whole, drops}
use Rattle.salvage.specs.Rows.{Upto, Through, ReachesIs, Reaches}
use Rattle.salvage.specs.Answers.{room_for, flat_ranges, Salvages, early, many_rows, many_ranges_lem, accepts}
use Rattle.salvage.specs.Steps.{range_numbers, noted, Drops, Left, Keeps}
use Rattle.salvage.proofs.Blanked.{blanked_length}
use Rattle.salvage.proofs.Left.{Bounds, bounds}
use Rattle.salvage.proofs.Stores.{noted_length}
use Rattle.salvage.proofs.Fresh.{always_fresh, fresh_answer}

abbrev plainly : lexer.Refusal → Refusal
plainly r = record { number = r.number; start = r.start; end = r.end }

flat_append : (xs ys : List Range) → flat_ranges (xs ++ ys) ≡ flat_ranges xs ++ flat_ranges ys
flat_append [] ys = refl
flat_append (x ∷ xs) ys = ap (λ (l : List ℕ). x.start ∷ x.end ∷ x.refusal.number ∷ x.refusal.start ∷ x.refusal.end ∷ l) (flat_append xs ys)

flat_length : (xs : List Range) → length (flat_ranges xs) ≡ length xs * 5
flat_length [] = refl
flat_length (x ∷ xs) = let h = flat_length xs in omega (arith, h)

pub none_dropped : (s t : List ℕ) → Drops s t s 0 t 0
none_dropped s t = record { ranges = []; goes = λ rs u x. x; count = refl; stored = λ h. refl; text = refl; table = refl; inside = omega arith; few = omega arith }

module _ {s₀ t₀ s : List ℕ} {at : ℕ} {t : List ℕ} {n : ℕ} (d : Drops s₀ t₀ s at t n) where
  pub all_dropped : Ends (source s) (roto false) at → Left s₀ t₀ s t n
  all_dropped e = record { ranges = d.ranges; salvage = subst (λ (l : List Range). Salvage false s₀ 0 l s) (append-nil d.ranges) (d.goes [] s (whole e)); count = d.count; stored = d.stored; table = d.table; text = d.text }

  module _ {first : ℕ} (why : lexer.Refusal) (b : Breaks false s at first (plainly why)) {e : ℕ} (to : e ≡ end_of s first (plainly why)) where
    box : Bounds false s at first (plainly why) b
    box = bounds false s b

    -- where it lies, and that the loop goes on
    pub lies : (at ≤ first) × (first < e) × (e ≤ length s)
    lies = let x = box.from in let y = box.over in let z = box.end in (x, omega (arith, y, to), omega (arith, z, to))

    new : Range
    new = range first e (plainly why)

    kept_on : n + 1 ≤ room_for (length t₀) → noted t n first e why ≡ sets t₀ 0 (flat_ranges (d.ranges ++ (new ∷ [])))
    unfolding new
    kept_on h =
        let c = d.count in
        let l = flat_length d.ranges in
        let q : 0 + length (flat_ranges d.ranges) ≡ n * 5 = omega (arith, c, l) in
        let w : n < room_for (length t) = subst (λ (m : ℕ). n < room_for m) (sym d.table) (omega (arith, h)) in
        rw (lt-ltb n (room_for (length t)) w) (
        ap (λ (l : List ℕ). sets l (n * 5) (range_numbers first e why)) (d.stored (omega (arith, h)))
        ∙ ap (λ (m : ℕ). sets (sets t₀ 0 (flat_ranges d.ranges)) m (range_numbers first e why)) (sym q)
        ∙ sym (sets_append t₀ 0 (flat_ranges d.ranges) (range_numbers first e why))
        ∙ ap (sets t₀ 0) (sym (flat_append d.ranges (range first e (plainly why) ∷ [])))
        )

    pub one_dropped : {s' t' : List ℕ} → s' ≡ blanked s first e → t' ≡ noted t n first e why → Drops s₀ t₀ s' e t' (n + 1)
    unfolding new
    one_dropped {s'} {t'} f g =
        let l = lies in
        let x = l.0 in
        let y = l.1 in
        let z = l.2 in
        let k = d.few in
        let len : length s' ≡ length s = ap length f ∙ blanked_length s first e (omega (arith, y)) z in
        let c = d.count in
        record {
          ranges = d.ranges ++ (range first e (plainly why) ∷ []);
          goes = λ rs u v. subst (λ (r : List Range). Salvage false s₀ 0 r u) (sym (append_assoc d.ranges (range first e (plainly why) ∷ []) rs)) (d.goes (range first e (plainly why) ∷ rs) u (step rs u v f));
          count = length-append d.ranges (range first e (plainly why) ∷ []) ∙ omega (arith, c);
          stored = λ h. g ∙ kept_on h;
          text = len ∙ d.text;
          table = ap length g ∙ noted_length t n first e why ∙ d.table;
          inside = omega (arith, z, len);
          few = omega (arith, k, x, y);
        }
      where
        step : (rs : List Range) (u : List ℕ) {s' : List ℕ} → Salvage false s' e rs u → s' ≡ blanked s first e → Salvage false s at (range first e (plainly why) ∷ rs) u
        step rs u v f =
            let w : Salvage false (blanked s first (end_of s first (plainly why))) (end_of s first (plainly why)) rs u = subst (λ (m : ℕ). Salvage false (blanked s first m) m rs u) to (subst (λ (l : List ℕ). Salvage false l e rs u) f v) in
            subst (λ (m : ℕ). Salvage false s at (range first m (plainly why) ∷ rs) u) (sym to) (drops b w)

pub search_in : (first start : ℕ) → first < start → start ≡ cond (ltb first start) start (first + 1)
search_in first start h = rw (lt-ltb first start h) refl

pub search_out : (first start : ℕ) → start ≤ first → first + 1 ≡ cond (ltb first start) start (first + 1)
search_out first start h = rw (le-ltb first start h) refl

-- how the declarations end
module _ {s : List ℕ} {i : ℕ} {t : List ℕ} {n c : ℕ} {r : Break} {t' : List ℕ} (b : Reaches s i t n c r t') where
  pub ended : r ≡ None → Ends (source s) (roto false) i × Through s t' n c
  ended e = subst (ReachesIs s i t' n c) e b.is

  pub broke : {first : ℕ} {why : lexer.Refusal} → r ≡ Some (first, why) → (b : Breaks false s i first (plainly why)) × Upto s b.behind t' n c
  broke e = subst (ReachesIs s i t' n c) e b.is

-- which of the tables is kept
module _ (t v : List ℕ) {x : Answer} {n : ℕ} {y : Answer} {m : ℕ} {t' v' : List ℕ} where
  pub keeps_all : x.number ≡ 0 → n ≤ length v / 5 → (y ≡ x) × (m ≡ n) → t' ≡ t → v' ≡ zeroed v (n * 5) → Keeps t v x n y m t' v'
  keeps_all e h p q w = (λ f k. (p.0, p.1, q, w), λ f k. absurd (omega (arith, h, k)), λ f. absurd (f e))

  pub keeps_many : x.number ≡ 0 → length v / 5 < n → (y ≡ record { number = 10; start = 0; end = 0; count = n }) × (m ≡ 0) → t' ≡ zeroed t 0 → v' ≡ zeroed v 0 → Keeps t v x n y m t' v'
  keeps_many e h p q w = (λ f k. absurd (omega (arith, h, k)), λ f k. (p.0, p.1, q, w), λ f. absurd (f e))

  pub keeps_rows : x.number ≢ 0 → (y ≡ x) × (m ≡ 0) → t' ≡ zeroed t 0 → v' ≡ zeroed v 0 → Keeps t v x n y m t' v'
  keeps_rows e p q w = (λ f k. absurd (e f), λ f k. absurd (e f), λ f. (p.0, p.1, q, w))

-- the answer
module _ (s t v : List ℕ) {y : Answer} {m : ℕ} {t' v' : List ℕ} where
  said_as : {s' : List ℕ} {x : Answer} {n : ℕ} {u w : List ℕ} → y ≡ x → m ≡ n → t' ≡ u → v' ≡ w → Salvages false s (length t) (length v) x n s' u w → Salvages false s (length t) (length v) y m s' t' v'
  said_as {s'} {x} {n} {u} {w} e f g h z =
      subst (λ (k : Answer). Salvages false s (length t) (length v) k m s' t' v') (sym e)
      (subst (λ (k : ℕ). Salvages false s (length t) (length v) x k s' t' v') (sym f)
      (subst (λ (k : List ℕ). Salvages false s (length t) (length v) x n s' k v') (sym g)
      (subst (λ (k : List ℕ). Salvages false s (length t) (length v) x n s' u k) (sym h) z)))

  pub salvage_early : {r : lexer.Refusal} {a : Answer} → whole_of s ≡ Err r → (a ≡ refusal r) × (t' ≡ zeroed t 0) → v' ≡ zeroed v 0 → (y ≡ a) × (m ≡ 0) → Salvages false s (length t) (length v) y m s t' v'
  salvage_early e p q w = said_as (w.0 ∙ p.0) w.1 (p.1 ∙ zeroed_all t) (q ∙ zeroed_all v) (early e)

  module _ {s' v₁ t₁ : List ℕ} {n : ℕ} {x : Answer} (fine : whole_of s ≡ (Ok tt)) (d : Left s v s' v₁ n) (p : Permitted false true s' (length t) x t₁) (k : Keeps t₁ v₁ x n y m t' v') (same : length t₁ ≡ length t) where
    zero_rows : zeroed t₁ 0 ≡ replicate (length t) 0
    zero_rows = zeroed_all t₁ ∙ ap (λ (l : ℕ). replicate l 0) same

    zero_ranges : zeroed v₁ 0 ≡ replicate (length v) 0
    zero_ranges = zeroed_all v₁ ∙ ap (λ (l : ℕ). replicate l 0) d.table

    all_ranges : n ≤ room_for (length v) → zeroed v₁ (n * 5) ≡ flat_ranges d.ranges ++ replicate (length v - 5 * length d.ranges) 0
    all_ranges h =
        let xs : List ℕ = flat_ranges d.ranges in
        let l = flat_length d.ranges in
        let c = d.count in
        let a₁ : n * 5 ≡ length xs = omega (arith, l, c) in
        let a₂ : 0 + length xs ≡ length xs = omega arith in
        let z = length-drop (length xs) v in
        let a₃ : length (lists.drop (length xs) v) ≡ length v - 5 * length d.ranges = omega (arith, z, l) in
        ap (λ (l : List ℕ). zeroed l (n * 5)) (d.stored h)
        ∙ ap (zeroed (sets v 0 xs)) a₁
        ∙ ap (λ (l : List ℕ). zeroed l (length xs)) (sets-eq xs v 0 (omega (arith, l, c, h)) ∙ ap (λ (q : ℕ). xs ++ lists.drop q v) a₂)
        ∙ zeroed_behind xs (lists.drop (length xs) v)
        ∙ ap (λ (q : ℕ). xs ++ replicate q 0) a₃

    pub salvage_kept : Salvages false s (length t) (length v) y m s' t' v'
    salvage_kept = elim (fresh_answer false ((always_fresh false s).fresh fine d.salvage) p) [
      | inr e ↦ (let f : x.number ≢ 0 = λ z. omega (arith, e, z) in let q = k.2 f in said_as q.0 q.1 (q.2 ∙ zero_rows) (q.3 ∙ zero_ranges) (many_rows fine d.salvage p e))
      | inl e ↦ elim (dec_lt (room_for (length v)) n) [
        | yes h ↦ (let q = k.1 e (subst (λ (l : ℕ). room_for l < n) (sym d.table) h) in
            let c = d.count in
            said_as (q.0 ∙ ap (λ (l : ℕ). record { number = 10; start = 0; end = 0; count = l }) (sym c)) q.1 (q.2 ∙ zero_rows) (q.3 ∙ zero_ranges) (many_ranges_lem fine d.salvage p e (subst (λ (l : ℕ). room_for (length v) < l) (sym c) h)))
        | no h ↦ (let g : n ≤ room_for (length v) = omega (arith, h) in
            let q = k.0 e (subst (λ (l : ℕ). n ≤ room_for l) (sym d.table) g) in
            let c = d.count in
            said_as q.0 (q.1 ∙ sym c) q.2 (q.3 ∙ all_ranges g) (accepts fine d.salvage p e (subst (λ (l : ℕ). l ≤ room_for (length v)) (sym c) g)))
      ]
    ]
