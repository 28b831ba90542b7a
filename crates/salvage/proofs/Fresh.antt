-- "What is kept must be exactly the declarations as a fresh read gives them": the text that is left has a reading. And every byte is
-- covered.
use Rattle.std.specs.Prelude.{Ok}
use mathlib.Core.Path.{◌≡◌, ap}
use mathlib.Core.List.{List}
use mathlib.Core.Bool.{Bool, true, false, cond}
use mathlib.Core.Logic.{◌⊎◌, inl, inr}
use Prim.Native.Nat.{ℕ, ◌<◌, ◌≤◌}
use native.Mathlib.Decide.{dec_lt}
use native.Mathlib.Omega.{arith}
use lib.Dec.{leb}
use lib.ListN.{length}
use Rattle.chars.specs.declared.Answer.{Answer}
use Rattle.tokens.specs.Tokens.{whole_of}
use Rattle.tokens.specs.Blanks.{skip_all}
use Rattle.grammar.specs.Grammar.{over}
use Rattle.grammar.specs.Language.{roto}
use Rattle.grammar.specs.Rows.{rows}
use Rattle.answers.specs.Source.{source}
use Rattle.answers.specs.Entries.{room, Permitted}
use Rattle.answers.proofs.Determined.{one_permitted, reading_accepted}
use Rattle.answers.proofs.Shebang.{reading_fine}
use Rattle.keeping.specs.Kept.{Kept, none, more}
use Rattle.keeping.proofs.Lists.{kept_append, kept_text}
use Rattle.keeping.proofs.Looks.{over_end}
use Rattle.salvage.specs.Salvage.{Range, Salvage}
use Rattle.salvage.specs.Theorems.{Fresh, AlwaysFresh, Dropped, Declared, Skipped, Stays, Cover}
use Rattle.salvage.proofs.Fine.{short, low}
use Rattle.salvage.proofs.Left.{left_length, left_or_dropped, left_ends, left_low}

module _ (tests : Bool) where
  pub is_fresh : {s t : List ℕ} {rs : List Range} → whole_of s ≡ (Ok tt) → Salvage tests s 0 rs t → Fresh tests t
  is_fresh {s} {t} f u =
      let x = kept_text tests (source t) (left_ends tests u) in
      let n = left_length tests u in
      let h = short s f in
      record { fine = reading_fine tests true t (omega arith) (λ i k. left_low tests u (low s f) i (omega arith)) x.1; parts = x.0; reading = x.1 }

  pub always_fresh : (s : List ℕ) → AlwaysFresh tests s
  always_fresh s = record { fresh = is_fresh }

  -- so (a) answers it with 0 or 10
  pub fresh_answer : {t u : List ℕ} {size : ℕ} {x : Answer} → Fresh tests t → Permitted tests true t size x u → (x.number ≡ 0) ⊎ (x.number ≡ 10)
  fresh_answer {t} {size = size} {x} f p = by (leb n (room size)) (one_permitted tests true t size p (reading_accepted tests true t size f.fine f.reading)).0
    where
      n : ℕ
      n = length (rows true (length t) f.parts)

      by : (b : Bool) → x ≡ cond b (record { number = 0; start = 0; end = length t; count = n }) (record { number = 10; start = 0; end = 0; count = n }) → (x.number ≡ 0) ⊎ (x.number ≡ 10)
      by true e = inl (ap (λ (y : Answer). y.number) e)
      by false e = inr (ap (λ (y : Answer). y.number) e)

  -- behind whole declarations, a byte is one of the next, or skipped before it, or stands behind it
  stands : (t : List ℕ) {i m : ℕ} → Kept (source t) (roto tests) 0 i → Kept (source t) (roto tests) i m → (source t).look m ≡ over → (n : ℕ) → i ≤ n → n < length t → Declared tests t n ⊎ Skipped tests t n
  stands t {i} b none e n h l = let k = over_end t i e in inr (record { from = i; before = b; first = h; last = omega arith })
  stands t {i} b (more {j = j} {p = p} r k) e n h l = elim (dec_lt n (skip_all t i)) [
    | yes g ↦ inr (record { from = i; before = b; first = h; last = g })
    | no g ↦ elim (dec_lt n j) [
      | yes f ↦ inl (record { from = i; to = j; parts = p; before = b; reads = r; first = omega arith; last = f })
      | no f ↦ stands t (kept_append tests (source t) b (more r none)) k e n (omega arith) l
    ]
  ]

  covering : {s t : List ℕ} {rs : List Range} → Salvage tests s 0 rs t → (n : ℕ) → n < length s → Dropped n rs ⊎ Stays tests s t n
  covering {t = t} u n h =
      let e = left_ends tests u in
      let l = left_length tests u in
      elim (left_or_dropped tests u n) [
        | inl d ↦ inl d
        | inr q ↦ inr (record { same = q; stands = stands t none e.kept e.whole n (omega arith) (omega arith) })
      ]

  pub cover : (s : List ℕ) → Cover tests s
  cover s = record { covers = covering }
