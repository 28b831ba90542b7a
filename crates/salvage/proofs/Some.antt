-- Every source has an answer of C-23.
use Rattle.std.specs.Prelude.{Ok, Err}
use mathlib.Core.Path.{◌≡◌, refl, sym, ◌∙◌}
use mathlib.Core.List.{List, [], ◌∷◌}
use mathlib.Core.Bool.{Bool, true}
use mathlib.Core.Logic.{◌⊎◌, inl, inr}
use Prim.Native.Nat.{ℕ, zero, suc, ◌+◌, ◌-◌, ◌<◌}
use native.Mathlib.Decide.{dec_lt}
use native.Mathlib.Omega.{arith}
use lib.ListN.{length}
use Rattle.chars.specs.declared.Answer.{Answer}
use Rattle.tokens.specs.Results.{Whole}
use Rattle.tokens.specs.Tokens.{whole_of}
use Rattle.tokens.specs.Blanks.{skip_all}
use Rattle.grammar.specs.Grammar.{Look, found, over, wrong, Parts}
use Rattle.grammar.specs.Limits.{zeros}
use Rattle.grammar.specs.Table.{a}
use Rattle.grammar.specs.Kinds.{DECLARATION}
use Rattle.grammar.specs.Language.{roto}
use Rattle.grammar.specs.Readings.{Reading}
use Rattle.grammar.specs.Refusals.{Refusal, said}
use Rattle.grammar.proofs.Core.{sound}
use Rattle.grammar.proofs.Checks.{roto_grounded, roto_full}
use Rattle.grammar.proofs.Decided.{Decided, decided}
use Rattle.answers.specs.Source.{source}
use Rattle.answers.proofs.Ahead.{tokens_take}
use Rattle.answers.proofs.Bytes.{a_permitted}
use Rattle.keeping.specs.Kept.{none, more, Ends}
use Rattle.keeping.proofs.Lists.{declaration_takes}
use Rattle.keeping.proofs.Dropped.{pieces_keep}
use Rattle.keeping.specs.Breaks.{Breaks}
use Rattle.salvage.specs.Salvage.{end_of, blanked, Range, range, Salvage, whole, drops}
use Rattle.salvage.specs.Answers.{room_for, Salvages, early, many_rows, many_ranges_lem, accepts}
use Rattle.salvage.proofs.Blanked.{blanked_length}
use Rattle.salvage.proofs.Left.{bounds}
use Rattle.salvage.proofs.Fresh.{is_fresh, fresh_answer}

module _ (tests : Bool) where
  -- from a place on declarations stand up to the end, or up to a break
  Stands : List ℕ → ℕ → Type 0
  Stands s i = Ends (source s) (roto tests) i ⊎ ((first : ℕ) × (r : Refusal) × Breaks tests s i first r)

  one_more : (s : List ℕ) {i m : ℕ} {p : Parts} → Reading (source s) (roto tests) zeros (a DECLARATION ∷ []) i m p → Stands s m → Stands s i
  unfolding Stands
  one_more s r (inl e) = inl (record { stop = e.stop; kept = more r e.kept; whole = e.whole })
  one_more s r (inr b) = inr (b.0, b.1, record { behind = b.2.behind; kept = more r b.2.kept; more = b.2.more; begins = b.2.begins; place = b.2.place; why = b.2.why; stops = b.2.stops; says = b.2.says })

  stands : (n : ℕ) (s : List ℕ) (i : ℕ) → length s - i < n → Stands s i
  unfolding Stands
  stands zero s i h = absurd (omega (arith, h))
  stands (suc n) s i h = by ((source s).look i) refl (decided (roto tests) (roto_grounded tests) (roto_full tests) (source s) (λ k. length s - k) (tokens_take s) (pieces_keep s) zeros (a DECLARATION ∷ []) i) (λ j l. stands n s j l)
    where
      none_over : {x : Look ℕ} → (x ≡ over → ⊥) → (source s).look i ≡ x → (source s).look i ≡ over → ⊥
      none_over f e q = f (sym e ∙ q)

      go : ((source s).look i ≡ over → ⊥) → Decided (roto tests) (roto_grounded tests) (roto_full tests) (source s) (λ k. length s - k) (tokens_take s) (pieces_keep s) zeros (a DECLARATION ∷ []) i → ((j : ℕ) → length s - j < n → Stands s j) → Stands s i
      go f (inl r) ih = let t = sound (source s) (roto tests) r.run in let l = declaration_takes tests ℕ (source s).look (source s).piece (λ k. length s - k) (tokens_take s) (pieces_keep s) t in one_more s t (ih r.to (omega arith))
      go f (inr r) ih = inr (skip_all s i, said (length s) ((source s).look r.at) r.why, record { behind = i; kept = none; more = f; begins = refl; place = r.at; why = r.why; stops = r.stop; says = refl })

      by : (k : Look ℕ) → (source s).look i ≡ k → Decided (roto tests) (roto_grounded tests) (roto_full tests) (source s) (λ k. length s - k) (tokens_take s) (pieces_keep s) zeros (a DECLARATION ∷ []) i → ((j : ℕ) → length s - j < n → Stands s j) → Stands s i
      by over e d ih = inl (record { stop = i; kept = none; whole = e })
      by (found x j) e d ih = go (none_over (λ q. let z : ◌≡◌ {A = ℕ} 0 1 = cc in omega arith) e) d ih
      by (wrong m b c) e d ih = go (none_over (λ q. let z : ◌≡◌ {A = ℕ} 0 1 = cc in omega arith) e) d ih

  salvaging : (n : ℕ) (s : List ℕ) (i : ℕ) → length s - i < n → (rs : List Range) × (t : List ℕ) × Salvage tests s i rs t
  unfolding Stands
  salvaging zero s i h = absurd (omega (arith, h))
  salvaging (suc n) s i h = by (stands (suc n) s i h) (λ t j l. salvaging n t j l)
    where
      by : Stands s i → ((t : List ℕ) (j : ℕ) → length t - j < n → (rs : List Range) × (u : List ℕ) × Salvage tests t j rs u) → (rs : List Range) × (t : List ℕ) × Salvage tests s i rs t
      by (inl e) ih = ([], s, whole e)
      by (inr x) ih =
          let first : ℕ = x.0 in
          let r : Refusal = x.1 in
          let z = bounds tests s x.2 in
          let f = z.from in
          let g = z.over in
          let e = z.end in
          let l = blanked_length s first (end_of s first r) (omega arith) e in
          let u = ih (blanked s first (end_of s first r)) (end_of s first r) (omega arith) in
          (range first (end_of s first r) r ∷ u.0, u.1, drops x.2 u.2)

  -- an answer with what then stands in all that was lent
  pub Some : List ℕ → ℕ → ℕ → Type 0
  Some s size size' = (x : Answer) × (n : ℕ) × (t : List ℕ) × (u : List ℕ) × (v : List ℕ) × Salvages tests s size size' x n t u v

  pub a_salvage : (s : List ℕ) (size size' : ℕ) → Some s size size'
  unfolding Some
  a_salvage s size size' = by (whole_of s) refl
    where
      by : (w : Whole) → whole_of s ≡ w → Some s size size'
      by (Err r) e = (_, _, _, _, _, early e)
      by (Ok tt) e =
          let k = salvaging (length s + 1) s 0 (omega arith) in
          let p = a_permitted tests true k.1 size in
          elim (fresh_answer tests (is_fresh tests e k.2) p.2) [
            | inr q ↦ (_, _, _, _, _, many_rows e k.2 p.2 q)
            | inl q ↦ elim (dec_lt (room_for size') (length k.0)) [
              | yes l ↦ (_, _, _, _, _, many_ranges_lem e k.2 p.2 q l)
              | no l ↦ (_, _, _, _, _, accepts e k.2 p.2 q (omega arith))
            ]
          ]
