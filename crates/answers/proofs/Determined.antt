-- Two answers to one source coincide, and so do the tables; a source is accepted exactly when it has a reading.
use Rattle.std.specs.Prelude.{Ok, Err}
use mathlib.Core.Path.{◌≡◌, refl, sym, ap, subst}
use mathlib.Core.List.{List, ◌++◌}
use mathlib.Core.Bool.{Bool, true, false, ◌||◌, cond}
use Prim.Native.Nat.{ℕ, ◌-◌, ◌*◌, ◌≤◌}
use lib.Dec.{T, eqb, ltb, leb, leb→le}
use lib.ListN.{length, replicate}
use native.Mathlib.Omega.{arith}
use Rattle.chars.specs.declared.Class.TheVariants.{Ascii}
use Rattle.chars.specs.Chars.{is_class}
use Rattle.chars.specs.Runs.{past_run}
use Rattle.tokens.specs.declared.Refusal.{Refusal}
use Rattle.chars.specs.declared.Answer.{Answer}
use Rattle.tokens.specs.Results.{Whole}
use Rattle.tokens.specs.Rules.{pair_at}
use Rattle.tokens.specs.Tokens.{whole_of, refusal, counted}
use Rattle.grammar.specs.Grammar.{Parts}
use Rattle.grammar.specs.Readings.{Text}
use Rattle.rows.specs.Rows.{width}
use Rattle.grammar.specs.Rows.{flat, rows}
use Rattle.grammar.specs.Language.{roto, goal}
use Rattle.grammar.specs.Answers.{accepted, accepts, stops, leaves}
use Rattle.grammar.proofs.Bools.{and_l}
use Rattle.grammar.proofs.Demand.{is_refusal, one_answer, refused_number}
use Rattle.answers.specs.Source.{source}
use Rattle.answers.proofs.Scans.{look_number}
use Rattle.answers.specs.Entries.{room, answer_for, table_for, Permitted, early, read}

-- 1, 2, 3 come before
data Tested : Whole → Type 0 where
  tested_fine : Tested (Ok tt)
  tested_bad : {r : Refusal} → 1 ≤ r.number → r.number ≤ 3 → Tested (Err r)

tested_pick : (b : Bool) {x d : Whole} → Tested x → Tested d → Tested (cond b x d)
tested_pick true h k = h
tested_pick false h k = k

tested_whole : (s : List ℕ) → Tested (whole_of s)
unfolding whole_of
tested_whole s =
    let high : ℕ = past_run (is_class Ascii) s 0 in
    tested_pick (ltb 65535 (length s)) (tested_bad (omega arith) (omega arith))
    (tested_pick (ltb high (length s)) (tested_bad (omega arith) (omega arith))
    (tested_pick (pair_at s 0 35 33) (tested_bad (omega arith) (omega arith))
    tested_fine))

pub whole_number : (s : List ℕ) (r : Refusal) → whole_of s ≡ Err r → (1 ≤ r.number) × (r.number ≤ 3)
whole_number s r e = go (whole_of s) (tested_whole s) e
  where
    go : (w : Whole) → Tested w → w ≡ Err r → (1 ≤ r.number) × (r.number ≤ 3)
    go (Ok tt) h q = let z : ◌≡◌ {A = ℕ} 0 1 = cc in absurd (omega arith)
    go (Err r') (tested_bad h i) q = let k : r' ≡ r = cc in subst (λ (x : Refusal). (1 ≤ x.number) × (x.number ≤ 3)) k (h, i)

zero_refusal : (n : ℕ) → T (is_refusal n) → n ≡ 0 → ⊥
zero_refusal n h e = let k = leb→le 4 n (and_l (leb 4 n) (leb n 9 || eqb n 11) h) in omega arith

module _ (tests tree : Bool) (s : List ℕ) (size : ℕ) where
  pub one_permitted : {a b : Answer} {t u : List ℕ} → Permitted tests tree s size a t → Permitted tests tree s size b u → (a ≡ b) × (t ≡ u)
  one_permitted (early {r = r} e) (early {r = r'} e') = let q : r ≡ r' = cc in (ap refusal q, refl)
  one_permitted (early e) (read e' h) = let z : ◌≡◌ {A = ℕ} 0 1 = cc in absurd (omega arith)
  one_permitted (read e h) (early e') = let z : ◌≡◌ {A = ℕ} 0 1 = cc in absurd (omega arith)
  one_permitted (read {g = g} e h) (read {g = g'} e' h') =
      let q : g ≡ g' = one_answer (source s) tests tree (length s) h h' in
      (ap (answer_for (length s) size) q, ap (table_for size) q)

  -- accepted: there is a reading, it has no more rows than there is room for, and they stand first in the table
  pub record Accepted (a : Answer) (t : List ℕ) : Type 0 where
    pub parts : Parts
    pub text : Text (source s) (roto tests) (goal tree) 0 parts
    pub fits : T (leb (length (rows tree (length s) parts)) (room size))
    pub answer : a ≡ record { number = 0; start = 0; end = length s; count = length (rows tree (length s) parts) }
    pub table : t ≡ flat (rows tree (length s) parts) ++ replicate (size - width * length (rows tree (length s) parts)) 0

  pub accepted_reads : {a : Answer} {t : List ℕ} → Permitted tests tree s size a t → a.number ≡ 0 → Accepted a t
  accepted_reads (early {r = r} e) q = absurd (let h = (whole_number s r e).0 in omega arith)
  accepted_reads (read e (accepts {p = p} x)) q = go (leb (length (rows tree (length s) p)) (room size)) refl q
    where
      n : ℕ
      n = length (rows tree (length s) p)

      yes_answer : Answer
      yes_answer = record { number = 0; start = 0; end = length s; count = n }

      no_answer : Answer
      no_answer = record { number = 10; start = 0; end = 0; count = n }

      yes_table : List ℕ
      yes_table = flat (rows tree (length s) p) ++ replicate (size - width * n) 0

      go : (b : Bool) → leb n (room size) ≡ b → (cond b yes_answer no_answer).number ≡ 0 → Accepted (cond b yes_answer no_answer) (cond b yes_table (replicate size 0))
      go true e k = record { parts = p; text = x; fits = subst T (sym e) tt; answer = refl; table = refl }
      go false e k = absurd (omega arith)
  accepted_reads (read e (stops {z = z} {y = y} f)) q = absurd (zero_refusal _ (refused_number (source s) tests tree (length s) (look_number s) _ (stops f) refl) q)
  accepted_reads (read e (leaves u h)) q = absurd (zero_refusal _ (refused_number (source s) tests tree (length s) (look_number s) _ (leaves u h) refl) q)

  -- and every source that has a reading and passes 1, 2 and 3 is accepted, where there is room
  pub reading_accepted : {p : Parts} → whole_of s ≡ (Ok tt) → Text (source s) (roto tests) (goal tree) 0 p → Permitted tests tree s size (counted (length s) (length (rows tree (length s) p)) (room size)) (table_for size (accepted (rows tree (length s) p)))
  reading_accepted e x = read e (accepts x)
