-- Demands 1 and 3 hold.
use mathlib.Core.Path.{◌≡◌, refl, ap, ◌∙◌}
use mathlib.Core.List.{List, ◌++◌}
use mathlib.Core.Bool.{Bool, true, false, ◌||◌, cond}
use mathlib.Core.Logic.{inl, inr, ◌≢◌}
use Prim.Native.Nat.{ℕ, ◌+◌, ◌-◌, ◌*◌, ◌≤◌}
use lib.Dec.{T, eqb, leb, leb→le, le→leb, eqb→eq}
use lib.ListN.{length, replicate}
use native.Mathlib.Omega.{arith}
use Rattle.chars.specs.declared.Answer.{Answer}
use Rattle.tokens.specs.Tokens.{counted}
use Rattle.grammar.specs.Grammar.{Symbol, Stream, Parts, Language}
use Rattle.grammar.specs.Limits.{Counts, kept}
use Rattle.grammar.specs.Readings.{ReadingBy, reads_end, reads_token, reads_phrase, reads_unless, reads_note, reads_side, reads_text}
use Rattle.grammar.specs.Language.{roto}
use Rattle.grammar.specs.Culprit.{any}
use Rattle.rows.specs.Rows.{width}
use Rattle.grammar.specs.Rows.{flat, nodes}
use Rattle.grammar.specs.Answers.{accepts, stops, leaves}
use Rattle.grammar.proofs.Bools.{T→eq, and_r, or_cases}
use Rattle.grammar.proofs.Core.{unique}
use Rattle.grammar.proofs.Checks.{roto_good, goal_closed}
use Rattle.grammar.proofs.Demand.{last, at_end, is_refusal, refused_number, the_reading, row_count}
use Rattle.answers.specs.Source.{source}
use Rattle.answers.specs.Entries.{room, Permitted, early, read}
use Rattle.answers.specs.Demands.{rows_of, itself, Demand1, Demand3}
use Rattle.answers.proofs.Scans.{look_number}
use Rattle.answers.proofs.Determined.{whole_number, one_permitted, accepted_reads, reading_accepted}
use Rattle.answers.proofs.Bytes.{a_permitted}
use Rattle.answers.proofs.Shebang.{reading_fine}

-- 4 to 9 and 11
refusal_small : (n : ℕ) → T (is_refusal n) → n ≤ 11
refusal_small n h = elim (or_cases (leb n 9) (eqb n 11) (and_r (leb 4 n) (leb n 9 || eqb n 11) h)) [
  | inl k ↦ (let x = leb→le n 9 k in omega arith)
  | inr k ↦ (let x = eqb→eq n 11 k in omega arith)
]

-- a reading is one by the rules alone
loosen : {S : Stream} {l : Language} {d : Counts} {w : List Symbol} {i r : S.Place} {p : Parts} → ReadingBy S l kept d w i r p → ReadingBy S l any d w i r p
loosen reads_end = reads_end
loosen (reads_token e m k u) = reads_token e m tt (loosen u)
loosen (reads_phrase c u v) = reads_phrase c (loosen u) (loosen v)
loosen (reads_unless m u) = reads_unless m (loosen u)
loosen (reads_note u) = reads_note (loosen u)
loosen (reads_side c u m v) = reads_side c (loosen u) m (loosen v)
loosen (reads_text e k u) = reads_text e tt (loosen u)

module _ (tests tree : Bool) (s : List ℕ) (size : ℕ) where
  counted_number : (n k : ℕ) → (counted (length s) n k).number ≤ 11
  counted_number n k = go (leb n k)
    where
      go : (b : Bool) → (cond {A = Answer} b (record { number = 0; start = 0; end = length s; count = n }) (record { number = 10; start = 0; end = 0; count = n })).number ≤ 11
      go true = omega arith
      go false = omega arith

  small : {a : Answer} {t : List ℕ} → Permitted tests tree s size a t → a.number ≤ 11
  small (early {r = r} e) = let h = (whole_number s r e).1 in omega arith
  small (read e (accepts {p = p} x)) = counted_number (length (rows_of tree s p)) (room size)
  small (read e (stops {z = z} {y = y} f)) = refusal_small _ (refused_number (source s) tests tree (length s) (look_number s) _ (stops f) refl)
  small (read e (leaves u h)) = refusal_small _ (refused_number (source s) tests tree (length s) (look_number s) _ (leaves u h) refl)

  zeros : {a : Answer} {t : List ℕ} → Permitted tests tree s size a t → a.number ≢ 0 → t ≡ replicate size 0
  zeros (early e) n = refl
  zeros (read e (accepts {p = p} x)) n = go (leb (length (rows_of tree s p)) (room size)) n
    where
      k : ℕ
      k = length (rows_of tree s p)

      full : List ℕ
      full = flat (rows_of tree s p) ++ replicate (size - width * k) 0

      go : (b : Bool) → (cond {A = Answer} b (record { number = 0; start = 0; end = length s; count = k }) (record { number = 10; start = 0; end = 0; count = k })).number ≢ 0 → cond b full (replicate size 0) ≡ replicate size 0
      go true m = absurd (m refl)
      go false m = refl
  zeros (read e (stops f)) n = refl
  zeros (read e (leaves u h)) n = refl

  pub demand_1 : Demand1 tests tree s size
  demand_1 = record { some_answer = a_permitted tests tree s size; no_other = one_permitted tests tree s size; in_the_table = small; refused_zeros = zeros }

  fits : (n k : ℕ) → n ≤ k → (counted (length s) n k).number ≡ 0
  fits n k h = ap (λ (b : Bool). (cond {A = Answer} b (record { number = 0; start = 0; end = length s; count = n }) (record { number = 10; start = 0; end = 0; count = n })).number) (T→eq (leb n k) (le→leb n k h))

  pub demand_3 : Demand3 tests tree s size
  demand_3 = record {
    only_readings = λ x e. let k = accepted_reads tests tree s size x e in (k.parts, k.text);
    all_readings = λ {a} {t} {p} x short low r h. ap (λ (q : Answer). q.number) (one_permitted tests tree s size x (reading_accepted tests tree s size (reading_fine tests tree s short low r) r)).0 ∙ fits (length (rows_of tree s p)) (room size) h;
    by_the_rules = λ r. record { stop = r.stop; reads = loosen r.reads; whole = r.whole };
    one_reading = λ r q. (unique (source s) (roto tests) (roto_good tests) (last (roto tests)) (goal_closed tests tree) (at_end (source s) (roto tests) r.stop r.whole) (at_end (source s) (roto tests) q.stop q.whole) r.reads q.reads).1;
    its_table = λ {a} {t} {p} x e r. let k = accepted_reads tests tree s size x e in k.table ∙ ap (λ (q : Parts). flat (rows_of tree s q) ++ replicate (size - width * length (rows_of tree s q)) 0) (the_reading (source s) tests tree k.text r);
    its_count = λ {a} {t} {p} x e r. let k = accepted_reads tests tree s size x e in ap (λ (q : Answer). q.count) k.answer ∙ ap (λ (q : Parts). length (rows_of tree s q)) (the_reading (source s) tests tree k.text r) ∙ row_count (source s) tests tree (length s) p ∙ ap (λ (n : ℕ). nodes p + n) (same tree);
  }
    where
      same : (b : Bool) → Rattle.grammar.proofs.Count.tree_nodes b ≡ itself b
      same true = refl
      same false = refl
