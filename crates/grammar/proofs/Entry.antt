-- From what a reader of the whole source hands back to the source's answer.
use mathlib.Core.Path.{◌≡◌, refl, ap, subst, ◌∙◌}
use mathlib.Core.List.{List, [], ◌∷◌, ◌++◌}
use mathlib.Core.Bool.{Bool, true, false}
use Prim.Native.Nat.{ℕ, suc}
use Rattle.rows.specs.Kinds as kinds
use Rattle.grammar.specs.Grammar.{same, over, Stream, Symbol, Parts, end, node}
use Rattle.grammar.specs.Limits.{zeros}
use Rattle.grammar.specs.Readings.{reads_phrase, reads_end}
use Rattle.grammar.specs.Runs.{Run}
use Rattle.grammar.specs.Rows.{Row, Item, own, child, Draft, count, sizes, children_of, rows_from, rows, write, blank}
use Rattle.grammar.specs.Refusals.{Why, want, said}
use Rattle.grammar.specs.Language.{roto, goal, start}
use Rattle.grammar.specs.Answers.{accepted, refused, Answers, accepts, stops, leaves}
use Rattle.grammar.specs.Phrases.{Read, Refused}
use Rattle.grammar.proofs.Sizes.{sizes_children}
use Rattle.grammar.proofs.Demand.{run_reads}

count_children : (xs : List Item) → count (children_of xs) ≡ count xs
count_children [] = refl
count_children (own x ∷ xs) = count_children xs
count_children (child r ∷ xs) = ap suc (count_children xs)

-- the rows of a whole source are those of its phrase
goal_rows : (tree : Bool) (len : ℕ) (s : List Symbol) (p : Parts) → rows tree len (node (goal tree) s p end) ≡ rows_from tree len (write p blank)
unfolding rows rows_from write
goal_rows true len s p =
    let xs : List Item = (write p blank).items in
    ap (λ (n : ℕ). (write p blank).rows ++ (record { kind = kinds.TREE; start = 0; end = len; children = n; value = 0; detail = 0; size = suc (sizes (children_of xs)) } ∷ [])) (count_children xs)
    ∙ ap (λ (n : ℕ). (write p blank).rows ++ (record { kind = kinds.TREE; start = 0; end = len; children = count xs; value = 0; detail = 0; size = suc n } ∷ [])) (sizes_children xs)
goal_rows false len s p = refl

module _ (S : Stream) (tests tree : Bool) {i z : S.Place} where
  whole_run : {b : Draft} (u : Read S (roto tests) zeros same (goal tree) i z b) → Run S (roto tests) zeros (start tree) i z (node (goal tree) u.alternative u.parts end)
  whole_run u = reads_phrase u.picks u.run reads_end

  module _ (len : ℕ) where
    pub read_accepted : {b : Draft} → Read S (roto tests) zeros same (goal tree) i z b → S.look z ≡ over → Answers S tests tree len i (accepted (rows_from tree len b))
    read_accepted u e = subst (λ (r : List Row). Answers S tests tree len i (accepted r)) (goal_rows tree len u.alternative u.parts ∙ ap (rows_from tree len) u.draft) (accepts (run_reads S tests tree (whole_run u) e))

    pub read_left : {b : Draft} → Read S (roto tests) zeros same (goal tree) i z b → (S.look z ≡ over → ⊥) → Answers S tests tree len i (refused (said len (S.look z) (want [])))
    read_left u h = leaves (whole_run u) h

    pub refused_stops : {y : Why} → Refused S (roto tests) zeros same (goal tree) i z y → Answers S tests tree len i (refused (said len (S.look z) y))
    refused_stops f = stops f
