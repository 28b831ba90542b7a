-- A print within the limits is accepted.
use mathlib.Core.Path.{refl, sym, ap, subst, ◌∙◌}
use mathlib.Core.List.{List}
use mathlib.Core.Bool.{true}
use Prim.Native.Nat.{ℕ}
use native.Mathlib.Omega.{arith}
use lib.Dec.{T}
use lib.ListN.{length}
use Rattle.grammar.specs.Grammar.{Ask, plain, has_value, opens_bracket, closes_bracket, is_prefix, is_head, is_else_if, Token, Parts}
use Rattle.grammar.specs.Kinds.{TREE}
use Rattle.grammar.specs.Limits.{Counts, zeros, kept}
use Rattle.answers.specs.Demands.{Reading, rows_of}
use Rattle.answers.specs.Source.{source}
use Rattle.grammar.specs.Culprit.{lists}
use Rattle.canon.specs.Trees.{Forest, none, tree, tree_of}
use Rattle.canon.specs.Text.{tokens, printed}
use Rattle.printing.proofs.Lists.{held}
use Rattle.printing.proofs.Labels.{rows_are_trees}
use Rattle.printing.proofs.Sources.{source_round_trip}
use Rattle.respell.specs.Shown.{Like}
use Rattle.respell.proofs.Prints.{print_read}
use Rattle.roundtrip.specs.ReadsBack.{print_of}
use Rattle.roundtrip.proofs.Signs.{tokens_sure}
use Rattle.roundtrip.proofs.Lasts.{all_worded, last_ends}
use Rattle.roundtrip.proofs.Meets.{spelt, spells_last}
use Rattle.roundtrip.proofs.ReadsBack.{paths}
use Rattle.sink.specs.Few.{few}
use Rattle.limits.specs.Within.{nothing_yet, within, low}
use Rattle.limits.proofs.Counted.{bounded_reads}
use Rattle.limits.proofs.Copied.{spells_bounded}
use Rattle.limits.proofs.Two.{two}
use Rattle.limits.proofs.Tested.{AllHeads, kept_heads}
use Rattle.limits.proofs.Heads.{flat, Fit, heads_told}

passes : (g : Ask) (d : Counts) (x y : Token) → Like x y → T (kept g d x) → T (kept g d y)
unfolding kept
passes plain d x y e k = tt
passes has_value d x y e k = subst T (sym (ap (λ (o : Token). o.holds) e)) k
passes opens_bracket d x y e k = k
passes closes_bracket d x y e k = tt
passes is_prefix d x y e k = k
passes is_head d x y e k = k
passes is_else_if d x y e k = k

-- the trees under the first row
abbrev under : Forest → Forest
under none = none
under (tree b ks ts) = ks

-- the print's heads are the source's
print_heads : (s : List ℕ) (p : Parts) (len : ℕ) (t : Reading true true s p) → AllHeads ((source_round_trip s len t).reads zeros)
print_heads s p len t =
    let r = source_round_trip s len t in
    let e = sym (rows_are_trees s lists held len (r.reads zeros)) ∙ r.same_trees ∙ rows_are_trees s (source s) kept (length s) t.reads in
    let f = (heads_told s (source s) kept t.reads).0 (kept_heads t.reads) in
    (heads_told s lists held (r.reads zeros)).1 (subst (λ (g : Forest). Fit 0 flat g) (sym (ap under e)) f)

pub within_reads : (s : List ℕ) (p : Parts) → Reading true true s p → T (within nothing_yet (tokens (tree_of s (rows_of true s p)))) → (q : Parts) × Reading true true (print_of s p) q
unfolding printed
within_reads s p t h =
    let w : List ℕ = print_of s p in
    let r = source_round_trip s (length w) t in
    let u = r.reads zeros in
    let z = spelt s r.spells (tokens_sure (tree_of s (rows_of true s p))) (all_worded u) in
    let b = spells_bounded s nothing_yet nothing_yet r.spells (record { brackets = refl; prefixes = omega arith }) h in
    let v = print_read true s kept kept kept passes paths TREE z (spells_last s r.spells (last_ends u)) (bounded_reads b u (print_heads s p (length w) t)) in
    (v.0, record { stop = v.1; reads = v.2; whole = v.3 })

pub few_reads : (s : List ℕ) (p : Parts) → Reading true true s p → T (few 0 (tokens (tree_of s (rows_of true s p)))) → T (low 0 (tokens (tree_of s (rows_of true s p)))) → (q : Parts) × Reading true true (print_of s p) q
few_reads s p t f b = within_reads s p t (two 0 0 (tokens (tree_of s (rows_of true s p))) f b)
