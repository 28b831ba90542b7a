-- The pairs of a print are exactly those needed.
use mathlib.Core.Path.{◌∙◌, ◌≡◌, ap, subst, sym}
use mathlib.Core.List.{List, [], ◌∷◌, ◌++◌}
use mathlib.Core.Bool.{true, cond}
use Prim.Native.Nat.{ℕ}
use lib.Dec.{T}
use lib.ListN.{length}
use Rattle.rows.specs.Kinds as kinds
use Rattle.grammar.specs.Grammar.{Parts, one_of}
use Rattle.answers.specs.Demands.{Reading}
use Rattle.canon.specs.Trees.{Forest, copied}
use Rattle.canon.specs.Layout.{Slot, layout}
use Rattle.canon.specs.Text.{copy, later, place_of, printed, signs, spaced, tokens, words_of}
use Rattle.printing.specs.Pairs.{in_pairs}
use Rattle.forests.specs.Planted.{Marked, forest, no_more, stands, unmarked}
use Rattle.forests.specs.Met.{Met, within}
use Rattle.forests.proofs.Sources.{rules_fit, source_grows}
use Rattle.forests.proofs.Least.{met_least}
use Rattle.printing.proofs.Spare.{top_spare}
use Rattle.roundtrip.proofs.Signs.{bits_two, later_sure, layout_good, own_sure, pairs_sure, signs_sure, sure, sure_bits, sure_slots, words_sure}
use Rattle.roundtrip.proofs.ReadsBack.{TextRead, text_read}
use Rattle.exact.specs.Written.{OnExprs, print_pairs, written}
use Rattle.exact.specs.Exact.{Exact}
use Rattle.exact.proofs.ReadBack.{met_reads}
use Rattle.exact.proofs.Only.{none_can_go, only_print, print_met, print_on_exprs, print_written}

-- each word that is written is a sign or a keyword
written_sure : (xs : List Slot) (last : List ℕ) (m : Marked) → T (sure_slots xs) → T (sure last) → T (sure_bits (written xs last m))
unfolding written
written_sure xs last no_more h k = signs_sure last k
written_sure xs last (stands n a kids ts) h k =
    let c = within n (place_of xs) in
    let y = layout c a (unmarked kids) in
    let g = layout_good c a (unmarked kids) in
    let own = written y.slots y.last kids in
    let mid = in_pairs n (cond (one_of a.kind copied) (copy a.text ∷ []) own) in
    bits_two (signs (words_of xs)) (mid ++ written (later xs) last ts) (signs_sure (words_of xs) (words_sure xs h))
    (bits_two mid (written (later xs) last ts) (pairs_sure n _ (own_sure (one_of a.kind copied) a.text own (written_sure y.slots y.last kids g.0 g.1))) (written_sure (later xs) last ts (later_sure xs h) k))

-- over bytes: the text with such pairs is read with these trees
pub met_text : (s : List ℕ) {p : Parts} → Reading true true s p → (m : Marked) → unmarked m ≡ forest s true p → OnExprs kinds.NONE true m → Met [] m → TextRead s p (written [] [] m)
met_text s {p} t m e o u = text_read s p (written [] [] m) t (met_reads s t (length (spaced (written [] [] m))) m e o u) (written_sure [] [] m tt tt)

pub exact : (s : List ℕ) {p : Parts} → Reading true true s p → Exact s p
unfolding printed
exact s {p} t =
    let f : Forest = forest s true p in
    record {
      read_if_met = λ m e o u. let r = met_text s t m e o u in record { parts = r.parts; by_rules = r.by_rules; same_trees = r.same_trees };
      met_if_read = λ m w r e. subst (Met []) e (rules_fit w true true r);
      print_text = ap spaced (print_written [] [] f ∙ ap tokens (sym (source_grows s true true t)));
      print_placed = print_on_exprs kinds.NONE true [] f (top_spare kinds.NONE true f);
      print_met = print_met [] f;
      none_idle = none_can_go [] f;
      only_print = λ m e u g. only_print [] m u g ∙ ap (print_pairs []) e;
      least = met_least [];
    }
