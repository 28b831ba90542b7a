-- The round trip over lists of tokens: what is printed of a reading's rows has a reading, with the same rows and the same trees; so has what is written
-- with any choice of pairs that suits the trees.
use mathlib.Core.Path.{◌∙◌, ◌≡◌, ap, subst, sym}
use mathlib.Core.List.{List, [], append-nil}
use mathlib.Core.Bool.{Bool, true}
use Prim.Native.Nat.{ℕ}
use Rattle.rows.specs.Kinds as kinds
use Rattle.grammar.specs.Grammar.{Ask, Token, Stream, Parts}
use Rattle.grammar.specs.Limits.{Counts}
use Rattle.grammar.specs.Readings.{ReadingBy}
use Rattle.grammar.specs.Rows.{rows}
use Rattle.grammar.specs.Language.{start}
use Rattle.grammar.specs.Culprit.{lists}
use Rattle.canon.specs.Trees.{tree_of}
use Rattle.canon.specs.Text.{Bit, tokens}
use Rattle.printing.specs.Bare.{bare_rows}
use Rattle.printing.specs.Groves.{bits, by_needs, labelled}
use Rattle.printing.specs.Pairs.{Choice}
use Rattle.printing.specs.Spelled.{Spells}
use Rattle.printing.proofs.Lists.{l, held}
use Rattle.printing.proofs.Back.{Known}
use Rattle.printing.proofs.Claims.{Knows}
use Rattle.printing.proofs.Steps.{P}
use Rattle.printing.proofs.Texts.{Sure}
use Rattle.printing.proofs.ReadsBack.{AllSuit, grove_of, reads_back, spelled}
use Rattle.printing.proofs.ReadsBack as back
use Rattle.printing.proofs.Labels.{rows_are_trees}
use Rattle.printing.proofs.Stands.{from_source}
use Rattle.printing.proofs.Needed.{needed_bits, needed_suits}
use Rattle.printing.proofs.Spare.{top_spare}

-- w: the tokens; p: the parts of the source s; len: its bytes, len' those of the print
pub record RoundTripOf (w : List Bit) (S : Stream) (G : Ask → Counts → Token → Bool) (s : List ℕ) (len len' : ℕ) (p : Parts) : Type 0 where
  pub list : List Token
  pub spells : Spells S l G s w list
  pub parts : Parts
  pub reads : (d : Counts) → ReadingBy lists l held d (start true) list [] parts
  pub same_rows : bare_rows (rows true len' parts) ≡ bare_rows (rows true len p)
  pub same_trees : tree_of s (rows true len' parts) ≡ tree_of s (rows true len p)
  pub same_grove : grove_of parts ≡ grove_of p

abbrev pub RoundTrip : (S : Stream) (G : Ask → Counts → Token → Bool) (s : List ℕ) (len len' : ℕ) (p : Parts) → Type 0
RoundTrip S G s len len' p = RoundTripOf (tokens (tree_of s (rows true len p))) S G s len len' p

module _ (S : Stream) (G : Ask → Counts → Token → Bool) (s : List ℕ) (known : Known S l G Knows (P S G s)) (sure : Sure S G) where
  pub chosen_trip : {d : Counts} {i r : S.Place} {p : Parts} (len len' : ℕ) → ReadingBy S l G d (start true) i r p → (χ : Choice) → AllSuit s p χ → RoundTripOf (bits s kinds.NONE true [] [] (grove_of p) χ) S G s len len' p
  chosen_trip {d = d} {p = p} len len' u χ a =
      let b = reads_back S G s known sure u χ a in
      record {
        list = back.tokens_of s p χ;
        spells = subst (λ (w : List Bit). Spells S l G s w (back.tokens_of s p χ)) (append-nil (bits s kinds.NONE true [] [] (grove_of p) χ)) (spelled S G s p χ (from_source S G u));
        parts = b.parts;
        reads = b.reads;
        same_rows = b.same_rows len' len;
        same_trees = rows_are_trees s lists held len' (b.reads d) ∙ ap (labelled s) b.same_tree ∙ sym (rows_are_trees s S G len u);
        same_grove = b.same_tree;
      }

  pub round_trip : {d : Counts} {i r : S.Place} {p : Parts} (len len' : ℕ) → ReadingBy S l G d (start true) i r p → RoundTrip S G s len len' p
  round_trip {p = p} len len' u = subst (λ (w : List Bit). RoundTripOf w S G s len len' p) (needed_bits s kinds.NONE true [] [] (grove_of p) (top_spare kinds.NONE true (labelled s (grove_of p))) ∙ ap tokens (sym (rows_are_trees s S G len u)))
      (chosen_trip len len' u (by_needs s [] (grove_of p)) (needed_suits s kinds.NONE true [] (grove_of p) (top_spare kinds.NONE true (labelled s (grove_of p)))))
