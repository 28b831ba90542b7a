-- What is printed of an accepted source is read again, with the same rows and trees.
use mathlib.Core.Path.{◌≡◌, sym, ap, subst, ◌∙◌}
use mathlib.Core.List.{List}
use mathlib.Core.Bool.{true}
use Prim.Native.Nat.{ℕ}
use lib.Dec.{T}
use lib.ListN.{length}
use Rattle.grammar.specs.Grammar.{Ask, plain, has_value, opens_bracket, closes_bracket, is_prefix, is_head, is_else_if, Symbol, Token, Stream, Parts}
use Rattle.grammar.specs.Kinds.{TREE}
use Rattle.grammar.specs.Limits.{Counts, zeros, kept}
use Rattle.grammar.specs.Readings.{ReadingBy, reads_end, reads_token, reads_phrase, reads_unless, reads_note, reads_side, reads_text}
use Rattle.grammar.specs.Language.{roto, start}
use Rattle.grammar.specs.Culprit.{any}
use Rattle.answers.specs.Source.{source}
use Rattle.answers.specs.Demands.{Reading, ByRules, rows_of}
use Rattle.answers.proofs.Demands.{demand_3}
use Rattle.canon.specs.Trees.{Forest, none, tree, tree_of}
use Rattle.canon.specs.Text.{Bit, tokens, spaced, printed}
use Rattle.printing.specs.Alike.{Match, match_end, match_leaf, match_node, match_mark}
use Rattle.printing.specs.Bare.{bare_token, bare_rows}
use Rattle.printing.specs.Groves.{Grove, nil, top, fresh, grow, label_of, labelled}
use Rattle.printing.specs.Spelled.{FromSource}
use Rattle.printing.proofs.Lists.{l, held}
use Rattle.printing.proofs.Grown.{tree_head}
use Rattle.printing.proofs.ReadsBack.{grove_of}
use Rattle.printing.proofs.Labels.{rows_are_trees}
use Rattle.printing.proofs.Stands.{from_source}
use Rattle.printing.proofs.Bare.{same_tree, bare_match, path_match}
use Rattle.printing.proofs.Printed.{RoundTripOf}
use Rattle.printing.proofs.Sources.{source_round_trip}
use Rattle.respell.specs.Spelt.{last_line, Spelt}
use Rattle.respell.specs.Shown.{Like, Again}
use Rattle.respell.proofs.Prints.{likes, print_read}
use Rattle.respell.proofs.Lows.{print_fine}
use Rattle.roundtrip.specs.ReadsBack.{print_of, valued, Valued, ReadsBack}
use Rattle.roundtrip.proofs.Signs.{sure_bits, tokens_sure}
use Rattle.roundtrip.proofs.Lasts.{all_worded, last_ends}
use Rattle.roundtrip.proofs.Meets.{spelt, spells_last}
use Rattle.roundtrip.proofs.Twins.{paired}
use Rattle.roundtrip.proofs.Texts.{labelled_same}

turned : {p q : Parts} → Match Like p q → Match (λ x y. bare_token x ≡ bare_token y) p q
turned match_end = match_end
turned (match_leaf e m) = match_leaf (sym e) (turned m)
turned (match_node m k) = match_node (turned m) (turned k)
turned (match_mark m) = match_mark (turned m)

pub paths : (p q : Parts) → Match Like p q → (roto true).is_path p ≡ (roto true).is_path q
unfolding roto
paths p q m = path_match (turned m)

passes : (g : Ask) (d : Counts) (x y : Token) → Like x y → T (held g d x) → T (valued g d y)
passes plain d x y e k = tt
passes has_value d x y e k = subst T (sym (ap (λ (o : Token). o.holds) e)) k
passes opens_bracket d x y e k = tt
passes closes_bracket d x y e k = tt
passes is_prefix d x y e k = tt
passes is_head d x y e k = tt
passes is_else_if d x y e k = tt

loosen : {S : Stream} {d : Counts} {b : List Symbol} {i r : S.Place} {p : Parts} → ReadingBy S (roto true) valued d b i r p → ReadingBy S (roto true) any d b i r p
loosen reads_end = reads_end
loosen (reads_token e m k t) = reads_token e m tt (loosen t)
loosen (reads_phrase o t u) = reads_phrase o (loosen t) (loosen u)
loosen (reads_unless m t) = reads_unless m (loosen t)
loosen (reads_note t) = reads_note (loosen t)
loosen (reads_side o t m u) = reads_side o (loosen t) m (loosen u)
loosen (reads_text e k t) = reads_text e tt (loosen t)

abbrev kids_of : Grove → Grove
kids_of nil = nil
kids_of (top h k t) = k

-- a reading o of w stands for a reading r with the trees of s
trees_back : (s w : List ℕ) (p r o : Parts) {d : Counts} {stop : ℕ} → Reading true true s p → grove_of r ≡ grove_of p → Match (Again s w l kept) r o → ReadingBy (source w) l valued d (start true) 0 stop o → tree_of w (rows_of true w o) ≡ tree_of s (rows_of true s p)
trees_back s w p r o t e m u =
    let f = subst (λ (g : Grove). FromSource (source s) l kept (kids_of g)) (sym e) (from_source (source s) kept t.reads) in
    rows_are_trees w (source w) valued (length w) u
    ∙ ap (λ (g : Forest). tree (label_of s tree_head) g none) (labelled_same s w (grow r fresh).kids (grow o fresh).kids (paired (Again s w l kept) (λ x y q. q.like) m) f (from_source (source w) valued u))
    ∙ ap (labelled s) e ∙ sym (rows_are_trees s (source s) kept (length s) t.reads)

-- The text of a list of tokens that has a reading with the trees of s has one too.
pub record TextRead (s : List ℕ) (p : Parts) (bs : List Bit) : Type 0 where
  pub parts : Parts
  pub literals_hold : Valued (spaced bs) parts
  pub by_rules : ByRules true true (spaced bs) parts
  pub same_rows : bare_rows (rows_of true (spaced bs) parts) ≡ bare_rows (rows_of true s p)
  pub same_trees : tree_of (spaced bs) (rows_of true (spaced bs) parts) ≡ tree_of s (rows_of true s p)
  pub list : List Token
  pub spells : Spelt s l kept bs list
  pub ends : T (last_line bs)

pub text_read : (s : List ℕ) (p : Parts) (bs : List Bit) → Reading true true s p → RoundTripOf bs (source s) kept s (length s) (length (spaced bs)) p → T (sure_bits bs) → TextRead s p bs
text_read s p bs t r g =
    let w : List ℕ = spaced bs in
    let u = r.reads zeros in
    let z = spelt s r.spells g (all_worded u) in
    let h = spells_last s r.spells (last_ends u) in
    let v = print_read true s kept held valued passes paths TREE z h u in
    record {
      parts = v.0;
      literals_hold = record { stop = v.1; reads = v.2; whole = v.3 };
      by_rules = record { stop = v.1; reads = loosen v.2; whole = v.3 };
      same_rows = same_tree true (length w) (length w) v.0 r.parts (sym (bare_match (turned (likes v.4)))) ∙ r.same_rows;
      same_trees = trees_back s w p r.parts v.0 t r.same_grove v.4 v.2;
      list = r.list;
      spells = z;
      ends = h;
    }

pub reads_back : (s : List ℕ) (p : Parts) → Reading true true s p → ReadsBack s p
unfolding printed
reads_back s p t =
    let w : List ℕ = print_of s p in
    let r = text_read s p (tokens (tree_of s (rows_of true s p))) t (source_round_trip s (length w) t) (tokens_sure (tree_of s (rows_of true s p))) in
    record {
      parts = r.parts;
      by_rules = r.by_rules;
      literals_hold = r.literals_hold;
      same_rows = r.same_rows;
      same_trees = r.same_trees;
      again = ap (λ (g : Forest). spaced (tokens g)) r.same_trees;
      accepted = λ x. (demand_3 true true w 0).one_reading x r.by_rules;
      fine = λ f n. print_fine true s kept f r.spells r.ends n;
    }

-- so for whatever reading the print has
pub read_again : (s : List ℕ) (p : Parts) {q : Parts} → ReadsBack s p → Reading true true (print_of s p) q → (bare_rows (rows_of true (print_of s p) q) ≡ bare_rows (rows_of true s p)) × (tree_of (print_of s p) (rows_of true (print_of s p) q) ≡ tree_of s (rows_of true s p)) × (print_of (print_of s p) q ≡ print_of s p)
read_again s p b r =
    let w : List ℕ = print_of s p in
    let e = sym (b.accepted r) in (
      subst (λ (o : Parts). bare_rows (rows_of true w o) ≡ bare_rows (rows_of true s p)) e b.same_rows,
      subst (λ (o : Parts). tree_of w (rows_of true w o) ≡ tree_of s (rows_of true s p)) e b.same_trees,
      subst (λ (o : Parts). print_of w o ≡ w) e b.again,
    )
