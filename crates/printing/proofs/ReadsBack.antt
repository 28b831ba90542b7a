-- A reading's tree, as a list of tokens with any choice of pairs that suits it, has a reading, with the same tree and the same rows.
use mathlib.Core.Path.{◌∙◌, ◌≡◌, ap, subst, sym, refl}
use mathlib.Core.List.{List, [], ◌∷◌, ◌++◌, append_assoc}
use mathlib.Core.Bool.{Bool, true, false, cond}
use Prim.Native.Nat.{ℕ, zero, suc}
use lib.Dec.{T}
use Rattle.rows.specs.Kinds as kinds
use Rattle.grammar.specs.Words.{close_paren, open_paren}
use Rattle.grammar.specs.Grammar.{Ask, Parts, Stream, Token, end, node, one_of}
use Rattle.grammar.specs.Kinds.{TREE}
use Rattle.grammar.specs.Limits.{Counts}
use Rattle.grammar.specs.Readings.{ReadingBy, reads_end, reads_phrase}
use Rattle.grammar.specs.Rows.{rows}
use Rattle.grammar.specs.Language.{start}
use Rattle.grammar.specs.Culprit.{lists}
use Rattle.canon.specs.Trees.{copied}
use Rattle.canon.specs.Layout.{Slot, Place, layout, layouts}
use Rattle.canon.specs.Text.{Bit, sign, copy, signs, place_of, words_of, later}
use Rattle.printing.specs.Bare.{bare_rows}
use Rattle.printing.specs.Groves.{Grove, Head, Suits, bits, bytes_of, fresh, grow, label_of, labelled, nil, pairs, pairs_at, said, say, token_of, top, words}
use Rattle.printing.specs.Pairs.{Choice, after, in_pairs, within, under}
use Rattle.printing.specs.Spelled.{Stands, FromSource, Spells, spells_copy, spells_none, spells_sign}
use Rattle.printing.proofs.Lists.{held, l}
use Rattle.printing.proofs.Grown.{listed, rows_grown, tree_head}
use Rattle.printing.proofs.Back.{Known, all_end, all_phrase, by_alternatives}
use Rattle.printing.proofs.Claims.{Knows}
use Rattle.printing.proofs.Steps.{Of, P, step}
use Rattle.printing.proofs.Decls.{tree_read}
use Rattle.printing.proofs.Texts.{Sure, texts}

-- the tree of a reading; with pairs, as tokens
abbrev pub grove_of : Parts → Grove
grove_of p = top tree_head (grow p fresh).kids nil

abbrev pub tokens_of : List ℕ → Parts → Choice → List Token
tokens_of s p χ = said s kinds.NONE true [] [] (grove_of p) χ []

abbrev pub AllSuit : List ℕ → Parts → Choice → Type 0
AllSuit s p χ = Suits s kinds.NONE true [] (grove_of p) χ

-- the tokens have a reading, limits set aside, with the same tree and the same rows
pub record ReadBack (s : List ℕ) (p : Parts) (χ : Choice) : Type 0 where
  pub parts : Parts
  pub reads : (d : Counts) → ReadingBy lists l held d (start true) (tokens_of s p χ) [] parts
  pub same_tree : grove_of parts ≡ grove_of p
  pub same_rows : (len len' : ℕ) → bare_rows (rows true len parts) ≡ bare_rows (rows true len' p)

module _ (S : Stream) (G : Ask → Counts → Token → Bool) (s : List ℕ) (known : Known S l G Knows (P S G s)) (sure : Sure S G) where
  from_claim : {p : Parts} → Of S G s (start true) p → (χ : Choice) → AllSuit s p χ → ReadBack s p χ
  unfolding said layout layouts grow
  from_claim (all_phrase {a = a} {p = p} u all_end) χ b =
      let w = tree_read s (under χ) u.2 (subst (λ (g : Grove). Suits s kinds.NONE true [] (top tree_head g nil) χ) u.1 b).1 in
      let q = node TREE w.alt w.parts end in
      let e : (grow q fresh).kids ≡ (grow p fresh).kids = w.leaves ∙ sym u.1 in
      record {
        parts = q;
        reads = subst (λ (g : Grove). (d : Counts) → ReadingBy lists l held d (start true) (said s kinds.NONE true [] [] (top tree_head g nil) χ []) [] q) (sym u.1) (λ d. reads_phrase w.takes (w.reads _) reads_end);
        same_tree = ap (λ (g : Grove). top tree_head g nil) e;
        same_rows = λ len len'. rows_grown len q ∙ ap (λ (g : Grove). listed (top tree_head g nil)) e ∙ sym (rows_grown len' (node TREE a p end));
      }

  pub reads_back : {d : Counts} {i r : S.Place} {p : Parts} → ReadingBy S l G d (start true) i r p → (χ : Choice) → AllSuit s p χ → ReadBack s p χ
  reads_back u = from_claim (by_alternatives S l G Knows (P S G s) known (step S G s (texts S G s sure)) u)

-- these tokens spell the print of the tree
module _ (S : Stream) (G : Ask → Counts → Token → Bool) (s : List ℕ) where
  signs_spell : {bs : List Bit} {ts : List Token} (w : List ℕ) → Spells S l G s bs ts → Spells S l G s (signs w ++ bs) (words w ts)
  signs_spell [] u = u
  signs_spell (c ∷ w) u = spells_sign c (signs_spell w u)

  pairs_spell : (n : ℕ) (xs bs : List Bit) (f : List Token → List Token) (ts : List Token) → ((cs : List Bit) (z : List Token) → Spells S l G s cs z → Spells S l G s (xs ++ cs) (f z)) → Spells S l G s bs ts → Spells S l G s (in_pairs n xs ++ bs) (pairs n f ts)
  pairs_spell zero xs bs f ts h u = h bs ts u
  pairs_spell (suc n) xs bs f ts h u = spells_sign open_paren (subst (λ (c : List Bit). Spells S l G s c (pairs n f (token_of close_paren ∷ ts))) (sym (append_assoc (in_pairs n xs) (sign close_paren ∷ []) bs)) (pairs_spell n xs (sign close_paren ∷ bs) f (token_of close_paren ∷ ts) h (spells_sign close_paren u)))

  own_spell : (h : Head) (own : List Bit) (f : List Token → List Token) → (T (one_of h.kind copied) → Stands S l G h.kind h.tokens) → ((cs : List Bit) (z : List Token) → Spells S l G s cs z → Spells S l G s (own ++ cs) (f z)) → (cs : List Bit) (z : List Token) → Spells S l G s cs z → Spells S l G s (cond (one_of h.kind copied) (copy (bytes_of s h.kind h.tokens) ∷ []) own ++ cs) (cond (one_of h.kind copied) (h.tokens ++ z) (f z))
  own_spell h own f o g cs z u = go (one_of h.kind copied) refl o
    where
      go : (b : Bool) → one_of h.kind copied ≡ b → (T b → Stands S l G h.kind h.tokens) → Spells S l G s (cond b (copy (bytes_of s h.kind h.tokens) ∷ []) own ++ cs) (cond b (h.tokens ++ z) (f z))
      go true e o = spells_copy h.kind h.tokens (subst T (sym e) tt) (o tt) u
      go false e o = g cs z u

  said_spells : (o : ℕ) (i : Bool) (xs : List Slot) (last : List ℕ) (g : Grove) (χ : Choice) (bs : List Bit) (ts : List Token) → FromSource S l G g → Spells S l G s bs ts → Spells S l G s (bits s o i xs last g χ ++ bs) (said s o i xs last g χ ts)
  unfolding bits said
  said_spells o i xs last nil χ bs ts f u = signs_spell last u
  said_spells o i xs last (top h k t) χ bs ts f u =
      let c = place_of xs in
      let n = pairs_at s o i h t χ in
      let y = layout (within n c) (label_of s h) (labelled s k) in
      let own = bits s h.kind true y.slots y.last k (under χ) in
      let x = in_pairs n (cond (one_of h.kind copied) (copy (bytes_of s h.kind h.tokens) ∷ []) own) in
      let more = bits s o false (later xs) last t (after χ) in
      let v = said_spells o false (later xs) last t (after χ) bs ts f.2 u in
      subst (λ (e : List Bit). Spells S l G s e (said s o i xs last (top h k t) χ ts)) (sym (append_assoc (signs (words_of xs)) (x ++ more) bs))
      (signs_spell (words_of xs) (subst (λ (e : List Bit). Spells S l G s e (say s c n h k (under χ) (said s o false (later xs) last t (after χ) ts))) (sym (append_assoc x more bs))
      (pairs_spell n _ _ _ _ (λ cs z w. own_spell h own (said s h.kind true y.slots y.last k (under χ)) f.0 (λ cs' z' w'. said_spells h.kind true y.slots y.last k (under χ) cs' z' f.1 w') cs z w) v)))

  pub spelled : (p : Parts) (χ : Choice) → FromSource S l G (grow p fresh).kids → Spells S l G s (bits s kinds.NONE true [] [] (grove_of p) χ ++ []) (tokens_of s p χ)
  spelled p χ o = said_spells kinds.NONE true [] [] (grove_of p) χ [] [] ((λ h. absurd h), o, tt) spells_none
