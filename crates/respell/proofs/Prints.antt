-- The text of a print reads as its tokens do.
use mathlib.Core.Path.{◌≡◌, refl, ap, ◌∙◌}
use mathlib.Core.List.{List, [], ◌∷◌}
use mathlib.Core.Bool.{Bool, cond}
use Prim.Native.Nat.{ℕ}
use native.Mathlib.Omega.{arith}
use lib.ListN.{length}
use lib.Dec.{T, ltb}
use borrow.Author.Tests.{le-ltb}
use Rattle.tokens.specs.Blanks.{skip_all}
use Rattle.tokens.specs.Rules.{refused, token_at}
use Rattle.tokens.specs.Tokens.{step_at}
use Rattle.grammar.specs.Grammar.{Ask, same, phrase, Token, over, Stream, Parts, Language}
use Rattle.grammar.specs.Limits.{Counts, zeros}
use Rattle.grammar.specs.Language.{roto}
use Rattle.grammar.specs.Culprit.{lists}
use Rattle.grammar.specs.Readings.{ReadingBy}
use Rattle.grammar.proofs.Checks.{roto_full}
use Rattle.answers.specs.Source.{source, look_of}
use Rattle.canon.specs.Text.{Bit, spaced}
use Rattle.printing.specs.Alike.{Match, match_end, match_leaf, match_node, match_mark}
use Rattle.respell.specs.Shown.{Like, Again, Shown, shown_none}
use Rattle.respell.specs.Spelt.{last_line, Spelt}
use Rattle.respell.proofs.FStrings.{roto_hole, roto_holes, roto_quotes}
use Rattle.respell.proofs.Spaced.{spaced_shown}
use Rattle.respell.proofs.Readings.{roto_solid, read_shown}

at_the_end : (w : List ℕ) (i : ℕ) → skip_all w i ≡ length w → (source w).look i ≡ over
unfolding step_at refused
at_the_end w i e = ap (λ (a : ℕ). look_of w (cond (ltb a (length w)) (token_at w a) (refused 11 (length w) (length w)))) e ∙ ap (λ (b : Bool). look_of w (cond b (token_at w (length w)) (refused 11 (length w) (length w)))) (le-ltb (length w) (length w) (omega arith))

nothing_more : {S : Stream} {Q : Token → Token → Type 0} {i r : S.Place} → Shown S Q [] i r → i ≡ r
nothing_more shown_none = refl

-- where tokens stand set aside
pub likes : {s w : List ℕ} {l : Language} {G : Ask → Counts → Token → Bool} {p q : Parts} → Match (Again s w l G) p q → Match Like p q
likes match_end = match_end
likes (match_leaf e m) = match_leaf e.like (likes m)
likes (match_node m k) = match_node (likes m) (likes k)
likes (match_mark m) = match_mark (likes m)

module _ (tests : Bool) (s : List ℕ) (F G G' : Ask → Counts → Token → Bool)
    (passes : (g : Ask) (d : Counts) (x y : Token) → Like x y → T (G g d x) → T (G' g d y))
    (paths : (p q : Parts) → Match Like p q → (roto tests).is_path p ≡ (roto tests).is_path q) where
  abbrev Stays : List ℕ → Token → Token → Type 0
  Stays w = Again s w (roto tests) F

  -- a reading of the print's tokens is a reading of its text, with the same tokens but for where their bytes stand
  pub print_read : {bs : List Bit} {xs : List Token} {p : Parts} (n : ℕ) → Spelt s (roto tests) F bs xs → T (last_line bs) → ReadingBy lists (roto tests) G zeros (phrase same n ∷ []) xs [] p
      → (parts : Parts) × (stop : ℕ) × ReadingBy (source (spaced bs)) (roto tests) G' zeros (phrase same n ∷ []) 0 stop parts × ((source (spaced bs)).look stop ≡ over) × Match (Stays (spaced bs)) p parts
  print_read {bs = bs} n u h t =
      let w : List ℕ = spaced bs in
      let v = spaced_shown s w (roto tests) (roto_hole tests) (roto_holes tests) (roto_quotes tests) F u h 0 0 refl (omega arith) refl in
      let r = read_shown (roto tests) (roto_full tests) (roto_solid tests) (source w) v.stop (Stays w) (λ x y k. k.like) G G' passes (λ p q m. paths p q (likes m)) t tt v.shown in
      (r.parts, r.to, r.reads, at_the_end w r.to (ap (skip_all w) (nothing_more r.there) ∙ v.over), r.alike)
