-- The scan byte by byte gives the piece that the items make.
use Rattle.std.specs.Prelude.{Some, None}
use mathlib.Core.Path.{◌≡◌, refl, sym, ap, subst, ◌∙◌}
use mathlib.Core.List.{List, [], ◌∷◌}
use mathlib.Core.Option.{Option, none, some}
use mathlib.Core.Bool.{Bool, true, false, ◌||◌, cond}
use Prim.Native.Nat.{ℕ, suc, ◌+◌, ◌-◌, ◌≤◌}
use lib.Dec.{eqb, eqb→eq}
use lib.ListN.{length, drop, length-drop, drop_of_length-le}
use native.Mathlib.Decide.{dec_le}
use native.Mathlib.Omega.{arith}
use Rattle.texts.specs.declared.Mode.{Mode}
use Rattle.texts.specs.declared.Mode.TheVariants.{Text, Escape, Letter, Code, Brace, Hole, Last, Torn}
use Rattle.texts.specs.Results.{Scanned}
use Rattle.texts.specs.declared.Part.{Part}
use Rattle.texts.specs.declared.Part.TheVariants.{Before, Ends}
use Rattle.texts.specs.Signs.{backslash, quote, open_brace, close_brace, small_u, capital_u}
use Rattle.texts.specs.Parts.{past_open, past_close, past_code, past_escape, past_item, past_items, end_at, part_at}
use Rattle.texts.specs.Modes.{mode_after, scans, ended_at, modes_from}

-- a mode that scans no further
pub stays : (m : Mode) (at : ℕ) (l : List ℕ) → scans m ≡ false → modes_from m at l ≡ ended_at m at
unfolding modes_from
stays m at [] e = refl
stays m at (b ∷ l) e = subst (λ (t : Bool). elim t [ true ↦ modes_from (mode_after m b) (at + 1) l | false ↦ ended_at m at ] ≡ ended_at m at) (sym e) refl

-- the piece from the front of a list on, in a source that ends at `top`
abbrev within : ℕ → List ℕ → Scanned
within top rest = end_at (top - length rest) rest

abbrev Piece : ℕ → List ℕ → List ℕ → Scanned
Piece top count l = within top (past_items count l)

abbrev behind : ℕ → List ℕ → Option (List ℕ) → Scanned
behind top count none = None
behind top count (some rest) = Piece top count rest

module _ (top : ℕ) (count : List ℕ) (at b : ℕ) (l : List ℕ) where
  in_code : modes_from Text (at + 1) l ≡ Piece top count l → modes_from Code (at + 1) l ≡ behind top count (past_close l) → modes_from Code at (b ∷ l) ≡ behind top count (past_close (b ∷ l))
  unfolding modes_from mode_after past_close
  in_code h k = go (eqb b close_brace)
    where
      go : (t : Bool) → modes_from (cond t Text Code) (at + 1) l ≡ behind top count (elim t [ true ↦ some l | false ↦ past_close l ])
      go true = h
      go false = k

  in_letter : modes_from Code (at + 1) l ≡ behind top count (past_close l) → modes_from Letter at (b ∷ l) ≡ behind top count (past_code (b ∷ l))
  unfolding modes_from mode_after past_open past_code
  in_letter k = go (eqb b open_brace)
    where
      past : Option (List ℕ) → Option (List ℕ)
      past o = elim o [ none ↦ none | some inside ↦ past_close inside ]

      go : (t : Bool) → modes_from (cond t Code Torn) (at + 1) l ≡ behind top count (past (elim t [ true ↦ some l | false ↦ none ]))
      go true = k
      go false = stays Torn (at + 1) l refl

  in_escape : modes_from Text (at + 1) l ≡ Piece top count l → modes_from Letter (at + 1) l ≡ behind top count (past_code l) → modes_from Escape at (b ∷ l) ≡ behind top count (past_escape (b ∷ l))
  unfolding modes_from mode_after past_escape
  in_escape h k = go (eqb b small_u || eqb b capital_u)
    where
      go : (t : Bool) → modes_from (cond t Letter Text) (at + 1) l ≡ behind top count (elim t [ true ↦ past_code l | false ↦ some l ])
      go true = k
      go false = h

  -- behind a `{`
  in_brace : top ≡ at + suc (length l) → modes_from Text (at + 1) l ≡ Piece top count l → modes_from Brace at (b ∷ l) ≡ within top (elim (past_open (b ∷ l)) [ none ↦ open_brace ∷ b ∷ l | some rest ↦ past_items count rest ])
  unfolding modes_from mode_after past_open end_at
  in_brace e h = go (eqb b open_brace)
    where
      up_to : Option (List ℕ) → List ℕ
      up_to o = elim o [ none ↦ open_brace ∷ b ∷ l | some rest ↦ past_items count rest ]

      go : (t : Bool) → modes_from (cond t Text Hole) (at + 1) l ≡ within top (up_to (elim t [ true ↦ some l | false ↦ none ]))
      go true = h
      go false = stays Hole (at + 1) l refl ∙ ap (λ (z : ℕ). Some (Before z)) (omega (arith, e))

module _ (top : ℕ) (count : List ℕ) (at x : ℕ) (l : List ℕ) where
  at_backslash : modes_from Escape (at + 1) l ≡ behind top count (past_escape l) → modes_from Text at (backslash ∷ l) ≡ Piece top (x ∷ count) (backslash ∷ l)
  unfolding modes_from mode_after past_item past_items end_at
  at_backslash k = go (past_escape l) k
    where
      no_end : (r : List ℕ) → None ≡ within top (backslash ∷ r)
      no_end [] = refl
      no_end (c ∷ r) = refl

      go : (o : Option (List ℕ)) → modes_from Escape (at + 1) l ≡ behind top count o → modes_from Escape (at + 1) l ≡ within top (elim o [ none ↦ backslash ∷ l | some rest ↦ past_items count rest ])
      go none k' = k' ∙ no_end l
      go (some rest) k' = k'

  at_quote : top ≡ at + suc (length l) → modes_from Text at (quote ∷ l) ≡ Piece top (x ∷ count) (quote ∷ l)
  unfolding modes_from mode_after past_item past_items end_at
  at_quote e = stays Last (at + 1) l refl ∙ go l (omega (arith, e))
    where
      go : (r : List ℕ) → at + 1 - 1 ≡ top - suc (length r) → Some (Ends (at + 1 - 1)) ≡ within top (quote ∷ r)
      go [] q = ap (λ (z : ℕ). Some (Ends z)) q
      go (c ∷ r) q = ap (λ (z : ℕ). Some (Ends z)) q

  at_byte : (b : ℕ) → eqb b backslash ≡ false → eqb b open_brace ≡ false → eqb b quote ≡ false → modes_from Text (at + 1) l ≡ Piece top count l → modes_from Text at (b ∷ l) ≡ Piece top (x ∷ count) (b ∷ l)
  unfolding modes_from mode_after past_item past_items
  at_byte b p q r h = ap (λ (m : Mode). modes_from m (at + 1) l) mode ∙ h ∙ sym (ap (λ (o : Option (List ℕ)). within top (elim o [ none ↦ b ∷ l | some rest ↦ past_items count rest ])) item)
    where
      mode : cond (eqb b backslash) Escape (cond (eqb b open_brace) Brace (cond (eqb b quote) Last Text)) ≡ Text
      mode = rw (p, q, r) refl

      none_of : (t u v : Bool) → t ≡ false → u ≡ false → v ≡ false → elim t [ true ↦ past_escape l | false ↦ elim u [ true ↦ past_open l | false ↦ elim v [ true ↦ none | false ↦ some l ] ] ] ≡ some l
      none_of t u v p' q' r' = rw (p', q', r') refl

      item : past_item (b ∷ l) ≡ some l
      item = none_of (eqb b backslash) (eqb b open_brace) (eqb b quote) p q r

at_open : (top : ℕ) (count : List ℕ) (at x : ℕ) → modes_from Text at (open_brace ∷ []) ≡ Piece top (x ∷ count) (open_brace ∷ [])
unfolding modes_from mode_after past_open past_item past_items end_at
at_open top count at x = refl

at_two : (top : ℕ) (count : List ℕ) (at x b : ℕ) (l : List ℕ) → modes_from Brace (at + 1) (b ∷ l) ≡ within top (elim (past_open (b ∷ l)) [ none ↦ open_brace ∷ b ∷ l | some rest ↦ past_items count rest ]) → modes_from Text at (open_brace ∷ b ∷ l) ≡ Piece top (x ∷ count) (open_brace ∷ b ∷ l)
unfolding modes_from mode_after past_item past_items
at_two top count at x b l h = h

of_byte : (top : ℕ) (count : List ℕ) (at x b : ℕ) (l : List ℕ) →
    modes_from Text at (backslash ∷ l) ≡ Piece top (x ∷ count) (backslash ∷ l) →
    modes_from Text at (open_brace ∷ l) ≡ Piece top (x ∷ count) (open_brace ∷ l) →
    top ≡ at + suc (length l) →
    modes_from Text (at + 1) l ≡ Piece top count l →
    modes_from Text at (b ∷ l) ≡ Piece top (x ∷ count) (b ∷ l)
of_byte top count at x b l f g e h = go (eqb b backslash) (eqb b open_brace) (eqb b quote) refl refl refl
  where
    is : (c : ℕ) → eqb b c ≡ true → modes_from Text at (c ∷ l) ≡ Piece top (x ∷ count) (c ∷ l) → modes_from Text at (b ∷ l) ≡ Piece top (x ∷ count) (b ∷ l)
    is c p k = subst (λ (n : ℕ). modes_from Text at (n ∷ l) ≡ Piece top (x ∷ count) (n ∷ l)) (sym (eqb→eq b c (rw p tt))) k

    go : (t u v : Bool) → eqb b backslash ≡ t → eqb b open_brace ≡ u → eqb b quote ≡ v → modes_from Text at (b ∷ l) ≡ Piece top (x ∷ count) (b ∷ l)
    go true u v p q r = is backslash p f
    go false true v p q r = is open_brace q g
    go false false true p q r = is quote r (at_quote top count at x l e)
    go false false false p q r = at_byte top count at x l b p q r h

none_left : (count : List ℕ) → past_items count [] ≡ []
unfolding past_item past_items
none_left [] = refl
none_left (x ∷ count) = refl

mutual
  unfolding modes_from end_at past_open past_code past_escape past_close

  text_is : (l count : List ℕ) (top at : ℕ) → length l ≤ length count → top ≡ at + length l → modes_from Text at l ≡ Piece top count l
  text_is [] count top at h e = sym (ap (within top) (none_left count))
  text_is (b ∷ l) [] top at h e = absurd (omega (arith, h))
  text_is (b ∷ l) (x ∷ count) top at h e = of_byte top count at x b l (at_backslash top count at x l (escape_is l count top (at + 1) (omega arith) (omega arith))) (open_is l count top at x (omega arith) e) e (text_is l count top (at + 1) (omega arith) (omega arith))

  open_is : (l count : List ℕ) (top at x : ℕ) → length l ≤ length count → top ≡ at + suc (length l) → modes_from Text at (open_brace ∷ l) ≡ Piece top (x ∷ count) (open_brace ∷ l)
  open_is [] count top at x h e = at_open top count at x
  open_is (b ∷ l) count top at x h e = at_two top count at x b l (in_brace top count (at + 1) b l (omega arith) (text_is l count top (at + 1 + 1) (omega arith) (omega arith)))

  escape_is : (l count : List ℕ) (top at : ℕ) → length l ≤ length count → top ≡ at + length l → modes_from Escape at l ≡ behind top count (past_escape l)
  escape_is [] count top at h e = refl
  escape_is (b ∷ l) count top at h e = in_escape top count at b l (text_is l count top (at + 1) (omega arith) (omega arith)) (letter_is l count top (at + 1) (omega arith) (omega arith))

  letter_is : (l count : List ℕ) (top at : ℕ) → length l ≤ length count → top ≡ at + length l → modes_from Letter at l ≡ behind top count (past_code l)
  letter_is [] count top at h e = refl
  letter_is (b ∷ l) count top at h e = in_letter top count at b l (code_is l count top (at + 1) (omega arith) (omega arith))

  code_is : (l count : List ℕ) (top at : ℕ) → length l ≤ length count → top ≡ at + length l → modes_from Code at l ≡ behind top count (past_close l)
  code_is [] count top at h e = refl
  code_is (b ∷ l) count top at h e = in_code top count at b l (text_is l count top (at + 1) (omega arith) (omega arith)) (code_is l count top (at + 1) (omega arith) (omega arith))

pub modes_part : (s : List ℕ) (at : ℕ) → modes_from Text at (drop at s) ≡ part_at s at
unfolding modes_from end_at part_at
modes_part s at = elim (dec_le at (length s)) [
  | yes h ↦ text_is (drop at s) s (length s) at (omega (arith, length-drop at s)) (omega (arith, h, length-drop at s))
  | no h ↦ (let z : drop at s ≡ [] = drop_of_length-le s {i = at} (omega (arith, h)) in
      ap (modes_from Text at) z ∙ sym (ap (within (length s)) (ap (past_items s) z ∙ none_left s)))
]
