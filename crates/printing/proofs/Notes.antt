-- Which notes make rows that are copied.
use mathlib.Core.Path.{◌∙◌, ◌≡◌, ap, subst, sym, refl}
use mathlib.Core.List.{List, [], ◌∷◌}
use mathlib.Core.Bool.{Bool, true, false, not, ◌&&◌, cond}
use Prim.Native.Nat.{ℕ}
use lib.Dec.{T, T_not, eqb}
use Rattle.grammar.specs.Grammar.{Symbol, left_side, note, one_of, phrase, same, text, token, unless}
use Rattle.grammar.specs.Table.{literal_row}
use Rattle.grammar.specs.Rows.{detail_for}
use Rattle.canon.specs.Trees.{copied}
use Rattle.printing.specs.Groves.{Head, State, head_for}
use Rattle.printing.specs.Groves as groves

-- notes that are no copied rows
abbrev pub plain_note : ℕ → Bool
plain_note k = not (eqb k literal_row) && not (one_of k copied)

abbrev pub plain_notes : List Symbol → Bool
plain_notes [] = true
plain_notes (token g w ∷ t) = plain_notes t
plain_notes (phrase o n ∷ t) = plain_notes t
plain_notes (unless w ∷ t) = plain_notes t
plain_notes (note k ∷ t) = plain_note k && plain_notes t
plain_notes (left_side n m ∷ t) = plain_notes t
plain_notes (text n ∷ t) = plain_notes t

pub plain_if : (b : Bool) (n : ℕ) (t : List Symbol) → T (plain_notes t) → T (plain_notes (cond b (phrase same n ∷ t) t))
plain_if true n t h = h
plain_if false n t h = h

pub not_copied : {X : Type 0} (k : ℕ) (b : State) → T (plain_note k) → one_of (head_for k b).kind copied ≡ true → X
not_copied {X} k b h e = go (eqb k literal_row) refl h
  where
    go : (p : Bool) → eqb k literal_row ≡ p → T (not p && not (one_of k copied)) → X
    go true i t = absurd t
    go false i t = absurd (T_not (one_of k copied) t (subst T (sym (ap (λ (q : Bool). one_of (cond {A = Head} q (groves.literal_head b.lead b.kids) (record { kind = k; value = b.part; detail = detail_for k (groves.sign_in b.sign); tokens = [] })).kind copied) (sym i) ∙ e)) tt))
