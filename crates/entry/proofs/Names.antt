-- The text of a name row and its place, by the tests that the row passes.
use mathlib.Core.Path.{◌≡◌, sym, ap}
use mathlib.Core.List.{List, []}
use mathlib.Core.Bool.{true, false}
use Prim.Native.Nat.{ℕ, ◌+◌, ◌<◌, ◌≤◌}
use native.Mathlib.Nat.{add_comm, add-zero}
use lib.ListN.{length}
use lib.Seq.{slice}
use borrow.Author.Tests.{eq-eqb, ne_eqb, le-leb, lt-leb}
use Rattle.entry.specs.Entries.{name_fits, name_text, name_start}

-- a pointer: its block, and how far behind the block's start
abbrev placed : ℕ → ℕ → ℕ × ℕ
placed b n = (b, n)

module _ (s : List ℕ) (kind start end : ℕ) where
  pub other_kind : (kind ≡ 1 → ⊥) → name_fits s kind start end ≡ false
  unfolding name_fits
  other_kind h = rw (ne_eqb kind 1 h)

  pub ends_early : kind ≡ 1 → end < start → name_fits s kind start end ≡ false
  unfolding name_fits
  ends_early k h = rw (eq-eqb kind 1 k, lt-leb start end h)

  pub ends_late : kind ≡ 1 → start ≤ end → length s < end → name_fits s kind start end ≡ false
  unfolding name_fits
  ends_late k g h = rw (eq-eqb kind 1 k, le-leb start end g, lt-leb end (length s) h)

  pub the_name : kind ≡ 1 → start ≤ end → end ≤ length s → name_fits s kind start end ≡ true
  unfolding name_fits
  the_name k g h = rw (eq-eqb kind 1 k, le-leb start end g, le-leb end (length s) h)

  -- the text and where it lies: inside its span, or the empty part at the front
  module _ {t : List ℕ} (b o : ℕ) where
    pub spanned : name_fits s kind start end ≡ true → t ≡ slice start end s → (t ≡ name_text s kind start end) × (placed b (start + o) ≡ placed b (o + name_start s kind start end))
    unfolding name_text name_start
    spanned f e = (rw f e, rw f (ap (placed b) (add_comm start o)))

    pub at_front : name_fits s kind start end ≡ false → t ≡ [] → (t ≡ name_text s kind start end) × (placed b o ≡ placed b (o + name_start s kind start end))
    unfolding name_text name_start
    at_front f e = (rw f e, rw f (ap (placed b) (sym (add-zero o))))
