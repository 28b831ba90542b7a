-- A run of stores, one store after the other.
use Rattle.std.proofs.Common.{◌≡◌, ℕ, List, ◌+◌, ◌<◌, length, drop, slice_index_or, slice_set, ap, sym, ◌∙◌, add-one}
use Rattle.std.proofs.lemmas.List.Edits.{sets}
use Rattle.std.proofs.Math.Seq.{drop-cons}

-- the store at i, and then the stores behind it, are those from i on
pub stored : (l m vs r : List ℕ) (i : ℕ) → i < length vs → m ≡ slice_set l i (slice_index_or vs i 0) → sets l i (drop i vs) ≡ r → sets m (i + 1) (drop (i + 1) vs) ≡ r
stored l m vs r i h e g =
    ap (λ (x : List ℕ). sets x (i + 1) (drop (i + 1) vs)) e
    ∙ ap (λ (k : ℕ). sets (slice_set l i (slice_index_or vs i 0)) k (drop k vs)) (add-one i)
    ∙ sym (ap (sets l i) (drop-cons vs i 0 h))
    ∙ g
