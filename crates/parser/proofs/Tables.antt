-- Stores into the table: one law for them all.
use mathlib.Core.Path.{◌≡◌, refl, ap, ◌∙◌}
use mathlib.Core.List.{List, [], ◌∷◌, ◌++◌}
use mathlib.Core.Bool.{Bool, true, false, ◌&&◌, not, cond}
use Prim.Native.Nat.{ℕ, ◌+◌, ◌-◌, ◌*◌}
use lib.Dec.{ltb}
use lib.ListN.{length, set, get_or, length-set}
use native.Mathlib.Omega.{arith}
use Rattle.rows.specs.declared.Row.{Row}
use Rattle.rows.specs.Rows.{width, comparing, room, written, same_at, noted, put_row}
use Rattle.grammar.specs.Rows as grammar
use Rattle.parser.specs.Going.{as_row, store}

pub store_append : (t : List ℕ) (n : ℕ) (a b : List grammar.Row) → store t n (a ++ b) ≡ store (store t n a) (n + length a) b
unfolding store
store_append t n [] b = ap (λ (k : ℕ). store t k b) (omega arith)
store_append t n (r ∷ a) b = store_append (put_row t n (as_row r) r.size) (n + 1) a b ∙ ap (λ (k : ℕ). store (store (put_row t n (as_row r) r.size) (n + 1) a) k b) (omega arith)

-- one row more
pub store_row : (t : List ℕ) (n : ℕ) (a : List grammar.Row) (r : grammar.Row) → store t n (a ++ (r ∷ [])) ≡ put_row (store t n a) (n + length a) (as_row r) r.size
unfolding store
store_row t n a r = store_append t n a (r ∷ [])

pub put_length : (t : List ℕ) (n : ℕ) (r : Row) (z : ℕ) → length (put_row t n r z) ≡ length t
unfolding put_row noted
put_length t n r z = one_of (comparing t) (noted t n r z) (cond (ltb n (room t)) (written t (n * width) r z) t) (noted_length (ltb n (get_or t (length t - 1) 0) && not (same_at t n r z))) (go (ltb n (room t)))
  where
    one_of : (b : Bool) (x y : List ℕ) → length x ≡ length t → length y ≡ length t → length (cond b x y) ≡ length t
    one_of true x y p q = p
    one_of false x y p q = q

    noted_length : (b : Bool) → length (cond b (set t (length t - 1) n) t) ≡ length t
    noted_length true = length-set t (length t - 1) n
    noted_length false = refl

    all : (i : ℕ) → length (written t i r z) ≡ length t
    all i =
        length-set (set (set (set (set (set (set t i r.kind) (i + 1) r.start) (i + 2) r.end) (i + 3) r.children) (i + 4) r.value) (i + 5) r.detail) (i + 6) z
        ∙ length-set (set (set (set (set (set t i r.kind) (i + 1) r.start) (i + 2) r.end) (i + 3) r.children) (i + 4) r.value) (i + 5) r.detail
        ∙ length-set (set (set (set (set t i r.kind) (i + 1) r.start) (i + 2) r.end) (i + 3) r.children) (i + 4) r.value
        ∙ length-set (set (set (set t i r.kind) (i + 1) r.start) (i + 2) r.end) (i + 3) r.children
        ∙ length-set (set (set t i r.kind) (i + 1) r.start) (i + 2) r.end
        ∙ length-set (set t i r.kind) (i + 1) r.start
        ∙ length-set t i r.kind

    go : (b : Bool) → length (cond b (written t (n * width) r z) t) ≡ length t
    go true = all (n * width)
    go false = refl

pub store_length : (t : List ℕ) (n : ℕ) (a : List grammar.Row) → length (store t n a) ≡ length t
unfolding store
store_length t n [] = refl
store_length t n (r ∷ a) = store_length (put_row t n (as_row r) r.size) (n + 1) a ∙ put_length t n (as_row r) r.size
