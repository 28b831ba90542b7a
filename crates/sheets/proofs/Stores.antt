-- Runs of bytes stored one behind the other, and one before the other.
use mathlib.Core.Path.{◌≡◌, refl, sym, ap, ◌∙◌}
use mathlib.Core.List.{List, [], ◌∷◌, ◌++◌, append_assoc, append-nil}
use Prim.Native.Nat.{ℕ, suc, ◌+◌, ◌-◌, ◌*◌, ◌/◌, ◌%◌, ◌≤◌, ◌<◌}
use native.Mathlib.Omega.{arith}
use native.Mathlib.Nat.{suc-mul}
use lib.ListN.{length, set, get_or, take, drop, replicate, length-append, length-set, length-drop}
use lib.Seq.{set_comm, take-suc, sets, length-sets, sets-eq, take-nil, drop-drop}
use borrow.Rule.Slice.PartMut.{put_mid}
use Rattle.std.specs.Int.{w64, to_le_bytes}
use Rattle.std.proofs.lemmas.List.{take-append-drop}
use Rattle.rows.specs.Rows.{zeroed}
use Rattle.grammar.specs.Rows.{flat}
use Rattle.entry.proofs.Stored.{zeroed_behind, flat_length}
use Rattle.sheets.specs.Files.{bytes, words, File, written}
use Rattle.sheets.proofs.Widths.{bytes_length, words_length}

pub stored_behind : (f xs ys : List ℕ) (i : ℕ) {j : ℕ} → i + length xs ≡ j → sets (sets f i xs) j ys ≡ sets f i (xs ++ ys)
stored_behind f [] ys i {j} e = ap (λ (n : ℕ). sets f n ys) (sym e ∙ nothing i)
  where
    nothing : (i : ℕ) → i + 0 ≡ i
    nothing i = omega arith
stored_behind f (x ∷ xs) ys i {j} e = stored_behind (set f i x) xs ys (suc i) (omega (arith, e))

-- a store before a run
set_before : (f : List ℕ) (i k x : ℕ) (ys : List ℕ) → i < k → set (sets f k ys) i x ≡ sets (set f i x) k ys
set_before f i k x [] h = refl
set_before f i k x (y ∷ ys) h = set_before (set f k y) i (suc k) x ys (omega arith) ∙ ap (λ (g : List ℕ). sets g (suc k) ys) (set_comm f k i y x λ e. absurd (omega (arith, e, h)))

pub stored_before : (f xs ys : List ℕ) (i : ℕ) {j : ℕ} → i + length xs ≡ j → sets (sets f j ys) i xs ≡ sets f i (xs ++ ys)
stored_before f [] ys i {j} e = ap (λ (n : ℕ). sets f n ys) (sym e ∙ nothing i)
  where
    nothing : (i : ℕ) → i + 0 ≡ i
    nothing i = omega arith
stored_before f (x ∷ xs) ys i {j} e = ap (λ (g : List ℕ). sets g (suc i) xs) (set_before f i j x ys (omega (arith, e))) ∙ stored_before (set f i x) xs ys (suc i) (omega (arith, e))

words_append : (w : ℕ) (xs ys : List ℕ) → words w (xs ++ ys) ≡ words w xs ++ words w ys
unfolding words
words_append w [] ys = refl
words_append w (x ∷ xs) ys = ap (λ (l : List ℕ). bytes w x ++ l) (words_append w xs ys) ∙ sym (append_assoc (bytes w x) (words w xs) (words w ys))

one_word : (w n : ℕ) → words w (n ∷ []) ≡ bytes w n
unfolding words
one_word w n = append-nil (bytes w n)

-- the loops: a number more, an index before
pub no_words : (f t : List ℕ) (w at : ℕ) → f ≡ sets f at (words w (take 0 t))
unfolding words
no_words f [] w at = refl
no_words f (x ∷ t) w at = refl

pub number_more : (w : ℕ) (f t g g' : List ℕ) (at i : ℕ) → g ≡ sets f at (words w (take i t)) → i < length t → g' ≡ sets g (at + i * w) (bytes w (get_or t i 0)) → g' ≡ sets f at (words w (take (i + 1) t))
number_more w f t g g' at i e h q =
    let l = lib.Seq.length-take-le i t (omega arith) in
    let k : length (words w (take i t)) ≡ i * w = words_length w (take i t) ∙ ap (λ (n : ℕ). n * w) l in
    q
    ∙ ap (λ (x : List ℕ). sets x (at + i * w) (bytes w (get_or t i 0))) e
    ∙ stored_behind f (words w (take i t)) (bytes w (get_or t i 0)) at (ap (λ (n : ℕ). at + n) k)
    ∙ ap (sets f at) (sym (ap (λ (n : ℕ). words w (take n t)) (native.Mathlib.Numerals.add-one i) ∙ ap (words w) (take-suc t i 0 h) ∙ words_append w (take i t) (get_or t i 0 ∷ []) ∙ ap (λ (x : List ℕ). words w (take i t) ++ x) (one_word w (get_or t i 0))))

pub index_before : (w : ℕ) (f g g' : List ℕ) (at left i n : ℕ) (rest : List ℕ) → suc i ≡ left → g ≡ sets f (at + left * w) (words w rest) → g' ≡ sets g (at + i * w) (bytes w n) → g' ≡ sets f (at + i * w) (words w (n ∷ rest))
unfolding words
index_before w f g g' at left i n rest h e q =
    let l = bytes_length w n in
    let m : left * w ≡ i * w + w = ap (λ (x : ℕ). x * w) (sym h) ∙ suc-mul i w in
    q ∙ ap (λ (x : List ℕ). sets x (at + i * w) (bytes w n)) e ∙ stored_before f (bytes w n) (words w rest) (at + i * w) (omega (arith, l, m))

-- zeros behind what was stored first
pub zeros_behind : (f xs : List ℕ) → length xs ≤ length f → zeroed (sets f 0 xs) (length xs) ≡ xs ++ replicate (length f - length xs) 0
zeros_behind f xs h =
    let d = length-drop (length xs) f in
    let z : 0 + length xs ≡ length xs = omega arith in
    ap (λ (l : List ℕ). zeroed l (length xs)) (sets-eq xs f 0 (omega (arith, h)) ∙ ap (λ (n : ℕ). xs ++ drop n f) z) ∙ zeroed_behind xs (drop (length xs) f) ∙ ap (λ (n : ℕ). xs ++ replicate n 0) d

-- zeros from a place on, as `fill` leaves them
pub zeros_put : (f : List ℕ) (from k : ℕ) {ys : List ℕ} → ys ≡ replicate k 0 → from + k ≡ length f → put_mid from k f ys ≡ zeroed f from
zeros_put f from k {ys} e l =
    let d = length-drop from f in
    let t = lib.Seq.length-take-le from f (omega (arith, l)) in
    let n : length (drop from f) ≡ k = omega (arith, d, l) in
    ap (put_mid from k f) e
    ∙ ap (λ (x : List ℕ). take from f ++ (replicate k 0 ++ x)) (drop-drop k from f ∙ lib.ListN.drop_of_length-le f {i = from + k} (omega (arith, l)))
    ∙ ap (λ (x : List ℕ). take from f ++ x) (append-nil (replicate k 0))
    ∙ ap (λ (j : ℕ). take from f ++ replicate j 0) (sym n)
    ∙ sym (zeroed_behind (take from f) (drop from f))
    ∙ (λ i. zeroed (take-append-drop from f i) (t i))

-- bytes that are put at a place, one behind the other
pub byte_more : (f s g : List ℕ) (at i : ℕ) → g ≡ sets f at (take i s) → i < length s → set g (at + i) (get_or s i 0) ≡ sets f at (take (i + 1) s)
byte_more f s g at i e h =
    let t = lib.Seq.length-take-le i s (omega arith) in
    ap (λ (l : List ℕ). set l (at + i) (get_or s i 0)) e ∙ stored_behind f (take i s) (get_or s i 0 ∷ []) at (omega (arith, t)) ∙ ap (sets f at) (sym (ap (λ (n : ℕ). take n s) (native.Mathlib.Numerals.add-one i) ∙ take-suc s i 0 h))

-- and those that std makes of a number
pub long_bytes : (x : ℕ) → to_le_bytes w64 x ≡ bytes 8 x
unfolding bytes
long_bytes x =
    let e₂ : x / 65536 ≡ x / 256 / 256 = omega arith in
    let e₃ : x / 16777216 ≡ x / 256 / 256 / 256 = omega arith in
    let e₄ : x / 4294967296 ≡ x / 256 / 256 / 256 / 256 = omega arith in
    let e₅ : x / 1099511627776 ≡ x / 256 / 256 / 256 / 256 / 256 = omega arith in
    let e₆ : x / 281474976710656 ≡ x / 256 / 256 / 256 / 256 / 256 / 256 = omega arith in
    let e₇ : x / 72057594037927936 ≡ x / 256 / 256 / 256 / 256 / 256 / 256 / 256 = omega arith in
    λ i. x % 256 ∷ x / 256 % 256 ∷ e₂ i % 256 ∷ e₃ i % 256 ∷ e₄ i % 256 ∷ e₅ i % 256 ∷ e₆ i % 256 ∷ e₇ i % 256 ∷ []

pub short_bytes : (x : ℕ) → take 4 (to_le_bytes w64 x) ≡ bytes 4 x
unfolding bytes
short_bytes x =
    let e₂ : x / 65536 ≡ x / 256 / 256 = omega arith in
    let e₃ : x / 16777216 ≡ x / 256 / 256 / 256 = omega arith in
    λ i. x % 256 ∷ x / 256 % 256 ∷ e₂ i % 256 ∷ e₃ i % 256 ∷ []

pub all_words : (w : ℕ) (f t g : List ℕ) (at i : ℕ) → g ≡ sets f at (words w (take i t)) → length t ≤ i → g ≡ sets f at (words w t)
all_words w f t g at i e h = e ∙ ap (λ (x : List ℕ). sets f at (words w x)) (lib.Seq.take_all i t h)

pub put_longer : (w : ℕ) (g g' : List ℕ) (k x : ℕ) → g' ≡ sets g k (bytes w x) → length g' ≡ length g
put_longer w g g' k x e = ap length e ∙ length-sets g k (bytes w x)

-- the six stores of a file
pub sections_stored : (f f₁ f₂ f₃ f₄ f₅ f₆ xs : List ℕ) (x : File) (a₁ a₂ a₃ a₄ a₅ : ℕ) → f₁ ≡ sets f 0 (bytes 4 (length x.source)) → a₁ ≡ 4 → f₂ ≡ sets f₁ a₁ x.source → a₂ ≡ 4 + length x.source → f₃ ≡ sets f₂ a₂ (bytes 4 (length x.rows)) → a₃ ≡ 4 + length x.source + 4 → xs ≡ flat x.rows → f₄ ≡ sets f₃ a₃ (words 8 xs) → a₄ ≡ 4 + length x.source + 4 + length x.rows * 7 * 8 → f₅ ≡ sets f₄ a₄ (bytes 4 (length x.indexes)) → a₅ ≡ 4 + length x.source + 4 + length x.rows * 7 * 8 + 4 → f₆ ≡ sets f₅ a₅ (words 4 x.indexes) → f₆ ≡ sets f 0 (written x)
unfolding written
sections_stored f f₁ f₂ f₃ f₄ f₅ f₆ xs x a₁ a₂ a₃ a₄ a₅ e₁ n₁ e₂ n₂ e₃ n₃ q e₄ n₄ e₅ n₅ e₆ =
    let p₁ : List ℕ = bytes 4 (length x.source) in
    let p₂ : List ℕ = p₁ ++ x.source in
    let p₃ : List ℕ = p₂ ++ bytes 4 (length x.rows) in
    let p₄ : List ℕ = p₃ ++ words 8 (flat x.rows) in
    let p₅ : List ℕ = p₄ ++ bytes 4 (length x.indexes) in
    let l₁ = bytes_length 4 (length x.source) in
    let l₂ = length-append p₁ x.source in
    let l₃ = length-append p₂ (bytes 4 (length x.rows)) in
    let m₃ = bytes_length 4 (length x.rows) in
    let l₄ = length-append p₃ (words 8 (flat x.rows)) in
    let m₄ = words_length 8 (flat x.rows) in
    let w₄ = flat_length x.rows in
    let l₅ = length-append p₄ (bytes 4 (length x.indexes)) in
    let m₅ = bytes_length 4 (length x.indexes) in
    let g₂ : f₂ ≡ sets f 0 p₂ = e₂ ∙ ap (λ (g : List ℕ). sets g a₁ x.source) e₁ ∙ stored_behind f p₁ x.source 0 (omega (arith, l₁, n₁)) in
    let g₃ : f₃ ≡ sets f 0 p₃ = e₃ ∙ ap (λ (g : List ℕ). sets g a₂ (bytes 4 (length x.rows))) g₂ ∙ stored_behind f p₂ (bytes 4 (length x.rows)) 0 (omega (arith, l₁, l₂, n₂)) in
    let g₄ : f₄ ≡ sets f 0 p₄ = e₄ ∙ (λ i. sets (g₃ i) a₃ (words 8 (q i))) ∙ stored_behind f p₃ (words 8 (flat x.rows)) 0 (omega (arith, l₁, l₂, l₃, m₃, n₃)) in
    let g₅ : f₅ ≡ sets f 0 p₅ = e₅ ∙ ap (λ (g : List ℕ). sets g a₄ (bytes 4 (length x.indexes))) g₄ ∙ stored_behind f p₄ (bytes 4 (length x.indexes)) 0 (omega (arith, l₁, l₂, l₃, m₃, l₄, m₄, w₄, n₄)) in
    e₆ ∙ ap (λ (g : List ℕ). sets g a₅ (words 4 x.indexes)) g₅ ∙ stored_behind f p₅ (words 4 x.indexes) 0 (omega (arith, l₁, l₂, l₃, m₃, l₄, m₄, w₄, l₅, m₅, n₅))

pub written_length : (x : File) → length (written x) ≡ 4 + length x.source + 4 + length x.rows * 7 * 8 + 4 + length x.indexes * 4
unfolding written
written_length x =
    let p₁ : List ℕ = bytes 4 (length x.source) in
    let p₂ : List ℕ = p₁ ++ x.source in
    let p₃ : List ℕ = p₂ ++ bytes 4 (length x.rows) in
    let p₄ : List ℕ = p₃ ++ words 8 (flat x.rows) in
    let p₅ : List ℕ = p₄ ++ bytes 4 (length x.indexes) in
    let l₁ = bytes_length 4 (length x.source) in
    let l₂ = length-append p₁ x.source in
    let l₃ = length-append p₂ (bytes 4 (length x.rows)) in
    let m₃ = bytes_length 4 (length x.rows) in
    let l₄ = length-append p₃ (words 8 (flat x.rows)) in
    let m₄ = words_length 8 (flat x.rows) in
    let w₄ = flat_length x.rows in
    let l₅ = length-append p₄ (bytes 4 (length x.indexes)) in
    let m₅ = bytes_length 4 (length x.indexes) in
    let l₆ = length-append p₅ (words 4 x.indexes) in
    let m₆ = words_length 4 x.indexes in
    omega (arith, l₁, l₂, l₃, m₃, l₄, m₄, w₄, l₅, m₅, l₆, m₆)
