-- What a row needs to know of a phrase's items, kept up item by item: so that a reader carries numbers and no items.
use mathlib.Core.Path.{◌≡◌, refl, ap}
use mathlib.Core.List.{List, [], ◌∷◌, ◌++◌}
use mathlib.Core.Bool.{false}
use mathlib.Core.Option.{Option, none, some}
use Prim.Native.Nat.{ℕ, suc, ◌+◌}
use lib.Dec.{eqb}
use native.Mathlib.Omega.{arith}
use Rattle.grammar.specs.Grammar.{Token}
use Rattle.grammar.specs.Table.{literal_row}
use Rattle.grammar.specs.Rows.{Row, Item, own, child, start_of, end_of, ends, count, sizes, sign_of, detail_for, row_of}

-- nothing yet; or where the first item begins, where the last ends, how many are rows, and the first word, if any
pub data Sum : Type 0 where
  empty : Sum
  sum : ℕ → ℕ → ℕ → Option ℕ → Sum

abbrev pub first_word : List Item → Option ℕ
first_word [] = none
first_word (own x ∷ xs) = some x.word
first_word (child r ∷ xs) = first_word xs

abbrev pub sum_of : List Item → Sum
sum_of [] = empty
sum_of (x ∷ xs) = sum (start_of x) (ends (x ∷ xs)) (count (x ∷ xs)) (first_word (x ∷ xs))

abbrev pub or_word : Option ℕ → ℕ → Option ℕ
or_word none w = some w
or_word (some v) w = some v

abbrev pub word_or_0 : Option ℕ → ℕ
word_or_0 none = 0
word_or_0 (some w) = w

-- one item more: a word of the phrase's own, or a row
abbrev pub sum_own : Sum → Token → Sum
sum_own empty x = sum x.start x.end 0 (some x.word)
sum_own (sum a e c w) x = sum a x.end c (or_word w x.word)

abbrev pub sum_child : Sum → Row → Sum
sum_child empty r = sum r.start r.end 1 none
sum_child (sum a e c w) r = sum a r.end (c + 1) w

-- the row that the items give
abbrev pub sum_row : ℕ → Sum → ℕ → ℕ → Row
sum_row k empty part size = record { kind = k; start = 0; end = 0; children = 0; value = part; detail = detail_for k 0; size = size }
sum_row k (sum a e c w) part size = record { kind = k; start = a; end = e; children = c; value = part; detail = detail_for k (word_or_0 w); size = size }

ends_snoc : (xs : List Item) (x : Item) → ends (xs ++ (x ∷ [])) ≡ end_of x
ends_snoc [] x = refl
ends_snoc (y ∷ []) x = refl
ends_snoc (y ∷ z ∷ xs) x = ends_snoc (z ∷ xs) x

count_own : (xs : List Item) (x : Token) → count (xs ++ (own x ∷ [])) ≡ count xs
count_own [] x = refl
count_own (own y ∷ xs) x = count_own xs x
count_own (child r ∷ xs) x = ap suc (count_own xs x)

count_child : (xs : List Item) (r : Row) → count (xs ++ (child r ∷ [])) ≡ count xs + 1
count_child [] r = refl
count_child (own y ∷ xs) r = count_child xs r
count_child (child q ∷ xs) r = let h = count_child xs r in omega arith

word_own : (xs : List Item) (x : Token) → first_word (xs ++ (own x ∷ [])) ≡ or_word (first_word xs) x.word
word_own [] x = refl
word_own (own y ∷ xs) x = refl
word_own (child r ∷ xs) x = word_own xs x

word_child : (xs : List Item) (r : Row) → first_word (xs ++ (child r ∷ [])) ≡ first_word xs
word_child [] r = refl
word_child (own y ∷ xs) r = refl
word_child (child q ∷ xs) r = word_child xs r

sign_word : (xs : List Item) → sign_of xs ≡ word_or_0 (first_word xs)
sign_word [] = refl
sign_word (own x ∷ xs) = refl
sign_word (child r ∷ xs) = sign_word xs

pub sum_snoc_own : (xs : List Item) (x : Token) → sum_of (xs ++ (own x ∷ [])) ≡ sum_own (sum_of xs) x
sum_snoc_own [] x = refl
sum_snoc_own (y ∷ ys) x = cc (ends_snoc (y ∷ ys) (own x), count_own (y ∷ ys) x, word_own (y ∷ ys) x)

pub sum_snoc_child : (xs : List Item) (r : Row) → sum_of (xs ++ (child r ∷ [])) ≡ sum_child (sum_of xs) r
sum_snoc_child [] r = refl
sum_snoc_child (y ∷ ys) r = cc (ends_snoc (y ∷ ys) (child r), count_child (y ∷ ys) r, word_child (y ∷ ys) r)

-- a row but a literal's, from the summary
pub row_sum : (k : ℕ) (xs : List Item) (part : ℕ) → eqb k literal_row ≡ false → row_of k xs part ≡ sum_row k (sum_of xs) part (suc (sizes xs))
unfolding row_of
row_sum k [] part e = rw e refl
row_sum k (x ∷ xs) part e = rw (e, sign_word (x ∷ xs)) refl
