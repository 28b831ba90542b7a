-- As many rows as nodes; and a bound on the nodes of a reading by the bytes that it takes.
use mathlib.Core.Path.{◌≡◌, refl, ap}
use mathlib.Core.List.{List, [], ◌∷◌, ◌++◌}
use mathlib.Core.Bool.{Bool, true, false, ◌&&◌, cond}
use Prim.Native.Nat.{ℕ, ◌+◌, ◌*◌, ◌≤◌, ◌<◌}
use lib.Dec.{T, eqb, leb, leb→le}
use lib.ListN.{length, length-append}
use native.Mathlib.Omega.{arith}
use Rattle.grammar.specs.Grammar.{Ask, same, Symbol, token, phrase, unless, note, left_side, text, Rule, Token, found, Stream, Parts, end, leaf, node, mark, Language, one_of, alternatives, In}
use Rattle.grammar.specs.Limits.{Counts}
use Rattle.grammar.specs.Readings.{Reads, reads_end, reads_token, reads_phrase, reads_unless, reads_note, reads_side, reads_text, Is}
use Rattle.grammar.specs.Table.{rest_kinds}
use Rattle.grammar.specs.Rows.{own, child, Draft, take_note, add_row, row_of, is_text, text_row, add_token, enter, leave, write, blank, rows_from, rows, tree_row, mark_nodes, token_nodes, nodes}
use Rattle.grammar.specs.Choice.{hint_in}
use Rattle.grammar.proofs.Bools.{and_l, and_r}
use Rattle.grammar.proofs.Pass.{each_passes, passes_at}
use Rattle.grammar.proofs.Frame.{no_text, plain_word}

count_note : (k : ℕ) (a : Draft) → length (take_note k a).rows ≡ length a.rows + mark_nodes k
unfolding take_note
count_note k a = go (eqb k 0)
  where
    go : (b : Bool) → length (cond b (record { rows = a.rows; items = a.items; part = 1 }) (add_row (row_of k a.items a.part) a)).rows ≡ length a.rows + cond b 0 1
    go true = omega arith
    go false = length-append a.rows (row_of k a.items a.part ∷ [])

count_token : (x : Token) (a : Draft) → length (add_token x a).rows ≡ length a.rows + token_nodes x
unfolding add_token
count_token x a = go (is_text x) (eqb x.value 0) (record { rows = a.rows; items = a.items ++ (own x ∷ []); part = a.part }) (record { rows = a.rows ++ (text_row x ∷ []); items = a.items ++ (child (text_row x) ∷ []); part = a.part }) refl (length-append a.rows (text_row x ∷ []))
  where
    go : (b c : Bool) (w t : Draft) → length w.rows ≡ length a.rows → length t.rows ≡ length a.rows + 1 → length (cond b (cond c w t) w).rows ≡ length a.rows + cond b (cond c 0 1) 0
    go true true w t e f = omega arith
    go true false w t e f = omega arith
    go false c w t e f = omega arith

count_leave : (b : Bool) (a c : Draft) → (leave b a c).rows ≡ c.rows
count_leave true a c = refl
count_leave false a c = refl

count_enter : (b : Bool) (a : Draft) → (enter b a).rows ≡ a.rows
count_enter true a = refl
count_enter false a = refl

pub write_count : (p : Parts) (a : Draft) → length (write p a).rows ≡ length a.rows + nodes p
unfolding write nodes
write_count end a = omega arith
write_count (leaf x p) a = let h = write_count p (add_token x a) in let k = count_token x a in omega arith
write_count (node n s p q) a =
    let b = one_of n rest_kinds in
    let c = write p (enter b a) in
    let h = write_count q (leave b a c) in
    let k = write_count p (enter b a) in
    let e = ap length (count_leave b a c) in
    let f = ap length (count_enter b a) in
    omega arith
write_count (mark k p) a = let h = write_count p (take_note k a) in let e = count_note k a in omega arith

-- a tree has one row more: its own
abbrev pub tree_nodes : Bool → ℕ
tree_nodes true = 1
tree_nodes false = 0

pub rows_nodes : (tree : Bool) (len : ℕ) (p : Parts) → length (rows tree len p) ≡ nodes p + tree_nodes tree
unfolding rows rows_from
rows_nodes true len p =
    let a = write p blank in
    let h = write_count p blank in
    let k = length-append a.rows (tree_row len a ∷ []) in
    omega arith
rows_nodes false len p = let h = write_count p blank in omega arith

-- twice the rows that a list of symbols may add, and three times the tokens that it takes, by the hints of its kinds
module _ (l : Language) where
  abbrev pub more : ℕ → ℕ
  more n = (hint_in l.hints n).more

  abbrev pub less : ℕ → ℕ
  less n = (hint_in l.hints n).less

  abbrev pub up : List Symbol → ℕ
  up [] = 0
  up (token g w ∷ s) = up s
  up (phrase o n ∷ s) = more n + up s
  up (unless w ∷ s) = up s
  up (note k ∷ s) = 2 * mark_nodes k + up s
  up (left_side n n₁ ∷ s) = more n + (more n₁ + up s)
  up (text n ∷ s) = more n + up s

  abbrev pub down : List Symbol → ℕ
  down [] = 0
  down (token g w ∷ s) = 3 + down s
  down (phrase o n ∷ s) = less n + down s
  down (unless w ∷ s) = down s
  down (note k ∷ s) = down s
  down (left_side n n₁ ∷ s) = less n + down s
  down (text n ∷ s) = down s

  abbrev pub worded : List Symbol → Bool
  worded [] = true
  worded (token g w ∷ s) = no_text w && worded s
  worded (phrase o n ∷ s) = worded s
  worded (unless w ∷ s) = worded s
  worded (note k ∷ s) = worded s
  worded (left_side n n₁ ∷ s) = worded s
  worded (text n ∷ s) = worded s

  abbrev pub light : ℕ → List Symbol → Bool
  light n a = worded a && leb (up a + less n) (more n + down a)

  abbrev pub all_light : List Rule → Bool
  all_light = each_passes light

  light_one : {a : List Symbol} (n : ℕ) → T (all_light l.rules) → In a (alternatives l n) → T (worded a) × (up a + less n ≤ more n + down a)
  light_one {a} n t i =
      let u = worded a in
      let v = leb (up a + less n) (more n + down a) in
      let k = passes_at light l.rules n t i in
      (and_l u v k, leb→le (up a + less n) (more n + down a) (and_r u v k))

  -- a word of the grammar is no piece of text
  plain_token : (x : Token) (w : List ℕ) → T (no_text w) → T (one_of x.word w) → token_nodes x ≡ 0
  plain_token x w t m = ap (λ (b : Bool). cond b (cond (eqb x.value 0) 0 1) 0) (plain_word x w t m)

  module _ (lights : T (all_light l.rules)) (S : Stream) (ahead : S.Place → ℕ) (tokens_take : (x : Token) (i j : S.Place) → S.look i ≡ found x j → ahead j < ahead i) (pieces_take : (x : Token) (i j : S.Place) → S.piece i ≡ found x j → ahead j + token_nodes x ≤ ahead i) where
    forked : (b : Bool) (n₁ : ℕ) (s : List Symbol) → T (worded s) → T (worded (cond b (phrase same n₁ ∷ s) s)) × (up (cond b (phrase same n₁ ∷ s) s) ≤ more n₁ + up s) × (down s ≤ down (cond b (phrase same n₁ ∷ s) s))
    forked true n₁ s h = (h, omega arith, omega arith)
    forked false n₁ s h = (h, omega arith, omega arith)

    -- twice the nodes of a reading are three times what it takes, and no more than its kinds allow
    pub nodes_bound : {G : Ask → Counts → Token → Bool} {W : Bool → ℕ → Bool} {d : Counts} {s : List Symbol} {i r : S.Place} {p : Parts} → Reads S l G W (Is S l) d s i r p → T (worded s) → 2 * nodes p + 3 * ahead r + down s ≤ 3 * ahead i + up s
    unfolding nodes
    nodes_bound reads_end h = omega arith
    nodes_bound (reads_token {w = w} {s = s} {x = x} {i = i} {j = j} e m k t) h =
        let b = nodes_bound t (and_r (no_text w) (worded s) h) in
        let q = tokens_take x i j e in
        let z = plain_token x w (and_l (no_text w) (worded s) h) m in
        omega arith
    nodes_bound (reads_phrase {n = n} c t u) h =
        let k = light_one n lights c in
        let a = nodes_bound t k.0 in
        let b = nodes_bound u h in
        let z = k.1 in
        omega arith
    nodes_bound (reads_unless g t) h = nodes_bound t h
    nodes_bound (reads_note {k = k} t) h = let b = nodes_bound t h in omega arith
    nodes_bound (reads_side {n = n} {n₁ = n₁} {s = s} {p = p} c t g u) h =
        let k = light_one n lights c in
        let f = forked (l.is_path p) n₁ s h in
        let a = nodes_bound t k.0 in
        let b = nodes_bound u f.0 in
        let z = k.1 in
        let v = f.1 in
        let w = f.2 in
        omega arith
    nodes_bound (reads_text {n = n} {s = s} {x = x} {i = i} {j = j} e k t) h =
        let f = forked (eqb x.word l.hole) n s h in
        let b = nodes_bound t f.0 in
        let q = pieces_take x i j e in
        let v = f.1 in
        let w = f.2 in
        omega arith
