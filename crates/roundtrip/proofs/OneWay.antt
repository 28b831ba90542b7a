-- What the printer promises is determined, and says what document 02 asks of a print.
use Rattle.std.specs.Prelude.{Ok}
use mathlib.Core.Path.{◌≡◌, refl, sym, ap, subst, ◌∙◌}
use mathlib.Core.List.{List, [], ◌∷◌, ◌++◌}
use mathlib.Core.Bool.{Bool, true, false, cond}
use mathlib.Core.Logic.{◌⊎◌, inl, inr, ◌≢◌}
use Prim.Native.Nat.{ℕ, zero, suc, ◌-◌, ◌*◌, ◌/◌, ◌≤◌, ◌<◌}
use native.Mathlib.Omega.{arith}
use native.Mathlib.Decide.{dec_lt}
use lib.Dec.{T, eqb, leb, leb→le, le→leb}
use lib.ListN.{length, take, replicate}
use Rattle.chars.specs.declared.Answer.{Answer}
use Rattle.tokens.specs.Tokens.{whole_of, counted}
use Rattle.rows.specs.Kinds as kinds
use Rattle.rows.specs.Rows.{width}
use Rattle.grammar.specs.Grammar.{Parts}
use Rattle.grammar.specs.Rows.{Row, flat}
use Rattle.grammar.proofs.Bools.{T→eq}
use Rattle.grammar.specs.Answers.{accepted}
use Rattle.answers.specs.Entries.{room, table_for, Permitted, early, read}
use Rattle.answers.specs.Demands.{Reading, rows_of}
use Rattle.answers.proofs.Determined.{whole_number, one_permitted, accepted_reads, reading_accepted}
use Rattle.answers.proofs.Demands.{demand_1, demand_3}
use Rattle.canon.specs.Trees.{tree_of}
use Rattle.printing.specs.Bare.{bare_rows}
use Rattle.roundtrip.specs.ReadsBack.{print_of, ReadsBack}
use Rattle.roundtrip.specs.Prints.{Judged, too_long, past_limit, no_room, fits, tests_in, plan_width, Prints, refuses, no_plan, refuses_print, prints}
use Rattle.roundtrip.specs.OneWay.{SameTree, text_in, OneWay}
use Rattle.roundtrip.proofs.ReadsBack as back
use Rattle.roundtrip.proofs.Answers.{accepted_prints}
use Rattle.roundtrip.proofs.Nine.{print_judged}

zero_or_not : (n : ℕ) → (n ≡ 0) ⊎ (n ≢ 0)
zero_or_not zero = inl refl
zero_or_not (suc n) = inr (λ e. omega (arith, e))

number_of : {x y : Answer} → x ≡ y → x.number ≡ y.number
number_of e = ap (λ (a : Answer). a.number) e

count_of : {x y : Answer} → x ≡ y → x.count ≡ y.count
count_of e = ap (λ (a : Answer). a.count) e

-- a text with a reading is not refused with 9
not_nine : (w : List ℕ) {x : Answer} {t : List ℕ} {q : Parts} → Permitted true true w 0 x t → x.number ≡ 9 → Reading true true w q → ⊥
not_nine w (early {r = r} e) n u = let h = (whole_number w r e).1 in omega arith
not_nine w {q = q} (read f g) n u = go (leb (length (rows_of true w q)) (room 0)) (sym (number_of (one_permitted true true w 0 (read f g) (reading_accepted true true w 0 f u)).0) ∙ n)
  where
    go : (b : Bool) → (cond {A = Answer} b (record { number = 0; start = 0; end = length w; count = length (rows_of true w q) }) (record { number = 10; start = 0; end = 0; count = length (rows_of true w q) })).number ≡ 9 → ⊥
    go true k = omega (arith, k)
    go false k = omega (arith, k)

one_judged : (n : ℕ) (w : List ℕ) (size : ℕ) {x y : Answer} {t u : List ℕ} → Judged n w size x t → Judged n w size y u → (x ≡ y) × (t ≡ u)
one_judged n w size (too_long h) (too_long h') = (refl, refl)
one_judged n w size (too_long h) (past_limit k a e) = absurd (omega arith)
one_judged n w size (too_long h) (no_room k r f) = absurd (omega arith)
one_judged n w size (too_long h) (fits k r f) = absurd (omega arith)
one_judged n w size (past_limit k a e) (too_long h) = absurd (omega arith)
one_judged n w size (past_limit k a e) (past_limit k' a' e') = ((one_permitted true true w 0 a a').0, refl)
one_judged n w size (past_limit k a e) (no_room k' r f) = absurd (not_nine w a e r)
one_judged n w size (past_limit k a e) (fits k' r f) = absurd (not_nine w a e r)
one_judged n w size (no_room k r f) (too_long h) = absurd (omega arith)
one_judged n w size (no_room k r f) (past_limit k' a e) = absurd (not_nine w a e r)
one_judged n w size (no_room k r f) (no_room k' r' f') = (refl, refl)
one_judged n w size (no_room k r f) (fits k' r' f') = absurd (omega arith)
one_judged n w size (fits k r f) (too_long h) = absurd (omega arith)
one_judged n w size (fits k r f) (past_limit k' a e) = absurd (not_nine w a e r)
one_judged n w size (fits k r f) (no_room k' r' f') = absurd (omega arith)
one_judged n w size (fits k r f) (fits k' r' f') = (refl, refl)

a_judged : (s : List ℕ) (p : Parts) (size : ℕ) → ReadsBack s p → whole_of s ≡ (Ok tt) → (x : Answer) × (t : List ℕ) × Judged (length s) (print_of s p) size x t
a_judged s p size b f = elim (dec_lt 65535 (length w)) [
  | yes h ↦ (_, _, too_long h)
  | no h ↦ short (omega (arith, h))
]
  where
    w : List ℕ
    w = print_of s p

    fitting : (q : Parts) → length w ≤ 65535 → Reading true true w q → (x : Answer) × (t : List ℕ) × Judged (length s) w size x t
    fitting q k r = elim (dec_lt size (length w)) [
      | yes h ↦ (_, _, no_room k r h)
      | no h ↦ (_, _, fits k r (omega (arith, h)))
    ]

    short : length w ≤ 65535 → (x : Answer) × (t : List ℕ) × Judged (length s) w size x t
    short k =
        let a = (demand_1 true true w 0).some_answer in
        go (print_judged s p 0 b f k a.2)
      where
        go : ((q : Parts) × Reading true true w q) ⊎ ((demand_1 true true w 0).some_answer.0.number ≡ 9) → (x : Answer) × (t : List ℕ) × Judged (length s) w size x t
        go (inl r) = fitting r.0 k r.1
        go (inr e) = (_, _, past_limit k (demand_1 true true w 0).some_answer.2 e)

take_all : (w v : List ℕ) → take (length w) (w ++ v) ≡ w
take_all [] v = refl
take_all (b ∷ w) v = ap (λ (l : List ℕ). b ∷ l) (take_all w v)

-- what is kept where rows are the same but for their bytes
tests_bare : (rs : List Row) → tests_in (bare_rows rs) ≡ tests_in rs
unfolding tests_in
tests_bare [] = refl
tests_bare (r ∷ rs) = ap (λ (n : ℕ). cond (eqb r.kind kinds.TEST) (suc n) n) (tests_bare rs)

length_bare : (rs : List Row) → length (bare_rows rs) ≡ length rs
length_bare [] = refl
length_bare (r ∷ rs) = ap suc (length_bare rs)

module _ (s : List ℕ) (size size' size'' : ℕ) where
  abbrev Is : Answer → ℕ → List ℕ → List ℕ → List ℕ → Type 0
  Is = Prints s size size' size''

  some : (x : Answer) × (n : ℕ) × (t u v : List ℕ) × Is x n t u v
  some = from (zero_or_not a.0.number)
    where
      a : (x : Answer) × (t : List ℕ) × Permitted true true s size x t
      a = (demand_1 true true s size).some_answer

      judged : (e : a.0.number ≡ 0) → a.0.count ≤ size' / plan_width → (x : Answer) × (n : ℕ) × (t u v : List ℕ) × Is x n t u v
      judged e h =
          let k = accepted_prints true s size a.2 e in
          let j = a_judged s k.parts size'' k.back k.whole in
          by k.parts k.reading j.0 j.1 j.2 (zero_or_not j.0.number)
        where
          by : (p : Parts) → Reading true true s p → (y : Answer) (u : List ℕ) → Judged (length s) (print_of s p) size'' y u → (y.number ≡ 0) ⊎ (y.number ≢ 0) → (x : Answer) × (n : ℕ) × (t u v : List ℕ) × Is x n t u v
          by p r y u j (inl m) = (_, _, _, _, _, prints a.2 e h r j m)
          by p r y u j (inr m) = (_, _, _, _, _, refuses_print a.2 e h r j m)

      from : (a.0.number ≡ 0) ⊎ (a.0.number ≢ 0) → (x : Answer) × (n : ℕ) × (t u v : List ℕ) × Is x n t u v
      from (inl e) = elim (dec_lt (size' / plan_width) a.0.count) [
        | yes h ↦ (_, _, _, _, _, no_plan a.2 e h)
        | no h ↦ judged e (omega (arith, h))
      ]
      from (inr n) = (_, _, _, _, _, refuses a.2 n)

  same_parts : {p q : Parts} → Reading true true s p → Reading true true s q → p ≡ q
  same_parts r o = let d = demand_3 true true s size in d.one_reading r (d.by_the_rules o)

  one_answer : {x x' : Answer} {t t' : List ℕ} → Permitted true true s size x t → Permitted true true s size x' t' → (x ≡ x') × (t ≡ t')
  one_answer a a' = one_permitted true true s size a a'

  same_judged : {p q : Parts} {y z : Answer} {u v : List ℕ} → Reading true true s p → Reading true true s q → Judged (length s) (print_of s p) size'' y u → Judged (length s) (print_of s q) size'' z v → (y ≡ z) × (u ≡ v)
  same_judged {p} {q} {y} {z} {u} {v} r o j k = one_judged (length s) (print_of s p) size'' j (subst (λ (c : Parts). Judged (length s) (print_of s c) size'' z v) (same_parts o r) k)

  one : {x y : Answer} {n m : ℕ} {t u v t' u' v' : List ℕ} → Is x n t u v → Is y m t' u' v' → (x ≡ y) × (n ≡ m) × (t ≡ t') × (u ≡ u') × (v ≡ v')
  one (refuses a n) (refuses a' n') = ((one_answer a a').0, refl, refl, refl, refl)
  one (refuses a n) (no_plan a' e' h') = absurd (n (number_of (one_answer a a').0 ∙ e'))
  one (refuses a n) (refuses_print a' e' h' r' j' m') = absurd (n (number_of (one_answer a a').0 ∙ e'))
  one (refuses a n) (prints a' e' h' r' j' m') = absurd (n (number_of (one_answer a a').0 ∙ e'))
  one (no_plan a e h) (refuses a' n') = absurd (n' (number_of (sym (one_answer a a').0) ∙ e))
  one (no_plan a e h) (no_plan a' e' h') = (ap (λ (c : ℕ). record { number = 10; start = 0; end = 0; count = c }) (count_of (one_answer a a').0), refl, refl, refl, refl)
  one (no_plan a e h) (refuses_print a' e' h' r' j' m') = absurd (let c = count_of (one_answer a a').0 in omega arith)
  one (no_plan a e h) (prints a' e' h' r' j' m') = absurd (let c = count_of (one_answer a a').0 in omega arith)
  one (refuses_print a e h r j m) (refuses a' n') = absurd (n' (number_of (sym (one_answer a a').0) ∙ e))
  one (refuses_print a e h r j m) (no_plan a' e' h') = absurd (let c = count_of (one_answer a a').0 in omega arith)
  one (refuses_print a e h r j m) (refuses_print a' e' h' r' j' m') = ((same_judged r r' j j').0, refl, refl, refl, refl)
  one (refuses_print a e h r j m) (prints a' e' h' r' j' m') = absurd (m (number_of (same_judged r r' j j').0 ∙ m'))
  one (prints a e h r j m) (refuses a' n') = absurd (n' (number_of (sym (one_answer a a').0) ∙ e))
  one (prints a e h r j m) (no_plan a' e' h') = absurd (let c = count_of (one_answer a a').0 in omega arith)
  one (prints a e h r j m) (refuses_print a' e' h' r' j' m') = absurd (m' (number_of (sym (same_judged r r' j j').0) ∙ m))
  one (prints a e h r j m) (prints a' e' h' r' j' m') =
      let k = same_judged r r' j j' in
      (k.0, ap (λ (p : Parts). tests_in (rows_of true s p)) (same_parts r r'), (one_answer a a').1, refl, k.1)

  zeros_left : {x : Answer} {n : ℕ} {t u v : List ℕ} → Is x n t u v → x.number ≢ 0 → (n ≡ 0) × (t ≡ replicate size 0) × (u ≡ replicate size' 0) × (v ≡ replicate size'' 0)
  zeros_left (refuses a n) f = (refl, refl, refl, refl)
  zeros_left (no_plan a e h) f = (refl, refl, refl, refl)
  zeros_left (refuses_print a e h r j m) f = (refl, refl, refl, refl)
  zeros_left (prints a e h r j m) f = absurd (f m)

  -- an accepted print
  pub record Printed (x : Answer) (n : ℕ) (v : List ℕ) : Type 0 where
    pub parts : Parts
    pub parts' : Parts
    pub reads : Reading true true s parts
    pub reads' : Reading true true (print_of s parts) parts'
    pub whole : whole_of s ≡ (Ok tt)
    pub short : length (print_of s parts) ≤ 65535
    pub tests : n ≡ tests_in (rows_of true s parts)
    pub rows : length (rows_of true s parts) ≤ room size
    pub plan : length (rows_of true s parts) ≤ size' / plan_width
    pub answer : x ≡ record { number = 0; start = 0; end = length s; count = length (print_of s parts) }
    pub in_room : length (print_of s parts) ≤ size''
    pub text : v ≡ print_of s parts ++ replicate (size'' - length (print_of s parts)) 0

  printed : {x : Answer} {n : ℕ} {t u v : List ℕ} → Is x n t u v → x.number ≡ 0 → Printed x n v
  printed (refuses a n) e = absurd (n e)
  printed (no_plan a f h) e = absurd (omega (arith, e))
  printed (refuses_print a f h r j m) e = absurd (m e)
  printed (prints {p = p} a f h r j m) e = by j m
    where
      by : {y : Answer} {u : List ℕ} → Judged (length s) (print_of s p) size'' y u → y.number ≡ 0 → Printed y (tests_in (rows_of true s p)) u
      by (too_long g) o = absurd (omega (arith, o))
      by (past_limit g b c) o = absurd (omega (arith, o, c))
      by (no_room g b c) o = absurd (omega (arith, o))
      by (fits {q = q} g b c) o =
          let k = accepted_reads true true s size a f in
          let z = same_parts k.text r in
          let n : length (rows_of true s p) ≤ room size = leb→le (length (rows_of true s p)) (room size) (subst (λ (c : Parts). T (leb (length (rows_of true s c)) (room size))) z k.fits) in
          let l = count_of k.answer ∙ ap (λ (c : Parts). length (rows_of true s c)) z in
          record { parts = p; parts' = q; reads = r; reads' = b; whole = (accepted_prints true s size a f).whole; short = g; tests = refl; rows = n; plan = omega arith; answer = refl; in_room = c; text = refl }

  text_is : {x : Answer} {n : ℕ} {v : List ℕ} (k : Printed x n v) → text_in x v ≡ print_of s k.parts
  text_is {x = x} {v = v} k =
      let w : List ℕ = print_of s k.parts in
      ap (λ (a : Answer). take a.count v) k.answer ∙ ap (take (length w)) k.text ∙ take_all w (replicate (size'' - length w) 0)

  the_same : {x : Answer} {n : ℕ} {t u v : List ℕ} → Is x n t u v → x.number ≡ 0 → SameTree s (text_in x v)
  the_same i e =
      let k = printed i e in
      let b = back.reads_back s k.parts k.reads in
      let q = sym (b.accepted k.reads') in
      let w : List ℕ = print_of s k.parts in
      subst (SameTree s) (sym (text_is k)) (record {
        parts = k.parts;
        parts' = k.parts';
        reads = k.reads;
        reads' = k.reads';
        same_rows = subst (λ (c : Parts). bare_rows (rows_of true w c) ≡ bare_rows (rows_of true s k.parts)) q b.same_rows;
        same_trees = subst (λ (c : Parts). tree_of w (rows_of true w c) ≡ tree_of s (rows_of true s k.parts)) q b.same_trees;
      })

-- a print that was accepted, printed again with as much room
again_printed : (s : List ℕ) (size size' size'' : ℕ) {x : Answer} {n : ℕ} {v : List ℕ} (k : Printed s size size' size'' x n v)
    → (t' : List ℕ) × Prints (print_of s k.parts) size size' size'' (record { number = 0; start = 0; end = length (print_of s k.parts); count = length (print_of s k.parts) }) n t' (replicate size' 0) v
again_printed s size size' size'' {n = n} {v = v} k = (tbl, subst (λ (m : ℕ). Prints w size size' size'' y m tbl (replicate size' 0) v) same_tests (subst (Prints w size size' size'' y (tests_in (rows_of true w k.parts')) tbl (replicate size' 0)) (sym k.text) (prints a number plan k.reads' judged refl)))
  where
    w : List ℕ
    w = print_of s k.parts

    y : Answer
    y = record { number = 0; start = 0; end = length w; count = length w }

    tbl : List ℕ
    tbl = table_for size (accepted (rows_of true w k.parts'))

    b : ReadsBack s k.parts
    b = back.reads_back s k.parts k.reads

    q : b.parts ≡ k.parts'
    q = sym (b.accepted k.reads')

    bare : bare_rows (rows_of true w k.parts') ≡ bare_rows (rows_of true s k.parts)
    bare = subst (λ (c : Parts). bare_rows (rows_of true w c) ≡ bare_rows (rows_of true s k.parts)) q b.same_rows

    many : length (rows_of true w k.parts') ≡ length (rows_of true s k.parts)
    many = sym (length_bare (rows_of true w k.parts')) ∙ ap length bare ∙ length_bare (rows_of true s k.parts)

    same_tests : tests_in (rows_of true w k.parts') ≡ n
    same_tests = sym (tests_bare (rows_of true w k.parts')) ∙ ap tests_in bare ∙ tests_bare (rows_of true s k.parts) ∙ sym k.tests

    fine : whole_of w ≡ (Ok tt)
    fine = b.fine k.whole k.short

    a : Permitted true true w size (counted (length w) (length (rows_of true w k.parts')) (room size)) (table_for size (accepted (rows_of true w k.parts')))
    a = reading_accepted true true w size fine k.reads'

    enough : leb (length (rows_of true w k.parts')) (room size) ≡ true
    enough = T→eq (leb (length (rows_of true w k.parts')) (room size)) (le→leb (length (rows_of true w k.parts')) (room size) (subst (λ (m : ℕ). m ≤ room size) (sym many) k.rows))

    number : (counted (length w) (length (rows_of true w k.parts')) (room size)).number ≡ 0
    number = ap (λ (o : Bool). (cond {A = Answer} o (record { number = 0; start = 0; end = length w; count = length (rows_of true w k.parts') }) (record { number = 10; start = 0; end = 0; count = length (rows_of true w k.parts') })).number) enough

    plan : (counted (length w) (length (rows_of true w k.parts')) (room size)).count ≤ size' / plan_width
    plan = subst (λ (m : ℕ). m ≤ size' / plan_width) (sym (ap (λ (o : Bool). (cond {A = Answer} o (record { number = 0; start = 0; end = length w; count = length (rows_of true w k.parts') }) (record { number = 10; start = 0; end = 0; count = length (rows_of true w k.parts') })).count) enough ∙ many)) k.plan

    self : print_of w k.parts' ≡ w
    self = subst (λ (c : Parts). print_of w c ≡ w) q b.again

    judged : Judged (length w) (print_of w k.parts') size'' y (w ++ replicate (size'' - length w) 0)
    judged = subst (λ (z : List ℕ). Judged (length w) z size'' y (w ++ replicate (size'' - length w) 0)) (sym self) (fits k.short k.reads' k.in_room)

pub one_way : (s : List ℕ) (size size' size'' : ℕ) → OneWay s size size' size''
one_way s size size' size'' = record {
  some_answer = some s size size' size'';
  no_other = one s size size' size'';
  refused_zeros = zeros_left s size size' size'';
  reads_back = the_same s size size' size'';
  again = λ {x} {y} {n} {m} {t} {u} {v} {t'} {u'} {v'} i e j.
      let k = printed s size size' size'' i e in
      let w : List ℕ = print_of s k.parts in
      let g = again_printed s size size' size'' k in
      let o = one w size size' size'' (subst (λ (z : List ℕ). Prints z size size' size'' y m t' u' v') (text_is s size size' size'' k) j) g.1 in
      (number_of o.0, count_of o.0 ∙ sym (count_of k.answer), o.1, o.4);
}
