-- The laws by which the steps of the entry point follow one another.
use mathlib.Core.Path.{◌≡◌, refl, sym, ap, subst, ◌∙◌}
use mathlib.Core.List.{List, [], ◌∷◌, ◌++◌}
use mathlib.Core.Bool.{Bool, true, false, cond}
use mathlib.Core.Logic.{◌⊎◌, inl, inr, ◌≢◌}
use Prim.Native.Nat.{ℕ, zero, suc, ◌+◌, ◌-◌, ◌*◌, ◌/◌, ◌≤◌, ◌<◌}
use native.Mathlib.Omega.{arith}
use lib.Dec.{eqb, ltb, leb, le→leb}
use lib.ListN.{length, get_or, take, replicate, length-append}
use lib.Seq.{get_or-append-add}
use borrow.Author.Tests.{ltb-false, eq-eqb, ne_eqb}
use Rattle.chars.specs.declared.Answer.{Answer}
use Rattle.rows.specs.Kinds as kinds
use Rattle.grammar.specs.Grammar.{Parts}
use Rattle.grammar.specs.Rows.{Row, numbers, flat}
use Rattle.grammar.proofs.Bools.{T→eq}
use Rattle.answers.specs.Entries.{Permitted}
use Rattle.answers.specs.Demands.{Reading, rows_of}
use Rattle.canon.specs.Trees.{tree_of}
use Rattle.canon.specs.Text.{tokens, printed}
use Rattle.sink.specs.declared.Sink.{Sink}
use Rattle.sink.specs.Few.{few}
use Rattle.sink.specs.Told.{Told, empty, state, telling, padded, capped}
use Rattle.sink.proofs.Prints.{telling_prints}
use Rattle.roundtrip.specs.ReadsBack.{print_of}
use Rattle.roundtrip.specs.Prints.{Judged, too_long, past_limit, no_room, fits, tests_in, Prints, refuses, no_plan, refuses_print, prints}
use Rattle.roundtrip.proofs.ReadsBack.{reads_back}
use Rattle.roundtrip.proofs.Answers.{accepted_prints}
use Rattle.roundtrip.proofs.Nine.{print_judged}
use Rattle.setter.specs.declared.entries.Printed.{Printed}
use Rattle.setter.specs.Waiting.{Planted, Grown, Writes}
use Rattle.setter.specs.Steps.{Rowed, Standing, Short, BackFor, LimitFor, tests_at, Spoken, JudgedFor, answer_of, Set}
use Rattle.entry.proofs.Stored.{flat_length}
use Rattle.setter.proofs.Planted.{planted}

-- an accepted source's rows stand in the table
pub standing : (s : List ℕ) (size : ℕ) {x : Answer} {t : List ℕ} → Permitted true true s size x t → x.number ≡ 0 → Standing s t x.count
standing s size a e = let k = accepted_prints true s size a e in (k.parts, record { reading = k.reading; whole = k.whole; count = k.count; behind = _; table = k.table })

-- and their trees
trees_stand : {s t : List ℕ} {n : ℕ} {p : Parts} → Rowed s t n p → Planted s t n (tree_of s (rows_of true s p))
trees_stand {s} {t} {n} {p} k = subst (λ (m : ℕ). Planted s t m (tree_of s (rows_of true s p))) (sym k.count) (subst (λ (l : List ℕ). Planted s l (length (rows_of true s p)) (tree_of s (rows_of true s p))) (sym k.table) (planted s k.behind p))

pub grows : {s t : List ℕ} {n : ℕ} → Standing s t n → Grown s t n
grows {s} k = (tree_of s (rows_of true s k.0), trees_stand k.1)

-- a text of zeros, padded
zeros_padded : (n : ℕ) → replicate n 0 ≡ padded n []
unfolding padded
zeros_padded zero = refl
zeros_padded (suc n) = ap (λ (l : List ℕ). 0 ∷ l) (zeros_padded n)

padded_fits : (n : ℕ) (w : List ℕ) → length w ≤ n → padded n w ≡ w ++ replicate (n - length w) 0
unfolding padded
padded_fits zero [] h = refl
padded_fits zero (b ∷ w) h = absurd (omega arith)
padded_fits (suc n) [] h = sym (zeros_padded (suc n)) ∙ ap (λ (k : ℕ). replicate k 0) {x = suc n} {y = suc n - 0} (omega arith)
padded_fits (suc n) (b ∷ w) h = ap (λ (l : List ℕ). b ∷ l) (padded_fits n w (omega arith)) ∙ ap (λ (k : ℕ). b ∷ (w ++ replicate k 0)) {x = n - length w} {y = suc n - suc (length w)} (omega arith)

-- what was written to a text of n zeros: the text is right where all bytes are counted
record Wrote (s : List ℕ) (n : ℕ) (p : Parts) (text : List ℕ) (k : Sink) : Type 0 where
  text_is : length (print_of s p) ≤ 65535 → text ≡ padded n (print_of s p)
  at_is : k.at ≡ capped (length (print_of s p))
  row_is : leb k.row 32 ≡ few 0 (tokens (tree_of s (rows_of true s p)))

wrote : {s t : List ℕ} {m n : ℕ} {text text' : List ℕ} {k : Sink} {p : Parts} → Writes s t m text text' k → text ≡ replicate n 0 → Rowed s t m p → Wrote s n p text' k
unfolding printed
wrote {s} {t} {m} {n} {text} {text'} {k} {p} w e r =
    let h : state text' k ≡ telling (state (padded n []) empty) (tokens (tree_of s (rows_of true s p))) = w (tree_of s (rows_of true s p)) (trees_stand r) ∙ ap (λ (l : List ℕ). telling (state l empty) (tokens (tree_of s (rows_of true s p)))) (e ∙ zeros_padded n) in
    let z = telling_prints n (tokens (tree_of s (rows_of true s p))) in
    record {
      text_is = λ l. ap (λ (x : Told). x.text) h ∙ z.text (omega arith);
      at_is = ap (λ (x : Told). x.sink.at) h ∙ z.at;
      row_is = ap (λ (x : Told). leb x.sink.row 32) h ∙ z.row;
    }

pub spoken : {s t : List ℕ} {m : ℕ} (n : ℕ) {text text' : List ℕ} {k : Sink} → Writes s t m text text' k → text ≡ replicate n 0 → Spoken s t m k
spoken n w e p r = let h = wrote {n = n} w e r in (h.at_is, h.row_is)

-- the count of a print that isn't too long
capped_long : (n : ℕ) → 65535 < capped n → 65535 < n
capped_long n h = go (ltb n 65536) refl h
  where
    go : (b : Bool) → ltb n 65536 ≡ b → 65535 < cond b n 65536 → 65535 < n
    go true e k = k
    go false e k = ltb-false n 65536 e

capped_short : (n : ℕ) → capped n ≤ 65535 → capped n ≡ n
capped_short n h = go (ltb n 65536) refl h
  where
    go : (b : Bool) → ltb n 65536 ≡ b → cond b n 65536 ≤ 65535 → cond b n 65536 ≡ n
    go true e k = refl
    go false e k = absurd (omega arith)

count_is : {s t : List ℕ} {n : ℕ} (k : Sink) {p : Parts} → Spoken s t n k → k.at ≤ 65535 → Rowed s t n p → k.at ≡ length (print_of s p)
count_is {s} k {p} u h r = let e = (u p r).0 in e ∙ capped_short (length (print_of s p)) (subst (λ (m : ℕ). m ≤ 65535) e h)

pub short : {s t : List ℕ} {n : ℕ} (k : Sink) → Spoken s t n k → k.at ≤ 65535 → Short s t n
short k u h p r = let e = count_is k u h r in omega arith

-- reading back what was written
take_all : (w v : List ℕ) → take (length w) (w ++ v) ≡ w
take_all [] v = refl
take_all (b ∷ w) v = ap (λ (l : List ℕ). b ∷ l) (take_all w v)

take_padded : (n m : ℕ) (w : List ℕ) → m ≡ length w → length w ≤ n → take m (padded n w) ≡ w
take_padded n m w e h = ap (λ (k : ℕ). take k (padded n w)) e ∙ ap (take (length w)) (padded_fits n w h) ∙ take_all w (replicate (n - length w) 0)

capped_in : (n : ℕ) → n ≤ 65535 → capped n ≡ n
capped_in n h = ap (λ (b : Bool). cond b n 65536) (T→eq (ltb n 65536) (le→leb (suc n) 65536 (omega arith)))

copied : {s t : List ℕ} {m : ℕ} {text text' : List ℕ} {k : Sink} {p : Parts} → Writes s t m text text' k → text ≡ replicate 65535 0 → Rowed s t m p → length (print_of s p) ≤ 65535 → (k.at ≡ length (print_of s p)) × (take k.at text' ≡ print_of s p)
copied {s} {k = k} {p = p} w e r l =
    let z = wrote w e r in
    let c = z.at_is ∙ capped_in (length (print_of s p)) l in
    (c, ap (take k.at) (z.text_is l) ∙ take_padded 65535 k.at (print_of s p) c l)

-- it lies in the copy
pub back_in : {s t : List ℕ} {m : ℕ} {text text' : List ℕ} {k : Sink} → Writes s t m text text' k → text ≡ replicate 65535 0 → Standing s t m → Short s t m → k.at ≤ length text'
back_in {s} w e g h =
    let v = print_of s g.0 in
    let l : length v ≤ 65535 = h g.0 g.1 in
    let c = (copied w e g.1 l).0 in
    let a = ap length ((wrote {n = 65535} w e g.1).text_is l ∙ padded_fits 65535 v l) in
    let b = length-append v (replicate (65535 - length v) 0) in
    omega arith

pub back_count : {s t : List ℕ} {m : ℕ} {text text' : List ℕ} {k : Sink} → Writes s t m text text' k → text ≡ replicate 65535 0 → Standing s t m → Short s t m → k.at ≡ length (take k.at text')
back_count w e g h = let c = copied w e g.1 (h g.0 g.1) in c.0 ∙ sym (ap length c.1)

pub back_for : {s t : List ℕ} {m : ℕ} {text text' : List ℕ} {k : Sink} {x : Answer} {u : List ℕ} → Writes s t m text text' k → text ≡ replicate 65535 0 → Short s t m → Permitted true true (take k.at text') 0 x u → BackFor s t m x
back_for {x = x} {u = u} w e h a p r = (u, subst (λ (v : List ℕ). Permitted true true v 0 x u) (copied w e r (h p r)).1 a)

-- what was read back
pub back_limit : {s t : List ℕ} {n : ℕ} {x : Answer} → Short s t n → BackFor s t n x → LimitFor s t n x
back_limit {s} {x = x} h b p r = ((λ z. b p r), (λ z. go z (print_judged s p 0 (reads_back s p r.reading) r.whole (h p r) (b p r).1)))
  where
    go : x.number ≢ 9 → ((q : Parts) × Reading true true (print_of s p) q) ⊎ (x.number ≡ 9) → (q : Parts) × Reading true true (print_of s p) q
    go z (inl q) = q
    go z (inr e) = absurd (z e)

-- what is said of the print
pub judge_long : {s t : List ℕ} {n size : ℕ} (k : Sink) → Spoken s t n k → 65535 < k.at → JudgedFor s t n size (record { number = 1; start = 65535; end = 65535; count = 0 })
judge_long {s} k u h p r = (_, too_long (capped_long (length (print_of s p)) (subst (λ (m : ℕ). 65535 < m) (u p r).0 h)))

pub judge_deep : {s t : List ℕ} {n size : ℕ} (k : Sink) {x : Answer} → Spoken s t n k → k.at ≤ 65535 → LimitFor s t n x → x.number ≡ 9 → JudgedFor s t n size x
judge_deep k u h l e p r = (_, past_limit (short k u h p r) ((l p r).0 e).1 e)

pub judge_room : {s t : List ℕ} {n size : ℕ} (k : Sink) {x y : Answer} → Spoken s t n k → k.at ≤ 65535 → LimitFor s t n x → x.number ≢ 9 → size < k.at → y ≡ record { number = 10; start = 0; end = 0; count = k.at } → JudgedFor s t n size y
judge_room {s} {size = size} k u h l e f g p r =
    let c = count_is k u h r in
    (_, subst (λ (a : Answer). Judged (length s) (print_of s p) size a (replicate size 0)) (sym (g ∙ ap (λ (m : ℕ). record { number = 10; start = 0; end = 0; count = m }) c)) (no_room (short k u h p r) ((l p r).1 e).1 (omega arith)))

pub judge_fits : {s t : List ℕ} {n size : ℕ} (k : Sink) {x : Answer} → Spoken s t n k → k.at ≤ 65535 → LimitFor s t n x → x.number ≢ 9 → k.at ≤ size → JudgedFor s t n size (record { number = 0; start = 0; end = length s; count = k.at })
judge_fits {s} {size = size} k u h l e f p r =
    let c = count_is k u h r in
    (_, subst (λ (m : ℕ). Judged (length s) (print_of s p) size (record { number = 0; start = 0; end = length s; count = m }) (print_of s p ++ replicate (size - length (print_of s p)) 0)) (sym c) (fits (short k u h p r) ((l p r).1 e).1 (omega arith)))

-- how many of the rows are tests
later_kind : (r : Row) (t : List ℕ) (n : ℕ) → get_or (numbers r ++ t) (suc n * 7) 0 ≡ get_or t (n * 7) 0
later_kind r t n = ap (λ (k : ℕ). get_or (numbers r ++ t) k 0) {x = suc n * 7} {y = 7 + n * 7} (omega arith) ∙ get_or-append-add (numbers r) t (n * 7) 0

tests_past : (r : Row) (t : List ℕ) (n : ℕ) → tests_at (numbers r ++ t) (suc n) ≡ cond (eqb r.kind kinds.TEST) 1 0 + tests_at t n
unfolding tests_at
tests_past r t zero = omega arith
tests_past r t (suc n) = more _ (cond (eqb r.kind kinds.TEST) 1 0) (tests_at t n) _ _ (tests_past r t n) (ap (λ (k : ℕ). cond (eqb k kinds.TEST) 1 0) (later_kind r t n))
  where
    more : (a b c d e : ℕ) → a ≡ b + c → d ≡ e → a + d ≡ b + (c + e)
    more a b c d e p q = omega arith

more_tests : (b : Bool) (n : ℕ) → cond b 1 0 + n ≡ cond b (suc n) n
more_tests true n = omega arith
more_tests false n = omega arith

tests_flat : (rs : List Row) (z : List ℕ) → tests_at (flat rs ++ z) (length rs) ≡ tests_in rs
unfolding tests_at tests_in
tests_flat [] z = refl
tests_flat (r ∷ rs) z = tests_past r (flat rs ++ z) (length rs) ∙ ap (λ (m : ℕ). cond (eqb r.kind kinds.TEST) 1 0 + m) (tests_flat rs z) ∙ more_tests (eqb r.kind kinds.TEST) (tests_in rs)

tests_stand : {s t : List ℕ} {n : ℕ} {p : Parts} → Rowed s t n p → tests_at t n ≡ tests_in (rows_of true s p)
tests_stand {s} {t} {n} {p} r = ap (tests_at t) r.count ∙ ap (λ (l : List ℕ). tests_at l (length (rows_of true s p))) r.table ∙ tests_flat (rows_of true s p) r.behind

pub rows_room : {s t : List ℕ} {n : ℕ} → Standing s t n → n * 7 ≤ length t
rows_room {s} {t} {n} g =
    let r = g.1 in
    let a = r.count in
    let b = ap length r.table in
    let c = length-append (flat (rows_of true s g.0)) r.behind in
    let d = flat_length (rows_of true s g.0) in
    omega arith

-- one row more
pub next_row : (t : List ℕ) (i c d v : ℕ) → (c ≡ tests_at t i) × (c ≤ i) → get_or t (i * 7) 0 ≡ v → ((v ≡ kinds.TEST) × (d ≡ c + 1)) ⊎ ((v ≢ kinds.TEST) × (d ≡ c)) → (d ≡ tests_at t (i + 1)) × (d ≤ i + 1)
unfolding tests_at
next_row t i c d v e f g = go g
  where
    at : (b : Bool) → eqb v kinds.TEST ≡ b → d ≡ c + cond b 1 0 → d ≡ tests_at t (i + 1)
    at b h k = k ∙ ap (λ (m : ℕ). m + cond b 1 0) e.0 ∙ ap (λ (q : Bool). tests_at t i + cond q 1 0) (sym (ap (λ (m : ℕ). eqb m kinds.TEST) f ∙ h)) ∙ ap (tests_at t) {x = suc i} {y = i + 1} (omega arith)

    go : ((v ≡ kinds.TEST) × (d ≡ c + 1)) ⊎ ((v ≢ kinds.TEST) × (d ≡ c)) → (d ≡ tests_at t (i + 1)) × (d ≤ i + 1)
    go (inl h) = let k = h.1 in let l = e.1 in (at true (eq-eqb v kinds.TEST h.0) k, omega (arith, k, l))
    go (inr h) = let k = h.1 in let l = e.1 in (at false (ne_eqb v kinds.TEST h.0) (k ∙ omega arith), omega (arith, k, l))

-- the print is in the text; or it is refused
pub set_fits : {s t : List ℕ} {n size size' : ℕ} {text text' : List ℕ} {k : Sink} {a : Answer} {r : Printed} → Writes s t n text text' k → text ≡ replicate size 0 → JudgedFor s t n size' a → size' ≡ size → a.number ≡ 0 → (answer_of r ≡ a) × (r.tests ≡ tests_at t n) → Set s t n size text' r
set_fits {s} {t} {n} {size} {text} {text'} {k} {a} {r} w e j i o f p q = ((j p q).0, subst (λ (x : Answer). Judged (length s) (print_of s p) size x (j p q).0) (sym f.0) judged, λ z. (go judged o, f.1 ∙ tests_stand q))
  where
    judged : Judged (length s) (print_of s p) size a (j p q).0
    judged = subst (λ (m : ℕ). Judged (length s) (print_of s p) m a (j p q).0) i (j p q).1

    go : {x : Answer} {u : List ℕ} → Judged (length s) (print_of s p) size x u → x.number ≡ 0 → text' ≡ u
    go (too_long g) o = absurd (omega (arith, o))
    go (past_limit g b c) o = absurd (omega (arith, o, c))
    go (no_room g b c) o = absurd (omega (arith, o))
    go (fits g b c) o = (wrote {n = size} w e q).text_is g ∙ padded_fits size (print_of s p) c

pub set_refused : {s t : List ℕ} {n size size' : ℕ} {text' : List ℕ} {a : Answer} {r : Printed} → JudgedFor s t n size' a → size' ≡ size → a.number ≢ 0 → (answer_of r ≡ a) × (r.tests ≡ 0) → Set s t n size text' r
set_refused {s} {size = size} {a = a} {r = r} j i o f p q =
    ((j p q).0, subst (λ (x : Answer). Judged (length s) (print_of s p) size x (j p q).0) (sym f.0) (subst (λ (m : ℕ). Judged (length s) (print_of s p) m a (j p q).0) i (j p q).1), λ z. absurd (o (sym (ap (λ (x : Answer). x.number) f.0) ∙ z)))

-- the complete answer
abbrev Zeros : List ℕ → ℕ → Type 0
Zeros t n = t ≡ replicate n 0

as_printed : (s : List ℕ) (a b c : ℕ) {x y : Answer} {n m : ℕ} {t u v t' u' v' : List ℕ} → Prints s a b c x n t u v → y ≡ x → m ≡ n → t' ≡ t → u' ≡ u → v' ≡ v → Prints s a b c y m t' u' v'
as_printed s a b c {x} {y} {n} {m} {t} {u} {v} {t'} {u'} {v'} k e f g h l =
    subst (λ (z : Answer). Prints s a b c z m t' u' v') (sym e)
    (subst (λ (z : ℕ). Prints s a b c x z t' u' v') (sym f)
    (subst (λ (z : List ℕ). Prints s a b c x n z u' v') (sym g)
    (subst (λ (z : List ℕ). Prints s a b c x n t z v') (sym h)
    (subst (λ (z : List ℕ). Prints s a b c x n t u z) (sym l) k))))

zeros_of : (n m : ℕ) {t : List ℕ} → t ≡ replicate n 0 → n ≡ m → t ≡ replicate m 0
zeros_of n m e f = e ∙ ap (λ (k : ℕ). replicate k 0) f

-- what `refused` leaves, where its slices have these lengths
abbrev Leaves : Answer → Printed → List ℕ → List ℕ → List ℕ → ℕ → ℕ → ℕ → Type 0
Leaves x r t u v a b c = (answer_of r ≡ x) × (r.tests ≡ 0) × Zeros t a × Zeros u b × Zeros v c

pub prints_unread : (s : List ℕ) {a b c : ℕ} (a' b' c' : ℕ) {x : Answer} {r : Printed} {t t' u v : List ℕ} → Permitted true true s a x t → x.number ≢ 0 → Leaves x r t' u v a' b' c' → a' ≡ a → b' ≡ b → c' ≡ c → Prints s a b c (answer_of r) r.tests t' u v
prints_unread s {a} {b} {c} a' b' c' k n l e f g = as_printed s a b c (refuses k n) l.0 l.1 (zeros_of a' a l.2 e) (zeros_of b' b l.3 f) (zeros_of c' c l.4 g)

pub prints_planless : (s : List ℕ) {a b c : ℕ} (a' b' c' : ℕ) {x y : Answer} {r : Printed} {t t' u v : List ℕ} → Permitted true true s a x t → x.number ≡ 0 → b / 4 < x.count → y ≡ record { number = 10; start = 0; end = 0; count = x.count } → Leaves y r t' u v a' b' c' → a' ≡ a → b' ≡ b → c' ≡ c → Prints s a b c (answer_of r) r.tests t' u v
prints_planless s {a} {b} {c} a' b' c' k n h q l e f g = as_printed s a b c (no_plan k n h) (l.0 ∙ q) l.1 (zeros_of a' a l.2 e) (zeros_of b' b l.3 f) (zeros_of c' c l.4 g)

pub prints_refused : (s : List ℕ) {a b c : ℕ} (a' b' c' : ℕ) {d : ℕ} {x y : Answer} {r z : Printed} {t t' u v text : List ℕ} → Permitted true true s a x t → x.number ≡ 0 → x.count ≤ b / 4 → Set s t x.count d text z → d ≡ c → z.number ≢ 0 → y ≡ answer_of z → Leaves y r t' u v a' b' c' → a' ≡ a → b' ≡ b → c' ≡ c → Prints s a b c (answer_of r) r.tests t' u v
prints_refused s {a} {b} {c} a' b' c' {z = z} k n h w i o q l e f g =
    let d = standing s a k n in
    let j = w d.0 d.1 in
    as_printed s a b c (refuses_print k n h d.1.reading (subst (λ (m : ℕ). Judged (length s) (print_of s d.0) m (answer_of z) j.0) i j.1) o) (l.0 ∙ q) l.1 (zeros_of a' a l.2 e) (zeros_of b' b l.3 f) (zeros_of c' c l.4 g)

pub prints_set : (s : List ℕ) {a b c : ℕ} (b' : ℕ) {d : ℕ} {x : Answer} {r : Printed} {t u text : List ℕ} → Permitted true true s a x t → x.number ≡ 0 → x.count ≤ b / 4 → Set s t x.count d text r → d ≡ c → r.number ≡ 0 → Zeros u b' → b' ≡ b → Prints s a b c (answer_of r) r.tests t u text
prints_set s {a} {b} {c} b' {r = r} k n h w i o z f =
    let d = standing s a k n in
    let j = w d.0 d.1 in
    let y = j.2 o in
    as_printed s a b c (prints k n h d.1.reading (subst (λ (m : ℕ). Judged (length s) (print_of s d.0) m (answer_of r) j.0) i j.1) o) refl y.1 refl (zeros_of b' b z f) y.0
