-- An accepted source and its print, by what is answered to each: the reading, the rows in the table, and what they say.
use Rattle.std.specs.Prelude.{Ok}
use mathlib.Core.Path.{◌≡◌, refl, sym, ap, subst}
use mathlib.Core.List.{List, [], ◌∷◌, ◌++◌, head-eq_of_cons-eq, tail-eq_of_cons-eq}
use mathlib.Core.Bool.{Bool, true, false}
use Prim.Native.Nat.{ℕ, ◌-◌, ◌*◌}
use native.Mathlib.Omega.{arith}
use lib.ListN.{length, replicate}
use Rattle.chars.specs.declared.Answer.{Answer}
use Rattle.tokens.specs.Tokens.{whole_of, counted}
use Rattle.rows.specs.Rows.{width}
use Rattle.grammar.specs.Grammar.{Parts}
use Rattle.grammar.specs.Rows.{Row, flat}
use Rattle.answers.specs.Entries.{room, Permitted, early, read}
use Rattle.answers.specs.Demands.{Reading, rows_of}
use Rattle.answers.proofs.Determined.{whole_number, one_permitted, accepted_reads, reading_accepted}
use Rattle.canon.specs.Trees.{tree_of}
use Rattle.printing.specs.Bare.{bare_rows}
use Rattle.roundtrip.specs.ReadsBack.{print_of, ReadsBack}
use Rattle.roundtrip.proofs.ReadsBack.{reads_back, read_again}
use Rattle.roundtrip.proofs.Tests.{old_reading, print_new}

-- rows that stand first in a table are known by it and by their number
pub same_flat : (rs qs : List Row) (y z : List ℕ) → length rs ≡ length qs → flat rs ++ y ≡ flat qs ++ z → rs ≡ qs
same_flat [] [] y z n e = refl
same_flat [] (q ∷ qs) y z n e = absurd (omega arith)
same_flat (r ∷ rs) [] y z n e = absurd (omega arith)
same_flat (r ∷ rs) (q ∷ qs) y z n e =
    let e₁ = tail-eq_of_cons-eq e in
    let e₂ = tail-eq_of_cons-eq e₁ in
    let e₃ = tail-eq_of_cons-eq e₂ in
    let e₄ = tail-eq_of_cons-eq e₃ in
    let e₅ = tail-eq_of_cons-eq e₄ in
    let e₆ = tail-eq_of_cons-eq e₅ in
    let one : r ≡ q = λ i. record { kind = head-eq_of_cons-eq e i; start = head-eq_of_cons-eq e₁ i; end = head-eq_of_cons-eq e₂ i; children = head-eq_of_cons-eq e₃ i; value = head-eq_of_cons-eq e₄ i; detail = head-eq_of_cons-eq e₅ i; size = head-eq_of_cons-eq e₆ i } in
    let more : rs ≡ qs = same_flat rs qs y z (omega arith) (tail-eq_of_cons-eq e₆) in
    λ i. one i ∷ more i

-- what stands in a table of `size` numbers for the rows of s
abbrev pub table_of : List ℕ → ℕ → Parts → List ℕ
table_of s size p = flat (rows_of true s p) ++ replicate (size - width * length (rows_of true s p)) 0

-- A source that either grammar accepts has a reading and passes 1, 2 and 3; its rows stand in the table, and its print is read back.
pub record Printable (s : List ℕ) (size : ℕ) (x : Answer) (t : List ℕ) : Type 0 where
  pub parts : Parts
  pub reading : Reading true true s parts
  pub whole : whole_of s ≡ (Ok tt)
  pub count : x.count ≡ length (rows_of true s parts)
  pub table : t ≡ table_of s size parts
  pub back : ReadsBack s parts

whole_fine : (tests : Bool) (s : List ℕ) (size : ℕ) {x : Answer} {t : List ℕ} → Permitted tests true s size x t → x.number ≡ 0 → whole_of s ≡ (Ok tt)
whole_fine tests s size (early {r = r} e) n = absurd (let h = (whole_number s r e).0 in omega arith)
whole_fine tests s size (read e h) n = e

pub accepted_prints : (tests : Bool) (s : List ℕ) (size : ℕ) {x : Answer} {t : List ℕ} → Permitted tests true s size x t → x.number ≡ 0 → Printable s size x t
accepted_prints tests s size u n =
    let k = accepted_reads tests true s size u n in
    let r = old_reading tests s k.text in
    record { parts = k.parts; reading = r; whole = whole_fine tests s size u n; count = ap (λ (a : Answer). a.count) k.answer; table = k.table; back = reads_back s k.parts r }

-- Where either grammar accepts the print, its table has the same rows but for their bytes, the same trees, and it is its own print.
pub record Returned (s : List ℕ) (p : Parts) (size : ℕ) (x : Answer) (t : List ℕ) : Type 0 where
  pub parts : Parts
  pub reading : Reading true true (print_of s p) parts
  pub count : x.count ≡ length (rows_of true (print_of s p) parts)
  pub table : t ≡ table_of (print_of s p) size parts
  pub same_rows : bare_rows (rows_of true (print_of s p) parts) ≡ bare_rows (rows_of true s p)
  pub same_trees : tree_of (print_of s p) (rows_of true (print_of s p) parts) ≡ tree_of s (rows_of true s p)
  pub again : print_of (print_of s p) parts ≡ print_of s p

pub print_returns : (tests : Bool) (s : List ℕ) (p : Parts) (size : ℕ) {x : Answer} {t : List ℕ} → ReadsBack s p → Permitted tests true (print_of s p) size x t → x.number ≡ 0 → Returned s p size x t
print_returns tests s p size b u n =
    let w : List ℕ = print_of s p in
    let k = accepted_reads tests true w size u n in
    let r = old_reading tests w k.text in
    let e = read_again s p b r in
    record {
      parts = k.parts;
      reading = r;
      count = ap (λ (a : Answer). a.count) k.answer;
      table = k.table;
      same_rows = e.0;
      same_trees = e.1;
      again = e.2;
    }

-- What the new grammar reads has a print that the new grammar accepts where the old one does, with the same answer and table.
pub accepted_new : (s : List ℕ) (p : Parts) (size : ℕ) {x : Answer} {t : List ℕ} → Reading false true s p → Permitted true true (print_of s p) size x t → x.number ≡ 0 → Permitted false true (print_of s p) size x t
accepted_new s p size {x} {t} r u n =
    let w : List ℕ = print_of s p in
    let k = accepted_reads true true w size u n in
    let f = whole_fine true w size u n in
    let e = one_permitted true true w size u (reading_accepted true true w size f k.text) in
    let v = reading_accepted false true w size f (print_new s p r k.text) in
    let z : Answer = counted (length w) (length (rows_of true w k.parts)) (room size) in
    subst (λ (a : Answer). Permitted false true w size a t) (sym e.0) (subst (λ (o : List ℕ). Permitted false true w size z o) (sym e.1) v)
