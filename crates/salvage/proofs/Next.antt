-- What was read stays when the next range becomes spaces; and a text that was read to its end.
use Rattle.std.specs.Prelude.{Ok}
use mathlib.Core.Path.{◌≡◌, refl, sym, ap, subst, ◌∙◌}
use mathlib.Core.List.{List, ◌++◌}
use mathlib.Core.Bool.{true, false}
use Prim.Native.Nat.{ℕ, ◌+◌, ◌*◌, ◌/◌, ◌≤◌, ◌<◌}
use native.Mathlib.Omega.{arith}
use lib.ListN.{length, length-append, length-drop}
use lib.Seq.{length-take-le}
use Rattle.chars.specs.declared.Answer.{Answer}
use Rattle.chars.specs.declared.Class.TheVariants.{Blank}
use Rattle.chars.specs.Chars.{byte_at, is_class}
use Rattle.tokens.specs.Tokens.{whole_of, counted}
use Rattle.tokens.specs.Blanks.{skip_all}
use Rattle.rows.specs.Kinds as kinds
use Rattle.rows.specs.declared.Row.{Row}
use Rattle.rows.specs.Rows.{width, put_row}
use Rattle.grammar.specs.Refusals.{Refusal}
use Rattle.grammar.specs.Rows.{blank}
use Rattle.answers.specs.Entries.{room, Permitted}
use Rattle.entry.specs.Entries.{kept_rows}
use Rattle.entry.proofs.Stored.{rows_part, left_over}
use Rattle.parser.specs.Places.{plain_row}
use Rattle.parser.proofs.Tables.{put_length}
use Rattle.keeping.specs.Breaks.{Breaks}
use Rattle.keeping.proofs.Skips.{skip_ge}
use Rattle.keeping.proofs.Gap.{gap_skips}
use Rattle.salvage.specs.Salvage.{end_of, blanked}
use Rattle.salvage.specs.Rows.{none, most_rows, Upto, Through, Treed}
use Rattle.salvage.proofs.Blanked.{blanked_length, blanked_before, blanked_in}
use Rattle.salvage.proofs.Left.{Bounds, bounds}
use Rattle.salvage.proofs.Written.{written_stays, permits}

pub first_upto : (s t : List ℕ) → length t / width * width ≡ length t → Upto s 0 t 0 0
first_upto s t w = record { stop = 0; draft = blank; written = none; skips = refl; rows = refl; children = refl; sized = refl; whole = w; held = λ h. (t, refl); inside = omega arith; few = omega arith; fewer = omega arith }

module _ (s : List ℕ) {at first : ℕ} {r : Refusal} (b : Breaks false s at first r) {t : List ℕ} {n c : ℕ} (x : Upto s b.behind t n c) where
  next : Upto (blanked s first (end_of s first r)) (end_of s first r) t n c
  unfolding is_class
  next = record { stop = x.stop; draft = x.draft; written = written_stays s u long x.written (λ k l. before k (let y = skip_ge s x.stop in let z = reach in omega (arith, l, y, z))); skips = gap_skips s u first long h.inside before x.stop to reach over_it spaces; rows = x.rows; children = x.children; sized = x.sized; whole = x.whole; held = x.held; inside = let y = h.end in omega (arith, y, long); few = let y = x.few in let z = h.behind in omega (arith, y, z, over_it); fewer = let y = x.fewer in let z = h.behind in omega (arith, y, z, over_it) }
    where
      to : ℕ
      to = end_of s first r

      u : List ℕ
      u = blanked s first to

      h : Bounds false s at first r b
      h = bounds false s b

      over_it : first ≤ to
      over_it = let k = h.over in omega arith

      long : length s ≡ length u
      long = sym (blanked_length s first to over_it h.end)

      before : (k : ℕ) → k < first → byte_at s k ≡ byte_at u k
      before k l = sym (blanked_before s first to over_it h.end k l)

      spaces : (k : ℕ) → first ≤ k → k < to → is_class Blank (byte_at u k) ≡ true
      spaces k l m = ap (is_class Blank) (blanked_in s first to over_it h.end k l m)

      reach : skip_all s x.stop ≡ first
      reach = x.skips ∙ sym b.begins

  pub next_upto : {e : ℕ} → e ≡ end_of s first r → {u : List ℕ} → u ≡ blanked s first e → Upto u e t n c
  next_upto {e} q {u} p = subst (λ (y : List ℕ). Upto y e t n c) (sym p) (subst (λ (y : ℕ). Upto (blanked s first y) y t n c) (sym q) next)

-- the part of a table that rows have is whole rows
pub whole_part : (t : List ℕ) → length (rows_part t) / width * width ≡ length (rows_part t)
whole_part t = let k = length-take-le (length t / width * width) t (omega arith) in omega (arith, k)

-- the tree's row is put
pub treed : {s t t₁ t' : List ℕ} {n c : ℕ} {r : Row} → Through s t₁ n c → length t₁ ≡ length t → r ≡ plain_row kinds.TREE 0 (length s) c → t' ≡ put_row t₁ n r (n + 1) → Treed s t t' n
treed {t₁ = t₁} {n = n} x l e p = record { children = _; table = t₁; through = x; long = l; put = p ∙ ap (λ (r : Row). put_row t₁ n r (n + 1)) e }

-- so many rows are no more than a text can have
pub treed_few : {s t t' : List ℕ} {n : ℕ} → Treed s t t' n → length s ≤ 65535 → n ≤ most_rows * 65535
treed_few d h = let a₁ = d.through.upto.few in let a₂ = d.through.upto.inside in omega (arith, a₁, a₂, h)

-- (a)'s answer to the text, and its rows in the lent table
pub treed_permits : (s t : List ℕ) {n : ℕ} {t' : List ℕ} → whole_of s ≡ (Ok tt) → Treed s (rows_part t) t' n → {y : Answer} {u : List ℕ} → (y ≡ counted (length s) (n + 1) (room (length (t' ++ left_over t)))) × (u ≡ kept_rows (t' ++ left_over t) (n + 1)) → Permitted false true s (length t) y u
treed_permits s t {n} {t'} fine d {y} {u} p = subst (λ (k : ℕ). Permitted false true s k y u) size (permits d.through d.put (left_over t) few fine p)
  where
    few : length (left_over t) < width
    few = let k = length-drop (length t / width * width) t in omega (arith, k)

    size : length (t' ++ left_over t) ≡ length t
    size =
        let a₁ = length-append t' (left_over t) in
        let a₂ = ap length d.put ∙ put_length d.table n (plain_row kinds.TREE 0 (length s) d.children) (n + 1) ∙ d.long in
        let a₃ = length-take-le (length t / width * width) t (omega arith) in
        let a₄ = length-drop (length t / width * width) t in
        omega (arith, a₁, a₂, a₃, a₄)
