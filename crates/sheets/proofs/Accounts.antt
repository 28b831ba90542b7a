-- The answers of the check and of the writer, from what their parts say.
use mathlib.Core.Path.{◌≡◌, refl, sym, ap, subst, ◌∙◌}
use mathlib.Core.List.{List, [], ◌∷◌, ◌++◌}
use mathlib.Core.Bool.{Bool, true}
use mathlib.Core.Logic.{◌≢◌}
use Prim.Native.Nat.{ℕ, suc, ◌+◌, ◌-◌, ◌*◌, ◌/◌, ◌≤◌, ◌<◌}
use native.Mathlib.Omega.{arith}
use lib.Dec.{leb→le}
use lib.ListN.{length, get_or, take, replicate, length-append, get_or-append}
use lib.Seq.{sets, take_at}
use Rattle.chars.specs.declared.Answer.{Answer}
use Rattle.rows.specs.Kinds as kinds
use Rattle.rows.specs.Rows.{width, zeroed}
use Rattle.grammar.specs.Rows.{Row, flat, rows}
use Rattle.grammar.specs.Subtrees.{total, Trees, none, more}
use Rattle.grammar.specs.Answers.{accepts}
use Rattle.grammar.proofs.Subtrees.{trees_length}
use Rattle.answers.specs.Entries.{Permitted}
use Rattle.answers.proofs.Determined.{Accepted, accepted_reads}
use Rattle.entry.proofs.Fine.{fine_short}
use Rattle.entry.proofs.Stored.{zeroed_all, zeroed_behind, flat_length}
use Rattle.sheets.specs.declared.Checked.{Checked}
use Rattle.sheets.specs.Files as files
use Rattle.sheets.specs.Files.{SHORT, LONG, bytes, words, most, Fit, File, written, Fills}
use Rattle.sheets.specs.Matches.{roots_from, Differ, Declares}
use Rattle.sheets.specs.Checks as checks
use Rattle.sheets.specs.Checks.{WRONG_INDEX, unfilled, differing, refusing, accepting, of_kind, Makes, room_for, Checks}
use Rattle.sheets.specs.Writes as writer
use Rattle.sheets.specs.Writes.{file_for, sized, Writes}
use Rattle.sheets.specs.Places.{filled, file_of}
use Rattle.sheets.specs.Steps as steps
use Rattle.sheets.specs.Walks.{Tabled}
use Rattle.sheets.specs.Steps.{NONE, Parsed, rows_in, indexes_in, Compared, First}
use Rattle.sheets.proofs.Widths.{Bytes}
use Rattle.sheets.proofs.Filled.{filled_fills, fills_filled}
use Rattle.sheets.proofs.Loads.{parsed_rows, parsed_indexes}
use Rattle.sheets.proofs.Stores.{zeros_behind, written_length, sections_stored}
use Rattle.sheets.proofs.Firsts.{one_tabled}
use Rattle.sheets.proofs.Answered.{made_declares, made_few, fine_of}

-- a refusal leaves zeros
module _ (b t t₁ : List ℕ) {a : Answer} {c : Checked} {u : List ℕ} where
  pub refusing_with : (c ≡ refusing a) × (u ≡ zeroed t₁ 0) → length t₁ ≡ length t → Checks true b (length t) (refusing a) (replicate (length t) 0) → Checks true b (length t) c u
  refusing_with e l h = subst (λ (x : Checked). Checks true b (length t) x u) (sym e.0) (subst (Checks true b (length t) (refusing a)) (sym (e.1 ∙ zeroed_all t₁ ∙ ap (λ (n : ℕ). replicate n 0) l)) h)

pub not_filled : (b : List ℕ) (size : ℕ) → length b ≢ filled b → Checks true b size (refusing unfilled) (replicate size 0)
not_filled b size n = checks.none λ f h. n (fills_filled b f h).0

-- a file that its sections fill
module _ (b : List ℕ) (each : Bytes b) (size : ℕ) {source rows indexes : List ℕ} (parts : Parsed b source rows indexes) where
  fills : Fills b (file_of b)
  fills = filled_fills b each parts.full

  as_file : {a : Answer} {t : List ℕ} → Compared source (rows_in rows) size a t → Compared (file_of b).source (file_of b).rows size a t
  as_file {a} {t} h = subst (λ (x : List ℕ). Compared x (file_of b).rows size a t) parts.source_is (subst (λ (x : List Row). Compared source x size a t) (parsed_rows b parts) h)

  -- refused by (a), or 18
  pub source_or_row : {a : Answer} {t : List ℕ} → Compared source (rows_in rows) size a t → a.number ≢ 0 → Checks true b size (refusing a) (replicate size 0)
  source_or_row h n = go (as_file h) n
    where
      go : {a : Answer} {t : List ℕ} → Compared (file_of b).source (file_of b).rows size a t → a.number ≢ 0 → Checks true b size (refusing a) (replicate size 0)
      go (steps.refused t' p n) k = checks.refuses fills p n
      go (steps.wrong t' m l d) k = checks.row fills m l d
      go (steps.right t' m l) k = absurd (k refl)

  -- the rows are those of the source
  pub record Right (n : ℕ) (t : List ℕ) : Type 0 where
    pub rest : List ℕ
    pub makes : Makes true (file_of b).source (file_of b).rows
    pub fits : length (file_of b).rows ≤ room_for size
    pub table : t ≡ flat (file_of b).rows ++ rest
    pub count : length (file_of b).rows ≡ n

  pub right_rows : {a : Answer} {t : List ℕ} → Compared source (rows_in rows) size a t → a.number ≡ 0 → Right a.count t
  right_rows h n = go (as_file h) n
    where
      go : {a : Answer} {t : List ℕ} → Compared (file_of b).source (file_of b).rows size a t → a.number ≡ 0 → Right a.count t
      go (steps.refused t' p k) n = absurd (k n)
      go (steps.wrong t' m l d) n = absurd (omega (arith, n))
      go (steps.right t' m l) n = record { rest = t'; makes = m; fits = l; table = refl; count = refl }

  module _ {n : ℕ} {t : List ℕ} (r : Right n t) where
    abbrev pub tabled : Tabled t n
    tabled = let d = made_declares r.makes in record { rows = (file_of b).rows; rest = r.rest; ids = d.0; table = r.table; count = r.count; declares = d.1 }

    declared : Declares (file_of b).rows (made_declares r.makes).0
    declared = (made_declares r.makes).1

    pub index_differs : {first : ℕ} → Differ (indexes_in indexes) (made_declares r.makes).0 first → Checks true b size (refusing (differing WRONG_INDEX first)) (replicate size 0)
    index_differs {first} d = checks.index fills r.makes r.fits declared (subst (λ (x : List ℕ). Differ x (made_declares r.makes).0 first) (parsed_indexes b parts) d)

    pub all_named : indexes_in indexes ≡ (made_declares r.makes).0 → Declares (file_of b).rows (file_of b).indexes
    all_named e = subst (Declares (file_of b).rows) (sym e ∙ parsed_indexes b parts) declared

    pub cleared : (length t ≡ size) → zeroed t (n * width) ≡ flat (file_of b).rows ++ replicate (size - width * length (file_of b).rows) 0
    cleared l =
        let f = flat_length (file_of b).rows in
        let c = r.count in
        let w : n * width ≡ length (flat (file_of b).rows) = omega (arith, f, c) in
        let z : length t ≡ length (flat (file_of b).rows) + length r.rest = ap length r.table ∙ length-append (flat (file_of b).rows) r.rest in
        let m : length r.rest ≡ size - width * length (file_of b).rows = omega (arith, f, z, l) in
        (λ i. zeroed (r.table i) (w i)) ∙ zeroed_behind (flat (file_of b).rows) r.rest ∙ ap (λ (k : ℕ). flat (file_of b).rows ++ replicate k 0) m

    pub room_there : (length t ≡ size) → n * width ≤ size
    room_there l = let f = flat_length (file_of b).rows in let c = r.count in let z : length t ≡ length (flat (file_of b).rows) + length r.rest = ap length r.table ∙ length-append (flat (file_of b).rows) r.rest in omega (arith, f, c, z, l)

    pub accepting_with : {u : List ℕ} {tests : ℕ} → length t ≡ size → indexes_in indexes ≡ (made_declares r.makes).0 → u ≡ zeroed t (n * width) → ((rs : List Row) (zs : List ℕ) → u ≡ flat rs ++ zs → length rs ≡ n → tests ≡ of_kind kinds.TEST rs) → Checks true b size (record { number = 0; start = 0; end = length b; count = n; tests = tests }) u
    accepting_with {u} l f e k =
        let c = r.count in
        let q = e ∙ cleared l in
        subst (Checks true b size _) (sym q)
        (subst (λ (x : Checked). Checks true b size x (flat (file_of b).rows ++ replicate (size - width * length (file_of b).rows) 0)) (λ i. record { number = 0; start = 0; end = length b; count = c i; tests = sym (k (file_of b).rows _ q c) i }) (checks.accepts fills r.makes r.fits (all_named f)))

-- the writer
pub refuses_with : {tests : Bool} (s : List ℕ) (size room : ℕ) (f : List ℕ) {a : Answer} {t u : List ℕ} → Permitted tests true s size a t → a.number ≢ 0 → length f ≡ room → u ≡ zeroed f 0 → Writes tests s size room a t u
refuses_with {tests} s size room f {a} {t} {u} p n l e = subst (Writes tests s size room a t) (sym (e ∙ zeroed_all f ∙ ap (λ (k : ℕ). replicate k 0) l)) (writer.refuses p n)

-- numbers that fit
pub fit_all : (l : List ℕ) → ((i : ℕ) → i < length l → get_or l i 0 < most LONG) → Fit LONG l
fit_all [] h = files.none
fit_all (x ∷ l) h = files.more (h 0 (omega arith)) (fit_all l λ i k. h (suc i) (omega arith))

roots_fit : (n : ℕ) (rs : List Row) → n + total rs < most SHORT → Fit SHORT (roots_from n rs)
roots_fit n [] h = files.none
roots_fit n (r ∷ rs) h = files.more {n = n + r.size - 1} (omega arith) (roots_fit (n + r.size) rs (omega arith))

trees_many : {rs roots : List Row} → Trees rs roots → length roots ≤ length rs
trees_many none = omega arith
trees_many (more {rs = rs} {roots = roots} {below = below} r t u c z a b) =
    let x = trees_many t in
    let l : length (rs ++ (below ++ (r ∷ []))) ≡ length rs + (length below + 1) = length-append rs (below ++ (r ∷ [])) ∙ ap (λ (n : ℕ). length rs + n) (length-append below (r ∷ [])) in
    let m = length-append roots (r ∷ []) in
    let p = ap length a in
    let q = ap length b in
    omega (arith, x, l, m, p, q)

pub declared_few : {rs : List Row} {ids : List ℕ} → Declares rs ids → (length ids < length rs) × (length rs < most SHORT → Fit SHORT ids)
declared_few {rs} {ids} d =
    let t = trees_length d.trees in
    let m = trees_many d.trees in
    let l : length rs ≡ length d.below + 1 = ap length d.last ∙ length-append d.below (d.top ∷ []) in
    let n : length ids ≡ length d.children = ap length d.named ∙ many 0 d.children in
    (omega (arith, t, m, l, n), λ h. subst (Fit SHORT) (sym d.named) (roots_fit 0 d.children (omega (arith, t, l, h))))
  where
    many : (n : ℕ) (rs : List Row) → length (roots_from n rs) ≡ length rs
    many n [] = refl
    many n (r ∷ rs) = ap suc (many (n + r.size) rs)

-- a source that (a) accepts
module _ {tests : Bool} (s : List ℕ) (size : ℕ) {a : Answer} {t : List ℕ} (p : Permitted tests true s size a t) (good : a.number ≡ 0) where
  abbrev parts : Accepted tests true s size a t
  parts = accepted_reads tests true s size p good

  abbrev rs : List Row
  rs = rows true (length s) parts.parts

  pub its_makes : Makes tests s rs
  its_makes = record { fine = fine_of p good; read = accepts parts.text }

  pub its_count : a.count ≡ length rs
  its_count = ap (λ (x : Answer). x.count) parts.answer

  pub its_fit : length rs ≤ size / width
  its_fit = leb→le (length rs) (size / width) parts.fits

  abbrev pub its_table : Tabled t a.count
  its_table = let d = made_declares its_makes in record { rows = rs; rest = replicate (size - width * length rs) 0; ids = d.0; table = parts.table; count = sym its_count; declares = d.1 }

  abbrev ids : List ℕ
  ids = (made_declares its_makes).0

  -- few enough that no sum wraps
  pub bounds : (length s ≤ 65535) × (a.count ≤ 98304) × (length ids < a.count)
  bounds = let f = made_few its_makes in let d = (declared_few (made_declares its_makes).1).0 in (fine_short s its_makes.fine, omega (arith, f, its_count), omega (arith, d, its_count))

  pub need_is : {need k : ℕ} → k ≡ length ids → need ≡ 4 + length s + 4 + a.count * 56 + 4 + k * 4 → need ≡ sized s rs ids
  need_is e q = let l = written_length (file_for s rs ids) in omega (arith, l, e, q, its_count)

  pub over_with : (room : ℕ) (f : List ℕ) {need k : ℕ} {u v : List ℕ} → k ≡ length ids → need ≡ 4 + length s + 4 + a.count * 56 + 4 + k * 4 → room < need → length t ≡ size → length f ≡ room → u ≡ zeroed t 0 → v ≡ zeroed f 0 → Writes tests s size room (record { number = 10; start = 0; end = 0; count = need }) u v
  over_with room f {need} {k} {u} {v} e q h l m x y =
      let n = need_is e q in
      let x' : u ≡ replicate size 0 = x ∙ zeroed_all t ∙ ap (λ (j : ℕ). replicate j 0) l in
      let y' : v ≡ replicate room 0 = y ∙ zeroed_all f ∙ ap (λ (j : ℕ). replicate j 0) m in
      subst (Writes tests s size room (record { number = 10; start = 0; end = 0; count = need }) u) (sym y')
      (subst (λ (z : List ℕ). Writes tests s size room (record { number = 10; start = 0; end = 0; count = need }) z (replicate room 0)) (sym x')
      (subst (λ (z : ℕ). Writes tests s size room (record { number = 10; start = 0; end = 0; count = z }) (replicate size 0) (replicate room 0)) (sym n)
      (writer.over its_makes its_fit (made_declares its_makes).1 (omega (arith, n, h)))))

  pub writes_with : (room : ℕ) (f : List ℕ) {need k : ℕ} {v : List ℕ} → ((i : ℕ) → i < length t → get_or t i 0 < most LONG) → k ≡ length ids → need ≡ 4 + length s + 4 + a.count * 56 + 4 + k * 4 → need ≤ room → length f ≡ room → ((d : Tabled t a.count) → v ≡ zeroed (sets f 0 (written (file_for s d.rows d.ids))) (sized s d.rows d.ids)) → Writes tests s size room (record { number = 0; start = 0; end = length s; count = need }) t v
  writes_with room f {need} {k} {v} small e q h m y =
      let n = need_is e q in
      let b = bounds in
      let c = its_count in
      let w : List ℕ = written (file_for s rs ids) in
      let y' : v ≡ w ++ replicate (room - length w) 0 = y its_table ∙ zeros_behind f w (omega (arith, n, h, m)) ∙ ap (λ (j : ℕ). w ++ replicate (j - length w) 0) m in
      let short : length rs < most SHORT = omega (arith, b.1, c) in
      let zs : List ℕ = replicate (size - width * length rs) 0 in
      let l : length t ≡ length (flat rs) + length zs = ap length parts.table ∙ length-append (flat rs) zs in
      let fit : Fit LONG (flat rs) = fit_all (flat rs) λ i g. subst (λ (z : ℕ). z < most LONG) (ap (λ (z : List ℕ). get_or z i 0) parts.table ∙ get_or-append (flat rs) zs 0 i g) (small i (omega (arith, l, g))) in
      let fills : Fills w (file_for s rs ids) = record { sections = refl; counts = files.more {n = length s} (omega (arith, b.0)) (files.more short (files.more {n = length ids} (omega (arith, b.2, b.1)) files.none)); rows = fit; indexes = (declared_few (made_declares its_makes).1).1 short } in
      subst (Writes tests s size room (record { number = 0; start = 0; end = length s; count = need }) t) (sym y')
      (subst (λ (z : List ℕ). Writes tests s size room (record { number = 0; start = 0; end = length s; count = need }) z (w ++ replicate (room - length w) 0)) (sym parts.table)
      (subst (λ (z : ℕ). Writes tests s size room (record { number = 0; start = 0; end = length s; count = z }) (flat rs ++ replicate (size - width * length rs) 0) (w ++ replicate (room - length w) 0)) (sym n)
      (writer.writes its_makes its_fit (made_declares its_makes).1 fills (omega (arith, n, h)))))

-- the sections of a table's rows
pub sections_are : {t : List ℕ} {n : ℕ} (d : Tabled t n) → take (n * width) t ≡ flat d.rows
sections_are {t} {n} d = let l = flat_length d.rows in let c = d.count in ap (take (n * width)) d.table ∙ take_at (flat d.rows) d.rest (n * width) (omega (arith, l, c))

pub sections_put : (s t f f₁ f₂ f₃ f₄ f₅ f₆ f₇ : List ℕ) (n k : ℕ) (p d : Tabled t n) → length p.ids ≡ k → f₁ ≡ sets f 0 (bytes 4 (length s)) → f₂ ≡ sets f₁ 4 s → f₃ ≡ sets f₂ (4 + length s) (bytes 4 n) → f₄ ≡ sets f₃ (4 + length s + 4) (words 8 (take (n * 7) t)) → f₅ ≡ sets f₄ (4 + length s + 4 + n * 56) (bytes 4 k) → f₆ ≡ sets f₅ (4 + length s + 4 + n * 56 + 4) (words 4 d.ids) → f₇ ≡ zeroed f₆ (4 + length s + 4 + n * 56 + 4 + k * 4) → f₇ ≡ zeroed (sets f 0 (written (file_for s d.rows d.ids))) (sized s d.rows d.ids)
sections_put s t f f₁ f₂ f₃ f₄ f₅ f₆ f₇ n k p d l e₁ e₂ e₃ e₄ e₅ e₆ e₇ =
    let c = d.count in
    let q : k ≡ length d.ids = sym l ∙ ap length (one_tabled p d).1 in
    let w = written_length (file_for s d.rows d.ids) in
    let z : 4 + length s + 4 + n * 56 + 4 + k * 4 ≡ sized s d.rows d.ids = omega (arith, w, c, q) in
    let n₄ : 4 + length s + 4 + n * 56 ≡ 4 + length s + 4 + length d.rows * 7 * 8 = omega (arith, c) in
    let n₅ : 4 + length s + 4 + n * 56 + 4 ≡ 4 + length s + 4 + length d.rows * 7 * 8 + 4 = omega (arith, c) in
    let g : f₆ ≡ sets f 0 (written (file_for s d.rows d.ids)) = sections_stored f f₁ f₂ f₃ f₄ f₅ f₆ (take (n * 7) t) (file_for s d.rows d.ids) 4 (4 + length s) (4 + length s + 4) (4 + length s + 4 + n * 56) (4 + length s + 4 + n * 56 + 4) e₁ refl e₂ refl (e₃ ∙ ap (λ (m : ℕ). sets f₂ (4 + length s) (bytes 4 m)) (sym c)) refl (sections_are d) e₄ n₄ (e₅ ∙ ap (λ (m : ℕ). sets f₄ (4 + length s + 4 + n * 56) (bytes 4 m)) q) n₅ e₆ in
    e₇ ∙ (λ i. zeroed (g i) (z i))
