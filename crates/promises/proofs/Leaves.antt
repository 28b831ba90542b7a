-- What the smallest functions say, from what their callees say: a row that is written, a bracket that closes.
use Rattle.std.specs.Prelude.{Ok, Err}
use lib.Dec.{T}
use mathlib.Core.Path.{◌≡◌, refl, sym, ap, ◌∙◌}
use mathlib.Core.List.{List, [], ◌∷◌}
use mathlib.Core.Logic.{◌≢◌}
use Prim.Native.Nat.{ℕ, ◌-◌}
use borrow.Author.Tests.{eq-eqb, ne_eqb}
use Rattle.tokens.specs.declared.Refusal.{Refusal}
use Rattle.rows.specs.declared.Row.{Row}
use Rattle.rows.specs.Rows.{put_row}
use Rattle.grammar.specs.Words.{open_brace, comma}
use Rattle.parser.specs.Results.{ArmRead}
use Rattle.parser.specs.declared.Arm.{Arm}
use Rattle.parser.specs.declared.Here.{Here}
use Rattle.parser.specs.declared.Node.{Node}
use Rattle.parser.specs.Results.{Read}
use Rattle.parser.specs.Places.{word_of, start_of, end_of, next_of, passed, later, node_of, bumped, put_over, expected, took, token_node, plain_row}
use Rattle.parser.proofs.Standing.{here_rows}
use Rattle.parser.proofs.Standing.{lexed}
use Rattle.parser.proofs.Steps.{took_done, expected_done, expected_refused}
use Rattle.promises.specs.Firsts.{arm_end}
use Rattle.promises.specs.Promises.{wrote, Closed}

-- the row that was written is this one
pub row_is : (h : Here) (t : List ℕ) (since : ℕ) {r : Read} {t' : List ℕ} {x q : Row} → x ≡ q → (r ≡ Ok (node_of x, later h)) × (t' ≡ put_over t h x since) → (r ≡ Ok (node_of q, later h)) × (t' ≡ put_over t h q since)
row_is h t since e u = (u.0 ∙ ap (λ (x : Row). Ok (node_of x, later h)) e, u.1 ∙ ap (λ (x : Row). put_over t h x since) e)

-- a row's detail is this one
pub detailed : {q : Row} {k a e c d x : ℕ} → q ≡ record { kind = k; start = a; end = e; children = c; value = 0; detail = d } → d ≡ x → q ≡ record { kind = k; start = a; end = e; children = c; value = 0; detail = x }
detailed {k = k} {a} {e} {c} p q = p ∙ ap (λ (x : ℕ). record { kind = k; start = a; end = e; children = c; value = 0; detail = x }) q

pub plain_from : {q : Row} {k a e c x : ℕ} → q ≡ plain_row k a e c → a ≡ x → q ≡ plain_row k x e c
plain_from {k = k} {e = e} {c = c} p q = p ∙ ap (λ (x : ℕ). plain_row k x e c) q

-- the row starts with this token
pub start_is : (h : Here) {k e c v d : ℕ} {q : Row} {x : Node} → token_node h ≡ x → q ≡ record { kind = k; start = x.start; end = e; children = c; value = v; detail = d } → q ≡ record { kind = k; start = start_of h; end = e; children = c; value = v; detail = d }
start_is h {k} {e} {c} {v} {d} m q = q ∙ ap (λ (y : Node). record { kind = k; start = y.start; end = e; children = c; value = v; detail = d }) (sym m)

-- a row behind a token
pub wrote_row : (s : List ℕ) (h : Here) (t : List ℕ) (since : ℕ) {r : Read} {t' : List ℕ} {z : Here} {x q : Row} → x ≡ q → z ≡ passed s h → (r ≡ Ok (node_of x, later z)) × (t' ≡ put_over t z x since) → (r ≡ wrote s h q) × (t' ≡ put_over t h q since)
wrote_row s h t since {z = z} {q = q} e p u =
    let k = row_is z t since e u in
    (k.0 ∙ ap (λ (y : Here). Ok (node_of q, later y)) p, k.1 ∙ ap (λ (n : ℕ). put_row t n q (bumped n - since)) (ap (λ (y : Here). y.rows) p ∙ here_rows s (next_of h) h.rows))

-- the row over a token that was gone past
pub wrote_past : (s : List ℕ) (h : Here) (t : List ℕ) (since : ℕ) (mk : Node → Row) {r r' : Read} {t' : List ℕ} {x : Node} {z : Here} → r ≡ took s h → r ≡ Ok (x, z) → (r' ≡ Ok (node_of (mk x), later z)) × (t' ≡ put_over t z (mk x) since) → (r' ≡ wrote s h (mk (token_node h))) × (t' ≡ put_over t h (mk (token_node h)) since)
wrote_past s h t since mk p q u = let k = took_done s h p q in wrote_row s h t since (ap mk (sym k.node)) k.here u

-- a row behind the bracket that has to close, and ends with it
module _ (s : List ℕ) (h : Here) (w : ℕ) (l : T (lexed (w ∷ []))) {r : Read} (u : r ≡ expected s h w) (t : List ℕ) (mk : ℕ → Row) (since : ℕ) where
  pub closed_not : {x : Refusal} → r ≡ Err x → Closed s h t w (mk (end_of h)) since r t
  closed_not e = let k = expected_refused s h w l u e in record { closed = λ c. absurd (k.0 c); other = λ n. (e ∙ sym (ap Err k.1), refl) }

  pub closed_is : {m : Node} {z : Here} {r' : Read} {t' : List ℕ} → r ≡ Ok (m, z) → (r' ≡ Ok (node_of (mk m.end), later z)) × (t' ≡ put_over t z (mk m.end) since) → Closed s h t w (mk (end_of h)) since r' t'
  closed_is e k = let v = expected_done s h w u e in record { closed = λ c. wrote_row s h t since (ap (λ (n : Node). mk n.end) (sym v.1.node)) v.1.here k; other = λ n. absurd (n v.0) }

-- behind an arm
module _ (s : List ℕ) (h : Here) (begin : ℕ) {r : ArmRead} where
  pub arm_comma : {z : Here} → word_of h ≡ comma → z ≡ passed s h → r ≡ Ok (Arm.Followed z) → r ≡ arm_end s h begin
  arm_comma e p k = rw (eq-eqb _ _ e) (k ∙ ap (λ (z : Here). Ok (Arm.Followed z)) p)

  pub arm_block : word_of h ≢ comma → begin ≡ open_brace → r ≡ Ok (Arm.Followed h) → r ≡ arm_end s h begin
  arm_block n e k = rw (ne_eqb _ _ n, eq-eqb _ _ e) k

  pub arm_last : word_of h ≢ comma → begin ≢ open_brace → r ≡ Ok (Arm.Last h) → r ≡ arm_end s h begin
  arm_last n e k = rw (ne_eqb _ _ n, ne_eqb _ _ e) k
