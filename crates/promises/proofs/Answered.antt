-- What every answer tells: how far the reader came, that the table kept its length; and answers said otherwise.
use Rattle.std.proofs.lemmas.Result.{err_from_is_err_and}
use Rattle.std.specs.Prelude.{Result, IsErrAnd, Ok, Err}
use mathlib.Core.Path.{◌≡◌, refl, sym, ap, subst, ◌∙◌}
use mathlib.Core.List.{List, [], ◌∷◌}
use mathlib.Core.Bool.{false}
use mathlib.Core.Option.{none, some}
use mathlib.Core.Logic.{inl, inr}
use Prim.Native.Nat.{ℕ, ◌+◌, ◌-◌, ◌*◌, ◌≤◌, ◌<◌}
use lib.Dec.{T, eqb, eqb→eq}
use lib.ListN.{length}
use native.Mathlib.Omega.{arith}
use Rattle.tokens.specs.declared.Refusal.{Refusal}
use Rattle.rows.specs.declared.Row.{Row}
use Rattle.rows.specs.Rows.{put_row}
use Rattle.grammar.specs.Grammar.{plain, token, note, one_of}
use Rattle.grammar.specs.Limits.{Counts, after, kept}
use Rattle.grammar.specs.Table.{literal_row}
use Rattle.grammar.specs.Refusals.{amiss, stops_none}
use Rattle.grammar.proofs.Bools.{or_cases}
use Rattle.parser.specs.declared.Here.{Here}
use Rattle.parser.specs.declared.Limits.{Limits}
use Rattle.parser.specs.declared.Node.{Node}
use Rattle.promises.specs.Firsts.{ended_by, last_arm}
use Rattle.parser.specs.Results.{Read, StmtRead, ArmRead}
use Rattle.parser.specs.Places.{word_of, start_of, end_of, next_of, passed, later, unused, node_of, bumped, put_over}
use Rattle.parser.specs.Counted.{counts, plain as plainly}
use Rattle.parser.specs.Going.{Stands, Tally, bare, many, row_over, Phrase, Going, Answers}
use Rattle.parser.proofs.Standing.{here_rows, solid, next_small, says, is_word}
use Rattle.parser.proofs.Tables.{store_length}
use Rattle.parser.proofs.Going.{at, takes, out, writes, next_phrase, ends, whole_of, stopped_of, done, stopped, fewer}
use Rattle.parser.proofs.Picks.{Off, picks_else}
use Rattle.parser.proofs.Steps.{counts_plain}
use Rattle.promises.specs.Promises.{the, PartlyIs, Partly}

-- A phrase that was read ends further on and has a row; a table keeps its length.
pub record Further (s : List ℕ) (h : Here) (t : List ℕ) (z : Here) (t' : List ℕ) : Type 0 where
  pub stands : Stands s z
  pub next : next_of h < next_of z
  pub rows : h.rows < z.rows
  pub kept : length t' ≡ length t

pub further : {f : Phrase} {j : ℕ} {r : Read} {t' : List ℕ} {m : Node} {z : Here} → Answers f j r t' → r ≡ Ok (m, z) → Further f.text f.from f.table z t'
further {f} {z = z} u e =
    let w = whole_of u e in
    let c = w.counted in
    let p = w.spares in
    record { stands = w.stands; next = omega (arith, c, p); rows = omega (arith, c); kept = ap length w.stored ∙ store_length f.table f.from.rows w.draft.rows }

pub kept_refused : {f : Phrase} {j : ℕ} {r : Read} {t' : List ℕ} {e : Refusal} → Answers f j r t' → r ≡ Err e → length t' ≡ length f.table
kept_refused u e = (stopped_of u e).kept

-- either way
pub kept_either : {f : Phrase} {j : ℕ} {r : Read} {t' : List ℕ} → Answers f j r t' → length t' ≡ length f.table
kept_either {f} {j} {r} {t'} u = go r u
  where
    go : (r : Read) → Answers f j r t' → length t' ≡ length f.table
    go (Ok (m, z)) u = (further u refl).kept
    go (Err e) u = kept_refused u refl

-- the same phrase, of the phrase's own source and counts
pub of_text : (f : Phrase) {s : List ℕ} {d d' : Counts} {n j : ℕ} {h : Here} {t t' : List ℕ} {r : Read} → f.text ≡ s → d ≡ d' → Answers (the s d' n h t) j r t' → Answers (next_phrase f d n h t) j r t'
of_text f {s} {d} {n = n} {j} {h} {t} {t'} {r} e q u = subst (λ (x : List ℕ). Answers (the x d n h t) j r t') (sym e) (subst (λ (x : Counts). Answers (the s x n h t) j r t') (sym q) u)

-- behind an ordinary token
pub behind_plain : (l : Limits) {l' : Limits} {s : List ℕ} {n j : ℕ} {h : Here} {t t' : List ℕ} {r : Read} → l' ≡ plainly l → Answers (the s (counts l') n h t) j r t' → Answers (the s (after plain (counts l)) n h t) j r t'
behind_plain l {s = s} {n} {j} {h} {t} {t'} {r} e u = subst (λ (c : Counts). Answers (the s c n h t) j r t') (ap counts e ∙ sym (counts_plain l)) u

-- a part's promise, said otherwise
pub partly_as : {f : Phrase} {r : Read} {t : List ℕ} {G H : Node → Here → Type 0} → Partly f r t G → ((m : Node) (h : Here) → G m h → H m h) → Partly f r t H
partly_as {f} {r} {t} {G} {H} u k = record { is = go r u.is }
  where
    go : (r : Read) → PartlyIs f r t G → PartlyIs f r t H
    go (Ok (m, h)) x = k m h x
    go (Err e) x = x

-- a phrase that has no alternative where the reader stands
pub none_fits : {f : Phrase} {j : ℕ} {w : List ℕ} {r : Read} → Off f.kind none w → Stands f.text f.from → (T (one_of (word_of f.from) w) → ⊥) → r ≡ unused f.from → Answers f j r f.table
none_fits {f} o g n e = stopped e (record { place = f.from.place; why = amiss f.kind; stops = stops_none (picks_else f.text g o n); says = says g (amiss f.kind) (λ len x. refl, λ len q. refl); kept = refl })

-- two answers that are one; none is both
pub done_is : {r : Read} {m m' : Node} {h h' : Here} → r ≡ Ok (m, h) → r ≡ Ok (m', h') → (m ≡ m') × (h ≡ h')
done_is {m = m} {m' = m'} {h = h} {h' = h'} p q = let u : ◌≡◌ {A = Node × Here} (m, h) (m', h') = cc in (ap (λ (x : Node × Here). x.0) u, ap (λ (x : Node × Here). x.1) u)

pub not_both : {A : Type 0} {r : Read} {m : Node} {h : Here} {e : Refusal} → r ≡ Ok (m, h) → r ≡ Err e → A
not_both p q = let z : ◌≡◌ {A = ℕ} 0 1 = cc in absurd (omega arith)

-- none of a list's words
pub not_first : (x c : ℕ) (w : List ℕ) → (x ≡ c → ⊥) → (T (one_of x w) → ⊥) → T (one_of x (c ∷ w)) → ⊥
not_first x c w n k t = elim (or_cases (eqb x c) (one_of x w) t) [ inl e ↦ n (eqb→eq x c e) | inr e ↦ k e ]

-- a row behind a token, where the table is told by the place before it
pub put_behind : (s : List ℕ) (h : Here) (t : List ℕ) (q : Row) (since : ℕ) {t' : List ℕ} → t' ≡ put_over t h q since → t' ≡ put_over t (passed s h) q since
put_behind s h t q since e = e ∙ ap (λ (n : ℕ). put_row t n q (bumped n - since)) (sym (here_rows s (next_of h) h.rows))

-- where the phrase's rows began, by another name
pub put_since : (t : List ℕ) (h : Here) (q : Row) {m n : ℕ} {t' : List ℕ} → m ≡ n → t' ≡ put_over t h q n → t' ≡ put_over t h q m
put_since t h q e p = p ∙ ap (put_over t h q) (sym e)

-- a phrase whose last step is its row; the same from within its last rest
module _ {f : Phrase} {d : Counts} {h : Here} {t : List ℕ} {y : Tally} {v i n : ℕ} {q : Row} {r : Read} {t' : List ℕ} {k : ℕ} where
  pub finished : Going f (at d (note n ∷ []) ∷ []) h t y v i → k + 1 ≤ i → eqb n 0 ≡ false → eqb n literal_row ≡ false → q ≡ row_over n y v → r ≡ Ok (node_of q, later h) → t' ≡ put_over t h q f.from.rows → Answers f k r t'
  finished g l a b e p w = done p (ends (out (writes (fewer (k + 1) l g) a b e refl w)) refl refl refl)

  pub finished_in : {d' : Counts} → Going f (at d (note n ∷ []) ∷ at d' [] ∷ []) h t y v i → k + 1 ≤ i → eqb n 0 ≡ false → eqb n literal_row ≡ false → q ≡ row_over n y v → r ≡ Ok (node_of q, later h) → t' ≡ put_over t h q f.from.rows → Answers f k r t'
  finished_in g l a b e p w = done p (ends (out (out (writes (fewer (k + 1) l g) a b e refl w))) refl refl refl)

-- a phrase that is one word and its row
pub word_row : {f : Phrase} {d : Counts} {h h' : Here} {t t' : List ℕ} {c n k : ℕ} {q : Row} {r : Read} → Going f (at d (token plain (c ∷ []) ∷ note n ∷ []) ∷ []) h t bare 0 0 → T (solid (c ∷ [])) → eqb n 0 ≡ false → eqb n literal_row ≡ false → k ≤ 3 → word_of h ≡ c → h' ≡ passed f.text h → q ≡ row_over n (many (start_of h) (end_of h) 0 (some (word_of h))) 0 → r ≡ Ok (node_of q, later h') → t' ≡ put_over t h' q f.from.rows → Answers f k r t'
unfolding kept
word_row g o z l i m p e u w = finished (takes g o (is_word m) tt p) (omega (arith, i)) z l e u w

-- rows are few
pub rows_small : {s : List ℕ} {h : Here} → Stands s h → h.rows < 300000
rows_small g = let a = g.few in let b = next_small g in let c = g.short in omega (arith, a, b, c)

-- the measure of a cycle's member: a place, and a level there
pub falls_on : {s : List ℕ} {z : Here} (n i j t : ℕ) → (70000 - n) * 64 + i ≡ t → n < next_of z → Stands s z → j < 64 → (70000 - next_of z) * 64 + j < t
falls_on n i j t e l g q =
    let a = next_small g in
    let b = g.short in
    omega (arith, a, b, e, l, q)

pub falls_same : (n i j t : ℕ) → (70000 - n) * 64 + i ≡ t → j < i → (70000 - n) * 64 + j < t
falls_same n i j t e q = omega (arith, e, q)

-- the same phrase by other names
pub read_as : {s : List ℕ} {l l' : Limits} {n j : ℕ} {h h' : Here} {t t₁ t₂ : List ℕ} {r r' : Read} → h' ≡ h → l' ≡ l → r ≡ r' → t₁ ≡ t₂ → Answers (the s (counts l') n h' t) j r' t₂ → Answers (the s (counts l) n h t) j r t₁
read_as {s} {l} {l'} {n} {j} {h} {t = t} {t₁ = t₁} {t₂} {r} {r'} a b c d u = subst (λ (x : List ℕ). Answers (the s (counts l) n h t) j r x) (sym d) (subst (λ (x : Read). Answers (the s (counts l) n h t) j x t₂) (sym c) (subst (λ (x : Limits). Answers (the s (counts x) n h t) j r' t₂) b (subst (λ (x : Here). Answers (the s (counts l') n x t) j r' t₂) a u)))

-- what a `?` hands on is the refusal that it met
pub handed : {A : Type 0} {r : Result A Refusal} {e : Refusal} → IsErrAnd r (λ x. x ≡ e) → r ≡ Err e
handed {r = r} k = let p = err_from_is_err_and r k in p.1 ∙ ap Err p.2

-- a refusal handed on as that of a statement, or of an arm
pub ended_on : {r : Read} {v : StmtRead} {e : Refusal} → r ≡ Err e → v ≡ Err e → v ≡ ended_by r
unfolding ended_by
ended_on p q = q ∙ ap ended_by (sym p)

pub last_on : {r : Read} {v : ArmRead} {e : Refusal} → r ≡ Err e → v ≡ Err e → v ≡ last_arm r
unfolding last_arm
last_on p q = q ∙ ap last_arm (sym p)
