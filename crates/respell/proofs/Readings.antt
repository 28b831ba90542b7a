-- A reading over a list of tokens is one over every source that shows the list.
use mathlib.Core.Path.{◌≡◌, refl, sym, ap, ◌∙◌, subst}
use mathlib.Core.Logic.{◌⊎◌, inl, inr}
use mathlib.Core.List.{List, [], ◌∷◌}
use mathlib.Core.Bool.{Bool, true, false, not, ◌&&◌, cond}
use Prim.Native.Nat.{ℕ, ◌<◌, ◌≤◌}
use native.Mathlib.Omega.{arith}
use lib.ListN.{length}
use lib.Dec.{T, eqb, eqb→eq}
use Rattle.grammar.specs.Grammar.{Ask, has_value, same, Symbol, token, phrase, unless, note, left_side, text, Rule, Token, found, over, Stream, Parts, end, leaf, node, mark, Language, one_of, alternatives, In}
use Rattle.grammar.specs.Limits.{Counts, after}
use Rattle.grammar.specs.Language.{roto}
use Rattle.grammar.specs.Culprit.{look_at, piece_at, lists}
use Rattle.grammar.specs.Readings.{word_of_lem, peek, reads_end, reads_token, reads_phrase, reads_unless, reads_note, reads_side, reads_text, ReadingBy}
use Rattle.grammar.proofs.Bools.{and_l, and_r, or_cases}
use Rattle.grammar.proofs.Pass.{each_passes, passes_at}
use Rattle.grammar.proofs.Good.{full, filled, all_full, full_filled}
use Rattle.printing.specs.Alike.{Match, match_end, match_leaf, match_node, match_mark}
use Rattle.respell.specs.Shown.{Like, is_piece, Shown, shown_none, shown_token, shown_piece}

never : (b : Bool) → T (not b) → T b → ⊥
never true h f = h
never false h f = f

-- words of tokens alone
abbrev wordy : List ℕ → Bool
wordy [] = true
wordy (v ∷ w) = not (is_piece v) && wordy w

wordy_one : (w : List ℕ) (c : ℕ) → T (wordy w) → T (one_of c w) → T (not (is_piece c))
wordy_one [] c h m = absurd m
wordy_one (v ∷ w) c h m = elim (or_cases (eqb c v) (one_of c w) m) [
  | inl e ↦ subst (λ (n : ℕ). T (not (is_piece n))) (sym (eqb→eq c v e)) (and_l (not (is_piece v)) (wordy w) h)
  | inr k ↦ wordy_one w c (and_r (not (is_piece v)) (wordy w) h) k
]

-- a list of symbols that text may stand first in
abbrev pub faced : List Symbol → Bool
faced [] = false
faced (token g w ∷ s) = false
faced (phrase o n ∷ s) = faced s
faced (unless w ∷ s) = faced s
faced (note k ∷ s) = faced s
faced (left_side n n₁ ∷ s) = faced s
faced (text n ∷ s) = true

module _ (l : Language) where
  -- behind a word that may not stand, a token stands for certain, and no text before it; and no token's word is a piece's
  abbrev pub solid : List Symbol → Bool
  solid [] = true
  solid (token g w ∷ s) = wordy w && solid s
  solid (phrase o n ∷ s) = solid s
  solid (unless w ∷ s) = (filled l s && not (faced s)) && solid s
  solid (note k ∷ s) = solid s
  solid (left_side n n₁ ∷ s) = solid s
  solid (text n ∷ s) = solid s

  -- so in every rule, and no alternative begins with text
  abbrev pub all_solid : List Rule → Bool
  all_solid = each_passes (λ n b. not (faced b) && solid b)

pub roto_solid : (tests : Bool) → T (all_solid (roto tests) (roto tests).rules)
unfolding roto
roto_solid true = tt
roto_solid false = tt

list_takes : (x : Token) (c c' : List Token) → look_at c ≡ found x c' → length c' < length c
list_takes x [] c' e = let v : ◌≡◌ {A = ℕ} 0 1 = cc in absurd (omega arith)
list_takes x (y ∷ c) c' e = let v : c ≡ c' = cc in let n = ap length v in omega arith

list_keeps : (x : Token) (c c' : List Token) → piece_at c ≡ found x c' → length c' ≤ length c
list_keeps x [] c' e = let v : ◌≡◌ {A = ℕ} 0 1 = cc in absurd (omega arith)
list_keeps x (y ∷ c) c' e = by (is_piece y.word) e
  where
    by : (b : Bool) → cond b (found y c) over ≡ found x c' → length c' ≤ length (y ∷ c)
    by true f = let v : c ≡ c' = cc in let n = ap length v in omega arith
    by false f = let v : ◌≡◌ {A = ℕ} 0 1 = cc in absurd (omega arith)

-- a list that a token stands first in
record Heads (c : List Token) : Type 0 where
  first : Token
  rest : List Token
  is : c ≡ first ∷ rest
  plain : T (not (is_piece first.word))

heads : (x : Token) (c c' : List Token) → look_at c ≡ found x c' → T (not (is_piece x.word)) → Heads c
heads x [] c' e h = let v : ◌≡◌ {A = ℕ} 0 1 = cc in absurd (omega arith)
heads x (y ∷ c) c' e h = let v : x ≡ y = cc in record { first = y; rest = c; is = refl; plain = subst (λ (o : Token). T (not (is_piece o.word))) v h }

module _ (l : Language) (filling : T (all_full l l.rules)) (solidly : T (all_solid l l.rules)) where
  one_solid : {b : List Symbol} (n : ℕ) → In b (alternatives l n) → T (not (faced b) && solid l b)
  one_solid n o = passes_at (λ m b. not (faced b) && solid l b) l.rules n solidly o

  solid_one : {b : List Symbol} (n : ℕ) → In b (alternatives l n) → T (solid l b)
  solid_one {b} n o = and_r (not (faced b)) (solid l b) (one_solid n o)

  bare_one : {b : List Symbol} (n : ℕ) → In b (alternatives l n) → T (not (faced b))
  bare_one {b} n o = and_l (not (faced b)) (solid l b) (one_solid n o)

  solid_on : (b : Bool) (n : ℕ) (s : List Symbol) → T (solid l s) → T (solid l (cond b (phrase same n ∷ s) s))
  solid_on true n s h = h
  solid_on false n s h = h

  bare_on : (b : Bool) (n : ℕ) (s : List Symbol) → T (not (faced s)) → T (not (faced (cond b (phrase same n ∷ s) s)))
  bare_on true n s h = h
  bare_on false n s h = h

  module _ {G : Ask → Counts → Token → Bool} where
    -- reading doesn't go back, and goes on where there is a token
    on : {d : Counts} {s : List Symbol} {c z : List Token} {p : Parts} → ReadingBy lists l G d s c z p → length z ≤ length c
    on reads_end = omega arith
    on (reads_token {x = x} {i = i} {j = j} e m k t) = omega (arith, on t, list_takes x i j e)
    on (reads_phrase o t u) = omega (arith, on t, on u)
    on (reads_unless m t) = on t
    on (reads_note t) = on t
    on (reads_side o t m u) = omega (arith, on t, on u)
    on (reads_text {x = x} {i = i} {j = j} e k t) = omega (arith, on t, list_keeps x i j e)

    pub takes : {d : Counts} {s : List Symbol} {c z : List Token} {p : Parts} → ReadingBy lists l G d s c z p → T (filled l s) → length z < length c
    takes reads_end h = absurd h
    takes (reads_token {x = x} {i = i} {j = j} e m k t) h = omega (arith, on t, list_takes x i j e)
    takes (reads_phrase {n = n} {s = s} o t u) h = elim (or_cases (full l n) (filled l s) h) [
      | inl k ↦ omega (arith, takes t (full_filled l n filling o k), on u)
      | inr k ↦ omega (arith, takes u k, on t)
    ]
    takes (reads_unless m t) h = takes t h
    takes (reads_note t) h = takes t h
    takes (reads_side {n = n} o t m u) h = omega (arith, takes t (full_filled l n filling o h), on u)
    takes (reads_text e k t) h = absurd h

    begins : {d : Counts} {s : List Symbol} {c z : List Token} {p : Parts} → ReadingBy lists l G d s c z p → T (solid l s) → T (not (faced s)) → Heads c ⊎ (c ≡ z)
    begins reads_end h f = inr refl
    begins (reads_token {w = w} {s = s} {x = x} {i = i} {j = j} e m k t) h f = inl (heads x i j e (wordy_one w x.word (and_l (wordy w) (solid l s) h) m))
    begins (reads_phrase {n = n} {r = r} o t u) h f = elim (begins t (solid_one n o) (bare_one n o)) [ inl g ↦ inl g | inr e ↦ subst (λ (c : List Token). Heads c ⊎ (c ≡ r)) (sym e) (begins u h f) ]
    begins (reads_unless {s = s} m t) h f = begins t (and_r (filled l s && not (faced s)) (solid l s) h) f
    begins (reads_note t) h f = begins t h f
    begins (reads_side {n = n} {n₁ = n₁} {s = s} {r = r} {p = p} o t m u) h f = elim (begins t (solid_one n o) (bare_one n o)) [ inl g ↦ inl g | inr e ↦ subst (λ (c : List Token). Heads c ⊎ (c ≡ r)) (sym e) (begins u (solid_on (l.is_path p) n₁ s h) (bare_on (l.is_path p) n₁ s f)) ]
    begins (reads_text e k t) h f = absurd f

  module _ (S : Stream) (stop : S.Place) (Q : Token → Token → Type 0) (as_like : (x y : Token) → Q x y → Like x y) (G G' : Ask → Counts → Token → Bool)
      (passes : (g : Ask) (d : Counts) (x y : Token) → Like x y → T (G g d x) → T (G' g d y))
      (paths : (p q : Parts) → Match Q p q → l.is_path p ≡ l.is_path q) where
    pub record Carried (d : Counts) (s : List Symbol) (z : List Token) (p : Parts) (i : S.Place) : Type 0 where
      pub to : S.Place
      pub parts : Parts
      pub reads : ReadingBy S l G' d s i to parts
      pub there : Shown S Q z to stop
      pub alike : Match Q p parts

    pub record Taken (x : Token) (c : List Token) (saw : Token → S.Place → Type 0) : Type 0 where
      pub token : Token
      pub next : S.Place
      pub seen : saw token next
      pub like : Q x token
      pub on_from : Shown S Q c next stop

    take_token : {c c' : List Token} {x : Token} {i : S.Place} → look_at c ≡ found x c' → T (not (is_piece x.word)) → Shown S Q c i stop → Taken x c' (λ y j. S.look i ≡ found y j)
    take_token z h shown_none = let v : ◌≡◌ {A = ℕ} 0 1 = cc in absurd (omega arith)
    take_token {c' = c'} {x = x} z h (shown_token {x = x₁} {y = y} {xs = ts} {j = j} k b f u) =
        let a : x₁ ≡ x = cc in
        let o : ts ≡ c' = cc in
        record { token = y; next = j; seen = k; like = subst (λ (t : Token). Q t y) a b; on_from = subst (λ (c : List Token). Shown S Q c j stop) o u }
    take_token {x = x} z h (shown_piece {x = x₁} k b f u) = let a : x₁ ≡ x = cc in absurd (never (is_piece x.word) h (subst (λ (o : Token). T (is_piece o.word)) a f))

    take_piece : {c c' : List Token} {x : Token} {i : S.Place} → piece_at c ≡ found x c' → Shown S Q c i stop → Taken x c' (λ y j. S.piece i ≡ found y j)
    take_piece z shown_none = let v : ◌≡◌ {A = ℕ} 0 1 = cc in absurd (omega arith)
    take_piece {c' = c'} {x = x} {i = i} z (shown_token {x = x₁} {xs = ts} k b f u) = absurd (by (is_piece x₁.word) f z)
      where
        by : (b : Bool) → T (not b) → cond b (found x₁ ts) over ≡ found x c' → ⊥
        by true g e = g
        by false g e = let v : ◌≡◌ {A = ℕ} 0 1 = cc in omega arith
    take_piece {c' = c'} {x = x} {i = i} z (shown_piece {x = x₁} {y = y} {xs = ts} {j = j} k b f u) =
        let e = by (is_piece x₁.word) f z in
        let a : x₁ ≡ x = cc in
        let o : ts ≡ c' = cc in
        record { token = y; next = j; seen = k; like = subst (λ (t : Token). Q t y) a b; on_from = subst (λ (c : List Token). Shown S Q c j stop) o u }
      where
        by : (b : Bool) → T b → cond b (found x₁ ts) over ≡ found x c' → found x₁ ts ≡ found x c'
        by true g e = e
        by false g e = absurd g

    word_like : (x y : Token) → Like x y → x.word ≡ y.word
    word_like x y e = sym (ap (λ (o : Token). o.word) e)

    -- at a token, the list and the source show the same word
    peek_like : {c : List Token} {i : S.Place} → Heads c → Shown S Q c i stop → peek lists l c ≡ peek S l i
    peek_like {c} {i} h u =
        let v = take_token {c = h.first ∷ h.rest} refl h.plain (subst (λ (o : List Token). Shown S Q o i stop) h.is u) in
        ap (peek lists l) h.is ∙ word_like h.first v.token (as_like h.first v.token v.like) ∙ sym (ap (word_of_lem S l) v.seen)

    pub read_shown : {d : Counts} {s : List Symbol} {c z : List Token} {i : S.Place} {p : Parts} → ReadingBy lists l G d s c z p → T (solid l s) → Shown S Q c i stop → Carried d s z p i
    read_shown {i = i} reads_end h u = record { to = i; parts = end; reads = reads_end; there = u; alike = match_end }
    read_shown (reads_token {d = d} {g = g} {w = w} {s = s} {x = x} e m k t) h u =
        let v = take_token e (wordy_one w x.word (and_l (wordy w) (solid l s) h) m) u in
        let y = v.token in
        let r = read_shown t (and_r (wordy w) (solid l s) h) v.on_from in
        record { to = r.to; parts = leaf y r.parts; reads = reads_token v.seen (subst (λ (n : ℕ). T (one_of n w)) (word_like x y (as_like x y v.like)) m) (passes g d x y (as_like x y v.like) k) r.reads; there = r.there; alike = match_leaf v.like r.alike }
    read_shown (reads_phrase {n = n} {a = a} o t v) h u =
        let b = read_shown t (solid_one n o) u in
        let r = read_shown v h b.there in
        record { to = r.to; parts = node n a b.parts r.parts; reads = reads_phrase o b.reads r.reads; there = r.there; alike = match_node b.alike r.alike }
    read_shown (reads_unless {w = w} {s = s} {i = c} m t) h u =
        let two = and_l (filled l s && not (faced s)) (solid l s) h in
        let own = and_r (filled l s && not (faced s)) (solid l s) h in
        let r = read_shown t own u in
        let head : Heads c = elim (begins t own (and_r (filled l s) (not (faced s)) two)) [ inl g ↦ g | inr e ↦ absurd (let k = takes t (and_l (filled l s) (not (faced s)) two) in let n = ap length e in omega arith) ] in
        record { to = r.to; parts = r.parts; reads = reads_unless (subst (λ (n : ℕ). T (not (one_of n w))) (peek_like head u) m) r.reads; there = r.there; alike = r.alike }
    read_shown (reads_note {k = k} t) h u =
        let r = read_shown t h u in
        record { to = r.to; parts = mark k r.parts; reads = reads_note r.reads; there = r.there; alike = match_mark r.alike }
    read_shown (reads_side {d = d} {n = n} {n₁ = n₁} {a = a} {s = s} {p = p} o t m v) h u =
        let b = read_shown t (solid_one n o) u in
        let r = read_shown v (solid_on (l.is_path p) n₁ s h) b.there in
        record { to = r.to; parts = node n a b.parts r.parts; reads = reads_side o b.reads tt (subst (λ (z : Bool). ReadingBy S l G' d (cond z (phrase same n₁ ∷ s) s) b.to r.to r.parts) (paths p b.parts b.alike) r.reads); there = r.there; alike = match_node b.alike r.alike }
    read_shown (reads_text {d = d} {n = n} {s = s} {x = x} e k t) h u =
        let v = take_piece e u in
        let y = v.token in
        let r = read_shown t (solid_on (eqb x.word l.hole) n s h) v.on_from in
        record { to = r.to; parts = leaf y r.parts; reads = reads_text v.seen (passes has_value d x y (as_like x y v.like) k) (subst (λ (z : ℕ). ReadingBy S l G' (after has_value d) (cond (eqb z l.hole) (phrase same n ∷ s) s) v.next r.to r.parts) (word_like x y (as_like x y v.like)) r.reads); there = r.there; alike = match_leaf v.like r.alike }
