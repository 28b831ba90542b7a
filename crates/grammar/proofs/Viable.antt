-- C-24, its first half: what stands before a refused token begins some text of the grammar.
use mathlib.Core.Path.{◌≡◌, refl, sym, ◌∙◌, ap, subst}
use mathlib.Core.List.{List, [], ◌∷◌}
use mathlib.Core.Bool.{Bool, true, false, not, ◌&&◌, ◌||◌, cond}
use mathlib.Core.Option.{Option, none, some}
use mathlib.Core.Logic.{◌⊎◌, inl, inr}
use Prim.Native.Nat.{ℕ, suc, zero}
use lib.Dec.{T, eqb, eqb_refl}
use native.Mathlib.Omega.{arith}
use Rattle.grammar.specs.Words.{text_then_hole, last_text}
use Rattle.grammar.specs.Grammar.{Ask, has_value, same, Stream, Symbol, token, phrase, unless, note, left_side, text, Rule, Token, found, Parts, end, leaf, node, mark, Language, one_of, alternatives, In, here, there}
use Rattle.grammar.specs.Limits.{Counts, after, inside}
use Rattle.grammar.specs.Readings.{word_of_lem, peek, Reads, reads_end, reads_token, reads_phrase, reads_unless, reads_note, reads_side, reads_text, Is, ReadingBy}
use Rattle.grammar.specs.Runs.{view}
use Rattle.grammar.specs.Refusals.{Why, torn, Stops, stops_want, stops_past, stops_token, stops_none, stops_in, stops_after, stops_barred, stops_unless, stops_note, stops_side_none, stops_side_in, stops_left, stops_side_after, stops_torn, stops_ill, stops_text}
use Rattle.grammar.specs.Culprit.{lists, any, Before, before_here, before_there}
use Rattle.grammar.specs.Choice.{hint_in}
use Rattle.grammar.proofs.Bools.{and_l, and_r, or_cases, or_l, or_r}
use Rattle.grammar.proofs.Pass.{each_passes, passes_at}
use Rattle.grammar.proofs.Good.{full, filled, all_full, full_filled}
use Rattle.grammar.proofs.Core.{sound, chosen_in}
use Rattle.grammar.proofs.Refused.{untorn}
use Rattle.grammar.proofs.Barred.{given}

-- a token of a word
abbrev pub token_of : ℕ → Token
token_of c = record { word = c; start = 0; end = 0; holds = true; kind = 0; value = 0; detail = 0 }

-- the parts' tokens, in front of others
abbrev pub onto : Parts → List Token → List Token
onto end c = c
onto (leaf x p) c = x ∷ onto p c
onto (node n a p q) c = onto p (onto q c)
onto (mark k p) c = onto p c

abbrev pub leafy : Parts → Bool
leafy end = false
leafy (leaf x p) = true
leafy (node n a p q) = leafy p || leafy q
leafy (mark k p) = leafy p

abbrev pub nth : List (List Symbol) → ℕ → Option (List Symbol)
nth [] i = none
nth (a ∷ ss) zero = some a
nth (a ∷ ss) (suc i) = nth ss i

nth_in : (ss : List (List Symbol)) (i : ℕ) (a : List Symbol) → nth ss i ≡ some a → In a ss
nth_in [] i a e = let z : ◌≡◌ {A = ℕ} 0 1 = cc in absurd (omega arith)
nth_in (s ∷ ss) zero a e = let q : s ≡ a = cc in subst (λ (x : List Symbol). In x (s ∷ ss)) q here
nth_in (s ∷ ss) (suc i) a e = there (nth_in ss i a e)

given_at : (o : Option (List Symbol)) (g : List Symbol → Bool) → T (given o g) → (a : List Symbol) × (o ≡ some a) × T (g a)
given_at none g t = absurd t
given_at (some a) g t = (a, refl, t)

module _ (l : Language) where
  abbrev pub Free : Counts → List Symbol → List Token → List Token → Parts → Type 0
  Free = ReadingBy lists l any

  -- `unless` is asked of a token of the phrase's own
  abbrev pub firm : List Symbol → Bool
  firm [] = true
  firm (token g w ∷ s) = firm s
  firm (phrase o n ∷ s) = firm s
  firm (unless w ∷ s) = filled l s && firm s
  firm (note k ∷ s) = firm s
  firm (text n ∷ s) = firm s
  firm (left_side n n₁ ∷ s) = firm s

  -- the fuel is enough for a shortest text
  abbrev pub short : ℕ → Option (List Symbol)
  short n = nth (alternatives l n) (hint_in l.hints n).shortest

  unfoldable pub grows : ℕ → List Symbol → Bool
  grows zero s = false
  grows (suc k) [] = true
  grows (suc k) (token g [] ∷ s) = false
  grows (suc k) (token g (c ∷ w) ∷ s) = grows k s
  grows (suc k) (phrase o n ∷ s) = given (short n) (λ a. grows k a) && grows k s
  grows (suc k) (unless w ∷ s) = false
  grows (suc k) (note j ∷ s) = grows k s
  grows (suc k) (text n ∷ s) = grows k s
  grows (suc k) (left_side n n₁ ∷ s) = given (short n) (λ a. grows k a) && (grows k (phrase same n₁ ∷ s) && grows k s)

  -- so for all that may be left to read
  abbrev pub tails : List Symbol → Bool
  tails [] = true
  tails (token g w ∷ s) = grows 64 s && tails s
  tails (phrase o n ∷ s) = grows 64 s && tails s
  tails (unless w ∷ s) = tails s
  tails (note k ∷ s) = tails s
  tails (text n ∷ s) = tails s
  tails (left_side n n₁ ∷ s) = grows 64 (phrase same n₁ ∷ s) && (grows 64 s && tails s)

  abbrev pub all_live : List Rule → Bool
  all_live = each_passes (λ n a. firm a && tails a)

  pub record Grown (s : List Symbol) : Type 0 where
    pub part : Parts
    pub reads : (d : Counts) (c : List Token) → Free d s (onto part c) c part

  module _ (S : Stream) (silent : (i : S.Place) → T (torn (S.piece i))) where
    -- the parts stand in the source, so what holds behind them holds in front of them
    pub upto_by : (B : S.Place → List Token → Type 0) → ((x : Token) (i j : S.Place) (ts : List Token) → S.look i ≡ found x j → B j ts → B i (x ∷ ts)) → {G : Ask → Counts → Token → Bool} {W : Bool → ℕ → Bool} {C : ℕ → S.Place → List Symbol → Type 0} {d : Counts} {s : List Symbol} {i r : S.Place} {p : Parts} {ts : List Token} → Reads S l G W C d s i r p → B r ts → B i (onto p ts)
    upto_by B on reads_end v = v
    upto_by B on (reads_token {x = x} {i = i} {j = j} e h k t) v = on x i j _ e (upto_by B on t v)
    upto_by B on (reads_phrase c t u) v = upto_by B on t (upto_by B on u v)
    upto_by B on (reads_unless h t) v = upto_by B on t v
    upto_by B on (reads_note t) v = upto_by B on t v
    upto_by B on (reads_text {i = i} e k t) v = untorn (S.piece i) (silent i) e
    upto_by B on (reads_side c t h u) v = upto_by B on t (upto_by B on u v)

    pub upto_seq : {G : Ask → Counts → Token → Bool} {W : Bool → ℕ → Bool} {C : ℕ → S.Place → List Symbol → Type 0} {d : Counts} {s : List Symbol} {i r z : S.Place} {p : Parts} {ts : List Token} → Reads S l G W C d s i r p → Before S z r ts → Before S z i (onto p ts)
    upto_seq {z = z} t v = upto_by (Before S z) (λ x i j ts e b. before_there e b) t v

    bare : {G : Ask → Counts → Token → Bool} {W : Bool → ℕ → Bool} {C : ℕ → S.Place → List Symbol → Type 0} {d : Counts} {s : List Symbol} {i r : S.Place} {p : Parts} → Reads S l G W C d s i r p → (T (leafy p) → ⊥) → i ≡ r
    bare reads_end h = refl
    bare (reads_token e m k t) h = absurd (h tt)
    bare (reads_phrase {p = p} {q = q} c t u) h = bare t (λ t. h (or_l (leafy p) (leafy q) t)) ∙ bare u (λ t. h (or_r (leafy p) (leafy q) t))
    bare (reads_unless m t) h = bare t h
    bare (reads_note t) h = bare t h
    bare (reads_text {i = i} e k t) h = untorn (S.piece i) (silent i) e
    bare (reads_side {p = p} {q = q} c t m u) h = bare t (λ t. h (or_l (leafy p) (leafy q) t)) ∙ bare u (λ t. h (or_r (leafy p) (leafy q) t))

    peek_seq : {G : Ask → Counts → Token → Bool} {W : Bool → ℕ → Bool} {C : ℕ → S.Place → List Symbol → Type 0} {d : Counts} {s : List Symbol} {i r : S.Place} {p : Parts} (c : List Token) → Reads S l G W C d s i r p → T (leafy p) ⊎ (peek S l r ≡ peek lists l c) → peek S l i ≡ peek lists l (onto p c)
    peek_seq c reads_end (inl t) = absurd t
    peek_seq c reads_end (inr e) = e
    peek_seq c (reads_token e h k t) o = ap (word_of_lem S l) e
    peek_seq c (reads_phrase {p = p} {q = q} b t u) (inl o) = elim (or_cases (leafy p) (leafy q) o) [ inl h ↦ peek_seq (onto q c) t (inl h) | inr h ↦ peek_seq (onto q c) t (inr (peek_seq c u (inl h))) ]
    peek_seq c (reads_phrase {q = q} b t u) (inr e) = peek_seq (onto q c) t (inr (peek_seq c u (inr e)))
    peek_seq c (reads_unless h t) o = peek_seq c t o
    peek_seq c (reads_note t) o = peek_seq c t o
    peek_seq c (reads_text {i = i} e k t) o = untorn (S.piece i) (silent i) e
    peek_seq c (reads_side {p = p} {q = q} b t h u) (inl o) = elim (or_cases (leafy p) (leafy q) o) [ inl h ↦ peek_seq (onto q c) t (inl h) | inr h ↦ peek_seq (onto q c) t (inr (peek_seq c u (inl h))) ]
    peek_seq c (reads_side {q = q} b t h u) (inr e) = peek_seq (onto q c) t (inr (peek_seq c u (inr e)))

  -- `marked`: the word of a piece that a hole follows is the one before that of a last piece
  module _ (live : T (all_live l.rules)) (filling : T (all_full l l.rules)) (marked : l.hole ≡ text_then_hole) where
    pub grown : (k : ℕ) (s : List Symbol) → T (grows k s) → Grown s
    unfolding grows
    grown zero s t = absurd t
    grown (suc k) [] t = record { part = end; reads = λ d c. reads_end }
    grown (suc k) (token g [] ∷ s) t = absurd t
    grown (suc k) (token g (c ∷ w) ∷ s) t = let f = grown k s t in record { part = leaf (token_of c) f.part; reads = λ d r. reads_token refl (or_l (eqb (c) c) (one_of (c) w) (eqb_refl c)) tt (f.reads (after g d) r) }
    grown (suc k) (phrase o n ∷ s) t =
        let h = given_at (short n) (λ a. grows k a) (and_l (given (short n) (λ a. grows k a)) (grows k s) t) in
        let b = nth_in (alternatives l n) (hint_in l.hints n).shortest h.0 h.1 in
        let f = grown k h.0 h.2 in
        let g = grown k s (and_r (given (short n) (λ a. grows k a)) (grows k s) t) in
        record { part = node n h.0 f.part g.part; reads = λ d r. reads_phrase b (f.reads (inside o d) (onto g.part r)) (g.reads d r) }
    grown (suc k) (unless w ∷ s) t = absurd t
    grown (suc k) (text n ∷ s) t =
        let g = grown k s t in
        let h : eqb last_text l.hole ≡ false = ap (eqb last_text) marked in
        record { part = leaf (token_of last_text) g.part; reads = λ d r. reads_text refl tt (subst (λ (b : Bool). Free (after has_value d) (cond b (phrase same n ∷ s) s) (onto g.part r) r g.part) (sym h) (g.reads (after has_value d) r)) }
    grown (suc k) (note j ∷ s) t = let g = grown k s t in record { part = mark j g.part; reads = λ d r. reads_note (g.reads d r) }
    grown (suc k) (left_side n n₁ ∷ s) t =
        let x = given (short n) (λ a. grows k a) in
        let y = grows k (phrase same n₁ ∷ s) in
        let z = grows k s in
        let h = given_at (short n) (λ a. grows k a) (and_l x (y && z) t) in
        let b = nth_in (alternatives l n) (hint_in l.hints n).shortest h.0 h.1 in
        let f = grown k h.0 h.2 in
        let g : Grown (cond (l.is_path f.part) (phrase same n₁ ∷ s) s) = either (l.is_path f.part) (grown k (phrase same n₁ ∷ s) (and_l y z (and_r x (y && z) t))) (grown k s (and_r y z (and_r x (y && z) t))) in
        record { part = node n h.0 f.part g.part; reads = λ d r. reads_side b (f.reads d (onto g.part r)) tt (g.reads d r) }
      where
        either : (b : Bool) → Grown (phrase same n₁ ∷ s) → Grown s → Grown (cond b (phrase same n₁ ∷ s) s)
        either true u v = u
        either false u v = v

    live_one : {a : List Symbol} (n : ℕ) → In a (alternatives l n) → T (firm a && tails a)
    live_one n o = passes_at (λ m a. firm a && tails a) l.rules n live o

    pub firm_one : {a : List Symbol} (n : ℕ) → In a (alternatives l n) → T (firm a)
    firm_one {a} n o = and_l (firm a) (tails a) (live_one n o)

    pub tails_one : {a : List Symbol} (n : ℕ) → In a (alternatives l n) → T (tails a)
    tails_one {a} n o = and_r (firm a) (tails a) (live_one n o)

    module _ (S : Stream) (silent : (i : S.Place) → T (torn (S.piece i))) where
      -- what has a token at least, has one
      has_leaf : {G : Ask → Counts → Token → Bool} {W : Bool → ℕ → Bool} {d : Counts} {s : List Symbol} {i r : S.Place} {p : Parts} → Reads S l G W (Is S l) d s i r p → T (filled l s) → T (leafy p)
      has_leaf reads_end h = h
      has_leaf (reads_token e g k t) h = tt
      has_leaf (reads_phrase {n = n} {s = s} {p = p} {q = q} c t u) h = elim (or_cases (full l n) (filled l s) h) [
        | inl k ↦ or_l (leafy p) (leafy q) (has_leaf t (full_filled l n filling c k))
        | inr k ↦ or_r (leafy p) (leafy q) (has_leaf u k)
      ]
      has_leaf (reads_unless g t) h = has_leaf t h
      has_leaf (reads_note t) h = has_leaf t h
      has_leaf (reads_text {i = i} e k t) h = untorn (S.piece i) (silent i) e
      has_leaf (reads_side {n = n} {p = p} {q = q} c t g u) h = or_l (leafy p) (leafy q) (has_leaf t (full_filled l n filling c h))

      firm_on : (b : Bool) (n₁ : ℕ) (s : List Symbol) → T (firm s) → T (firm (cond b (phrase same n₁ ∷ s) s))
      firm_on true n₁ s h = h
      firm_on false n₁ s h = h

      -- a reading stays one, whatever stands behind it
      pub graft : {G : Ask → Counts → Token → Bool} {W : Bool → ℕ → Bool} {d : Counts} {s : List Symbol} {i r : S.Place} {p : Parts} → Reads S l G W (Is S l) d s i r p → T (firm s) → (c : List Token) → Free d s (onto p c) c p
      graft reads_end f c = reads_end
      graft (reads_token e h k t) f c = reads_token refl h tt (graft t f c)
      graft (reads_phrase {n = n} {q = q} o t u) f c = reads_phrase o (graft t (firm_one n o) (onto q c)) (graft u f c)
      graft (reads_unless {w = w} {s = s} h t) f c =
          reads_unless (subst (λ (x : ℕ). T (not (one_of x w))) (peek_seq S silent c t (inl (has_leaf t (and_l (filled l s) (firm s) f)))) h) (graft t (and_r (filled l s) (firm s) f) c)
      graft (reads_note t) f c = reads_note (graft t f c)
      graft (reads_text {i = i} e k t) f c = untorn (S.piece i) (silent i) e
      graft (reads_side {n = n} {n₁ = n₁} {s = s} {p = p} {q = q} o t h u) f c = reads_side o (graft t (firm_one n o) (onto q c)) tt (graft u (firm_on (l.is_path p) n₁ s f) c)

      record Begun (d : Counts) (s : List Symbol) (i z : S.Place) : Type 0 where
        part : Parts
        reads : (c : List Token) → Free d s (onto part c) c part
        upto : (c : List Token) → Before S z i (onto part c)
        looks : (c : List Token) → peek S l i ≡ peek lists l (onto part c)

      pub forked : (n n₁ : ℕ) (s : List Symbol) → T (tails (left_side n n₁ ∷ s)) → (b : Bool) → Grown (cond b (phrase same n₁ ∷ s) s)
      forked n n₁ s t true = grown 64 (phrase same n₁ ∷ s) (and_l (grows 64 (phrase same n₁ ∷ s)) (grows 64 s && tails s) t)
      forked n n₁ s t false = grown 64 s (and_l (grows 64 s) (tails s) (and_r (grows 64 (phrase same n₁ ∷ s)) (grows 64 s && tails s) t))

      pub tails_on : (b : Bool) (n n₁ : ℕ) (s : List Symbol) → T (tails (left_side n n₁ ∷ s)) → T (tails (cond b (phrase same n₁ ∷ s) s))
      tails_on true n n₁ s t = and_r (grows 64 (phrase same n₁ ∷ s)) (grows 64 s && tails s) t
      tails_on false n n₁ s t = and_r (grows 64 s) (tails s) (and_r (grows 64 (phrase same n₁ ∷ s)) (grows 64 s && tails s) t)

      record Second (d : Counts) (s : List Symbol) (i z : S.Place) (p : Parts) : Type 0 where
        part : Parts
        reads : (c : List Token) → Free d s (onto part c) c part
        upto : (c : List Token) → Before S z i (onto p (onto part c))
        looks : (c : List Token) → peek S l i ≡ peek lists l (onto p (onto part c))

      -- a first phrase is read, and behind it a second is begun or nothing is
      join : {G : Ask → Counts → Token → Bool} {W : Bool → ℕ → Bool} {C : ℕ → S.Place → List Symbol → Type 0} {d d' : Counts} {a s : List Symbol} {i m z : S.Place} {p : Parts} → Reads S l G W C d' a i m p → (z ≡ m) ⊎ Begun d s m z → Grown s → (z ≡ i) ⊎ Second d s i z p
      join {p = p} t (inr b) g =
          inr (record {
            part = b.part;
            reads = b.reads;
            upto = λ c. upto_seq S silent t (b.upto c);
            looks = λ c. peek_seq S silent (onto b.part c) t (inr (b.looks c));
          })
      join {d = d} {s = s} {i = i} {m = m} {z = z} {p = p} t (inl k) g = go (leafy p) refl
        where
          go : (b : Bool) → leafy p ≡ b → (z ≡ i) ⊎ Second d s i z p
          go true h =
              inr (record {
                part = g.part;
                reads = g.reads d;
                upto = λ c. upto_seq S silent t (subst (λ (x : S.Place). Before S z x (onto g.part c)) k before_here);
                looks = λ c. peek_seq S silent (onto g.part c) t (inl (rw h tt));
              })
          go false h = inl (k ∙ sym (bare S silent t (λ t. rw h at t)))

      begun : {d : Counts} {s : List Symbol} {i z : S.Place} {y : Why} → Stops S l d s i z y → T (tails s) → (z ≡ i) ⊎ Begun d s i z
      begun (stops_want h) t = inl refl
      begun (stops_past e m h) t = inl refl
      begun (stops_token {d = d} {g = g₀} {s = s} {x = x} {j = j} {z = z} e m h f) t = elim (begun f (and_r (grows 64 s) (tails s) t)) [
        | inl q ↦
            (let g = grown 64 s (and_l (grows 64 s) (tails s) t) in
            inr (record { part = leaf x g.part; reads = λ c. reads_token refl m tt (g.reads (after g₀ d) c); upto = λ c. before_there e (subst (λ (w : S.Place). Before S z w (onto g.part c)) q before_here); looks = λ c. ap (word_of_lem S l) e }))
        | inr b ↦ inr (record { part = leaf x b.part; reads = λ c. reads_token refl m tt (b.reads c); upto = λ c. before_there e (b.upto c); looks = λ c. ap (word_of_lem S l) e })
      ]
      begun (stops_none e) t = inl refl
      begun (stops_in {d = d} {n = n} {a = a} {s = s} {i = i} e f) t =
          let o = chosen_in S l n (view S l i) a e in
          let g = grown 64 s (and_l (grows 64 s) (tails s) t) in
          elim (begun f (tails_one n o)) [
            | inl k ↦ inl k
            | inr k ↦ inr (record { part = node n a k.part g.part; reads = λ c. reads_phrase o (k.reads (onto g.part c)) (g.reads d c); upto = λ c. k.upto (onto g.part c); looks = λ c. k.looks (onto g.part c) })
          ]
      begun (stops_after {d = d} {n = n} {a = a} {s = s} {i = i} {p = p} e u f) t =
          let o = chosen_in S l n (view S l i) a e in
          elim (join u (begun f (and_r (grows 64 s) (tails s) t)) (grown 64 s (and_l (grows 64 s) (tails s) t))) [
            | inl k ↦ inl k
            | inr k ↦ inr (record { part = node n a p k.part; reads = λ c. reads_phrase o (graft (sound S l u) (firm_one n o) (onto k.part c)) (k.reads c); upto = k.upto; looks = k.looks })
          ]
      begun (stops_barred h) t = inl refl
      begun (stops_unless {w = w} h f) t = elim (begun f t) [
        | inl e ↦ inl e
        | inr b ↦ inr (record { part = b.part; reads = λ c. reads_unless (subst (λ (x : ℕ). T (not (one_of x w))) (b.looks c) h) (b.reads c); upto = b.upto; looks = b.looks })
      ]
      begun (stops_note {k = j} f) t = elim (begun f t) [
        | inl e ↦ inl e
        | inr b ↦ inr (record { part = mark j b.part; reads = λ c. reads_note (b.reads c); upto = b.upto; looks = b.looks })
      ]
      begun (stops_side_none e) t = inl refl
      begun (stops_torn h) t = inl refl
      begun (stops_ill e h) t = inl refl
      begun (stops_text {i = i} e h f) t = untorn (S.piece i) (silent i) e
      begun (stops_side_in {d = d} {n = n} {n₁ = n₁} {a = a} {s = s} {i = i} e f) t =
          let o = chosen_in S l n (view S l i) a e in
          elim (begun f (tails_one n o)) [
            | inl k ↦ inl k
            | inr k ↦
                (let g = forked n n₁ s t (l.is_path k.part) in
                inr (record { part = node n a k.part g.part; reads = λ c. reads_side o (k.reads (onto g.part c)) tt (g.reads d c); upto = λ c. k.upto (onto g.part c); looks = λ c. k.looks (onto g.part c) }))
          ]
      begun (stops_left {d = d} {n = n} {n₁ = n₁} {a = a} {s = s} {i = i} {p = p} e u h) t =
          let o = chosen_in S l n (view S l i) a e in
          elim (join {d = d} u (inl refl) (forked n n₁ s t (l.is_path p))) [
            | inl k ↦ inl k
            | inr k ↦ inr (record { part = node n a p k.part; reads = λ c. reads_side o (graft (sound S l u) (firm_one n o) (onto k.part c)) tt (k.reads c); upto = k.upto; looks = k.looks })
          ]
      begun (stops_side_after {d = d} {n = n} {n₁ = n₁} {a = a} {s = s} {i = i} {p = p} e u h f) t =
          let o = chosen_in S l n (view S l i) a e in
          elim (join u (begun f (tails_on (l.is_path p) n n₁ s t)) (forked n n₁ s t (l.is_path p))) [
            | inl k ↦ inl k
            | inr k ↦ inr (record { part = node n a p k.part; reads = λ c. reads_side o (graft (sound S l u) (firm_one n o) (onto k.part c)) tt (k.reads c); upto = k.upto; looks = k.looks })
          ]

      -- what stands before a refused token begins a text
      pub viable : {d : Counts} {s : List Symbol} {i z : S.Place} {y : Why} → T (tails s) → T (grows 64 s) → Stops S l d s i z y → (ts : List Token) × (p : Parts) × Before S z i ts × Free d s ts [] p
      viable {d = d} {s = s} {i = i} {z = z} t g f = elim (begun f t) [
        | inl e ↦ (let k = grown 64 s g in (onto k.part [], k.part, subst (λ (w : S.Place). Before S z w (onto k.part [])) e before_here, k.reads d []))
        | inr b ↦ (onto b.part [], b.part, b.upto [], b.reads [])
      ]
