-- C-24, of refusals 7 and 9: what stands before the refused token, with that token, begins some text of the grammar.
use mathlib.Core.Path.{◌≡◌, refl, ap, subst}
use mathlib.Core.List.{List}
use mathlib.Core.Bool.{Bool, true, false, not}
use Prim.Native.Nat.{ℕ}
use lib.Dec.{T}
use Rattle.grammar.specs.Words.{text_then_hole}
use Rattle.grammar.specs.Grammar.{Stream, Symbol, Token, found, Parts, leaf, node, mark, Language, one_of}
use Rattle.grammar.specs.Limits.{Counts, after, kept}
use Rattle.grammar.specs.Readings.{word_of_lem, peek, reads_token, reads_phrase, reads_unless, reads_note, reads_side}
use Rattle.grammar.specs.Runs.{view}
use Rattle.grammar.specs.Refusals.{Why, want, amiss, past, barred, left, unread, ill, torn, Stops, stops_want, stops_past, stops_token, stops_none, stops_in, stops_after, stops_barred, stops_unless, stops_note, stops_side_none, stops_side_in, stops_left, stops_side_after, stops_torn, stops_ill, stops_text}
use Rattle.grammar.specs.Culprit.{lists, With, with_here, with_there}
use Rattle.grammar.proofs.Bools.{and_l, and_r}
use Rattle.grammar.proofs.Good.{all_full}
use Rattle.grammar.proofs.Core.{sound, chosen_in}
use Rattle.grammar.proofs.Refused.{untorn}
use Rattle.grammar.proofs.Viable.{Free, grows, tails, all_live, onto, upto_by, grown, firm_one, tails_one, graft, forked, tails_on}

-- a token, or a piece of text, fails its test
abbrev pub tested : Why → Bool
tested (want w) = false
tested (amiss n) = false
tested (past g) = true
tested barred = false
tested (left p) = false
tested unread = false
tested (ill x) = true

abbrev pub is_past : Why → Bool
is_past (want w) = false
is_past (amiss n) = false
is_past (past g) = true
is_past barred = false
is_past (left p) = false
is_past unread = false
is_past (ill x) = false

abbrev pub Fails : Why → Token → Type 0
Fails (want w) x = Unit {0}
Fails (amiss n) x = Unit {0}
Fails (past g) x = (d : Counts) × T (not (kept g d x))
Fails barred x = Unit {0}
Fails (left p) x = Unit {0}
Fails unread x = Unit {0}
Fails (ill y) x = Unit {0}

module _ (l : Language) (live : T (all_live l l.rules)) (filling : T (all_full l l.rules)) (marked : l.hole ≡ text_then_hole) (S : Stream) (silent : (i : S.Place) → T (torn (S.piece i))) where
  with_peek : {i z : S.Place} {ts : List Token} → With S z i ts → peek S l i ≡ peek lists l ts
  with_peek (with_here e) = ap (word_of_lem S l) e
  with_peek (with_there e w) = ap (word_of_lem S l) e

  -- where text is never scanned, it is a token that fails
  pub record Taken (d : Counts) (s : List Symbol) (i z : S.Place) (y : Why) : Type 0 where
    pub part : Parts
    pub reads : (c : List Token) → Free l d s (onto part c) c part
    pub upto : (c : List Token) → With S z i (onto part c)
    pub why : T (is_past y)
    pub fails : (x : Token) (u : S.Place) → S.look z ≡ found x u → Fails y x

  pub taken : {d : Counts} {s : List Symbol} {i z : S.Place} {y : Why} → Stops S l d s i z y → T (tested y) → T (tails l s) → Taken d s i z y
  taken (stops_want h) b t = absurd b
  taken (stops_past {d = d} {g = g₀} {s = s} {x = x} {i = i} e m h) b t =
      let g = grown l live filling marked 64 s (and_l (grows l 64 s) (tails l s) t) in
      record { part = leaf x g.part; reads = λ c. reads_token refl m tt (g.reads (after g₀ d) c); upto = λ c. with_here e; why = tt; fails = λ v u f. let q : x ≡ v = cc in (d, subst (λ (w : Token). T (not (kept g₀ d w))) q h) }
  taken (stops_token {s = s} {x = x} e m h f) b t =
      let k = taken f b (and_r (grows l 64 s) (tails l s) t) in
      record { part = leaf x k.part; reads = λ c. reads_token refl m tt (k.reads c); upto = λ c. with_there e (k.upto c); why = k.why; fails = k.fails }
  taken (stops_none e) b t = absurd b
  taken (stops_in {d = d} {n = n} {a = a} {s = s} {i = i} e f) b t =
      let o = chosen_in S l n (view S l i) a e in
      let g = grown l live filling marked 64 s (and_l (grows l 64 s) (tails l s) t) in
      let k = taken f b (tails_one l live filling marked n o) in
      record { part = node n a k.part g.part; reads = λ c. reads_phrase o (k.reads (onto g.part c)) (g.reads d c); upto = λ c. k.upto (onto g.part c); why = k.why; fails = k.fails }
  taken {z = z} (stops_after {n = n} {a = a} {s = s} {i = i} {p = p} e u f) b t =
      let o = chosen_in S l n (view S l i) a e in
      let k = taken f b (and_r (grows l 64 s) (tails l s) t) in
      record { part = node n a p k.part; reads = λ c. reads_phrase o (graft l live filling marked S silent (sound S l u) (firm_one l live filling marked n o) (onto k.part c)) (k.reads c); upto = λ c. upto_by l S silent (With S z) (λ x i j ts e w. with_there e w) u (k.upto c); why = k.why; fails = k.fails }
  taken (stops_barred h) b t = absurd b
  taken (stops_unless {w = w} h f) b t =
      let k = taken f b t in
      record { part = k.part; reads = λ c. reads_unless (subst (λ (x : ℕ). T (not (one_of x w))) (with_peek (k.upto c)) h) (k.reads c); upto = k.upto; why = k.why; fails = k.fails }
  taken (stops_note {k = j} f) b t =
      let k = taken f b t in
      record { part = mark j k.part; reads = λ c. reads_note (k.reads c); upto = k.upto; why = k.why; fails = k.fails }
  taken (stops_side_none e) b t = absurd b
  taken (stops_torn h) b t = absurd b
  taken (stops_ill {i = i} e h) b t = untorn (S.piece i) (silent i) e
  taken (stops_text {i = i} e h f) b t = untorn (S.piece i) (silent i) e
  taken (stops_side_in {d = d} {n = n} {n₁ = n₁} {a = a} {s = s} {i = i} e f) b t =
      let o = chosen_in S l n (view S l i) a e in
      let k = taken f b (tails_one l live filling marked n o) in
      let g = forked l live filling marked S silent n n₁ s t (l.is_path k.part) in
      record { part = node n a k.part g.part; reads = λ c. reads_side o (k.reads (onto g.part c)) tt (g.reads d c); upto = λ c. k.upto (onto g.part c); why = k.why; fails = k.fails }
  taken (stops_left e u h) b t = absurd b
  taken {z = z} (stops_side_after {n = n} {n₁ = n₁} {a = a} {s = s} {i = i} {p = p} e u h f) b t =
      let o = chosen_in S l n (view S l i) a e in
      let k = taken f b (tails_on l live filling marked S silent (l.is_path p) n n₁ s t) in
      record { part = node n a p k.part; reads = λ c. reads_side o (graft l live filling marked S silent (sound S l u) (firm_one l live filling marked n o) (onto k.part c)) tt (k.reads c); upto = λ c. upto_by l S silent (With S z) (λ x i j ts e w. with_there e w) u (k.upto c); why = k.why; fails = k.fails }
