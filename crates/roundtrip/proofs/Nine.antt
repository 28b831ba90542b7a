-- What is read with limits set aside is refused for a limit alone.
use Rattle.std.specs.Prelude.{Ok, Err}
use mathlib.Core.Path.{◌≡◌, refl, sym, ◌∙◌, ap, subst}
use mathlib.Core.List.{List, ◌∷◌}
use mathlib.Core.Bool.{Bool, true, not, cond}
use mathlib.Core.Logic.{◌⊎◌, inl, inr}
use Prim.Native.Nat.{ℕ, ◌≤◌}
use native.Mathlib.Omega.{arith}
use lib.Dec.{T, eqb, T_not}
use lib.ListN.{length}
use Rattle.chars.specs.declared.Answer.{Answer}
use Rattle.tokens.specs.Tokens.{whole_of}
use Rattle.grammar.specs.Grammar.{Ask, plain, has_value, opens_bracket, closes_bracket, is_prefix, is_head, is_else_if, same, Look, found, over, Stream, Symbol, phrase, Token, Parts, Language, one_of}
use Rattle.grammar.specs.Limits.{Counts, zeros, after, inside, kept}
use Rattle.grammar.specs.Readings.{peek, reads_end, reads_token, reads_phrase, reads_unless, reads_note, reads_side, reads_text}
use Rattle.grammar.specs.Runs.{may, Run, RunBy}
use Rattle.grammar.specs.Refusals.{Why, past, ask_number, said, Stops, stops_want, stops_past, stops_token, stops_none, stops_in, stops_after, stops_barred, stops_unless, stops_note, stops_side_none, stops_side_in, stops_left, stops_side_after, stops_torn, stops_ill, stops_text}
use Rattle.grammar.proofs.Refused.{untorn, clash, has}
use Rattle.grammar.specs.Language.{roto, start}
use Rattle.grammar.specs.Answers.{accepts, stops, leaves}
use Rattle.grammar.specs.Answers as grammar
use Rattle.grammar.proofs.Checks.{roto_good, goal_closed}
use Rattle.grammar.proofs.Core.{one_run, complete}
use Rattle.grammar.proofs.Demand.{last, at_end}
use Rattle.answers.specs.Source.{source}
use Rattle.answers.specs.Entries.{answer_for, Permitted, early, read}
use Rattle.answers.specs.Demands.{Reading}
use Rattle.roundtrip.specs.ReadsBack.{print_of, valued, Valued, ReadsBack}

module _ (S : Stream) (l : Language) where
  -- a token stands where it stops, and a limit is against it
  pub record Limited (z : S.Place) (y : Why) : Type 0 where
    pub token : Token
    pub behind : S.Place
    pub stands : S.look z ≡ found token behind
    pub ask : Ask
    pub for_it : y ≡ past ask
    pub nine : ask_number ask ≡ 9

  no_value : {A : Type 0} (d : Counts) (x : Token) → T (not (kept has_value d x)) → T (valued has_value d x) → A
  unfolding kept
  no_value d x n k = absurd (T_not x.holds n k)

  against : (g : Ask) (d : Counts) (x : Token) → T (not (kept g d x)) → T (valued g d x) → ask_number g ≡ 9
  against plain d x n k = refl
  against has_value d x n k = no_value d x n k
  against opens_bracket d x n k = refl
  against closes_bracket d x n k = refl
  against is_prefix d x n k = refl
  against is_head d x n k = refl
  against is_else_if d x n k = refl

  peek_same : {m m' : S.Place} {p p' : Parts} → m ≡ m' → p ≡ p' → may S l (l.is_path p) (peek S l m) ≡ may S l (l.is_path p') (peek S l m')
  peek_same {m} {m'} {p} {p'} e f = ap (λ (x : S.Place). may S l (l.is_path p) (peek S l x)) e ∙ ap (λ (x : Parts). may S l (l.is_path x) (peek S l m')) f

  pub limited : {d : Counts} {s : List Symbol} {i r z : S.Place} {p : Parts} {y : Why} → RunBy S l valued d s i r p → Stops S l d s i z y → Limited z y
  limited reads_end f = elim f [ ]
  limited (reads_token {w = w} {i = i} e h k t) (stops_want g) = has S l (S.look i) w g e h
  limited (reads_token {d = d} {g = g} {x = x} e h k t) (stops_past {x = x'} {j = j'} e' h' n) =
      let ex : x ≡ x' = cc in
      record { token = x'; behind = j'; stands = e'; ask = g; for_it = refl; nine = against g d x' n (subst (λ (y : Token). T (valued g d y)) ex k) }
  limited (reads_token {d = d} {g = g} {s = s} {x = x} {j = j} e h k t) (stops_token {x = x'} {j = j'} {z = z} {y = y} e' h' k' u) = let ej : j ≡ j' = cc in limited t (subst (λ (q : S.Place). Stops S l (after g d) s q z y) (sym ej) u)
  limited (reads_text {i = i} e k t) (stops_torn h) = untorn (S.piece i) h e
  limited (reads_text {d = d} {x = x} e k t) (stops_ill {x = x'} e' n) = let ex : x ≡ x' = cc in no_value d x' n (subst (λ (y : Token). T (valued has_value d y)) ex k)
  limited (reads_text {d = d} {n = n} {s = s} {x = x} {j = j} e k t) (stops_text {x = x'} {j = j'} {z = z} {y = y} e' k' u) =
      let ex : x ≡ x' = cc in
      let ej : j ≡ j' = cc in
      limited t (subst (λ (q : S.Place). Stops S l (after has_value d) (cond (eqb x.word l.hole) (phrase same n ∷ s) s) q z y) (sym ej) (subst (λ (q : Token). Stops S l (after has_value d) (cond (eqb q.word l.hole) (phrase same n ∷ s) s) j' z y) (sym ex) u))
  limited (reads_phrase c t u) (stops_none e) = clash S l e c
  limited (reads_phrase {d = d} {o = o} {a = a} {i = i} c t u) (stops_in {a = a'} {z = z} {y = y} e f) =
      let ea : a' ≡ a = cc in limited t (subst (λ (x : List Symbol). Stops S l (inside o d) x i z y) ea f)
  limited (reads_phrase {d = d} {o = o} {a = a} {s = s} {i = i} {m = m} c t u) (stops_after {a = a'} {m = m'} {z = z} {p = p'} {y = y} e t' f) =
      let ea : a' ≡ a = cc in
      let k = one_run S l t (subst (λ (x : List Symbol). Run S l (inside o d) x i m' p') ea t') in
      limited u (subst (λ (x : S.Place). Stops S l d s x z y) (sym k.0) f)
  limited (reads_unless {w = w} {i = i} h t) (stops_barred g) = absurd (T_not (one_of (peek S l i) w) h g)
  limited (reads_unless h t) (stops_unless g u) = limited t u
  limited (reads_note t) (stops_note u) = limited t u
  limited (reads_side c t h u) (stops_side_none e) = clash S l e c
  limited (reads_side {d = d} {a = a} {i = i} c t h u) (stops_side_in {a = a'} {z = z} {y = y} e f) =
      let ea : a' ≡ a = cc in limited t (subst (λ (x : List Symbol). Stops S l d x i z y) ea f)
  limited (reads_side {d = d} {a = a} {i = i} {m = m} {p = p} c t h u) (stops_left {a = a'} {m = m'} {p = p'} e t' g) =
      let ea : a' ≡ a = cc in
      let k = one_run S l t (subst (λ (x : List Symbol). Run S l d x i m' p') ea t') in
      absurd (T_not (may S l (l.is_path p') (peek S l m')) g (subst T (peek_same k.0 k.1) h))
  limited (reads_side {d = d} {n = n} {n₁ = n₁} {a = a} {s = s} {i = i} {m = m} {p = p} c t h u) (stops_side_after {a = a'} {m = m'} {z = z} {p = p'} {y = y} e t' h' f) =
      let ea : a' ≡ a = cc in
      let k = one_run S l t (subst (λ (x : List Symbol). Run S l d x i m' p') ea t') in
      let en : l.is_path p' ≡ l.is_path p = cc k.1 in
      limited u (subst (λ (x : S.Place). Stops S l d (cond (l.is_path p) (phrase same n₁ ∷ s) s) x z y) (sym k.0) (subst (λ (x : Bool). Stops S l d (cond x (phrase same n₁ ∷ s) s) m' z y) en f))

-- the number of what stops there
stop_number : {P : Type 0} (len : ℕ) (k : Look P) {x : Token} {j : P} {y : Why} {g : Ask} → k ≡ found x j → y ≡ past g → ask_number g ≡ 9 → (said len k y).number ≡ 9
stop_number len k {x} {j} {y} {g} e f n = ap (λ (o : Look _). (said len o y).number) e ∙ ap (λ (o : Why). (said len (found x j) o).number) f ∙ n

-- A text of which literals hold, whatever limit it passes, is accepted, or refused with 9.
valued_runs : (w : List ℕ) {p : Parts} (v : Valued w p) → RunBy (source w) (roto true) valued zeros (start true) 0 v.stop p
valued_runs w v = (complete (source w) (roto true) (roto_good true) v.reads (last (roto true)) (goal_closed true true) (at_end (source w) (roto true) v.stop v.whole)).0

answered : (w : List ℕ) (size : ℕ) {p : Parts} {g : grammar.Answer} → Valued w p → grammar.Answers (source w) true true (length w) 0 g → ((q : Parts) × Reading true true w q) ⊎ ((answer_for (length w) size g).number ≡ 9)
answered w size v (accepts {p = q} t) = inl (q, t)
answered w size v (stops {z = z} u) =
    let k = limited (source w) (roto true) (valued_runs w v) u in
    inr (stop_number (length w) ((source w).look z) k.stands k.for_it k.nine)
answered w size v (leaves {r = r} u f) =
    let k = one_run (source w) (roto true) u (valued_runs w v) in
    absurd (f (ap (source w).look k.0 ∙ v.whole))

-- So a print that isn't too long.
pub print_judged : (s : List ℕ) (p : Parts) (size : ℕ) {x : Answer} {t : List ℕ} → ReadsBack s p → whole_of s ≡ (Ok tt) → length (print_of s p) ≤ 65535 → Permitted true true (print_of s p) size x t → ((q : Parts) × Reading true true (print_of s p) q) ⊎ (x.number ≡ 9)
print_judged s p size b f n (early e) = let z : Err _ ≡ (Ok tt) = sym e ∙ b.fine f n in let o : ◌≡◌ {A = ℕ} 0 1 = cc in absurd (omega arith)
print_judged s p size b f n (read e u) = answered (print_of s p) size b.literals_hold u
