-- A declaration ends with a token `}` or `;`, whatever stands behind it.
use mathlib.Core.Path.{◌≡◌, refl, sym, subst}
use mathlib.Core.List.{List, [], ◌∷◌}
use mathlib.Core.Bool.{Bool, true, false, not, ◌&&◌, ◌||◌, cond}
use mathlib.Core.Logic.{inl, inr}
use Prim.Native.Nat.{ℕ}
use lib.Dec.{T, eqb, eqb→eq}
use Rattle.grammar.specs.Words.{close_brace, semicolon}
use Rattle.grammar.specs.Grammar.{Ask, same, Symbol, token, phrase, unless, note, left_side, text, Rule, Token, found, Stream, Parts, Language, one_of, alternatives, In}
use Rattle.grammar.specs.Limits.{Counts}
use Rattle.grammar.specs.Kinds.{DECLARATION, BLOCK, IMPORT}
use Rattle.grammar.specs.Choice.{hollow}
use Rattle.grammar.specs.Language.{roto}
use Rattle.grammar.specs.Readings.{reads_end, reads_token, reads_phrase, reads_unless, reads_note, reads_side, reads_text, ReadingBy}
use Rattle.grammar.proofs.Bools.{and_l, and_r, or_cases, implied}
use Rattle.grammar.proofs.Pass.{each_passes, passes_at}

abbrev pub closers : List ℕ
closers = close_brace ∷ semicolon ∷ []

abbrev all_close : List ℕ → Bool
all_close [] = true
all_close (c ∷ w) = one_of c closers && all_close w

closes_one : (c : ℕ) (w : List ℕ) → T (one_of c w) → T (all_close w) → T (one_of c closers)
closes_one c [] h k = absurd h
closes_one c (x ∷ w) h k = elim (or_cases (eqb c x) (one_of c w) h) [
  | inl e ↦ subst (λ (y : ℕ). T (one_of y closers)) (sym (eqb→eq c x e)) (and_l (one_of x closers) (all_close w) k)
  | inr e ↦ closes_one c w e (and_r (one_of x closers) (all_close w) k)
]

-- a list of symbols that ends so, by the kinds that do
abbrev ending_kinds : List ℕ
ending_kinds = DECLARATION ∷ BLOCK ∷ IMPORT ∷ []

abbrev pub shut : List Symbol → Bool
shut [] = false
shut (token g w ∷ s) = cond (hollow s) (all_close w) (shut s)
shut (phrase o n ∷ s) = cond (hollow s) (one_of n ending_kinds) (shut s)
shut (unless w ∷ s) = shut s
shut (note k ∷ s) = shut s
shut (left_side n n₁ ∷ s) = not (hollow s) && shut s
shut (text n ∷ s) = not (hollow s) && shut s

abbrev pub all_shut : List Rule → Bool
all_shut = each_passes (λ n a. not (one_of n ending_kinds) || shut a)

pub roto_shut : (b : Bool) → T (all_shut (roto b).rules)
unfolding roto
roto_shut true = tt
roto_shut false = tt

module _ (l : Language) (shutting : T (all_shut l.rules)) (S : Stream) where
  one_shut : {a : List Symbol} (n : ℕ) → T (one_of n ending_kinds) → In a (alternatives l n) → T (shut a)
  one_shut {a} n h o = implied (one_of n ending_kinds) (shut a) (passes_at (λ m b. not (one_of m ending_kinds) || shut b) l.rules n shutting o) h

  -- what takes no token ends where it begins
  hollow_stays : {G : Ask → Counts → Token → Bool} {d : Counts} {s : List Symbol} {i r : S.Place} {p : Parts} → ReadingBy S l G d s i r p → T (hollow s) → i ≡ r
  hollow_stays reads_end h = refl
  hollow_stays (reads_token e m k t) h = absurd h
  hollow_stays (reads_phrase o t u) h = absurd h
  hollow_stays (reads_unless m t) h = absurd h
  hollow_stays (reads_note t) h = hollow_stays t h
  hollow_stays (reads_side o t m u) h = absurd h
  hollow_stays (reads_text e k t) h = absurd h

  pub record Sign (r : S.Place) : Type 0 where
    pub place : S.Place
    pub sign : Token
    pub seen : S.look place ≡ found sign r
    pub closes : T (one_of sign.word closers)

  shut_on : (b : Bool) (n : ℕ) (s : List Symbol) → T (not (hollow s) && shut s) → T (shut (cond b (phrase same n ∷ s) s))
  shut_on false n s h = and_r (not (hollow s)) (shut s) h
  shut_on true n s h = by (hollow s) h
    where
      by : (c : Bool) → T (not c && shut s) → T (cond c (one_of n ending_kinds) (shut s))
      by true k = absurd k
      by false k = k

  pub last_sign : {G : Ask → Counts → Token → Bool} {d : Counts} {s : List Symbol} {i r : S.Place} {p : Parts} → ReadingBy S l G d s i r p → T (shut s) → Sign r
  last_sign reads_end h = absurd h
  last_sign (reads_token {w = w} {s = s} {x = x} {i = i} {j = j} {r = r} e m k t) h = by (hollow s) refl h (λ g. last_sign t g)
    where
      by : (c : Bool) → hollow s ≡ c → T (cond c (all_close w) (shut s)) → (T (shut s) → Sign r) → Sign r
      by true q h ih = subst Sign (hollow_stays t (subst T (sym q) tt)) (record { place = i; sign = x; seen = e; closes = closes_one x.word w m h })
      by false q h ih = ih h
  last_sign (reads_phrase {n = n} {a = a} {s = s} {m = m} {r = r} o t u) h = by (hollow s) refl h (λ g. last_sign t g) (λ g. last_sign u g)
    where
      by : (c : Bool) → hollow s ≡ c → T (cond c (one_of n ending_kinds) (shut s)) → (T (shut a) → Sign m) → (T (shut s) → Sign r) → Sign r
      by true q h in-it behind_it = subst Sign (hollow_stays u (subst T (sym q) tt)) (in-it (one_shut n h o))
      by false q h in-it behind_it = behind_it h
  last_sign (reads_unless m t) h = last_sign t h
  last_sign (reads_note t) h = last_sign t h
  last_sign (reads_side {n₁ = n₁} {s = s} {p = p} o t m u) h = last_sign u (shut_on (l.is_path p) n₁ s h)
  last_sign (reads_text {n = n} {s = s} {x = x} e k t) h = last_sign t (shut_on (eqb x.word l.hole) n s h)
