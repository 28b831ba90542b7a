-- The predictive reader as one function, for computing: a run, a refusal, or no fuel left.
use Rattle.std.specs.Prelude.{List, [], ◌∷◌, Bool, true, false, not, cond, ℕ, suc, zero, eqb}
use Rattle.std.proofs.Math.Option.{Option, none, some}
use Rattle.grammar.specs.Grammar.{has_value, same, Look, found, over, wrong, Stream, Symbol, token, phrase, unless, note, left_side, text, Token, Parts, end, leaf, node, mark, Language, one_of}
use Rattle.grammar.specs.Limits.{Counts, zeros, after, inside, kept}
use Rattle.grammar.specs.Choice.{chosen}
use Rattle.grammar.specs.Readings.{peek}
use Rattle.grammar.specs.Runs.{view, may}
use Rattle.grammar.specs.Refusals.{Why, want, amiss, past, barred, left, unread, ill, said}
use Rattle.grammar.specs.Rows.{rows}
use Rattle.grammar.specs.Language.{roto, start}
use Rattle.grammar.specs.Answers.{Answer, accepted, refused}

pub data Out (P : Type 0) : Type 0 where
  done : Parts → P → Out P
  fail : P → Why → Out P
  spent : Out P

module _ (S : Stream) where
  abbrev O : Type 0
  O = Out S.Place

  abbrev pub and_then : O → (Parts → S.Place → O) → O
  and_then (done p r) f = f p r
  and_then (fail z y) f = fail z y
  and_then spent f = spent

  abbrev pub picked : Option (List Symbol) → O → (List Symbol → O) → O
  picked none x f = x
  picked (some a) x f = f a

  abbrev pub asked : Bool → (Unit {0} → O) → O → O
  asked true f x = f tt
  asked false f x = x

  abbrev pub taken : Look S.Place → O → (Token → S.Place → O) → O
  taken (found x j) o f = f x j
  taken over o f = o
  taken (wrong n a b) o f = o

  module _ (l : Language) where
    unfoldable pub run : ℕ → Counts → List Symbol → S.Place → Out S.Place
    run zero d s i = spent
    run (suc k) d [] i = done end i
    run (suc k) d (token g w ∷ s) i =
        taken (S.look i) (fail i (want w)) λ x j.
        asked (one_of x.word w) (λ u. asked (kept g d x) (λ v. and_then (run k (after g d) s j) (λ p r. done (leaf x p) r)) (fail i (past g))) (fail i (want w))
    run (suc k) d (phrase o n ∷ s) i =
        picked (chosen l n (view S l i)) (fail i (amiss n)) λ a.
        and_then (run k (inside o d) a i) λ p m. and_then (run k d s m) λ q r. done (node n a p q) r
    run (suc k) d (unless w ∷ s) i = asked (not (one_of (peek S l i) w)) (λ u. run k d s i) (fail i barred)
    run (suc k) d (note j ∷ s) i = and_then (run k d s i) λ p r. done (mark j p) r
    run (suc k) d (left_side n n₁ ∷ s) i =
        picked (chosen l n (view S l i)) (fail i (amiss n)) λ a.
        and_then (run k d a i) λ p m.
        asked (may S l (l.is_path p) (peek S l m)) (λ u. and_then (run k d (cond (l.is_path p) (phrase same n₁ ∷ s) s) m) λ q r. done (node n a p q) r) (fail m (left p))
    run (suc k) d (text n ∷ s) i =
        taken (S.piece i) (fail i unread) λ x j.
        asked (kept has_value d x) (λ v. and_then (run k (after has_value d) (cond (eqb x.word l.hole) (phrase same n ∷ s) s) j) (λ p r. done (leaf x p) r)) (fail i (ill x))

-- The answer to a source, if the fuel lasts.
module _ (S : Stream) (tests tree : Bool) (len : ℕ) where
  abbrev pub at_stop : Parts → S.Place → Look S.Place → Option Answer
  at_stop p r over = some (accepted (rows tree len p))
  at_stop p r (found x j) = some (refused (said len (S.look r) (want [])))
  at_stop p r (wrong n a b) = some (refused (said len (S.look r) (want [])))

  abbrev pub answer_of : Out S.Place → Option Answer
  answer_of (done p r) = at_stop p r (S.look r)
  answer_of (fail z y) = some (refused (said len (S.look z) y))
  answer_of spent = none

  unfoldable pub answer : ℕ → S.Place → Option Answer
  answer fuel i = answer_of (run S (roto tests) fuel zeros (start tree) i)
