-- The table passes the tests of the theory, with tests and without: all by computation.
use mathlib.Core.List.{List, [], ◌∷◌}
use mathlib.Core.Bool.{Bool, true, false, not, ◌&&◌}
use Prim.Native.Nat.{ℕ}
use lib.Dec.{T}
use Rattle.grammar.specs.Words.{the_end, f_quote}
use Rattle.grammar.specs.Kinds.{HOLE}
use Rattle.grammar.specs.Grammar.{Rule, one_of}
use Rattle.grammar.specs.Choice.{see}
use Rattle.grammar.specs.Language.{roto, start}
use Rattle.grammar.proofs.Good.{closed, all_good, all_full}
use Rattle.grammar.proofs.Count.{all_light}
use Rattle.grammar.proofs.Decided.{all_grounded}
use Rattle.grammar.proofs.Barred.{all_steady, eats}
use Rattle.grammar.proofs.Viable.{all_live, grows, tails}
use Rattle.grammar.proofs.Quiet.{tame, all_tame}

-- no two rules are of one kind
abbrev kinds : List Rule → List ℕ
kinds [] = []
kinds (r ∷ rs) = r.kind ∷ kinds rs

abbrev distinct : List ℕ → Bool
distinct [] = true
distinct (k ∷ ks) = not (one_of k ks) && distinct ks

pub kinds_apart : (b : Bool) → T (distinct (kinds (roto b).rules))
unfolding roto
kinds_apart true = tt
kinds_apart false = tt

pub roto_good : (b : Bool) → T (all_good (roto b) (roto b).rules)
unfolding roto
roto_good true = tt
roto_good false = tt

-- nothing but the end stands behind a tree, or a whole expression
pub goal_closed : (b c : Bool) → T (closed (roto b) (start c) (see (roto b) the_end 0 ∷ []))
unfolding roto
goal_closed true true = tt
goal_closed true false = tt
goal_closed false true = tt
goal_closed false false = tt

-- rows by tokens
pub roto_light : (b : Bool) → T (all_light (roto b) (roto b).rules)
unfolding roto
roto_light true = tt
roto_light false = tt

-- for C-24: two tokens decide only where the first is taken all the same; and each kind has a text
pub roto_steady : (b : Bool) → T (all_steady (roto b) (roto b).rules)
unfolding roto eats
roto_steady true = tt
roto_steady false = tt

pub roto_live : (b : Bool) → T (all_live (roto b) (roto b).rules)
unfolding roto grows
roto_live true = tt
roto_live false = tt

pub goal_tails : (b c : Bool) → T (tails (roto b) (start c))
unfolding roto grows
goal_tails true true = tt
goal_tails true false = tt
goal_tails false true = tt
goal_tails false false = tt

pub goal_grows : (b c : Bool) → T (grows (roto b) 64 (start c))
unfolding roto grows
goal_grows true true = tt
goal_grows true false = tt
goal_grows false true = tt
goal_grows false false = tt

-- text stands behind `f"` alone
pub roto_tame : (b : Bool) → T (all_tame f_quote (HOLE ∷ []) (roto b).rules)
unfolding roto
roto_tame true = tt
roto_tame false = tt

pub goal_tame : (c : Bool) → T (tame f_quote (HOLE ∷ []) (start c))
goal_tame true = tt
goal_tame false = tt

-- no kind begins with itself
pub roto_grounded : (b : Bool) → T (all_grounded (roto b) (roto b).rules)
unfolding roto
roto_grounded true = tt
roto_grounded false = tt

pub roto_full : (b : Bool) → T (all_full (roto b) (roto b).rules)
unfolding roto
roto_full true = tt
roto_full false = tt
