-- What an expr is read as at each level, and that it serves at each looser one; in a pair it serves at every level.
use mathlib.Core.Path.{◌∙◌, ◌≡◌, ap, refl, subst, sym}
use mathlib.Core.List.{List, [], ◌∷◌}
use mathlib.Core.Bool.{Bool, cond, false, true}
use Prim.Native.Nat.{ℕ, zero, suc, ◌≤◌}
use native.Mathlib.Omega.{arith}
use lib.Dec.{T, eqb, eqb→eq}
use borrow.Author.Tests.{eqb-false}
use Rattle.grammar.specs.Words.{close_paren, open_paren}
use Rattle.grammar.specs.Grammar.{Parts, Token, end, here, leaf, node, phrase, same}
use Rattle.grammar.specs.Kinds.{AFTER_PATH, AND, AND_MORE, ASSIGNED, BINARY, COMPARE, EXPR, OPERAND, OR_MORE, PARENS, POSTFIX, PRODUCT, PRODUCT_MORE, SUM, SUM_MORE, records}
use Rattle.grammar.specs.Readings.{reads_end, reads_phrase, reads_side, reads_token}
use Rattle.grammar.specs.Language.{roto}
use Rattle.printing.specs.Groves.{Grove, State, fresh, grow, pairs, token_of}
use Rattle.printing.proofs.Lists.{Read, Rest, Whole, chain, grow_phrase, grow_rest, in_chain_and, in_chain_compare, in_chain_or, in_chain_product, in_chain_sum, in_no_after, in_no_and, in_no_assigned, in_no_compare, in_no_or, in_no_postfix, in_no_product, in_no_sum, in_pair, in_side, l, more_and_more, more_assigned, more_compare_more, more_or_more, more_postfix, more_product_more, more_sum_more, none, own_and, own_binary, own_compare, own_operand, own_product, own_sum}

-- The tokens `f y` are a phrase of the level, with y behind: what follows of a chain is handed in.
abbrev pub Level : ℕ → Bool → (List Token → List Token) → Grove → Type 0
Level zero r f g = (y : List Token) → Whole (EXPR r) (f y) y g
Level (suc zero) r f g = (y z : List Token) (g' : Grove) → Rest (OR_MORE r) y z g g' → Whole (BINARY r) (f y) z g'
Level (suc (suc zero)) r f g = (y z : List Token) (g' : Grove) → Rest (AND_MORE r) y z g g' → Whole (AND r) (f y) z g'
Level (suc (suc (suc zero))) r f g = (y : List Token) → Whole (COMPARE r) (f y) y g
Level (suc (suc (suc (suc zero)))) r f g = (y z : List Token) (g' : Grove) → Rest (SUM_MORE r) y z g g' → Whole (SUM r) (f y) z g'
Level (suc (suc (suc (suc (suc zero))))) r f g = (y z : List Token) (g' : Grove) → Rest (PRODUCT_MORE r) y z g g' → Whole (PRODUCT r) (f y) z g'
Level (suc (suc (suc (suc (suc (suc zero)))))) r f g = (y : List Token) → Whole (OPERAND r) (f y) y g
Level (suc (suc (suc (suc (suc (suc (suc zero))))))) r f g = (y z : List Token) (g' : Grove) → Rest (POSTFIX r) y z g g' → Rest (AFTER_PATH r) y z g g' → Whole (OPERAND r) (f y) z g'
Level (suc (suc (suc (suc (suc (suc (suc (suc n)))))))) r f g = (y z : List Token) (g' : Grove) → Rest (POSTFIX r) y z g g' → Whole (OPERAND r) (f y) z g'

-- behind an expr's first phrase nothing is assigned, whether it is a path or not
pub unassigned : (r b : Bool) (c : List Token) → (q : Parts) × Read (cond b (phrase same (ASSIGNED r) ∷ []) []) c c q × ((a : State) → grow q a ≡ a)
unfolding grow
unassigned r true c = (node (ASSIGNED r) [] end end, λ d. reads_phrase (in_no_assigned r) reads_end reads_end, λ a. grow_rest (ASSIGNED r) [] end end a (more_assigned r))
unassigned r false c = (end, λ d. reads_end, λ a. refl)

pub expr_one : {c z : List Token} {g : Grove} (r : Bool) → Whole (BINARY r) c z g → Whole (EXPR r) c z g
expr_one {z = z} r u =
    let k = unassigned r (l.is_path u.parts) z in
    record {
      alt = _;
      takes = in_side r;
      parts = node (BINARY r) u.alt u.parts k.0;
      reads = λ d. reads_side u.takes (u.reads d) tt (k.1 d);
      leaves = ap (λ (a : State). a.kids) (grow_phrase (BINARY r) u.alt u.parts k.0 fresh (own_binary r) ∙ k.2 _) ∙ u.leaves;
    }

pub climb_one : (k : ℕ) (r : Bool) (f : List Token → List Token) (g : Grove) → Level (suc k) r f g → Level k r f g
climb_one zero r f g u = λ y. expr_one r (u y y _ (none (in_no_or r)))
climb_one (suc zero) r f g u = λ y z g' v. chain (in_chain_or r) (own_and r) (more_or_more r) (u y y _ (none (in_no_and r))) v
climb_one (suc (suc zero)) r f g u = λ y z g' v. chain (in_chain_and r) (own_compare r) (more_and_more r) (u y) v
climb_one (suc (suc (suc zero))) r f g u = λ y. chain (in_chain_compare r) (own_sum r) (more_compare_more r) (u y y _ (none (in_no_sum r))) (none (in_no_compare r))
climb_one (suc (suc (suc (suc zero)))) r f g u = λ y z g' v. chain (in_chain_sum r) (own_product r) (more_sum_more r) (u y y _ (none (in_no_product r))) v
climb_one (suc (suc (suc (suc (suc zero))))) r f g u = λ y z g' v. chain (in_chain_product r) (own_operand r) (more_product_more r) (u y) v
climb_one (suc (suc (suc (suc (suc (suc zero)))))) r f g u = λ y. u y y _ (none (in_no_postfix r)) (none (in_no_after r))
climb_one (suc (suc (suc (suc (suc (suc (suc zero))))))) r f g u = λ y z g' v w. u y z g' v
climb_one (suc (suc (suc (suc (suc (suc (suc (suc n)))))))) r f g u = u

pub climb : (n k : ℕ) (r : Bool) (f : List Token → List Token) (g : Grove) → k ≤ n → Level n r f g → Level k r f g
climb zero k r f g h u = let e : 0 ≡ k = omega arith in subst (λ (i : ℕ). Level i r f g) e u
climb (suc n) k r f g h u = go (eqb k (suc n)) refl (λ i. climb n k r f g i (climb_one n r f g u))
  where
    below : (k ≡ suc n → ⊥) → k ≤ n
    below ne = omega (arith, h, ne)

    go : (b : Bool) → eqb k (suc n) ≡ b → (k ≤ n → Level k r f g) → Level k r f g
    go true e v = subst (λ (i : ℕ). Level i r f g) (sym (eqb→eq k (suc n) (subst T (sym e) tt))) u
    go false e v = v (below (eqb-false k (suc n) e))

-- a pair round an expr
pub parens : {c z : List Token} {g : Grove} → Whole (EXPR records) c (token_of close_paren ∷ z) g → Whole PARENS (token_of open_paren ∷ c) z g
unfolding roto grow
parens u = record {
  alt = _;
  takes = here;
  parts = leaf (token_of open_paren) (node (EXPR records) u.alt u.parts (leaf (token_of close_paren) end));
  reads = λ d. reads_token refl tt tt (reads_phrase u.takes (u.reads _) (reads_token refl tt tt reads_end));
  leaves = u.leaves;
}

pub pair : (r : Bool) (f : List Token → List Token) (g : Grove) → Level 0 records f g → Level 8 r (λ y. token_of open_paren ∷ f (token_of close_paren ∷ y)) g
pair r f g u y z g' v = chain (in_pair r) refl (more_postfix r) (parens (u (token_of close_paren ∷ y))) v

pub in_more_pairs : (n : ℕ) (r : Bool) (f : List Token → List Token) (g : Grove) → Level 0 records f g → Level 8 r (pairs (suc n) f) g
in_more_pairs zero r f g u = pair r f g u
in_more_pairs (suc n) r f g u = pair r (pairs (suc n) f) g (climb 8 0 records (pairs (suc n) f) g (omega arith) (in_more_pairs n records f g u))
