-- Every list of words before a child has at most three words, every list behind the last at most two.
use mathlib.Core.List.{List, [], ◌∷◌}
use mathlib.Core.Bool.{Bool, true, false, not, ◌&&◌, cond}
use Prim.Native.Nat.{ℕ, pred}
use lib.Dec.{T, eqb, ltb}
use Rattle.rows.specs.Kinds as kinds
use Rattle.grammar.specs.Words.{assign_signs, binary_signs, return_words, filter_words}
use Rattle.grammar.specs.Grammar.{one_of}
use Rattle.canon.specs.Layout as canon
use Rattle.layouts.specs.Phases.{in_phase, before_type, before_operand, before_part, before_item, before, end_of_type, end_of_operand, end_of_part, end_of_item, behind}
use Rattle.layouts.proofs.Packs.{within}
use Rattle.layouts.proofs.Steps.{chosen}

-- at most n words
record Fine (n : ℕ) (ws : List ℕ) : Type 0 where
  fits : T (within n ws)

leaf : {n : ℕ} {ws : List ℕ} → T (within n ws) → Fine n ws
leaf h = record { fits = h }

either : {n : ℕ} {x y : List ℕ} (b : Bool) → Fine n x → Fine n y → Fine n (cond b x y)
either {n} b h i = chosen (Fine n) b h i

phases : {n : ℕ} {a b c d : List ℕ} (p : ℕ) → Fine n a → Fine n b → Fine n c → Fine n d → Fine n (in_phase p a b c d)
phases p h i j l = either (eqb p 0) h (either (eqb p 1) i (either (eqb p 2) j l))

-- a sign by its number
All : ℕ → List ℕ → Type 0
All n [] = Fine n (0 ∷ [])
All n (w ∷ ws) = Fine n (w ∷ []) × All n ws

signed_in : (n : ℕ) (ws : List ℕ) → All n ws → (m : ℕ) → Fine n (canon.nth ws m ∷ [])
unfolding All
signed_in n [] h m = h
signed_in n (w ∷ ws) h m = go (eqb m 0) (signed_in n ws h.1 (pred m))
  where
    go : (b : Bool) → Fine n (canon.nth ws (pred m) ∷ []) → Fine n (cond b w (canon.nth ws (pred m)) ∷ [])
    go true i = h.0
    go false i = i

binary_three : All 3 binary_signs
unfolding All within
binary_three = (leaf tt, (leaf tt, (leaf tt, (leaf tt, (leaf tt, (leaf tt, (leaf tt, (leaf tt, (leaf tt, (leaf tt, (leaf tt, (leaf tt, (leaf tt, leaf tt)))))))))))))

assign_three : All 3 assign_signs
unfolding All within
assign_three = (leaf tt, (leaf tt, (leaf tt, (leaf tt, (leaf tt, (leaf tt, leaf tt))))))

return_three : All 3 return_words
unfolding All within
return_three = (leaf tt, (leaf tt, (leaf tt, leaf tt)))

filter_three : All 3 filter_words
unfolding All within
filter_three = (leaf tt, (leaf tt, leaf tt))

type_words : (k v p : ℕ) → Fine 3 (before_type k v p)
unfolding before_type within
type_words k v p =
    (either (eqb k kinds.PATH) (phases p (leaf tt) (leaf tt) (leaf tt) (leaf tt))
    (either (eqb k kinds.PATH_TYPE) (either (eqb v 0) (leaf tt) (phases p (leaf tt) (leaf tt) (leaf tt) (leaf tt)))
    (either (eqb k kinds.RECORD_TYPE) (phases p (leaf tt) (leaf tt) (leaf tt) (leaf tt))
    (either (eqb k kinds.TYPED_NAME) (phases p (leaf tt) (leaf tt) (leaf tt) (leaf tt))
    (leaf tt)))))

operand_words : (k d p : ℕ) → Fine 3 (before_operand k d p)
unfolding before_operand within
operand_words k d p =
    (either (eqb k kinds.BINARY) (phases p (leaf tt) (signed_in 3 binary_signs binary_three (pred d)) (leaf tt) (leaf tt))
    (either (eqb k kinds.NOT) (phases p (leaf tt) (leaf tt) (leaf tt) (leaf tt))
    (either (eqb k kinds.NEGATE) (phases p (leaf tt) (leaf tt) (leaf tt) (leaf tt))
    (either (eqb k kinds.CALL) (phases p (leaf tt) (leaf tt) (leaf tt) (leaf tt))
    (either (eqb k kinds.ACCESS) (phases p (leaf tt) (leaf tt) (leaf tt) (leaf tt))
    (either (eqb k kinds.ASSIGN) (phases p (leaf tt) (signed_in 3 assign_signs assign_three d) (leaf tt) (leaf tt))
    (either (eqb k kinds.RETURN) (phases p (signed_in 3 return_words return_three (pred d)) (leaf tt) (leaf tt) (leaf tt))
    (leaf tt))))))))

part_words : (k v p : ℕ) → Fine 3 (before_part k v p)
unfolding before_part within
part_words k v p =
    (either (eqb k kinds.IF) (phases p (leaf tt) (leaf tt) (leaf tt) (leaf tt))
    (either (eqb k kinds.WHILE) (phases p (leaf tt) (leaf tt) (leaf tt) (leaf tt))
    (either (eqb k kinds.FOR) (phases p (leaf tt) (leaf tt) (leaf tt) (leaf tt))
    (either (eqb k kinds.MATCH) (phases p (leaf tt) (leaf tt) (leaf tt) (leaf tt))
    (either (eqb k kinds.ARM) (either (eqb v 0) (phases p (leaf tt) (leaf tt) (leaf tt) (leaf tt)) (phases p (leaf tt) (leaf tt) (leaf tt) (leaf tt)))
    (either (eqb k kinds.VARIANT) (either (eqb v 0) (leaf tt) (phases p (leaf tt) (leaf tt) (leaf tt) (leaf tt)))
    (either (eqb k kinds.BLOCK) (phases p (leaf tt) (leaf tt) (leaf tt) (leaf tt))
    (either (eqb k kinds.RECORD) (either (eqb v 0) (phases p (leaf tt) (leaf tt) (leaf tt) (leaf tt)) (phases p (leaf tt) (leaf tt) (leaf tt) (leaf tt)))
    (either (eqb k kinds.FIELD) (phases p (leaf tt) (leaf tt) (leaf tt) (leaf tt))
    (leaf tt))))))))))

item_words : (k v d p child : ℕ) → Fine 3 (before_item k v d p child)
unfolding before_item within
item_words k v d p child =
    (either (eqb k kinds.LET) (either (eqb v 0) (phases p (leaf tt) (leaf tt) (leaf tt) (leaf tt)) (phases p (leaf tt) (leaf tt) (leaf tt) (leaf tt)))
    (either (eqb k kinds.IMPORT) (phases p (leaf tt) (leaf tt) (leaf tt) (leaf tt))
    (either (eqb k kinds.CONST) (phases p (leaf tt) (leaf tt) (leaf tt) (leaf tt))
    (either (eqb k kinds.FN) (either (eqb child kinds.TYPED_NAME) (phases p (leaf tt) (leaf tt) (leaf tt) (leaf tt)) (either (eqb v 1) (phases p (leaf tt) (leaf tt) (leaf tt) (leaf tt)) (phases p (leaf tt) (leaf tt) (leaf tt) (leaf tt))))
    (either (eqb k kinds.TEST) (phases p (leaf tt) (leaf tt) (leaf tt) (leaf tt))
    (either (eqb k kinds.IMPORT_PATH) (either (eqb child kinds.NAME) (phases p (leaf tt) (leaf tt) (leaf tt) (leaf tt)) (phases p (leaf tt) (leaf tt) (leaf tt) (leaf tt)))
    (either (eqb k kinds.FILTER) (either (eqb child kinds.TYPED_NAME) (phases p (signed_in 3 filter_words filter_three (pred d)) (leaf tt) (leaf tt) (leaf tt)) (phases p (signed_in 3 filter_words filter_three (pred d)) (leaf tt) (leaf tt) (leaf tt)))
    (leaf tt))))))))

pub before_fits : (k v d p child : ℕ) → T (within 3 (before k v d p child))
unfolding before
before_fits k v d p child = (either (ltb k kinds.BINARY) (type_words k v p) (either (ltb k kinds.IF) (operand_words k d p) (either (ltb k kinds.LET) (part_words k v p) (item_words k v d p child)))).fits

return_two : All 2 return_words
unfolding All within
return_two = (leaf tt, (leaf tt, (leaf tt, leaf tt)))

type_end : (k v p : ℕ) → Fine 2 (end_of_type k v p)
unfolding end_of_type within
type_end k v p =
    (either (eqb k kinds.NEVER) (leaf tt)
    (either (eqb k kinds.UNIT) (leaf tt)
    (either (eqb k kinds.OPTION) (leaf tt)
    (either (eqb k kinds.PATH_TYPE) (either (eqb v 0) (leaf tt) (phases p (leaf tt) (leaf tt) (leaf tt) (leaf tt)))
    (either (eqb k kinds.RECORD_TYPE) (phases p (leaf tt) (leaf tt) (leaf tt) (leaf tt))
    (leaf tt))))))

operand_end : (k d p : ℕ) → Fine 2 (end_of_operand k d p)
unfolding end_of_operand within
operand_end k d p =
    (either (eqb k kinds.CALL) (phases p (leaf tt) (leaf tt) (leaf tt) (leaf tt))
    (either (eqb k kinds.QUESTION) (leaf tt)
    (either (eqb k kinds.RETURN) (phases p (signed_in 2 return_words return_two (pred d)) (leaf tt) (leaf tt) (leaf tt))
    (leaf tt))))

part_end : (k v p : ℕ) (more : Bool) → Fine 2 (end_of_part k v p more)
unfolding end_of_part within
part_end k v p more =
    (either (eqb k kinds.MATCH) (phases p (leaf tt) (leaf tt) (leaf tt) (leaf tt))
    (either (eqb k kinds.ARM) (either (more && not (eqb p 3)) (leaf tt) (leaf tt))
    (either (eqb k kinds.VARIANT) (either (eqb v 0) (leaf tt) (phases p (leaf tt) (leaf tt) (leaf tt) (leaf tt)))
    (either (eqb k kinds.BLOCK) (either (eqb v 0) (phases p (leaf tt) (leaf tt) (leaf tt) (leaf tt)) (phases p (leaf tt) (leaf tt) (leaf tt) (leaf tt)))
    (either (eqb k kinds.RECORD) (either (eqb v 0) (phases p (leaf tt) (leaf tt) (leaf tt) (leaf tt)) (phases p (leaf tt) (leaf tt) (leaf tt) (leaf tt)))
    (leaf tt))))))

item_end : (k p : ℕ) → Fine 2 (end_of_item k p)
unfolding end_of_item within
item_end k p = (either (one_of k (kinds.LET ∷ kinds.IMPORT ∷ kinds.CONST ∷ [])) (leaf tt) (either (eqb k kinds.IMPORT_PATH) (phases p (leaf tt) (leaf tt) (leaf tt) (leaf tt)) (leaf tt)))

pub behind_fits : (k v d p : ℕ) (more : Bool) → T (within 2 (behind k v d p more))
unfolding behind
behind_fits k v d p more = (either (ltb k kinds.BINARY) (type_end k v p) (either (ltb k kinds.IF) (operand_end k d p) (either (ltb k kinds.LET) (part_end k v p more) (item_end k p)))).fits
