-- The rows of a phrase do not depend on what was written before it, and are put behind that.
use mathlib.Core.Path.{◌≡◌, refl, sym, ◌∙◌, ap, subst}
use mathlib.Core.List.{List, [], ◌∷◌, ◌++◌, append_assoc, append-nil}
use mathlib.Core.Bool.{Bool, true, false, not, ◌&&◌, ◌||◌, cond}
use mathlib.Core.Logic.{inl, inr}
use Prim.Native.Nat.{ℕ}
use lib.Dec.{T, eqb, eqb→eq, T_not}
use Rattle.grammar.specs.Words.{text_then_hole, last_text}
use Rattle.grammar.specs.Grammar.{Symbol, Token, Parts, end, leaf, node, mark, one_of}
use Rattle.grammar.specs.Table.{rest_kinds}
use Rattle.grammar.specs.Rows.{Row, own, child, Draft, children_of, add_row, row_of, take_note, is_text, text_row, add_token, enter, leave, write, blank}
use Rattle.grammar.proofs.Bools.{and_l, and_r, or_cases, F→eq}

-- rows in front
abbrev pub on : List Row → Draft → Draft
on o a = record { rows = o ++ a.rows; items = a.items; part = a.part }

note_on : (k : ℕ) (o : List Row) (a : Draft) → take_note k (on o a) ≡ on o (take_note k a)
unfolding take_note
note_on k o a = go (eqb k 0)
  where
    go : (b : Bool) → cond b (record { rows = o ++ a.rows; items = a.items; part = 1 }) (add_row (row_of k a.items a.part) (on o a)) ≡ on o (cond b (record { rows = a.rows; items = a.items; part = 1 }) (add_row (row_of k a.items a.part) a))
    go true = refl
    go false = let r = row_of k a.items a.part in ap (λ (x : List Row). record { rows = x; items = child r ∷ []; part = 0 }) (append_assoc o a.rows (r ∷ []))

token_on : (x : Token) (o : List Row) (a : Draft) → add_token x (on o a) ≡ on o (add_token x a)
unfolding add_token
token_on x o a = go (is_text x) (eqb x.value 0)
  where
    w : Draft
    w = record { rows = a.rows; items = a.items ++ (own x ∷ []); part = a.part }

    t : List Row → Draft
    t r = record { rows = r; items = a.items ++ (child (text_row x) ∷ []); part = a.part }

    go : (b c : Bool) → cond b (cond c (on o w) (t ((o ++ a.rows) ++ (text_row x ∷ [])))) (on o w) ≡ on o (cond b (cond c w (t (a.rows ++ (text_row x ∷ [])))) w)
    go true true = refl
    go true false = ap t (append_assoc o a.rows (text_row x ∷ []))
    go false c = refl

enter_on : (b : Bool) (o : List Row) (a : Draft) → enter b (on o a) ≡ on o (enter b a)
enter_on true o a = refl
enter_on false o a = refl

leave_on : (b : Bool) (o : List Row) (a x : Draft) → leave b (on o a) (on o x) ≡ on o (leave b a x)
leave_on true o a x = refl
leave_on false o a x = refl

pub write_on : (p : Parts) (o : List Row) (a : Draft) → write p (on o a) ≡ on o (write p a)
unfolding write
write_on end o a = refl
write_on (leaf x p) o a = ap (λ (y : Draft). write p y) (token_on x o a) ∙ write_on p o (add_token x a)
write_on (node n s p q) o a =
    let b = one_of n rest_kinds in
    ap (λ (y : Draft). write q (leave b (on o a) (write p y))) (enter_on b o a)
    ∙ ap (λ (y : Draft). write q (leave b (on o a) y)) (write_on p o (enter b a))
    ∙ ap (λ (y : Draft). write q y) (leave_on b o a (write p (enter b a)))
    ∙ write_on q o (leave b a (write p (enter b a)))
write_on (mark k p) o a = ap (λ (y : Draft). write p y) (note_on k o a) ∙ write_on p o (take_note k a)

-- a phrase of its own: its rows go behind those written, and the rows that it leaves without a parent behind the phrase's items
pub write_phrase : (n : ℕ) (s : List Symbol) (p q : Parts) (a : Draft) → one_of n rest_kinds ≡ false → write (node n s p q) a ≡ write q (record { rows = a.rows ++ (write p blank).rows; items = a.items ++ children_of (write p blank).items; part = a.part })
unfolding write
write_phrase n s p q a e =
    rw e
    (ap (λ (y : Draft). write q (leave false a (write p (record { rows = y.rows; items = []; part = 0 })))) (nil_on a)
    ∙ ap (λ (y : Draft). write q (leave false a y)) (write_on p a.rows blank))
  where
    nil_on : (a : Draft) → a ≡ record { rows = a.rows ++ []; items = a.items; part = a.part }
    nil_on a = ap (λ (x : List Row). record { rows = x; items = a.items; part = a.part }) (sym (append-nil a.rows))

-- the rest of a phrase: its parts count as the phrase's own
pub write_rest : (n : ℕ) (s : List Symbol) (p q : Parts) (a : Draft) → one_of n rest_kinds ≡ true → write (node n s p q) a ≡ write q (write p a)
unfolding write
write_rest n s p q a e = rw e refl

pub write_two : (n : ℕ) (s : List Symbol) (p q : Parts) (a : Draft) → write (node n s p q) a ≡ write q (write (node n s p end) a)
unfolding write
write_two n s p q a = refl

-- no word of a piece of text is among these
abbrev pub no_text : List ℕ → Bool
no_text w = not (one_of text_then_hole w) && not (one_of last_text w)

pub plain_word : (x : Token) (w : List ℕ) → T (no_text w) → T (one_of x.word w) → is_text x ≡ false
plain_word x w t m = F→eq (is_text x) none_is
  where
    at : (c : ℕ) → T (not (one_of c w)) → T (eqb x.word c) → ⊥
    at c h e = T_not (one_of c w) h (subst (λ (y : ℕ). T (one_of y w)) (eqb→eq x.word c e) m)

    a : Bool
    a = not (one_of text_then_hole w)

    b : Bool
    b = not (one_of last_text w)

    none_is : T (is_text x) → ⊥
    none_is h = elim (or_cases (eqb x.word text_then_hole) (eqb x.word last_text || false) h) [
      | inl e ↦ at text_then_hole (and_l a b t) e
      | inr k ↦ elim (or_cases (eqb x.word last_text) false k) [ inl e ↦ at last_text (and_r a b t) e | inr z ↦ z ]
    ]

-- a token that is no piece of text is a word of the phrase's own
abbrev pub with_own : Token → Draft → Draft
with_own x a = record { rows = a.rows; items = a.items ++ (own x ∷ []); part = a.part }

pub write_token : (x : Token) (p : Parts) (a : Draft) → is_text x ≡ false → write (leaf x p) a ≡ write p (with_own x a)
unfolding write add_token
write_token x p a e = ap (λ (y : Draft). write p y) (ap (λ (b : Bool). cond b (cond (eqb x.value 0) (with_own x a) (record { rows = a.rows ++ (text_row x ∷ []); items = a.items ++ (child (text_row x) ∷ []); part = a.part })) (with_own x a)) e)

pub write_note : (k : ℕ) (p : Parts) (a : Draft) → write (mark k p) a ≡ write p (take_note k a)
unfolding write
write_note k p a = refl
