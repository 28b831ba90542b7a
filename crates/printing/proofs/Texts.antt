-- A string with expressions inside, copied whole: its tokens, one behind the other, are read as they were.
use mathlib.Core.Path.{◌∙◌, ◌≡◌, ap, refl, subst, sym}
use mathlib.Core.List.{List, [], ◌∷◌, ◌++◌, append_assoc, append-nil}
use mathlib.Core.Bool.{Bool, true, false, not, ◌||◌, ◌&&◌, cond}
use Prim.Native.Nat.{ℕ, zero, suc}
use lib.Dec.{T, eqb, eqb→eq}
use Rattle.rows.specs.Kinds as kinds
use Rattle.grammar.specs.Words.{f_quote, last_text, text_then_hole}
use Rattle.grammar.specs.Grammar.{Ask, In, Look, Parts, Stream, Symbol, Token, alternatives, end, found, has_value, here, leaf, left_side, mark, node, note, one_of, over, phrase, same, text, there, token, unless}
use Rattle.grammar.specs.Kinds.{F_STRING, HOLE}
use Rattle.grammar.specs.Limits.{Counts}
use Rattle.grammar.specs.Readings.{ReadingBy, peek, reads_end, reads_note, reads_phrase, reads_side, reads_text, reads_token, reads_unless, word_of_lem}
use Rattle.grammar.specs.Table.{row, rest_kinds}
use Rattle.grammar.specs.Rows.{is_text}
use Rattle.grammar.specs.Language.{roto}
use Rattle.grammar.specs.Culprit.{lists}
use Rattle.grammar.proofs.Bools.{T→eq, and_l, and_r, or_cases}
use Rattle.grammar.proofs.Pass.{all_pass, each_passes, passes_at}
use Rattle.printing.specs.Groves.{Grove, State, add, fresh, grow, head_for, leave, nil, noted, top, with_text, with_word}
use Rattle.printing.specs.Groves as groves
use Rattle.printing.specs.Spelled.{leaves}
use mathlib.Core.Logic.{inl, inr}
use Rattle.printing.proofs.Lists.{Read, grow_phrase, grow_rest, held, l}
use Rattle.printing.proofs.Exprs.{f_string_row, text_row_head}
use Rattle.printing.proofs.Back.{Once, all_end, all_note, all_phrase, all_text, all_token}
use Rattle.printing.proofs.Claims.{Expr, Knows}
use Rattle.printing.proofs.Steps.{C, Of, P, text_alternative}

-- what grows has read just these
pub grown_read : (p : Parts) (a : State) → (grow p a).read ≡ a.read ++ leaves p
unfolding grow
grown_read end a = sym (append-nil a.read)
grown_read (leaf x p) a = grown_read p (add x a) ∙ ap (λ (r : List Token). r ++ leaves p) (added (is_text x) (eqb x.value 0)) ∙ append_assoc a.read (x ∷ []) (leaves p)
  where
    added : (b c : Bool) → (cond {A = State} b (cond {A = State} c (with_word x a) (with_text x a)) (with_word x a)).read ≡ a.read ++ (x ∷ [])
    added true true = refl
    added true false = refl
    added false c = refl
grown_read (mark k p) a = grown_read p (noted k a) ∙ ap (λ (r : List Token). r ++ leaves p) (kept_read (eqb k 0))
  where
    kept_read : (b : Bool) → (cond {A = State} b (record { kids = a.kids; sign = a.sign; lead = a.lead; part = 1; read = a.read }) (record { kids = top (head_for k a) a.kids nil; sign = []; lead = groves.row; part = 0; read = a.read })).read ≡ a.read
    kept_read true = refl
    kept_read false = refl
grown_read (node n t p q) a = go (one_of n rest_kinds) refl (λ b. grown_read q b) (grown_read p a) (grown_read p fresh)
  where
    go : (b : Bool) → one_of n rest_kinds ≡ b → ((c : State) → (grow q c).read ≡ c.read ++ leaves q) → (grow p a).read ≡ a.read ++ leaves p → (grow p fresh).read ≡ leaves p → (grow (node n t p q) a).read ≡ a.read ++ (leaves p ++ leaves q)
    go true e f u v = ap (λ (c : State). c.read) (grow_rest n t p q a e) ∙ f (grow p a) ∙ ap (λ (r : List Token). r ++ leaves q) u ∙ append_assoc a.read (leaves p) (leaves q)
    go false e f u v = ap (λ (c : State). c.read) (grow_phrase n t p q a e) ∙ f (leave false a (grow p fresh)) ∙ ap (λ (r : List Token). (a.read ++ r) ++ leaves q) v ∙ append_assoc a.read (leaves p) (leaves q)

-- symbols whose reading begins with a token that is looked at
abbrev solid : ℕ → List Symbol → Bool
solid zero t = false
solid (suc f) [] = false
solid (suc f) (token g w ∷ t) = true
solid (suc f) (phrase o n ∷ t) = all_pass (solid f) (alternatives l n)
solid (suc f) (unless w ∷ t) = solid f t
solid (suc f) (note k ∷ t) = solid f t
solid (suc f) (left_side n m ∷ t) = all_pass (solid f) (alternatives l n)
solid (suc f) (text n ∷ t) = false

-- behind "none of these words" such symbols stand
abbrev okay : List Symbol → Bool
okay [] = true
okay (token g w ∷ t) = okay t
okay (phrase o n ∷ t) = okay t
okay (unless w ∷ t) = solid 14 t && okay t
okay (note k ∷ t) = okay t
okay (left_side n m ∷ t) = okay t
okay (text n ∷ t) = okay t

all_okay : T (each_passes (λ n a. okay a) l.rules)
unfolding roto
all_okay = tt

in_passes : {a : List Symbol} {ss : List (List Symbol)} (test : List Symbol → Bool) → In a ss → T (all_pass test ss) → T (test a)
in_passes test (here {a = a} {ss = ss}) t = and_l (test a) (all_pass test ss) t
in_passes test (there {b = a} {ss = ss} i) t = in_passes test i (and_r (test a) (all_pass test ss) t)

module _ (S : Stream) (G : Ask → Counts → Token → Bool) where
  -- values are held, and a piece of text has a word of its own
  pub record Sure : Type 0 where
    pub holds : (g : Ask) (d d' : Counts) (x : Token) → T (G g d x) → T (held g d' x)
    pub pieces : (i j : S.Place) (x : Token) → S.piece i ≡ found x j → T (one_of x.word (text_then_hole ∷ last_text ∷ []))

  record Begun (i : S.Place) (p : Parts) : Type 0 where
    first : Token
    later : List Token
    next : S.Place
    are : leaves p ≡ first ∷ later
    looks : S.look i ≡ found first next

  begun : (f : ℕ) {d : Counts} {t : List Symbol} {i r : S.Place} {p : Parts} → ReadingBy S l G d t i r p → T (solid f t) → Begun i p
  begun zero u h = absurd h
  begun (suc f) reads_end h = absurd h
  begun (suc f) (reads_token {x = x} {j = j} e m k u) h = record { first = x; later = _; next = j; are = refl; looks = e }
  begun (suc f) (reads_phrase {n = n} {q = q} o u v) h = let b = begun f u (in_passes (solid f) o h) in record { first = b.first; later = b.later ++ leaves q; next = b.next; are = ap (λ (t : List Token). t ++ leaves q) b.are; looks = b.looks }
  begun (suc f) (reads_unless m u) h = let b = begun f u h in record { first = b.first; later = b.later; next = b.next; are = b.are; looks = b.looks }
  begun (suc f) (reads_note u) h = let b = begun f u h in record { first = b.first; later = b.later; next = b.next; are = b.are; looks = b.looks }
  begun (suc f) (reads_side {n = n} {q = q} o u m v) h = let b = begun f u (in_passes (solid f) o h) in record { first = b.first; later = b.later ++ leaves q; next = b.next; are = ap (λ (t : List Token). t ++ leaves q) b.are; looks = b.looks }
  begun (suc f) (reads_text e k u) h = absurd h

  okay_if : (b : Bool) (n : ℕ) (t : List Symbol) → T (okay t) → T (okay (cond b (phrase same n ∷ t) t))
  okay_if true n t h = h
  okay_if false n t h = h

  -- the tokens of a reading, with anything behind them, are read as they were
  pub relisted : {d : Counts} {t : List Symbol} {i r : S.Place} {p : Parts} → Sure → ReadingBy S l G d t i r p → T (okay t) → (z : List Token) → Read t (leaves p ++ z) z p
  relisted w reads_end h z = λ d. reads_end
  relisted w (reads_token {d = d} {g = g} {x = x} e m k u) h z = λ d'. reads_token refl m (w.holds g d d' x k) (relisted w u h z _)
  relisted w (reads_phrase {n = n} {o = o} {a = a} {s = t} {p = p} {q = q} i u v) h z = subst (λ (c : List Token). Read (phrase o n ∷ t) c z (node n a p q)) (sym (append_assoc (leaves p) (leaves q) z)) (λ d. reads_phrase i (relisted w u (passes_at (λ n a. okay a) l.rules n all_okay i) (leaves q ++ z) _) (relisted w v h z _))
  relisted w (reads_unless {w = ws} {s = t} {p = p} m u) h z =
      let b = begun 14 u (and_l (solid 14 t) (okay t) h) in
      λ d. reads_unless (subst (λ (c : List Token). T (not (one_of (peek lists l (c ++ z)) ws))) (sym b.are) (subst (λ (k : Look S.Place). T (not (one_of (word_of_lem S l k) ws))) b.looks m)) (relisted w u (and_r (solid 14 t) (okay t) h) z d)
  relisted w (reads_note u) h z = λ d. reads_note (relisted w u h z d)
  relisted w (reads_side {n = n} {n₁ = n₁} {a = a} {s = t} {p = p} {q = q} i u m v) h z = subst (λ (c : List Token). Read (left_side n n₁ ∷ t) c z (node n a p q)) (sym (append_assoc (leaves p) (leaves q) z)) (λ d. reads_side i (relisted w u (passes_at (λ n a. okay a) l.rules n all_okay i) (leaves q ++ z) d) tt (relisted w v (okay_if (l.is_path p) n₁ t h) z d))
  relisted w (reads_text {d = d} {n = n} {s = t} {x = x} {i = i} {j = j} {p = p} e k u) h z = λ d'. reads_text (ap (λ (b : Bool). cond b (found x (leaves p ++ z)) over) (T→eq (one_of x.word (text_then_hole ∷ last_text ∷ [])) (w.pieces i j x e))) (w.holds has_value d d' x k) (relisted w u (okay_if (eqb x.word l.hole) n t h) z _)

  module _ (s : List ℕ) (w : Sure) where
    copied_text : {p : Parts} (x : Token) (v : ℕ) (k : Grove) → T (one_of x.word (f_quote ∷ [])) → (q : Parts) → leaf x q ≡ p → Once S l G Knows (P S G s) (text_alternative S G s) p → (grow p fresh).kids ≡ top (text_row_head v (leaves p)) k nil → Expr s p
    unfolding roto
    copied_text {p} x v k i q e o h = (
      text_row_head v (leaves p),
      k,
      h,
      f_string_row s v (leaves p) k (record {
        reads = λ y. record { alt = _; takes = here; parts = p; reads = relisted w o.3 tt y; leaves = h };
        quote = λ y. subst (λ (t : Parts). peek lists l (leaves t ++ y) ≡ f_quote) e (eqb→eq x.word f_quote (elim (or_cases (eqb x.word f_quote) false i) [ inl t ↦ t | inr t ↦ absurd t ]));
      }),
    )

    noted_text : (a : State) (ts : List Token) → a.read ≡ ts → (noted kinds.F_STRING a).kids ≡ top (text_row_head a.part ts) a.kids nil
    noted_text a ts e = ap (λ (t : List Token). top (text_row_head a.part t) a.kids nil) e

    text_hole : (x x' : Token) (q : Parts) → T (one_of x.word (f_quote ∷ [])) → Once S l G Knows (P S G s) (text_alternative S G s) (leaf x (leaf x' q)) → Of S G s (phrase same HOLE ∷ row kinds.F_STRING ∷ []) q → Expr s (leaf x (leaf x' q))
    unfolding grow
    text_hole x x' q i o (all_phrase {a = a} {p = q'} v (all_note all_end)) = copied_text x _ _ i _ refl o (noted_text (grow q' (add x' (add x fresh))) (x ∷ x' ∷ (leaves q' ++ [])) (grown_read (leaf x (leaf x' (node HOLE a q' end))) fresh))

    text_last : (x x' : Token) (q : Parts) → T (one_of x.word (f_quote ∷ [])) → Once S l G Knows (P S G s) (text_alternative S G s) (leaf x (leaf x' q)) → Of S G s (row kinds.F_STRING ∷ []) q → Expr s (leaf x (leaf x' q))
    unfolding grow
    text_last x x' q i o (all_note all_end) = copied_text x _ _ i _ refl o (noted_text (add x' (add x fresh)) (x ∷ x' ∷ []) (grown_read (leaf x (leaf x' end)) fresh))

    pub texts : C S G s F_STRING (text_alternative S G s)
    unfolding roto
    texts p o (all_token {x = x} i y (all_text {x = x'} {p = q} z u)) = go (eqb x'.word text_then_hole) u
      where
        go : (b : Bool) → Of S G s (cond b (phrase same HOLE ∷ row kinds.F_STRING ∷ []) (row kinds.F_STRING ∷ [])) q → Expr s (leaf x (leaf x' q))
        go true w = text_hole x x' q i o w
        go false w = text_last x x' q i o w
