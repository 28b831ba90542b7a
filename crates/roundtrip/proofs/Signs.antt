-- The words of a print that aren't copied are signs and keywords.
use mathlib.Core.List.{List, [], ◌∷◌, ◌++◌}
use mathlib.Core.Bool.{Bool, true, false, not, ◌&&◌, ◌||◌, cond}
use Prim.Native.Nat.{ℕ, zero, suc, pred}
use lib.Dec.{T, eqb}
use Rattle.rows.specs.Kinds as kinds
use Rattle.grammar.specs.Words.{'->', open_brace, close_brace, open_paren, close_paren, open_bracket, close_bracket, ':', semicolon, comma, dot, '=', 'else', 'if', assign_signs, binary_signs, return_words, filter_words}
use Rattle.grammar.specs.Grammar.{one_of}
use Rattle.grammar.proofs.Bools.{and_l, and_r, both}
use Rattle.answers.proofs.Opened.{lexer}
use Rattle.canon.specs.Trees.{Label, Forest, none, tree, copied}
use Rattle.canon.specs.Layout.{Place, whole, needs, Slot, Layout, ◌then◌, Entry, each, joined, list_in, headed, statements, between, behind, is_expr, is_four, arms, arm, body, imports, rest, empty, first_kind, nth, by, done, layout_in, layouts, layout}
use Rattle.canon.specs.Layout as canon
use Rattle.canon.specs.Text.{Bit, sign, copy, signs, paired, inner, place_of, words_of, later, fill, tokens}
use Rattle.printing.specs.Pairs.{in_pairs}
use Rattle.respell.specs.Spelt.{is_sign}

-- a sign or keyword, or the word 0, which no token has
unfoldable pub sure_word : ℕ → Bool
sure_word c = is_sign c || eqb c 0

abbrev pub sure : List ℕ → Bool
sure [] = true
sure (c ∷ w) = sure_word c && sure w

abbrev pub sure_slots : List Slot → Bool
sure_slots [] = true
sure_slots (x ∷ xs) = sure x.words && sure_slots xs

abbrev pub Good : Layout → Type 0
Good y = T (sure_slots y.slots) × T (sure y.last)

two : (v w : List ℕ) → T (sure v) → T (sure w) → T (sure (v ++ w))
two [] w h k = k
two (c ∷ v) w h k = both (sure_word c) (sure (v ++ w)) (and_l (sure_word c) (sure v) h) (two v w (and_r (sure_word c) (sure v) h) k)

one : (c : ℕ) → T (sure_word c) → T (sure (c ∷ []))
one c h = both (sure_word c) true h tt

either : (b : Bool) (v w : List ℕ) → T (sure v) → T (sure w) → T (sure (cond b v w))
either true v w h k = h
either false v w h k = k

either_good : (b : Bool) (y z : Layout) → Good y → Good z → Good (cond b y z)
either_good true y z h k = h
either_good false y z h k = k

only_good : (b : Bool) (y z : Layout) → Good y → Good z → Good (canon.only_if b y z)
only_good true y z h k = h
only_good false y z h k = k

by_good : (w : List ℕ) (c : Place) (y : Layout) → T (sure w) → Good y → Good (by w c y)
by_good w c y h k = (both (sure w) (sure_slots y.slots) h k.0, k.1)

each_sure : (w : List ℕ) (c : Place) (ts : Forest) → T (sure w) → T (sure_slots (each w c ts))
each_sure w c none h = tt
each_sure w c (tree a k t) h = both (sure w) (sure_slots (each w c t)) h (each_sure w c t h)

joined_sure : (v w : List ℕ) (c : Place) (ts : Forest) → T (sure v) → T (sure w) → T (sure_slots (joined v w c ts))
joined_sure v w c none g h = tt
joined_sure v w c (tree a k t) g h = both (sure v) (sure_slots (each w c t)) g (each_sure w c t h)

list_good : (o e : ℕ) (c : Place) (ts : Forest) → T (sure_word o) → T (sure_word e) → Good (list_in o e c ts)
unfolding lexer sure_word
list_good o e c ts g h = (joined_sure (o ∷ []) (comma ∷ []) c ts (one o g) tt, either (empty ts) (o ∷ e ∷ []) (e ∷ []) (both (sure_word o) (sure (e ∷ [])) g (one e h)) (one e h))

closing_sure : (b : Bool) → T (sure (canon.closing b))
unfolding lexer sure_word
closing_sure true = tt
closing_sure false = tt

headed_sure : (r b : Bool) (ts : Forest) → T (sure_slots (headed r b ts))
unfolding lexer sure_word
headed_sure r b none = tt
headed_sure r b (tree a k t) = go (eqb a.kind kinds.TYPED_NAME) r (headed_sure r false t)
  where
    begun : T (sure (cond b (open_paren ∷ []) (comma ∷ [])))
    begun = either b (open_paren ∷ []) (comma ∷ []) tt tt

    go : (p q : Bool) → T (sure_slots (headed r false t)) → T (sure_slots (cond p ((cond b (open_paren ∷ []) (comma ∷ []) then whole) ∷ headed r false t) (cond q ((canon.closing b ++ ('->' ∷ []) then whole) ∷ ([] then whole) ∷ []) ((canon.closing b then whole) ∷ []))))
    go true q h = both (sure (cond b (open_paren ∷ []) (comma ∷ []))) (sure_slots (headed r false t)) begun h
    go false true h = both (sure (canon.closing b ++ ('->' ∷ []))) true (two (canon.closing b) ('->' ∷ []) (closing_sure b) tt) tt
    go false false h = both (sure (canon.closing b)) true (closing_sure b) tt

between_sure : (k : ℕ) → T (sure (between k))
unfolding lexer sure_word
between_sure k = either (is_expr k && not (is_four k)) (semicolon ∷ []) [] tt tt

behind_sure : (v k : ℕ) → T (sure (behind v k))
unfolding lexer sure_word
behind_sure v k = either (is_expr k && eqb v 0) (semicolon ∷ close_brace ∷ []) (close_brace ∷ []) tt tt

statements_good : (v : ℕ) (w : List ℕ) (ts : Forest) → T (sure w) → Good (statements v w ts)
unfolding lexer sure_word
statements_good v w none h = (tt, two w (close_brace ∷ []) h tt)
statements_good v w (tree a k none) h = (both (sure w) true h tt, behind_sure v a.kind)
statements_good v w (tree a k (tree b j t)) h = let r = statements_good v (between a.kind) (tree b j t) (between_sure a.kind) in (both (sure w) (sure_slots (statements v (between a.kind) (tree b j t)).slots) h r.0, r.1)

arms_sure : (w : List ℕ) (ts : Forest) → T (sure w) → T (sure_slots (arms w ts))
arms_sure w none h = tt
arms_sure w (tree a k t) h = both (sure w) (sure_slots (arms [] t)) h (arms_sure [] t tt)

body_good : (m : Bool) (k : ℕ) → Good (body m k)
unfolding lexer sure_word
body_good m k = (tt, either (m && not (eqb k kinds.BLOCK)) (comma ∷ []) [] tt tt)

arm_good : (m : Bool) (v : ℕ) (ts : Forest) → Good (arm m v ts)
unfolding lexer sure_word
arm_good m v ts = either_good (eqb v 0) (body m (first_kind ts)) (by ('if' ∷ []) whole (body m (first_kind (rest ts)))) (body_good m (first_kind ts)) (by_good ('if' ∷ []) whole (body m (first_kind (rest ts))) tt (body_good m (first_kind (rest ts))))

imports_good : (f g : Bool) (ts : Forest) → Good (imports f g ts)
unfolding lexer sure_word
imports_good f g none = (tt, either g (close_brace ∷ []) [] tt tt)
imports_good f g (tree a k t) = either_good (eqb a.kind kinds.NAME) _ _ (by_good (cond f [] (dot ∷ [])) whole (imports false false t) (either f [] (dot ∷ []) tt tt) (imports_good false false t)) (by_good (cond g (comma ∷ []) (dot ∷ open_brace ∷ [])) whole (imports false true t) (either g (comma ∷ []) (dot ∷ open_brace ∷ []) tt tt) (imports_good false true t))

zero_sure : T (sure_word 0)
unfolding lexer sure_word
zero_sure = tt

either_word : (b : Bool) (c d : ℕ) → T (sure_word c) → T (sure_word d) → T (sure_word (cond b c d))
either_word true c d h k = h
either_word false c d h k = k

nth_sure : (w : List ℕ) (n : ℕ) → T (sure w) → T (sure_word (nth w n))
nth_sure [] n h = zero_sure
nth_sure (c ∷ w) n h = either_word (eqb n 0) c (nth w (pred n)) (and_l (sure_word c) (sure w) h) (nth_sure w (pred n) (and_r (sure_word c) (sure w) h))

nth_one : (w : List ℕ) (n : ℕ) → T (sure w) → T (sure (nth w n ∷ []))
nth_one w n h = one (nth w n) (nth_sure w n h)

abbrev Goods : List Entry → Type 0
Goods [] = Unit {0}
Goods (x ∷ xs) = Good x.layout × Goods xs

good_in : (xs : List Entry) (k : ℕ) → Goods xs → Good (layout_in xs k)
good_in [] k h = (tt, tt)
good_in (x ∷ xs) k h = either_good (eqb k x.kind) x.layout (layout_in xs k) h.0 (good_in xs k h.1)

all_good : (c : Place) (v d : ℕ) (ts : Forest) → Goods (layouts c v d ts)
unfolding layouts lexer sure_word
all_good c v d ts = (
  (joined_sure [] (dot ∷ []) whole ts tt tt, tt),
  (
    (tt, tt),
    (
      (tt, tt),
      (
        (tt, tt),
        (
          only_good (eqb v 0) (done []) (list_in open_bracket close_bracket whole (rest ts)) (tt, tt) (list_good open_bracket close_bracket whole (rest ts) tt tt),
          (
            list_good open_brace close_brace whole ts tt tt,
            (
              (tt, tt),
              (
                (both (sure (nth binary_signs (pred d) ∷ [])) true (nth_one binary_signs (pred d) tt) tt, tt),
                (
                  (tt, tt),
                  (
                    (tt, tt),
                    (
                      list_good open_paren close_paren whole (rest ts) tt tt,
                      (
                        (tt, tt),
                        (
                          (tt, tt),
                          (
                            (both (sure (nth assign_signs d ∷ [])) true (nth_one assign_signs d tt) tt, tt),
                            (
                              only_good (empty ts) (done (nth return_words (pred d) ∷ [])) (by (nth return_words (pred d) ∷ []) (canon.right 0 c) (done [])) (tt, nth_one return_words (pred d) tt) (both (sure (nth return_words (pred d) ∷ [])) true (nth_one return_words (pred d) tt) tt, tt),
                              (
                                only_good (empty (rest (rest ts))) (done []) (by ('else' ∷ []) whole (done [])) (tt, tt) (tt, tt),
                                (
                                  (tt, tt),
                                  (
                                    (tt, tt),
                                    (
                                      (arms_sure (open_brace ∷ []) (rest ts) tt, either (empty (rest ts)) (open_brace ∷ close_brace ∷ []) (close_brace ∷ []) tt tt),
                                      (
                                        arm_good c.more v (rest ts),
                                        (
                                          only_good (eqb v 0) (done []) (list_in open_paren close_paren whole (rest ts)) (tt, tt) (list_good open_paren close_paren whole (rest ts) tt tt),
                                          (
                                            statements_good v (open_brace ∷ []) ts tt,
                                            (
                                              only_good (eqb v 0) (list_in open_brace close_brace whole ts) (by [] whole (list_in open_brace close_brace whole (rest ts))) (list_good open_brace close_brace whole ts tt tt) (list_good open_brace close_brace whole (rest ts) tt tt),
                                              (
                                                (tt, tt),
                                                (
                                                  only_good (eqb v 0) (by ('=' ∷ []) whole (done (semicolon ∷ []))) (by (':' ∷ []) whole (by ('=' ∷ []) whole (done (semicolon ∷ [])))) (tt, tt) (tt, tt),
                                                  (
                                                    (tt, tt),
                                                    (
                                                      (tt, tt),
                                                      (
                                                        (headed_sure (eqb v 1) true (rest ts), tt),
                                                        (
                                                          (tt, tt),
                                                          (
                                                            (each_sure [] whole ts tt, tt),
                                                            (
                                                              imports_good true false ts,
                                                              (
                                                                (both (sure (nth filter_words (pred d) ∷ [])) (sure_slots (headed false true (rest ts))) (nth_one filter_words (pred d) tt) (headed_sure false true (rest ts)), tt),
                                                                tt,
                                                              ),
                                                            ),
                                                          ),
                                                        ),
                                                      ),
                                                    ),
                                                  ),
                                                ),
                                              ),
                                            ),
                                          ),
                                        ),
                                      ),
                                    ),
                                  ),
                                ),
                              ),
                            ),
                          ),
                        ),
                      ),
                    ),
                  ),
                ),
              ),
            ),
          ),
        ),
      ),
    ),
  ),
)

pub layout_good : (c : Place) (a : Label) (ts : Forest) → Good (layout c a ts)
unfolding layout
layout_good c a ts = good_in (layouts c a.value a.detail ts) a.kind (all_good c a.value a.detail ts)

abbrev pub sure_bits : List Bit → Bool
sure_bits [] = true
sure_bits (sign c ∷ bs) = sure_word c && sure_bits bs
sure_bits (copy t ∷ bs) = sure_bits bs

pub bits_two : (bs cs : List Bit) → T (sure_bits bs) → T (sure_bits cs) → T (sure_bits (bs ++ cs))
bits_two [] cs h k = k
bits_two (sign c ∷ bs) cs h k = both (sure_word c) (sure_bits (bs ++ cs)) (and_l (sure_word c) (sure_bits bs) h) (bits_two bs cs (and_r (sure_word c) (sure_bits bs) h) k)
bits_two (copy t ∷ bs) cs h k = bits_two bs cs h k

pub signs_sure : (w : List ℕ) → T (sure w) → T (sure_bits (signs w))
signs_sure [] h = tt
signs_sure (c ∷ w) h = both (sure_word c) (sure_bits (signs w)) (and_l (sure_word c) (sure w) h) (signs_sure w (and_r (sure_word c) (sure w) h))

paired_sure : (b : Bool) (bs : List Bit) → T (sure_bits bs) → T (sure_bits (paired b bs))
unfolding lexer sure_word
paired_sure true bs h = bits_two bs (sign close_paren ∷ []) h tt
paired_sure false bs h = h

pub pairs_sure : (n : ℕ) (bs : List Bit) → T (sure_bits bs) → T (sure_bits (in_pairs n bs))
pairs_sure zero bs h = h
pairs_sure (suc n) bs h = paired_sure true (in_pairs n bs) (pairs_sure n bs h)

pub words_sure : (xs : List Slot) → T (sure_slots xs) → T (sure (words_of xs))
words_sure [] h = tt
words_sure (x ∷ xs) h = and_l (sure x.words) (sure_slots xs) h

pub later_sure : (xs : List Slot) → T (sure_slots xs) → T (sure_slots (later xs))
later_sure [] h = tt
later_sure (x ∷ xs) h = and_r (sure x.words) (sure_slots xs) h

pub own_sure : (b : Bool) (t : List ℕ) (bs : List Bit) → T (sure_bits bs) → T (sure_bits (cond b (copy t ∷ []) bs))
own_sure true t bs h = tt
own_sure false t bs h = h

fill_sure : (xs : List Slot) (last : List ℕ) (f : Forest) → T (sure_slots xs) → T (sure last) → T (sure_bits (fill xs last f))
unfolding fill
fill_sure xs last none h k = signs_sure last k
fill_sure xs last (tree a kids ts) h k =
    let c = place_of xs in
    let b = needs c a kids in
    let y = layout (inner b c) a kids in
    let g = layout_good (inner b c) a kids in
    let own = fill y.slots y.last kids in
    let mid = paired b (cond (one_of a.kind copied) (copy a.text ∷ []) own) in
    bits_two (signs (words_of xs)) (mid ++ fill (later xs) last ts) (signs_sure (words_of xs) (words_sure xs h))
    (bits_two mid (fill (later xs) last ts) (paired_sure b _ (own_sure (one_of a.kind copied) a.text own (fill_sure y.slots y.last kids g.0 g.1))) (fill_sure (later xs) last ts (later_sure xs h) k))

pub tokens_sure : (f : Forest) → T (sure_bits (tokens f))
tokens_sure f = fill_sure [] [] f tt tt
