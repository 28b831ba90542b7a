-- What a reading's tree copies stands in the source.
use mathlib.Core.Path.{◌≡◌, refl, sym, subst}
use mathlib.Core.Logic.{◌⊎◌, inl, inr}
use mathlib.Core.List.{List, [], ◌∷◌}
use mathlib.Core.Bool.{Bool, true, false, not, ◌&&◌, ◌||◌, cond}
use Prim.Native.Nat.{ℕ}
use lib.Dec.{T, T_not, eqb, eqb→eq}
use Rattle.rows.specs.Kinds as kinds
use Rattle.grammar.specs.Grammar.{Ask, In, Symbol, same, found, token, phrase, unless, note, left_side, text, Token, Stream, Parts, one_of, alternatives}
use Rattle.grammar.specs.Kinds.{F_STRING}
use Rattle.grammar.specs.Table.{rest_kinds, literal_row}
use Rattle.grammar.specs.Limits.{Counts}
use Rattle.grammar.specs.Readings.{ReadingBy, reads_end, reads_token, reads_phrase, reads_unless, reads_note, reads_side, reads_text}
use Rattle.grammar.specs.Rows.{is_text, detail_for}
use Rattle.grammar.specs.Language.{roto, start}
use Rattle.grammar.proofs.Bools.{T→eq, F→eq, and_l, and_r, or_cases}
use Rattle.grammar.proofs.Pass.{each_passes, passes_at}
use Rattle.grammar.proofs.Frame.{no_text, plain_word}
use Rattle.canon.specs.Trees.{copied}
use Rattle.printing.specs.Groves.{Head, Grove, nil, top, beside, State, fresh, with_word, with_text, add, head_for, noted, enter, leave, grow, literal_head}
use Rattle.printing.specs.Groves as groves
use Rattle.printing.specs.Spelled.{string_symbols, sign_words, Stands, stands_token, stands_string, FromSource}
use Rattle.printing.proofs.Lists.{l}
use Rattle.printing.proofs.Placed.{disjoint, apart}
use Rattle.printing.proofs.Back.{alt_at}
use Rattle.printing.proofs.Notes.{plain_note, plain_notes, plain_if, not_copied}
use Rattle.printing.proofs.Texts.{grown_read}

-- a row of one token, which a print doesn't write by itself
abbrev nil_symbols : List Symbol → Bool
nil_symbols [] = true
nil_symbols (x ∷ t) = false

abbrev noted_alone : List ℕ → List Symbol → Bool
noted_alone w [] = false
noted_alone w (token g v ∷ t) = false
noted_alone w (phrase o n ∷ t) = false
noted_alone w (unless v ∷ t) = false
noted_alone w (note k ∷ t) = nil_symbols t && ((no_text w && disjoint w sign_words) && (not (eqb k 0) && not (eqb k kinds.F_STRING)))
noted_alone w (left_side n m ∷ t) = false
noted_alone w (text n ∷ t) = false

abbrev single : List Symbol → Bool
single [] = false
single (token g w ∷ t) = noted_alone w t
single (phrase o n ∷ t) = false
single (unless w ∷ t) = false
single (note k ∷ t) = false
single (left_side n m ∷ t) = false
single (text n ∷ t) = false

-- symbols whose one note is an f-string's, at their end
abbrev stringy : List Symbol → Bool
stringy [] = false
stringy (token g w ∷ t) = stringy t
stringy (phrase o n ∷ t) = stringy t
stringy (unless w ∷ t) = false
stringy (note k ∷ t) = eqb k kinds.F_STRING && nil_symbols t
stringy (left_side n m ∷ t) = false
stringy (text n ∷ t) = stringy t

stringy_if : (b : Bool) (n : ℕ) (t : List Symbol) → T (stringy t) → T (stringy (cond b (phrase same n ∷ t) t))
stringy_if true n t h = h
stringy_if false n t h = h

-- each alternative makes no row that is copied, or is such a row or an f-string
abbrev known : ℕ → List Symbol → Bool
known n b = plain_notes b || (not (one_of n rest_kinds) && (single b || eqb n F_STRING))

all_known : T (each_passes known l.rules)
unfolding roto
all_known = tt

is_string : {n : ℕ} {b : List Symbol} → n ≡ F_STRING → In b (alternatives l n) → b ≡ string_symbols
unfolding roto
is_string {n} {b} e o = alt_at (λ (c : List Symbol). c ≡ string_symbols) (subst (λ (m : ℕ). In b (alternatives l m)) e o) (refl, tt)

module _ (S : Stream) (G : Ask → Counts → Token → Bool) where
  from_two : (g k : Grove) → FromSource S l G g → FromSource S l G k → FromSource S l G (beside g k)
  from_two nil k u v = v
  from_two (top h j t) k u v = (u.0, u.1, from_two t k u.2 v)

  token_from : (x : Token) (a : State) → FromSource S l G a.kids → FromSource S l G (add x a).kids
  token_from x a u = go (is_text x) (eqb x.value 0)
    where
      go : (b c : Bool) → FromSource S l G (cond {A = State} b (cond {A = State} c (with_word x a) (with_text x a)) (with_word x a)).kids
      go true true = u
      go true false = from_two a.kids _ u ((λ h. absurd h), tt, tt)
      go false c = u

  note_from : (k : ℕ) (a : State) → (T (one_of (head_for k a).kind copied) → Stands S l G (head_for k a).kind a.read) → FromSource S l G a.kids → FromSource S l G (noted k a).kids
  note_from k a f u = go (eqb k 0)
    where
      head : Head
      head = head_for k a

      stands : (b : Bool) → (T b → Stands S l G head.kind a.read) → T b → Stands S l G head.kind (cond b a.read [])
      stands true g t = g t
      stands false g t = absurd t

      go : (b : Bool) → FromSource S l G (cond {A = State} b (record { kids = a.kids; sign = a.sign; lead = a.lead; part = 1; read = a.read }) (record { kids = top head a.kids nil; sign = []; lead = groves.row; part = 0; read = a.read })).kids
      go true = u
      go false = (stands (one_of head.kind copied) f, u, tt)

  -- a row of one token
  alone : (k : ℕ) (x : Token) (i j : S.Place) → is_text x ≡ false → eqb k kinds.F_STRING ≡ false → S.look i ≡ found x j → T (not (one_of x.word sign_words)) → FromSource S l G (noted k (add x fresh)).kids
  alone k x i j t f e m = subst (λ (a : State). FromSource S l G (noted k a).kids) (sym is) (note_from k (with_word x fresh) (λ h. stands_token i j (go (eqb k literal_row)) e m) tt)
    where
      is : add x fresh ≡ with_word x fresh
      is = rw t refl

      go : (b : Bool) → (eqb (cond {A = Head} b (literal_head (groves.word x) nil) (record { kind = k; value = 0; detail = detail_for k x.word; tokens = [] })).kind kinds.F_STRING ≡ false) ⊎ ((cond {A = Head} b (literal_head (groves.word x) nil) (record { kind = k; value = 0; detail = detail_for k x.word; tokens = [] })).kind ≡ x.kind)
      go true = inr refl
      go false = inl f

  noted_from : {d : Counts} {i j r : S.Place} {p : Parts} (w : List ℕ) (x : Token) (t : List Symbol) → T (noted_alone w t) → S.look i ≡ found x j → T (one_of x.word w) → ReadingBy S l G d t j r p → FromSource S l G (grow p (add x fresh)).kids
  unfolding grow
  noted_from w x [] h e m u = absurd h
  noted_from w x (token g v ∷ t) h e m u = absurd h
  noted_from w x (phrase o n ∷ t) h e m u = absurd h
  noted_from w x (unless v ∷ t) h e m u = absurd h
  noted_from {i = i} {j = j} w x (note k ∷ []) h e m (reads_note reads_end) =
      let h₀ = and_l (no_text w && disjoint w sign_words) (not (eqb k 0) && not (eqb k kinds.F_STRING)) h in
      let h₁ = and_r (no_text w && disjoint w sign_words) (not (eqb k 0) && not (eqb k kinds.F_STRING)) h in
      alone k x i j (plain_word x w (and_l (no_text w) (disjoint w sign_words) h₀) m) (F→eq (eqb k kinds.F_STRING) (T_not (eqb k kinds.F_STRING) (and_r (not (eqb k 0)) (not (eqb k kinds.F_STRING)) h₁))) e (apart w sign_words x.word (and_r (no_text w) (disjoint w sign_words) h₀) m)
  noted_from w x (note k ∷ y ∷ t) h e m u = absurd h
  noted_from w x (left_side n n₁ ∷ t) h e m u = absurd h
  noted_from w x (text n ∷ t) h e m u = absurd h

  single_from : {d : Counts} {i r : S.Place} {p : Parts} (t : List Symbol) → T (single t) → ReadingBy S l G d t i r p → FromSource S l G (grow p fresh).kids
  unfolding grow
  single_from [] h u = absurd h
  single_from (token g w ∷ t) h (reads_token {x = x} e m k u) = noted_from w x t h e m u
  single_from (phrase o n ∷ t) h u = absurd h
  single_from (unless w ∷ t) h u = absurd h
  single_from (note k ∷ t) h u = absurd h
  single_from (left_side n m ∷ t) h u = absurd h
  single_from (text n ∷ t) h u = absurd h

  -- what is owed where symbols make an f-string's row: that all that was read stands
  abbrev Owed : List Symbol → State → Type 0
  Owed t b = T (plain_notes t) ⊎ (T (stringy t) × Stands S l G kinds.F_STRING b.read)

  entered : (b : Bool) (a : State) → FromSource S l G a.kids → FromSource S l G (enter b a).kids
  entered true a u = u
  entered false a u = tt

  left_by : (b : Bool) (a c : State) → FromSource S l G a.kids → FromSource S l G c.kids → FromSource S l G (leave b a c).kids
  left_by true a c u v = v
  left_by false a c u v = from_two a.kids c.kids u v

  inner : {d : Counts} {i r : S.Place} (n : ℕ) (c : List Symbol) (p : Parts) → In c (alternatives l n) → ReadingBy S l G d c i r p → ((b : State) → Owed c (grow p b) → FromSource S l G b.kids → FromSource S l G (grow p b).kids) → (a : State) → FromSource S l G a.kids → (b : Bool) → one_of n rest_kinds ≡ b → FromSource S l G (grow p (enter b a)).kids
  inner {d} {i} {r} n c p o t f a u b e = elim (or_cases (plain_notes c) (not (one_of n rest_kinds) && (single c || eqb n F_STRING)) (passes_at known l.rules n all_known o)) [
    | inl h ↦ f (enter b a) (inl h) (entered b a u)
    | inr h ↦ own b e (and_r (not (one_of n rest_kinds)) (single c || eqb n F_STRING) h) (and_l (not (one_of n rest_kinds)) (single c || eqb n F_STRING) h)
  ]
    where
      string_from : n ≡ F_STRING → FromSource S l G (grow p fresh).kids
      string_from m =
          let z = is_string m o in
          f fresh (inr (subst (λ (y : List Symbol). T (stringy y)) (sym z) tt, stands_string d i r refl (subst (λ (y : List Symbol). ReadingBy S l G d y i r p) z t) (grown_read p fresh))) tt

      own : (b : Bool) → one_of n rest_kinds ≡ b → T (single c || eqb n F_STRING) → T (not (one_of n rest_kinds)) → FromSource S l G (grow p (enter b a)).kids
      own true k h g = absurd (T_not (one_of n rest_kinds) g (subst T (sym k) tt))
      own false k h g = elim (or_cases (single c) (eqb n F_STRING) h) [ inl y ↦ single_from c y t | inr y ↦ string_from (eqb→eq n F_STRING y) ]

  ended_from : {d : Counts} {i r : S.Place} {p : Parts} (t : List Symbol) (a : State) → T (nil_symbols t) → ReadingBy S l G d t i r p → Stands S l G kinds.F_STRING (grow p (noted kinds.F_STRING a)).read → FromSource S l G a.kids → FromSource S l G (grow p (noted kinds.F_STRING a)).kids
  unfolding grow
  ended_from [] a h reads_end o u = note_from kinds.F_STRING a (λ y. o) u
  ended_from (x ∷ t) a h v o u = absurd h

  gathered : {d : Counts} {t : List Symbol} {i r : S.Place} {p : Parts} (a : State) → ReadingBy S l G d t i r p → Owed t (grow p a) → FromSource S l G a.kids → FromSource S l G (grow p a).kids
  unfolding grow
  gathered a reads_end o u = u
  gathered a (reads_token {x = x} e m k v) o u = gathered (add x a) v o (token_from x a u)
  gathered a (reads_phrase {n = n} {a = c} {p = p} i t v) o u =
      let b = one_of n rest_kinds in
      gathered (leave b a (grow p (enter b a))) v o (left_by b a (grow p (enter b a)) u (inner n c p i t (λ b' o' u'. gathered b' t o' u') a u b refl))
  gathered a (reads_unless m v) o u = elim o [ inl h ↦ gathered a v (inl h) u | inr h ↦ absurd h.0 ]
  gathered a (reads_note {k = k} {s = t} {p = p} v) o u = elim o [
    | inl h ↦ gathered (noted k a) v (inl (and_r (plain_note k) (plain_notes t) h)) (note_from k a (λ y. not_copied k a (and_l (plain_note k) (plain_notes t) h) (T→eq (one_of (head_for k a).kind copied) y)) u)
    | inr h ↦ subst (λ (m : ℕ). Stands S l G kinds.F_STRING (grow p (noted m a)).read → FromSource S l G (grow p (noted m a)).kids) (sym (eqb→eq k kinds.F_STRING (and_l (eqb k kinds.F_STRING) (nil_symbols t) h.0))) (λ y. ended_from t a (and_r (eqb k kinds.F_STRING) (nil_symbols t) h.0) v y u) h.1
  ]
  gathered a (reads_side {n = n} {n₁ = m} {a = c} {s = t} {p = p} i v k w) o u =
      let b = one_of n rest_kinds in
      elim o [
        | inl h ↦ gathered (leave b a (grow p (enter b a))) w (inl (plain_if (l.is_path p) m t h)) (left_by b a (grow p (enter b a)) u (inner n c p i v (λ b' o' u'. gathered b' v o' u') a u b refl))
        | inr h ↦ absurd h.0
      ]
  gathered a (reads_text {n = n} {s = t} {x = x} e k v) o u = gathered (add x a) v (elim o [ inl h ↦ inl (plain_if (eqb x.word l.hole) n t h) | inr h ↦ inr (stringy_if (eqb x.word l.hole) n t h.0, h.1) ]) (token_from x a u)

  pub from_source : {d : Counts} {i r : S.Place} {p : Parts} → ReadingBy S l G d (start true) i r p → FromSource S l G (grow p fresh).kids
  from_source u = gathered fresh u (inl tt) tt
