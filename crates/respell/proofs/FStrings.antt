-- An f-string that is copied whole, with its closing quote: every token and piece of text that a reading of it takes is shown in the copy.
use mathlib.Core.Path.{◌≡◌, refl, sym, ap, ◌∙◌, subst}
use mathlib.Core.Logic.{◌⊎◌, inl, inr}
use mathlib.Core.List.{List, [], ◌∷◌, ◌++◌, append-nil, append_assoc}
use mathlib.Core.Bool.{Bool, true, false, not, ◌&&◌, ◌||◌, cond, true≢false}
use Prim.Native.Nat.{ℕ, zero, suc, ◌+◌, ◌-◌, ◌<◌, ◌≤◌}
use native.Mathlib.Omega.{arith}
use lib.ListN.{length}
use lib.Dec.{T, T_not, eqb, eqb→eq}
use borrow.Author.Tests.{eq-eqb}
use Rattle.rows.specs.Kinds as kinds
use Rattle.chars.specs.Chars.{byte_at, is_class}
use Rattle.texts.specs.Signs.{quote}
use Rattle.grammar.specs.Words.{open_brace, close_brace, f_quote, text_then_hole}
use Rattle.grammar.specs.Grammar.{Ask, has_value, same, Symbol, token, phrase, unless, note, left_side, text, Rule, Token, found, Stream, Parts, leaf, Language, In, here, there, one_of, alternatives}
use Rattle.grammar.specs.Limits.{Counts, after, inside}
use Rattle.grammar.specs.Kinds.{HOLE}
use Rattle.grammar.specs.Table.{row}
use Rattle.grammar.specs.Language.{roto}
use Rattle.grammar.specs.Readings.{reads_end, reads_token, reads_phrase, reads_unless, reads_note, reads_side, reads_text, ReadingBy}
use Rattle.grammar.proofs.Bools.{and_l, and_r, or_cases}
use Rattle.grammar.proofs.Pass.{each_passes, passes_at}
use Rattle.answers.specs.Source.{source}
use Rattle.answers.proofs.Ahead.{tokens_take}
use Rattle.respell.specs.Copies.{Copied, is_stop}
use Rattle.respell.specs.Shown.{placed, Like, is_piece, tail_symbols, Again, Shown, shown_none, shown_token, shown_piece, tokens_of}
use Rattle.respell.specs.Spelt.{hole_symbols}
use Rattle.respell.proofs.Looks.{look_lies, look_end, look_copied}
use Rattle.respell.proofs.Pieces.{piece_lies, piece_quote, piece_last, piece_copied}

-- one list behind another
pub append : {S : Stream} {Q : Token → Token → Type 0} {xs ys : List Token} {i j r : S.Place} → Shown S Q xs i j → Shown S Q ys j r → Shown S Q (xs ++ ys) i r
append shown_none v = v
append (shown_token e b w u) v = shown_token e b w (append u v)
append (shown_piece e b w u) v = shown_piece e b w (append u v)

module _ (s : List ℕ) where
  pub token_takes : (x : Token) (i j : ℕ) → (source s).look i ≡ found x j → i < j
  token_takes x i j e = let g = tokens_take s x i j e in omega arith

  -- a reading doesn't go back
  pub onward : {l : Language} {G : Ask → Counts → Token → Bool} {d : Counts} {b : List Symbol} {i r : ℕ} {p : Parts} → ReadingBy (source s) l G d b i r p → i ≤ r
  onward reads_end = omega arith
  onward (reads_token {x = x} {i = i} {j = j} e m k t) = let h = onward t in let g = token_takes x i j e in omega arith
  onward (reads_phrase o t u) = let h = onward t in let g = onward u in omega arith
  onward (reads_unless m t) = onward t
  onward (reads_note t) = onward t
  onward (reads_side o t m u) = let h = onward t in let g = onward u in omega arith
  onward (reads_text {x = x} {i = i} {j = j} e k t) = let h = onward t in let g = (piece_lies s i x j e).0 in omega arith

-- symbols that take no token
abbrev pub still : List Symbol → Bool
still [] = true
still (token g w ∷ b) = false
still (phrase o n ∷ b) = false
still (unless w ∷ b) = false
still (note k ∷ b) = still b
still (left_side n m ∷ b) = false
still (text n ∷ b) = false

pub still_reads : (s : List ℕ) {l : Language} {G : Ask → Counts → Token → Bool} {d : Counts} (b : List Symbol) {i r : ℕ} {p : Parts} → T (still b) → ReadingBy (source s) l G d b i r p → (i ≡ r) × (tokens_of p ≡ [])
unfolding tokens_of
still_reads s [] h reads_end = (refl, refl)
still_reads s (note k ∷ b) h (reads_note u) = still_reads s b h u
still_reads s (token g w ∷ b) h u = absurd h
still_reads s (phrase o n ∷ b) h u = absurd h
still_reads s (unless w ∷ b) h u = absurd h
still_reads s (left_side n m ∷ b) h u = absurd h
still_reads s (text n ∷ b) h u = absurd h

-- what a reading of a hole and of what stands behind it consists of
pub record Holed (s : List ℕ) (l : Language) (G : Ask → Counts → Token → Bool) (d : Counts) (b : List Symbol) (i r : ℕ) (p : Parts) : Type 0 where
  pub middle : ℕ
  pub inner : Parts
  pub outer : Parts
  pub hole : ReadingBy (source s) l G (inside same d) hole_symbols i middle inner
  pub rest : ReadingBy (source s) l G d b middle r outer
  pub tokens : tokens_of p ≡ tokens_of inner ++ tokens_of outer

module _ (s : List ℕ) (l : Language) (hole-word : l.hole ≡ text_then_hole) (holes : (b : List Symbol) → In b (alternatives l HOLE) → b ≡ hole_symbols) (G : Ask → Counts → Token → Bool) where
  pub holed : {d : Counts} {b : List Symbol} {i r : ℕ} {p : Parts} → ReadingBy (source s) l G d (phrase same HOLE ∷ b) i r p → Holed s l G d b i r p
  unfolding tokens_of
  holed (reads_phrase {d = d} {a = c} {i = i} {m = m} {p = p} {q = p₂} o u v) = record {
    middle = m;
    inner = p;
    outer = p₂;
    hole = subst (λ (z : List Symbol). ReadingBy (source s) l G (inside same d) z i m p) (holes c o) u;
    rest = v;
    tokens = refl;
  }

  hole_moves : {d : Counts} {i r : ℕ} {p : Parts} → ReadingBy (source s) l G d hole_symbols i r p → i < r
  hole_moves (reads_token {x = x} {i = i} {j = j} e m k u) = let g = token_takes s x i j e in let h = onward s u in omega arith

  pub text_moves : {d : Counts} {b : List Symbol} {i r : ℕ} {p : Parts} → ReadingBy (source s) l G d (text HOLE ∷ b) i r p → i < r
  text_moves (reads_text {d = d} {s = b} {x = x} {i = i} {j = j} {r = r} {p = p} e k u) = by (piece_lies s i x j e).1
    where
      open_hole : x.word ≡ text_then_hole → ReadingBy (source s) l G (after has_value d) (phrase same HOLE ∷ b) j r p
      open_hole w = subst (λ (z : Bool). ReadingBy (source s) l G (after has_value d) (cond z (phrase same HOLE ∷ b) b) j r p) (eq-eqb x.word l.hole (w ∙ sym hole-word)) u

      by : (x.word ≡ text_then_hole) ⊎ (i < j) → i < r
      by (inl w) =
          let f = (piece_lies s i x j e).0 in
          let z = holed (open_hole w) in
          let g = hole_moves z.hole in
          let h = onward s z.rest in
          omega arith
      by (inr f) = let h = onward s u in omega arith

  -- where an f-string's text ends, its quote stands
  abbrev Closed : ℕ → Type 0
  Closed r = (e : ℕ) × (r ≡ e + 1) × (byte_at s e ≡ quote) × (e < length s)

  abbrev Closes : ℕ → Type 0
  Closes n = (d : Counts) (b : List Symbol) (i r : ℕ) (p : Parts) → T (still b) → ReadingBy (source s) l G d (text HOLE ∷ b) i r p → r ≤ i + n → Closed r

  hole_closes : (n : ℕ) → Closes n → {d : Counts} {i r : ℕ} {p : Parts} → ReadingBy (source s) l G d hole_symbols i r p → r ≤ i + suc n → Closed r
  hole_closes n ih {i = i} {r = r} (reads_token {x = x} {j = j} e m k (reads_phrase {m = c} o v (reads_token {x = y} {j = f} e₂ m₂ k₂ u))) h =
      let g₁ = token_takes s x i j e in
      let g₂ = onward s v in
      let g₃ = token_takes s y c f e₂ in
      ih _ [] f r _ tt u (omega arith)

  pub closes : (n : ℕ) → Closes n
  closes zero d b i r p f u h = absurd (let g = text_moves u in omega arith)
  closes (suc n) d b i r p f (reads_text {x = x} {j = j} {p = p₁} e k u) h = by (eqb x.word l.hole) refl (closes n)
    where
      read_as : (c : Bool) → eqb x.word l.hole ≡ c → ReadingBy (source s) l G (after has_value d) (cond c (phrase same HOLE ∷ b) b) j r p₁
      read_as c w = subst (λ (o : Bool). ReadingBy (source s) l G (after has_value d) (cond o (phrase same HOLE ∷ b) b) j r p₁) w u

      by : (c : Bool) → eqb x.word l.hole ≡ c → Closes n → Closed r
      by true w ih =
          let y = holed (read_as true w) in
          let end = (still_reads s b f y.rest).0 in
          let le = (piece_lies s i x j e).0 in
          subst Closed end (hole_closes n ih y.hole (omega arith))
      by false w ih =
          let end = (still_reads s b f (read_as false w)).0 in
          subst Closed end (piece_quote s i x j e (λ o. true≢false (sym (eq-eqb x.word l.hole (o ∙ sym hole-word)) ∙ w)))

  -- and its last token is the piece of text before that quote
  pub record LastPiece (p : Parts) (r : ℕ) : Type 0 where
    pub earlier : List Token
    pub final : Token
    pub tokens : tokens_of p ≡ earlier ++ (final ∷ [])
    pub there : final.end + 1 ≡ r
    pub piece : T (is_piece final.word)

  abbrev Lasts : ℕ → Type 0
  Lasts n = (d : Counts) (b : List Symbol) (i r : ℕ) (p : Parts) → T (still b) → ReadingBy (source s) l G d (text HOLE ∷ b) i r p → r ≤ i + n → LastPiece p r

  hole_last : (n : ℕ) → Lasts n → {d : Counts} {i r : ℕ} {p : Parts} → ReadingBy (source s) l G d hole_symbols i r p → r ≤ i + suc n → LastPiece p r
  unfolding tokens_of
  hole_last n ih {i = i} {r = r} (reads_token {x = x} {j = j} e m k (reads_phrase {m = c} {p = p₁} o v (reads_token {x = y} {j = f} e₂ m₂ k₂ u))) h =
      let g₁ = token_takes s x i j e in
      let g₂ = onward s v in
      let g₃ = token_takes s y c f e₂ in
      let z = ih _ [] f r _ tt u (omega arith) in
      record { earlier = x ∷ (tokens_of p₁ ++ (y ∷ z.earlier)); final = z.final; tokens = ap (λ (o : List Token). x ∷ (tokens_of p₁ ++ (y ∷ o))) z.tokens ∙ ap (λ (o : List Token). x ∷ o) (sym (append_assoc (tokens_of p₁) (y ∷ z.earlier) (z.final ∷ []))); there = z.there; piece = z.piece }

  pub lasts : (n : ℕ) → Lasts n
  unfolding tokens_of
  lasts zero d b i r p f u h = absurd (let g = text_moves u in omega arith)
  lasts (suc n) d b i r p f (reads_text {x = x} {j = j} {p = p₁} e k u) h = by (eqb x.word l.hole) refl (lasts n)
    where
      read_as : (c : Bool) → eqb x.word l.hole ≡ c → ReadingBy (source s) l G (after has_value d) (cond c (phrase same HOLE ∷ b) b) j r p₁
      read_as c w = subst (λ (o : Bool). ReadingBy (source s) l G (after has_value d) (cond o (phrase same HOLE ∷ b) b) j r p₁) w u

      by : (c : Bool) → eqb x.word l.hole ≡ c → Lasts n → LastPiece (leaf x p₁) r
      by true w ih =
          let y = holed (read_as true w) in
          let st = still_reads s b f y.rest in
          let le = (piece_lies s i x j e).0 in
          let end = st.0 in
          let z = hole_last n ih y.hole (omega arith) in
          record { earlier = x ∷ z.earlier; final = z.final; tokens = ap (λ (o : List Token). x ∷ o) (y.tokens ∙ ap (λ (o : List Token). tokens_of y.inner ++ o) st.1 ∙ append-nil (tokens_of y.inner) ∙ z.tokens); there = z.there ∙ st.0; piece = z.piece }
      by false w ih =
          let st = still_reads s b f (read_as false w) in
          let z = piece_last s i x j e (λ o. true≢false (sym (eq-eqb x.word l.hole (o ∙ sym hole-word)) ∙ w)) in
          record { earlier = []; final = x; tokens = ap (λ (o : List Token). x ∷ o) st.1; there = z.0 ∙ st.0; piece = z.1 }

-- In an alternative, behind `f"` stands what makes an f-string, and nothing else.
abbrev no_more : List Symbol → Bool
no_more [] = true
no_more (a ∷ b) = false

abbrev notes_string : List Symbol → Bool
notes_string [] = false
notes_string (token g w ∷ b) = false
notes_string (phrase o n ∷ b) = false
notes_string (unless w ∷ b) = false
notes_string (note k ∷ b) = eqb k kinds.F_STRING && no_more b
notes_string (left_side n m ∷ b) = false
notes_string (text n ∷ b) = false

abbrev is_tail : List Symbol → Bool
is_tail [] = false
is_tail (token g w ∷ b) = false
is_tail (phrase o n ∷ b) = false
is_tail (unless w ∷ b) = false
is_tail (note k ∷ b) = false
is_tail (left_side n m ∷ b) = false
is_tail (text n ∷ b) = eqb n HOLE && notes_string b

abbrev pub quoted : List Symbol → Bool
quoted [] = true
quoted (token g w ∷ b) = (not (one_of f_quote w) || is_tail b) && quoted b
quoted (phrase o n ∷ b) = quoted b
quoted (unless w ∷ b) = quoted b
quoted (note k ∷ b) = quoted b
quoted (left_side n m ∷ b) = quoted b
quoted (text n ∷ b) = quoted b

abbrev pub all_quoted : List Rule → Bool
all_quoted = each_passes (λ n b. quoted b)

quoted_if : (c : Bool) (n : ℕ) (b : List Symbol) → T (quoted b) → T (quoted (cond c (phrase same n ∷ b) b))
quoted_if true n b h = h
quoted_if false n b h = h

none_is : (b : List Symbol) → T (no_more b) → b ≡ []
none_is [] h = refl
none_is (a ∷ b) h = absurd h

note_is : (b : List Symbol) → T (notes_string b) → b ≡ row kinds.F_STRING ∷ []
note_is [] h = absurd h
note_is (token g w ∷ b) h = absurd h
note_is (phrase o n ∷ b) h = absurd h
note_is (unless w ∷ b) h = absurd h
note_is (note k ∷ b) h = ap (λ (n : ℕ). note n ∷ b) (eqb→eq k kinds.F_STRING (and_l (eqb k kinds.F_STRING) (no_more b) h)) ∙ ap (λ (o : List Symbol). row kinds.F_STRING ∷ o) (none_is b (and_r (eqb k kinds.F_STRING) (no_more b) h))
note_is (left_side n m ∷ b) h = absurd h
note_is (text n ∷ b) h = absurd h

tail_is : (b : List Symbol) → T (is_tail b) → b ≡ tail_symbols
tail_is [] h = absurd h
tail_is (token g w ∷ b) h = absurd h
tail_is (phrase o n ∷ b) h = absurd h
tail_is (unless w ∷ b) h = absurd h
tail_is (note k ∷ b) h = absurd h
tail_is (left_side n m ∷ b) h = absurd h
tail_is (text n ∷ b) h = ap (λ (m : ℕ). text m ∷ b) (eqb→eq n HOLE (and_l (eqb n HOLE) (notes_string b) h)) ∙ ap (λ (o : List Symbol). text HOLE ∷ o) (note_is b (and_r (eqb n HOLE) (notes_string b) h))

-- another word
other : (c k : ℕ) → T (one_of c (k ∷ [])) → T (not (eqb k f_quote)) → c ≡ f_quote → ⊥
other c k m h e = elim (or_cases (eqb c k) false m) [ inl f ↦ T_not (eqb k f_quote) h (subst (λ (n : ℕ). T (eqb n f_quote)) (eqb→eq c k f) (subst (λ (n : ℕ). T (eqb n f_quote)) (sym e) tt)) | inr f ↦ absurd f ]

module _ {s t : List ℕ} {lo : ℕ} (q q' : ℕ) (copy : Copied s t lo (q + 1) (q' + 1)) (shut : byte_at s q ≡ quote) (first : lo ≤ q) where
  short : Copied s t lo q q'
  short = record { bytes = λ i i' l h at. copy.bytes i i' l (omega arith) (omega arith); in_s = let g = copy.in_s in omega arith; in_t = let g = copy.in_t in omega arith }

  shut' : byte_at t q' ≡ quote
  shut' = copy.bytes q q' first (omega arith) (omega arith) ∙ shut

  stop : is_stop (byte_at t q') ≡ true
  unfolding is_stop is_class
  stop = ap is_stop shut'

  closes_too : eqb (byte_at t q') 34 ≡ true → eqb (byte_at s q) 34 ≡ true
  closes_too h = ap (λ (b : ℕ). eqb b 34) shut

  module _ (l : Language) (hole-word : l.hole ≡ text_then_hole) (holes : (b : List Symbol) → In b (alternatives l HOLE) → b ≡ hole_symbols) (quotes : T (all_quoted l.rules)) (G : Ask → Counts → Token → Bool) where
    abbrev Q : Token → Token → Type 0
    Q = Again s t l G

    abbrev Reach : Token → Type 0
    Reach x = x.word ≡ f_quote → (d : Counts) × (r : ℕ) × (p : Parts) × ReadingBy (source s) l G d tail_symbols x.end r p × (r ≤ q + 1)

    -- what is read behind `f"` lies in the copy
    reach_of : {d : Counts} (w : List ℕ) (b : List Symbol) {j r : ℕ} {p : Parts} (x : Token) → T (not (one_of f_quote w) || is_tail b) → T (one_of x.word w) → x.end ≡ j → ReadingBy (source s) l G d b j r p → r ≤ q + 1 → Reach x
    reach_of {d} w b {j} {r} {p} x h m f u le e =
        let z : b ≡ tail_symbols = elim (or_cases (not (one_of f_quote w)) (is_tail b) h) [ inl k ↦ absurd (T_not (one_of f_quote w) k (subst (λ (c : ℕ). T (one_of c w)) e m)) | inr k ↦ tail_is b k ] in
        (d, r, p, subst (λ (n : ℕ). ReadingBy (source s) l G d tail_symbols n r p) (sym f) (subst (λ (o : List Symbol). ReadingBy (source s) l G d o j r p) z u), le)

    look_too : (x : Token) (i j : ℕ) → (source s).look i ≡ found x j → j ≤ q → (i' j' : ℕ) → lo ≤ i → i + q' ≡ i' + q → j + q' ≡ j' + q → Reach x → (y : Token) × ((source t).look i' ≡ found y j') × Q x y × T (not (is_piece x.word))
    look_too x i j e h i' j' l' at to reach =
        let v = look_lies s i x j e in
        let v₀ = v.0 in
        let v₁ = v.1 in
        let in_t = copy.in_t in
        let end = look_end s i x j e in
        let a' : ℕ = i' + (x.start - i) in
        let f : x.start + (q' + 1) ≡ a' + (q + 1) = omega arith in
        let g : x.end + (q' + 1) ≡ j' + (q + 1) = omega arith in (
          placed x a' j',
          look_copied short stop closes_too i i' l' at x j e h a' j' (omega arith) to (λ w. omega arith),
          record { like = refl; moved = λ o n. record { lo = lo; q = q + 1; q' = q' + 1; copy = copy; from = omega arith; to = omega arith; starts = f; ends = g; reach = reach } },
          v.2,
        )

    piece_again : {x y : Token} → Like x y → T (is_piece x.word) → Q x y
    piece_again {x} b f = record { like = b; moved = λ o n. absurd (T_not (is_piece x.word) n f) }

    -- what is read before the closing quote
    inner_shown : {d : Counts} {b : List Symbol} {i r : ℕ} {p : Parts} → ReadingBy (source s) l G d b i r p → T (quoted b) → r ≤ q → (i' r' : ℕ) → lo ≤ i → i + q' ≡ i' + q → r + q' ≡ r' + q → Shown (source t) Q (tokens_of p) i' r'
    unfolding tokens_of
    inner_shown reads_end c h i' r' l' at to = let z : i' ≡ r' = omega arith in subst (λ (k : ℕ). Shown (source t) Q [] i' k) z shown_none
    inner_shown (reads_token {w = w} {s = b} {x = x} {i = i} {j = j} e m k u) c h i' r' l' at to =
        let g = onward s u in
        let f = token_takes s x i j e in
        let j' : ℕ = i' + (j - i) in
        let v = look_too x i j e (omega arith) i' j' l' at (omega arith) (reach_of w b x (and_l (not (one_of f_quote w) || is_tail b) (quoted b) c) m (look_end s i x j e) u (omega arith)) in
        shown_token {y = v.0} v.1 v.2 v.3 (inner_shown u (and_r (not (one_of f_quote w) || is_tail b) (quoted b) c) h j' r' (omega arith) (omega arith) to)
    inner_shown (reads_phrase {n = n} {i = i} {m = m} o u v) c h i' r' l' at to =
        let g = onward s u in
        let f = onward s v in
        let m' : ℕ = i' + (m - i) in
        append (inner_shown u (passes_at (λ n b. quoted b) l.rules n quotes o) (omega arith) i' m' l' at (omega arith)) (inner_shown v c h m' r' (omega arith) (omega arith) to)
    inner_shown (reads_unless m u) c h i' r' l' at to = inner_shown u c h i' r' l' at to
    inner_shown (reads_note u) c h i' r' l' at to = inner_shown u c h i' r' l' at to
    inner_shown (reads_side {n = n} {n₁ = n₁} {s = b} {i = i} {m = m} {p = p} o u k v) c h i' r' l' at to =
        let g = onward s u in
        let f = onward s v in
        let m' : ℕ = i' + (m - i) in
        append (inner_shown u (passes_at (λ n b. quoted b) l.rules n quotes o) (omega arith) i' m' l' at (omega arith)) (inner_shown v (quoted_if (l.is_path p) n₁ b c) h m' r' (omega arith) (omega arith) to)
    inner_shown (reads_text {n = n} {s = b} {x = x} {i = i} {j = j} e k u) c h i' r' l' at to =
        let g = onward s u in
        let f = (piece_lies s i x j e).0 in
        let j' : ℕ = i' + (j - i) in
        let v = piece_copied q q' copy shut i i' j j' x l' (omega arith) at e (omega arith) (λ w. omega arith) (omega arith) in
        shown_piece {y = v.0} v.1 (piece_again v.2 v.3) v.3 (inner_shown u (quoted_if (eqb x.word l.hole) n b c) h j' r' (omega arith) (omega arith) to)

    abbrev Texts : ℕ → Type 0
    Texts n = (d : Counts) (b : List Symbol) (i r : ℕ) (p : Parts) → T (still b) → ReadingBy (source s) l G d (text HOLE ∷ b) i r p → r ≡ q + 1 → q + 1 ≤ i + n → (i' : ℕ) → lo ≤ i → i + q' ≡ i' + q → Shown (source t) Q (tokens_of p) i' (q' + 1)

    hole_shown : (n : ℕ) → Texts n → (d : Counts) (i r : ℕ) (p : Parts) → ReadingBy (source s) l G d hole_symbols i r p → r ≡ q + 1 → q + 1 ≤ i + suc n → (i' : ℕ) → lo ≤ i → i + q' ≡ i' + q → Shown (source t) Q (tokens_of p) i' (q' + 1)
    unfolding tokens_of
    hole_shown n ih d i r p (reads_token {x = x} {j = j} e m k (reads_phrase {n = kind} {m = c} o v (reads_token {x = y} {j = f} e₂ m₂ k₂ u))) z h i' from at =
        let g₁ = token_takes s x i j e in
        let g₂ = onward s v in
        let g₃ = token_takes s y c f e₂ in
        let g₄ = text_moves s l hole-word holes G u in
        let j' : ℕ = i' + (j - i) in
        let c' : ℕ = i' + (c - i) in
        let f' : ℕ = i' + (f - i) in
        let w₁ = look_too x i j e (omega arith) i' j' from at (omega arith) (λ g. absurd (other x.word open_brace m tt g)) in
        let w₂ = inner_shown v (passes_at (λ n b. quoted b) l.rules kind quotes o) (omega arith) j' c' (omega arith) (omega arith) (omega arith) in
        let w₃ = look_too y c f e₂ (omega arith) c' f' (omega arith) (omega arith) (omega arith) (λ g. absurd (other y.word close_brace m₂ tt g)) in
        shown_token {y = w₁.0} w₁.1 w₁.2 w₁.3 (append w₂ (shown_token {y = w₃.0} w₃.1 w₃.2 w₃.3 (ih _ [] f r _ tt u z (omega arith) f' (omega arith) (omega arith))))

    texts : (n : ℕ) → Texts n
    unfolding tokens_of
    texts zero d b i r p f u z h i' from at = absurd (let g = text_moves s l hole-word holes G u in omega arith)
    texts (suc n) d b i r p f (reads_text {x = x} {j = j} {p = p₁} e k u) z h i' from at = by (eqb x.word l.hole) refl (texts n)
      where
        back : i ≤ j
        back = (piece_lies s i x j e).0

        read_as : (c : Bool) → eqb x.word l.hole ≡ c → ReadingBy (source s) l G (after has_value d) (cond c (phrase same HOLE ∷ b) b) j r p₁
        read_as c w = subst (λ (o : Bool). ReadingBy (source s) l G (after has_value d) (cond o (phrase same HOLE ∷ b) b) j r p₁) w u

        by : (c : Bool) → eqb x.word l.hole ≡ c → Texts n → Shown (source t) Q (x ∷ tokens_of p₁) i' (q' + 1)
        by true w ih =
            let y = holed s l hole-word holes G (read_as true w) in
            let g = hole_moves s l hole-word holes G y.hole in
            let st = still_reads s b f y.rest in
            let end = st.0 in
            let le = back in
            let j' : ℕ = i' + (j - i) in
            let v = piece_copied q q' copy shut i i' j j' x from (omega arith) at e (omega arith) (λ o. omega arith) (omega arith) in
            let list : tokens_of y.inner ≡ tokens_of p₁ = sym (append-nil (tokens_of y.inner)) ∙ ap (λ (o : List Token). tokens_of y.inner ++ o) (sym st.1) ∙ sym y.tokens in
            shown_piece {y = v.0} v.1 (piece_again v.2 v.3) v.3 (subst (λ (o : List Token). Shown (source t) Q o j' (q' + 1)) list (hole_shown n ih _ j y.middle y.inner y.hole (end ∙ z) (omega arith) j' (omega arith) (omega arith)))
        by false w ih =
            let st = still_reads s b f (read_as false w) in
            let end = st.0 in
            let none : x.word ≡ text_then_hole → ⊥ = λ o. true≢false (sym (eq-eqb x.word l.hole (o ∙ sym hole-word)) ∙ w) in
            let lt : i < j = elim (piece_lies s i x j e).1 [ inl o ↦ absurd (none o) | inr o ↦ o ] in
            let v = piece_copied q q' copy shut i i' j (q' + 1) x from (omega arith) at e (omega arith) (λ o. absurd (none o)) (omega arith) in
            shown_piece {y = v.0} v.1 (piece_again v.2 v.3) v.3 (subst (λ (o : List Token). Shown (source t) Q o (q' + 1) (q' + 1)) (sym st.1) shown_none)

    -- its `f"`, and what stands behind
    pub quoted_shown : (d : Counts) (i j : ℕ) (x : Token) (p : Parts) → (source s).look i ≡ found x j → ReadingBy (source s) l G d tail_symbols j (q + 1) p → (i' : ℕ) → lo ≤ i → i + q' ≡ i' + q → Shown (source t) Q (x ∷ tokens_of p) i' (q' + 1)
    quoted_shown d i j x p e u i' from at =
        let g = token_takes s x i j e in
        let f = text_moves s l hole-word holes G u in
        let j' : ℕ = i' + (j - i) in
        let reach : Reach x = λ o. (d, q + 1, p, subst (λ (n : ℕ). ReadingBy (source s) l G d tail_symbols n (q + 1) p) (sym (look_end s i x j e)) u, omega arith) in
        let w = look_too x i j e (omega arith) i' j' from at (omega arith) reach in
        shown_token {y = w.0} w.1 w.2 w.3 (texts (q + 1) d _ j (q + 1) p tt u refl (omega arith) j' (omega arith) (omega arith))

-- the grammar's own facts
abbrev Alts : (List Symbol → Type 0) → List (List Symbol) → Type 0
Alts C [] = Unit {0}
Alts C (b ∷ bs) = C b × Alts C bs

each : (C : List Symbol → Type 0) {b : List Symbol} {bs : List (List Symbol)} → In b bs → Alts C bs → C b
each C here h = h.0
each C (there o) h = each C o h.1

pub roto_holes : (tests : Bool) (b : List Symbol) → In b (alternatives (roto tests) HOLE) → b ≡ hole_symbols
unfolding roto
roto_holes true b o = each (λ (c : List Symbol). c ≡ hole_symbols) o (refl, tt)
roto_holes false b o = each (λ (c : List Symbol). c ≡ hole_symbols) o (refl, tt)

pub roto_hole : (tests : Bool) → (roto tests).hole ≡ text_then_hole
unfolding roto
roto_hole tests = refl

pub roto_quotes : (tests : Bool) → T (all_quoted (roto tests).rules)
unfolding roto
roto_quotes true = tt
roto_quotes false = tt
