-- What is copied has the same text in the print.
use mathlib.Core.Path.{◌≡◌, refl, sym, ap, subst, ◌∙◌}
use mathlib.Core.Logic.{◌⊎◌}
use mathlib.Core.List.{List, [], ◌∷◌}
use mathlib.Core.Bool.{Bool, true, false, not, cond, true≢false}
use Prim.Native.Nat.{ℕ, ◌+◌, ◌-◌, ◌<◌, ◌≤◌}
use native.Mathlib.Omega.{arith}
use lib.ListN.{length}
use lib.Dec.{T, T_not, eqb}
use lib.Seq.{slice}
use Rattle.rows.specs.Kinds as kinds
use Rattle.chars.specs.Chars.{byte_at}
use Rattle.texts.specs.Signs.{quote}
use Rattle.grammar.specs.Grammar.{Ask, Symbol, Token, found, Stream, Parts, one_of}
use Rattle.grammar.specs.Limits.{Counts, kept}
use Rattle.grammar.specs.Readings.{ReadingBy, reads_end, reads_token, reads_phrase, reads_unless, reads_note, reads_side, reads_text}
use Rattle.answers.specs.Source.{source}
use Rattle.canon.specs.Trees.{tree, copied}
use Rattle.printing.specs.Groves.{Head, Grove, nil, top, bytes_of, label_of, labelled}
use Rattle.printing.specs.Groves as groves
use Rattle.printing.specs.Spelled.{Stands, stands_token, stands_string, FromSource}
use Rattle.printing.proofs.Lists.{l}
use Rattle.printing.proofs.Sources.{sure}
use Rattle.respell.specs.Copies.{Copied}
use Rattle.respell.specs.Shown.{Like, is_piece, tail_symbols, Moved, Again, Shown, shown_none, shown_token, shown_piece, tokens_of}
use Rattle.respell.proofs.Rules.{text_copied}
use Rattle.respell.proofs.Looks.{look_lies, look_end, look_again}
use Rattle.respell.proofs.FStrings.{append, onward, closes, quoted_shown, roto_hole, roto_holes, roto_quotes}
use Rattle.respell.proofs.Endings.{one_found, one_ending}
use Rattle.roundtrip.specs.ReadsBack.{valued}
use Rattle.roundtrip.proofs.Meets.{Stringed, stringed, token_row, token_bytes}
use Rattle.roundtrip.proofs.Twins.{Twins, twins_none, twins_more, Twin, Paired}

-- a reading shows its own tokens
own_shown : (s : List ℕ) {G : Ask → Counts → Token → Bool} {d : Counts} {b : List Symbol} {i r : ℕ} {p : Parts} → ReadingBy (source s) l G d b i r p → Shown (source s) Like (tokens_of p) i r
unfolding tokens_of
own_shown s reads_end = shown_none
own_shown s (reads_token {x = x} {i = i} {j = j} e m k u) = shown_token e refl (look_lies s i x j e).2 (own_shown s u)
own_shown s (reads_phrase o u v) = append (own_shown s u) (own_shown s v)
own_shown s (reads_unless m u) = own_shown s u
own_shown s (reads_note u) = own_shown s u
own_shown s (reads_side o u m v) = append (own_shown s u) (own_shown s v)
own_shown s (reads_text {x = x} {i = i} {j = j} e k u) = shown_piece e refl ((sure s).pieces i j x e) (own_shown s u)

-- part of a copy
part_of : {s t : List ℕ} {lo q q' : ℕ} (lo₂ r r' : ℕ) → Copied s t lo q q' → lo ≤ lo₂ → r ≤ q → r + q' ≡ r' + q → Copied s t lo₂ r r'
part_of lo₂ r r' c l h at = record { bytes = λ i i' k g e. c.bytes i i' (omega arith) (omega arith) (omega arith); in_s = let g = c.in_s in omega arith; in_t = let g = c.in_t in omega arith }

module _ (s w : List ℕ) where
  abbrev pub Q : Token → Token → Type 0
  Q = Again s w l kept

  abbrev pub as_like : (x y : Token) → Q x y → Like x y
  as_like x y q = q.like

  -- from one place on, the same tokens but for their bytes end at one place
  one_stop : {S : Stream} {xs ys : List Token} {i r r' : S.Place} → Shown S Q xs i r → Shown S Like ys i r' → Twins Q as_like xs ys → r ≡ r'
  one_stop shown_none shown_none twins_none = refl
  one_stop shown_none (shown_token f b m v) x = elim x [ ]
  one_stop shown_none (shown_piece f b m v) x = elim x [ ]
  one_stop (shown_token e a n u) shown_none x = elim x [ ]
  one_stop (shown_piece e a n u) shown_none x = elim x [ ]
  one_stop {S} {r' = r'} (shown_token {j = j} e a n u) (shown_token {xs = ys} {j = j'} f b m v) (twins_more q t) = one_stop u (subst (λ (k : S.Place). Shown S Like ys k r') (sym (one_found e f).1) v) t
  one_stop {S} {r' = r'} (shown_piece {j = j} e a n u) (shown_piece {xs = ys} {j = j'} f b m v) (twins_more q t) = one_stop u (subst (λ (k : S.Place). Shown S Like ys k r') (sym (one_found e f).1) v) t
  one_stop (shown_token {x = x} e a n u) (shown_piece f b m v) (twins_more q t) = absurd (T_not (is_piece x.word) n (subst (λ (c : ℕ). T (is_piece c)) (ap (λ (o : Token). o.word) q.like) m))
  one_stop (shown_piece {x = x} e a n u) (shown_token {x = y} f b m v) (twins_more q t) = absurd (T_not (is_piece y.word) m (subst (λ (c : ℕ). T (is_piece c)) (sym (ap (λ (o : Token). o.word) q.like)) n))

  -- an f-string
  module _ (xs ys : List Token) (a : Stringed s kept xs) (b : Stringed w valued ys) (q : Q a.first b.first) (t : Twins Q as_like (a.first ∷ tokens_of a.rest) (b.first ∷ tokens_of b.rest)) where
    abbrev x : Token
    x = a.first

    abbrev y : Token
    y = b.first

    lies : (a.at ≤ x.start) × (x.start < a.next) × T (not (is_piece x.word)) × (a.next ≤ length s)
    lies = look_lies s a.at x a.next a.seen

    ended : x.end ≡ a.next
    ended = look_end s a.at x a.next a.seen

    m : Moved s w l kept x y
    m = q.moved (let g = lies.1 in let h = ended in omega arith) lies.2

    -- it lies in the copy
    inside : a.quote + 1 ≤ m.q
    inside =
        let z = m.reach a.word in
        let u : ReadingBy (source s) l kept z.0 tail_symbols a.next z.1 z.2 = subst (λ (n : ℕ). ReadingBy (source s) l kept z.0 tail_symbols n z.1 z.2) ended z.3 in
        let e : a.quote + 1 ≡ z.1 = one_ending true s kept kept tt tt a.reading u in
        let h = z.4 in
        omega arith

    behind : x.start ≤ a.quote
    behind = let g = lies.1 in let h = onward s a.reading in omega arith

    -- so its quote stands as far behind in w
    abbrev q' : ℕ
    q' = a.quote + m.q' - m.q

    to : a.quote + 1 + m.q' ≡ q' + 1 + m.q
    to = let g = m.starts in let h = behind in let k = inside in omega arith

    copy : Copied s w x.start (a.quote + 1) (q' + 1)
    copy = part_of x.start (a.quote + 1) (q' + 1) m.copy m.from inside to

    shut : byte_at s a.quote ≡ quote
    shut = let z = closes s l (roto_hole true) (roto_holes true) kept (a.quote + 1) a.counts _ a.next (a.quote + 1) a.rest tt a.reading (omega arith) in let z₁ = z.1 in ap (byte_at s) {x = a.quote} {y = z.0} (omega arith) ∙ z.2

    starts : x.start + q' ≡ y.start + a.quote
    starts = let g = m.starts in let h = behind in let k = inside in let o = to in omega arith

    shown : Shown (source w) Q (x ∷ tokens_of a.rest) y.start (q' + 1)
    shown = quoted_shown a.quote q' copy shut behind l (roto_hole true) (roto_holes true) (roto_quotes true) kept a.counts x.start a.next x a.rest (look_again s a.at x a.next a.seen) a.reading y.start (omega arith) starts

    own : Shown (source w) Like (y ∷ tokens_of b.rest) y.start (b.quote + 1)
    own = shown_token (look_again w b.at y b.next b.seen) refl (look_lies w b.at y b.next b.seen).2 (own_shown w b.reading)

    string_same : bytes_of w kinds.F_STRING ys ≡ bytes_of s kinds.F_STRING xs
    string_same =
        let e : q' + 1 ≡ b.quote + 1 = one_stop shown own t in
        let f = starts in
        let g = behind in
        b.bytes ∙ text_copied copy x.start y.start (a.quote + 1) (b.quote + 1) (omega arith) (omega arith) (omega arith) (omega arith) (omega arith) ∙ sym a.bytes

  string_bytes : {xs ys : List Token} (a : Stringed s kept xs) (b : Stringed w valued ys) → Twins Q as_like xs ys → bytes_of w kinds.F_STRING ys ≡ bytes_of s kinds.F_STRING xs
  string_bytes {xs} {ys} a b t = by (subst (λ (o : List Token). Twins Q as_like (a.first ∷ tokens_of a.rest) o) b.are (subst (λ (o : List Token). Twins Q as_like o ys) a.are t))
    where
      by : Twins Q as_like (a.first ∷ tokens_of a.rest) (b.first ∷ tokens_of b.rest) → bytes_of w kinds.F_STRING ys ≡ bytes_of s kinds.F_STRING xs
      by (twins_more q u) = string_same xs ys a b q (twins_more q u)

  -- a token
  token_same : (k : ℕ) (x y : Token) (i j i' j' : ℕ) → T (one_of k copied) → (eqb k kinds.F_STRING ≡ false) ⊎ (k ≡ x.kind) → (eqb k kinds.F_STRING ≡ false) ⊎ (k ≡ y.kind) → (source s).look i ≡ found x j → (source w).look i' ≡ found y j' → Q x y → bytes_of w k (y ∷ []) ≡ bytes_of s k (x ∷ [])
  token_same k x y i j i' j' c f f' e e' q =
      let v = look_lies s i x j e in
      let v₁ = v.1 in
      let g = look_end s i x j e in
      let g' = look_end w i' y j' e' in
      let m = q.moved (omega arith) v.2 in
      let from = m.from in
      let to = m.to in
      let starts = m.starts in
      let ends = m.ends in
      token_bytes w k y i' j' c f' e' ∙ text_copied m.copy x.start y.start j j' from (omega arith) (omega arith) starts (omega arith) ∙ sym (token_bytes s k x i j c f e)

  mixed : (k : ℕ) → eqb k kinds.F_STRING ≡ false → k ≡ kinds.F_STRING → ⊥
  mixed k f e = true≢false (sym (ap (λ (n : ℕ). eqb n kinds.F_STRING) e) ∙ f)

  copied_same : (k : ℕ) (xs ys : List Token) → T (one_of k copied) → Stands (source s) l kept k xs → Stands (source w) l valued k ys → Twins Q as_like xs ys → bytes_of w k ys ≡ bytes_of s k xs
  copied_same k xs ys c (stands_token {x = x} i j f e n) (stands_token {x = y} i' j' f' e' n') (twins_more q twins_none) = token_same k x y i j i' j' c f f' e e' q
  copied_same k xs ys c (stands_token {x = x} i j f e n) (stands_string d' i' j' f' u' h') t = absurd (mixed k (token_row s k x i j f e) f')
  copied_same k xs ys c (stands_string d i j f u h) (stands_token {x = y} i' j' f' e' n') t = absurd (mixed k (token_row w k y i' j' f' e') f)
  copied_same k xs ys c (stands_string d i j f u h) (stands_string d' i' j' f' u' h') t = subst (λ (n : ℕ). bytes_of w n ys ≡ bytes_of s n xs) (sym f) (string_bytes (stringed s kept xs u h) (stringed w valued ys u' h') t)

  text_same : (h h' : Head) → Twin Q as_like h h' → (T (one_of h.kind copied) → Stands (source s) l kept h.kind h.tokens) → (T (one_of h'.kind copied) → Stands (source w) l valued h'.kind h'.tokens) → bytes_of w h'.kind h'.tokens ≡ bytes_of s h.kind h.tokens
  text_same h h' t f f' = ap (λ (n : ℕ). bytes_of w n h'.tokens) (sym t.kind_same) ∙ by (one_of h.kind copied) refl
    where
      g : T (one_of h.kind copied) → Stands (source w) l valued h.kind h'.tokens
      g c = subst (λ (n : ℕ). Stands (source w) l valued n h'.tokens) (sym t.kind_same) (f' (subst (λ (n : ℕ). T (one_of n copied)) t.kind_same c))

      bare : (z : List ℕ) (ts : List Token) → one_of h.kind copied ≡ false → bytes_of z h.kind ts ≡ []
      bare z ts e = ap (λ (o : Bool). cond o (slice (groves.starts ts) (cond (eqb h.kind kinds.F_STRING) (groves.ends ts + 1) (groves.ends ts)) z) []) e

      by : (o : Bool) → one_of h.kind copied ≡ o → bytes_of w h.kind h'.tokens ≡ bytes_of s h.kind h.tokens
      by true e = let c = subst T (sym e) tt in copied_same h.kind h.tokens h'.tokens c (f c) (g c) t.twins
      by false e = bare w h'.tokens e ∙ sym (bare s h.tokens e)

  label_same : (h h' : Head) → Twin Q as_like h h' → bytes_of w h'.kind h'.tokens ≡ bytes_of s h.kind h.tokens → label_of w h' ≡ label_of s h
  label_same h h' t e = λ i. record { kind = sym t.kind_same i; value = sym t.value_same i; detail = sym t.detail_same i; text = e i }

  -- the trees, texts and all
  pub labelled_same : (g g' : Grove) → Paired Q as_like g g' → FromSource (source s) l kept g → FromSource (source w) l valued g' → labelled w g' ≡ labelled s g
  labelled_same nil nil u f f' = refl
  labelled_same nil (top h k t) u f f' = absurd u
  labelled_same (top h k t) nil u f f' = absurd u
  labelled_same (top h k t) (top h' k' t') u f f' = λ i. tree (label_same h h' u.0 (text_same h h' u.0 f.0 f'.0) i) (labelled_same k k' u.1 f.1 f'.1 i) (labelled_same t t' u.2 f.2 f'.2 i)
