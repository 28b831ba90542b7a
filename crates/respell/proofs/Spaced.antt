-- A print: where its text stands, its tokens are shown, one after the other up to the end.
use Rattle.std.specs.Prelude.{None}
use mathlib.Core.Path.{◌≡◌, refl, sym, ap, ◌∙◌, subst}
use mathlib.Core.List.{List, [], ◌∷◌, ◌++◌}
use mathlib.Core.Bool.{Bool, true, false, not, ◌||◌, cond, true≢false}
use Prim.Native.Nat.{ℕ, ◌+◌, ◌-◌, ◌<◌, ◌≤◌}
use native.Mathlib.Omega.{arith}
use lib.ListN.{length, drop, length-drop, length-append}
use lib.Seq.{slice, length-slice, drop-drop, drop-append_seam}
use lib.Dec.{T, eqb}
use borrow.Author.Tests.{eqb-true}
use Rattle.chars.specs.Chars.{byte_at, is_blank}
use Rattle.tokens.specs.Words.{Entry, two_signs, one_signs, keywords, code_of}
use Rattle.tokens.specs.Blanks.{skipped, skip_all}
use Rattle.texts.specs.Signs.{quote}
use Rattle.values.specs.Results.{Worth}
use Rattle.grammar.specs.Words.{f_quote, text_then_hole, last_text}
use Rattle.grammar.specs.Grammar.{Ask, Symbol, Token, found, Language, In, alternatives, one_of}
use Rattle.grammar.specs.Limits.{Counts}
use Rattle.grammar.specs.Kinds.{HOLE}
use Rattle.answers.specs.Source.{source, look_of, token_for}
use Rattle.answers.proofs.Ahead.{left_true, right_true}
use Rattle.answers.proofs.Opened.{lexer}
use Rattle.canon.specs.Text.{Bit, sign, copy, spelled, spelling, ends_line, blank_between, spaced}
use Rattle.respell.specs.Copies.{Copied, is_stop}
use Rattle.respell.specs.Shown.{placed, Like, is_piece, Again, Shown, shown_none, shown_token, shown_piece}
use Rattle.respell.specs.Spelt.{hole_symbols, has_word, is_sign, last_line, Spelt, spelt_none, spelt_sign, spelt_token, spelt_string}
use Rattle.respell.proofs.Skips.{in_two, skip_blank}
use Rattle.respell.proofs.Looks.{look_lies, look_end, look_again, same_skip}
use Rattle.respell.proofs.FStrings.{append, onward, closes, all_quoted, quoted_shown}
use Rattle.respell.proofs.Respelled.{copy_of, stop_byte, blank_stops, newline_stops, look_respelled, spells, all_of, every_word_spells, sign_look}

-- what stands behind each: a blank, and the rest
pub record Behind (x : Bit) (bs : List Bit) : Type 0 where
  pub blank : ℕ
  pub stops : is_stop blank ≡ true
  pub other : eqb blank 34 ≡ false
  pub skips : is_blank blank ≡ true
  pub text : spaced (x ∷ bs) ≡ spelling x ++ (blank ∷ spaced bs)
  pub rest : T (last_line bs)

behind : (x : Bit) (bs : List Bit) → T (last_line (x ∷ bs)) → Behind x bs
unfolding spaced
behind x [] h = record { blank = 10; stops = newline_stops; other = refl; skips = refl; text = ap (λ (b : Bool). spelling x ++ (blank_between b [] ++ [])) (line h); rest = tt }
  where
    line : T (ends_line x) → ends_line x ≡ true
    line h = by (ends_line x) h
      where
        by : (b : Bool) → T b → b ≡ true
        by true t = refl
        by false t = absurd t
behind x (y ∷ bs) h = by (ends_line x) refl
  where
    by : (b : Bool) → ends_line x ≡ b → Behind x (y ∷ bs)
    by true e = record { blank = 10; stops = newline_stops; other = refl; skips = refl; text = ap (λ (b : Bool). spelling x ++ (blank_between b (y ∷ bs) ++ spaced (y ∷ bs))) e; rest = h }
    by false e = record { blank = 32; stops = blank_stops; other = refl; skips = refl; text = ap (λ (b : Bool). spelling x ++ (blank_between b (y ∷ bs) ++ spaced (y ∷ bs))) e; rest = h }

-- the first word of a list that is c
found_word : (xs : List Entry) (c : ℕ) → has_word xs c ≡ true → all_of spells xs ≡ true → (x : Entry) × (spells x ≡ true) × (spelled xs c ≡ x.text) × (x.word ≡ c)
found_word [] c h g = absurd (true≢false (sym h))
found_word (x ∷ xs) c h g = by (eqb c x.word) refl h (λ k. found_word xs c k (right_true (spells x) (all_of spells xs) g))
  where
    by : (b : Bool) → eqb c x.word ≡ b → (b || has_word xs c) ≡ true → (has_word xs c ≡ true → (y : Entry) × (spells y ≡ true) × (spelled xs c ≡ y.text) × (y.word ≡ c)) → (y : Entry) × (spells y ≡ true) × (spelled (x ∷ xs) c ≡ y.text) × (y.word ≡ c)
    by true e k ih = (x, left_true (spells x) (all_of spells xs) g, ap (λ (b : Bool). cond b x.text (spelled xs c)) e, sym (eqb-true c x.word e))
    by false e k ih = let r = ih k in (r.0, r.1, ap (λ (b : Bool). cond b x.text (spelled xs c)) e ∙ r.2, r.3)

-- a sign's word is no word of a piece
pub no_piece_sign : (c : ℕ) → is_sign c ≡ true → T (not (is_piece c))
unfolding lexer
no_piece_sign c h = by (eqb c text_then_hole) refl (eqb c last_text) refl
  where
    by : (a : Bool) → eqb c text_then_hole ≡ a → (b : Bool) → eqb c last_text ≡ b → T (not (a || (b || false)))
    by true e b f = absurd (true≢false (sym h ∙ ap is_sign (eqb-true c text_then_hole e)))
    by false e true f = absurd (true≢false (sym h ∙ ap is_sign (eqb-true c last_text f)))
    by false e false f = tt

other_word : (c : ℕ) → T (not (eqb c f_quote)) → c ≡ f_quote → ⊥
other_word c h e = subst (λ (n : ℕ). T (not (eqb n f_quote))) e h

module _ (s w : List ℕ) (l : Language) (hole-word : l.hole ≡ text_then_hole) (holes : (b : List Symbol) → In b (alternatives l HOLE) → b ≡ hole_symbols) (quotes : T (all_quoted l.rules)) (G : Ask → Counts → Token → Bool) where
  abbrev Q : Token → Token → Type 0
  Q = Again s w l G

  -- a sign has no bytes to copy
  sign_again : (c : ℕ) {y : Token} → Like (token_for c 0 0 None) y → Q (token_for c 0 0 None) y
  sign_again c e = record { like = e; moved = λ o n. absurd (none o) }
    where
      none : 0 < 0 → ⊥
      none h = omega arith

  -- from p₀ on, where what is skipped ends as from p, these tokens are shown up to the end
  pub record ShownTo (xs : List Token) (p₀ : ℕ) : Type 0 where
    pub stop : ℕ
    pub shown : Shown (source w) Q xs p₀ stop
    pub over : skip_all w stop ≡ length w

  look_same : (p₀ p : ℕ) → skip_all w p₀ ≡ skip_all w p → (source w).look p₀ ≡ (source w).look p
  look_same p₀ p e = ap (look_of w) (same_skip w p₀ p e)

  from_before : {x : Token} {xs : List Token} {p₀ p r : ℕ} → skip_all w p₀ ≡ skip_all w p → T (not (is_piece x.word)) → Shown (source w) Q (x ∷ xs) p r → Shown (source w) Q (x ∷ xs) p₀ r
  from_before {p₀ = p₀} {p = p} e h (shown_token {y = y} k b f u) = shown_token {y = y} (look_same p₀ p e ∙ k) b f u
  from_before {x = x} e h (shown_piece k b f u) = absurd (never (is_piece x.word) h f)
    where
      never : (b : Bool) → T (not b) → T b → ⊥
      never true h f = h
      never false h f = f

  rest_at : (x y : List ℕ) (p b : ℕ) → drop p w ≡ x ++ (b ∷ y) → drop (p + length x + 1) w ≡ y
  rest_at x y p b e =
      ap (λ (n : ℕ). drop n w) {x = p + length x + 1} {y = p + (length x + 1)} (omega arith)
      ∙ sym (drop-drop (length x + 1) p w) ∙ ap (drop (length x + 1)) e
      ∙ sym (drop-drop 1 (length x) (x ++ (b ∷ y))) ∙ ap (drop 1) (drop-append_seam x (b ∷ y))

  -- behind a text, its blank is skipped
  next_skips : (x y : List ℕ) (p b : ℕ) → drop p w ≡ x ++ (b ∷ y) → is_blank b ≡ true → skip_all w (p + length x) ≡ skip_all w (p + length x + 1)
  next_skips x y p b e h = skip_blank w (p + length x) (ap is_blank (stop_byte w x y p b e) ∙ h)

  behind_in : (x y : List ℕ) (p b : ℕ) → drop p w ≡ x ++ (b ∷ y) → p ≤ length w → p + length x + 1 ≤ length w
  behind_in x y p b e h = let a = length-drop p w in let c = ap length e in let n = length-append x (b ∷ y) in omega arith

  copied_to : (t : List ℕ) (p q q' lo : ℕ) → Copied s w lo (lo + length t) (p + length t) → lo + length t ≡ q + 1 → p + length t ≡ q' + 1 → Copied s w lo (q + 1) (q' + 1)
  copied_to t p q q' lo c e f = subst (λ (n : ℕ). Copied s w lo n (q' + 1)) e (subst (Copied s w lo (lo + length t)) f c)

  nothing_left : (p : ℕ) → drop p w ≡ [] → p ≤ length w → skip_all w p ≡ length w
  unfolding skip_all skipped
  nothing_left p e h = let a = length-drop p w in let b = ap length e in let c = ap (skipped false) e in omega arith

  pub spaced_shown : {bs : List Bit} {xs : List Token} → Spelt s l G bs xs → T (last_line bs) → (p p₀ : ℕ) → drop p w ≡ spaced bs → p ≤ length w → skip_all w p₀ ≡ skip_all w p → ShownTo xs p₀
  unfolding spaced
  spaced_shown spelt_none h p p₀ e k f = record { stop = p₀; shown = shown_none; over = f ∙ nothing_left p e k }
  spaced_shown (spelt_sign {c = c} {bs = bs} g u) h p p₀ e k f =
      let b = behind (sign c) bs h in
      let z = found_word (two_signs ++ (one_signs ++ keywords)) c (left_true (has_word (two_signs ++ (one_signs ++ keywords)) c) _ g) every_word_spells in
      let x : Entry = z.0 in
      let new : drop p w ≡ x.text ++ (b.blank ∷ spaced bs) = e ∙ b.text ∙ ap (λ (o : List ℕ). o ++ (b.blank ∷ spaced bs)) z.2 in
      let code = ap (λ (n : ℕ). one_of (code_of n) (3 ∷ 4 ∷ 11 ∷ [])) z.3 ∙ right_true (has_word (two_signs ++ (one_signs ++ keywords)) c) _ g in
      let look = sign_look x z.1 w (spaced bs) p b.blank new b.stops b.other code in
      let n = behind_in x.text (spaced bs) p b.blank new k in
      let r = spaced_shown u b.rest (p + length x.text + 1) (p + length x.text) (rest_at x.text (spaced bs) p b.blank new) n (next_skips x.text (spaced bs) p b.blank new b.skips) in
      record { stop = r.stop; shown = shown_token (look_same p₀ p f ∙ look) (sign_again c (ap (λ (v : ℕ). token_for v 0 0 None) z.3)) (no_piece_sign c g) r.shown; over = r.over }
  spaced_shown (spelt_token {x = x} i j {bs = bs} g o u) h p p₀ e k f =
      let b = behind (copy (slice x.start j s)) bs h in
      let t : List ℕ = slice x.start j s in
      let v = look_lies s i x j g in
      let v₁ = v.1 in
      let v₃ = v.3 in
      let n : length t ≡ j - x.start = length-slice x.start j s v₃ in
      let new : drop p w ≡ t ++ (b.blank ∷ spaced bs) = e ∙ b.text in
      let at : x.start + length t ≡ j = omega arith in
      let seen : (source s).look x.start ≡ found x (x.start + length t) = look_again s i x j g ∙ ap (found x) (sym at) in
      let look = look_respelled s w t (drop j s) (spaced bs) x.start p b.blank (in_two s x.start j (omega arith) v₃) new (omega arith) b.stops b.other x seen refl in
      let m = behind_in t (spaced bs) p b.blank new k in
      let end = look_end s i x j g in
      let copied = copy_of s w t (drop j s) (b.blank ∷ spaced bs) x.start p (in_two s x.start j (omega arith) v₃) new (omega arith) in
      let same : Q x (placed x p (p + length t)) = record { like = refl; moved = λ k₁ k₂. record { lo = x.start; q = x.start + length t; q' = p + length t; copy = copied; from = omega arith; to = omega arith; starts = omega arith; ends = omega arith; reach = λ k₃. absurd (other_word x.word o k₃) } } in
      let r = spaced_shown u b.rest (p + length t + 1) (p + length t) (rest_at t (spaced bs) p b.blank new) m (next_skips t (spaced bs) p b.blank new b.skips) in
      record { stop = r.stop; shown = shown_token (look_same p₀ p f ∙ look) same v.2 r.shown; over = r.over }
  spaced_shown (spelt_string {x = x} {p = ps} d i j q {bs = bs} g o y u) h p p₀ e k f =
      let b = behind (copy (slice x.start (q + 1) s)) bs h in
      let t : List ℕ = slice x.start (q + 1) s in
      let v = look_lies s i x j g in
      let v₁ = v.1 in
      let ge = onward s y in
      let z = closes s l hole-word holes G (q + 1) d _ j (q + 1) ps tt y (omega arith) in
      let z₁ = z.1 in
      let z₃ = z.3 in
      let shut : byte_at s q ≡ quote = ap (byte_at s) {x = q} {y = z.0} (omega arith) ∙ z.2 in
      let top : q + 1 ≤ length s = omega arith in
      let n : length t ≡ q + 1 - x.start = length-slice x.start (q + 1) s top in
      let new : drop p w ≡ t ++ (b.blank ∷ spaced bs) = e ∙ b.text in
      let q' : ℕ = p + length t - 1 in
      let copied : Copied s w x.start (q + 1) (q' + 1) = copied_to t p q q' x.start (copy_of s w t (drop (q + 1) s) (b.blank ∷ spaced bs) x.start p (in_two s x.start (q + 1) (omega arith) top) new (omega arith)) (omega arith) (omega arith) in
      let all = quoted_shown q q' copied shut (omega arith) l hole-word holes quotes G d x.start j x ps (look_again s i x j g) y p (omega arith) (omega arith) in
      let m = behind_in t (spaced bs) p b.blank new k in
      let r = spaced_shown u b.rest (p + length t + 1) (q' + 1) (rest_at t (spaced bs) p b.blank new) m (ap (skip_all w) {x = q' + 1} {y = p + length t} (omega arith) ∙ next_skips t (spaced bs) p b.blank new b.skips) in
      record { stop = r.stop; shown = append {r = r.stop} (from_before f v.2 all) r.shown; over = r.over }
