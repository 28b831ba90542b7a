-- What the lexer says at a place: a token has a byte at least, ends within the source, and its word is above 0 and below 90; else it
-- is the end, or a refusal 4 or 5; 5 has two bytes of the source. And what is scanned as text.
use Rattle.std.specs.Prelude.{Some, None, Ok, Err}
use mathlib.Core.Path.{◌≡◌, refl, sym, ap, subst, ◌∙◌}
use mathlib.Core.List.{List, [], ◌∷◌}
use mathlib.Core.Bool.{Bool, true, false, not, ◌&&◌, ◌||◌, cond}
use mathlib.Core.Logic.{◌⊎◌, inl, inr}
use Prim.Native.Nat.{ℕ, zero, suc, ◌+◌, ◌-◌, ◌≤◌, ◌<◌}
use lib.Dec.{T, eqb, ltb, ltb→lt, eqb→eq}
use lib.ListN.{length}
use lib.Seq.{slice, slice_empty}
use native.Mathlib.Decide.{dec_le}
use native.Mathlib.Omega.{arith}
use Rattle.chars.specs.declared.Class.TheVariants.{Digit, Figure, HexDigit, HexColon, NamePart}
use Rattle.chars.specs.Chars.{byte_at, is_class, is_digit, is_letter}
use Rattle.chars.specs.Runs.{past_span, past_run}
use Rattle.chars.specs.Texts.{bytes, same}
use Rattle.chars.proofs.Runs.{byte_out, outside, within, past_ge, past_le, past_gt, span_ge}
use Rattle.tokens.specs.Results.{Fit}
use Rattle.tokens.specs.declared.Cursor.{Cursor}
use Rattle.tokens.specs.declared.Refusal.{Refusal}
use Rattle.tokens.specs.Results.{Step}
use Rattle.tokens.specs.Words.{Entry, two_signs, one_signs, keywords, word_in, two_sign, one_sign, name_word}
use Rattle.tokens.specs.Blanks.{skip_all}
use Rattle.tokens.specs.Rules.{when_fit, sign_fit, then_fit, pair_at, colons_at, fraction_at, dotted_at, three_at, decimal_group, or_to, ipv6_at, period_at, ipv4_at, two_at, one_at, as_at, hex_at, number_at, goes_on, escapes, quote_at, is_name_start, name_at, taken, refused, or_else, token_at}
use Rattle.tokens.specs.Tokens.{step_at}
use Rattle.strings.specs.Results.{Size}
use Rattle.strings.specs.Strings.{codes_from}
use Rattle.strings.specs.Utf8.{encode}
use Rattle.texts.specs.Results.{Scanned}
use Rattle.texts.specs.declared.Part.{Part}
use Rattle.texts.specs.declared.Part.TheVariants.{Before, Ends}
use Rattle.texts.specs.Parts.{part_at}
use Rattle.texts.specs.Texts.{halved, text_of}
use Rattle.texts.proofs.Parts.{Parted, parted_before, parted_ends, parted_none, part_lies}
use Rattle.grammar.specs.Words.{text_then_hole, last_text}
use Rattle.grammar.specs.Rows.{token_nodes}
use Rattle.grammar.specs.Grammar.{found, one_of}
use Rattle.grammar.specs.Grammar as grammar
use Rattle.grammar.proofs.Bools.{and_l, and_r}
use Rattle.answers.specs.Source.{source, look_of, look_after, text_token, piece_of}

pub true_T : {b : Bool} → b ≡ true → T b
true_T e = subst T (sym e) tt

pub left_true : (a b : Bool) → (a && b) ≡ true → a ≡ true
left_true true b e = refl
left_true false b e = e

pub right_true : (a b : Bool) → (a && b) ≡ true → b ≡ true
right_true true b e = e
right_true false b e = let z : ◌≡◌ {A = ℕ} 0 1 = cc in absurd (omega arith)

or_true : (a b : Bool) → (a || b) ≡ true → (a ≡ true) ⊎ (b ≡ true)
or_true true b e = inl refl
or_true false b e = inr e

in_or : (a b : Bool) → a ≡ true → (a || b) ≡ true
in_or a b e = rw e

in_or_right : (a b : Bool) → b ≡ true → (a || b) ≡ true
in_or_right true b e = refl
in_or_right false b e = e

-- two signs: a text that goes on past the end is none
abbrev second_of : List ℕ → Bool
second_of [] = false
second_of (a ∷ []) = false
second_of (a ∷ b ∷ l) = not (eqb 256 b)

abbrev seconds : List Entry → Bool
seconds [] = true
seconds (x ∷ xs) = second_of x.text && seconds xs

false_right : (a b c : Bool) → T (not b) → (a && (b && c)) ≡ false
false_right true true c h = absurd h
false_right true false c h = refl
false_right false b c h = refl

no_same : (a : ℕ) (t : List ℕ) → T (second_of t) → same (a ∷ 256 ∷ []) t ≡ false
unfolding same
no_same a [] h = refl
no_same a (x ∷ []) h = absurd h
no_same a (x ∷ y ∷ l) h = false_right (eqb a x) (eqb 256 y) (same [] l) h

no_word : (a : ℕ) (xs : List Entry) → T (seconds xs) → word_in xs (a ∷ 256 ∷ []) 0 ≡ 0
unfolding word_in
no_word a [] h = refl
no_word a (x ∷ xs) h = ap (λ (b : Bool). cond b x.word (word_in xs (a ∷ 256 ∷ []) 0)) (no_same a x.text (and_l (second_of x.text) (seconds xs) h)) ∙ no_word a xs (and_r (second_of x.text) (seconds xs) h)

no_two : (a : ℕ) → two_sign a 256 ≡ 0
unfolding two_sign two_signs
no_two a = no_word a two_signs tt

-- every word is below 90
abbrev smalls : List Entry → Bool
smalls [] = true
smalls (x ∷ xs) = ltb x.word 90 && smalls xs

word_small : (xs : List Entry) (t : List ℕ) (d : ℕ) → T (smalls xs) → d < 90 → word_in xs t d < 90
unfolding word_in
word_small [] t d h k = k
word_small (x ∷ xs) t d h k = go (same t x.text) (word_small xs t d (and_r (ltb x.word 90) (smalls xs) h) k)
  where
    go : (b : Bool) → word_in xs t d < 90 → cond b x.word (word_in xs t d) < 90
    go true l = ltb→lt x.word 90 (and_l (ltb x.word 90) (smalls xs) h)
    go false l = l

two_small : (a b : ℕ) → two_sign a b < 90
unfolding two_sign two_signs
two_small a b = word_small two_signs (a ∷ b ∷ []) 0 tt (omega arith)

one_small : (b : ℕ) → one_sign b < 90
unfolding one_sign one_signs
one_small b = word_small one_signs (b ∷ []) 0 tt (omega arith)

name_small : (t : List ℕ) → name_word t < 90
unfolding name_word keywords
name_small t = go (same t (bytes "_"))
  where
    go : (b : Bool) → cond b 14 (word_in keywords t 13) < 90
    go true = omega arith
    go false = word_small keywords t 13 tt (omega arith)

-- and above 0
abbrev somes : List Entry → Bool
somes [] = true
somes (x ∷ xs) = ltb 0 x.word && somes xs

word_some : (xs : List Entry) (t : List ℕ) (d : ℕ) → T (somes xs) → 0 < d → 0 < word_in xs t d
unfolding word_in
word_some [] t d h k = k
word_some (x ∷ xs) t d h k = go (same t x.text) (word_some xs t d (and_r (ltb 0 x.word) (somes xs) h) k)
  where
    go : (b : Bool) → 0 < word_in xs t d → 0 < cond b x.word (word_in xs t d)
    go true l = ltb→lt 0 x.word (and_l (ltb 0 x.word) (somes xs) h)
    go false l = l

name_some : (t : List ℕ) → 0 < name_word t
unfolding name_word keywords
name_some t = go (same t (bytes "_"))
  where
    go : (b : Bool) → 0 < cond b 14 (word_in keywords t 13)
    go true = omega arith
    go false = word_some keywords t 13 tt (omega arith)

some_word : (w : ℕ) → not (eqb w 0) ≡ true → 0 < w
some_word zero e = absurd (true_T e)
some_word (suc w) e = omega arith

seven : (b : Bool) → 0 < cond b 8 7
seven true = omega arith
seven false = omega arith

eight : (b : Bool) → cond b 8 7 < 90
eight true = omega arith
eight false = omega arith

module _ (s : List ℕ) where
  -- a byte that is a certain one stands inside
  byte_inside : (i v : ℕ) → eqb 256 v ≡ false → eqb (byte_at s i) v ≡ true → i < length s
  byte_inside i v h e = within (λ (b : ℕ). eqb b v) h s i e

  -- how far a rule reaches from a place
  data Goes (at : ℕ) : Fit → Type 0 where
    goes_to : {e w : ℕ} → at < e → e ≤ length s → 0 < w → w < 90 → Goes at (Some (e, w))
    goes_no : Goes at None

  goes_when : {at e : ℕ} (b : Bool) (w : ℕ) → w < 90 → (b ≡ true → (at < e) × (e ≤ length s) × (0 < w)) → Goes at (when_fit b e w)
  unfolding when_fit
  goes_when true w l h = let k = h refl in goes_to k.0 k.1 k.2 l
  goes_when false w l h = goes_no

  goes_then : {at a : ℕ} {f : Fit} (g : ℕ → Fit) → at ≤ a → Goes a f → ((e : ℕ) → at < e → e ≤ length s → Goes at (g e)) → Goes at (then_fit f g)
  unfolding then_fit
  goes_then g h (goes_to {e = e} l m p w) k = k e (omega arith) m
  goes_then g h goes_no k = goes_no

  goes_from : {at a : ℕ} {f : Fit} → at ≤ a → Goes a f → Goes at f
  goes_from h (goes_to {e = e} l m p w) = goes_to {e = e} (omega arith) m p w
  goes_from h goes_no = goes_no

  goes_period : (at : ℕ) → Goes at (period_at s at)
  unfolding period_at
  goes_period at =
      let e : ℕ = past_run (is_class Digit) s at in
      goes_when (is_digit (byte_at s at) && eqb (byte_at s e) 46) 2 (omega arith) λ q.
      let h = byte_inside e 46 refl (right_true (is_digit (byte_at s at)) (eqb (byte_at s e) 46) q) in
      let k = past_ge (is_class Digit) s at in
      (omega arith, omega arith, omega arith)

  goes_ipv4 : (at : ℕ) → Goes at (ipv4_at s at)
  unfolding ipv4_at
  goes_ipv4 at =
      goes_then _ (omega arith) (goes_period at) λ a h m.
      goes_then _ (omega arith) (goes_period a) λ b h' m'.
      goes_then _ (omega arith) (goes_period b) λ c h'' m''.
      let k = past_ge (is_class Digit) s c in
      goes_to (omega arith) (past_le (is_class Digit) s c m'') (omega arith) (omega arith)

  goes_dotted : (at : ℕ) → Goes at (dotted_at s at)
  unfolding dotted_at fraction_at
  goes_dotted at =
      goes_when (fraction_at s at) 1 (omega arith) λ q.
      let h = byte_inside at 46 refl (left_true (eqb (byte_at s at) 46) (is_digit (byte_at s (at + 1))) q) in
      let k = past_ge (is_class Digit) s (at + 1) in
      (omega arith, past_le (is_class Digit) s (at + 1) (omega arith), omega arith)

  goes_three : (at a : ℕ) → at ≤ a → Goes at (three_at s a)
  unfolding three_at
  goes_three at a h =
      goes_then _ h (goes_dotted a) λ b k m.
      goes_then _ (omega arith) (goes_dotted b) λ c k' m'. goes_from (omega arith) (goes_dotted c)

  goes_ending : {at e : ℕ} (t : Bool) (f : Fit) → at < e → e ≤ length s → Goes at f → Goes at (or_to (cond t f None) e)
  unfolding or_to
  goes_ending true (Some (r, w)) h k (goes_to l m p v) = goes_to {w = 1} l m (omega arith) (omega arith)
  goes_ending true None h k goes_no = goes_to {w = 1} h k (omega arith) (omega arith)
  goes_ending false f h k g = goes_to {w = 1} h k (omega arith) (omega arith)

  goes_colons : (at : ℕ) → Goes at (colons_at s at)
  unfolding colons_at
  goes_colons at =
      let a : ℕ = past_run (is_class HexDigit) s at in
      let b : ℕ = past_run (is_class HexDigit) s (a + 1) in
      goes_when (eqb (byte_at s a) 58 && eqb (byte_at s b) 58) 1 (omega arith) λ e.
      let h = byte_inside b 58 refl (right_true (eqb (byte_at s a) 58) (eqb (byte_at s b) 58) e) in
      let k = past_ge (is_class HexDigit) s at in
      let l = past_ge (is_class HexDigit) s (a + 1) in
      let m = past_ge (is_class HexColon) s (b + 1) in
      (omega arith, past_le (is_class HexColon) s (b + 1) (omega arith), omega arith)

  goes_ipv6 : (at : ℕ) → Goes at (ipv6_at s at)
  unfolding ipv6_at
  goes_ipv6 at = goes_then _ (omega arith) (goes_colons at) λ e h k. goes_ending (decimal_group s e) (three_at s e) h k (goes_three at e (omega arith))

  module _ (at : ℕ) (in-at : at < length s) where
    goes_two : Goes at (two_at s at)
    unfolding two_at sign_fit
    goes_two =
        let w : ℕ = two_sign (byte_at s at) (byte_at s (at + 1)) in
        goes_when (not (eqb w 0)) w (two_small (byte_at s at) (byte_at s (at + 1))) λ e. (omega arith, more (dec_le (length s) (at + 1)) e, some_word w e)
      where
        more : Dec (length s ≤ at + 1) → not (eqb (two_sign (byte_at s at) (byte_at s (at + 1))) 0) ≡ true → at + 2 ≤ length s
        more (yes h) e =
            let z : two_sign (byte_at s at) (byte_at s (at + 1)) ≡ 0 = ap (two_sign (byte_at s at)) (byte_out s (at + 1) h) ∙ no_two (byte_at s at) in
            let q : false ≡ true = sym (ap (λ (n : ℕ). not (eqb n 0)) z) ∙ e in
            absurd (true_T q)
        more (no h) e = omega (arith, h)

    goes_one : Goes at (one_at s at)
    unfolding one_at sign_fit
    goes_one = let w : ℕ = one_sign (byte_at s at) in goes_when (not (eqb w 0)) w (one_small (byte_at s at)) λ e. (omega arith, omega arith, some_word w e)

    goes_as : Goes at (as_at s at)
    unfolding as_at
    goes_as =
        goes_when (pair_at s at 65 83 && is_digit (byte_at s (at + 2))) 5 (omega arith) λ e.
        let h = within is_digit refl s (at + 2) (right_true (pair_at s at 65 83) (is_digit (byte_at s (at + 2))) e) in
        let k = past_ge (is_class Digit) s (at + 2) in
        (omega arith, past_le (is_class Digit) s (at + 2) (omega arith), omega arith)

    goes_hex : Goes at (hex_at s at)
    unfolding hex_at pair_at
    goes_hex =
        goes_when (pair_at s at 48 120) 6 (omega arith) λ e.
        let h = byte_inside (at + 1) 120 refl (right_true (eqb (byte_at s at) 48) (eqb (byte_at s (at + 1)) 120) e) in
        let k = past_ge (is_class HexDigit) s (at + 2) in
        (omega arith, past_le (is_class HexDigit) s (at + 2) (omega arith), omega arith)

    goes_number : Goes at (number_at s at)
    unfolding number_at is_class fraction_at
    goes_number =
        let whole : ℕ = past_run (is_class Figure) s at in
        let fraction : Bool = fraction_at s whole in
        let e : ℕ = cond fraction (past_run (is_class Figure) s (whole + 1)) whole in
        goes_when (is_digit (byte_at s at)) (cond fraction 8 7) (eight fraction) λ q.
        let h = past_gt (is_class Figure) (outside Figure) s at (in_or (is_digit (byte_at s at)) (eqb (byte_at s at) 95) q) in
        let l = past_le (is_class Figure) s at (omega arith) in
        let k = ends fraction refl in
        let m = past_ge (is_class NamePart) s e in
        (omega arith, past_le (is_class NamePart) s e k.1, seven fraction)
      where
        whole' : ℕ
        whole' = past_run (is_class Figure) s at

        ends : (b : Bool) → fraction_at s whole' ≡ b → (whole' ≤ cond b (past_run (is_class Figure) s (whole' + 1)) whole') × (cond b (past_run (is_class Figure) s (whole' + 1)) whole' ≤ length s)
        ends true q =
            let h = byte_inside whole' 46 refl (left_true (eqb (byte_at s whole') 46) (is_digit (byte_at s (whole' + 1))) q) in
            let k = past_ge (is_class Figure) s (whole' + 1) in
            (omega arith, past_le (is_class Figure) s (whole' + 1) (omega arith))
        ends false q = (omega arith, past_le (is_class Figure) s at (omega arith))

    goes_quote : (q w : ℕ) → 0 < w → w < 90 → Goes at (quote_at q w s at)
    unfolding quote_at
    goes_quote q w p l =
        let close : ℕ = past_span (goes_on q) escapes false s (at + 1) in
        goes_when (eqb (byte_at s at) q && ltb (close + 1) (length s)) w l λ e.
        let h = ltb→lt (close + 1) (length s) (true_T (right_true (eqb (byte_at s at) q) (ltb (close + 1) (length s)) e)) in
        let k = span_ge (goes_on q) escapes false s (at + 1) in
        (omega arith, omega arith, p)

    goes_name : Goes at (name_at s at)
    unfolding name_at is_class
    goes_name =
        let e : ℕ = past_run (is_class NamePart) s at in
        goes_when (is_name_start (byte_at s at)) (name_word (slice at e s)) (name_small (slice at e s)) λ q.
        (past_gt (is_class NamePart) (outside NamePart) s at (part (byte_at s at) q), past_le (is_class NamePart) s at (omega arith), name_some (slice at e s))
      where
        part : (b : ℕ) → is_name_start b ≡ true → is_class NamePart b ≡ true
        part b q = elim (or_true (is_letter b) (eqb b 95) q) [
          | inl h ↦ in_or (is_letter b || is_digit b) (eqb b 95) (in_or (is_letter b) (is_digit b) h)
          | inr h ↦ in_or_right (is_letter b || is_digit b) (eqb b 95) h
        ]

  -- a step from a place: a token, the end, or a refusal 4 or 5
  pub data Steps (at : ℕ) : Step → Type 0 where
    steps_token : {w a : ℕ} {next : Cursor} → at < next.at → next.at ≤ length s → 0 < w → w < 90 → Steps at (Ok (w, a, next))
    steps_over : Steps at (Err (record { number = 11; start = length s; end = length s }))
    steps_quote : {r : Refusal} → r.number ≡ 5 → at < r.end → r.end ≤ length s → Steps at (Err r)
    steps_wrong : {r : Refusal} → r.number ≡ 4 → Steps at (Err r)

  steps_or : {at : ℕ} {f : Fit} {d : Step} → Goes at f → Steps at d → Steps at (or_else at f d)
  unfolding or_else taken
  steps_or (goes_to h k p w) n = steps_token h k p w
  steps_or goes_no n = n

  steps_pick : {at : ℕ} (b : Bool) {x d : Step} → (b ≡ true → Steps at x) → Steps at d → Steps at (cond b x d)
  steps_pick true h k = h refl
  steps_pick false h k = k

  quote_in : (at : ℕ) → pair_at s at 102 34 ≡ true → at + 2 ≤ length s
  unfolding pair_at
  quote_in at e = let h = byte_inside (at + 1) 34 refl (right_true (eqb (byte_at s at) 102) (eqb (byte_at s (at + 1)) 34) e) in omega arith

  pub steps_at : (at : ℕ) → at < length s → Steps at (token_at s at)
  unfolding token_at refused
  steps_at at h =
      steps_or (goes_ipv6 at)
      (steps_or (goes_ipv4 at)
      (steps_or (goes_two at h)
      (steps_or (goes_one at h)
      (steps_or (goes_as at h)
      (steps_or (goes_hex at h)
      (steps_or (goes_number at h)
      (steps_pick (pair_at s at 102 34) (λ e. steps_quote refl (omega arith) (quote_in at e))
      (steps_or (goes_quote at h 34 9 (omega arith) (omega arith))
      (steps_or (goes_quote at h 39 10 (omega arith) (omega arith))
      (steps_or (goes_name at h)
      (steps_wrong refl)))))))))))

  steps_from : {at a : ℕ} {k : Step} → at ≤ a → Steps a k → Steps at k
  steps_from h (steps_token {next = next} l m p w) = steps_token {next = next} (omega arith) m p w
  steps_from h steps_over = steps_over
  steps_from h (steps_quote {r = r} c l m) = steps_quote {r = r} c (omega arith) m
  steps_from h (steps_wrong c) = steps_wrong c

  pub step_goes : (at : ℕ) → Steps at (step_at s at)
  unfolding step_at skip_all refused
  step_goes at = go (ltb (skip_all s at) (length s)) refl
    where
      go : (b : Bool) → ltb (skip_all s at) (length s) ≡ b → Steps at (cond b (token_at s (skip_all s at)) (Err (record { number = 11; start = length s; end = length s })))
      go true e = steps_from (omega arith) (steps_at (skip_all s at) (ltb→lt (skip_all s at) (length s) (true_T e)))
      go false e = steps_over

  -- what is left of the source falls with each token
  abbrev pub ahead : ℕ → ℕ
  ahead at = length s - at

  pub tokens_take : (x : grammar.Token) (i j : ℕ) → (source s).look i ≡ found x j → ahead j < ahead i
  tokens_take x i j e = go (step_at s i) (step_goes i) e
    where
      after : (c q : Bool) (r : Refusal) → (T q → (i < r.end) × (r.end ≤ length s)) → look_after c q r ≡ found x j → ahead j < ahead i
      after true q r h f = let z : ◌≡◌ {A = ℕ} 0 1 = cc in absurd (omega arith)
      after false true r h f = let z : r.end ≡ j = cc in let k = h tt in omega (arith, z, k.0, k.1)
      after false false r h f = let z : ◌≡◌ {A = ℕ} 0 1 = cc in absurd (omega arith)

      go : (k : Step) → Steps i k → look_of s k ≡ found x j → ahead j < ahead i
      go (Ok (w, a, next)) (steps_token h m p v) q = let z : next.at ≡ j = cc in omega arith
      go (Err r) (steps_quote c l m) q = after (eqb r.number 11) (eqb r.number 5) r (λ t. (l, m)) q
      go (Err r) steps_over q = let z : ◌≡◌ {A = ℕ} 0 1 = cc in absurd (omega arith)
      go (Err r) (steps_wrong c) q = after (eqb r.number 11) (eqb r.number 5) r (λ t. let z : ◌≡◌ {A = ℕ} 4 5 = sym c ∙ eqb→eq r.number 5 t in absurd (omega (arith, z))) q

  -- a piece that has a row has a byte
  no_text_row : (i e : ℕ) → e ≡ i → token_nodes (text_token text_then_hole i e (text_of (slice i e s))) ≡ 0
  unfolding text_of codes_from halved encode
  no_text_row i e q = ap (λ (t : List ℕ). token_nodes (text_token text_then_hole i e (text_of t))) (ap (λ (n : ℕ). slice i n s) q ∙ slice_empty i s)

  pub pieces_take : (x : grammar.Token) (i j : ℕ) → (source s).piece i ≡ found x j → ahead j + token_nodes x ≤ ahead i
  pieces_take x i j e = go (part_at s i) (part_lies s i) e
    where
      most : (w a b : ℕ) (z : Size) → token_nodes (text_token w a b z) ≤ 1
      most w a b (Some n) = two (one_of w (text_then_hole ∷ last_text ∷ [])) (eqb n 0)
        where
          two : (c d : Bool) → cond c (cond d 0 1) 0 ≤ 1
          two true true = omega arith
          two true false = omega arith
          two false d = omega arith
      most w a b None = two (one_of w (text_then_hole ∷ last_text ∷ []))
        where
          two : (c : Bool) → cond c 0 0 ≤ 1
          two true = omega arith
          two false = omega arith

      go : (k : Scanned) → Parted i (length s) k → piece_of s i k ≡ found x j → ahead j + token_nodes x ≤ ahead i
      go (Some (Before e)) (parted_before h m) q =
          let z : e ≡ j = cc in
          let y : text_token text_then_hole i e (text_of (slice i e s)) ≡ x = cc in
          let n = most text_then_hole i e (text_of (slice i e s)) in
          let n' = ap token_nodes y in
          elim (dec_le e i) [
            | yes f ↦ (let o = no_text_row i e (omega arith) in omega (arith, z, o, n', h, m))
            | no f ↦ omega (arith, z, n, n', h, m, f)
          ]
      go (Some (Ends e)) (parted_ends h m) q =
          let z : e + 1 ≡ j = cc in
          let y : text_token last_text i e (text_of (slice i e s)) ≡ x = cc in
          let n = most last_text i e (text_of (slice i e s)) in
          let n' = ap token_nodes y in
          omega (arith, z, n, n', h, m)
      go None parted_none q = let z : ◌≡◌ {A = ℕ} 0 1 = cc in absurd (omega arith)
