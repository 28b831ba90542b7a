-- The bytes of a token with a stop behind them, as a list, are that token again.
use Rattle.std.specs.Prelude.{None, Ok, Err}
use mathlib.Core.Path.{◌≡◌, refl, sym, ap, ◌∙◌, subst}
use mathlib.Core.List.{List, [], ◌∷◌, ◌++◌}
use mathlib.Core.Bool.{Bool, true, false, ◌&&◌, ◌||◌, true≢false}
use Prim.Native.Nat.{ℕ, ◌+◌, ◌-◌, ◌<◌}
use native.Mathlib.Omega.{arith}
use lib.ListN.{length, drop, length-drop, length-append, get_or-append}
use lib.Seq.{slice, get_or-append_seam}
use lib.Dec.{eqb, ltb}
use borrow.Author.Tests.{eqb-true, ltb-true}
use Rattle.chars.specs.Chars.{byte_at, is_class}
use Rattle.chars.proofs.Runs.{byte_in, byte_drop}
use Rattle.tokens.specs.Results.{Step}
use Rattle.tokens.specs.Words.{Entry, two_signs, one_signs, keywords, code_of}
use Rattle.tokens.specs.Rules.{taken, token_at}
use Rattle.tokens.specs.Tokens.{step_at}
use Rattle.values.specs.Results.{Worth}
use Rattle.values.specs.Literals.{literal_of}
use Rattle.grammar.specs.Grammar.{Token, found, one_of}
use Rattle.answers.specs.Source.{source, look_of, token_for}
use Rattle.answers.proofs.Ahead.{left_true, right_true}
use Rattle.answers.proofs.Opened.{lexer}
use Rattle.respell.specs.Copies.{Copied, is_stop}
use Rattle.respell.specs.Shown.{placed}
use Rattle.respell.proofs.Tokens.{Said, token_said}
use Rattle.respell.proofs.Looks.{step_copied, look_copied}

byte_front : (x y y' : List ℕ) (k : ℕ) → k < length x → byte_at (x ++ y) k ≡ byte_at (x ++ y') k
byte_front x y y' k h =
    byte_in (x ++ y) k (let n = length-append x y in omega arith) ∙ get_or-append x y 0 k h
    ∙ sym (byte_in (x ++ y') k (let n = length-append x y' in omega arith) ∙ get_or-append x y' 0 k h)

byte_seam : (x : List ℕ) (b : ℕ) (y : List ℕ) → byte_at (x ++ (b ∷ y)) (length x) ≡ b
byte_seam x b y = byte_in (x ++ (b ∷ y)) (length x) (let n = length-append x (b ∷ y) in omega arith) ∙ get_or-append_seam x b y 0

at_drop : (s : List ℕ) (i k j : ℕ) → i + k ≡ j → byte_at s j ≡ byte_at (drop i s) k
at_drop s i k j e = ap (byte_at s) (sym e) ∙ sym (byte_drop s i k)

-- the place behind the text, by what is left of a source
past_text : (s x y : List ℕ) (i : ℕ) → drop i s ≡ x ++ y → 0 < length x → i + length x + length y ≡ length s
past_text s x y i e h = let a = length-drop i s in let b = ap length e in let c = length-append x y in omega arith

-- the byte behind it
pub stop_byte : (w x y : List ℕ) (p b : ℕ) → drop p w ≡ x ++ (b ∷ y) → byte_at w (p + length x) ≡ b
stop_byte w x y p b e = at_drop w p (length x) (p + length x) refl ∙ ap (λ (o : List ℕ). byte_at o (length x)) e ∙ byte_seam x b y

-- where two sources go on with the same text, the one has it as the other
pub copy_of : (s w x y y' : List ℕ) (i p : ℕ) → drop i s ≡ x ++ y → drop p w ≡ x ++ y' → 0 < length x → Copied s w i (i + length x) (p + length x)
copy_of s w x y y' i p e f h = record {
  bytes = λ j j' l k at. let n : ℕ = j - i in at_drop w p n j' (omega arith) ∙ ap (λ (o : List ℕ). byte_at o n) f ∙ byte_front x y' y n (omega arith) ∙ ap (λ (o : List ℕ). byte_at o n) (sym e) ∙ sym (at_drop s i n j (omega arith));
  in_s = let a = past_text s x y i e h in omega arith;
  in_t = let a = past_text w x y' p f h in omega arith;
}

pub blank_stops : is_stop 32 ≡ true
unfolding is_stop is_class
blank_stops = refl

pub newline_stops : is_stop 10 ≡ true
unfolding is_stop is_class
newline_stops = refl

-- s goes on at i with the text x, and w at p with x and then b, which ends every token and is no quote
module _ (s w x y y' : List ℕ) (i p b : ℕ) (old : drop i s ≡ x ++ y) (new : drop p w ≡ x ++ (b ∷ y')) (some : 0 < length x) (stops : is_stop b ≡ true) (other : eqb b 34 ≡ false) where
  copy : Copied s w i (i + length x) (p + length x)
  copy = copy_of s w x y (b ∷ y') i p old new some

  last : byte_at w (p + length x) ≡ b
  last = stop_byte w x y' p b new

  stop : is_stop (byte_at w (p + length x)) ≡ true
  stop = ap is_stop last ∙ stops

  closes : eqb (byte_at w (p + length x)) 34 ≡ true → eqb (byte_at s (i + length x)) 34 ≡ true
  closes h = absurd (true≢false (sym h ∙ ap (λ (v : ℕ). eqb v 34) last ∙ other))

  room : p + length x < length w
  room = let a = past_text w x (b ∷ y') p new some in omega arith

  pub token_copied : (c : ℕ) → token_at s i ≡ taken i (i + length x) c → token_at w p ≡ taken p (p + length x) c
  unfolding taken
  token_copied c z = subst (λ (d : Step). Said w (i + length x) (p + length x) d (token_at w p)) z (token_said copy stop closes i p (omega arith) (omega arith) (omega arith)) (omega arith) p (p + length x) (omega arith) (omega arith) (λ o. room)

  pub step_respelled : (c : ℕ) → step_at s i ≡ taken i (i + length x) c → step_at w p ≡ taken p (p + length x) c
  unfolding taken
  step_respelled c z = step_copied copy stop closes i p (omega arith) (omega arith) z (omega arith) p (p + length x) (omega arith) (omega arith) (λ o. room)

  -- its literal is the same, since its bytes are
  pub look_respelled : (o : Token) → (source s).look i ≡ found o (i + length x) → o.start ≡ i → (source w).look p ≡ found (placed o p (p + length x)) (p + length x)
  look_respelled o z k = look_copied copy stop closes i p (omega arith) (omega arith) o (i + length x) z (omega arith) p (p + length x) (omega arith) (omega arith) (λ n. room)

-- The words of the lexer's own lists. A text with a blank behind it is its word:
abbrev is_taken : Step → ℕ → ℕ → Bool
is_taken (Ok (w, a, n)) c e = eqb w c && (eqb a 0 && eqb n.at e)
is_taken (Err r) c e = false

abbrev pub spells : Entry → Bool
spells x = ltb 0 (length x.text) && is_taken (step_at (x.text ++ (32 ∷ [])) 0) x.word (length x.text)

abbrev pub all_of : (Entry → Bool) → List Entry → Bool
all_of p [] = true
all_of p (x ∷ xs) = p x && all_of p xs

pub every_word_spells : all_of spells (two_signs ++ (one_signs ++ keywords)) ≡ true
unfolding lexer
every_word_spells = refl

taken_is : (k : Step) (c e : ℕ) → is_taken k c e ≡ true → k ≡ taken 0 e c
unfolding taken
taken_is (Ok (w, a, n)) c e h =
    let x = eqb-true w c (left_true (eqb w c) _ h) in
    let r = right_true (eqb w c) (eqb a 0 && eqb n.at e) h in
    let y = eqb-true a 0 (left_true (eqb a 0) _ r) in
    let z = eqb-true n.at e (right_true (eqb a 0) (eqb n.at e) r) in
    ap (λ (v : ℕ). Ok (v, a, n)) x ∙ ap (λ (v : ℕ). Ok (c, v, n)) y ∙ ap (λ (v : ℕ). Ok (c, 0, record { at = v })) z
taken_is (Err r) c e h = absurd (true≢false (sym h))

-- a sign or keyword is no literal
no_literal : (k : ℕ) (t : List ℕ) → one_of k (3 ∷ 4 ∷ 11 ∷ []) ≡ true → literal_of k t ≡ None
unfolding literal_of
no_literal k t = by (eqb k 3) refl (eqb k 4) refl (eqb k 11) refl
  where
    by : (a : Bool) → eqb k 3 ≡ a → (b : Bool) → eqb k 4 ≡ b → (c : Bool) → eqb k 11 ≡ c → (a || (b || (c || false))) ≡ true → literal_of k t ≡ None
    by true e b f c g h = ap (λ (n : ℕ). literal_of n t) (eqb-true k 3 e)
    by false e true f c g h = ap (λ (n : ℕ). literal_of n t) (eqb-true k 4 f)
    by false e false f true g h = ap (λ (n : ℕ). literal_of n t) (eqb-true k 11 g)
    by false e false f false g h = absurd (true≢false (sym h))

-- and so it is wherever it stands
module _ (x : Entry) (told : spells x ≡ true) (w y' : List ℕ) (p b : ℕ) (new : drop p w ≡ x.text ++ (b ∷ y')) (stops : is_stop b ≡ true) (other : eqb b 34 ≡ false) where
  pub spelled_sign : step_at w p ≡ taken p (p + length x.text) x.word
  spelled_sign =
      let n = ltb-true 0 (length x.text) (left_true (ltb 0 (length x.text)) _ told) in
      let z = taken_is (step_at (x.text ++ (32 ∷ [])) 0) x.word (length x.text) (right_true (ltb 0 (length x.text)) _ told) in
      step_respelled (x.text ++ (32 ∷ [])) w x.text (32 ∷ []) y' 0 p b refl new n stops other x.word (z ∙ ap (λ (e : ℕ). taken 0 e x.word) {x = length x.text} {y = 0 + length x.text} (omega arith))

  pub sign_look : one_of (code_of x.word) (3 ∷ 4 ∷ 11 ∷ []) ≡ true → (source w).look p ≡ found (token_for x.word p (p + length x.text) None) (p + length x.text)
  unfolding taken
  sign_look h = ap (look_of w) spelled_sign ∙ ap (λ (o : Worth). found (token_for x.word p (p + length x.text) o) (p + length x.text)) (no_literal (code_of x.word) (slice p (p + length x.text) w) h)
