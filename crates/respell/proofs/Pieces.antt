-- A piece of an f-string's text that ends inside a copy whose last byte is a quote is that piece in the copy.
use Rattle.std.specs.Prelude.{Some, None}
use mathlib.Core.Path.{◌≡◌, refl, sym, ap, ◌∙◌, subst}
use mathlib.Core.Logic.{◌⊎◌, inl, inr}
use mathlib.Core.List.{List, [], ◌∷◌, ◌++◌}
use mathlib.Core.Bool.{Bool, true, false, not, ◌||◌, cond, true≢false}
use Prim.Native.Nat.{ℕ, ◌+◌, ◌-◌, ◌<◌, ◌≤◌}
use native.Mathlib.Omega.{arith}
use lib.ListN.{length, take, drop, length-drop}
use lib.Seq.{slice, slice_empty, length-slice, length-take-le}
use lib.Dec.{T, eqb}
use borrow.Author.Tests.{eqb-true}
use Rattle.chars.specs.Chars.{byte_at}
use Rattle.chars.proofs.Runs.{byte_drop}
use Rattle.texts.specs.declared.Mode.{Mode}
use Rattle.texts.specs.declared.Mode.TheVariants.{Text, Escape, Letter, Code, Brace, Hole, Last, Torn}
use Rattle.texts.specs.Results.{Scanned}
use Rattle.texts.specs.declared.Part.{Part}
use Rattle.texts.specs.declared.Part.TheVariants.{Before, Ends}
use Rattle.texts.specs.Signs.{backslash, quote, open_brace, close_brace, small_u, capital_u}
use Rattle.texts.specs.Parts.{part_at}
use Rattle.texts.specs.Modes.{mode_after, scans, ended_at, modes_from}
use Rattle.texts.specs.Texts.{text_of}
use Rattle.texts.proofs.Items.{stays, modes_part}
use Rattle.texts.proofs.Parts.{Parted, parted_before, parted_ends, parted_none, part_lies}
use Rattle.strings.specs.Results.{Size}
use Rattle.grammar.specs.Words.{text_then_hole, last_text}
use Rattle.grammar.specs.Grammar.{Token, found}
use Rattle.answers.specs.Source.{source, text_token, piece_of}
use Rattle.respell.specs.Copies.{Copied}
use Rattle.respell.specs.Shown.{bare, is_piece}
use Rattle.respell.proofs.Rules.{text_copied, first_of}
use Rattle.respell.proofs.Skips.{front, in_two}

-- how many bytes of what ends a piece a mode has read
abbrev read : Mode → ℕ
read Text = 0
read Escape = 0
read Letter = 0
read Code = 0
read Brace = 1
read Hole = 2
read Last = 1
read Torn = 0

read_cond : {n : ℕ} (b : Bool) (x y : Mode) → read x ≤ n → read y ≤ n → read (cond b x y) ≤ n
read_cond true x y h k = h
read_cond false x y h k = k

read_after : (m : Mode) (b : ℕ) → read (mode_after m b) ≤ read m + 1
unfolding mode_after
read_after Text b = read_cond (eqb b backslash) Escape (cond (eqb b open_brace) Brace (cond (eqb b quote) Last Text)) (omega arith) (read_cond (eqb b open_brace) Brace (cond (eqb b quote) Last Text) (omega arith) (read_cond (eqb b quote) Last Text (omega arith) (omega arith)))
read_after Escape b = read_cond (eqb b small_u || eqb b capital_u) Letter Text (omega arith) (omega arith)
read_after Letter b = read_cond (eqb b open_brace) Code Torn (omega arith) (omega arith)
read_after Code b = read_cond (eqb b close_brace) Text Code (omega arith) (omega arith)
read_after Brace b = read_cond (eqb b open_brace) Text Hole (omega arith) (omega arith)
read_after Hole b = omega arith
read_after Last b = omega arith
read_after Torn b = omega arith

-- a piece ends no earlier than before what was read of its end
abbrev Far : ℕ → ℕ → Scanned → Type 0
Far k n (Some (Before e)) = k ≤ e + n
Far k n (Some (Ends e)) = k ≤ e + n
Far k n None = Unit {0}

ended_far : (m : Mode) (k : ℕ) → Far k (read m) (ended_at m k)
ended_far Text k = tt
ended_far Escape k = tt
ended_far Letter k = tt
ended_far Code k = tt
ended_far Brace k = tt
ended_far Hole k = omega arith
ended_far Last k = omega arith
ended_far Torn k = tt

nearer : (k n n' : ℕ) (p : Scanned) → n' ≤ n + 1 → Far (k + 1) n' p → Far k n p
nearer k n n' (Some (Before e)) h g = omega arith
nearer k n n' (Some (Ends e)) h g = omega arith
nearer k n n' None h g = tt

far : (m : Mode) (k : ℕ) (l : List ℕ) → Far k (read m) (modes_from m k l)
unfolding modes_from
far m k [] = ended_far m k
far m k (b ∷ l) = go (scans m) (far (mode_after m b) (k + 1) l)
  where
    go : (u : Bool) → Far (k + 1) (read (mode_after m b)) (modes_from (mode_after m b) (k + 1) l) → Far k (read m) (elim u [ true ↦ modes_from (mode_after m b) (k + 1) l | false ↦ ended_at m k ])
    go true h = nearer k (read m) (read (mode_after m b)) (modes_from (mode_after m b) (k + 1) l) (read_after m b) h
    go false h = ended_far m k

-- behind these bytes no `{` waits for the next byte
abbrev Settled : Mode → List ℕ → Type 0
Settled m [] = T (not (eqb (read m) 1) || not (scans m))
Settled m (b ∷ x) = Settled (mode_after m b) x

settled : (m : Mode) (x : List ℕ) → Settled m (x ++ (quote ∷ []))
unfolding mode_after
settled Text [] = tt
settled Escape [] = tt
settled Letter [] = tt
settled Code [] = tt
settled Brace [] = tt
settled Hole [] = tt
settled Last [] = tt
settled Torn [] = tt
settled m (b ∷ x) = settled (mode_after m b) x

abbrev pub Moved : ℕ → ℕ → Scanned → Scanned → Type 0
Moved z z' (Some (Before e)) p = e + 1 ≤ z → (e' : ℕ) → e + z' ≡ e' + z → p ≡ Some (Before e')
Moved z z' (Some (Ends e)) p = e + 1 ≤ z → (e' : ℕ) → e + z' ≡ e' + z → p ≡ Some (Ends e')
Moved z z' None p = Unit {0}

module _ (z z' : ℕ) where
  ended_moved : (m : Mode) (k k' : ℕ) → read m ≤ k → read m ≤ k' → k + z' ≡ k' + z → Moved z z' (ended_at m k) (ended_at m k')
  ended_moved Text k k' h h' at = tt
  ended_moved Escape k k' h h' at = tt
  ended_moved Letter k k' h h' at = tt
  ended_moved Code k k' h h' at = tt
  ended_moved Brace k k' h h' at = tt
  ended_moved Hole k k' h h' at = λ g e' x. ap (λ (z : ℕ). Some (Before z)) (omega arith)
  ended_moved Last k k' h h' at = λ g e' x. ap (λ (z : ℕ). Some (Ends z)) (omega arith)
  ended_moved Torn k k' h h' at = tt

  too_far : (k : ℕ) (p p' : Scanned) → z ≤ k → Far k 0 p → Moved z z' p p'
  too_far k (Some (Before e)) p' h g = λ n. absurd (omega arith)
  too_far k (Some (Ends e)) p' h g = λ n. absurd (omega arith)
  too_far k None p' h g = tt

  -- where the scan has ended, both answers are known
  both_ended : (m : Mode) (k k' : ℕ) (y y' : List ℕ) → scans m ≡ false → read m ≤ k → read m ≤ k' → k + z' ≡ k' + z → Moved z z' (modes_from m k y) (modes_from m k' y')
  both_ended m k k' y y' e h h' at =
      subst (λ (p : Scanned). Moved z z' p (modes_from m k' y')) (sym (stays m k y e)) (subst (Moved z z' (ended_at m k)) (sym (stays m k' y' e)) (ended_moved m k k' h h' at))

  at_end : (m : Mode) (k k' : ℕ) (y y' : List ℕ) → Settled m [] → read m ≤ k → read m ≤ k' → k ≡ z → k' ≡ z' → Moved z z' (modes_from m k y) (modes_from m k' y')
  at_end Text k k' y y' f h h' e e' = too_far k (modes_from Text k y) _ (omega arith) (far Text k y)
  at_end Escape k k' y y' f h h' e e' = too_far k (modes_from Escape k y) _ (omega arith) (far Escape k y)
  at_end Letter k k' y y' f h h' e e' = too_far k (modes_from Letter k y) _ (omega arith) (far Letter k y)
  at_end Code k k' y y' f h h' e e' = too_far k (modes_from Code k y) _ (omega arith) (far Code k y)
  at_end Brace k k' y y' f h h' e e' = absurd f
  at_end Hole k k' y y' f h h' e e' = both_ended Hole k k' y y' refl h h' (omega arith)
  at_end Last k k' y y' f h h' e e' = both_ended Last k k' y y' refl h h' (omega arith)
  at_end Torn k k' y y' f h h' e e' = both_ended Torn k k' y y' refl h h' (omega arith)

  alike : (m : Mode) (x y y' : List ℕ) (k k' : ℕ) → Settled m x → read m ≤ k → read m ≤ k' → k + length x ≡ z → k' + length x ≡ z' → Moved z z' (modes_from m k (x ++ y)) (modes_from m k' (x ++ y'))
  unfolding modes_from
  alike m [] y y' k k' f h h' e e' = at_end m k k' y y' f h h' (omega arith) (omega arith)
  alike m (b ∷ x) y y' k k' f h h' e e' =
      let g = read_after m b in
      go (scans m) (alike (mode_after m b) x y y' (k + 1) (k' + 1) f (omega arith) (omega arith) (omega arith) (omega arith))
    where
      go : (u : Bool) → Moved z z' (modes_from (mode_after m b) (k + 1) (x ++ y)) (modes_from (mode_after m b) (k' + 1) (x ++ y'))
          → Moved z z' (elim u [ true ↦ modes_from (mode_after m b) (k + 1) (x ++ y) | false ↦ ended_at m k ]) (elim u [ true ↦ modes_from (mode_after m b) (k' + 1) (x ++ y') | false ↦ ended_at m k' ])
      go true r = r
      go false r = ended_moved m k k' h h' (omega arith)

word_of_lem : (w a e : ℕ) (o : Size) → (text_token w a e o).word ≡ w
word_of_lem w a e (Some n) = refl
word_of_lem w a e None = refl

-- a piece doesn't go back, and one with no hole has its quote
pub piece_lies : (s : List ℕ) (i : ℕ) (x : Token) (j : ℕ) → (source s).piece i ≡ found x j → (i ≤ j) × ((x.word ≡ text_then_hole) ⊎ (i < j))
piece_lies s i x j z = by (part_at s i) (part_lies s i) z
  where
    by : (p : Scanned) → Parted i (length s) p → piece_of s i p ≡ found x j → (i ≤ j) × ((x.word ≡ text_then_hole) ⊎ (i < j))
    by (Some (Before e)) (parted_before g k) f =
        let u : e ≡ j = cc in
        let c : text_token text_then_hole i e (text_of (slice i e s)) ≡ x = cc in
        (omega arith, inl (sym (ap (λ (o : Token). o.word) c) ∙ word_of_lem text_then_hole i e (text_of (slice i e s))))
    by (Some (Ends e)) (parted_ends g k) f = let u : e + 1 ≡ j = cc in (omega arith, inr (omega arith))
    by None parted_none f = let v : ◌≡◌ {A = ℕ} 0 1 = cc in absurd (omega arith)

-- where a text ends that no hole follows, its quote stands
ended_last : (m : Mode) (k e : ℕ) → ended_at m k ≡ Some (Ends e) → (m ≡ Last) × (k - 1 ≡ e)
ended_last Text k e z = let v : ◌≡◌ {A = ℕ} 0 1 = cc in absurd (omega arith)
ended_last Escape k e z = let v : ◌≡◌ {A = ℕ} 0 1 = cc in absurd (omega arith)
ended_last Letter k e z = let v : ◌≡◌ {A = ℕ} 0 1 = cc in absurd (omega arith)
ended_last Code k e z = let v : ◌≡◌ {A = ℕ} 0 1 = cc in absurd (omega arith)
ended_last Brace k e z = let v : ◌≡◌ {A = ℕ} 0 1 = cc in absurd (omega arith)
ended_last Hole k e z = let v : ◌≡◌ {A = ℕ} 0 1 = cc in absurd (omega arith)
ended_last Last k e z = (refl, cc)
ended_last Torn k e z = let v : ◌≡◌ {A = ℕ} 0 1 = cc in absurd (omega arith)

not_last : (c : Bool) (x y : Mode) → (x ≡ Last → ⊥) → (y ≡ Last → ⊥) → cond c x y ≡ Last → ⊥
not_last true x y h k z = h z
not_last false x y h k z = k z

last_after : (m : Mode) (b : ℕ) → scans m ≡ true → mode_after m b ≡ Last → b ≡ quote
unfolding mode_after
last_after Text b f z = by (eqb b backslash) (eqb b open_brace) (eqb b quote) refl z
  where
    by : (u v w : Bool) → eqb b quote ≡ w → cond u Escape (cond v Brace (cond w Last Text)) ≡ Last → b ≡ quote
    by true v w e z = let n : ◌≡◌ {A = ℕ} 0 1 = cc in absurd (omega arith)
    by false true w e z = let n : ◌≡◌ {A = ℕ} 0 1 = cc in absurd (omega arith)
    by false false true e z = eqb-true b quote e
    by false false false e z = let n : ◌≡◌ {A = ℕ} 0 1 = cc in absurd (omega arith)
last_after Escape b f z = absurd (not_last (eqb b small_u || eqb b capital_u) Letter Text (λ o. let n : ◌≡◌ {A = ℕ} 0 1 = cc in omega arith) (λ o. let n : ◌≡◌ {A = ℕ} 0 1 = cc in omega arith) z)
last_after Letter b f z = absurd (not_last (eqb b open_brace) Code Torn (λ o. let n : ◌≡◌ {A = ℕ} 0 1 = cc in omega arith) (λ o. let n : ◌≡◌ {A = ℕ} 0 1 = cc in omega arith) z)
last_after Code b f z = absurd (not_last (eqb b close_brace) Text Code (λ o. let n : ◌≡◌ {A = ℕ} 0 1 = cc in omega arith) (λ o. let n : ◌≡◌ {A = ℕ} 0 1 = cc in omega arith) z)
last_after Brace b f z = absurd (not_last (eqb b open_brace) Text Hole (λ o. let n : ◌≡◌ {A = ℕ} 0 1 = cc in omega arith) (λ o. let n : ◌≡◌ {A = ℕ} 0 1 = cc in omega arith) z)
last_after Hole b f z = absurd (true≢false (sym f))
last_after Last b f z = absurd (true≢false (sym f))
last_after Torn b f z = absurd (true≢false (sym f))

pub byte_tail : (b : ℕ) (l : List ℕ) (n m : ℕ) → m ≡ n + 1 → byte_at (b ∷ l) m ≡ byte_at l n
byte_tail b l n m e = ap (byte_at (b ∷ l)) {x = m} {y = 1 + n} (omega arith) ∙ sym (byte_drop (b ∷ l) 1 n)

quote_ends : (m : Mode) (k : ℕ) (l : List ℕ) (e : ℕ) → scans m ≡ true → modes_from m k l ≡ Some (Ends e) → (k ≤ e) × (e < k + length l) × (byte_at l (e - k) ≡ quote)
unfolding modes_from
quote_ends m k [] e f z = absurd (true≢false (sym f ∙ ap scans (ended_last m k e z).0))
quote_ends m k (b ∷ l) e f z = next (scans (mode_after m b)) refl (quote_ends (mode_after m b) (k + 1) l e)
  where
    goes : (u : Bool) → u ≡ true → elim u [ true ↦ modes_from (mode_after m b) (k + 1) l | false ↦ ended_at m k ] ≡ Some (Ends e) → modes_from (mode_after m b) (k + 1) l ≡ Some (Ends e)
    goes true g y = y
    goes false g y = absurd (true≢false (sym g))

    on : modes_from (mode_after m b) (k + 1) l ≡ Some (Ends e)
    on = goes (scans m) f z

    next : (u : Bool) → scans (mode_after m b) ≡ u → (scans (mode_after m b) ≡ true → modes_from (mode_after m b) (k + 1) l ≡ Some (Ends e) → (k + 1 ≤ e) × (e < k + 1 + length l) × (byte_at l (e - (k + 1)) ≡ quote)) → (k ≤ e) × (e < k + length (b ∷ l)) × (byte_at (b ∷ l) (e - k) ≡ quote)
    next true g ih =
        let r = ih g on in
        let r₀ = r.0 in
        let r₁ = r.1 in
        (omega arith, omega arith, byte_tail b l (e - (k + 1)) (e - k) (omega arith) ∙ r.2)
    next false g ih =
        let r = ended_last (mode_after m b) (k + 1) e (sym (stays (mode_after m b) (k + 1) l g) ∙ on) in
        let r₁ = r.1 in
        (omega arith, omega arith, ap (byte_at (b ∷ l)) {x = e - k} {y = 0} (omega arith) ∙ front b l ∙ last_after m b f r.0)

pub piece_quote : (s : List ℕ) (i : ℕ) (x : Token) (j : ℕ) → (source s).piece i ≡ found x j → (x.word ≡ text_then_hole → ⊥) → (e : ℕ) × (j ≡ e + 1) × (byte_at s e ≡ quote) × (e < length s)
piece_quote s i x j z none = by (part_at s i) refl z
  where
    by : (p : Scanned) → part_at s i ≡ p → piece_of s i p ≡ found x j → (e : ℕ) × (j ≡ e + 1) × (byte_at s e ≡ quote) × (e < length s)
    by (Some (Before e)) o f = let c : text_token text_then_hole i e (text_of (slice i e s)) ≡ x = cc in absurd (none (sym (ap (λ (v : Token). v.word) c) ∙ word_of_lem text_then_hole i e (text_of (slice i e s))))
    by (Some (Ends e)) o f =
        let u : e + 1 ≡ j = cc in
        let r = quote_ends Text i (drop i s) e refl (modes_part s i ∙ o) in
        let r₀ = r.0 in
        let r₁ = r.1 in
        let n = length-drop i s in
        (e, sym u, ap (byte_at s) {x = e} {y = i + (e - i)} (omega arith) ∙ sym (byte_drop s i (e - i)) ∙ r.2, omega arith)
    by None o f = let v : ◌≡◌ {A = ℕ} 0 1 = cc in absurd (omega arith)

-- the last piece ends before that quote
pub piece_last : (s : List ℕ) (i : ℕ) (x : Token) (j : ℕ) → (source s).piece i ≡ found x j → (x.word ≡ text_then_hole → ⊥) → (x.end + 1 ≡ j) × T (is_piece x.word)
piece_last s i x j z none = by (part_at s i) z
  where
    ends : (w a e : ℕ) (n : Size) → (text_token w a e n).end ≡ e
    ends w a e (Some n) = refl
    ends w a e None = refl

    by : (p : Scanned) → piece_of s i p ≡ found x j → (x.end + 1 ≡ j) × T (is_piece x.word)
    by (Some (Before e)) f = let c : text_token text_then_hole i e (text_of (slice i e s)) ≡ x = cc in absurd (none (sym (ap (λ (v : Token). v.word) c) ∙ word_of_lem text_then_hole i e (text_of (slice i e s))))
    by (Some (Ends e)) f =
        let u : e + 1 ≡ j = cc in
        let c : text_token last_text i e (text_of (slice i e s)) ≡ x = cc in
        (ap (λ (n : ℕ). n + 1) (sym (ap (λ (v : Token). v.end) c) ∙ ends last_text i e (text_of (slice i e s))) ∙ u, subst (λ (n : ℕ). T (is_piece n)) (sym (word_of_lem last_text i e (text_of (slice i e s))) ∙ ap (λ (v : Token). v.word) c) tt)
    by None f = let v : ◌≡◌ {A = ℕ} 0 1 = cc in absurd (omega arith)

-- a copy whose last byte is a quote
module _ {s t : List ℕ} {lo : ℕ} (q q' : ℕ) (copy : Copied s t lo (q + 1) (q' + 1)) (shut : byte_at s q ≡ quote) where
  pub part_copied : (i i' : ℕ) → lo ≤ i → i ≤ q → i + q' ≡ i' + q → Moved (q + 1) (q' + 1) (part_at s i) (part_at t i')
  part_copied i i' l h at =
      let in_s = copy.in_s in
      let in_t = copy.in_t in
      let x : List ℕ = slice i (q + 1) s in
      let n : length x ≡ q + 1 - i = length-slice i (q + 1) s in_s in
      let len : length (take (q + 1) s) ≡ q + 1 = length-take-le (q + 1) s in_s in
      let last : slice q (q + 1) s ≡ quote ∷ [] = first_of s q (q + 1) (omega arith) in_s ∙ ap (λ (b : ℕ). b ∷ slice (q + 1) (q + 1) s) shut ∙ ap (λ (o : List ℕ). quote ∷ o) (slice_empty (q + 1) s) in
      let two : x ≡ slice i q (take (q + 1) s) ++ (quote ∷ []) = in_two (take (q + 1) s) i q h (omega arith) ∙ ap (λ (o : List ℕ). slice i q (take (q + 1) s) ++ o) last in
      let a : drop i s ≡ x ++ drop (q + 1) s = in_two s i (q + 1) (omega arith) in_s in
      let a' : drop i' t ≡ x ++ drop (q' + 1) t = in_two t i' (q' + 1) (omega arith) in_t ∙ ap (λ (o : List ℕ). o ++ drop (q' + 1) t) (text_copied copy i i' (q + 1) (q' + 1) l (omega arith) (omega arith) (omega arith) (omega arith)) in
      let r = alike (q + 1) (q' + 1) Text x (drop (q + 1) s) (drop (q' + 1) t) i i' (subst (Settled Text) (sym two) (settled Text (slice i q (take (q + 1) s)))) (omega arith) (omega arith) (omega arith) (omega arith) in
      subst (λ (p : Scanned). Moved (q + 1) (q' + 1) p (part_at t i')) (ap (modes_from Text i) (sym a) ∙ modes_part s i)
      (subst (Moved (q + 1) (q' + 1) (modes_from Text i (x ++ drop (q + 1) s))) (ap (modes_from Text i') (sym a') ∙ modes_part t i') r)

  -- as the grammar sees it; a hole's piece ends before the quote
  pub piece_copied : (i i' j j' : ℕ) (x : Token) → lo ≤ i → i ≤ q → i + q' ≡ i' + q → (source s).piece i ≡ found x j → j ≤ q + 1 → (x.word ≡ text_then_hole → j ≤ q) → j + q' ≡ j' + q
      → (y : Token) × ((source t).piece i' ≡ found y j') × (bare y ≡ bare x) × T (is_piece x.word)
  piece_copied i i' j j' x l h at z top hole to = by (part_at s i) (part_copied i i' l h at) (part_lies s i) z
    where
      sized : (w a e a' e' : ℕ) (o : Size) → bare (text_token w a e o) ≡ bare (text_token w a' e' o)
      sized w a e a' e' (Some n) = refl
      sized w a e a' e' None = refl

      -- the same piece from a' to e' of the copy
      same : (w e e' : ℕ) → T (is_piece w) → text_token w i e (text_of (slice i e s)) ≡ x → i ≤ e → e ≤ q → e + q' ≡ e' + q
          → (bare (text_token w i' e' (text_of (slice i' e' t))) ≡ bare x) × T (is_piece x.word)
      same w e e' p c ge le k = (
        ap (λ (o : List ℕ). bare (text_token w i' e' (text_of o))) (text_copied copy i i' e e' l ge (omega arith) (omega arith) (omega arith)) ∙ sized w i' e' i e (text_of (slice i e s)) ∙ ap bare c,
        subst (λ (n : ℕ). T (is_piece n)) (sym (word_of_lem w i e (text_of (slice i e s))) ∙ ap (λ (o : Token). o.word) c) p,
      )

      by : (p : Scanned) → Moved (q + 1) (q' + 1) p (part_at t i') → Parted i (length s) p → piece_of s i p ≡ found x j → (y : Token) × ((source t).piece i' ≡ found y j') × (bare y ≡ bare x) × T (is_piece x.word)
      by (Some (Before e)) m (parted_before g k) f =
          let u : e ≡ j = cc in
          let c : text_token text_then_hole i e (text_of (slice i e s)) ≡ x = cc in
          let b = hole (sym (ap (λ (o : Token). o.word) c) ∙ word_of_lem text_then_hole i e (text_of (slice i e s))) in
          let d = m (omega arith) j' (omega arith) in
          let r = same text_then_hole e j' tt c g (omega arith) (omega arith) in
          (text_token text_then_hole i' j' (text_of (slice i' j' t)), ap (piece_of t i') d, r.0, r.1)
      by (Some (Ends e)) m (parted_ends g k) f =
          let u : e + 1 ≡ j = cc in
          let c : text_token last_text i e (text_of (slice i e s)) ≡ x = cc in
          let e' : ℕ = i' + (e - i) in
          let d = m (omega arith) e' (omega arith) in
          let r = same last_text e e' tt c g (omega arith) (omega arith) in
          let n : e' + 1 ≡ j' = omega arith in
          (text_token last_text i' e' (text_of (slice i' e' t)), ap (piece_of t i') d ∙ ap (found (text_token last_text i' e' (text_of (slice i' e' t)))) n, r.0, r.1)
      by None m parted_none f = let v : ◌≡◌ {A = ℕ} 0 1 = cc in absurd (omega arith)
