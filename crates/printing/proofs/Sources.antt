-- The round trip over lists, for every source of bytes that has a reading.
use Rattle.std.specs.Prelude.{Some, None, Ok, Err}
use mathlib.Core.Path.{◌≡◌, refl, subst, sym}
use mathlib.Core.List.{List, [], ◌∷◌}
use mathlib.Core.Bool.{Bool, true, false, cond}
use Prim.Native.Nat.{ℕ}
use native.Mathlib.Omega.{arith}
use lib.Dec.{T, eqb, T_not}
use lib.ListN.{length}
use lib.Seq.{slice}
use Rattle.tokens.specs.declared.Refusal.{Refusal}
use Rattle.tokens.specs.Results.{Step}
use Rattle.tokens.specs.Words.{code_of}
use Rattle.tokens.specs.Tokens.{step_at}
use Rattle.numbers.specs.Results.{Number}
use Rattle.numbers.specs.Results.{Written}
use Rattle.numbers.specs.declared.Amount.{Amount}
use Rattle.numbers.specs.Numbers.{integer_of, float_of, hex_of, as_of}
use Rattle.addresses.specs.Results.{Quad}
use Rattle.addresses.specs.Results.{Address}
use Rattle.addresses.specs.Addresses.{quad_of, wide_of}
use Rattle.strings.specs.Results.{Size}
use Rattle.strings.specs.Results.{Point}
use Rattle.strings.specs.Strings.{size_of, char_of}
use Rattle.texts.specs.Results.{Scanned}
use Rattle.texts.specs.declared.Part.{Part}
use Rattle.texts.specs.declared.Part.TheVariants.{Before, Ends}
use Rattle.texts.specs.Parts.{part_at}
use Rattle.texts.specs.Texts.{text_of}
use Rattle.values.specs.Results.{Worth}
use Rattle.values.specs.Literals.{from_amount, from_number, from_quad, from_address, from_size, from_point, bool_of, literal_of}
use Rattle.chars.specs.Texts.{bytes, same}
use Rattle.rows.specs.Kinds as kinds
use Rattle.grammar.specs.Words.{text_then_hole, last_text, literals}
use Rattle.grammar.specs.Grammar.{Ask, plain, has_value, opens_bracket, closes_bracket, is_prefix, is_head, is_else_if, Token, Look, found, over, wrong, Parts, one_of}
use Rattle.grammar.specs.Kinds.{TREE}
use Rattle.grammar.specs.Limits.{Counts, kept}
use Rattle.grammar.specs.Readings.{Text}
use Rattle.grammar.proofs.Bools.{F→eq, or_l}
use Rattle.answers.specs.Source.{source, holds, kind_of, token_for, look_after, look_of, text_token, piece_of}
use Rattle.printing.proofs.Lists.{l, held}
use Rattle.printing.proofs.Placed.{apart}
use Rattle.printing.proofs.Exprs.{literal_kinds}
use Rattle.printing.proofs.Back.{Known}
use Rattle.printing.proofs.Claims.{Knows}
use Rattle.printing.proofs.Steps.{P}
use Rattle.printing.proofs.Texts.{Sure}
use Rattle.printing.proofs.ReadsBack.{AllSuit, grove_of}
use Rattle.printing.proofs.Printed.{RoundTrip, RoundTripOf, chosen_trip, round_trip}
use Rattle.printing.specs.Groves.{bits}
use Rattle.printing.specs.Pairs.{Choice}

-- a literal that has a value has a literal's kind
abbrev Good : Worth → Type 0
Good x = T (holds x) → T (one_of (kind_of x) literal_kinds)

good_cond : (b : Bool) (x y : Worth) → Good x → Good y → Good (cond b x y)
good_cond true x y f g = f
good_cond false x y f g = g

good_amount : (x : Written) → Good (from_amount x)
good_amount (Some (Amount.Integer v d)) t = tt
good_amount (Some (Amount.Float d)) t = tt
good_amount None t = absurd t

good_number : (k : ℕ) → T (one_of k literal_kinds) → (x : Number) → Good (from_number k x)
good_number k m (Some (v, n)) t = m
good_number k m None t = absurd t

good_quad : (x : Quad) → Good (from_quad x)
good_quad (Some v) t = tt
good_quad None t = absurd t

good_address : (x : Address) → Good (from_address x)
good_address (Some x) t = tt
good_address None t = absurd t

good_size : (x : Size) → Good (from_size x)
good_size (Some n) t = tt
good_size None t = absurd t

good_point : (x : Point) → Good (from_point x)
good_point (Some c) t = tt
good_point None t = absurd t

good_bool : (t : List ℕ) → Good (bool_of t)
unfolding bool_of
good_bool t = good_cond (same t (bytes "true")) (Some (record { kind = kinds.BOOL; value = 1; detail = 0 })) (cond (same t (bytes "false")) (Some (record { kind = kinds.BOOL; value = 0; detail = 0 })) None) (λ h. tt) (good_cond (same t (bytes "false")) (Some (record { kind = kinds.BOOL; value = 0; detail = 0 })) None (λ h. tt) (λ h. absurd h))

good_literal : (c : ℕ) (t : List ℕ) → Good (literal_of c t)
unfolding literal_of
good_literal c t =
    good_cond (eqb c 1) (from_address (wide_of t)) _ (good_address (wide_of t))
    (good_cond (eqb c 2) (from_quad (quad_of t)) _ (good_quad (quad_of t))
    (good_cond (eqb c 5) (from_number kinds.ASN (as_of t)) _ (good_number kinds.ASN tt (as_of t))
    (good_cond (eqb c 6) (from_number kinds.INTEGER (hex_of t)) _ (good_number kinds.INTEGER tt (hex_of t))
    (good_cond (eqb c 7) (from_amount (integer_of t)) _ (good_amount (integer_of t))
    (good_cond (eqb c 8) (from_amount (float_of t)) _ (good_amount (float_of t))
    (good_cond (eqb c 9) (from_size (size_of t)) _ (good_size (size_of t))
    (good_cond (eqb c 10) (from_point (char_of t)) _ (good_point (char_of t))
    (good_cond (eqb c 12) (bool_of t) None (good_bool t) (λ h. absurd h)))))))))

abbrev Fine : Token → Type 0
Fine x = T x.holds → T (one_of x.kind literal_kinds)

same_token : {P : Type 0} {x y : Token} {i j : P} → ◌≡◌ {A = Look P} (found x i) (found y j) → x ≡ y
same_token e = cc

never_over : {P : Type 0} {y : Token} {j : P} → ◌≡◌ {A = Look P} over (found y j) → ⊥
never_over e = let z : ◌≡◌ {A = ℕ} 0 1 = cc in omega arith

never_wrong : {P : Type 0} {y : Token} {j : P} {n a b : ℕ} → ◌≡◌ {A = Look P} (wrong n a b) (found y j) → ⊥
never_wrong e = let z : ◌≡◌ {A = ℕ} 0 1 = cc in omega arith

after_fine : (b c : Bool) (r : Refusal) (x : Token) (j : ℕ) → look_after b c r ≡ found x j → Fine x
after_fine true c r x j e = absurd (never_over e)
after_fine false true r x j e = subst Fine (same_token e) (λ h. absurd h)
after_fine false false r x j e = absurd (never_wrong e)

look_fine : (s : List ℕ) (t : Step) (x : Token) (j : ℕ) → look_of s t ≡ found x j → Fine x
look_fine s (Ok (w, a, next)) x j e = subst Fine (same_token e) (good_literal (code_of w) _)
look_fine s (Err r) x j e = after_fine (eqb r.number 11) (eqb r.number 5) r x j e

-- no token is an f-string's row
abbrev Kinded : Token → Type 0
Kinded x = eqb x.kind kinds.F_STRING ≡ false

literal_kinded : (x : Worth) → Good x → eqb (kind_of x) kinds.F_STRING ≡ false
literal_kinded (Some x) f = F→eq (eqb x.kind kinds.F_STRING) (λ h. T_not (one_of x.kind (kinds.F_STRING ∷ [])) (apart literal_kinds (kinds.F_STRING ∷ []) x.kind tt (f tt)) (or_l (eqb x.kind kinds.F_STRING) false h))
literal_kinded None f = refl

after_kinded : (b c : Bool) (r : Refusal) (x : Token) (j : ℕ) → look_after b c r ≡ found x j → Kinded x
after_kinded true c r x j e = absurd (never_over e)
after_kinded false true r x j e = subst Kinded (same_token e) refl
after_kinded false false r x j e = absurd (never_wrong e)

look_kinded : (s : List ℕ) (t : Step) (x : Token) (j : ℕ) → look_of s t ≡ found x j → Kinded x
look_kinded s (Ok (w, a, next)) x j e = subst Kinded (same_token e) (literal_kinded (literal_of (code_of w) (slice a next.at s)) (good_literal (code_of w) (slice a next.at s)))
look_kinded s (Err r) x j e = after_kinded (eqb r.number 11) (eqb r.number 5) r x j e

pub token_kinded : (s : List ℕ) (i : ℕ) (x : Token) (j : ℕ) → (source s).look i ≡ found x j → Kinded x
token_kinded s i x j e = look_kinded s (step_at s i) x j e

abbrev Texty : Token → Type 0
Texty x = T (one_of x.word (text_then_hole ∷ last_text ∷ []))

text_word : (w a e : ℕ) (n : Size) → (text_token w a e n).word ≡ w
text_word w a e (Some n) = refl
text_word w a e None = refl

piece_texty : (s : List ℕ) (at : ℕ) (t : Scanned) (x : Token) (j : ℕ) → piece_of s at t ≡ found x j → Texty x
piece_texty s at (Some (Before e)) x j h = subst Texty (same_token h) (subst (λ (n : ℕ). T (one_of n (text_then_hole ∷ last_text ∷ []))) (sym (text_word text_then_hole at e (text_of (slice at e s)))) tt)
piece_texty s at (Some (Ends e)) x j h = subst Texty (same_token h) (subst (λ (n : ℕ). T (one_of n (text_then_hole ∷ last_text ∷ []))) (sym (text_word last_text at e (text_of (slice at e s)))) tt)
piece_texty s at None x j h = absurd (never_over h)

module _ (s : List ℕ) where
  knows : (g : Ask) (d : Counts) (x : Token) → (T (one_of x.word literals) → Fine x) → T (kept g d x) → Knows g x
  unfolding kept
  knows plain d x f k = tt
  knows has_value d x f k = (k, λ m. f m k)
  knows opens_bracket d x f k = tt
  knows closes_bracket d x f k = tt
  knows is_prefix d x f k = tt
  knows is_head d x f k = tt
  knows is_else_if d x f k = tt

  holds_on : (g : Ask) (d d' : Counts) (x : Token) → T (kept g d x) → T (held g d' x)
  unfolding kept
  holds_on plain d d' x k = tt
  holds_on has_value d d' x k = k
  holds_on opens_bracket d d' x k = tt
  holds_on closes_bracket d d' x k = tt
  holds_on is_prefix d d' x k = tt
  holds_on is_head d d' x k = tt
  holds_on is_else_if d d' x k = tt

  pub known : Known (source s) l kept Knows (P (source s) kept s)
  known = record {
    looks = λ g d i j x e k. knows g d x (λ m. look_fine s (step_at s i) x j e) k;
    pieces = λ d i j x e k. knows has_value d x (λ m. absurd (T_not (one_of x.word literals) (apart (text_then_hole ∷ last_text ∷ []) literals x.word tt (piece_texty s i (part_at s i) x j e)) m)) k;
  }

  pub sure : Sure (source s) kept
  sure = record { holds = holds_on; pieces = λ i j x e. piece_texty s i (part_at s i) x j e }

  -- the rows of an accepted source, printed as tokens, are read with the same rows and trees
  pub source_round_trip : {p : Parts} (len' : ℕ) → Text (source s) l TREE 0 p → RoundTrip (source s) kept s (length s) len' p
  source_round_trip len' t = round_trip (source s) kept s known sure (length s) len' t.reads

  -- so they are with any pairs that suit them
  pub source_chosen : {p : Parts} (len' : ℕ) → Text (source s) l TREE 0 p → (χ : Choice) → AllSuit s p χ → RoundTripOf (bits s kinds.NONE true [] [] (grove_of p) χ) (source s) kept s (length s) len' p
  source_chosen len' t = chosen_trip (source s) kept s known sure (length s) len' t.reads
