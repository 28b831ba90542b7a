-- What the grammar sees at a place, up to a `}` or `;` at which two texts agree: the same token, and the same piece of text.
use Rattle.std.specs.Prelude.{Some, None, Ok, Err}
use mathlib.Core.Path.{◌≡◌, refl, sym, ap, subst, ◌∙◌}
use mathlib.Core.List.{List}
use mathlib.Core.Bool.{Bool, true, false, cond}
use Prim.Native.Nat.{ℕ, ◌+◌, ◌<◌, ◌≤◌}
use native.Mathlib.Decide.{dec_lt}
use native.Mathlib.Omega.{arith}
use lib.ListN.{length}
use lib.Seq.{slice}
use lib.Dec.{T, eqb, eqb→eq}
use borrow.Author.Tests.{lt-ltb, le-ltb}
use Rattle.chars.specs.Chars.{byte_at}
use Rattle.values.specs.Literals.{literal_of}
use Rattle.tokens.proofs.Results.{taken_start}
use Rattle.tokens.specs.Results.{Fit}
use Rattle.tokens.specs.declared.Cursor.{Cursor}
use Rattle.tokens.specs.declared.Refusal.{Refusal}
use Rattle.tokens.specs.Results.{Step}
use Rattle.tokens.specs.Words.{code_of}
use Rattle.tokens.specs.Blanks.{skip_all}
use Rattle.tokens.specs.Rules.{pair_at, quote_at, name_at, taken, refused, or_else, token_at}
use Rattle.tokens.specs.Tokens.{step_at}
use Rattle.tokens.proofs.Steps.{step_inside, step_end, taken_good}
use Rattle.strings.specs.Results.{Size}
use Rattle.texts.specs.Results.{Scanned}
use Rattle.texts.specs.declared.Part.{Part}
use Rattle.texts.specs.declared.Part.TheVariants.{Before, Ends}
use Rattle.texts.specs.Parts.{part_at}
use Rattle.texts.specs.Texts.{text_of}
use Rattle.texts.proofs.Parts.{Parted, parted_before, parted_ends, parted_none, part_lies}
use Rattle.grammar.specs.Words.{text_then_hole, last_text}
use Rattle.grammar.specs.Grammar.{found, over}
use Rattle.grammar.specs.Grammar as grammar
use Rattle.answers.specs.Source.{source, look_of, look_after, token_for, text_token, piece_of}
use Rattle.keeping.proofs.Fence.{Fence, slice_same, ends_in, token_same, token_upto}
use Rattle.keeping.proofs.Skips.{step_before, step_fence}
use Rattle.keeping.proofs.Pieces.{Upto, part_upto}

-- A step that finds something is the rules' word for the place behind what is skipped.
module _ (s : List ℕ) (i : ℕ) {k : Step} (e : step_at s i ≡ k) (some : refused 11 (length s) (length s) ≡ k → ⊥) where
  pub is_in : skip_all s i < length s
  unfolding step_at
  is_in = elim (dec_lt (skip_all s i) (length s)) [ yes h ↦ h | no h ↦ absurd (some (sym (ap (λ (b : Bool). cond b (token_at s (skip_all s i)) (refused 11 (length s) (length s))) (le-ltb (skip_all s i) (length s) (omega arith))) ∙ e)) ]

  pub as_token : token_at s (skip_all s i) ≡ k
  unfolding step_at
  as_token = sym (ap (λ (b : Bool). cond b (token_at s (skip_all s i)) (refused 11 (length s) (length s))) (lt-ltb (skip_all s i) (length s) is_in)) ∙ e

pub not_taken : (n : ℕ) {w a : ℕ} {c : Cursor} → refused 11 n n ≡ Ok (w, a, c) → ⊥
unfolding refused
not_taken n z = let v : ◌≡◌ {A = ℕ} 0 1 = cc in omega arith

not_quote : (n : ℕ) {r : Refusal} → r.number ≡ 5 → refused 11 n n ≡ Err r → ⊥
unfolding refused
not_quote n five z = let v : ◌≡◌ {A = ℕ} 11 5 = cc in omega (arith, v)

-- where a token begins
module _ (at : ℕ) {w a : ℕ} {n : Cursor} where
  or_start : (f : Fit) (d : Step) → (d ≡ Ok (w, a, n) → a ≡ at) → or_else at f d ≡ Ok (w, a, n) → a ≡ at
  unfolding or_else taken
  or_start (Some (e, v)) d k z = let u : at ≡ a = ap taken_start z in sym u
  or_start None d k z = k z

  none_start : (i j k : ℕ) → refused i j k ≡ Ok (w, a, n) → a ≡ at
  unfolding refused
  none_start i j k z = let v : ◌≡◌ {A = ℕ} 0 1 = cc in absurd (omega arith)

  pick_start : (b : Bool) (i j k : ℕ) (d : Step) → (d ≡ Ok (w, a, n) → a ≡ at) → cond b (refused i j k) d ≡ Ok (w, a, n) → a ≡ at
  pick_start true i j k d f z = none_start i j k z
  pick_start false i j k d f z = f z

  pub token_start : (s : List ℕ) → token_at s at ≡ Ok (w, a, n) → a ≡ at
  unfolding token_at
  token_start s = or_start _ _ (or_start _ _ (or_start _ _ (or_start _ _ (or_start _ _ (or_start _ _ (or_start _ _ (pick_start (pair_at s at 102 34) 5 at (at + 2) _ (or_start (quote_at 34 9 s at) _ (or_start (quote_at 39 10 s at) _ (or_start (name_at s at) _ (none_start 4 at (at + 1))))))))))))

-- where there is no token: the `f"` of an f-string, two bytes, or a byte that begins none
module _ (at : ℕ) {r : Refusal} {A : Type 0} where
  or_none : (f : Fit) (d : Step) → (d ≡ Err r → A) → or_else at f d ≡ Err r → A
  unfolding or_else taken
  or_none (Some (e, v)) d k z = let u : ◌≡◌ {A = ℕ} 0 1 = cc in absurd (omega arith)
  or_none None d k z = k z

  pick_none : (b : Bool) (x d : Step) → (x ≡ Err r → A) → (d ≡ Err r → A) → cond b x d ≡ Err r → A
  pick_none true x d f g z = f z
  pick_none false x d f g z = g z

  quotes_none : (s : List ℕ) → (refused 4 at (at + 1) ≡ Err r → A) → or_else at (quote_at 34 9 s at) (or_else at (quote_at 39 10 s at) (or_else at (name_at s at) (refused 4 at (at + 1)))) ≡ Err r → A
  quotes_none s f = or_none (quote_at 34 9 s at) _ (or_none (quote_at 39 10 s at) _ (or_none (name_at s at) _ f))

  pub token_none : (s : List ℕ) → (refused 5 at (at + 2) ≡ Err r → A) → (refused 4 at (at + 1) ≡ Err r → A) → token_at s at ≡ Err r → A
  unfolding token_at
  token_none s g f = or_none _ _ (or_none _ _ (or_none _ _ (or_none _ _ (or_none _ _ (or_none _ _ (or_none _ _ (pick_none (pair_at s at 102 34) _ _ g (quotes_none s f))))))))

not_four : {A : Type 0} {r : Refusal} (at : ℕ) → r.number ≡ 5 → refused 4 at (at + 1) ≡ Err r → A
unfolding refused
not_four at five z = let v : ◌≡◌ {A = ℕ} 4 5 = cc in absurd (omega (arith, v))

quote_end : (s : List ℕ) (at : ℕ) {r : Refusal} → r.number ≡ 5 → token_at s at ≡ Err r → r.end ≡ at + 2
unfolding refused
quote_end s at {r} five = token_none at s (λ z. let v : at + 2 ≡ r.end = cc in sym v) (not_four at five)

-- only at the end nothing stands
pub over_end : (s : List ℕ) (i : ℕ) → (source s).look i ≡ over → length s ≤ skip_all s i
unfolding refused
over_end s i e = elim (dec_lt (skip_all s i) (length s)) [ no h ↦ omega arith | yes h ↦ absurd (by (token_at s (skip_all s i)) refl (ap (look_of s) (step_inside s i refl h refl) ∙ e)) ]
  where
    not_eleven : (n m k : ℕ) {r : Refusal} → r.number ≡ 11 → (n ≡ 11 → ⊥) → refused n m k ≡ Err r → ⊥
    not_eleven n m k g f z = let v : n ≡ 11 = cc in f v

    after : (b c : Bool) (r : Refusal) → eqb r.number 11 ≡ b → look_after b c r ≡ over → r.number ≡ 11
    after true c r f z = eqb→eq r.number 11 (subst T (sym f) tt)
    after false true r f z = let v : ◌≡◌ {A = ℕ} 0 1 = cc in absurd (omega arith)
    after false false r f z = let v : ◌≡◌ {A = ℕ} 0 1 = cc in absurd (omega arith)

    by : (k : Step) → token_at s (skip_all s i) ≡ k → look_of s k ≡ over → ⊥
    by (Ok (w, a, n)) f z = let v : ◌≡◌ {A = ℕ} 0 1 = cc in omega arith
    by (Err r) f z = let g = after (eqb r.number 11) (eqb r.number 5) r refl z in token_none (skip_all s i) s (not_eleven 5 (skip_all s i) (skip_all s i + 2) g (λ v. omega (arith, v))) (not_eleven 4 (skip_all s i) (skip_all s i + 1) g (λ v. omega (arith, v))) f

-- and where something stands, it begins in the source
pub some_in : (s : List ℕ) (i : ℕ) → ((source s).look i ≡ over → ⊥) → skip_all s i < length s
unfolding refused
some_in s i f = elim (dec_lt (skip_all s i) (length s)) [ yes h ↦ h | no h ↦ absurd (f (ap (look_of s) (sym (step_end s i refl (omega arith) refl)))) ]

module _ (s t : List ℕ) (q : ℕ) (long : length s ≡ length t) (same : (i : ℕ) → i ≤ q → byte_at s i ≡ byte_at t i) (fence : Fence (byte_at s q)) (q_in : q < length s) where
  taken_upto : (i : ℕ) {w a : ℕ} {n : Cursor} → step_at s i ≡ Ok (w, a, n) → n.at ≤ q + 1 → step_at t i ≡ Ok (w, a, n)
  taken_upto i e h =
      let b = is_in s i e (not_taken (length s)) in
      let k = as_token s i e (not_taken (length s)) in
      let g = taken_good s i e in
      let z = token_start (skip_all s i) s k in
      let y = g.1 in
      elim (dec_lt (skip_all s i) q) [
        | yes l ↦ step_before s t q long same fence i e b (omega arith) (token_same s t q long same fence (skip_all s i) (ends_in s t q long same fence (skip_all s i) h (omega arith) k).0 (omega arith))
        | no l ↦ step_fence s t q long same fence i (omega arith) q_in ∙ e
      ]

  quote_upto : (i : ℕ) {r : Refusal} → r.number ≡ 5 → step_at s i ≡ Err r → r.end ≤ q + 1 → step_at t i ≡ Err r
  quote_upto i {r} five e h =
      let b = is_in s i e (not_quote (length s) five) in
      let z = quote_end s (skip_all s i) five (as_token s i e (not_quote (length s) five)) in
      step_before s t q long same fence i e b (omega arith) (token_upto s t q long same fence (skip_all s i) (Err r) (quotes_none (skip_all s i) s (not_four (skip_all s i) five)) (omega arith))

  pub look_upto : (x : grammar.Token) (i j : ℕ) → (source s).look i ≡ found x j → j ≤ q + 1 → (source t).look i ≡ found x j
  look_upto x i j = by (step_at s i) refl
    where
      after : (b c : Bool) (r : Refusal) → eqb r.number 5 ≡ c → look_after b c r ≡ found x j → (r.number ≡ 5) × (r.end ≡ j)
      after true c r f z = let v : ◌≡◌ {A = ℕ} 0 1 = cc in absurd (omega arith)
      after false true r f z = let v : r.end ≡ j = cc in (eqb→eq r.number 5 (subst T (sym f) tt), v)
      after false false r f z = let v : ◌≡◌ {A = ℕ} 0 1 = cc in absurd (omega arith)

      by : (k : Step) → step_at s i ≡ k → look_of s k ≡ found x j → j ≤ q + 1 → look_of t (step_at t i) ≡ found x j
      by (Ok (w, a, n)) e z h =
          let g = taken_good s i e in
          let v : n.at ≡ j = cc in
          let b = g.1 in
          ap (look_of t) (taken_upto i e (omega arith)) ∙ ap (λ (l : List ℕ). found (token_for w a n.at (literal_of (code_of w) l)) n.at) (sym (slice_same s t q long same fence a n.at (omega arith) (omega arith))) ∙ z
      by (Err r) e z h = let k = after (eqb r.number 11) (eqb r.number 5) r refl z in let v = k.1 in ap (look_of t) (quote_upto i k.0 e (omega arith)) ∙ z

  pub piece_upto : (x : grammar.Token) (i j : ℕ) → (source s).piece i ≡ found x j → j ≤ q + 1 → (T (eqb x.word text_then_hole) → j < q + 1) → (source t).piece i ≡ found x j
  piece_upto x i j = by (part_at s i) refl (part_lies s i)
    where
      is_hole : (e : ℕ) → found (text_token text_then_hole i e (text_of (slice i e s))) e ≡ found x j → x.word ≡ text_then_hole
      is_hole e z = word_of_lem (text_of (slice i e s)) z
        where
          word_of_lem : (n : Size) → found (text_token text_then_hole i e n) e ≡ found x j → x.word ≡ text_then_hole
          word_of_lem (Some n) z = let v : text_token text_then_hole i e (Some n) ≡ x = cc in sym (ap (λ (y : grammar.Token). y.word) v)
          word_of_lem None z = let v : text_token text_then_hole i e None ≡ x = cc in sym (ap (λ (y : grammar.Token). y.word) v)

      by : (p : Scanned) → part_at s i ≡ p → Parted i (length s) p → piece_of s i p ≡ found x j → j ≤ q + 1 → (T (eqb x.word text_then_hole) → j < q + 1) → piece_of t i (part_at t i) ≡ found x j
      by (Some (Before e)) f (parted_before l m) z h k =
          let v : e ≡ j = cc in
          let g = k (subst (λ (w : ℕ). T (eqb w text_then_hole)) (sym (is_hole e z)) tt) in
          ap (piece_of t i) (part_upto s t q long same fence q_in i (subst (Upto q) (sym f) (omega arith)) ∙ f) ∙ ap (λ (y : List ℕ). found (text_token text_then_hole i e (text_of y)) e) (sym (slice_same s t q long same fence i e l (omega arith))) ∙ z
      by (Some (Ends e)) f (parted_ends l m) z h k =
          let v : e + 1 ≡ j = cc in
          ap (piece_of t i) (part_upto s t q long same fence q_in i (subst (Upto q) (sym f) (omega arith)) ∙ f) ∙ ap (λ (y : List ℕ). found (text_token last_text i e (text_of y)) (e + 1)) (sym (slice_same s t q long same fence i e l (omega arith))) ∙ z
      by None f parted_none z h k = let v : ◌≡◌ {A = ℕ} 0 1 = cc in absurd (omega arith)
