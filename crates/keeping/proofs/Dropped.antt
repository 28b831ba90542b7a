-- A range is dropped: what was kept before it stays kept in the blanked text, and what is kept from behind it on is kept from before it on.
use Rattle.std.specs.Prelude.{Some, None, Ok, Err}
use mathlib.Core.Path.{◌≡◌, refl, sym, ap, subst, ◌∙◌}
use mathlib.Core.List.{List, [], ◌∷◌}
use mathlib.Core.Bool.{Bool, true, false}
use mathlib.Core.Logic.{◌⊎◌, inl, inr}
use Prim.Native.Nat.{ℕ, ◌+◌, ◌-◌, ◌<◌, ◌≤◌}
use native.Mathlib.Omega.{arith}
use lib.Dec.{T, eqb, eqb→eq}
use lib.ListN.{length}
use Rattle.chars.specs.declared.Class.TheVariants.{Blank}
use Rattle.chars.specs.Chars.{byte_at, is_class}
use Rattle.tokens.specs.declared.Refusal.{Refusal}
use Rattle.tokens.specs.Results.{Step}
use Rattle.tokens.specs.Blanks.{skip_all}
use Rattle.tokens.specs.Tokens.{step_at}
use Rattle.tokens.proofs.Steps.{taken_good}
use Rattle.texts.specs.Results.{Scanned}
use Rattle.texts.specs.declared.Part.{Part}
use Rattle.texts.specs.declared.Part.TheVariants.{Before, Ends as Last}
use Rattle.texts.specs.Parts.{part_at}
use Rattle.texts.proofs.Parts.{Parted, parted_before, parted_ends, parted_none, part_lies}
use Rattle.grammar.specs.Words.{f_quote, text_then_hole}
use Rattle.grammar.specs.Grammar.{Token, found, Parts, one_of}
use Rattle.grammar.specs.Limits.{zeros}
use Rattle.grammar.specs.Table.{a}
use Rattle.grammar.specs.Kinds.{DECLARATION}
use Rattle.grammar.specs.Language.{roto}
use Rattle.grammar.specs.Readings.{Reading}
use Rattle.grammar.proofs.Checks.{roto_full}
use Rattle.answers.specs.Source.{source, look_of, look_after, piece_of}
use Rattle.answers.proofs.Ahead.{Steps, steps_token, steps_over, steps_quote, steps_wrong, step_goes, tokens_take, pieces_take}
use Rattle.keeping.specs.Kept.{Kept, none, more, Ends}
use Rattle.keeping.proofs.Window.{roto_solid, within}
use Rattle.keeping.proofs.Lists.{joined, kept_within}
use Rattle.keeping.proofs.Fence.{Fence}
use Rattle.keeping.proofs.Gap.{gap}
use Rattle.keeping.proofs.Ending.{closers, roto_shut, last_sign}
use Rattle.keeping.proofs.Signs.{sign_token}
use Rattle.keeping.proofs.Looks.{not_taken, as_token, look_upto, piece_upto}

pub pieces_keep : (s : List ℕ) (x : Token) (i j : ℕ) → (source s).piece i ≡ found x j → length s - j ≤ length s - i
pieces_keep s x i j e = let h = pieces_take s x i j e in omega arith

-- a token ends in the source
pub look_in : (s : List ℕ) (x : Token) (i j : ℕ) → (source s).look i ≡ found x j → j ≤ length s
look_in s x i j e = by (step_at s i) (step_goes s i) e
  where
    after : (b q : Bool) (r : Refusal) → (T q → r.end ≤ length s) → look_after b q r ≡ found x j → j ≤ length s
    after true q r h z = let v : ◌≡◌ {A = ℕ} 0 1 = cc in absurd (omega arith)
    after false true r h z = let v : r.end ≡ j = cc in omega (arith, v, h tt)
    after false false r h z = let v : ◌≡◌ {A = ℕ} 0 1 = cc in absurd (omega arith)

    by : (k : Step) → Steps s i k → look_of s k ≡ found x j → j ≤ length s
    by (Ok (w, p, n)) (steps_token h m l v) z = let u : n.at ≡ j = cc in omega arith
    by (Err r) steps_over z = let v : ◌≡◌ {A = ℕ} 0 1 = cc in absurd (omega arith)
    by (Err r) (steps_quote c l m) z = after (eqb r.number 11) (eqb r.number 5) r (λ t. m) z
    by (Err r) (steps_wrong c) z = after (eqb r.number 11) (eqb r.number 5) r (λ t. let v : ◌≡◌ {A = ℕ} 4 5 = sym c ∙ eqb→eq r.number 5 t in absurd (omega (arith, v))) z

pub piece_in : (s : List ℕ) (x : Token) (i j : ℕ) → (source s).piece i ≡ found x j → j ≤ length s
piece_in s x i j e = by (part_at s i) (part_lies s i) e
  where
    by : (k : Scanned) → Parted i (length s) k → piece_of s i k ≡ found x j → j ≤ length s
    by (Some (Before b)) (parted_before h m) z = let v : b ≡ j = cc in omega arith
    by (Some (Last b)) (parted_ends h m) z = let v : b + 1 ≡ j = cc in omega arith
    by None parted_none z = let v : ◌≡◌ {A = ℕ} 0 1 = cc in absurd (omega arith)

-- the byte of a `}` or `;`
pub record Fenced (s : List ℕ) (m : ℕ) : Type 0 where
  pub place : ℕ
  pub behind : m ≡ place + 1
  pub inside : place < length s
  pub fence : Fence (byte_at s place)

fenced : (s : List ℕ) (x : Token) (i m : ℕ) → (source s).look i ≡ found x m → T (one_of x.word closers) → Fenced s m
fenced s x i m e c = by (step_at s i) refl e
  where
    after : (b q : Bool) (r : Refusal) → look_after b q r ≡ found x m → T (one_of x.word closers) → ⊥
    after true q r z c = let v : ◌≡◌ {A = ℕ} 0 1 = cc in omega arith
    after false true r z c = let v : f_quote ≡ x.word = cc in subst (λ (w : ℕ). T (one_of w closers)) (sym v) c
    after false false r z c = let v : ◌≡◌ {A = ℕ} 0 1 = cc in omega arith

    by : (k : Step) → step_at s i ≡ k → look_of s k ≡ found x m → Fenced s m
    by (Ok (w, p, n)) f z =
        let v : w ≡ x.word = cc in
        let u : n.at ≡ m = cc in
        let g = sign_token s (skip_all s i) (subst (λ (y : ℕ). T (one_of y closers)) (sym v) c) (as_token s i f (not_taken (length s))) in
        let b = g.behind in
        let l = (taken_good s i f).2 in
        record { place = skip_all s i; behind = omega arith; inside = omega arith; fence = g.fence }
    by (Err r) f z = absurd (after (eqb r.number 11) (eqb r.number 5) r z c)

module _ (tests : Bool) where
  -- a declaration ends with its sign
  pub sign_behind : (s : List ℕ) {i m : ℕ} {p : Parts} → Reading (source s) (roto tests) zeros (a DECLARATION ∷ []) i m p → Fenced s m
  sign_behind s {m = m} r = let k = last_sign (roto tests) (roto_shut tests) (source s) r tt in fenced s k.sign k.place m k.seen k.closes

  -- so do declarations, unless there is none
  pub kept_sign : (s : List ℕ) {i m : ℕ} → Kept (source s) (roto tests) i m → (m ≡ i) ⊎ Fenced s m
  kept_sign s none = inl refl
  kept_sign s (more r k) = elim (kept_sign s k) [ inl e ↦ inr (subst (Fenced s) (sym e) (sign_behind s r)) | inr f ↦ inr f ]

  hole_is : (b : Bool) → (roto b).hole ≡ text_then_hole
  unfolding roto
  hole_is b = refl

  module _ (s t : List ℕ) (long : length s ≡ length t) where
    -- up to a `}` or `;` at which two texts agree, and before it, they show the same
    module _ {m : ℕ} (f : Fenced s m) (same : (k : ℕ) → k < m → byte_at s k ≡ byte_at t k) where
      upto : (k : ℕ) → k ≤ f.place → byte_at s k ≡ byte_at t k
      upto k h = let e = f.behind in same k (omega arith)

      looks : (x : Token) (i j : ℕ) → (source s).look i ≡ found x j → length s - m ≤ length s - j → (source t).look i ≡ found x j
      looks x i j e b = look_upto s t f.place long upto f.fence f.inside x i j e (let u = look_in s x i j e in let v = f.behind in let w = f.inside in omega arith)

      pieces : (x : Token) (i j : ℕ) → (source s).piece i ≡ found x j → length s - m ≤ length s - j → (T (eqb x.word (roto tests).hole) → length s - m < length s - j) → (source t).piece i ≡ found x j
      pieces x i j e b c =
          let u = piece_in s x i j e in
          let v = f.behind in
          let w = f.inside in
          piece_upto s t f.place long upto f.fence f.inside x i j e (omega arith) (λ h. let z = c (subst (λ (n : ℕ). T (eqb x.word n)) (sym (hole_is tests)) h) in omega arith)

      -- a declaration that ends there or before is the same
      pub declaration_upto : {i j : ℕ} {p : Parts} → Reading (source s) (roto tests) zeros (a DECLARATION ∷ []) i j p → length s - m ≤ length s - j → Reading (source t) (roto tests) zeros (a DECLARATION ∷ []) i j p
      declaration_upto r h = within (roto tests) (roto_full tests) (roto_solid tests) ℕ (source s).look (source s).piece (λ i. length s - i) (tokens_take s) (pieces_keep s) (source t).look (source t).piece (length s - m) looks pieces r tt h

    -- what is kept up to there
    pub kept_upto : {i m : ℕ} → (f : Fenced s m) → ((k : ℕ) → k < m → byte_at s k ≡ byte_at t k) → Kept (source s) (roto tests) i m → Kept (source t) (roto tests) i m
    kept_upto {m = m} f same k =
        kept_within tests ℕ (source s).look (source s).piece (λ i. length s - i) (tokens_take s) (pieces_keep s)
        (source t).look (source t).piece (length s - m) (looks f same) (pieces f same) k (omega arith)

    module _ (first line : ℕ) (inside : first < length s) (over_it : first ≤ line) (same : (i : ℕ) → i < first → byte_at s i ≡ byte_at t i) (blank : (i : ℕ) → first ≤ i → i < line → is_class Blank (byte_at t i) ≡ true) where
      -- t has blanks from the first token behind what is kept up to a line: what is kept before it and from that line on is kept together
      pub dropped : {i m : ℕ} → skip_all s m ≡ first → m ≤ first → Kept (source s) (roto tests) i m → Ends (source t) (roto tests) line → Ends (source t) (roto tests) i
      dropped {i} {m} reach le k x = joined tests ℕ (source t).look (source t).piece (λ n. length t - n) (tokens_take t) (pieces_keep t) (stays (kept_sign s k)) (ap (look_of t) (sym (gap s t first long inside same m line reach over_it blank))) x
        where
          stays : (m ≡ i) ⊎ Fenced s m → Kept (source t) (roto tests) i m
          stays (inl e) = subst (λ (n : ℕ). Kept (source t) (roto tests) i n) (sym e) none
          stays (inr f) = kept_upto f (λ n h. same n (omega arith)) k
