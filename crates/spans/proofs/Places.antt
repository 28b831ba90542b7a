-- The tokens of a source, and its pieces of text, lie one behind the other.
use Rattle.std.specs.Prelude.{Some, None, Ok, Err}
use mathlib.Core.Path.{◌≡◌, refl, sym, ap, ◌∙◌, subst}
use mathlib.Core.List.{List}
use mathlib.Core.Bool.{Bool, true, false, cond}
use Prim.Native.Nat.{ℕ, ◌+◌, ◌≤◌, ◌<◌}
use lib.Dec.{T, eqb, ltb, ltb→lt, eqb→eq}
use lib.ListN.{length}
use lib.Seq.{slice}
use native.Mathlib.Omega.{arith}
use Rattle.tokens.specs.Results.{Fit}
use Rattle.tokens.specs.declared.Cursor.{Cursor}
use Rattle.tokens.specs.declared.Refusal.{Refusal}
use Rattle.tokens.specs.Results.{Step}
use Rattle.tokens.specs.Blanks.{skip_all}
use Rattle.tokens.specs.Rules.{pair_at, ipv6_at, ipv4_at, two_at, one_at, as_at, hex_at, number_at, quote_at, name_at, taken, refused, or_else, token_at}
use Rattle.tokens.specs.Tokens.{step_at}
use Rattle.texts.specs.Results.{Scanned}
use Rattle.texts.specs.declared.Part.{Part}
use Rattle.texts.specs.declared.Part.TheVariants.{Before, Ends}
use Rattle.texts.specs.Parts.{part_at}
use Rattle.texts.specs.Texts.{text_of}
use Rattle.texts.proofs.Parts.{Parted, parted_before, parted_ends, parted_none, part_lies}
use Rattle.strings.specs.Results.{Size}
use Rattle.grammar.specs.Words.{text_then_hole, last_text}
use Rattle.grammar.specs.Grammar.{Token, found, Parts}
use Rattle.grammar.specs.Readings.{Text}
use Rattle.grammar.specs.Rows.{Row, rows}
use Rattle.grammar.specs.Language.{roto, goal}
use Rattle.answers.specs.Source.{source, look_of, look_after, text_token, piece_of}
use Rattle.answers.proofs.Ahead.{Steps, steps_token, steps_over, steps_quote, steps_wrong, steps_at}
use Rattle.spans.specs.Nested.{Nested}
use Rattle.spans.proofs.Laid.{Lies}
use Rattle.spans.proofs.Readings.{rows_nested}

-- what a rule says at a place begins there
data Begins (at : ℕ) : Step → Type 0 where
  token_here : {w : ℕ} {next : Cursor} → Begins at (Ok (w, at, next))
  refused_here : {r : Refusal} → r.start ≡ at → Begins at (Err r)

begins_or : {at : ℕ} (f : Fit) {d : Step} → Begins at d → Begins at (or_else at f d)
unfolding or_else taken
begins_or (Some (e, w)) h = token_here
begins_or None h = h

begins_pick : {at : ℕ} (b : Bool) {x d : Step} → Begins at x → Begins at d → Begins at (cond b x d)
begins_pick true h k = h
begins_pick false h k = k

module _ (s : List ℕ) where
  begins_at : (at : ℕ) → Begins at (token_at s at)
  unfolding token_at refused
  begins_at at =
      begins_or (ipv6_at s at)
      (begins_or (ipv4_at s at)
      (begins_or (two_at s at)
      (begins_or (one_at s at)
      (begins_or (as_at s at)
      (begins_or (hex_at s at)
      (begins_or (number_at s at)
      (begins_pick (pair_at s at 102 34) (refused_here refl)
      (begins_or (quote_at 34 9 s at)
      (begins_or (quote_at 39 10 s at)
      (begins_or (name_at s at)
      (refused_here refl)))))))))))

  lies_after : {i at j : ℕ} (x : Token) (c q : Bool) (r : Refusal) → i ≤ at → r.start ≡ at → (T q → (at < r.end) × (r.end ≤ length s)) → look_after c q r ≡ found x j → Lies (length s) i j x
  lies_after x true q r l b h f = let z : ◌≡◌ {A = ℕ} 0 1 = cc in absurd (omega arith)
  lies_after {j = j} x false true r l b h f =
      let e : r.end ≡ j = cc in
      let a : r.start ≡ x.start = cc in
      let o : r.end ≡ x.end = cc in
      let k = h tt in
      record { start = omega (arith, l, b, a); span = omega (arith, k.0, a, b, o); end = omega (arith, e, o); last = omega (arith, e, k.1) }
  lies_after x false false r l b h f = let z : ◌≡◌ {A = ℕ} 0 1 = cc in absurd (omega arith)

  lies_at : {i at j : ℕ} (x : Token) (k : Step) → i ≤ at → Steps s at k → Begins at k → look_of s k ≡ found x j → Lies (length s) i j x
  lies_at {j = j} x (Ok (w, a, next)) l (steps_token h m p v) token_here f =
      let e : next.at ≡ j = cc in
      let b : a ≡ x.start = cc in
      let o : next.at ≡ x.end = cc in
      record { start = omega (arith, l, b); span = omega (arith, h, b, o); end = omega (arith, e, o); last = omega (arith, m, e) }
  lies_at x (Err r) l (steps_quote c h m) (refused_here b) f = lies_after x (eqb r.number 11) (eqb r.number 5) r l b (λ t. (h, m)) f
  lies_at x (Err r) l steps_over (refused_here b) f = let z : ◌≡◌ {A = ℕ} 0 1 = cc in absurd (omega arith)
  lies_at x (Err r) l (steps_wrong c) (refused_here b) f = lies_after x (eqb r.number 11) (eqb r.number 5) r l b (λ t. let z : ◌≡◌ {A = ℕ} 4 5 = sym c ∙ eqb→eq r.number 5 t in absurd (omega (arith, z))) f

  pub tokens_lie : (x : Token) (i j : ℕ) → (source s).look i ≡ found x j → Lies (length s) i j x
  unfolding step_at skip_all refused
  tokens_lie x i j e = go (ltb (skip_all s i) (length s)) refl e
    where
      go : (b : Bool) → ltb (skip_all s i) (length s) ≡ b → look_of s (cond b (token_at s (skip_all s i)) (Err (record { number = 11; start = length s; end = length s }))) ≡ found x j → Lies (length s) i j x
      go true q f = lies_at x (token_at s (skip_all s i)) (omega arith) (steps_at s (skip_all s i) (ltb→lt (skip_all s i) (length s) (subst T (sym q) tt))) (begins_at (skip_all s i)) f
      go false q f = let z : ◌≡◌ {A = ℕ} 0 1 = cc in absurd (omega arith)

  text_span : (w a e : ℕ) (z : Size) → ((text_token w a e z).start ≡ a) × ((text_token w a e z).end ≡ e)
  text_span w a e (Some n) = (refl, refl)
  text_span w a e None = (refl, refl)

  pub pieces_lie : (x : Token) (i j : ℕ) → (source s).piece i ≡ found x j → Lies (length s) i j x
  pieces_lie x i j e = go (part_at s i) (part_lies s i) e
    where
      go : (k : Scanned) → Parted i (length s) k → piece_of s i k ≡ found x j → Lies (length s) i j x
      go (Some (Before e)) (parted_before h m) q =
          let z : e ≡ j = cc in
          let y : text_token text_then_hole i e (text_of (slice i e s)) ≡ x = cc in
          let t = text_span text_then_hole i e (text_of (slice i e s)) in
          let a : x.start ≡ i = ap (λ (v : Token). v.start) (sym y) ∙ t.0 in
          let b : x.end ≡ e = ap (λ (v : Token). v.end) (sym y) ∙ t.1 in
          record { start = omega (arith, a); span = omega (arith, a, b, h); end = omega (arith, b, z); last = omega (arith, m, z) }
      go (Some (Ends e)) (parted_ends h m) q =
          let z : e + 1 ≡ j = cc in
          let y : text_token last_text i e (text_of (slice i e s)) ≡ x = cc in
          let t = text_span last_text i e (text_of (slice i e s)) in
          let a : x.start ≡ i = ap (λ (v : Token). v.start) (sym y) ∙ t.0 in
          let b : x.end ≡ e = ap (λ (v : Token). v.end) (sym y) ∙ t.1 in
          record { start = omega (arith, a); span = omega (arith, a, b, h); end = omega (arith, b, z); last = omega (arith, m, z) }
      go None parted_none q = let z : ◌≡◌ {A = ℕ} 0 1 = cc in absurd (omega arith)

  -- the rows of a source's reading are nested, f-strings included
  pub source_nested : (tests tree : Bool) {p : Parts} → Text (source s) (roto tests) (goal tree) 0 p → (roots : List Row) × Nested (rows tree (length s) p) roots
  source_nested tests tree t = rows_nested (source s) tests (length s) (λ i. i) tokens_lie pieces_lie tree (omega arith) t
