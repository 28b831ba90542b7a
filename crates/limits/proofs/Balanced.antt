-- A reading closes the brackets that it opens.
use mathlib.Core.Path.{◌≡◌, refl, ap, ◌∙◌}
use mathlib.Core.List.{List, [], ◌∷◌, ◌++◌}
use mathlib.Core.Bool.{Bool, true, false, not, ◌&&◌, cond}
use Prim.Native.Nat.{ℕ, suc, pred, ◌+◌}
use native.Mathlib.Omega.{arith}
use lib.Dec.{T, eqb, ltb→lt, eqb→eq}
use Rattle.grammar.specs.Words.{text_then_hole, last_text}
use Rattle.grammar.specs.Grammar.{Ask, plain, has_value, opens_bracket, closes_bracket, is_prefix, is_head, is_else_if, Symbol, Token, found, Stream, Parts, one_of}
use Rattle.grammar.specs.Kinds.{BRACES_INSIDE}
use Rattle.grammar.specs.Limits.{Counts}
use Rattle.grammar.specs.Readings.{ReadingBy, reads_end, reads_token, reads_phrase, reads_unless, reads_note, reads_side, reads_text}
use Rattle.grammar.proofs.Bools.{and_l, and_r}
use Rattle.printing.specs.Spelled.{leaves}
use Rattle.printing.proofs.Lists.{l}
use Rattle.limits.specs.Within.{opening, closing, prefixing}
use Rattle.limits.proofs.Counted.{word_fits, opened, may_close, level_of_lem, no_symbols, lone, even, words_fit, fit_word, none_open, one_open, one_close, one_less_open, either_even, alternative, entered, lone_level, piece_fits}

-- brackets that stand open behind a word, and behind tokens
abbrev pub deeper : ℕ → ℕ → ℕ
deeper w b = cond (opening w) (suc b) (cond (closing w) (pred b) b)

unfoldable pub depth : List Token → ℕ → ℕ
depth [] b = b
depth (x ∷ xs) b = depth xs (deeper x.word b)

pub depth_append : (xs ys : List Token) (b : ℕ) → depth (xs ++ ys) b ≡ depth ys (depth xs b)
unfolding depth
depth_append [] ys b = refl
depth_append (x ∷ xs) ys b = depth_append xs ys (deeper x.word b)

deeper_on : (g : Ask) (c n β : ℕ) → T (word_fits g c) → T (may_close g n) → deeper c (β + n) ≡ β + opened g n
deeper_on plain c n β f m = none_open (opening c) (closing c) (β + n) f
deeper_on has_value c n β f m = none_open (opening c) (closing c) (β + n) f
deeper_on opens_bracket c n β f m = one_open (opening c) (closing c) (β + n) f ∙ omega arith
deeper_on closes_bracket c n β f m = one_close (opening c) (closing c) (β + n) f ∙ one_less_open (β + n) β n (ltb→lt 0 n m) refl
deeper_on is_prefix c n β f m = none_open (opening c) (closing c) (β + n) (and_l (not (opening c) && not (closing c)) (prefixing c) f)
deeper_on is_head c n β f m = none_open (opening c) (closing c) (β + n) f
deeper_on is_else_if c n β f m = none_open (opening c) (closing c) (β + n) f

module _ {S : Stream} {G : Ask → Counts → Token → Bool} (pieces : (i j : S.Place) (x : Token) → S.piece i ≡ found x j → T (one_of x.word (text_then_hole ∷ last_text ∷ []))) where
  nothing_read : {d : Counts} {i r : S.Place} {p : Parts} (s : List Symbol) (b : ℕ) → T (no_symbols s) → ReadingBy S l G d s i r p → depth (leaves p) b ≡ b
  unfolding depth
  nothing_read [] b h reads_end = refl
  nothing_read (x ∷ s) b h t = absurd h

  -- behind a phrase
  closed : (q : Bool) (n β : ℕ) {d : Counts} {i r : S.Place} {p : Parts} (s : List Symbol) → T (cond q (eqb n 1 && no_symbols s) (even n s)) → ReadingBy S l G d s i r p → (T (even n s) → depth (leaves p) (β + n) ≡ β) → depth (leaves p) (cond q β (β + n)) ≡ β
  closed true n β s t u rec = nothing_read s β (and_r (eqb n 1) (no_symbols s) t) u
  closed false n β s t u rec = rec t

  pub balanced : (n β : ℕ) {d : Counts} {s : List Symbol} {i r : S.Place} {p : Parts} → ReadingBy S l G d s i r p → T (even n s) → depth (leaves p) (β + n) ≡ β
  unfolding depth
  balanced n β reads_end t = let e = eqb→eq n 0 t in omega (arith, e)
  balanced n β (reads_token {g = g} {w = w} {s = s} {x = x} {p = p} e m k u) t =
      let t₁ = and_r (words_fit g w) (may_close g n && even (opened g n) s) t in
      let f = fit_word g w x.word (and_l (words_fit g w) (may_close g n && even (opened g n) s) t) m in
      ap (depth (leaves p)) (deeper_on g x.word n β f (and_l (may_close g n) (even (opened g n) s) t₁)) ∙ balanced (opened g n) β u (and_r (may_close g n) (even (opened g n) s) t₁)
  balanced n β (reads_phrase {n = m} {s = s} {p = p} {q = p₂} y u v) t =
      let β' = cond (eqb m BRACES_INSIDE) β (β + n) in
      depth_append (leaves p) (leaves p₂) (β + n)
      ∙ ap (λ (b : ℕ). depth (leaves p₂) (depth (leaves p) b)) (entered (eqb m BRACES_INSIDE) n β (β + n) (no_symbols s) (even n s) refl t)
      ∙ ap (depth (leaves p₂)) (balanced (level_of_lem m) β' u (alternative m y))
      ∙ closed (eqb m BRACES_INSIDE) n β s t v (balanced n β v)
  balanced n β (reads_unless m u) t = balanced n β u t
  balanced n β (reads_note u) t = balanced n β u t
  balanced n β (reads_side {n = m} {n₁ = m₁} {s = s} {p = p} {q = p₂} y u k v) t =
      let f = and_l (lone m && lone m₁) (even n s) t in
      depth_append (leaves p) (leaves p₂) (β + n)
      ∙ ap (λ (b : ℕ). depth (leaves p₂) (depth (leaves p) b)) (lone_level m (β + n) (and_l (lone m) (lone m₁) f))
      ∙ ap (depth (leaves p₂)) (balanced (level_of_lem m) (β + n) u (alternative m y))
      ∙ balanced n β v (either_even (l.is_path p) n m₁ s (and_r (lone m) (lone m₁) f) (and_r (lone m && lone m₁) (even n s) t))
  balanced n β (reads_text {n = m} {s = s} {x = x} {i = i} {j = j} {p = p} e k u) t =
      ap (depth (leaves p)) (none_open (opening x.word) (closing x.word) (β + n) (piece_fits x.word (pieces i j x e))) ∙ balanced n β u (either_even (eqb x.word l.hole) n m s (and_l (lone m) (even n s) t) (and_r (lone m) (even n s) t))
