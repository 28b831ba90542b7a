-- The tokens of a print over an old source are tokens as the new text shows them.
use mathlib.Core.Path.{◌≡◌, refl, sym, ap, subst, ◌∙◌}
use mathlib.Core.Logic.{◌⊎◌, inl, inr}
use mathlib.Core.List.{List, [], ◌∷◌, ◌++◌, append-nil}
use mathlib.Core.Bool.{Bool, true, false, not, ◌||◌, cond}
use Prim.Native.Nat.{ℕ, ◌+◌}
use native.Mathlib.Omega.{arith}
use lib.Dec.{T, T_not, eqb, eqb→eq}
use lib.Seq.{slice}
use Rattle.rows.specs.Kinds as kinds
use Rattle.grammar.specs.Words.{f_quote, text_then_hole, last_text, semicolon, open_brace, close_brace}
use Rattle.grammar.specs.Grammar.{Ask, plain, Token, found, Parts, end, leaf, node, mark, one_of}
use Rattle.grammar.specs.Limits.{Counts, after, kept}
use Rattle.grammar.specs.Readings.{ReadingBy, reads_token}
use Rattle.grammar.proofs.Bools.{T→eq, and_l, and_r, or_cases}
use Rattle.answers.specs.Source.{source}
use Rattle.canon.specs.Trees.{copied}
use Rattle.canon.specs.Text.{Bit, copy}
use Rattle.printing.specs.Groves.{starts, ends, token_of, bytes_of}
use Rattle.printing.specs.Spelled.{leaves, string_symbols, line_words, sign_words, Stands, stands_token, stands_string, Spells, spells_none, spells_sign, spells_copy}
use Rattle.printing.proofs.Lists.{l}
use Rattle.printing.proofs.Placed.{apart}
use Rattle.printing.proofs.Labels.{last_end}
use Rattle.printing.proofs.Sources.{token_kinded}
use Rattle.respell.specs.Shown.{tail_symbols, tokens_of}
use Rattle.respell.specs.Spelt.{is_sign, last_line, Spelt, spelt_none, spelt_sign, spelt_token, spelt_string}
use Rattle.respell.proofs.Looks.{look_end}
use Rattle.respell.proofs.FStrings.{roto_hole, roto_holes, LastPiece, lasts}
use Rattle.roundtrip.proofs.Signs.{sure_word, sure_bits}
use Rattle.roundtrip.proofs.Lasts.{nonzero, last_in, last_two}

pub same_leaves : (p : Parts) → leaves p ≡ tokens_of p
unfolding tokens_of
same_leaves end = refl
same_leaves (leaf x p) = ap (λ (o : List Token). x ∷ o) (same_leaves p)
same_leaves (node n a p q) = λ i. same_leaves p i ++ same_leaves q i
same_leaves (mark k p) = same_leaves p

is_a_sign : (c : ℕ) → T (sure_word c) → T (not (eqb c 0)) → is_sign c ≡ true
unfolding sure_word
is_a_sign c h k = elim (or_cases (is_sign c) (eqb c 0) h) [ inl m ↦ T→eq (is_sign c) m | inr m ↦ absurd (T_not (eqb c 0) k m) ]

nonzero_on : (xs ts : List Token) → T (nonzero (xs ++ ts)) → T (nonzero ts)
nonzero_on [] ts h = h
nonzero_on (x ∷ xs) ts h = nonzero_on xs ts (and_r (not (eqb x.word 0)) (nonzero (xs ++ ts)) h)

last_on : (xs ts : List Token) → T (last_in (xs ++ ts)) → T (last_in ts)
last_on [] ts h = h
last_on (x ∷ xs) ts h = last_on xs ts (off (xs ++ ts) h)
  where
    off : (ys : List Token) → T (last_in (x ∷ ys)) → T (last_in ys)
    off [] k = tt
    off (y ∷ ys) k = k

-- the text that a row copies
pub copied_text : (s : List ℕ) (k a e : ℕ) (xs : List Token) → T (one_of k copied) → starts xs ≡ a → cond (eqb k kinds.F_STRING) (ends xs + 1) (ends xs) ≡ e → bytes_of s k xs ≡ slice a e s
copied_text s k a e xs m f g = ap (λ (b : Bool). cond b (slice (starts xs) (cond (eqb k kinds.F_STRING) (ends xs + 1) (ends xs)) s) []) (T→eq (one_of k copied) m) ∙ ap (λ (i : ℕ). slice i (cond (eqb k kinds.F_STRING) (ends xs + 1) (ends xs)) s) f ∙ ap (λ (i : ℕ). slice a i s) g

-- an f-string in a source: its `f"`, and what is read behind it up to the quote; its text
pub record Stringed (s : List ℕ) (G : Ask → Counts → Token → Bool) (xs : List Token) : Type 0 where
  pub first : Token
  pub at : ℕ
  pub next : ℕ
  pub counts : Counts
  pub rest : Parts
  pub quote : ℕ
  pub seen : (source s).look at ≡ found first next
  pub word : first.word ≡ f_quote
  pub reading : ReadingBy (source s) l G counts tail_symbols next (quote + 1) rest
  pub are : xs ≡ first ∷ tokens_of rest
  pub bytes : bytes_of s kinds.F_STRING xs ≡ slice first.start (quote + 1) s

module _ (s : List ℕ) (G : Ask → Counts → Token → Bool) where
  abbrev pub Last : Parts → ℕ → Type 0
  Last p r = LastPiece s l (roto_hole true) (roto_holes true) G p r

  -- the last token of an f-string is a piece of text
  pub string_last : (d : Counts) (j r : ℕ) (p : Parts) → ReadingBy (source s) l G d tail_symbols j r p → Last p r
  string_last d j r p u = lasts s l (roto_hole true) (roto_holes true) G r d _ j r p tt u (omega arith)

  pub stringed : {d : Counts} {i r : ℕ} {p : Parts} (xs : List Token) → ReadingBy (source s) l G d string_symbols i r p → xs ≡ leaves p → Stringed s G xs
  unfolding tokens_of
  stringed {d = d} {i = i} {r = r} xs (reads_token {x = x} {j = j} {p = p} e m k u) h =
      let z = string_last (after plain d) j r p u in
      let q : ℕ = z.final.end in
      let are : xs ≡ x ∷ tokens_of p = h ∙ ap (λ (o : List Token). x ∷ o) (same_leaves p) in
      let end_is : ends xs ≡ q = ap ends (are ∙ ap (λ (o : List Token). x ∷ o) z.tokens) ∙ last_end (x ∷ z.earlier) z.final in
      record {
        first = x;
        at = i;
        next = j;
        counts = after plain d;
        rest = p;
        quote = q;
        seen = e;
        word = elim (or_cases (eqb x.word f_quote) false m) [ inl y ↦ eqb→eq x.word f_quote y | inr y ↦ absurd y ];
        reading = subst (λ (n : ℕ). ReadingBy (source s) l G (after plain d) tail_symbols j n p) (sym z.there) u;
        are = are;
        bytes = copied_text s kinds.F_STRING x.start (q + 1) xs tt (ap starts are) (ap (λ (n : ℕ). n + 1) end_is);
      }

-- no token is an f-string's row
pub token_row : (s : List ℕ) (k : ℕ) (x : Token) (i j : ℕ) → (eqb k kinds.F_STRING ≡ false) ⊎ (k ≡ x.kind) → (source s).look i ≡ found x j → eqb k kinds.F_STRING ≡ false
token_row s k x i j f e = elim f [ inl y ↦ y | inr y ↦ ap (λ (n : ℕ). eqb n kinds.F_STRING) y ∙ token_kinded s i x j e ]

pub token_bytes : (s : List ℕ) (k : ℕ) (x : Token) (i j : ℕ) → T (one_of k copied) → (eqb k kinds.F_STRING ≡ false) ⊎ (k ≡ x.kind) → (source s).look i ≡ found x j → bytes_of s k (x ∷ []) ≡ slice x.start j s
token_bytes s k x i j m f e = copied_text s k x.start j (x ∷ []) m refl (ap (λ (b : Bool). cond b (x.end + 1) x.end) (token_row s k x i j f e) ∙ look_end s i x j e)

-- a token that is copied by itself is no `f"`
no_quote : (c : ℕ) → T (not (one_of c sign_words)) → T (not (eqb c f_quote))
no_quote c h = by (eqb c f_quote) refl
  where
    by : (b : Bool) → eqb c f_quote ≡ b → T (not b)
    by true e = absurd (T_not (one_of c sign_words) h (subst (λ (n : ℕ). T (one_of n sign_words)) (sym (eqb→eq c f_quote (subst T (sym e) tt))) tt))
    by false e = tt

module _ (s : List ℕ) where
  quote_spelt : {bs : List Bit} {ts : List Token} {d : Counts} {i r : ℕ} {p : Parts} (xs : List Token) → ReadingBy (source s) l kept d string_symbols i r p → xs ≡ leaves p → Spelt s l kept bs ts → Spelt s l kept (copy (bytes_of s kinds.F_STRING xs) ∷ bs) (xs ++ ts)
  quote_spelt {bs = bs} {ts = ts} xs u h v =
      let z = stringed s kept xs u h in
      subst (λ (b : List ℕ). Spelt s l kept (copy b ∷ bs) (xs ++ ts)) (sym z.bytes) (subst (λ (o : List Token). Spelt s l kept (copy (slice z.first.start (z.quote + 1) s) ∷ bs) (o ++ ts)) (sym z.are) (spelt_string z.counts z.at z.next z.quote z.seen z.word z.reading v))

  token_spelt : {bs : List Bit} {ts : List Token} (k : ℕ) (x : Token) (i j : ℕ) → T (one_of k copied) → (eqb k kinds.F_STRING ≡ false) ⊎ (k ≡ x.kind) → (source s).look i ≡ found x j → T (not (one_of x.word sign_words)) → Spelt s l kept bs ts → Spelt s l kept (copy (bytes_of s k (x ∷ [])) ∷ bs) (x ∷ ts)
  token_spelt {bs} {ts} k x i j m f e w v = subst (λ (b : List ℕ). Spelt s l kept (copy b ∷ bs) (x ∷ ts)) (sym (token_bytes s k x i j m f e)) (spelt_token i j e (no_quote x.word w) v)

  copy_spelt : {bs : List Bit} {ts : List Token} (k : ℕ) (xs : List Token) → T (one_of k copied) → Stands (source s) l kept k xs → Spelt s l kept bs ts → Spelt s l kept (copy (bytes_of s k xs) ∷ bs) (xs ++ ts)
  copy_spelt k xs m (stands_token {x = x} i j f e w) v = token_spelt k x i j m f e w v
  copy_spelt {bs} {ts} k xs m (stands_string d i j f u h) v = subst (λ (n : ℕ). Spelt s l kept (copy (bytes_of s n xs) ∷ bs) (xs ++ ts)) (sym f) (quote_spelt xs u h v)

  pub spelt : {bs : List Bit} {xs : List Token} → Spells (source s) l kept s bs xs → T (sure_bits bs) → T (nonzero xs) → Spelt s l kept bs xs
  spelt spells_none g h = spelt_none
  spelt (spells_sign {bs = bs} {ts = ts} c u) g h = spelt_sign (is_a_sign c (and_l (sure_word c) (sure_bits bs) g) (and_l (not (eqb c 0)) (nonzero ts) h)) (spelt u (and_r (sure_word c) (sure_bits bs) g) (and_r (not (eqb c 0)) (nonzero ts) h))
  spelt (spells_copy {ts = ts} k xs m o u) g h = copy_spelt k xs m o (spelt u g (nonzero_on xs ts h))

  -- what is copied ends no line
  quote_last : {d : Counts} {i r : ℕ} {p : Parts} (xs : List Token) → ReadingBy (source s) l kept d string_symbols i r p → xs ≡ leaves p → T (last_in xs) → ⊥
  unfolding tokens_of
  quote_last {d = d} {r = r} xs (reads_token {x = x} {j = j} {p = p} e m k u) h t =
      let z = string_last s kept (after plain d) j r p u in
      let are : xs ≡ (x ∷ z.earlier) ++ (z.final ∷ []) = h ∙ ap (λ (o : List Token). x ∷ o) (same_leaves p ∙ z.tokens) in
      T_not (one_of z.final.word line_words) (apart (text_then_hole ∷ last_text ∷ []) line_words z.final.word tt z.piece) (subst T (ap last_in are ∙ last_two (x ∷ z.earlier) z.final) t)

  ends_none : (c : ℕ) → T (not (one_of c sign_words)) → T (not (one_of c line_words))
  ends_none c h = go (eqb c semicolon) (eqb c open_brace) (eqb c close_brace) _ h
    where
      go : (a b d e : Bool) → T (not (a || (b || (d || e)))) → T (not (a || (b || (d || false))))
      go true b d e t = t
      go false true d e t = t
      go false false true e t = t
      go false false false e t = tt

  copy_last : (k : ℕ) (xs : List Token) → Stands (source s) l kept k xs → T (last_in (xs ++ [])) → ⊥
  copy_last k xs (stands_token {x = x} i j f e w) t = T_not (one_of x.word line_words) (ends_none x.word w) t
  copy_last k xs (stands_string d i j f u h) t = quote_last xs u h (subst (λ (o : List Token). T (last_in o)) (append-nil xs) t)

  pub spells_last : {bs : List Bit} {xs : List Token} → Spells (source s) l kept s bs xs → T (last_in xs) → T (last_line bs)
  spells_last spells_none h = tt
  spells_last (spells_sign c spells_none) h = h
  spells_last (spells_sign c (spells_sign c' u)) h = spells_last (spells_sign c' u) h
  spells_last (spells_sign c (spells_copy {ts = ts} k xs m o u)) h = spells_last (spells_copy k xs m o u) (last_on (token_of c ∷ []) (xs ++ ts) h)
  spells_last (spells_copy k xs m o spells_none) h = absurd (copy_last k xs o h)
  spells_last (spells_copy k xs m o (spells_sign {ts = ts} c u)) h = spells_last (spells_sign c u) (last_on xs (token_of c ∷ ts) h)
  spells_last (spells_copy k xs m o (spells_copy {ts = ts} k' ys m' o' u)) h = spells_last (spells_copy k' ys m' o' u) (last_on xs (ys ++ ts) h)
