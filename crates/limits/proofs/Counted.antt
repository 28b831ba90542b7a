-- A reading over tokens that are bounded passes no limit.
use mathlib.Core.Path.{◌≡◌, refl, sym, ap, subst, ◌∙◌}
use mathlib.Core.Logic.{inl, inr}
use mathlib.Core.List.{List, [], ◌∷◌}
use mathlib.Core.Bool.{Bool, true, false, not, ◌&&◌, ◌||◌, cond}
use Prim.Native.Nat.{ℕ, zero, suc, pred, ◌+◌, ◌≤◌, ◌<◌}
use native.Mathlib.Omega.{arith}
use lib.Dec.{T, eqb, ltb, eqb→eq, ltb→lt, lt→ltb}
use Rattle.grammar.specs.Words.{text_then_hole, last_text}
use Rattle.grammar.specs.Grammar.{Ask, plain, has_value, opens_bracket, closes_bracket, is_prefix, is_head, is_else_if, In, Scope, same, body, Symbol, token, phrase, unless, note, left_side, text, Token, Parts, node, one_of, alternatives}
use Rattle.grammar.specs.Kinds.{BRACES_INSIDE}
use Rattle.grammar.specs.Limits.{Counts, zeros, after, inside, kept, limit}
use Rattle.grammar.specs.Language.{roto, start}
use Rattle.grammar.specs.Culprit.{lists}
use Rattle.grammar.specs.Readings.{ReadingBy, reads_end, reads_token, reads_phrase, reads_unless, reads_note, reads_side, reads_text}
use Rattle.grammar.specs.InARow.{row_after, Asked, row_behind, InARow}
use Rattle.grammar.proofs.Bools.{and_l, and_r, or_cases, implied}
use Rattle.grammar.proofs.Pass.{each_passes, passes_at}
use Rattle.grammar.proofs.InARow.{in_a_row}
use Rattle.printing.proofs.Lists.{l, held}
use Rattle.roundtrip.proofs.Lasts.{looked, pieced}
use Rattle.limits.specs.Within.{opening, closing, prefixing, Tally, nothing_yet, behind, allowed, bounded}
use Rattle.limits.proofs.Tested.{Tested, AllHeads}

-- ---- tests of the table

-- the words of a token are what is asked of it
abbrev pub word_fits : Ask → ℕ → Bool
word_fits plain c = not (opening c) && not (closing c)
word_fits has_value c = not (opening c) && not (closing c)
word_fits opens_bracket c = opening c
word_fits closes_bracket c = not (opening c) && closing c
word_fits is_prefix c = (not (opening c) && not (closing c)) && prefixing c
word_fits is_head c = not (opening c) && not (closing c)
word_fits is_else_if c = not (opening c) && not (closing c)

abbrev pub words_fit : Ask → List ℕ → Bool
words_fit g [] = true
words_fit g (c ∷ w) = word_fits g c && words_fit g w

-- brackets that are open in an alternative are closed in it; n of them are open
abbrev pub opened : Ask → ℕ → ℕ
opened plain n = n
opened has_value n = n
opened opens_bracket n = suc n
opened closes_bracket n = pred n
opened is_prefix n = n
opened is_head n = n
opened is_else_if n = n

abbrev pub may_close : Ask → ℕ → Bool
may_close plain n = true
may_close has_value n = true
may_close opens_bracket n = true
may_close closes_bracket n = ltb 0 n
may_close is_prefix n = true
may_close is_head n = true
may_close is_else_if n = true

-- `{` of braces is closed in the phrase behind it
abbrev pub level_of_lem : ℕ → ℕ
level_of_lem m = cond (eqb m BRACES_INSIDE) 1 0

abbrev pub no_symbols : List Symbol → Bool
no_symbols [] = true
no_symbols (y ∷ s) = false

abbrev pub lone : ℕ → Bool
lone m = not (eqb m BRACES_INSIDE)

abbrev pub even : ℕ → List Symbol → Bool
even n [] = eqb n 0
even n (token g w ∷ s) = words_fit g w && (may_close g n && even (opened g n) s)
even n (phrase o m ∷ s) = cond (eqb m BRACES_INSIDE) (eqb n 1 && no_symbols s) (even n s)
even n (unless w ∷ s) = even n s
even n (note k ∷ s) = even n s
even n (left_side m m₁ ∷ s) = (lone m && lone m₁) && even n s
even n (text m ∷ s) = lone m && even n s

abbrev all_even : ℕ → List Symbol → Bool
all_even m a = even (level_of_lem m) a

roto_even : T (each_passes all_even l.rules)
unfolding roto
roto_even = tt

-- ---- one word

pub fit_word : (g : Ask) (w : List ℕ) (c : ℕ) → T (words_fit g w) → T (one_of c w) → T (word_fits g c)
fit_word g [] c h m = absurd m
fit_word g (k ∷ w) c h m = elim (or_cases (eqb c k) (one_of c w) m) [
  | inl e ↦ subst (λ (n : ℕ). T (word_fits g n)) (sym (eqb→eq c k e)) (and_l (word_fits g k) (words_fit g w) h)
  | inr j ↦ fit_word g w c (and_r (word_fits g k) (words_fit g w) h) j
]

pub none_open : (a b : Bool) (k : ℕ) → T (not a && not b) → cond a (suc k) (cond b (pred k) k) ≡ k
none_open true b k t = absurd t
none_open false true k t = absurd t
none_open false false k t = refl

pub one_open : (a b : Bool) (k : ℕ) → T a → cond a (suc k) (cond b (pred k) k) ≡ suc k
one_open true b k t = refl
one_open false b k t = absurd t

pub one_close : (a b : Bool) (k : ℕ) → T (not a && b) → cond a (suc k) (cond b (pred k) k) ≡ pred k
one_close true b k t = absurd t
one_close false true k t = refl
one_close false false k t = absurd t

one_more : (a : Bool) (k : ℕ) → T a → cond a (suc k) 0 ≡ suc k
one_more true k t = refl
one_more false k t = absurd t

-- what holds at a place: β brackets stand open before the alternative, and n in it
record Inv (n β row : ℕ) (o : Tally) (d : Counts) : Type 0 where
  level : d.brackets ≡ β + n
  alike : o.brackets ≡ d.brackets
  run : row ≤ o.prefixes

one_less : (k : ℕ) → pred k ≤ k
one_less zero = omega arith
one_less (suc k) = omega arith

pub one_less_open : (b β n : ℕ) → 0 < n → b ≡ β + n → pred b ≡ β + pred n
one_less_open b β zero h e = absurd (omega (arith, h))
one_less_open b β (suc n) h e = let f : b ≡ suc (β + n) = omega (arith, e) in ap pred f

-- brackets behind a token
brackets_on : (g : Ask) (c n β : ℕ) (o : Tally) (d : Counts) → T (word_fits g c) → T (may_close g n) → d.brackets ≡ β + n → o.brackets ≡ d.brackets → ((after g d).brackets ≡ β + opened g n) × ((behind c o).brackets ≡ (after g d).brackets)
unfolding after
brackets_on plain c n β o d f m e a = (e, none_open (opening c) (closing c) o.brackets f ∙ a)
brackets_on has_value c n β o d f m e a = (e, none_open (opening c) (closing c) o.brackets f ∙ a)
brackets_on opens_bracket c n β o d f m e a = (omega (arith, e), one_open (opening c) (closing c) o.brackets f ∙ ap suc a)
brackets_on closes_bracket c n β o d f m e a = (one_less_open d.brackets β n (ltb→lt 0 n m) e, one_close (opening c) (closing c) o.brackets f ∙ ap pred a)
brackets_on is_prefix c n β o d f m e a = (e, none_open (opening c) (closing c) o.brackets (and_l (not (opening c) && not (closing c)) (prefixing c) f) ∙ a)
brackets_on is_head c n β o d f m e a = (e, none_open (opening c) (closing c) o.brackets f ∙ a)
brackets_on is_else_if c n β o d f m e a = (e, none_open (opening c) (closing c) o.brackets f ∙ a)

-- prefixes in a row
run_on : (g : Ask) (c row : ℕ) (o : Tally) → T (word_fits g c) → row ≤ o.prefixes → row_after g row ≤ (behind c o).prefixes
run_on plain c row o f h = omega arith
run_on has_value c row o f h = omega arith
run_on opens_bracket c row o f h = omega arith
run_on closes_bracket c row o f h = omega arith
run_on is_prefix c row o f h = let e = one_more (prefixing c) o.prefixes (and_r (not (opening c) && not (closing c)) (prefixing c) f) in omega (arith, e, h)
run_on is_head c row o f h = omega arith
run_on is_else_if c row o f h = omega arith

below : (a b : ℕ) → a ≤ b → T (ltb b limit) → T (ltb a limit)
below a b h t = let k = ltb→lt b limit t in lt→ltb a limit (omega (arith, h, k))

-- a word that may stand is kept
word_kept : (g : Ask) (x : Token) (row : ℕ) (o : Tally) (d : Counts) → T (word_fits g x.word) → o.brackets ≡ d.brackets → row ≤ o.prefixes → Asked g d row → Tested g d → T (allowed x.word o) → T (held g d x) → T (kept g d x)
unfolding kept
word_kept plain x row o d f e r a h t k = tt
word_kept has_value x row o d f e r a h t k = k
word_kept opens_bracket x row o d f e r a h t k = let c = x.word in subst (λ (n : ℕ). T (ltb n limit)) e (implied (opening c) (ltb o.brackets limit) (and_l (not (opening c) || ltb o.brackets limit) (not (prefixing c) || ltb o.prefixes limit) t) f)
word_kept closes_bracket x row o d f e r a h t k = tt
word_kept is_prefix x row o d f e r a h t k = let c = x.word in below d.prefixes o.prefixes (omega (arith, a, r)) (implied (prefixing c) (ltb o.prefixes limit) (and_r (not (opening c) || ltb o.brackets limit) (not (prefixing c) || ltb o.prefixes limit) t) (and_r (not (opening c) && not (closing c)) (prefixing c) f))
word_kept is_head x row o d f e r a h t k = h
word_kept is_else_if x row o d f e r a h t k = h

-- ---- a reading

-- what the reading of symbols comes to
record Gone (β row : ℕ) (d : Counts) (s : List Symbol) (c z : List Token) (p : Parts) : Type 0 where
  to : Tally
  fits : T (bounded to z)
  level : to.brackets ≡ β
  run : row ≤ to.prefixes
  reads : ReadingBy lists l kept d s c z p

inv_on : {n β row : ℕ} {o : Tally} {d : Counts} (g : Ask) (c : ℕ) → T (word_fits g c) → T (may_close g n) → Inv n β row o d → Inv (opened g n) β (row_after g row) (behind c o) (after g d)
inv_on {n} {β} {row} {o} {d} g c f m i =
    let b = brackets_on g c n β o d f m i.level i.alike in
    record { level = b.0; alike = b.1; run = run_on g c row o f i.run }

inside_brackets : (o : Scope) (d : Counts) → (inside o d).brackets ≡ d.brackets
unfolding inside
inside_brackets same d = refl
inside_brackets body d = refl

-- a phrase is entered with what stands before it
enter : {n β row : ℕ} {o : Tally} {d : Counts} (sc : Scope) (m β' : ℕ) → d.brackets ≡ β' + level_of_lem m → Inv n β row o d → Inv (level_of_lem m) β' row o (inside sc d)
enter {d = d} sc m β' e i = let s = inside_brackets sc d in record { level = s ∙ e; alike = i.alike ∙ sym s; run = i.run }

pub either_even : (b : Bool) (n m : ℕ) (s : List Symbol) → T (lone m) → T (even n s) → T (even n (cond b (phrase same m ∷ s) s))
either_even false n m s f t = t
either_even true n m s f t = go (eqb m BRACES_INSIDE) f
  where
    go : (q : Bool) → T (not q) → T (cond q (eqb n 1 && no_symbols s) (even n s))
    go true f = absurd f
    go false f = t

pub alternative : {a : List Symbol} (m : ℕ) → In a (alternatives l m) → T (even (level_of_lem m) a)
alternative m y = passes_at all_even l.rules m roto_even y

-- how many brackets stand open round a phrase
pub entered : (q : Bool) (n β b : ℕ) (e e' : Bool) → b ≡ β + n → T (cond q (eqb n 1 && e) e') → b ≡ cond q β b + cond q 1 0
entered true n β b e e' h t = let k = eqb→eq n 1 (and_l (eqb n 1) e t) in omega (arith, h, k)
entered false n β b e e' h t = omega arith

pub lone_level : (m k : ℕ) → T (lone m) → k ≡ k + level_of_lem m
lone_level m k t = go (eqb m BRACES_INSIDE) t
  where
    go : (q : Bool) → T (not q) → k ≡ k + cond q 1 0
    go true t = absurd t
    go false t = omega arith

ended : {d : Counts} {c z : List Token} {q : Parts} (s : List Symbol) (row : ℕ) → T (no_symbols s) → (v : ReadingBy lists l held d s c z q) → (c ≡ z) × ReadingBy lists l kept d s c z q × (row_behind row v ≡ row)
unfolding row_behind
ended [] row h reads_end = (refl, reads_end, refl)
ended (x ∷ s) row h v = absurd h

phrase_gone : (q : Bool) (n β row row' : ℕ) (o : Tally) (sc : Scope) (m : ℕ) {d : Counts} {al s : List Symbol} {c mid z : List Token} {p₁ p₂ : Parts} → In al (alternatives l m) → (v : ReadingBy lists l held d s mid z p₂) → T (cond q (eqb n 1 && no_symbols s) (even n s)) → Inv n β row o d
    → (r : Gone (cond q β d.brackets) row' (inside sc d) al c mid p₁) → (Inv n β row' r.to d → T (even n s) → Gone β (row_behind row' v) d s mid z p₂) → Gone β (row_behind row' v) d (phrase sc m ∷ s) c z (node m al p₁ p₂)
phrase_gone true n β row row' o sc m {s = s} y v t i r rec =
    let x = ended s row' (and_r (eqb n 1) (no_symbols s) t) v in
    record {
      to = r.to;
      fits = subst (λ (w : List Token). T (bounded r.to w)) x.0 r.fits;
      level = r.level;
      run = subst (λ (k : ℕ). k ≤ r.to.prefixes) (sym x.2) r.run;
      reads = reads_phrase y r.reads x.1;
    }
phrase_gone false n β row row' o sc m y v t i r rec =
    let g = rec (record { level = i.level; alike = r.level; run = r.run }) t in
    record { to = g.to; fits = g.fits; level = g.level; run = g.run; reads = reads_phrase y r.reads g.reads }

pub piece_fits : (c : ℕ) → T (one_of c (text_then_hole ∷ last_text ∷ [])) → T (word_fits has_value c)
piece_fits c m = fit_word has_value (text_then_hole ∷ last_text ∷ []) c tt m

value_kept : (d : Counts) (x : Token) → T (held has_value d x) → T (kept has_value d x)
unfolding kept
value_kept d x k = k

counted : (n β row : ℕ) (o : Tally) {d : Counts} {s : List Symbol} {c z : List Token} {p : Parts} (t : ReadingBy lists l held d s c z p) → InARow row t → AllHeads t → Inv n β row o d → T (even n s) → T (bounded o c) → Gone β (row_behind row t) d s c z p
unfolding row_behind InARow AllHeads bounded inside
counted n β row o {d} reads_end a h i t b = let e = eqb→eq n 0 t in let k = i.level in let j = i.alike in record { to = o; fits = b; level = omega (arith, e, k, j); run = i.run; reads = reads_end }
counted n β row o {d} (reads_token {g = g} {w = w} {s = s} {x = x} {i = c} {j = c'} e m k u) a h i t b =
    let t₁ = and_r (words_fit g w) (may_close g n && even (opened g n) s) t in
    let f = fit_word g w x.word (and_l (words_fit g w) (may_close g n && even (opened g n) s) t) m in
    let b' = subst (λ (y : List Token). T (bounded o y)) (looked c c' x e) b in
    let j = inv_on g x.word f (and_l (may_close g n) (even (opened g n) s) t₁) i in
    let r = counted (opened g n) β (row_after g row) (behind x.word o) u a.1 h.1 j (and_r (may_close g n) (even (opened g n) s) t₁) (and_r (allowed x.word o) (bounded (behind x.word o) c') b') in
    let here = word_kept g x row o d f i.alike i.run a.0 h.0 (and_l (allowed x.word o) (bounded (behind x.word o) c') b') k in
    record { to = r.to; fits = r.fits; level = r.level; run = r.run; reads = reads_token e m here r.reads }
counted n β row o {d} (reads_phrase {n = m} {o = sc} {s = s} y u v) a h i t b =
    let β' = cond (eqb m BRACES_INSIDE) β d.brackets in
    let r = counted (level_of_lem m) β' row o u a.0 h.0 (enter sc m β' (entered (eqb m BRACES_INSIDE) n β d.brackets (no_symbols s) (even n s) i.level t) i) (alternative m y) b in
    phrase_gone (eqb m BRACES_INSIDE) n β row (row_behind row u) o sc m y v t i r (λ i' t'. counted n β (row_behind row u) r.to v a.1 h.1 i' t' r.fits)
counted n β row o (reads_unless m u) a h i t b = let r = counted n β row o u a h i t b in record { to = r.to; fits = r.fits; level = r.level; run = r.run; reads = reads_unless m r.reads }
counted n β row o (reads_note u) a h i t b = let r = counted n β row o u a h i t b in record { to = r.to; fits = r.fits; level = r.level; run = r.run; reads = reads_note r.reads }
counted n β row o {d} (reads_side {n = m} {n₁ = m₁} {s = s} {p = p} y u k v) a h i t b =
    let f = and_l (lone m && lone m₁) (even n s) t in
    let r = counted (level_of_lem m) d.brackets row o u a.0 h.0 (enter same m d.brackets (lone_level m d.brackets (and_l (lone m) (lone m₁) f)) i) (alternative m y) b in
    let g = counted n β (row_behind row u) r.to v a.1 h.1 (record { level = i.level; alike = r.level; run = r.run }) (either_even (l.is_path p) n m₁ s (and_r (lone m) (lone m₁) f) (and_r (lone m && lone m₁) (even n s) t)) r.fits in
    record { to = g.to; fits = g.fits; level = g.level; run = g.run; reads = reads_side y r.reads k g.reads }
counted n β row o {d} (reads_text {n = m} {s = s} {x = x} {i = c} {j = c'} e k u) a h i t b =
    let f = pieced c c' x e in
    let b' = subst (λ (y : List Token). T (bounded o y)) f.0 b in
    let j = inv_on has_value x.word (piece_fits x.word f.1) tt i in
    let r = counted n β 0 (behind x.word o) u a h j (either_even (eqb x.word l.hole) n m s (and_l (lone m) (even n s) t) (and_r (lone m) (even n s) t)) (and_r (allowed x.word o) (bounded (behind x.word o) c') b') in
    record { to = r.to; fits = r.fits; level = r.level; run = r.run; reads = reads_text e (value_kept d x k) r.reads }

-- a list of tokens that is bounded, and has a reading whose heads keep to their limits, the others set aside, has one that passes none
pub bounded_reads : {c : List Token} {p : Parts} → T (bounded nothing_yet c) → (t : ReadingBy lists l held zeros (start true) c [] p) → AllHeads t → ReadingBy lists l kept zeros (start true) c [] p
bounded_reads b t h = (counted 0 0 0 nothing_yet t (in_a_row lists true true t) h (record { level = refl; alike = refl; run = omega arith }) tt b).reads
