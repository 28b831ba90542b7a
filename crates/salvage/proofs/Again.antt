-- Reading anew from the first byte on gives the same as going on at the next line.
use Rattle.std.specs.Prelude.{Ok, Err}
use mathlib.Core.Path.{◌≡◌, refl, sym, ap, subst, ◌∙◌}
use mathlib.Core.List.{List}
use mathlib.Core.Bool.{Bool, true, false}
use mathlib.Core.Logic.{◌⊎◌, inl, inr}
use Prim.Native.Nat.{ℕ, ◌-◌, ◌<◌, ◌≤◌}
use lib.Dec.{eqb}
use lib.ListN.{length}
use native.Mathlib.Omega.{arith}
use Rattle.chars.specs.declared.Class.TheVariants.{Blank}
use Rattle.chars.specs.Chars.{byte_at, is_class}
use Rattle.tokens.specs.declared.Refusal as lexer
use Rattle.tokens.specs.Results.{Step}
use Rattle.tokens.specs.Blanks.{skip_all}
use Rattle.tokens.specs.Tokens.{step_at}
use Rattle.grammar.specs.Grammar.{Look}
use Rattle.grammar.specs.Language.{roto}
use Rattle.grammar.specs.Readings.{word_of_lem, peek}
use Rattle.grammar.specs.Refusals.{Refusal, said}
use Rattle.grammar.specs.Answers.{refused, Answers}
use Rattle.answers.specs.Source.{source, look_of, look_after}
use Rattle.answers.proofs.Ahead.{Steps, steps_token, steps_over, steps_quote, steps_wrong, step_goes, tokens_take}
use Rattle.keeping.specs.Kept.{Kept, none}
use Rattle.keeping.proofs.Lists.{joins, joined, kept_text}
use Rattle.keeping.proofs.Gap.{gap_skips}
use Rattle.keeping.proofs.Dropped.{pieces_keep, Fenced, kept_sign, kept_upto}
use Rattle.keeping.proofs.Leading.{roto_leads, stops_moved}
use Rattle.keeping.proofs.Refusing.{refusing}
use Rattle.keeping.specs.Breaks.{Breaks}
use Rattle.salvage.specs.Salvage.{end_of, blanked, Range, Salvage, whole, drops}
use Rattle.salvage.specs.Theorems.{Anew, read, again, Again}
use Rattle.salvage.proofs.Blanked.{blanked_length, blanked_before, blanked_in}
use Rattle.salvage.proofs.Left.{Bounds, bounds}

-- the word of what stands at a place is below 100
small : (tests : Bool) (s : List ℕ) (i : ℕ) → peek (source s) (roto tests) i < 100
small tests s i = by (step_at s i) (step_goes s i)
  where
    after : (b q : Bool) (r : lexer.Refusal) → word_of_lem (source s) (roto tests) (look_after b q r) < 100
    after true q r = omega arith
    after false true r = omega arith
    after false false r = omega arith

    by : (k : Step) → Steps s i k → word_of_lem (source s) (roto tests) (look_of s k) < 100
    by (Ok (w, p, n)) (steps_token h m l v) = omega arith
    by (Err r) steps_over = omega arith
    by (Err r) (steps_quote c l m) = after (eqb r.number 11) (eqb r.number 5) r
    by (Err r) (steps_wrong c) = after (eqb r.number 11) (eqb r.number 5) r

module _ (tests : Bool) where
  -- Whole declarations stand from the first byte on up to a place behind which the same is seen as at i.
  record Before (s : List ℕ) (i : ℕ) : Type 0 where
    stop : ℕ
    kept : Kept (source s) (roto tests) 0 stop
    skips : skip_all s stop ≡ skip_all s i

  module _ (s : List ℕ) {i : ℕ} (b : Before s i) where
    steps : step_at s i ≡ step_at s b.stop
    unfolding step_at
    steps = rw b.skips refl

    looks : (source s).look i ≡ (source s).look b.stop
    looks = ap (look_of s) steps

    -- a break from i on is one from the first byte on
    from_first : {first : ℕ} {r : Refusal} → Breaks tests s i first r → Breaks tests s 0 first r
    from_first x = elim (joins tests ℕ (source s).look (source s).piece (λ n. length s - n) (tokens_take s) (pieces_keep s) b.kept looks x.kept) [
      | inl q ↦ (let u = stops_moved (roto tests) (roto_leads tests) (source s) looks x.stops tt q in
          record {
            behind = b.stop;
            kept = b.kept;
            more = λ e. x.more (ap (source s).look q ∙ looks ∙ e);
            begins = x.begins ∙ ap (skip_all s) q ∙ sym b.skips;
            place = u.place;
            why = x.why;
            stops = u.stops;
            says = x.says ∙ ap (λ (k : Look ℕ). said (length s) k x.why) u.same;
          })
      | inr k ↦ record { behind = x.behind; kept = k; more = x.more; begins = x.begins; place = x.place; why = x.why; stops = x.stops; says = x.says }
    ]

  -- what stands before the next line, once the range is spaces
  next : (s : List ℕ) {first : ℕ} {r : Refusal} → Breaks tests s 0 first r → Before (blanked s first (end_of s first r)) (end_of s first r)
  unfolding is_class
  next s {first} {r} c = record { stop = c.behind; kept = stays (kept_sign tests s c.kept); skips = gap_skips s t first long h.inside before c.behind line (sym c.begins) over_it spaces }
    where
      line : ℕ
      line = end_of s first r

      t : List ℕ
      t = blanked s first line

      h : Bounds tests s 0 first r c
      h = bounds tests s c

      over_it : first ≤ line
      over_it = let k = h.over in omega arith

      long : length s ≡ length t
      long = sym (blanked_length s first line over_it h.end)

      before : (n : ℕ) → n < first → byte_at s n ≡ byte_at t n
      before n l = sym (blanked_before s first line over_it h.end n l)

      spaces : (n : ℕ) → first ≤ n → n < line → is_class Blank (byte_at t n) ≡ true
      spaces n l m = ap (is_class Blank) (blanked_in s first line over_it h.end n l m)

      stays : (c.behind ≡ 0) ⊎ Fenced s c.behind → Kept (source t) (roto tests) 0 c.behind
      stays (inl e) = subst (Kept (source t) (roto tests) 0) (sym e) none
      stays (inr f) = kept_upto tests s t long f (λ n l. let k = h.behind in before n (omega arith)) c.kept

  anew : {s t : List ℕ} {i : ℕ} {rs : List Range} → Salvage tests s i rs t → Before s i → Anew tests s rs t
  anew (whole {s = s} e) b = read (kept_text tests (source s) (joined tests ℕ (source s).look (source s).piece (λ n. length s - n) (tokens_take s) (pieces_keep s) b.kept (looks s b) e)).1
  anew (drops {s = s} {r = r} x u) b =
      let c = from_first s b x in
      again (subst (λ (y : Refusal). Answers (source s) tests true (length s) 0 (refused y)) (sym c.says) (refusing (source s) tests (small tests s) (length s) c.kept c.more c.stops)) (anew u (next s c))

  pub reads_anew : (s : List ℕ) → Again tests s
  reads_anew s = record { anew = λ u. anew u (record { stop = 0; kept = none; skips = refl }) }
