-- The answers: of a source as a whole, and where the tokens end.
use Rattle.std.specs.Prelude.{Ok, Err}
use mathlib.Core.Path.{◌≡◌}
use Prim.Native.Nat.{ℕ, ◌+◌, ◌<◌, ◌≤◌}
use mathlib.Core.List.{List}
use mathlib.Core.Bool.{true, false}
use lib.ListN.{length}
use borrow.Author.Tests.{lt-ltb, le-ltb, eq-eqb, ne_eqb}
use Rattle.chars.specs.declared.Class.TheVariants.{Ascii}
use Rattle.chars.specs.Chars.{is_class}
use Rattle.chars.specs.Runs.{past_run}
use Rattle.tokens.specs.declared.Cursor.{Cursor}
use Rattle.tokens.specs.declared.Refusal.{Refusal}
use Rattle.chars.specs.declared.Answer.{Answer}
use Rattle.tokens.specs.Results.{Step}
use Rattle.tokens.specs.Results.{Whole}
use Rattle.tokens.specs.Rules.{pair_at}
use Rattle.tokens.specs.Tokens.{bad, whole_of, refusal, counted, last_of}
use Rattle.tokens.proofs.Fits.{first, second}

module _ (s : List ℕ) {r : Whole} where
  pub whole_long : 65535 < length s → r ≡ bad 1 65535 65535 → r ≡ whole_of s
  unfolding whole_of
  whole_long h e = first _ (lt-ltb _ _ h) e

  module _ {high : ℕ} (short : length s ≤ 65535) (to : high ≡ past_run (is_class Ascii) s 0) where
    pub whole_high : high < length s → r ≡ bad 2 high (high + 1) → r ≡ whole_of s
    unfolding whole_of
    whole_high h e = rw (← to) (second _ (le-ltb _ _ short) (first _ (lt-ltb _ _ h) e))

    module _ (low : length s ≤ high) where
      pub whole_bang : pair_at s 0 35 33 ≡ true → r ≡ bad 3 0 2 → r ≡ whole_of s
      unfolding whole_of
      whole_bang h e = rw (← to) (second _ (le-ltb _ _ short) (second _ (le-ltb _ _ low) (first _ h e)))

      pub whole_fine : pair_at s 0 35 33 ≡ false → r ≡ (Ok tt) → r ≡ whole_of s
      unfolding whole_of
      whole_fine h e = rw (← to) (second _ (le-ltb _ _ short) (second _ (le-ltb _ _ low) (second _ h e)))

module _ (step : Step) (len count room : ℕ) {r : Answer} where
  pub last_taken : {w a : ℕ} {next : Cursor} → step ≡ Ok (w, a, next) → r ≡ counted len count room → r ≡ last_of step len count room
  unfolding last_of
  last_taken e h = rw e h

  pub last_end : {f : Refusal} → step ≡ Err f → f.number ≡ 11 → r ≡ counted len count room → r ≡ last_of step len count room
  unfolding last_of
  last_end e n h = rw e (first _ (eq-eqb _ _ n) h)

  pub last_refused : {f : Refusal} → step ≡ Err f → (f.number ≡ 11 → ⊥) → r ≡ refusal f → r ≡ last_of step len count room
  unfolding last_of
  last_refused e n h = rw e (second _ (ne_eqb _ _ n) h)
