-- The rules in their order: a token of s that ends inside the copy is that token in the copy.
use Rattle.std.specs.Prelude.{Some, None, Ok, Err}
use mathlib.Core.Path.{◌≡◌, refl, sym, ap, ◌∙◌, subst}
use mathlib.Core.Logic.{◌⊎◌, inl, inr}
use mathlib.Core.List.{List}
use mathlib.Core.Bool.{Bool, true, false, ◌&&◌, cond}
use Prim.Native.Nat.{ℕ, ◌+◌, ◌<◌, ◌≤◌}
use native.Mathlib.Omega.{arith}
use lib.ListN.{length}
use lib.Dec.{eqb, ltb}
use borrow.Author.Tests.{eqb-true}
use Rattle.chars.specs.Chars.{byte_at}
use Rattle.chars.specs.Runs.{past_span}
use Rattle.tokens.specs.Results.{Fit}
use Rattle.tokens.specs.Results.{Step}
use Rattle.tokens.specs.Rules.{pair_at, ipv6_at, ipv4_at, two_at, one_at, as_at, hex_at, number_at, goes_on, escapes, quote_at, is_name_start, name_at, taken, refused, or_else, token_at}
use Rattle.respell.specs.Copies.{Copied, is_stop}
use Rattle.respell.proofs.Tests.{fit_ends, no_fit, is, test_to}
use Rattle.respell.proofs.Addresses.{ipv6_hit, ipv6_miss, ipv4_hit, ipv4_miss}
use Rattle.respell.proofs.Rules.{quote_hit, quote_not, pair_to, pair_miss, two_hit, two_miss, one_hit, one_miss, as_hit, as_miss, hex_hit, hex_miss, number_hit, number_miss, name_hit, name_miss}

-- "If the source ends there, or before, no token": a string or char isn't the last thing in a source
abbrev pub Room : List ℕ → ℕ → ℕ → Type 0
Room t w e = (w ≡ 9) ⊎ (w ≡ 10) → e < length t

-- what is said at a place of s is said at the same place of the copy: a token that ends inside it, and `f"`
abbrev pub Said : List ℕ → ℕ → ℕ → Step → Step → Type 0
Said t q q' (Ok (w, a, n)) d = n.at ≤ q → (a' e' : ℕ) → a + q' ≡ a' + q → n.at + q' ≡ e' + q → Room t w e' → d ≡ taken a' e' w
Said t q q' (Err r) d = r.number ≡ 5 → r.end ≤ q → (a' e' : ℕ) → r.start + q' ≡ a' + q → r.end + q' ≡ e' + q → d ≡ refused 5 a' e'

quote_word : (c v : ℕ) (s : List ℕ) (i : ℕ) {e w : ℕ} → quote_at c v s i ≡ Some (e, w) → v ≡ w
unfolding quote_at
quote_word c v s i z = (fit_ends (eqb (byte_at s i) c && ltb (past_span (goes_on c) escapes false s (i + 1) + 1) (length s)) (past_span (goes_on c) escapes false s (i + 1) + 1) v z).2

module _ {s t : List ℕ} {lo q q' : ℕ} (copy : Copied s t lo q q') (stop : is_stop (byte_at t q') ≡ true) (closes : eqb (byte_at t q') 34 ≡ true → eqb (byte_at s q) 34 ≡ true)
    (i i' : ℕ) (from : lo ≤ i) (inside : i < q) (at : i + q' ≡ i' + q) where
  or_said : (f f' : Fit) (d d' : Step) → ((e w e' : ℕ) → f ≡ Some (e, w) → e ≤ q → e + q' ≡ e' + q → Room t w e' → f' ≡ Some (e', w)) → (f ≡ None → f' ≡ None) → Said t q q' d d' → Said t q q' (or_else i f d) (or_else i' f' d')
  unfolding or_else taken
  or_said (Some (e, w)) f' d d' hit miss k = λ h a' e' x y room. let u : i' ≡ a' = omega arith in ap (λ (g : Fit). or_else i' g d') (hit e w e' refl h y room) ∙ ap (λ (n : ℕ). taken n e' w) u
  or_said None f' d d' hit miss k = subst (λ (g : Fit). Said t q q' d (or_else i' g d')) (sym (miss refl)) k

  cond_said : (b b' : Bool) (d d' : Step) → (b ≡ false → b' ≡ false) → (b ≡ true → i + 2 ≤ q → b' ≡ true) → Said t q q' d d' → Said t q q' (cond b (refused 5 i (i + 2)) d) (cond b' (refused 5 i' (i' + 2)) d')
  unfolding refused
  cond_said true b' d d' f g k = λ n h a' e' x y.
      let u : i' ≡ a' = omega arith in
      let v : i' + 2 ≡ e' = omega arith in
      ap (λ (c : Bool). cond c (refused 5 i' (i' + 2)) d') (g refl h) ∙ ap (λ (m : ℕ). refused 5 m (i' + 2)) u ∙ ap (refused 5 a') v
  cond_said false b' d d' f g k = subst (λ (c : Bool). Said t q q' d (cond c (refused 5 i' (i' + 2)) d')) (sym (f refl)) k

  -- what is said of nothing
  abbrev Lost : Step → Type 0
  Lost d = (d' : Step) → Said t q q' d d'

  lost : Lost (refused 4 i (i + 1))
  unfolding refused
  lost d' = λ n. absurd (omega arith)

  name_lost : (c : ℕ) → is_name_start c ≡ false → byte_at s i ≡ c → Lost (or_else i (name_at s i) (refused 4 i (i + 1)))
  unfolding or_else name_at
  name_lost c h e d' = subst (λ (f : Fit). Said t q q' (or_else i f (refused 4 i (i + 1))) d') (sym (no_fit (is_name_start (byte_at s i)) _ _ (ap is_name_start e ∙ h))) (lost d')

  quote_said : (c v : ℕ) (d d' : Step) → (v ≡ 9) ⊎ (v ≡ 10) → Said t q q' d d' → (byte_at s i ≡ c → Lost d) → Said t q q' (or_else i (quote_at c v s i) d) (or_else i' (quote_at c v t i') d')
  unfolding or_else taken
  quote_said c v d d' is-quote k none = go (quote_at c v s i) refl (eqb (byte_at s i) c) refl
    where
      room_of : (w e' : ℕ) → v ≡ w → Room t w e' → e' < length t
      room_of w e' x room = room (subst (λ (n : ℕ). (n ≡ 9) ⊎ (n ≡ 10)) x is-quote)

      go : (f : Fit) → quote_at c v s i ≡ f → (b : Bool) → eqb (byte_at s i) c ≡ b → Said t q q' (or_else i f d) (or_else i' (quote_at c v t i') d')
      go (Some (e, w)) p b l = λ h a' e' x y room.
          let u : i' ≡ a' = omega arith in
          let o = quote_word c v s i p in
          ap (λ (g : Fit). or_else i' g d') (quote_hit copy c v i i' e e' from at p h y (room_of w e' o room)) ∙ ap (λ (n : ℕ). taken n e' v) u ∙ ap (taken a' e') o
      go None p true l = none (eqb-true (byte_at s i) c l) (or_else i' (quote_at c v t i') d')
      go None p false l = subst (λ (g : Fit). Said t q q' d (or_else i' g d')) (sym (quote_not copy t c v i' (test_to copy (is c) i i' from inside at l))) k

  string_lost : byte_at s i ≡ 34 → Lost (or_else i (quote_at 39 10 s i) (or_else i (name_at s i) (refused 4 i (i + 1))))
  unfolding or_else
  string_lost e d' = subst (λ (f : Fit). Said t q q' (or_else i f (or_else i (name_at s i) (refused 4 i (i + 1)))) d') (sym (quote_not copy s 39 10 i (ap (λ (b : ℕ). eqb b 39) e))) (name_lost 34 refl e d')

  quotes_said : Said t q q' (or_else i (quote_at 34 9 s i) (or_else i (quote_at 39 10 s i) (or_else i (name_at s i) (refused 4 i (i + 1))))) (or_else i' (quote_at 34 9 t i') (or_else i' (quote_at 39 10 t i') (or_else i' (name_at t i') (refused 4 i' (i' + 1)))))
  quotes_said =
      quote_said 34 9 _ _ (inl refl)
      (quote_said 39 10 _ _ (inr refl)
      (or_said (name_at s i) (name_at t i') _ _ (λ e w e' z h x r. name_hit copy stop i i' from inside at e e' z h x) (name_miss copy stop i i' from inside at) (lost _))
      (name_lost 39 refl))
      string_lost

  pub token_said : Said t q q' (token_at s i) (token_at t i')
  unfolding token_at
  token_said =
      or_said (ipv6_at s i) (ipv6_at t i') _ _ (λ e w e' z h x r. ipv6_hit copy stop i i' e e' from at z h x) (ipv6_miss copy stop i i' from (omega arith) at)
      (or_said (ipv4_at s i) (ipv4_at t i') _ _ (λ e w e' z h x r. ipv4_hit copy stop i i' e e' from at z h x) (ipv4_miss copy stop i i' from (omega arith) at)
      (or_said (two_at s i) (two_at t i') _ _ (λ e w e' z h x r. two_hit copy stop i i' from inside at e e' z h x) (two_miss copy stop i i' from inside at)
      (or_said (one_at s i) (one_at t i') _ _ (λ e w e' z h x r. one_hit copy stop i i' from inside at e e' z x) (one_miss copy stop i i' from inside at)
      (or_said (as_at s i) (as_at t i') _ _ (λ e w e' z h x r. as_hit copy stop i i' from inside at e e' z h x) (as_miss copy stop i i' from inside at)
      (or_said (hex_at s i) (hex_at t i') _ _ (λ e w e' z h x r. hex_hit copy stop i i' from inside at e e' z h x) (hex_miss copy stop i i' from inside at)
      (or_said (number_at s i) (number_at t i') _ _ (λ e w e' z h x r. number_hit copy stop i i' from inside at e e' z h x) (number_miss copy stop i i' from inside at)
      (cond_said (pair_at s i 102 34) (pair_at t i' 102 34) _ _ (pair_miss copy i i' 102 34 from inside at closes) (λ e h. pair_to copy i i' 102 34 from (omega arith) at ∙ e)
      quotes_said)))))))
