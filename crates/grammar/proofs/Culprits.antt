-- C-24: a refusal 6 names the first token that can't go there; for 11, the whole source begins some text, and for 4 what stands
-- before the place; for 7 and 9 the tokens up to the named one and with it.
use mathlib.Core.Path.{◌≡◌, refl, sym, ap, subst}
use mathlib.Core.List.{List, [], ◌∷◌}
use mathlib.Core.Bool.{Bool, false, not}
use mathlib.Core.Logic.{◌⊎◌, inl, inr}
use Prim.Native.Nat.{ℕ, ◌<◌}
use lib.Dec.{T, T_not}
use native.Mathlib.Omega.{arith}
use Rattle.grammar.specs.Grammar.{Ask, plain, has_value, opens_bracket, closes_bracket, is_prefix, is_head, is_else_if, Look, found, over, wrong, Stream, Token, Parts}
use Rattle.grammar.specs.Limits.{Counts, zeros, kept}
use Rattle.grammar.specs.Runs.{Run}
use Rattle.grammar.specs.Refusals.{Why, want, amiss, past, barred, left, unread, ill, Refusal, said, ask_number, torn, Stops}
use Rattle.grammar.specs.Words.{f_quote, text_then_hole}
use Rattle.grammar.specs.Kinds.{HOLE}
use Rattle.grammar.specs.Language.{roto, start}
use Rattle.grammar.specs.Answers.{Answer, refused, Answers, accepts, stops, leaves}
use Rattle.grammar.specs.Culprit.{lists, textless, Clean, FreeText, Before, before_here, before_there, With, with_here, with_there, Culprit}
use Rattle.grammar.proofs.Bools.{F→eq}
use Rattle.grammar.proofs.Core.{sound, complete}
use Rattle.grammar.proofs.Barred.{plainly, Cut, c_here, c_there, lock, barred_by}
use Rattle.grammar.proofs.Viable.{onto, viable, upto_seq, graft}
use Rattle.grammar.proofs.Tested.{taken}
use Rattle.grammar.proofs.Quiet.{not_unread, run_quiet, stop_quiet}
use Rattle.grammar.proofs.Checks.{roto_good, goal_closed, roto_steady, roto_live, goal_tails, goal_grows, roto_tame, goal_tame, roto_full}
use Rattle.grammar.proofs.Demand.{last, at_end, ask_7_or_9}

marked : (tests : Bool) → (roto tests).hole ≡ text_then_hole
unfolding roto
marked tests = refl

-- sources with f-strings are left out: the same tokens without text
module _ (S : Stream) (tests tree : Bool) (ahead : S.Place → ℕ) (tokens_take : (x : Token) (i j : S.Place) → S.look i ≡ found x j → ahead j < ahead i) where
  abbrev Q : Stream
  Q = textless S

  silent : (i : S.Place) → T (torn (Q.piece i))
  silent i = tt

  unquiet : {z i : S.Place} {ts : List Token} → Before Q z i ts → Before S z i ts
  unquiet before_here = before_here
  unquiet (before_there e b) = before_there e (unquiet b)

  louder : {z i : S.Place} {ts : List Token} → With Q z i ts → With S z i ts
  louder (with_here e) = with_here e
  louder (with_there e w) = with_there e (louder w)

  cut : {z i : S.Place} {ts : List Token} → With S z i ts → Cut (roto tests) Q lists i z ts
  cut (with_here e) = c_here e refl
  cut (with_there e w) = c_there e refl (cut w)

  cut_some : {i z : S.Place} {ts : List Token} → Cut (roto tests) Q lists i z ts → ts ≡ [] → ⊥
  cut_some (c_here e e') q = let k = ap lists.look q in let z : ◌≡◌ {A = ℕ} 0 1 = cc in omega arith
  cut_some (c_there e e' c) q = let k = ap lists.look q in let z : ◌≡◌ {A = ℕ} 0 1 = cc in omega arith

  -- where a reader stops for what the grammar says
  pub stopped_first : {i z : S.Place} {y : Why} → T (plainly (roto tests) y) → Stops Q (roto tests) zeros (start tree) i z y → Culprit S tests tree i z
  stopped_first b f = record {
    begins = let b = viable (roto tests) (roto_live tests) (roto_full tests) (marked tests) Q silent (goal_tails tests tree) (goal_grows tests tree) f in (b.0, b.1, unquiet b.2, b.3);
    begins_none = λ ts p w t. barred_by (roto tests) Q ahead tokens_take silent lists (roto_steady tests) (roto_good tests) (last (roto tests)) (goal_closed tests tree) (at_end lists (roto tests) [] refl) b f (cut w) t;
  }

  -- where something is left over
  pub left_first : {i r : S.Place} {p : Parts} → Run Q (roto tests) zeros (start tree) i r p → Culprit S tests tree i r
  left_first {p = p} t = record {
    begins = (onto p [], p, unquiet (upto_seq (roto tests) Q silent t before_here), graft (roto tests) (roto_live tests) (roto_full tests) (marked tests) Q silent (sound Q (roto tests) t) tt []);
    begins_none = λ ts q w u. cut_some (lock (roto tests) Q ahead tokens_take silent lists (roto_steady tests) t (complete lists (roto tests) (roto_good tests) u (last (roto tests)) (goal_closed tests tree) (at_end lists (roto tests) [] refl)).0 (cut w) (omega arith)).0 refl;
  }

  -- `scans`: what is no token is refused with 4 or 5
  module _ (len : ℕ) (scans : (i : S.Place) (n a b : ℕ) → S.look i ≡ wrong n a b → n < 6) where
    -- what a refusal says, by what stands where a reader stops and by its reason
    data Said (k : Look S.Place) : Why → Refusal → Type 0 where
      token_6 : {x : Token} {u : S.Place} {y : Why} → k ≡ found x u → T (plainly (roto tests) y) → Said k y (record { number = 6; start = x.start; end = x.end })
      failed : {x : Token} {u : S.Place} {g : Ask} → k ≡ found x u → Said k (past g) (record { number = ask_number g; start = x.start; end = x.end })
      sign_8 : {p : Parts} {a b : ℕ} → Said k (left p) (record { number = 8; start = a; end = b })
      text_7 : {x : Token} {a b : ℕ} → Said k (ill x) (record { number = 7; start = a; end = b })
      end_11 : {y : Why} → k ≡ over → Said k y (record { number = 11; start = len; end = len })
      none_4 : {y : Why} {n a b : ℕ} → k ≡ wrong n a b → Said k y (record { number = n; start = a; end = b })

    says : (k : Look S.Place) (y : Why) → T (not_unread y) → Said k y (said len k y)
    says (found x u) (want w) n = token_6 refl tt
    says (found x u) (amiss m) n = token_6 refl tt
    says (found x u) (past g) n = failed refl
    says (found x u) barred n = token_6 refl tt
    says (found x u) (left p) n = sign_8
    says (found x u) unread n = absurd n
    says (found x u) (ill t) n = text_7
    says over (want w) n = end_11 refl
    says over (amiss m) n = end_11 refl
    says over (past g) n = end_11 refl
    says over barred n = end_11 refl
    says over (left p) n = end_11 refl
    says over unread n = absurd n
    says over (ill t) n = text_7
    says (wrong c a b) (want w) n = none_4 refl
    says (wrong c a b) (amiss m) n = none_4 refl
    says (wrong c a b) (past g) n = none_4 refl
    says (wrong c a b) barred n = none_4 refl
    says (wrong c a b) (left p) n = none_4 refl
    says (wrong c a b) unread n = absurd n
    says (wrong c a b) (ill t) n = text_7

    -- how a source comes to be refused where no text is scanned: a reader stops, or something is left over
    data Refuses (i z : S.Place) : Why → Type 0 where
      at_stop : {y : Why} → Stops Q (roto tests) zeros (start tree) i z y → Refuses i z y
      at_left : {p : Parts} → Run Q (roto tests) zeros (start tree) i z p → Refuses i z (want [])

    record Met (i : S.Place) (r : Refusal) : Type 0 where
      place : S.Place
      why : Why
      refuses : Refuses i place why
      says_so : Said (S.look place) why r

    met : {i : S.Place} {a : Answer} (r : Refusal) → Clean S f_quote i → Answers S tests tree len i a → a ≡ refused r → Met i r
    met r c (accepts x) q = let z : ◌≡◌ {A = ℕ} 0 1 = cc in absurd (omega arith)
    met r c (stops {z = z} {y = y} f) q =
        let e : said len (S.look z) y ≡ r = cc in
        let u = stop_quiet f_quote (HOLE ∷ []) (roto tests) (roto_tame tests) S f (goal_tame tree) c in
        record { place = z; why = y; refuses = at_stop u.0; says_so = subst (Said (S.look z) y) e (says (S.look z) y u.1) }
    met r c (leaves {r = z} t n) q =
        let e : said len (S.look z) (want []) ≡ r = cc in
        let u = run_quiet f_quote (HOLE ∷ []) (roto tests) (roto_tame tests) S t (goal_tame tree) c in
        record { place = z; why = want []; refuses = at_left u.0; says_so = subst (Said (S.look z) (want [])) e (says (S.look z) (want []) tt) }

    -- the token at which a refusal is
    pub record Named (r : Refusal) (z : S.Place) : Type 0 where
      pub token : Token
      pub behind : S.Place
      pub stands : S.look z ≡ found token behind
      pub starts : token.start ≡ r.start
      pub ends : token.end ≡ r.end

    not_six : (g : Ask) → ask_number g ≡ 6 → ⊥
    not_six g e = elim (ask_7_or_9 g) [ inl q ↦ omega arith | inr q ↦ omega arith ]

    first_at : {i z : S.Place} {y : Why} → T (plainly (roto tests) y) → Refuses i z y → Culprit S tests tree i z
    first_at b (at_stop f) = stopped_first b f
    first_at b (at_left t) = left_first t

    pub record Wrong (i : S.Place) (r : Refusal) : Type 0 where
      pub place : S.Place
      pub named : Named r place
      pub culprit : Culprit S tests tree i place

    six : {i z : S.Place} {r : Refusal} {y : Why} → Said (S.look z) y r → r.number ≡ 6 → Refuses i z y → Wrong i r
    six {z = z} (token_6 {x = x} {u = u} e b) h f = record { place = z; named = record { token = x; behind = u; stands = e; starts = refl; ends = refl }; culprit = first_at b f }
    six (failed {g = g} e) h f = absurd (not_six g h)
    six sign_8 h f = absurd (omega arith)
    six text_7 h f = absurd (omega arith)
    six (end_11 e) h f = absurd (omega arith)
    six {z = z} (none_4 {n = n} {a = a} {b = b} e) h f = let k = scans z n a b e in absurd (omega arith)

    pub refusal_6 : {i : S.Place} {a : Answer} (r : Refusal) → Clean S f_quote i → Answers S tests tree len i a → a ≡ refused r → r.number ≡ 6 → Wrong i r
    refusal_6 r c x q h = let m = met r c x q in six m.says_so h m.refuses

    -- 11 comes at the end, and 4 where no token starts
    pub data Ends (r : Refusal) : Look S.Place → Type 0 where
      ends_over : r ≡ record { number = 11; start = len; end = len } → Ends r over
      ends_wrong : Ends r (wrong r.number r.start r.end)

    not_token : (g : Ask) → (ask_number g ≡ 4) ⊎ (ask_number g ≡ 11) → ⊥
    not_token g o = elim (ask_7_or_9 g) [ inl q ↦ elim o [ inl e ↦ omega arith | inr e ↦ omega arith ] | inr q ↦ elim o [ inl e ↦ omega arith | inr e ↦ omega arith ] ]

    pub record Begun (stands : List Token → Type 0) : Type 0 where
      pub tokens : List Token
      pub parts : Parts
      pub stand : stands tokens
      pub text : FreeText tests tree tokens parts

    -- whatever the reason, the tokens before the place begin some text
    viable_at : {i z : S.Place} {y : Why} → Refuses i z y → Begun (Before S z i)
    viable_at (at_stop f) = let b = viable (roto tests) (roto_live tests) (roto_full tests) (marked tests) Q silent (goal_tails tests tree) (goal_grows tests tree) f in record { tokens = b.0; parts = b.1; stand = unquiet b.2; text = b.3 }
    viable_at (at_left t) = let b = (left_first t).begins in record { tokens = b.0; parts = b.1; stand = b.2; text = b.3 }

    ends_at : {k : Look S.Place} {r : Refusal} {y : Why} → Said k y r → (r.number ≡ 4) ⊎ (r.number ≡ 11) → Ends r k
    ends_at (token_6 e b) o = elim o [ inl h ↦ absurd (omega arith) | inr h ↦ absurd (omega arith) ]
    ends_at (failed {g = g} e) o = absurd (not_token g o)
    ends_at sign_8 o = elim o [ inl h ↦ absurd (omega arith) | inr h ↦ absurd (omega arith) ]
    ends_at text_7 o = elim o [ inl h ↦ absurd (omega arith) | inr h ↦ absurd (omega arith) ]
    ends_at {r = r} (end_11 e) o = subst (Ends r) (sym e) (ends_over refl)
    ends_at {r = r} (none_4 e) o = subst (Ends r) (sym e) ends_wrong

    -- all the tokens of the source, or all before what is none, begin some text
    pub refusal_4_11 : {i : S.Place} {a : Answer} (r : Refusal) → Clean S f_quote i → Answers S tests tree len i a → a ≡ refused r → (r.number ≡ 4) ⊎ (r.number ≡ 11) → (z : S.Place) × Ends r (S.look z) × Begun (Before S z i)
    refusal_4_11 r c x q o = let m = met r c x q in (m.place, ends_at m.says_so o, viable_at m.refuses)

    valueless : (g : Ask) (d : Counts) (x : Token) → T (not (kept g d x)) → ask_number g ≡ 7 → x.holds ≡ false
    unfolding kept
    valueless plain d x k h = absurd (omega arith)
    valueless has_value d x k h = F→eq x.holds (T_not x.holds k)
    valueless opens_bracket d x k h = absurd (omega arith)
    valueless closes_bracket d x k h = absurd (omega arith)
    valueless is_prefix d x k h = absurd (omega arith)
    valueless is_head d x k h = absurd (omega arith)
    valueless is_else_if d x k h = absurd (omega arith)

    -- 7 and 9: the named token may go there, for its word; for 7 its literal has no value
    pub record Failing (i : S.Place) (r : Refusal) : Type 0 where
      pub place : S.Place
      pub named : Named r place
      pub begun : Begun (With S place i)
      pub no_value : r.number ≡ 7 → named.token.holds ≡ false

    fails_at : {i z : S.Place} {r : Refusal} {y : Why} → Said (S.look z) y r → (r.number ≡ 7) ⊎ (r.number ≡ 9) → Refuses i z y → Failing i r
    fails_at (token_6 e b) o f = elim o [ inl h ↦ absurd (omega arith) | inr h ↦ absurd (omega arith) ]
    fails_at {z = z} (failed {x = x} {u = u} {g = g} e) o (at_stop f) =
        let k = taken (roto tests) (roto_live tests) (roto_full tests) (marked tests) Q silent f tt (goal_tails tests tree) in
        let w = k.fails x u e in
        record {
          place = z;
          named = record { token = x; behind = u; stands = e; starts = refl; ends = refl };
          begun = record { tokens = onto k.part []; parts = k.part; stand = louder (k.upto []); text = k.reads [] };
          no_value = λ h. valueless g w.0 x w.1 h;
        }
    fails_at sign_8 o f = elim o [ inl h ↦ absurd (omega arith) | inr h ↦ absurd (omega arith) ]
    fails_at text_7 o (at_stop f) = absurd (taken (roto tests) (roto_live tests) (roto_full tests) (marked tests) Q silent f tt (goal_tails tests tree)).why
    fails_at (end_11 e) o f = elim o [ inl h ↦ absurd (omega arith) | inr h ↦ absurd (omega arith) ]
    fails_at {z = z} (none_4 {n = n} {a = a} {b = b} e) o f = let k = scans z n a b e in elim o [ inl h ↦ absurd (omega arith) | inr h ↦ absurd (omega arith) ]

    pub refusal_7_9 : {i : S.Place} {a : Answer} (r : Refusal) → Clean S f_quote i → Answers S tests tree len i a → a ≡ refused r → (r.number ≡ 7) ⊎ (r.number ≡ 9) → Failing i r
    refusal_7_9 r c x q o = let m = met r c x q in fails_at m.says_so o m.refuses
