-- Refusals: where a predictive reader stops, for what reason, and document 01's number and place for it.
use Rattle.std.specs.Prelude.{◌≡◌, List, ◌∷◌, Bool, true, false, not, cond, ℕ, T, eqb}
use Rattle.std.proofs.Math.Option.{none}
use Rattle.grammar.specs.Grammar.{Ask, plain, has_value, opens_bracket, closes_bracket, is_prefix, is_head, is_else_if, Scope, same, Symbol, token, phrase, unless, note, left_side, text, Token, Look, found, over, wrong, Stream, Parts, Language, one_of}
use Rattle.grammar.specs.Limits.{Counts, after, inside, kept}
use Rattle.grammar.specs.Choice.{chosen}
use Rattle.grammar.specs.Readings.{peek}
use Rattle.grammar.specs.Runs.{view, Picks, may, Run}
use Rattle.grammar.specs.Rows.{phrase_row}

-- Why a reader stops: none of these words stands there; nothing that begins a phrase of this kind; a token fails its test;
-- a word that may not stand next; an assignment sign behind these parts, which are no path; no piece of text can be
-- scanned; a piece of text against the string rule.
pub data Why : Type 0 where
  want : List ℕ → Why
  amiss : ℕ → Why
  past : Ask → Why
  barred : Why
  left : Parts → Why
  unread : Why
  ill : Token → Why

pub record Refusal : Type 0 where
  pub number : ℕ
  pub start : ℕ
  pub end : ℕ

-- 7: literal without a value; 9: nested too deep.
abbrev pub ask_number : Ask → ℕ
ask_number plain = 9
ask_number has_value = 7
ask_number opens_bracket = 9
ask_number closes_bracket = 9
ask_number is_prefix = 9
ask_number is_head = 9
ask_number is_else_if = 9

-- At a token: 6 "token not usable here", at the token; 8 at the left side's row; 7 and 9 at the token.
abbrev pub said_at : ℕ → Token → Why → Refusal
said_at len x (want w) = record { number = 6; start = x.start; end = x.end }
said_at len x (amiss n) = record { number = 6; start = x.start; end = x.end }
said_at len x (past g) = record { number = ask_number g; start = x.start; end = x.end }
said_at len x barred = record { number = 6; start = x.start; end = x.end }
said_at len x (left p) = record { number = 8; start = (phrase_row p).start; end = (phrase_row p).end }
said_at len x unread = record { number = 11; start = len; end = len }
said_at len x (ill y) = record { number = 7; start = y.start; end = y.end }

-- Where text is scanned (C-11), what stands there as a token is of no matter.
abbrev pub said_text : ℕ → Why → Refusal → Refusal
said_text len (want w) r = r
said_text len (amiss n) r = r
said_text len (past g) r = r
said_text len barred r = r
said_text len (left p) r = r
said_text len unread r = record { number = 11; start = len; end = len }
said_text len (ill y) r = record { number = 7; start = y.start; end = y.end }

-- 4 or 5 where there is no token; 11 "source ends too early" at length, length; else what the reason says.
abbrev pub said : {P : Type 0} → ℕ → Look P → Why → Refusal
said len (found x j) y = said_at len x y
said len over y = said_text len y (record { number = 11; start = len; end = len })
said len (wrong n a b) y = said_text len y (record { number = n; start = a; end = b })

-- None of these words stands there; no text can be scanned there.
abbrev pub lacks : {P : Type 0} → Look P → List ℕ → Bool
lacks (found x j) w = not (one_of x.word w)
lacks over w = true
lacks (wrong n a b) w = true

abbrev pub torn : {P : Type 0} → Look P → Bool
torn (found x j) = false
torn over = true
torn (wrong n a b) = true

module _ (S : Stream) (l : Language) where
  -- `Stops d s i z y`: a reader that is to read s at place i stops at place z, for the reason y. It meets what s says from
  -- left to right; at one token it asks first for its word and then for its test.
  pub data Stops : Counts → List Symbol → S.Place → S.Place → Why → Type 0 where
    stops_want : {d : Counts} {g : Ask} {w : List ℕ} {s : List Symbol} {i : S.Place}
        → T (lacks (S.look i) w) → Stops d (token g w ∷ s) i i (want w)
    stops_past : {d : Counts} {g : Ask} {w : List ℕ} {s : List Symbol} {x : Token} {i j : S.Place}
        → S.look i ≡ found x j → T (one_of x.word w) → T (not (kept g d x)) → Stops d (token g w ∷ s) i i (past g)
    stops_token : {d : Counts} {g : Ask} {w : List ℕ} {s : List Symbol} {x : Token} {i j z : S.Place} {y : Why}
        → S.look i ≡ found x j → T (one_of x.word w) → T (kept g d x) → Stops (after g d) s j z y
        → Stops d (token g w ∷ s) i z y
    stops_none : {d : Counts} {n : ℕ} {o : Scope} {s : List Symbol} {i : S.Place}
        → chosen l n (view S l i) ≡ none → Stops d (phrase o n ∷ s) i i (amiss n)
    stops_in : {d : Counts} {n : ℕ} {o : Scope} {a s : List Symbol} {i z : S.Place} {y : Why}
        → Picks S l n i a → Stops (inside o d) a i z y → Stops d (phrase o n ∷ s) i z y
    stops_after : {d : Counts} {n : ℕ} {o : Scope} {a s : List Symbol} {i m z : S.Place} {p : Parts} {y : Why}
        → Picks S l n i a → Run S l (inside o d) a i m p → Stops d s m z y → Stops d (phrase o n ∷ s) i z y
    stops_barred : {d : Counts} {w : List ℕ} {s : List Symbol} {i : S.Place}
        → T (one_of (peek S l i) w) → Stops d (unless w ∷ s) i i barred
    stops_unless : {d : Counts} {w : List ℕ} {s : List Symbol} {i z : S.Place} {y : Why}
        → T (not (one_of (peek S l i) w)) → Stops d s i z y → Stops d (unless w ∷ s) i z y
    stops_note : {d : Counts} {k : ℕ} {s : List Symbol} {i z : S.Place} {y : Why}
        → Stops d s i z y → Stops d (note k ∷ s) i z y
    stops_side_none : {d : Counts} {n n₁ : ℕ} {s : List Symbol} {i : S.Place}
        → chosen l n (view S l i) ≡ none → Stops d (left_side n n₁ ∷ s) i i (amiss n)
    stops_side_in : {d : Counts} {n n₁ : ℕ} {a s : List Symbol} {i z : S.Place} {y : Why}
        → Picks S l n i a → Stops d a i z y → Stops d (left_side n n₁ ∷ s) i z y
    stops_left : {d : Counts} {n n₁ : ℕ} {a s : List Symbol} {i m : S.Place} {p : Parts}
        → Picks S l n i a → Run S l d a i m p → T (not (may S l (l.is_path p) (peek S l m)))
        → Stops d (left_side n n₁ ∷ s) i m (left p)
    stops_side_after : {d : Counts} {n n₁ : ℕ} {a s : List Symbol} {i m z : S.Place} {p : Parts} {y : Why}
        → Picks S l n i a → Run S l d a i m p → T (may S l (l.is_path p) (peek S l m))
        → Stops d (cond (l.is_path p) (phrase same n₁ ∷ s) s) m z y → Stops d (left_side n n₁ ∷ s) i z y
    stops_torn : {d : Counts} {n : ℕ} {s : List Symbol} {i : S.Place}
        → T (torn (S.piece i)) → Stops d (text n ∷ s) i i unread
    stops_ill : {d : Counts} {n : ℕ} {s : List Symbol} {x : Token} {i j : S.Place}
        → S.piece i ≡ found x j → T (not (kept has_value d x)) → Stops d (text n ∷ s) i i (ill x)
    stops_text : {d : Counts} {n : ℕ} {s : List Symbol} {x : Token} {i j z : S.Place} {y : Why}
        → S.piece i ≡ found x j → T (kept has_value d x)
        → Stops (after has_value d) (cond (eqb x.word l.hole) (phrase same n ∷ s) s) j z y
        → Stops d (text n ∷ s) i z y
