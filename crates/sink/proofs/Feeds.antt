-- Bytes and tokens, one after the other.
use mathlib.Core.Path.{◌≡◌, refl, sym, ap, ◌∙◌}
use mathlib.Core.List.{List, [], ◌∷◌, ◌++◌, append_assoc, append-nil}
use mathlib.Core.Bool.{Bool, true, false, not}
use Prim.Native.Nat.{ℕ, zero, suc, ◌+◌, ◌-◌, ◌≤◌, ◌<◌}
use lib.Dec.{T, ltb, leb→le}
use lib.ListN.{length, get_or}
use Rattle.std.specs.Prelude.{take}
use Rattle.std.proofs.Math.Seq.{take-suc}
use Rattle.std.proofs.lemmas.List.{take_all}
use native.Mathlib.Numerals.{add-one}
use native.Mathlib.Omega.{arith}
use Rattle.grammar.proofs.Bools.{F→eq}
use Rattle.canon.specs.Text.{Bit, sign}
use Rattle.sink.specs.declared.Sink.{Sink}
use Rattle.sink.specs.Few.{row_behind}
use Rattle.sink.specs.Told.{Written, written, put, fed, blank, newline, Told, state, token, tell, telling, digit}

pub fed_none : (x : Written) → x ≡ fed x []
unfolding fed
fed_none x = refl

pub fed_append : (x : Written) (a b : List ℕ) → fed x (a ++ b) ≡ fed (fed x a) b
unfolding fed
fed_append x [] b = refl
fed_append x (c ∷ a) b = fed_append (put x c) a b

-- a byte more of a list
pub fed_more : (x y z : Written) (t : List ℕ) (i : ℕ) → i < length t → y ≡ fed x (take i t) → z ≡ put y (get_or t i 0) → z ≡ fed x (take (i + 1) t)
unfolding fed
fed_more x y z t i h e k =
    rw (add-one i) (k ∙ ap (λ (w : Written). put w (get_or t i 0)) e ∙ sym (fed_append x (take i t) (get_or t i 0 ∷ [])) ∙ sym (ap (fed x) (take-suc t i 0 h)))

pub telling_append : (x : Told) (a b : List Bit) → telling x (a ++ b) ≡ telling (telling x a) b
unfolding telling
telling_append x [] b = refl
telling_append x (c ∷ a) b = telling_append (tell x c) a b

-- a token, byte list by byte list
pub token_so : (t0 t1 t2 t3 : List ℕ) (s : Sink) (a1 a2 a3 r : ℕ) (t : List ℕ) (line prefix : Bool) → written t1 a1 ≡ fed (written t0 s.at) (blank s.gap) → written t2 a2 ≡ fed (written t1 a1) t → written t3 a3 ≡ fed (written t2 a2) (newline line) → r ≡ row_behind s.row prefix → state t3 (record { at = a3; gap = not line; row = r }) ≡ token (state t0 s) t line prefix
token_so t0 t1 t2 t3 s a1 a2 a3 r t line prefix e1 e2 e3 q =
    rw q (ap (λ (y : Written). state y.text (record { at = y.at; gap = not line; row = row_behind s.row prefix })) (e3 ∙ ap (λ (y : Written). fed y (newline line)) (e2 ∙ ap (λ (y : Written). fed y t) e1)))

pub told_digit : (x y : Told) (d : ℕ) → 0 < d → y ≡ tell x (sign (d - 1)) → y ≡ telling x (digit d)
unfolding telling
told_digit x y zero h e = absurd (omega (arith, h))
told_digit x y (suc d) h e = let q : suc d - 1 ≡ d = omega arith in rw q at e

-- how prefixes in a row go on
pub behind_prefix : (c r : ℕ) (p : Bool) → c ≤ 32 → p ≡ true → r ≡ c + 1 → r ≡ row_behind c p
behind_prefix c r p h e k = let q : ltb 32 c ≡ false = F→eq _ (λ (z : T (ltb 32 c)). let l = leb→le 33 c z in omega arith) in rw (q, e) k

pub behind_other : (c : ℕ) (p : Bool) → c ≤ 32 → p ≡ false → 0 ≡ row_behind c p
behind_other c p h e = let q : ltb 32 c ≡ false = F→eq _ (λ (z : T (ltb 32 c)). let l = leb→le 33 c z in omega arith) in rw (q, e) refl

-- the words of a list of digits
abbrev pub digits : List ℕ → List Bit
digits [] = []
digits (d ∷ ds) = digit d ++ digits ds

digits_append : (a b : List ℕ) → digits (a ++ b) ≡ digits a ++ digits b
digits_append [] b = refl
digits_append (d ∷ a) b = ap (λ (z : List Bit). digit d ++ z) (digits_append a b) ∙ sym (append_assoc (digit d) (digits a) (digits b))

pub digit_more : (x y z : Told) (ds : List ℕ) (i : ℕ) → i < length ds → y ≡ telling x (digits (take i ds)) → z ≡ telling y (digit (get_or ds i 0)) → z ≡ telling x (digits (take (i + 1) ds))
digit_more x y z ds i h e k =
    rw (add-one i) (k ∙ ap (λ (w : Told). telling w (digit (get_or ds i 0))) e
    ∙ sym (telling_append x (digits (take i ds)) (digit (get_or ds i 0)))
    ∙ ap (λ (b : List Bit). telling x (digits (take i ds) ++ b)) (sym (append-nil (digit (get_or ds i 0))))
    ∙ sym (ap (telling x) (digits_append (take i ds) (get_or ds i 0 ∷ [])))
    ∙ sym (ap (λ (l : List ℕ). telling x (digits l)) (take-suc ds i 0 h)))

-- three words and one behind them
pub four_digits : (x y : Told) (i a b c d : ℕ) (e : List Bit) → 4 ≤ i → digit d ≡ e → y ≡ telling x (digits (take i (a ∷ b ∷ c ∷ d ∷ []))) → y ≡ telling x ((digit a ++ (digit b ++ digit c)) ++ e)
four_digits x y i a b c d e n h k =
    k ∙ ap (λ (l : List ℕ). telling x (digits l)) (take_all i (a ∷ b ∷ c ∷ d ∷ []) n)
    ∙ ap (λ (z : List Bit). telling x (digit a ++ (digit b ++ (digit c ++ z)))) (append-nil (digit d) ∙ h)
    ∙ ap (telling x) (sym (append_assoc (digit a) (digit b ++ digit c) e ∙ ap (λ (z : List Bit). digit a ++ z) (append_assoc (digit b) (digit c) e)))
