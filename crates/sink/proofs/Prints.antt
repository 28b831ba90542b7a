-- Telling a print's tokens to a text of zeros leaves the print there.
use mathlib.Core.Path.{◌≡◌, refl, sym, ap, ◌∙◌}
use mathlib.Core.List.{List, [], ◌∷◌, ◌++◌, append_assoc, append-nil}
use mathlib.Core.Bool.{Bool, true, false, not, ◌&&◌, cond}
use mathlib.Core.Logic.{◌⊎◌, inl, inr}
use Prim.Native.Nat.{ℕ, zero, suc, ◌+◌, ◌≤◌, ◌<◌}
use lib.Dec.{T, ltb, leb, leb→le, le→leb}
use lib.ListN.{length, set, length-append}
use native.Mathlib.Omega.{arith}
use Rattle.grammar.proofs.Bools.{T→eq, F→eq}
use Rattle.grammar.specs.Grammar.{one_of}
use Rattle.canon.specs.Text.{Bit, sign, copy, spelling, ends_line, blank_between, spaced}
use Rattle.sink.specs.declared.Sink.{Sink}
use Rattle.sink.specs.Few.{prefix_words, few, is_prefix, row_behind}
use Rattle.sink.specs.Told.{Written, written, counted, put, fed, blank, newline, empty, state, tell, telling, padded, capped, TellsPrints}
use Rattle.sink.proofs.Feeds.{fed_none, fed_append, behind_prefix, behind_other}

below : (n m : ℕ) → n < m → ltb n m ≡ true
below n m h = T→eq _ (le→leb (suc n) m h)

not_below : (n m : ℕ) → m ≤ n → ltb n m ≡ false
not_below n m h = F→eq _ (λ (k : T (ltb n m)). let l = leb→le (suc n) m k in omega arith)

either : (n m : ℕ) → (n < m) ⊎ (m ≤ n)
either n zero = inr (omega arith)
either zero (suc m) = inl (omega arith)
either (suc n) (suc m) = go (either n m)
  where
    go : (n < m) ⊎ (m ≤ n) → (suc n < suc m) ⊎ (suc m ≤ suc n)
    go (inl h) = inl (omega arith)
    go (inr h) = inr (omega arith)

-- a list that is padded, with a byte more
padded_length : (n : ℕ) (v : List ℕ) → length (padded n v) ≡ n
unfolding padded
padded_length zero v = refl
padded_length (suc n) [] = ap suc (padded_length n [])
padded_length (suc n) (b ∷ v) = ap suc (padded_length n v)

padded_in : (n : ℕ) (v : List ℕ) (b : ℕ) → length v < n → set (padded n v) (length v) b ≡ padded n (v ++ (b ∷ []))
unfolding padded
padded_in zero v b h = absurd (omega arith)
padded_in (suc n) [] b h = refl
padded_in (suc n) (x ∷ v) b h = ap (λ (l : List ℕ). x ∷ l) (padded_in n v b (omega arith))

padded_out : (n : ℕ) (v : List ℕ) (b : ℕ) → n ≤ length v → padded n v ≡ padded n (v ++ (b ∷ []))
unfolding padded
padded_out zero v b h = refl
padded_out (suc n) [] b h = absurd (omega arith)
padded_out (suc n) (x ∷ v) b h = ap (λ (l : List ℕ). x ∷ l) (padded_out n v b (omega arith))

capped_more : (n : ℕ) → counted (capped n) ≡ capped (n + 1)
capped_more n = go (either n 65536)
  where
    at : n < 65536 → (n + 1 < 65536) ⊎ (65536 ≤ n + 1) → counted n ≡ capped (n + 1)
    at h (inl k) = rw (below n 65536 h, below (n + 1) 65536 k) refl
    at h (inr k) = rw (below n 65536 h, not_below (n + 1) 65536 k) (omega arith)

    go : (n < 65536) ⊎ (65536 ≤ n) → counted (capped n) ≡ capped (n + 1)
    go (inl h) = ap (λ (b : Bool). counted (cond b n 65536)) (below n 65536 h) ∙ at h (either (n + 1) 65536)
    go (inr h) = ap (λ (b : Bool). counted (cond b n 65536)) (not_below n 65536 h) ∙ sym (ap (λ (b : Bool). cond b (n + 1) 65536) (not_below (n + 1) 65536 (omega arith)))

length_one : (v : List ℕ) (b : ℕ) → length (v ++ (b ∷ [])) ≡ length v + 1
length_one v b = length-append v (b ∷ [])

abbrev holding : ℕ → List ℕ → Written
holding n v = written (padded n v) (capped (length v))

byte : (n : ℕ) (v : List ℕ) (b : ℕ) → length v < 65536 → put (holding n v) b ≡ holding n (v ++ (b ∷ []))
unfolding put
byte n v b m = go (either (length v) n)
  where
    next : counted (capped (length v)) ≡ capped (length (v ++ (b ∷ [])))
    next = capped_more (length v) ∙ ap capped (sym (length_one v b))

    here : capped (length v) ≡ length v
    here = ap (λ (c : Bool). cond c (length v) 65536) (below (length v) 65536 m)

    go : (length v < n) ⊎ (n ≤ length v) → put (holding n v) b ≡ holding n (v ++ (b ∷ []))
    go (inl h) =
        let q : ltb (capped (length v)) (length (padded n v)) ≡ true = below (capped (length v)) (length (padded n v)) (rw (padded_length n v, here) h) in
        rw q (ap (λ (k : ℕ). written (set (padded n v) k b) (counted (capped (length v)))) here ∙ ap (λ (l : List ℕ). written l (counted (capped (length v)))) (padded_in n v b h) ∙ ap (written (padded n (v ++ (b ∷ [])))) next)
    go (inr h) =
        let q : ltb (capped (length v)) (length (padded n v)) ≡ false = not_below (capped (length v)) (length (padded n v)) (rw (padded_length n v, here) h) in
        rw q (ap (λ (l : List ℕ). written l (counted (capped (length v)))) (padded_out n v b h) ∙ ap (written (padded n (v ++ (b ∷ [])))) next)

fed_holding : (n : ℕ) (v w : List ℕ) → length v + length w ≤ 65536 → fed (holding n v) w ≡ holding n (v ++ w)
unfolding fed
fed_holding n v [] m = ap (holding n) (sym (append-nil v))
fed_holding n v (b ∷ w) m =
    let k = length_one v b in
    ap (λ (x : Written). fed x w) (byte n v b (omega arith)) ∙ fed_holding n (v ++ (b ∷ [])) w (omega arith) ∙ ap (holding n) (append_assoc v (b ∷ []) w)

-- the count doesn't look at the text
fed_at : (x : Written) (w : List ℕ) (n : ℕ) → x.at ≡ capped n → (fed x w).at ≡ capped (n + length w)
unfolding fed put
fed_at x [] n e = e ∙ ap capped {x = n} {y = n + 0} (omega arith)
fed_at x (b ∷ w) n e = fed_at (put x b) w (n + 1) (ap counted e ∙ capped_more n) ∙ ap capped {x = n + 1 + length w} {y = n + suc (length w)} (omega arith)

-- the bytes of tokens, a blank first where one is due
bytes_of : Bool → List Bit → List ℕ
bytes_of g [] = []
bytes_of g (b ∷ bs) = blank g ++ (spelling b ++ (newline (ends_line b) ++ bytes_of (not (ends_line b)) bs))

bytes_spaced : (bs : List Bit) → bytes_of false bs ≡ spaced bs
unfolding bytes_of spaced
bytes_spaced [] = refl
bytes_spaced (b ∷ bs) = ap (λ (l : List ℕ). spelling b ++ l) (go (ends_line b) bs (bytes_spaced bs))
  where
    go : (l : Bool) (cs : List Bit) → bytes_of false cs ≡ spaced cs → newline l ++ bytes_of (not l) cs ≡ blank_between l cs ++ spaced cs
    go true cs h = ap (λ (l : List ℕ). 10 ∷ l) h
    go false [] h = refl
    go false (c ∷ cs) h = ap (λ (l : List ℕ). 32 ∷ l) h

told_bytes : (t : List ℕ) (s : Sink) (bs : List Bit) → written (telling (state t s) bs).text (telling (state t s) bs).sink.at ≡ fed (written t s.at) (bytes_of s.gap bs)
unfolding telling tell bytes_of
told_bytes t s [] = fed_none (written t s.at)
told_bytes t s (b ∷ bs) =
    let x = written t s.at in
    let l = ends_line b in
    let y = fed (fed (fed x (blank s.gap)) (spelling b)) (newline l) in
    told_bytes y.text (record { at = y.at; gap = not l; row = row_behind s.row (is_prefix b) }) bs
    ∙ sym (fed_append (fed (fed x (blank s.gap)) (spelling b)) (newline l) (bytes_of (not l) bs))
    ∙ sym (fed_append (fed x (blank s.gap)) (spelling b) (newline l ++ bytes_of (not l) bs))
    ∙ sym (fed_append x (blank s.gap) (spelling b ++ (newline l ++ bytes_of (not l) bs)))

-- prefixes in a row behind tokens
row_after : ℕ → List Bit → ℕ
row_after c [] = c
row_after c (b ∷ bs) = row_after (row_behind c (is_prefix b)) bs

told_row : (t : List ℕ) (s : Sink) (bs : List Bit) → (telling (state t s) bs).sink.row ≡ row_after s.row bs
unfolding telling tell row_after
told_row t s [] = refl
told_row t s (b ∷ bs) =
    let l = ends_line b in
    let y = fed (fed (fed (written t s.at) (blank s.gap)) (spelling b)) (newline l) in
    told_row y.text (record { at = y.at; gap = not l; row = row_behind s.row (is_prefix b) }) bs

stays : (bs : List Bit) → row_after 33 bs ≡ 33
unfolding row_after
stays [] = refl
stays (b ∷ bs) = stays bs

few_more : (c : ℕ) (bs : List Bit) → c ≤ 32 → ((k : ℕ) → k ≤ 32 → leb (row_after k bs) 32 ≡ few k bs) → (c < 32) ⊎ (32 ≤ c) → leb (row_after (c + 1) bs) 32 ≡ (ltb c 32 && few (suc c) bs)
few_more c bs h ih (inl k) = let q : c + 1 ≡ suc c = omega arith in rw (below c 32 k, q) (ih (suc c) (omega arith))
few_more c bs h ih (inr k) =
    let q : c + 1 ≡ 33 = omega arith in
    rw (not_below c 32 k) (ap (λ (n : ℕ). leb (row_after n bs) 32) q ∙ ap (λ (n : ℕ). leb n 32) (stays bs))

few_step : (c : ℕ) (b : Bool) (bs : List Bit) → c ≤ 32 → ((k : ℕ) → k ≤ 32 → leb (row_after k bs) 32 ≡ few k bs) → leb (row_after (row_behind c b) bs) 32 ≡ cond b (ltb c 32 && few (suc c) bs) (few 0 bs)
few_step c true bs h ih = ap (λ (k : ℕ). leb (row_after k bs) 32) (sym (behind_prefix c (c + 1) true h refl refl)) ∙ few_more c bs h ih (either c 32)
few_step c false bs h ih = ap (λ (k : ℕ). leb (row_after k bs) 32) (sym (behind_other c false h refl)) ∙ ih 0 (omega arith)

few_row : (c : ℕ) (bs : List Bit) → c ≤ 32 → leb (row_after c bs) 32 ≡ few c bs
unfolding row_after few
few_row c [] h = T→eq _ (le→leb c 32 h)
few_row c (copy t ∷ bs) h = few_step c false bs h (λ k l. few_row k bs l)
few_row c (sign w ∷ bs) h = few_step c (one_of w prefix_words) bs h (λ k l. few_row k bs l)

pub telling_prints : (n : ℕ) (bs : List Bit) → TellsPrints n bs
telling_prints n bs =
    let e = told_bytes (padded n []) empty bs ∙ ap (fed (written (padded n []) 0)) (bytes_spaced bs) in
    record {
      text = λ m. ap (λ (x : Written). x.text) (e ∙ fed_holding n [] (spaced bs) (omega arith));
      at = ap (λ (x : Written). x.at) e ∙ fed_at (written (padded n []) 0) (spaced bs) 0 refl ∙ ap capped {x = 0 + length (spaced bs)} {y = length (spaced bs)} (omega arith);
      row = ap (λ (k : ℕ). leb k 32) (told_row (padded n []) empty bs) ∙ few_row 0 bs (omega arith);
    }
