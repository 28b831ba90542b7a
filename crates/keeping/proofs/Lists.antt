-- Declarations one after the other are a tree; and they may be joined where the text between shows nothing.
use mathlib.Core.Path.{◌≡◌, refl, sym, ap, ◌∙◌}
use mathlib.Core.List.{[], ◌∷◌}
use mathlib.Core.Bool.{Bool, true, false}
use mathlib.Core.Logic.{◌⊎◌, inl, inr}
use Prim.Native.Nat.{ℕ, ◌≤◌, ◌<◌}
use lib.Dec.{T, eqb}
use native.Mathlib.Omega.{arith}
use Rattle.grammar.specs.Grammar.{Token, Look, found, over, Stream, Parts, end, node, alternatives, In, here, there}
use Rattle.grammar.specs.Limits.{Counts, zeros, inside}
use Rattle.grammar.specs.Table.{a}
use Rattle.grammar.specs.Kinds.{TREE, DECLARATIONS, DECLARATION}
use Rattle.grammar.specs.Language.{roto}
use Rattle.grammar.specs.Readings.{Reading, Text, reads_end, reads_phrase}
use Rattle.grammar.proofs.Good.{filled}
use Rattle.grammar.proofs.Checks.{roto_full}
use Rattle.keeping.specs.Kept.{Kept, none, more, Ends}
use Rattle.keeping.proofs.Window.{stream, roto_solid, on, takes, begins, moved, within}

module _ (tests : Bool) (S : Stream) where
  pub in_list : (b : Bool) → In (a DECLARATION ∷ a DECLARATIONS ∷ []) (alternatives (roto b) DECLARATIONS)
  unfolding roto
  in_list true = there here
  in_list false = there here

  pub in_none : (b : Bool) → In [] (alternatives (roto b) DECLARATIONS)
  unfolding roto
  in_none true = here
  in_none false = here

  pub in_tree : (b : Bool) → In (a DECLARATIONS ∷ []) (alternatives (roto b) TREE)
  unfolding roto
  in_tree true = here
  in_tree false = here

  both : {i j m : S.Place} {p q : Parts} → Reading S (roto tests) zeros (a DECLARATION ∷ []) i j p → Reading S (roto tests) zeros (a DECLARATIONS ∷ []) j m q → (u : Parts) × Reading S (roto tests) zeros (a DECLARATION ∷ a DECLARATIONS ∷ []) i m u
  both {q = q} (reads_phrase {n = n} {a = c} {p = p} o t reads_end) u = (node n c p q, reads_phrase o t u)

  list_reads : {i m : S.Place} → Kept S (roto tests) i m → (p : Parts) × Reading S (roto tests) zeros (a DECLARATIONS ∷ []) i m p
  unfolding inside
  list_reads none = (node DECLARATIONS [] end end, reads_phrase (in_none tests) reads_end reads_end)
  list_reads (more r k) = let u = both r (list_reads k).1 in (node DECLARATIONS (a DECLARATION ∷ a DECLARATIONS ∷ []) u.0 end, reads_phrase (in_list tests) u.1 reads_end)

  pub kept_append : {i m z : S.Place} → Kept S (roto tests) i m → Kept S (roto tests) m z → Kept S (roto tests) i z
  kept_append none u = u
  kept_append (more r k) u = more r (kept_append k u)

  -- they are a source's reading
  pub kept_text : {i : S.Place} → Ends S (roto tests) i → (p : Parts) × Text S (roto tests) TREE i p
  unfolding inside
  kept_text e = let u = list_reads e.kept in (node TREE (a DECLARATIONS ∷ []) u.0 end, record { stop = e.stop; reads = reads_phrase (in_tree tests) u.1 reads_end; whole = e.whole })

module _ (tests : Bool) (P : Type 0) (look piece : P → Look P) (ahead : P → ℕ)
    (tokens_take : (x : Token) (i j : P) → look i ≡ found x j → ahead j < ahead i)
    (pieces_keep : (x : Token) (i j : P) → piece i ≡ found x j → ahead j ≤ ahead i) where
  full_one : (b : Bool) → T (filled (roto b) (a DECLARATION ∷ []))
  unfolding roto
  full_one true = tt
  full_one false = tt

  -- a declaration has a token, and the first stands where it begins
  pub declaration_takes : {d : Counts} {i j : P} {p : Parts} → Reading (stream P look piece) (roto tests) d (a DECLARATION ∷ []) i j p → ahead j < ahead i
  declaration_takes r = takes (roto tests) (roto_full tests) (roto_solid tests) P look piece ahead tokens_take pieces_keep r (full_one tests)

  pub not_at_end : {d : Counts} {i j : P} {p : Parts} → Reading (stream P look piece) (roto tests) d (a DECLARATION ∷ []) i j p → look i ≡ over → ⊥
  not_at_end r e = elim (begins (roto tests) (roto_full tests) (roto_solid tests) P look piece ahead tokens_take pieces_keep r tt) [
    | inl f ↦ (let g = f.seen in let z : ◌≡◌ {A = ℕ} 0 1 = cc in omega arith)
    | inr q ↦ (let z = declaration_takes r in let y = ap ahead q in omega arith)
  ]

  -- declarations, a gap that shows at its two ends the same, and declarations, unless there is none behind it
  pub joins : {i m i' z : P} → Kept (stream P look piece) (roto tests) i m → look i' ≡ look m → Kept (stream P look piece) (roto tests) i' z → (z ≡ i') ⊎ Kept (stream P look piece) (roto tests) i z
  joins k e none = inl refl
  joins k e (more r u) = inr (kept_append tests (stream P look piece) k (more (moved (roto tests) (roto_full tests) (roto_solid tests) P look piece ahead tokens_take pieces_keep e r tt refl (declaration_takes r)) u))

  -- and so up to the end
  pub joined : {i m i' : P} → Kept (stream P look piece) (roto tests) i m → look i' ≡ look m → Ends (stream P look piece) (roto tests) i' → Ends (stream P look piece) (roto tests) i
  joined {m = m} k e x = elim (joins k e x.kept) [
    | inl q ↦ record { stop = m; kept = k; whole = sym e ∙ ap look (sym q) ∙ x.whole }
    | inr u ↦ record { stop = x.stop; kept = u; whole = x.whole }
  ]

  -- and what is kept within a part on which another source says the same, is kept there too
  module _ (look' piece' : P → Look P) (last : ℕ)
      (same_look : (x : Token) (i j : P) → look i ≡ found x j → last ≤ ahead j → look' i ≡ found x j)
      (same-piece : (x : Token) (i j : P) → piece i ≡ found x j → last ≤ ahead j → (T (eqb x.word (roto tests).hole) → last < ahead j) → piece' i ≡ found x j) where
    kept_on : {i m : P} → Kept (stream P look piece) (roto tests) i m → ahead m ≤ ahead i
    kept_on none = omega arith
    kept_on (more r k) = omega (arith, on (roto tests) (roto_full tests) (roto_solid tests) P look piece ahead tokens_take pieces_keep r, kept_on k)

    pub kept_within : {i m : P} → Kept (stream P look piece) (roto tests) i m → last ≤ ahead m → Kept (stream P look' piece') (roto tests) i m
    kept_within none h = none
    kept_within (more r k) h = more (within (roto tests) (roto_full tests) (roto_solid tests) P look piece ahead tokens_take pieces_keep look' piece' last same_look same-piece r tt (omega (arith, kept_on k, h))) (kept_within k h)
