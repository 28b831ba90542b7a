-- A token that is a row; a path, from item to item.
use Rattle.std.specs.Prelude.{Ok, Err}
use mathlib.Core.Path.{◌≡◌, refl, sym, subst}
use mathlib.Core.List.{List, [], ◌∷◌}
use mathlib.Core.Option.{Option, none, some}
use Prim.Native.Nat.{ℕ, ◌+◌, ◌≤◌, ◌<◌}
use lib.Dec.{T}
use lib.ListN.{length}
use native.Mathlib.Omega.{arith}
use Rattle.rows.specs.Kinds as kinds
use Rattle.tokens.specs.declared.Refusal.{Refusal}
use Rattle.rows.specs.declared.Row.{Row}
use Rattle.grammar.specs.Words.{dot}
use Rattle.grammar.specs.Grammar.{Symbol, plain, one_of}
use Rattle.grammar.specs.Limits.{Counts, after, inside, kept}
use Rattle.grammar.specs.Table.{one, a, row}
use Rattle.grammar.specs.Kinds.{PATH_ITEM, PATH, PATH_REST}
use Rattle.grammar.proofs.Summary.{or_word}
use Rattle.parser.specs.declared.Here.{Here}
use Rattle.parser.specs.declared.Node.{Node}
use Rattle.parser.specs.Results.{Read}
use Rattle.parser.specs.Places.{word_of, end_of, next_of, passed, later, unused, node_of, put_over, plain_row}
use Rattle.parser.specs.Going.{Stands, many, Phrase, Going, Answers}
use Rattle.parser.proofs.Standing.{next_small, solid, past_word, is_word, the_word}
use Rattle.parser.proofs.Going.{at, takes, out, last, alone, writes, reads_one, ends, refuses_word, done, stopped, whole_of, relays, as_many, fewer}
use Rattle.parser.proofs.Picks.{Off, begins_any, into_on, into_off}
use Rattle.promises.specs.Firsts.{undotted}
use Rattle.promises.specs.Promises.{the, item_row, wrote, Anyhow}
use Rattle.promises.proofs.Answered.{further, put_behind}
use Rattle.promises.proofs.Alternatives.{path_any, path_rest_on, path_rest_off}

-- a token that is a row of kind 1, whatever the kind and its words
module _ {n : ℕ} {w : List ℕ} (p : Off n (some (one w ∷ row kinds.NAME ∷ [])) []) (s : List ℕ) (d : Counts) (h : Here) (t : List ℕ) (g : Stands s h) where
  pub item_read : {r : Read} {t' : List ℕ} → T (solid w) → T (one_of (word_of h) w) → r ≡ wrote s h (item_row h) → t' ≡ put_over t h (item_row h) h.rows → Answers (the s d n h t) 3 r t'
  unfolding kept
  item_read o m e q = done e (ends (out (writes (takes (begins_any p g) o m tt refl) refl refl refl refl (put_behind s h t (item_row h) h.rows q))) refl refl refl)

  pub item_refused : {r : Read} → (T (one_of (word_of h) w) → ⊥) → r ≡ unused h → Answers (the s d n h t) 3 r t
  item_refused m e = stopped e (refuses_word (begins_any p g) m)

abbrev path_row : ℕ → ℕ → ℕ → Row
path_row a e c = plain_row kinds.PATH a e c

abbrev item_symbol : Symbol
item_symbol = a PATH_ITEM

abbrev rest_symbol : Symbol
rest_symbol = a PATH_REST

-- a path that was begun: behind an item of it
pub record Begun (f : Phrase) (start end children : ℕ) (h : Here) (t : List ℕ) : Type 0 where
  pub counts : Counts
  pub sign : Option ℕ
  pub going : Going f (at counts (a PATH_REST ∷ []) ∷ at f.counts (row kinds.PATH ∷ []) ∷ []) h t (many start end children sign) 0 3

module _ (s : List ℕ) (i : Here) (t₀ : List ℕ) (d : Counts) where
  abbrev Path : Phrase
  Path = the s d PATH i t₀

  module _ (g : Stands s i) {r : Read} {t : List ℕ} (u : Anyhow s PATH_ITEM i t₀ 3 r t) where
    pub path_begins : {m : Node} {h : Here} → r ≡ Ok (m, h) → Begun Path m.start m.end 1 h t
    unfolding inside
    path_begins e = record { counts = d; sign = none; going = as_many (alone (reads_one (begins_any path_any g) refl refl (whole_of (u d) e))) }

    pub path_refused : {e : Refusal} → r ≡ Err e → Answers Path 2 r t
    unfolding inside
    path_refused e = relays (begins_any path_any g) refl (u d) e

  module _ {a e c : ℕ} {h : Here} {t : List ℕ} (b : Begun Path a e c h t) where
    module _ {h' : Here} (m : word_of h ≡ 49) (p : h' ≡ passed s h) where
      behind : Going Path (at (after plain b.counts) (item_symbol ∷ rest_symbol ∷ []) ∷ at b.counts [] ∷ at d (row kinds.PATH ∷ []) ∷ []) h' t (many a (end_of h) c (or_word b.sign (word_of h))) 0 7
      unfolding inside kept
      behind = takes (into_on path_rest_on refl (is_word m) b.going) tt (is_word m) tt p

      pub path_more : {r : Read} {t' : List ℕ} {x : Node} {z : Here} → Anyhow s PATH_ITEM h' t 3 r t' → r ≡ Ok (x, z) → Begun Path a x.end (c + 1) z t'
      unfolding inside
      path_more u q = record { counts = after plain b.counts; sign = or_word b.sign (word_of h); going = fewer 3 (omega arith) (last (reads_one behind refl refl (whole_of (u (after plain b.counts)) q))) }

      pub path_fails : {r : Read} {t' : List ℕ} {x : Refusal} → Anyhow s PATH_ITEM h' t 3 r t' → r ≡ Err x → Answers Path 2 r t'
      unfolding inside
      path_fails u q = relays behind refl (u (after plain b.counts)) q

      -- it went on, and stays within the source
      pub path_onward : {r : Read} {t' : List ℕ} {x : Node} {z : Here} → Anyhow s PATH_ITEM h' t 3 r t' → r ≡ Ok (x, z) → (next_of h < next_of z) × (next_of z ≤ length s + 1)
      path_onward u q =
          let a = past_word (dot ∷ []) b.going.stands tt (is_word m) p in
          let k = further (u d) q in
          let i = a.1 in
          let j = k.next in
          (omega (arith, i, j), next_small k.stands)

    pub path_ends : {r : Read} {t' : List ℕ} → (word_of h ≡ 49 → ⊥) → r ≡ Ok (node_of (path_row a e c), later h) → t' ≡ put_over t h (path_row a e c) i.rows → Answers Path 2 r t'
    unfolding inside
    path_ends n q p = done q (ends (out (writes (out (out (into_off path_rest_off refl (λ x. n (the_word x)) b.going))) refl refl refl refl p)) refl refl refl)

-- from where the loop began
abbrev pub Goes : List ℕ → ℕ → ℕ → ℕ → Here → List ℕ → ℕ → ℕ → Here → List ℕ → Type 0
Goes s a e₀ c₀ h₀ t₀ e c h t = (d : Counts) (i : Here) (t' : List ℕ) → Begun (the s d PATH i t') a e₀ c₀ h₀ t₀ → Begun (the s d PATH i t') a e c h t

-- no `.` stands behind a path
pub undotted_refused : {r : Read} {e : Refusal} → r ≡ Err e → undotted r
undotted_refused e = subst undotted (sym e) tt

pub undotted_done : {r : Read} {m : Node} {h : Here} → r ≡ Ok (m, h) → (word_of h ≡ 49 → ⊥) → undotted r
undotted_done e n = subst undotted (sym e) n
