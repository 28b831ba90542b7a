-- Over bytes: the rows of an accepted source are the trees of its reading, and no row stands bare where it needs a pair.
use Rattle.std.specs.Prelude.{Some, None, Ok, Err}
use mathlib.Core.Path.{◌≡◌, subst}
use mathlib.Core.List.{List, []}
use mathlib.Core.Bool.{Bool, true, false, cond}
use Prim.Native.Nat.{ℕ}
use lib.Dec.{T, eqb}
use lib.ListN.{length}
use lib.Seq.{slice}
use native.Mathlib.Omega.{arith}
use Rattle.chars.specs.Texts.{bytes, same}
use Rattle.rows.specs.Kinds as kinds
use Rattle.tokens.specs.declared.Refusal.{Refusal}
use Rattle.tokens.specs.Results.{Step}
use Rattle.tokens.specs.Words.{code_of}
use Rattle.tokens.specs.Tokens.{step_at}
use Rattle.numbers.specs.Results.{Number}
use Rattle.numbers.specs.Results.{Written}
use Rattle.numbers.specs.declared.Amount.{Amount}
use Rattle.numbers.specs.Numbers.{integer_of, float_of, hex_of, as_of}
use Rattle.addresses.specs.Results.{Quad}
use Rattle.addresses.specs.Results.{Address}
use Rattle.addresses.specs.Addresses.{quad_of, wide_of}
use Rattle.strings.specs.Results.{Size}
use Rattle.strings.specs.Results.{Point}
use Rattle.strings.specs.Strings.{size_of, char_of}
use Rattle.texts.specs.Results.{Scanned}
use Rattle.texts.specs.declared.Part.{Part}
use Rattle.texts.specs.declared.Part.TheVariants.{Before, Ends}
use Rattle.texts.specs.Parts.{part_at}
use Rattle.texts.specs.Texts.{text_of}
use Rattle.values.specs.Results.{Worth}
use Rattle.values.specs.Literals.{from_amount, from_number, from_quad, from_address, from_size, from_point, bool_of, literal_of}
use Rattle.grammar.specs.Words.{f_quote, text_then_hole, last_text}
use Rattle.grammar.specs.Grammar.{Token, found, Parts, one_of}
use Rattle.grammar.specs.Readings.{Text}
use Rattle.grammar.specs.Rows.{rows}
use Rattle.grammar.specs.Language.{roto, goal}
use Rattle.answers.specs.Demands.{ByRules}
use Rattle.answers.specs.Source.{kind_of, token_for, look_after, look_of, text_token, piece_of, source}
use Rattle.canon.specs.Trees.{tree_of}
use Rattle.forests.specs.Planted.{marked, forest}
use Rattle.forests.specs.Met.{Met}
use Rattle.forests.proofs.Stands.{literal_kinds}
use Rattle.forests.proofs.Table.{K}
use Rattle.forests.proofs.Fits.{bare_fits, bare_fits_by, reading_grows}

abbrev Kind : Worth → Type 0
Kind l = T (one_of (kind_of l) literal_kinds)

kind_either : (b : Bool) (x y : Worth) → Kind x → Kind y → Kind (cond b x y)
kind_either true x y h k = h
kind_either false x y h k = k

from_address_lem : (a : Address) → Kind (from_address a)
from_address_lem (Some x) = tt
from_address_lem None = tt

from_quad_lem : (q : Quad) → Kind (from_quad q)
from_quad_lem (Some v) = tt
from_quad_lem None = tt

from_as : (n : Number) → Kind (from_number kinds.ASN n)
from_as (Some (v, n)) = tt
from_as None = tt

from_hex : (n : Number) → Kind (from_number kinds.INTEGER n)
from_hex (Some (v, n)) = tt
from_hex None = tt

from_amount_lem : (a : Written) → Kind (from_amount a)
from_amount_lem (Some (Amount.Integer v n)) = tt
from_amount_lem (Some (Amount.Float n)) = tt
from_amount_lem None = tt

from_size_lem : (z : Size) → Kind (from_size z)
from_size_lem (Some n) = tt
from_size_lem None = tt

from_point_lem : (p : Point) → Kind (from_point p)
from_point_lem (Some c) = tt
from_point_lem None = tt

from_bool : (text : List ℕ) → Kind (bool_of text)
unfolding bool_of
from_bool text = kind_either (same text (bytes "true")) (Some (record { kind = kinds.BOOL; value = 1; detail = 0 })) (cond (same text (bytes "false")) (Some (record { kind = kinds.BOOL; value = 0; detail = 0 })) None) tt (kind_either (same text (bytes "false")) (Some (record { kind = kinds.BOOL; value = 0; detail = 0 })) None tt tt)

-- the kind of a literal's row
literal_kind : (c : ℕ) (text : List ℕ) → Kind (literal_of c text)
unfolding literal_of
literal_kind c text =
    let k12 = cond (eqb c 12) (bool_of text) None in
    let k10 = cond (eqb c 10) (from_point (char_of text)) k12 in
    let k9 = cond (eqb c 9) (from_size (size_of text)) k10 in
    let k8 = cond (eqb c 8) (from_amount (float_of text)) k9 in
    let k7 = cond (eqb c 7) (from_amount (integer_of text)) k8 in
    let k6 = cond (eqb c 6) (from_number kinds.INTEGER (hex_of text)) k7 in
    let k5 = cond (eqb c 5) (from_number kinds.ASN (as_of text)) k6 in
    let k2 = cond (eqb c 2) (from_quad (quad_of text)) k5 in
    kind_either (eqb c 1) (from_address (wide_of text)) k2 (from_address_lem (wide_of text))
    (kind_either (eqb c 2) (from_quad (quad_of text)) k5 (from_quad_lem (quad_of text))
    (kind_either (eqb c 5) (from_number kinds.ASN (as_of text)) k6 (from_as (as_of text))
    (kind_either (eqb c 6) (from_number kinds.INTEGER (hex_of text)) k7 (from_hex (hex_of text))
    (kind_either (eqb c 7) (from_amount (integer_of text)) k8 (from_amount_lem (integer_of text))
    (kind_either (eqb c 8) (from_amount (float_of text)) k9 (from_amount_lem (float_of text))
    (kind_either (eqb c 9) (from_size (size_of text)) k10 (from_size_lem (size_of text))
    (kind_either (eqb c 10) (from_point (char_of text)) k12 (from_point_lem (char_of text))
    (kind_either (eqb c 12) (bool_of text) None (from_bool text) tt))))))))

module _ (s : List ℕ) where
  after_known : (x : Token) (j : ℕ) (c q : Bool) (r : Refusal) → look_after c q r ≡ found x j → K x
  after_known x j true q r e = let z : ◌≡◌ {A = ℕ} 0 1 = cc in absurd (omega arith)
  after_known x j false true r e = let y : token_for f_quote r.start r.end None ≡ x = cc in subst K y tt
  after_known x j false false r e = let z : ◌≡◌ {A = ℕ} 0 1 = cc in absurd (omega arith)

  step_known : (x : Token) (j : ℕ) (k : Step) → look_of s k ≡ found x j → K x
  step_known x j (Ok (w, a, next)) e =
      let y : token_for w a next.at (literal_of (code_of w) (slice a next.at s)) ≡ x = cc in
      subst K y (literal_kind (code_of w) (slice a next.at s))
  step_known x j (Err r) e = after_known x j (eqb r.number 11) (eqb r.number 5) r e

  pub looks_known : (i j : ℕ) (x : Token) → (source s).look i ≡ found x j → K x
  looks_known i j x e = step_known x j (step_at s i) e

  text_known : (w a e : ℕ) (z : Size) → K (text_token w a e z)
  text_known w a e (Some n) = tt
  text_known w a e None = tt

  part_known : (x : Token) (i j : ℕ) (k : Scanned) → piece_of s i k ≡ found x j → K x
  part_known x i j (Some (Before e)) q = let y : text_token text_then_hole i e (text_of (slice i e s)) ≡ x = cc in subst K y (text_known text_then_hole i e (text_of (slice i e s)))
  part_known x i j (Some (Ends e)) q = let y : text_token last_text i e (text_of (slice i e s)) ≡ x = cc in subst K y (text_known last_text i e (text_of (slice i e s)))
  part_known x i j None q = let z : ◌≡◌ {A = ℕ} 0 1 = cc in absurd (omega arith)

  pub pieces_known : (i j : ℕ) (x : Token) → (source s).piece i ≡ found x j → K x
  pieces_known i j x e = part_known x i j (part_at s i) e

  module _ (tests tree : Bool) {p : Parts} (t : Text (source s) (roto tests) (goal tree) 0 p) where
    -- the rows of a source's reading, grown, are the trees that it leaves
    pub source_grows : tree_of s (rows tree (length s) p) ≡ forest s tree p
    source_grows = reading_grows s tests (source s) looks_known pieces_known tree (length s) t

    -- and a row that stands without a pair needs none
    pub source_fits : Met [] (marked s tree p)
    source_fits = bare_fits s tests (source s) looks_known pieces_known tree t

  -- so by the rules alone, whatever limit the source passes
  pub rules_fit : (tests tree : Bool) {p : Parts} → ByRules tests tree s p → Met [] (marked s tree p)
  rules_fit tests tree t = bare_fits_by s tests (source s) looks_known pieces_known tree t.reads
