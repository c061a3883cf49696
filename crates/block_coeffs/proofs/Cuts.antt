-- Where bits end within a code, and why nothing stands at bits that no code begins.
use Rattle.std.proofs.Common.{◌≡◌, ℕ, ◌≤◌, true, List, [], ◌∷◌, length, refl, sym, subst, inl, inr, arith}
use Rattle.std.proofs.lemmas.Bool.{and_parts}
use Rattle.bit_lists.specs.Bits.{IsPrefix}
use Rattle.bit_lists.proofs.PrefixLemmas.{IsPrefix-whole, IsPrefix-through, IsPrefix-self}
use Rattle.prefix_codes.specs.declared.table_name.TableName.{TableName}
use Rattle.prefix_codes.specs.TableName.{Begins}
use Rattle.prefix_codes.proofs.CoefficientLemmas.{IsCoefficients}
use Rattle.picture_grammar.specs.Refusal.Refusal.{TooMany, BadEscape}
use Rattle.picture_grammar.specs.Element.{Rule, rule, MayStand, Stands}
use Rattle.picture_grammar.specs.Block.{Coefficient, CoefficientCode, fits_in_block, is_level}
use Rattle.picture_grammar.proofs.Codes.{symbol_of, fronts}
use Rattle.block_coeffs.specs.declared.why.Why.TheVariants as why
use Rattle.grammar_reading.specs.declared.window.BitWindow.{BitWindow}
use Rattle.block_coeffs.specs.Private.Why.{rules_at, IsWhy}
use Rattle.block_coeffs.specs.Private.Cut.{BeginAllowed}
use Rattle.grammar_reading.specs.Cut.{BeginsCode}
use Rattle.grammar_reading.specs.Window.{seen, ShowsFront}
use Rattle.grammar_reading.proofs.Cuts.{begun-length, shows-all, shows-filled, seen-begins}
use Rattle.block_coeffs.proofs.Symbols.{length-code, symbol_fits-of, is_within-first, begun, NoCodeStands, may-begin}

-- ---- why nothing stands where no code begins

module _ {table : TableName} (is : IsCoefficients table) (place : ℕ) (window : BitWindow) (within : window.known ≤ 24)
    (none : (symbol len : ℕ) → Begins table (seen window window.known) symbol len → ⊥) (bits : List ℕ) (shows : ShowsFront window bits) where
  none_stands : NoCodeStands table bits
  none_stands s f listed p = none s (length f) (record {
    code = f;
    listed = listed;
    counted = refl;
    first = seen-begins window bits f (length-code s f is listed) shows p;
  })

  -- bits that fill the window begin no code
  no_long : window.known ≡ 24 → (s : ℕ) → BeginsCode table s bits → ⊥
  no_long full s b =
      let most : length b.code ≤ 24 = length-code s b.code is b.listed in
      let least : 24 ≤ length bits = shows-filled window bits full shows in
      let same : bits ≡ b.code = IsPrefix-whole bits b.code (omega (arith, begun-length bits b.code b.cut)) b.cut in
      none_stands s b.code b.listed (subst (IsPrefix b.code) (sym same) (IsPrefix-self b.code))

  pub why-full : window.known ≡ 24 → IsWhy table place why.NoCode bits
  why-full full = inl (λ m. no_long full (symbol_of m.value) (may-begin table bits none_stands [] m), refl)

  -- a coefficient that may stand there has a symbol that may
  allowed : (m : MayStand (CoefficientCode table) (rule TooMany (fits_in_block place) ∷ []) bits) → BeginAllowed table place bits
  allowed m = record {
    symbol = symbol_of m.value;
    fits = symbol_fits-of table place m.value m.code m.coded (and_parts (fits_in_block place m.value) true m.passing).0;
    begun = may-begin table bits none_stands (rule TooMany (fits_in_block place) ∷ []) m;
  }

  allowed-first : (m : MayStand (CoefficientCode table) [] bits) → BeginAllowed table 0 bits
  allowed-first m = record {
    symbol = symbol_of m.value;
    fits = symbol_fits-of table 0 m.value m.code m.coded (is_within-first table m.value m.code m.coded);
    begun = may-begin table bits none_stands [] m;
  }

  module _ (short : window.known ≡ 24 → ⊥) where
    all : bits ≡ seen window window.known
    all = shows-all window bits within short shows

    abbrev moved : (at : ℕ) → BeginAllowed table at (seen window window.known) → BeginAllowed table at bits
    moved at b = subst (BeginAllowed table at) (sym all) b

    no_stand : (rules : List (Rule Coefficient)) → Stands (CoefficientCode table) rules bits → ⊥
    no_stand rules s =
        let f = fronts table s.value s.code s.coded in
        none_stands (symbol_of s.value) f.0 f.1 (IsPrefix-through f.0 s.code bits f.2 s.first)

    pub why-end : BeginAllowed table place (seen window window.known) → IsWhy table place why.End bits
    why-end a =
        let b = begun place a.symbol (seen window window.known) is a.begun in
        inr (inr (
          record { value = b.value; code = b.code; coded = b.coded; passing = b.passing a.fits; agrees = inr (subst (λ x. IsPrefix x b.code) (sym all) b.cut) },
          no_stand (rules_at place),
          refl,
        ))

    pub why-too_many : (BeginAllowed table place (seen window window.known) → ⊥) → BeginAllowed table 0 (seen window window.known) → IsWhy table place why.TooMany bits
    why-too_many missing a =
        let b = begun 0 a.symbol (seen window window.known) is a.begun in
        inr (inl (record {
          before = [];
          broken = rule TooMany (fits_in_block place);
          after = rule BadEscape is_level ∷ [];
          order = refl;
          so_far = record { value = b.value; code = b.code; coded = b.coded; passing = refl; agrees = inr (subst (λ x. IsPrefix x b.code) (sym all) b.cut) };
          none = λ m. missing (subst (BeginAllowed table place) all (allowed m));
          named = refl;
        }))

    pub why-no_code : (BeginAllowed table 0 (seen window window.known) → ⊥) → IsWhy table place why.NoCode bits
    why-no_code missing = inl (λ m. missing (subst (BeginAllowed table 0) all (allowed-first m)), refl)
