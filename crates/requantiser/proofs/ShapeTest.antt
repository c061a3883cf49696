-- A test for the shape of a macroblock, for worked examples.
use Rattle.std.proofs.Common.{◌≡◌, ℕ, ◌<◌, unsigned_abs, Option, Some, None, List, [], ◌∷◌, Bool, true, false, refl, sym, ap, length}
use Rattle.std.specs.Prelude.{◌==◌, ◌&&◌, ◌||◌, not, is_some, slice_index_or, find}
use Rattle.std.specs.List.{range_with_len, list_all}
use Rattle.std.proofs.lemmas.Bool.{and_parts, not-true, eqb-true, eqb-false}
use Rattle.syntax_types.specs.declared.block.Block.{Block}
use Rattle.syntax_types.specs.declared.block.Dc.{Dc}
use Rattle.syntax_types.specs.declared.block.RunLevel.{RunLevel}
use Rattle.syntax_types.specs.declared.macroblock.TheConstants.{BLOCKS}
use Rattle.syntax_types.specs.declared.macroblock.Macroblock.{Macroblock}
use Rattle.picture_grammar.specs.Macroblock.{is_coded, no_block}
use Rattle.requantiser.specs.Private.Shapes.{BeginsWithLevel, HasShape}
use Rattle.requantiser.proofs.Ranges.{IsFirst, find-some, number_passes}

abbrev pub begins_with_level : List RunLevel → Bool
begins_with_level [] = false
begins_with_level (pair ∷ pairs) = not (unsigned_abs pair.level == 0)

abbrev pub has_no_dc : Option Dc → Bool
has_no_dc None = true
has_no_dc (Some dc) = false

abbrev pub block_test : Macroblock → ℕ → Bool
block_test m i =
    let block : Block = slice_index_or m.blocks i no_block in
    has_no_dc block.dc && (not (is_coded m.kind m.pattern i) || begins_with_level block.pairs.items)

abbrev pub shape_test : Macroblock → Bool
shape_test m = (length m.blocks == BLOCKS)
    && (m.kind.intra || (list_all (block_test m) (range_with_len 0 BLOCKS) && (not m.kind.pattern || is_some (find (λ i. is_coded m.kind m.pattern i) (range_with_len 0 BLOCKS)))))

no_dc_by : (dc : Option Dc) → has_no_dc dc ≡ true → dc ≡ None
no_dc_by None passes = refl
no_dc_by (Some dc) passes = absurd (cc)

begins_by : (pairs : List RunLevel) → begins_with_level pairs ≡ true → BeginsWithLevel pairs
begins_by [] passes = cc
begins_by (pair ∷ pairs) passes = λ zero. eqb-false (unsigned_abs pair.level) 0 (not-true _ passes) (ap unsigned_abs zero)

true_or : (a b : Bool) → (a || b) ≡ true → a ≡ false → b ≡ true
true_or true b either not_a = absurd (cc)
true_or false b either not_a = either

pub shape_by_test : (m : Macroblock) → shape_test m ≡ true → HasShape m
shape_by_test m passes = record {
  six = eqb-true (length m.blocks) BLOCKS parts.0;
  no_dc = λ non_intra i below. no_dc_by _ (and_parts _ _ (blocks non_intra i below)).0;
  begins = λ non_intra i below coded. begins_by _ (true_or _ _ (and_parts _ _ (blocks non_intra i below)).1 (ap not coded));
  some_coded = λ non_intra pattern. by_search (find (λ i. is_coded m.kind m.pattern i) (range_with_len 0 BLOCKS)) refl (true_or _ _ (and_parts _ _ (true_or _ _ parts.1 non_intra)).1 (ap not pattern));
}
  where
    parts : ((length m.blocks == BLOCKS) ≡ true)
        × ((m.kind.intra || (list_all (block_test m) (range_with_len 0 BLOCKS) && (not m.kind.pattern || is_some (find (λ i. is_coded m.kind m.pattern i) (range_with_len 0 BLOCKS))))) ≡ true)
    parts = and_parts _ _ passes

    blocks : m.kind.intra ≡ false → (i : ℕ) → i < BLOCKS → block_test m i ≡ true
    blocks non_intra i below = number_passes (block_test m) BLOCKS i below (and_parts _ _ (true_or _ _ parts.1 non_intra)).0

    by_search : (found : Option ℕ) → found ≡ find (λ i. is_coded m.kind m.pattern i) (range_with_len 0 BLOCKS) → is_some found ≡ true
        → (i : ℕ) × (i < BLOCKS) × (is_coded m.kind m.pattern i ≡ true)
    by_search None is some = absurd (cc)
    by_search (Some i) is some =
        let first : IsFirst (λ i. is_coded m.kind m.pattern i) 0 BLOCKS i = find-some (λ i. is_coded m.kind m.pattern i) 0 BLOCKS i (sym is) in
        (i, first.below, first.passes)
