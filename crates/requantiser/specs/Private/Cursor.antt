-- Where a walk over the addresses of a picture stands: the code in force, the address behind the last macroblock, the
-- macroblocks of the slice that are left, and the slices behind it.
use Rattle.std.specs.Prelude.{◌≡◌, ◌<◌, ◌≤◌, ◌+◌, ◌-◌, ◌*◌, ◌^◌, ℕ, find, Option, Some, None, List, [], ◌∷◌, unwrap_or, nat_le, if◌then◌else◌}
use Rattle.std.specs.Option.{option_map_or}
use Rattle.std.specs.List.{AllByRecursion, sum_by}
use Rattle.quant_math.specs.Scales.{IsCode}
use Rattle.syntax_types.specs.declared.macroblock.Macroblock.{Macroblock}
use Rattle.syntax_types.specs.declared.picture.Picture.{Picture}
use Rattle.syntax_types.specs.declared.picture.SeqState.{SeqState}
use Rattle.syntax_types.specs.declared.slice.Slice.{Slice}
use Rattle.picture_grammar.specs.Picture.{first_column, rows}
use Rattle.picture_grammar.specs.Slice.{columns}
use Rattle.requantiser.specs.Distortion.{has_address}
use Rattle.requantiser.specs.Levels.{HasWeights}
use Rattle.requantiser.specs.Places.{item_at}
use Rattle.requantiser.specs.Private.Shapes.{AreWalkable, IsWalkableSlice}
use Rattle.requantiser.specs.Slices.{macroblock_at, code_at, end_column}

-- the code in force, and the macroblock, where one stands at an address
pub record AtAddress : Type 0 where
  pub code : ℕ
  pub macroblock : Option Macroblock

-- what a slice has at an address
abbrev pub at_slice : SeqState → ℕ → Slice → AtAddress
at_slice seq address slice = record {
  code = code_at slice (address - slice.row * columns seq);
  macroblock = macroblock_at slice (address - slice.row * columns seq);
}

-- what stands where a macroblock is skipped; its code counts for no_macroblock
abbrev pub no_macroblock : AtAddress
no_macroblock = record { code = 1; macroblock = None }

-- what these slices have at an address
abbrev pub at_slices : SeqState → List Slice → ℕ → AtAddress
at_slices seq slices address = option_map_or (at_slice seq address) (find (has_address seq address) slices) no_macroblock

-- the code in force before a place
abbrev pub code_before_place : ℕ → ℕ → List Macroblock → ℕ → ℕ
code_before_place code start [] place = code
code_before_place code start (m ∷ ms) place =
    if nat_le place (start + m.skipped_before) then code else code_before_place (unwrap_or m.code code) (start + m.skipped_before + 1) ms place

-- the macroblock that was found, else what these slices have
abbrev pub or_slices : SeqState → List Slice → ℕ → ℕ → Option Macroblock → AtAddress
or_slices seq slices address code (Some m) = record { code = unwrap_or m.code code; macroblock = Some m }
or_slices seq slices address code None = at_slices seq slices address

-- what these macroblocks, and else the slices behind them, have at an address
abbrev pub at_rest : SeqState → ℕ → ℕ → List Macroblock → List Slice → ℕ → AtAddress
at_rest seq code start macroblocks slices address =
    or_slices seq slices address (code_before_place code start macroblocks address) (item_at (λ m. m.skipped_before) start macroblocks address)

-- the slices hold all addresses from one up to another, in order
abbrev pub AreInOrder : ℕ → ℕ → ℕ → List Slice → Type 0
AreInOrder width from end [] = from ≡ end
AreInOrder width from end (s ∷ ss) =
    (from ≡ s.row * width + first_column s.macroblocks) × (first_column s.macroblocks < end_column s) × AreInOrder width (s.row * width + end_column s) end ss

-- the next macroblock doesn't stand before an address
abbrev pub IsAhead : ℕ → ℕ → List Macroblock → Type 0
IsAhead address start [] = address ≡ start
IsAhead address start (m ∷ ms) = (start ≤ address) × (address ≤ start + m.skipped_before)

-- a walk over a picture, behind all addresses before this one, stands here: what is left has what the picture has from here on
pub record StandsAt (picture : Picture) (address code start : ℕ) (macroblocks : List Macroblock) (slices : List Slice) : Type 0 where
  pub few : rows picture.seq picture.coding * columns picture.seq ≤ 2 ^ 19
  pub weights : HasWeights picture.seq
  pub code_is : IsCode code
  pub walkable : AreWalkable macroblocks
  pub later : AllByRecursion (IsWalkableSlice (columns picture.seq)) slices
  pub order : AreInOrder (columns picture.seq) (start + sum_by (λ m. m.skipped_before + 1) macroblocks) (rows picture.seq picture.coding * columns picture.seq) slices
  pub ahead : IsAhead address start macroblocks
  pub same : (b : ℕ) → address ≤ b → at_slices picture.seq picture.slices b ≡ at_rest picture.seq code start macroblocks slices b
