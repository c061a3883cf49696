-- How a unit's picture start code is looked for.
use Rattle.std.specs.Prelude.{◌≡◌, ◌⊎◌, ◌+◌, ◌≤◌, ◌<◌, ℕ, List}
use Rattle.stream_constants.specs.declared.start_codes.TheConstants.{GROUP, PICTURE}
use Rattle.stream_constants.specs.declared.start_codes.TheConstants.{GROUP_HEADER_BYTES}
use Rattle.picture_writer.specs.VbvDelay.{CodeStands, IsInGroup}

-- the first place behind the group of pictures header that begins there, or the one before where none does
abbrev pub IsBehindGroup : List ℕ → ℕ → ℕ → ℕ → Type 0
IsBehindGroup unit at before behind = (CodeStands GROUP unit at × (behind ≡ at + GROUP_HEADER_BYTES)) ⊎ ((¬ CodeStands GROUP unit at) × (behind ≡ before))

-- before a place: the last group of pictures header ends there, and each picture start code is in such a header
pub record IsScanned (unit : List ℕ) (at outside : ℕ) : Type 0 where
  pub groups : (group : ℕ) → group < at → CodeStands GROUP unit group → group + GROUP_HEADER_BYTES ≤ outside
  pub last : (outside ≡ 0) ⊎ ((group : ℕ) × (group < at) × CodeStands GROUP unit group × (outside ≡ group + GROUP_HEADER_BYTES))
  pub none : (earlier : ℕ) → earlier < at → CodeStands PICTURE unit earlier → IsInGroup unit earlier
