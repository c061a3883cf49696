-- The bits that all versions of a macroblock share.
use Rattle.std.specs.Prelude.{◌≡◌, ◌≤◌, ◌+◌, ◌^◌}
use Rattle.syntax_types.specs.declared.macroblock.Macroblock.{Macroblock}
use Rattle.syntax_types.specs.declared.picture.PicCoding.{PicCoding}
use Rattle.macroblock_writer.specs.Parts.{dc_length, motion_length}
use Rattle.version_maker.specs.declared.shared_bits.SharedBits.{SharedBits}
use Rattle.version_maker.specs.Private.Kinds.{AreKindBits, AreStayedBits}

-- these are the bits of motion and DC coefficients, which are few, of the types, and of all that is said where a macroblock stays as it is
pub record AreSharedBits (coding : PicCoding) (from : Macroblock) (bits : SharedBits) : Type 0 where
  pub motion_and_dc : bits.motion_and_dc ≡ motion_length coding from + dc_length coding from
  pub few : bits.motion_and_dc ≤ 2 ^ 15
  pub kinds : AreKindBits coding from.kind bits.kinds.neither bits.kinds.pattern bits.kinds.code bits.kinds.both
  pub stayed : AreStayedBits coding from bits.motion_and_dc bits.stayed.neither bits.stayed.pattern
