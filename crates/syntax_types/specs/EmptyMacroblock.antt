-- The macroblock that says nothing.
use Rattle.std.specs.Prelude.{None, [], false, replicate}
use Rattle.syntax_types.specs.declared.macroblock.TheConstants.{BLOCKS, FRAME_BASED}
use Rattle.syntax_types.specs.declared.macroblock.Macroblock.{Macroblock}

-- a macroblock with none skipped before it, no vector and no coefficient
abbrev pub empty_macroblock : Macroblock
empty_macroblock = record {
  skipped_before = 0;
  kind = record { quant = false; forward = false; backward = false; pattern = false; intra = false };
  motion_type = FRAME_BASED;
  field_dct = false;
  code = None;
  forward = record { items = [] };
  backward = record { items = [] };
  pattern = 0;
  blocks = replicate BLOCKS (record { dc = None; pairs = record { items = [] } });
}
