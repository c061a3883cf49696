use Rattle.std.proofs.Common.{take}
use Rattle.psi_tables.specs.Crc.{IsCrcOf}
use Rattle.psi_tables.proofs.crc.crc32.Given as goal

abbrev pub invariant-loop-byte : goal.invariant-loop-byte
invariant-loop-byte l = IsCrcOf l.crc (take l.byte-index l.bytes)
