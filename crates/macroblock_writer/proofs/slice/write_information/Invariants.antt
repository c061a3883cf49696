use Rattle.std.proofs.Common.{◌≡◌, ℕ, List, Ok, ◌++◌, drop}
use Rattle.std.specs.List.{flat_map}
use Rattle.bit_cursor.specs.BitWriter.{Writes}
use Rattle.macroblock_writer.specs.Private.Writing.{written_byte}
use Rattle.macroblock_writer.proofs.slice.write_information.Given as goal

abbrev pub invariant-loop-byte : goal.invariant-loop-byte
invariant-loop-byte g l = record {
  done : List ℕ;
  put : Writes g.K.Sink.written g.K.Sink.faults g.K.Sink.keeps l.fn.to l.to (Ok (tt {0})) done;
  rest : done ++ flat_map written_byte (drop l.byte-index l.bytes) ≡ flat_map written_byte l.bytes;
}
