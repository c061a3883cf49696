use Rattle.std.proofs.Common.{◌-◌, ◌^◌}
use Rattle.bit_cursor.specs.BitReader.{place}
use Rattle.picture_grammar.specs.Slice.{extra_information}
use Rattle.macroblock_reader.specs.Private.Answers.{Listed}
use Rattle.macroblock_reader.proofs.head.read_information.Given as goal

abbrev pub invariant-bytes : goal.invariant-bytes
invariant-bytes g l = Listed extra_information l.bytes l.fn.from l.from

abbrev pub decreases-bytes : goal.decreases-bytes
decreases-bytes g l = 2 ^ 64 - place l.from
