use Rattle.std.proofs.Common.{List, [], refl}
use Rattle.bit_lists.specs.Payload.{Payload}
use Rattle.ts_demux.proofs.section_reader.SectionReader.new.Goals as goal

pub returns : goal.returns
returns c = record {
  packets = c.new.ensures;
  given = [];
  in_turn = record { all = λ (later : List Payload). rw c.new-2.ensures.empty refl };
  waiting_is = c.new-2.ensures.nothing_waits;
}
