use Rattle.std.proofs.Common.{refl}
use Rattle.ts_demux.proofs.SectionLemmas.{reads_next, reads_fewer}
use Rattle.ts_demux.proofs.section_reader.SectionReader.next.Goals as goal

pub returns-clause-read : goal.returns-clause-read
returns-clause-read c before waiting waits =
    reads_next before waiting c.pull.result c.args.self.now (record { packets = c.args.self.now.packets; builder = c.pull.new.self })
    c.pull.ensures.none c.pull.ensures.unchanged c.pull.ensures.found c.sections_in_turn.ensures.pulled refl waits

pub returns-clause-fewer : goal.returns-clause-fewer
returns-clause-fewer c = reads_fewer c.pull.result c.args.self.now.builder c.pull.new.self c.pull.ensures.found c.sections_in_turn.ensures.fewer
