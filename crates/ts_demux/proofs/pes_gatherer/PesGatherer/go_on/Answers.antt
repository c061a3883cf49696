use Rattle.ts_demux.proofs.Gathering.{goes_on}
use Rattle.ts_demux.proofs.pes_gatherer.PesGatherer.go_on.Goals as goal

pub returns-clause-ok : goal.returns-clause-ok
returns-clause-ok c = goes_on c.args.self.now.whole.items c.args.self.now.begun c.in-Some.field-0 c.args.self.now.bytes.items
    c.extend_from_slice.new.self.items c.args.payload.now c.in-Some.is c.in_ok-extend_from_slice.ensures.items
