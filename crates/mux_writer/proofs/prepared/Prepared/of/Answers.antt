use Rattle.mux_writer.proofs.Pids.{layout-counted}
use Rattle.mux_writer.proofs.prepared.Prepared.of.Goals as goal

pub returns : goal.returns
returns c = record {
  pat = c.pat_of.ensures;
  pmts = c.pmts_of.ensures;
  pids = c.pids_of.ensures.pids;
  few = c.pids_of.ensures.few;
  counted = layout-counted c.args.layout.now c.requires c.pids_of.ensures.few;
}
