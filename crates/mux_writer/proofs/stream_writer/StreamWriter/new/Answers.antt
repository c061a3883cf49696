use Rattle.std.proofs.Common.{[], length, sym, subst, ap, ◌∙◌, arith}
use Rattle.mux_writer.specs.Private.Writer.{CountersAre}
use Rattle.mux_writer.proofs.Counting.{counters-begin}
use Rattle.mux_writer.proofs.stream_writer.StreamWriter.new.Goals as goal

pub invariant_of-result : goal.invariant_of-result
invariant_of-result c = record {
  layout = c.requires.layout;
  slot = c.requires.slot_most;
  slots = ap length c.as_slice.ensures ∙ c.requires.slots;
  within = omega arith;
  prepared = c.of.ensures;
  counters = subst (CountersAre c.args.layout.now []) (sym c.new.ensures) (counters-begin c.args.layout.now);
}
