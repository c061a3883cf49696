use Rattle.std.proofs.Common.{arith}
use Rattle.tstd_model.specs.declared.decoder_input.Arrival.{Arrival}
use Rattle.tstd_lists.proofs.Order.{rises}
use Rattle.tstd_lists.proofs.conditions.slots_rise.Goals as goal

pub returns : goal.returns
returns c = λ _. rises (λ (a : Arrival). a.slot_no) c.args.arrivals.now (record { slot_no = 0; header = 0; payload = 0 }) c.loop-i.i c.loop-i.invariant (omega arith)
