use Rattle.std.proofs.Common.{arith}
use Rattle.tstd_model.specs.declared.decoder_input.Removal.{Removal}
use Rattle.tstd_lists.proofs.Order.{keeps_order}
use Rattle.tstd_lists.proofs.conditions.dues_rise.Goals as goal

pub returns : goal.returns
returns c = λ _. keeps_order (λ (r : Removal). r.due) c.args.removals.now (record { due = 0; bytes = 0 }) c.loop-i.i c.loop-i.invariant (omega arith)
