use Rattle.std.proofs.Common.{Some, None, ap, ◌∙◌}
use Rattle.version_table.specs.declared.table.Unit.{Unit as CodedUnit}
use Rattle.dual_bounds.specs.Values.{least_cost}
use Rattle.branch_plan.proofs.Valued.{seen_fixed, time_fixed, valid_read}
use Rattle.branch_plan.proofs.values.values_with.Goals as goal

pub costs_in_time-in_time-requires-clause-valid : goal.costs_in_time-in_time-requires-clause-valid
costs_in_time-in_time-requires-clause-valid c = (valid_read c.args.table.now c.args.unit c.unit_at.result.now c.requires.valid c.requires.unit c.unit_at.ensures).versions

pub returns : goal.returns
returns c = λ fixed free size are.
    let table = c.args.table.now in
    let windows = c.args.windows.now.items in
    let least = c.costs_in_time-in_time.ensures.least ∙ ap (λ (u : CodedUnit). least_cost windows u None) c.unit_at.ensures in
    let own = c.costs_in_time-in_time.ensures.own ∙ ap (λ (u : CodedUnit). least_cost windows u (Some c.args.k)) c.unit_at.ensures in
    record {
      time = time_fixed table fixed windows c.args.unit c.args.k c.costs_in_time-in_time.result.least c.costs_in_time-in_time.result.own c.args.values.time c.with_costs.result free c.requires.unit size
          least own c.with_costs.ensures.known c.with_costs.ensures.value are.time;
      seen = seen_fixed table fixed c.args.buffers.now c.args.unit c.args.k c.costs_in_buffers-in_buffers.result.least c.costs_in_buffers-in_buffers.result.own c.args.values.seen
          c.with_costs-2.result free c.requires.unit size c.costs_in_buffers-in_buffers.ensures.least c.costs_in_buffers-in_buffers.ensures.own c.with_costs-2.ensures.known
          c.with_costs-2.ensures.value are.seen;
    }
