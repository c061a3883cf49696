use Rattle.branch_plan.proofs.Valued.{valid_read}
use Rattle.branch_plan.proofs.values.costs_in_buffers.Goals as goal

pub unit_cost-requires-clause-valid : goal.unit_cost-requires-clause-valid
unit_cost-requires-clause-valid c = valid_read c.args.table.now c.args.unit c.unit_at-coded.result.now c.requires.valid c.requires.unit c.unit_at-coded.ensures

pub unit_cost-requires-2-clause-valid : goal.unit_cost-requires-2-clause-valid
unit_cost-requires-2-clause-valid c = valid_read c.args.table.now c.args.unit c.unit_at-coded.result.now c.requires.valid c.requires.unit c.unit_at-coded.ensures
