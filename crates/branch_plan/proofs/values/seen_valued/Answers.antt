use Rattle.std.proofs.Common.{◌≡◌, rules}
use Rattle.buffer_windows.specs.Bounds.{bound_of_byte_value}
use Rattle.branch_plan.proofs.Valued.{seen_known}
use Rattle.branch_plan.proofs.values.seen_valued.Goals as goal

pub returns-in-Some : goal.returns-in-Some
returns-in-Some c =
    let kept = c.requires.kept c.in-Some.ensures.known in
    let bound : c.bound_of_value.result ≡ bound_of_byte_value c.args.kept.parts = search rules in
    (seen_known c.args.table.now c.args.fixed.now c.args.buffers.now c.args.kept.parts c.bound_of_value.result kept.0 kept.1 bound, c.requires.kept)
