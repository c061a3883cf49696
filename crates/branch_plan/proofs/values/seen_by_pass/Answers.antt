use Rattle.std.proofs.Common.{◌≡◌, ◌≢◌, rules, sym, ap, ap₂, ◌∙◌}
use Rattle.buffer_windows.specs.Bounds.{bound_of_byte_value, each_has_left}
use Rattle.buffer_windows.specs.Values.{value_of_buffer_windows}
use Rattle.branch_plan.specs.declared.values.TheConstants.{UNKNOWN}
use Rattle.branch_plan.proofs.Valued.{none_known, seen_known}
use Rattle.branch_plan.proofs.values.seen_by_pass.Goals as goal

pub returns-then-each_has_left : goal.returns-then-each_has_left
returns-then-each_has_left c =
    let table = c.args.table.now in
    let has = sym (ap (each_has_left table) c.as_slice.ensures) ∙ sym c.each_has_left.ensures ∙ c.if-each_has_left.true in
    let value = c.value_of_windows-value.ensures ∙ ap₂ (value_of_buffer_windows table) c.as_slice-then-each_has_left.ensures c.as_slice-then-each_has_left-2.ensures.value in
    let bound : c.in_buffers.result.bound ≡ bound_of_byte_value c.value_of_windows-value.result = search rules in
    let kept : c.in_buffers.result.kept.parts ≢ UNKNOWN → c.in_buffers.result.kept.parts ≡ c.value_of_windows-value.result = search rules in
    (seen_known table c.args.fixed.now c.args.buffers.now c.value_of_windows-value.result c.in_buffers.result.bound has value bound, λ some. (has, kept some ∙ value))

pub returns-else-each_has_left : goal.returns-else-each_has_left
returns-else-each_has_left c =
    let table = c.args.table.now in
    none_known table c.args.fixed.now c.args.buffers.now (sym (ap (each_has_left table) c.as_slice.ensures) ∙ sym c.each_has_left.ensures ∙ c.if-each_has_left.false)
