use Rattle.std.proofs.Common.{sym, ◌∙◌, arith}
use Rattle.psi_tables.proofs.ProgramRows.{passed_none, passed_more, found_there, found_nowhere}
use Rattle.psi_tables.proofs.pat.find_pid.Goals as goal

pub loop-high-init : goal.loop-high-init
loop-high-init c = passed_none c.args.content.now c.args.number (λ i. omega (arith, c.type_inv.content i))

pub loop-high-preserved : goal.loop-high-preserved
loop-high-preserved c =
    let cases = c.in-Some.ensures.cases in
    passed_more c.args.content.now c.loop-high.rest.now c.in-Some.field-0-0.now c.in-Some.after.now c.args.number c.from_be_bytes.result
    c.loop-high.invariant cases.0 cases.1 (omega (arith, cases.2)) c.from_be_bytes.ensures c.if-from_be_bytes-number.false

pub returns-then-from_be_bytes-number : goal.returns-then-from_be_bytes-number
returns-then-from_be_bytes-number c = λ programs row.
    let cases = c.in-Some.ensures.cases in
    found_there c.args.content.now c.loop-high.rest.now c.in-Some.field-0-0.now c.in-Some.after.now c.args.number
    c.from_be_bytes-then-from_be_bytes-number.result programs c.loop-high.invariant row cases.0 cases.1 (omega (arith, cases.2))
    (sym c.if-from_be_bytes-number.true ∙ c.from_be_bytes.ensures) c.from_be_bytes-then-from_be_bytes-number.ensures

pub returns : goal.returns
returns c = λ programs row. found_nowhere c.args.content.now c.loop-high.rest.now c.args.number programs c.loop-high.invariant row c.in_default.ensures.cases
