use Rattle.std.proofs.Common.{◌≡◌, length, sym, arith}
use Rattle.std.proofs.lemmas.Bool.{eqb-true, eqb-false}
use Rattle.std.proofs.lemmas.List.{nil_from_length}
use Rattle.version_table.proofs.Readers.{read_none, few_read, read_no_line, read_next, read_drafted, read_end, read_stands, read_shorter}
use Rattle.version_table.proofs.read.read_lines.Goals as goal

pub loop-rest-init : goal.loop-rest-init
loop-rest-init c = read_none c.args.text.now c.new-reader.result c.new-reader.ensures.lines c.new-reader.ensures.stage c.new-reader.ensures.limit c.new-reader.ensures.draft

pub overflow_add-result : goal.overflow_add-result
overflow_add-result c = omega (arith, few_read c.args.text.now c.loop-rest.reader c.loop-rest.rest.now c.loop-rest.invariant, c.requires)

pub returns-in_default-clause-refusal : goal.returns-in_default-clause-refusal
returns-in_default-clause-refusal c =
    let some = eqb-false (length c.loop-rest.rest.now) 0 (sym c.loop-rest-test.ensures) in
    read_no_line c.args.text.now c.loop-rest.reader c.loop-rest.rest.now c.requires c.loop-rest.invariant (omega arith) (sym c.in_default.ensures)

pub take-requires-clause-stands : goal.take-requires-clause-stands
take-requires-clause-stands c = read_stands c.loop-rest.reader.stage c.loop-rest.rest.now c.in-Some.behind.now c.in-Some.line (sym c.in-Some.ensures)

pub take-requires-clause-drafted : goal.take-requires-clause-drafted
take-requires-clause-drafted c = read_drafted c.args.text.now c.loop-rest.reader c.loop-rest.rest.now c.loop-rest.invariant

pub take-requires-clause-few : goal.take-requires-clause-few
take-requires-clause-few c =
    omega (
      arith,
      few_read c.args.text.now c.loop-rest.reader c.loop-rest.rest.now c.loop-rest.invariant,
      read_shorter c.loop-rest.reader.stage c.loop-rest.rest.now c.in-Some.behind.now c.in-Some.line (sym c.in-Some.ensures),
      c.requires,
    )

pub loop-rest-smaller : goal.loop-rest-smaller
loop-rest-smaller c = read_shorter c.loop-rest.reader.stage c.loop-rest.rest.now c.in-Some.behind.now c.in-Some.line (sym c.in-Some.ensures)

pub loop-rest-preserved : goal.loop-rest-preserved
loop-rest-preserved c =
    read_next c.args.text.now c.loop-rest.reader c.take.new.self c.loop-rest.rest.now c.in-Some.behind.now c.in-Some.line c.loop-rest.invariant (sym c.in-Some.ensures) c.in_ok-take.ensures

pub finish-requires-clause-drafted : goal.finish-requires-clause-drafted
finish-requires-clause-drafted c = read_drafted c.args.text.now c.loop-rest.reader c.loop-rest.rest.now c.loop-rest.invariant

pub finish-requires-clause-few : goal.finish-requires-clause-few
finish-requires-clause-few c = omega (arith, few_read c.args.text.now c.loop-rest.reader c.loop-rest.rest.now c.loop-rest.invariant, c.requires)

pub returns-clause-table : goal.returns-clause-table
returns-clause-table c =
    let none : length c.loop-rest.rest.now ≡ 0 = eqb-true (length c.loop-rest.rest.now) 0 (sym c.loop-rest-test.ensures) in
    (read_end c.args.text.now c.loop-rest.reader c.loop-rest.rest.now c.finish.result c.requires c.loop-rest.invariant (nil_from_length c.loop-rest.rest.now none) c.finish.ensures).table

pub returns-clause-refusal : goal.returns-clause-refusal
returns-clause-refusal c =
    let none : length c.loop-rest.rest.now ≡ 0 = eqb-true (length c.loop-rest.rest.now) 0 (sym c.loop-rest-test.ensures) in
    (read_end c.args.text.now c.loop-rest.reader c.loop-rest.rest.now c.finish.result c.requires c.loop-rest.invariant (nil_from_length c.loop-rest.rest.now none) c.finish.ensures).refusal
