use Rattle.std.proofs.Common.{◌-◌, ◌^◌, ◌<◌, ◌≤◌, get_or, sym, ◌∙◌, arith}
use Rattle.std.specs.Char.{digit_value}
use Rattle.std.proofs.NetLemmas.Numbers.{read_number_some_at, read_number_empty}
use Rattle.version_table.proofs.Numbers.{one_more, too_large, no_digit_at}
use Rattle.version_table.proofs.reading.digits_at.Goals as goal
use Rattle.version_table.proofs.reading.digits_at.Goals.{then-loop-len-test+else-is_ascii_digit, else-loop-len-test}

pub returns-in_err-checked_mul-clause-value : goal.returns-in_err-checked_mul-clause-value
returns-in_err-checked_mul-clause-value c =
    c.from_residual.ensures ∙ sym (too_large c.args.text.now c.loop-len.len c.loop-len.value c.loop-len-test.true c.loop-len.invariant.digits
    c.loop-len.invariant.value c.if-is_ascii_digit.ensures.cases (omega (arith, c.in_err-checked_mul.ensures)))

pub returns-in_err-value-clause-value : goal.returns-in_err-value-clause-value
returns-in_err-value-clause-value c =
    c.from_residual-in_err-value.ensures ∙ sym (too_large c.args.text.now c.loop-len.len c.loop-len.value c.loop-len-test.true
    c.loop-len.invariant.digits c.loop-len.invariant.value c.if-is_ascii_digit.ensures.cases
    (omega (arith, c.in_err-value.ensures, c.in_ok-checked_mul.ensures)))

pub loop-len-preserved : goal.loop-len-preserved
loop-len-preserved c =
    let more = one_more c.args.text.now c.loop-len.len c.loop-len-test.true c.loop-len.invariant.digits c.if-is_ascii_digit.ensures.cases in
    record {
      within = omega (arith, c.loop-len-test.true);
      digits = more.digits;
      value = omega (arith, more.value, c.in_ok-value.ensures, c.in_ok-checked_mul.ensures);
      fits = omega (arith, c.in_ok-value.ensures);
    }

pub returns-then-len-eq0-clause-value : goal.returns-then-len-eq0-clause-value
returns-then-len-eq0-clause-value c =
    let stop : 10 ≤ digit_value (get_or c.args.text.now c.loop-len.len 0) = elim c.loop-len-test.branch [
      | then-loop-len-test+else-is_ascii_digit w ↦ no_digit_at c.args.text.now c.loop-len.len (λ lt digit. grind (arith, w.if-is_ascii_digit.ensures.cases))
      | else-loop-len-test w ↦ no_digit_at c.args.text.now c.loop-len.len (λ lt digit. omega (arith, w.loop-len-test.false))
    ] in
    let zero_is = c.if-len-eq0.true in
    sym (read_number_empty 10 (2 ^ 64 - 1) c.args.text.now (rw zero_is at stop))

pub returns-clause-value : goal.returns-clause-value
returns-clause-value c =
    let stop : 10 ≤ digit_value (get_or c.args.text.now c.loop-len.len 0) = elim c.loop-len-test.branch [
      | then-loop-len-test+else-is_ascii_digit w ↦ no_digit_at c.args.text.now c.loop-len.len (λ lt digit. grind (arith, w.if-is_ascii_digit.ensures.cases))
      | else-loop-len-test w ↦ no_digit_at c.args.text.now c.loop-len.len (λ lt digit. omega (arith, w.loop-len-test.false))
    ] in
    let some : 0 < c.loop-len.len = omega (arith, c.if-len-eq0.false) in
    let value_is = c.loop-len.invariant.value in
    rw value_is (sym (read_number_some_at 10 (2 ^ 64 - 1) c.args.text.now c.loop-len.len some c.loop-len.invariant.within c.loop-len.invariant.digits (omega arith) stop))
