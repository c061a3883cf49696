use Rattle.std.proofs.Common.{◌≡◌, ◌<◌, ◌∙◌, ℕ, sym, ap, arith}
use Rattle.requantiser.specs.Private.Lengths.{table_number}
use Rattle.requantiser.proofs.Counted.{later_number}
use Rattle.requantiser.proofs.code_lengths.table_at.Goals as goal

pub returns-then-place-eq0-clause-value : goal.returns-then-place-eq0-clause-value
returns-then-place-eq0-clause-value c = λ way first later.
    let start : ◌≡◌ {A = ℕ} c.args.place 0 = omega (arith, c.if-place-eq0.true) in
    first ∙ ap (table_number way) (sym start)

pub returns-clause-value : goal.returns-clause-value
returns-clause-value c = λ way first later. later ∙ later_number way c.args.place (omega (arith, c.if-place-eq0.false))
