use Rattle.std.proofs.Common.{◌-◌, ◌/◌, ◌≤◌, ap, arith}
use Rattle.cost_steps.proofs.Lines.{cross-before}
use Rattle.cost_steps.proofs.steps.crossing.Goals as goal

pub returns-clause-before : goal.returns-clause-before
returns-clause-before c = λ price less fewer.
    let same = ap (λ n. (c.args.other.rise - c.args.line.rise) / n) c.from.ensures in
    let below : price ≤ (c.args.other.rise - c.args.line.rise) / (c.args.line.packets - c.args.other.packets) = omega (arith, less, c.min.ensures, same) in
    cross-before c.args.line.rise c.args.line.packets c.args.other.rise c.args.other.packets price fewer (c.requires fewer) below
