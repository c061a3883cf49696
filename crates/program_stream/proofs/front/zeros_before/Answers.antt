use Rattle.std.proofs.Common.{arith}
use Rattle.program_stream.proofs.Starts.{all_but_two, fewer_zeros}
use Rattle.program_stream.proofs.front.zeros_before.Goals as goal

pub returns-clause-zeros : goal.returns-clause-zeros
returns-clause-zeros c = fewer_zeros c.args.bytes.now c.count_zeros.result c.saturating_sub.result (omega (arith, c.saturating_sub.ensures)) c.count_zeros.ensures.zeros

pub returns-clause-behind : goal.returns-clause-behind
returns-clause-behind c =
    let is = c.saturating_sub.ensures in
    all_but_two c.args.bytes.now c.count_zeros.result c.saturating_sub.result (λ some. omega (arith, is, some)) (omega (arith, is)) (omega (arith, is)) c.count_zeros.ensures.end
    c.count_zeros.ensures.zeros
