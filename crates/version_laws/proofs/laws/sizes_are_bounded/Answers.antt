use Rattle.std.proofs.Common.{arith}
use Rattle.version_laws.proofs.Bounded.{sizes-bounded}
use Rattle.version_laws.proofs.laws.sizes_are_bounded.Goals as goal

pub returns : goal.returns
returns c = λ before unit coarser sizes may are short is k d within.
    let bounded = sizes-bounded before unit coarser sizes may are short is k d within in
    (omega (arith, bounded.0), omega (arith, bounded.1), omega (arith, bounded.2))
