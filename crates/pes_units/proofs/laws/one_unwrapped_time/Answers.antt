use Rattle.std.proofs.Common.{◌≡◌, ◌^◌, pos, ◌+ℤ◌, ◌*ℤ◌, arith}
use Rattle.std.proofs.lemmas.Int.{ints}
use Rattle.pes_units.proofs.laws.one_unwrapped_time.Goals as goal

pub returns : goal.returns
returns c before value a b first second =
    let a_is : a ≡ pos value +ℤ first.congruent.0 *ℤ pos (2 ^ 33) = first.congruent.1 in
    let b_is : b ≡ pos value +ℤ second.congruent.0 *ℤ pos (2 ^ 33) = second.congruent.1 in
    omega (arith, ints, a_is, b_is)
