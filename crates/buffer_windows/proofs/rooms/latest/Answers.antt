use Rattle.std.proofs.Common.{◌*◌, ◌≤◌, arith}
use Rattle.std.proofs.Math.Nat.{mul-le-mul}
use Rattle.buffer_windows.proofs.rooms.latest.Goals as goal

pub returns-clause-small : goal.returns-clause-small
returns-clause-small c =
    let first : c.from.result ≤ 4294967295 = omega arith in
    let slot : c.from-2.result ≤ 4294967295 = omega arith in
    let product : c.from.result * c.from-2.result ≤ 4294967295 * 4294967295 = mul-le-mul {n₂ = 4294967295} {m₂ = 4294967295} first slot in
    omega arith
