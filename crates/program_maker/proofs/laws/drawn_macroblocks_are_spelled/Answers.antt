use Rattle.std.proofs.Common.{arith}
use Rattle.program_maker.proofs.Spelled.{drawn-spelled}
use Rattle.program_maker.proofs.laws.drawn_macroblocks_are_spelled.Goals as goal

pub returns : goal.returns
returns c = λ predicted first columns_left state some. drawn-spelled predicted first columns_left state (omega (arith, some))
