use Rattle.std.proofs.Common.{false, refl, arith}
use Rattle.std.proofs.lemmas.Bool.{both_ways}
use Rattle.block_coeffs.proofs.Symbols.{coefficients-is, symbol-most}
use Rattle.block_coeffs.proofs.cut.may_begin.Goals as goal

pub returns : goal.returns
returns c = (
  λ found. absurd (both_ways false refl found),
  λ a.
      let most = symbol-most a.symbol a.begun.code (coefficients-is c.args.table c.requires.table) a.begun.listed in
      absurd (c.loop-symbol.invariant a.symbol (omega arith) a.fits a.begun),
)
