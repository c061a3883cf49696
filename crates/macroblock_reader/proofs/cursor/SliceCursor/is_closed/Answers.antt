use Rattle.std.proofs.Common.{inr}
use Rattle.std.proofs.lemmas.Bool.{eqb-true, eqb-false}
use Rattle.bit_cursor.specs.BitReader.{bits_left}
use Rattle.macroblock_reader.proofs.Closing.{closed-shown, open-shown}
use Rattle.macroblock_reader.proofs.cursor.SliceCursor.is_closed.Goals as goal

pub returns-clause-closed : goal.returns-clause-closed
returns-clause-closed g c = λ is. (c.if-self.false, closed-shown (bits_left c.args.from.now) c.in_ok-bits.bits c.in_ok-bits._known c.in_ok-bits.ensures.window (eqb-true c.in_ok-bits.bits 0 is))

pub returns-clause-going : goal.returns-clause-going
returns-clause-going g c = λ is. inr (open-shown (bits_left c.args.from.now) c.in_ok-bits.bits c.in_ok-bits._known c.in_ok-bits.ensures.window (eqb-false c.in_ok-bits.bits 0 is))
