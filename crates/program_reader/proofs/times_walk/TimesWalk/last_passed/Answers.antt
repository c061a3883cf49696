use Rattle.std.proofs.Common.{arith}
use Rattle.program_reader.proofs.TimesWalked.{ends_with}
use Rattle.program_reader.proofs.times_walk.TimesWalk.last_passed.Goals as goal

pub returns : goal.returns
returns c = ends_with c.args.places.now c.args.self.now.place (omega (arith, c.if-self-eq0.false)) (omega (arith, c.requires.within))
