-- Fewer sections wait after each one.
use Rattle.std.proofs.Common.{arith}
use Rattle.psi_tables.proofs.Turns.{turn-fewer}
use Rattle.psi_tables_tests.proofs.section_tests.pull_all.Goals as goal

pub loop-next-smaller : goal.loop-next-smaller
loop-next-smaller c = omega (arith, turn-fewer c.loop-next.builder c.pull.new.self _ c.in-Some.ensures.found)
