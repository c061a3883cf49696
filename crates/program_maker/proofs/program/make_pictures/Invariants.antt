use Rattle.std.proofs.Common.{◌≡◌}
use Rattle.std.specs.List.{range_with_len}
use Rattle.program_maker.specs.Draws.{draw_each}
use Rattle.program_maker.specs.Pictures.{drawn_picture, AreWritten}
use Rattle.program_maker.proofs.program.make_pictures.Given as goal

abbrev pub invariant-loop-k : goal.invariant-loop-k
invariant-loop-k l =
    AreWritten (draw_each (range_with_len 0 l.k) drawn_picture l.fn.draws.state).0 l.units
    × (l.draws.state ≡ (draw_each (range_with_len 0 l.k) drawn_picture l.fn.draws.state).1)
