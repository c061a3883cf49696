use Rattle.std.proofs.Common.{◌≡◌, length, take}
use Rattle.std.specs.List.{range_with_len}
use Rattle.program_maker.specs.Draws.{draw_each}
use Rattle.program_maker.specs.Macroblocks.{block_at}
use Rattle.program_maker.proofs.macroblocks.draw_blocks.Given as goal

abbrev pub invariant-loop-i : goal.invariant-loop-i
invariant-loop-i l =
    (take l.i l.into ≡ (draw_each (range_with_len 0 l.i) (block_at l.kind l.pattern) l.fn.draws.state).0)
    × (l.draws.state ≡ (draw_each (range_with_len 0 l.i) (block_at l.kind l.pattern) l.fn.draws.state).1)
    × (length l.into ≡ 6)
