use Rattle.std.proofs.Common.{◌≡◌}
use Rattle.std.specs.List.{range_with_len}
use Rattle.program_maker.specs.Draws.{draw_each}
use Rattle.program_maker.specs.Macroblocks.{run_level}
use Rattle.program_maker.proofs.macroblocks.draw_pairs.Given as goal

abbrev pub invariant-loop-i : goal.invariant-loop-i
invariant-loop-i l =
    (l.into.items ≡ (draw_each (range_with_len 0 l._i) (λ _. run_level) l.fn.draws.state).0)
    × (l.draws.state ≡ (draw_each (range_with_len 0 l._i) (λ _. run_level) l.fn.draws.state).1)
