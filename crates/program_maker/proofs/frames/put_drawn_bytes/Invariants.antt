use Rattle.std.proofs.Common.{◌≡◌, ◌++◌}
use Rattle.std.specs.List.{range_with_len}
use Rattle.program_maker.specs.Draws.{pick, draw_each}
use Rattle.program_maker.proofs.frames.put_drawn_bytes.Given as goal

abbrev pub invariant-loop-i : goal.invariant-loop-i
invariant-loop-i l =
    (l.pes.items ≡ l.fn.pes.items ++ (draw_each (range_with_len 0 l._i) (λ _. pick 255) l.fn.draws.state).0)
    × (l.draws.state ≡ (draw_each (range_with_len 0 l._i) (λ _. pick 255) l.fn.draws.state).1)
