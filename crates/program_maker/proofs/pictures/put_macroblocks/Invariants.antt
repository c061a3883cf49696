use Rattle.std.proofs.Common.{◌≡◌}
use Rattle.std.specs.List.{flat_map, range_with_len}
use Rattle.picture_grammar.specs.Written.{written_macroblock}
use Rattle.macroblock_writer.specs.Private.Going.{GoesOn}
use Rattle.program_maker.specs.Draws.{draw_each}
use Rattle.program_maker.specs.Heads.{coding_of}
use Rattle.program_maker.specs.Macroblocks.{drawn_macroblock}
use Rattle.program_maker.proofs.pictures.put_macroblocks.Given as goal

abbrev pub invariant-loop-i : goal.invariant-loop-i
invariant-loop-i g l =
    GoesOn g.K.Sink.written l.fn.to l.to
    (flat_map (written_macroblock (coding_of l.predicted)) (draw_each (range_with_len 0 l._i) (λ _. drawn_macroblock l.predicted) l.fn.draws.state).0)
    × (l.draws.state ≡ (draw_each (range_with_len 0 l._i) (λ _. drawn_macroblock l.predicted) l.fn.draws.state).1)
