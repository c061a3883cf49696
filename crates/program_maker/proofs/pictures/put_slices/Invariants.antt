use Rattle.std.proofs.Common.{◌≡◌}
use Rattle.std.specs.List.{flat_map, range_with_len}
use Rattle.bit_cursor.specs.BitWriter.{odd_bits}
use Rattle.macroblock_writer.specs.Private.Going.{GoesOn}
use Rattle.macroblock_writer.specs.Private.WholeSlices.{written_whole_slice}
use Rattle.program_maker.specs.Draws.{draw_each}
use Rattle.program_maker.specs.Heads.{coding_of}
use Rattle.program_maker.specs.Pictures.{drawn_slice}
use Rattle.program_maker.proofs.pictures.put_slices.Given as goal

abbrev pub invariant-loop-row : goal.invariant-loop-row
invariant-loop-row g l =
    GoesOn g.K.Sink.written l.fn.to l.to
    (flat_map (written_whole_slice (coding_of l.predicted)) (draw_each (range_with_len 0 l.row) (drawn_slice l.predicted) l.fn.draws.state).0)
    × (l.draws.state ≡ (draw_each (range_with_len 0 l.row) (drawn_slice l.predicted) l.fn.draws.state).1)
    × (odd_bits l.to ≡ 0)
