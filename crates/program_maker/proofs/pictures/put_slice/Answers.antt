use Rattle.std.proofs.Common.{◌≡◌, ◌+◌, ◌-◌, ◌%◌, ℕ, List, [], ◌∷◌, ◌++◌, length, replicate, ap, append_assoc, arith}
use Rattle.std.specs.List.{flat_map}
use Rattle.bit_lists.specs.Bits.{bits_of}
use Rattle.bit_cursor.specs.BitWriter.{odd_bits}
use Rattle.bit_cursor.proofs.Composed.{gets_odd}
use Rattle.picture_grammar.specs.StartCode.{start_code_bits}
use Rattle.picture_grammar.specs.Written.{written_macroblock, written_slice}
use Rattle.macroblock_writer.proofs.Going.{goes-as, goes-then}
use Rattle.program_maker.specs.Heads.{coding_of}
use Rattle.program_maker.specs.Pictures.{drawn_row, drawn_slice}
use Rattle.program_maker.proofs.Writing.{goes-on_ok, on_ok}
use Rattle.program_maker.proofs.pictures.put_slice.Goals as goal

pub returns-clause-written : goal.returns-clause-written
unfolding written_slice drawn_slice
returns-clause-written g c =
    let coding = coding_of c.args.predicted in
    let start : List ℕ = start_code_bits (c.args.row + 1) in
    let head : List ℕ = bits_of 5 4 ++ 0 ∷ [] in
    let row : List ℕ = flat_map (written_macroblock coding) (drawn_row c.args.predicted c.args.draws.now.state).0 in
    let whole : List ℕ = start ++ (head ++ row) in
    let both = goes-as (goes-then c.in_ok-put_slice_header.ensures c.in_ok-put_macroblocks.ensures.written) (append_assoc start head row) in
    let odd : odd_bits c.put_macroblocks.new.to ≡ length whole % 8 = (let all = gets_odd both.puts in omega (arith, all, c.requires.whole)) in
    goes-on_ok c.align_zero.result both c.align_zero.ensures.writes (ap (λ (n : ℕ). whole ++ replicate ((8 - n) % 8) 0) odd)

pub returns-clause-state : goal.returns-clause-state
unfolding drawn_slice
returns-clause-state g c = on_ok c.align_zero.result c.in_ok-put_macroblocks.ensures.state
