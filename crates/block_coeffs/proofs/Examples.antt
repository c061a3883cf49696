-- The worked examples, from the definitions.
use Rattle.std.proofs.Common.{◌≡◌, ◌+◌, ◌*◌, pos, Some, None, [], ◌∷◌, true, false, refl, arith}
use Rattle.bit_lists.specs.Bits.{bits_of}
use Rattle.prefix_codes.specs.declared.symbol.TheConstants.{END_OF_BLOCK, ESCAPE}
use Rattle.prefix_codes.specs.declared.table_name.TableName.TheVariants.{CoeffZero}
use Rattle.prefix_codes.specs.Entry.{printed_bits}
use Rattle.prefix_codes.proofs.Computing.{tables}
use Rattle.picture_grammar.specs.Block.{block}
use Rattle.picture_grammar.proofs.Examples.{non_intra, one_escape, bad_escape}
use Rattle.block_coeffs.specs.declared.fault.BlockFault.TheVariants as fault
use Rattle.grammar_reading.specs.declared.window.BitWindow.{BitWindow}
use Rattle.block_coeffs.specs.Private.Cut.{symbol_fits, BeginAllowed}
use Rattle.grammar_reading.specs.Window.{seen, ShowsFront}
use Rattle.grammar_reading.specs.BitsRead.{ReadsFrom, ExplainsFrom}
use Rattle.grammar_reading.proofs.BitsRead.{anywhere}
use Rattle.picture_grammar.proofs.LocalLaws.{local-block}
use Rattle.block_coeffs.specs.BlockFault.{refusal_told}

-- from place 100 on an escape with run 0 and level 2047 and the end of block are read up to place 126
read_escape : ReadsFrom (block non_intra) (record { dc = None; pairs = record { items = record { run = 0; level = pos 2047 } ∷ [] } })
    (Some (printed_bits "000001 000000 011111111111 10 0101")) (Some (printed_bits "0101")) 100 126
read_escape = record {
  front = printed_bits "000001 000000 011111111111 10";
  spelled = anywhere (local-block non_intra) _
      (printed_bits "000001 000000 011111111111 10") [] (printed_bits "0101") one_escape;
  left = refl;
  moved = refl;
}

-- with the level -2048 the escape is refused at its first bit
refused_escape : ExplainsFrom (block non_intra) (refusal_told (fault.BadEscape 100)) (printed_bits "000001 000000 100000000000 10") 100
refused_escape = record { front = []; left = printed_bits "000001 000000 100000000000 10"; split = refl; refused = bad_escape; moved = refl }

-- two bits of a window
two_bits : BitWindow
two_bits = record { bits = 0xC0_0000; known = 2; within = omega arith; below = omega arith; filled = refl }

two_ones : seen two_bits 2 ≡ 1 ∷ 1 ∷ []
unfolding bits_of two_bits
two_ones = refl

-- ... which shows the bits 11 where they are all, and no other ones
shown : ShowsFront two_bits (1 ∷ 1 ∷ [])
unfolding bits_of two_bits
shown = refl

-- at place 37 a run of 27 leads past the last place, and at place 36 it doesn't; the end of block stands anywhere
run_past : symbol_fits 37 (27 * 64 + 1) ≡ false
run_past = refl

run_within : symbol_fits 36 (27 * 64 + 1) ≡ true
run_within = refl

end_anywhere : symbol_fits 64 END_OF_BLOCK ≡ true
end_anywhere = refl

no_escape : symbol_fits 64 ESCAPE ≡ false
no_escape = refl

-- the first 14 bits of the codes of runs 27 to 30 with level 1 may begin one at place 36
cut_code : BeginAllowed CoeffZero 36 (printed_bits "00000000000111")
unfolding tables
cut_code = record { symbol = 27 * 64 + 1; fits = refl; begun = record { code = printed_bits "0000000000011111"; listed = refl; cut = refl } }
