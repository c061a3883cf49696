-- The worked examples, from the definitions.
use Rattle.std.proofs.Common.{pos, Some, None, [], ◌∷◌, refl, true, false, inl, inr, arith}
use Rattle.bit_lists.specs.Bits.{bits_of}
use Rattle.prefix_codes.specs.declared.table_name.TableName.TheVariants.{CoeffFirst}
use Rattle.prefix_codes.specs.Entry.{printed_bits}
use Rattle.prefix_codes.proofs.Computing.{tables}
use Rattle.syntax_types.specs.declared.block.BlockWay.{BlockWay}
use Rattle.syntax_types.specs.declared.block.Dc.{Dc}
use Rattle.syntax_types.specs.declared.block.RunLevel.{RunLevel}
use Rattle.picture_grammar.specs.Refusal.Refusal.{TooMany, BadEscape}
use Rattle.picture_grammar.specs.Block.{CoefficientCode, fits_in_block, is_level, block}
use Rattle.picture_grammar.specs.Element.{rule}
use Rattle.picture_grammar.proofs.Codes.{free-coefficient}
use Rattle.picture_grammar.proofs.ElementLaws.{breaks}
use Rattle.picture_grammar.specs.Block.Coefficient.{end_of_block, escape}

pub non_intra : BlockWay
non_intra = record { intra = false; luma = true; vlc_one = false }

-- an escape with run 0 and level 2047, then the end of block
pub one_escape : (block non_intra).Spells (record { dc = None; pairs = record { items = record { run = 0; level = pos 2047 } ∷ [] } }) (printed_bits "000001 000000 011111111111 10") []
unfolding non_intra block tables
one_escape =
    let pair : RunLevel = record { run = 0; level = pos 2047 } in (
      None,
      printed_bits "000001 000000 011111111111 10",
      (refl, refl),
      (
        (pair ∷ [], tt),
        [],
        (
          printed_bits "10",
          (escape 0 2047, printed_bits "10", (printed_bits "000001 000000 011111111111", (bits_of 6 1, refl, omega arith, omega arith, refl), refl, refl), (refl, refl)),
          (end_of_block, [], (printed_bits "10", refl, refl, refl), (refl, refl)),
        ),
        (refl, refl),
      ),
    )

-- with the level -2048 the escape is refused at its first bit
pub bad_escape : (block non_intra).Refuses (printed_bits "000001 000000 100000000000 10") BadEscape (printed_bits "000001 000000 100000000000 10")
unfolding non_intra block tables
bad_escape =
    let bits = printed_bits "000001 000000 100000000000 10" in
    let code = printed_bits "000001 000000 100000000000" in
    inr (
      None,
      bits,
      (refl, refl),
      inl (
        [],
        inl (
          refl,
          inr (inl (
              breaks (CoefficientCode CoeffFirst) (free-coefficient CoeffFirst) (escape 0 2048) code (bits_of 6 1, refl, omega arith, omega arith, refl) bits refl
              (rule TooMany (fits_in_block 0) ∷ []) [] (rule BadEscape is_level) refl refl)),
        ),
      ),
    )

-- intra luminance: size 0 of the DC coefficient, and no pairs
empty_intra : (block (record { intra = true; luma = true; vlc_one = false })).Spells (record { dc = Some (record { size = 0; bits = 0 }); pairs = record { items = [] } }) (printed_bits "100 10") []
unfolding block tables
empty_intra =
    let dc : Dc = record { size = 0; bits = 0 } in (
      Some dc,
      printed_bits "10",
      (dc, printed_bits "10", (0, printed_bits "10", (printed_bits "100", refl, refl, refl), (0, printed_bits "10", ([], (omega arith, refl), refl, refl), (refl, refl))), (refl, refl)),
      (
        ([], tt),
        [],
        (end_of_block, [], (printed_bits "10", refl, refl, refl), (refl, refl)),
        (refl, refl),
      ),
    )
