-- The worked examples, from the definitions.
use Rattle.std.proofs.Common.{◌≡◌, Some, None, [], ◌∷◌, refl}
use Rattle.prefix_codes.specs.declared.symbol.TheConstants.{END_OF_BLOCK, ESCAPE}
use Rattle.prefix_codes.specs.declared.table_name.TableName.TheVariants.{CoeffZero, CoeffFirst, CoeffOne}
use Rattle.bit_lists.specs.Bits.{bits_of, front_of}
use Rattle.prefix_codes.specs.TableName.{code_in, coefficient_code, Begins}
use Rattle.prefix_codes.proofs.Computing.{tables}

-- two bits 11 are run 0 with level 1, and 10 the end of block
two_ones : Begins CoeffZero (front_of 24 0xC0_0000 2) 1 2
unfolding tables
two_ones = record { code = 1 ∷ 1 ∷ []; listed = refl; counted = refl; first = refl }

one_and_zero : Begins CoeffZero (front_of 24 0x80_0000 2) 4000 2
unfolding tables
one_and_zero = record { code = 1 ∷ 0 ∷ []; listed = refl; counted = refl; first = refl }

-- the first coefficient has no end of block, and a code of one bit for run 0 with level 1
first_one : code_in CoeffFirst 1 ≡ Some (1 ∷ [])
unfolding tables
first_one = refl

no_end : code_in CoeffFirst END_OF_BLOCK ≡ None
unfolding tables
no_end = refl

escape_stays : code_in CoeffFirst ESCAPE ≡ Some (bits_of 6 1)
unfolding tables
escape_stays = refl

-- Table B-15 replaces the codes of run 0 up to level 15
level_15 : coefficient_code CoeffOne 0 15 ≡ Some (bits_of 8 0xff)
unfolding tables
level_15 = refl

level_16 : coefficient_code CoeffOne 0 16 ≡ Some (bits_of 14 0x1f)
unfolding tables
level_16 = refl

-- run 62 with level 32 is no end of block, and run 0 with level 65 isn't run 1 with level 1
no_run_62 : coefficient_code CoeffZero 62 32 ≡ None
unfolding tables
no_run_62 = refl

no_level_65 : coefficient_code CoeffZero 0 65 ≡ None
unfolding tables
no_level_65 = refl
