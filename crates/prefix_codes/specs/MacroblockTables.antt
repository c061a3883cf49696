-- The code tables of macroblocks and motion vectors (ISO/IEC 13818-2, Tables B-1 to B-4, B-9, B-10, B-12 and B-13), in the standard's order.
use Rattle.std.specs.Prelude.{◌+◌, List, [], ◌∷◌}
use Rattle.prefix_codes.specs.declared.symbol.TheConstants.{ADDRESS_ESCAPE, QUANT, FORWARD, BACKWARD, PATTERN, INTRA}
use Rattle.prefix_codes.specs.Entry.{Entry, entry}

-- Table B-1: the increments 1 to 33, and the escape, which adds 33
unfoldable pub macroblock_address_increment : List Entry
macroblock_address_increment =
    entry 1 "1"
    ∷ entry 2 "011"
    ∷ entry 3 "010"
    ∷ entry 4 "0011"
    ∷ entry 5 "0010"
    ∷ entry 6 "0001 1"
    ∷ entry 7 "0001 0"
    ∷ entry 8 "0000 111"
    ∷ entry 9 "0000 110"
    ∷ entry 10 "0000 1011"
    ∷ entry 11 "0000 1010"
    ∷ entry 12 "0000 1001"
    ∷ entry 13 "0000 1000"
    ∷ entry 14 "0000 0111"
    ∷ entry 15 "0000 0110"
    ∷ entry 16 "0000 0101 11"
    ∷ entry 17 "0000 0101 10"
    ∷ entry 18 "0000 0101 01"
    ∷ entry 19 "0000 0101 00"
    ∷ entry 20 "0000 0100 11"
    ∷ entry 21 "0000 0100 10"
    ∷ entry 22 "0000 0100 011"
    ∷ entry 23 "0000 0100 010"
    ∷ entry 24 "0000 0100 001"
    ∷ entry 25 "0000 0100 000"
    ∷ entry 26 "0000 0011 111"
    ∷ entry 27 "0000 0011 110"
    ∷ entry 28 "0000 0011 101"
    ∷ entry 29 "0000 0011 100"
    ∷ entry 30 "0000 0011 011"
    ∷ entry 31 "0000 0011 010"
    ∷ entry 32 "0000 0011 001"
    ∷ entry 33 "0000 0011 000"
    ∷ entry ADDRESS_ESCAPE "0000 0001 000"
    ∷ []

-- Table B-2: macroblock_type in I-pictures
unfoldable pub macroblock_type_i : List Entry
macroblock_type_i =
    entry INTRA "1"
    ∷ entry (QUANT + INTRA) "01"
    ∷ []

-- Table B-3: macroblock_type in P-pictures
unfoldable pub macroblock_type_p : List Entry
macroblock_type_p =
    entry (FORWARD + PATTERN) "1"
    ∷ entry PATTERN "01"
    ∷ entry FORWARD "001"
    ∷ entry INTRA "0001 1"
    ∷ entry (QUANT + FORWARD + PATTERN) "0001 0"
    ∷ entry (QUANT + PATTERN) "0000 1"
    ∷ entry (QUANT + INTRA) "0000 01"
    ∷ []

-- Table B-4: macroblock_type in B-pictures
unfoldable pub macroblock_type_b : List Entry
macroblock_type_b =
    entry (FORWARD + BACKWARD) "10"
    ∷ entry (FORWARD + BACKWARD + PATTERN) "11"
    ∷ entry BACKWARD "010"
    ∷ entry (BACKWARD + PATTERN) "011"
    ∷ entry FORWARD "0010"
    ∷ entry (FORWARD + PATTERN) "0011"
    ∷ entry INTRA "0001 1"
    ∷ entry (QUANT + FORWARD + BACKWARD + PATTERN) "0001 0"
    ∷ entry (QUANT + FORWARD + PATTERN) "0000 11"
    ∷ entry (QUANT + BACKWARD + PATTERN) "0000 10"
    ∷ entry (QUANT + INTRA) "0000 01"
    ∷ []

-- Table B-9: coded_block_pattern of 4:2:0 pictures, block 0 being 32 and block 5 being 1
unfoldable pub coded_block_pattern : List Entry
coded_block_pattern =
    entry 60 "111"
    ∷ entry 4 "1101"
    ∷ entry 8 "1100"
    ∷ entry 16 "1011"
    ∷ entry 32 "1010"
    ∷ entry 12 "1001 1"
    ∷ entry 48 "1001 0"
    ∷ entry 20 "1000 1"
    ∷ entry 40 "1000 0"
    ∷ entry 28 "0111 1"
    ∷ entry 44 "0111 0"
    ∷ entry 52 "0110 1"
    ∷ entry 56 "0110 0"
    ∷ entry 1 "0101 1"
    ∷ entry 61 "0101 0"
    ∷ entry 2 "0100 1"
    ∷ entry 62 "0100 0"
    ∷ entry 24 "0011 11"
    ∷ entry 36 "0011 10"
    ∷ entry 3 "0011 01"
    ∷ entry 63 "0011 00"
    ∷ entry 5 "0010 111"
    ∷ entry 9 "0010 110"
    ∷ entry 17 "0010 101"
    ∷ entry 33 "0010 100"
    ∷ entry 6 "0010 011"
    ∷ entry 10 "0010 010"
    ∷ entry 18 "0010 001"
    ∷ entry 34 "0010 000"
    ∷ entry 7 "0001 1111"
    ∷ entry 11 "0001 1110"
    ∷ entry 19 "0001 1101"
    ∷ entry 35 "0001 1100"
    ∷ entry 13 "0001 1011"
    ∷ entry 49 "0001 1010"
    ∷ entry 21 "0001 1001"
    ∷ entry 41 "0001 1000"
    ∷ entry 14 "0001 0111"
    ∷ entry 50 "0001 0110"
    ∷ entry 22 "0001 0101"
    ∷ entry 42 "0001 0100"
    ∷ entry 15 "0001 0011"
    ∷ entry 51 "0001 0010"
    ∷ entry 23 "0001 0001"
    ∷ entry 43 "0001 0000"
    ∷ entry 25 "0000 1111"
    ∷ entry 37 "0000 1110"
    ∷ entry 26 "0000 1101"
    ∷ entry 38 "0000 1100"
    ∷ entry 29 "0000 1011"
    ∷ entry 45 "0000 1010"
    ∷ entry 53 "0000 1001"
    ∷ entry 57 "0000 1000"
    ∷ entry 30 "0000 0111"
    ∷ entry 46 "0000 0110"
    ∷ entry 54 "0000 0101"
    ∷ entry 58 "0000 0100"
    ∷ entry 31 "0000 0011 1"
    ∷ entry 47 "0000 0011 0"
    ∷ entry 55 "0000 0010 1"
    ∷ entry 59 "0000 0010 0"
    ∷ entry 27 "0000 0001 1"
    ∷ entry 39 "0000 0001 0"
    ∷ []

-- Table B-10: the magnitude of motion_code, without the sign bit
unfoldable pub motion_code : List Entry
motion_code =
    entry 0 "1"
    ∷ entry 1 "01"
    ∷ entry 2 "001"
    ∷ entry 3 "0001"
    ∷ entry 4 "0000 11"
    ∷ entry 5 "0000 101"
    ∷ entry 6 "0000 100"
    ∷ entry 7 "0000 011"
    ∷ entry 8 "0000 0101 1"
    ∷ entry 9 "0000 0101 0"
    ∷ entry 10 "0000 0100 1"
    ∷ entry 11 "0000 0100 01"
    ∷ entry 12 "0000 0100 00"
    ∷ entry 13 "0000 0011 11"
    ∷ entry 14 "0000 0011 10"
    ∷ entry 15 "0000 0011 01"
    ∷ entry 16 "0000 0011 00"
    ∷ []

-- Table B-12: dct_dc_size_luminance
unfoldable pub dct_dc_size_luminance : List Entry
dct_dc_size_luminance =
    entry 0 "100"
    ∷ entry 1 "00"
    ∷ entry 2 "01"
    ∷ entry 3 "101"
    ∷ entry 4 "110"
    ∷ entry 5 "1110"
    ∷ entry 6 "1111 0"
    ∷ entry 7 "1111 10"
    ∷ entry 8 "1111 110"
    ∷ entry 9 "1111 1110"
    ∷ entry 10 "1111 1111 0"
    ∷ entry 11 "1111 1111 1"
    ∷ []

-- Table B-13: dct_dc_size_chrominance
unfoldable pub dct_dc_size_chrominance : List Entry
dct_dc_size_chrominance =
    entry 0 "00"
    ∷ entry 1 "01"
    ∷ entry 2 "10"
    ∷ entry 3 "110"
    ∷ entry 4 "1110"
    ∷ entry 5 "1111 0"
    ∷ entry 6 "1111 10"
    ∷ entry 7 "1111 110"
    ∷ entry 8 "1111 1110"
    ∷ entry 9 "1111 1111 0"
    ∷ entry 10 "1111 1111 10"
    ∷ entry 11 "1111 1111 11"
    ∷ []
