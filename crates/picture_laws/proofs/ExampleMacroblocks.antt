-- Worked examples of macroblocks, computed from the definitions.
use Rattle.std.proofs.Common.{◌≡◌, pos, Some, None, [], ◌∷◌, replicate, refl, true, false}
use Rattle.prefix_codes.specs.Entry.{printed_bits}
use Rattle.syntax_types.specs.declared.macroblock.Macroblock.{Macroblock}
use Rattle.picture_grammar.specs.Refusal.Refusal.{BadType, BadAddress}
use Rattle.picture_grammar.specs.Macroblock.{macroblock}
use Rattle.picture_grammar.specs.Written.{written_macroblock}
use Rattle.picture_laws.proofs.Computing.{said, answers}
use Rattle.picture_laws.proofs.DecidedPictures.{decided-macroblock}
use Rattle.picture_laws.proofs.ExampleValues.{coded, still, flat, first_block, quant_forward_pattern, intra_kind, moved}

-- ---- field pictures: P, top field

-- field-based: one vector with a field select
field_based : (macroblock (coded 2 1 false) true 22).Spells (moved 0 1 (still (Some false) None ∷ [])) (printed_bits "1 001 01 0 1 1") []
unfolding answers
field_based = (said (decided-macroblock (coded 2 1 false) true 22) (printed_bits "1 001 01 0 1 1") refl).0

-- 16x8: two vectors, each with a field select
sixteen_by_eight : (macroblock (coded 2 1 false) true 22).Spells (moved 0 2 (still (Some false) None ∷ still (Some true) None ∷ [])) (printed_bits "1 001 10 0 1 1 1 1 1") []
unfolding answers
sixteen_by_eight = (said (decided-macroblock (coded 2 1 false) true 22) (printed_bits "1 001 10 0 1 1 1 1 1") refl).0

-- dual prime: one vector without a field select, a dmvector behind each part
dual_prime : (macroblock (coded 2 1 false) true 22).Spells (moved 0 3 (still None (Some (pos 0 ∷ pos 0 ∷ [])) ∷ [])) (printed_bits "1 001 11 1 0 1 0") []
unfolding answers
dual_prime = (said (decided-macroblock (coded 2 1 false) true 22) (printed_bits "1 001 11 1 0 1 0") refl).0

-- written as they are read
written-field_based : written_macroblock (coded 2 1 false) (moved 0 1 (still (Some false) None ∷ [])) ≡ printed_bits "1 001 01 0 1 1"
unfolding answers written_macroblock
written-field_based = refl

written-sixteen_by_eight : written_macroblock (coded 2 1 false) (moved 0 2 (still (Some false) None ∷ still (Some true) None ∷ [])) ≡ printed_bits "1 001 10 0 1 1 1 1 1"
unfolding answers written_macroblock
written-sixteen_by_eight = refl

written-dual_prime : written_macroblock (coded 2 1 false) (moved 0 3 (still None (Some (pos 0 ∷ pos 0 ∷ [])) ∷ [])) ≡ printed_bits "1 001 11 1 0 1 0"
unfolding answers written_macroblock
written-dual_prime = refl

-- without motion field-based prediction counts, and no dct_type stands: pattern, one pair in the first block
abbrev unmoved : Macroblock
unmoved = record {
  skipped_before = 0;
  kind = quant_forward_pattern false false true;
  motion_type = 1;
  field_dct = false;
  code = None;
  forward = record { items = [] };
  backward = record { items = [] };
  pattern = 32;
  blocks = first_block (pos 1);
}

still-field : (macroblock (coded 2 2 false) true 22).Spells unmoved (printed_bits "1 01 1010 10 10") []
unfolding answers
still-field = (said (decided-macroblock (coded 2 2 false) true 22) (printed_bits "1 01 1010 10 10") refl).0

-- ---- frame pictures

-- field-based: two vectors, each with a field select
frame-field_based : (macroblock (coded 2 3 false) true 22).Spells (moved 0 1 (still (Some false) None ∷ still (Some true) None ∷ [])) (printed_bits "1 001 01 0 1 1 1 1 1") []
unfolding answers
frame-field_based = (said (decided-macroblock (coded 2 3 false) true 22) (printed_bits "1 001 01 0 1 1 1 1 1") refl).0

-- frame-based: one vector without a field select
frame-based : (macroblock (coded 2 3 false) true 22).Spells (moved 0 2 (still None None ∷ [])) (printed_bits "1 001 10 1 1") []
unfolding answers
frame-based = (said (decided-macroblock (coded 2 3 false) true 22) (printed_bits "1 001 10 1 1") refl).0

-- dct_type 1 behind the type, with coefficients
abbrev of_fields : Macroblock
of_fields = record {
  skipped_before = 0;
  kind = quant_forward_pattern true false true;
  motion_type = 2;
  field_dct = true;
  code = Some 4;
  forward = record { items = [] };
  backward = record { items = [] };
  pattern = 32;
  blocks = first_block (pos 1);
}

field_dct : (macroblock (coded 2 3 false) true 22).Spells of_fields (printed_bits "1 00001 1 00100 1010 10 10") []
unfolding answers
field_dct = (said (decided-macroblock (coded 2 3 false) true 22) (printed_bits "1 00001 1 00100 1010 10 10") refl).0

written-field_dct : written_macroblock (coded 2 3 false) of_fields ≡ printed_bits "1 00001 1 00100 1010 10 10"
unfolding answers written_macroblock
written-field_dct = refl

-- four blocks of luminance, whose DC size 0 is 100, and two of chrominance, where it is 00
abbrev pub gray : Macroblock
gray = record {
  skipped_before = 0;
  kind = intra_kind;
  motion_type = 2;
  field_dct = false;
  code = None;
  forward = record { items = [] };
  backward = record { items = [] };
  pattern = 0;
  blocks = replicate 6 flat;
}

luma-chroma : (macroblock (coded 1 3 true) true 22).Spells gray (printed_bits "1 1 100 10 100 10 100 10 100 10 00 10 00 10") []
unfolding answers
luma-chroma = (said (decided-macroblock (coded 1 3 true) true 22) (printed_bits "1 1 100 10 100 10 100 10 100 10 00 10 00 10") refl).0

written-gray : written_macroblock (coded 1 3 true) gray ≡ printed_bits "1 1 100 10 100 10 100 10 100 10 00 10 00 10"
unfolding answers written_macroblock
written-gray = refl

-- ---- the address

-- an escape counts 33: column 33, behind an escape and increment 1
column_33 : (macroblock (coded 2 3 true) true 45).Spells (moved 33 2 (still None None ∷ [])) (printed_bits "00000001000 1 001 1 1") []
unfolding answers
column_33 = (said (decided-macroblock (coded 2 3 true) true 45) (printed_bits "00000001000 1 001 1 1") refl).0

written-column_33 : written_macroblock (coded 2 3 true) (moved 33 2 (still None None ∷ [])) ≡ printed_bits "00000001000 1 001 1 1"
unfolding answers written_macroblock
written-column_33 = refl

-- ... which passes the end of a row of 33 columns at the escape, and of one of 34 columns only with a greater increment
past_row : (macroblock (coded 2 3 true) true 33).Refuses (printed_bits "00000001000 1 001 1 1") BadAddress (printed_bits "00000001000 1 001 1 1")
unfolding answers
past_row = said (decided-macroblock (coded 2 3 true) true 33) (printed_bits "00000001000 1 001 1 1") refl

past_row-behind : (macroblock (coded 2 3 true) true 34).Refuses (printed_bits "00000001000 011 001 1 1") BadAddress (printed_bits "011 001 1 1")
unfolding answers
past_row-behind = said (decided-macroblock (coded 2 3 true) true 34) (printed_bits "00000001000 011 001 1 1") refl

-- in an I-picture no later macroblock skips
no_skip : (macroblock (coded 1 3 true) false 22).Refuses (printed_bits "011 1") BadAddress (printed_bits "011 1")
unfolding answers
no_skip = said (decided-macroblock (coded 1 3 true) false 22) (printed_bits "011 1") refl

-- motion type 0 is refused
motion_type_0 : (macroblock (coded 2 1 false) true 22).Refuses (printed_bits "1 001 00 1 1") BadType (printed_bits "00 1 1")
unfolding answers
motion_type_0 = said (decided-macroblock (coded 2 1 false) true 22) (printed_bits "1 001 00 1 1") refl
