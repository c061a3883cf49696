-- Worked examples, computed from the definitions. The values are those of another program, which shares nothing with this crate.
use Rattle.std.proofs.Common.{◌≡◌, ◌^◌, [], ◌∷◌, ◌++◌, take, drop, true, false, refl}
use Rattle.prefix_codes.specs.Entry.{printed_bits}
use Rattle.picture_grammar.specs.Written.{written_macroblock}
use Rattle.picture_laws.proofs.Computing.{answers}
use Rattle.program_maker.specs.Draws.{state_after, pick}
use Rattle.program_maker.specs.Heads.{coding_of, head_of}
use Rattle.program_maker.specs.Macroblocks.{run_level, coded_block, block_at, drawn_kind, quantiser_code, coded_pattern, drawn_macroblock}
use Rattle.program_maker.specs.Streams.{drawn_bytes, drawn_frame, frame_header}

-- ---- the first draws of seed 1

first_draw : pick (2 ^ 32) 1 ≡ (1817669548, 7806831264735756412)
unfolding pick state_after
first_draw = refl

second_draw : pick (2 ^ 32) 7806831264735756412 ≡ (2187888307, 9396908728118811419)
unfolding pick state_after
second_draw = refl

-- ---- macroblocks, each as it is written, and the state that its draws leave

-- the first one of seed 1, in an I-picture
first_macroblock : written_macroblock (coding_of false) (drawn_macroblock false 1).0
    ≡ printed_bits "1 1 100 0001100 00000000101001 0000000101000 10 100 0110 001001011 0111 000001 000011 111111111011"
    ++ printed_bits "10 100 0001101 00000000100111 10 100 001001101 0110 001001011 001001101 10 00 110 00000000100110 10 00 00001101 10"
unfolding answers written_macroblock state_after pick run_level coded_block block_at drawn_kind quantiser_code coded_pattern drawn_macroblock
first_macroblock = refl

first_macroblock-leaves : (drawn_macroblock false 1).1 ≡ 11011767539135590674
unfolding answers written_macroblock state_after pick run_level coded_block block_at drawn_kind quantiser_code coded_pattern drawn_macroblock
first_macroblock-leaves = refl

-- in a P-picture: forward, without pattern
moved : written_macroblock (coding_of true) (drawn_macroblock true 1).0
    ≡ printed_bits "1 001 11"
unfolding answers written_macroblock state_after pick run_level coded_block block_at drawn_kind quantiser_code coded_pattern drawn_macroblock
moved = refl

moved-leaves : (drawn_macroblock true 1).1 ≡ 7806831264735756412
unfolding answers written_macroblock state_after pick run_level coded_block block_at drawn_kind quantiser_code coded_pattern drawn_macroblock
moved-leaves = refl

-- pattern without forward
patterned : written_macroblock (coding_of true) (drawn_macroblock true 70).0
    ≡ printed_bits "1 01 1101 0001100 10"
unfolding answers written_macroblock state_after pick run_level coded_block block_at drawn_kind quantiser_code coded_pattern drawn_macroblock
patterned = refl

patterned-leaves : (drawn_macroblock true 70).1 ≡ 5845055713866326331
unfolding answers written_macroblock state_after pick run_level coded_block block_at drawn_kind quantiser_code coded_pattern drawn_macroblock
patterned-leaves = refl

-- forward with pattern
moved_and_patterned : written_macroblock (coding_of true) (drawn_macroblock true 326).0
    ≡ printed_bits "1 1 11 1100 001001100 0000000111000 10"
unfolding answers written_macroblock state_after pick run_level coded_block block_at drawn_kind quantiser_code coded_pattern drawn_macroblock
moved_and_patterned = refl

moved_and_patterned-leaves : (drawn_macroblock true 326).1 ≡ 10214459598776766352
unfolding answers written_macroblock state_after pick run_level coded_block block_at drawn_kind quantiser_code coded_pattern drawn_macroblock
moved_and_patterned-leaves = refl

-- intra
intra : written_macroblock (coding_of true) (drawn_macroblock true 324).0
    ≡ printed_bits "1 00011 100 00001000 00001001 0110 0110 10 100 001001011 001001100 10 100 01010 10 100 01011 10 00 01011 00000000101100 10 00 00000011000 10"
unfolding answers written_macroblock state_after pick run_level coded_block block_at drawn_kind quantiser_code coded_pattern drawn_macroblock
intra = refl

intra-leaves : (drawn_macroblock true 324).1 ≡ 17009106999991012971
unfolding answers written_macroblock state_after pick run_level coded_block block_at drawn_kind quantiser_code coded_pattern drawn_macroblock
intra-leaves = refl

-- forward with pattern, and a quantiser_scale_code
with_a_code : written_macroblock (coding_of true) (drawn_macroblock true 163).0
    ≡ printed_bits "1 00010 00111 11 1101 001001011 00001100 001000010 111 01011 0000000101001 10"
unfolding answers written_macroblock state_after pick run_level coded_block block_at drawn_kind quantiser_code coded_pattern drawn_macroblock
with_a_code = refl

with_a_code-leaves : (drawn_macroblock true 163).1 ≡ 11822131841004565916
unfolding answers written_macroblock state_after pick run_level coded_block block_at drawn_kind quantiser_code coded_pattern drawn_macroblock
with_a_code-leaves = refl

-- ---- an audio frame

first_bytes : take 12 (drawn_frame 1).0 ≡ 255 ∷ 253 ∷ 164 ∷ 0 ∷ 223 ∷ 37 ∷ 28 ∷ 136 ∷ 153 ∷ 10 ∷ 70 ∷ 15 ∷ []
unfolding state_after pick drawn_bytes drawn_frame
first_bytes = refl

last_bytes : drop 572 (drawn_frame 1).0 ≡ 71 ∷ 43 ∷ 151 ∷ 100 ∷ []
unfolding state_after pick drawn_bytes drawn_frame
last_bytes = refl

-- the PTS of the second frame is 92,160
second_frame : frame_header 1 ≡ 0 ∷ 0 ∷ 1 ∷ 192 ∷ 2 ∷ 72 ∷ 128 ∷ 128 ∷ 5 ∷ 33 ∷ 0 ∷ 5 ∷ 208 ∷ 1 ∷ []
second_frame = refl

-- ---- heads

first_head : head_of 0 ≡ 0 ∷ 0 ∷ 1 ∷ 179 ∷ 22 ∷ 1 ∷ 32 ∷ 35 ∷ 36 ∷ 159 ∷ 35 ∷ 128 ∷ 0 ∷ 0 ∷ 1 ∷ 181 ∷ 20 ∷ 138 ∷ 0 ∷ 1 ∷ 0 ∷ 0 ∷ 0 ∷ 0 ∷ 1 ∷ 184 ∷ 0 ∷ 8 ∷ 0 ∷ 64 ∷ 0 ∷ 0 ∷ 1 ∷ 0 ∷ 0
    ∷ 15 ∷ 255 ∷ 248 ∷ 0 ∷ 0 ∷ 1 ∷ 181 ∷ 143 ∷ 255 ∷ 243 ∷ 65 ∷ 128 ∷ []
unfolding head_of
first_head = refl

-- a P-picture, the second one of its group
later_head : head_of 13 ≡ 0 ∷ 0 ∷ 1 ∷ 0 ∷ 0 ∷ 87 ∷ 255 ∷ 251 ∷ 128 ∷ 0 ∷ 0 ∷ 1 ∷ 181 ∷ 129 ∷ 31 ∷ 243 ∷ 65 ∷ 128 ∷ []
unfolding head_of
later_head = refl
