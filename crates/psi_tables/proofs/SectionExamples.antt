-- Worked examples of the sections in payloads, from their definition.
use Rattle.std.proofs.Common.{◌≡◌, ℕ, true, false, List, [], ◌∷◌, ◌++◌, take, drop, replicate, Ok, Err, refl}
use Rattle.psi_tables.specs.declared.section.SectionFault.TheVariants.{BadSection, BadCrc}
use Rattle.bit_lists.specs.Fields.{bit, bits}
use Rattle.bit_lists.specs.Payload.{Payload}
use Rattle.psi_tables.specs.Sections.{crc_over, sections_of}

-- the PAT section of stream 1 with program 1 on PID 0x100
abbrev pub pat : List ℕ
pat = 0x00 ∷ 0xB0 ∷ 0x0D ∷ 0x00 ∷ 0x01 ∷ 0xC1 ∷ 0x00 ∷ 0x00 ∷ 0x00 ∷ 0x01 ∷ 0xE1 ∷ 0x00 ∷ 0xE8 ∷ 0xF9 ∷ 0x5E ∷ 0x7D ∷ []

-- the same with a wrong last byte
abbrev wrong : List ℕ
wrong = take 15 pat ++ 0x7E ∷ []

-- a section of table 1, which is passed over
abbrev other : List ℕ
other = 0x01 ∷ 0x00 ∷ 0x02 ∷ 0xAA ∷ 0xBB ∷ []

abbrev starting : ℕ → List ℕ → Payload
starting pointer bytes = record { start = true; bytes = pointer ∷ bytes }

abbrev going_on : List ℕ → Payload
going_on bytes = record { start = false; bytes = bytes }

crc_of_pat : crc_over pat ≡ 0
unfolding crc_over
crc_of_pat = refl

in_one_payload : sections_of (starting 0 (pat ++ 0xFF ∷ 0xFF ∷ []) ∷ []) ≡ Ok pat ∷ []
unfolding sections_of crc_over bits bit
in_one_payload = refl

-- bytes behind it in a payload without a start are dropped
over_three_payloads : sections_of (starting 0 (take 5 pat) ∷ going_on (take 6 (drop 5 pat)) ∷ going_on (drop 11 pat ++ 0xAA ∷ 0xBB ∷ []) ∷ []) ≡ Ok pat ∷ []
unfolding sections_of crc_over bits bit
over_three_payloads = refl

two_in_one_payload : sections_of (starting 0 (pat ++ pat) ∷ []) ≡ Ok pat ∷ Ok pat ∷ []
unfolding sections_of crc_over bits bit
two_in_one_payload = refl

-- the first goes on up to the place that the second payload's pointer names, and the second begins there
around_a_pointer : sections_of (starting 0 (take 4 pat) ∷ starting 12 (drop 4 pat ++ pat) ∷ []) ≡ Ok pat ∷ Ok pat ∷ []
unfolding sections_of crc_over bits bit
around_a_pointer = refl

-- a section that isn't whole at the place is dropped
cut_at_a_pointer : sections_of (starting 0 (take 4 pat) ∷ starting 11 (take 11 (drop 4 pat) ++ pat) ∷ []) ≡ Ok pat ∷ []
unfolding sections_of crc_over bits bit
cut_at_a_pointer = refl

begun_without_a_start : sections_of (starting 0 (take 10 pat) ∷ going_on (drop 10 pat ++ take 5 pat) ∷ going_on (drop 5 pat) ∷ []) ≡ Ok pat ∷ []
unfolding sections_of crc_over bits bit
begun_without_a_start = refl

nothing_before_a_start : sections_of (going_on pat ∷ starting 2 (0x00 ∷ 0xB0 ∷ pat) ∷ []) ≡ Ok pat ∷ []
unfolding sections_of crc_over bits bit
nothing_before_a_start = refl

-- the rest of its payload is dropped with it
bad_crc_then_good : sections_of (starting 0 (wrong ++ pat) ∷ starting 0 pat ∷ []) ≡ Err BadCrc ∷ Ok pat ∷ []
unfolding sections_of crc_over bits bit
bad_crc_then_good = refl

bad_before_a_pointer : sections_of (starting 0 (take 10 wrong) ∷ starting 6 (drop 10 wrong ++ pat) ∷ starting 0 pat ∷ []) ≡ Err BadCrc ∷ Ok pat ∷ []
unfolding sections_of crc_over bits bit
bad_before_a_pointer = refl

another_table_passed_over : sections_of (starting 0 (other ++ pat) ∷ []) ≡ Ok pat ∷ []
unfolding sections_of crc_over bits bit
another_table_passed_over = refl

stuffing_ends_a_payload : sections_of (starting 0 (0xFF ∷ pat) ∷ going_on pat ∷ starting 0 pat ∷ []) ≡ Ok pat ∷ []
unfolding sections_of crc_over bits bit
stuffing_ends_a_payload = refl

-- as soon as the length is there: 1,022 and 8
bad_lengths : sections_of (starting 0 (0x02 ∷ 0xB3 ∷ []) ∷ going_on (0xFE ∷ []) ∷ starting 0 (0x00 ∷ 0xB0 ∷ 0x08 ∷ []) ∷ []) ≡ Err BadSection ∷ Err BadSection ∷ []
unfolding sections_of crc_over bits bit
bad_lengths = refl

-- a pointer to exactly the payload's end, which drops the section before too
pointer_past : sections_of (starting 0 (take 4 pat) ∷ starting 12 (drop 4 pat) ∷ going_on (drop 4 pat) ∷ []) ≡ Err BadSection ∷ []
unfolding sections_of crc_over bits bit
pointer_past = refl

-- a payload of 184 bytes whose pointer is 183
pointer_past_the_most : sections_of (starting 183 (replicate 183 0xFF) ∷ []) ≡ Err BadSection ∷ []
unfolding sections_of crc_over bits bit
pointer_past_the_most = refl

-- the flag of a payload without bytes means nothing
no_bytes : sections_of (starting 0 (take 4 pat) ∷ record { start = true; bytes = [] } ∷ going_on (drop 4 pat) ∷ []) ≡ Ok pat ∷ []
unfolding sections_of crc_over bits bit
no_bytes = refl
