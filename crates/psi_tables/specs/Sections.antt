-- The sections in the payloads of one PID (ISO/IEC 13818-1, 2.4.4), as a list for any list of payloads.
use Rattle.std.specs.Prelude.{
  ◌≡◌,
  ℕ,
  zero,
  suc,
  ◌+◌,
  ◌-◌,
  ◌*◌,
  ◌^◌,
  ◌==◌,
  nat_lt,
  nat_le,
  bit_xor,
  Bool,
  false,
  not,
  ◌||◌,
  List,
  [],
  ◌∷◌,
  ◌++◌,
  length,
  take,
  drop,
  replicate,
  slice_index,
  Result,
  Ok,
  Err,
  is_err,
  if◌then◌else◌,
}
use Rattle.std.specs.List.{list_any}
use Rattle.stream_constants.specs.declared.packets.TheConstants.{PAYLOAD_BYTES}
use Rattle.psi_tables.specs.declared.section.TheConstants.{SECTION_LENGTH_LEAST, SECTION_LENGTH_MOST}
use Rattle.bit_lists.specs.Fields.{bit_list}
use Rattle.bit_lists.specs.Payload.{Payload, is_start}
use Rattle.psi_tables.specs.declared.section.SectionFault.{SectionFault}
use Rattle.psi_tables.specs.declared.section.SectionFault.TheVariants.{BadSection, BadCrc}
use Rattle.psi_tables.specs.Crc.{crc_polynomial, inverted}
use Rattle.psi_tables.specs.Section.{table_id, section_length}

-- ---- a pointer in a payload

-- a payload with the start flag begins with a pointer_field (2.4.4.1); the flag of one without bytes means nothing
abbrev pub has_pointer : Payload → Bool
has_pointer payload = is_start payload

-- its first byte: so many bytes stand between it and the place where a section begins
abbrev pub pointer_field : Payload → ℕ
pointer_field payload = slice_index payload.bytes 0

-- the place that is pointed at isn't in the payload
abbrev pub points_past : Payload → Bool
points_past payload = nat_le (length payload.bytes) (1 + pointer_field payload)

-- the bytes that go on with a section before, of which a pointer past the payload leaves none
abbrev pub before_pointer : Payload → List ℕ
before_pointer payload = if points_past payload then [] else take (pointer_field payload) (drop 1 payload.bytes)

-- the bytes from that place on
abbrev pub behind_pointer : Payload → List ℕ
behind_pointer payload = drop (1 + pointer_field payload) payload.bytes

-- the bytes of payloads up to the next place that is pointed at
abbrev pub bytes_on : List Payload → List ℕ
bytes_on [] = []
bytes_on (payload ∷ payloads) = if has_pointer payload then before_pointer payload else payload.bytes ++ bytes_on payloads

-- ---- one section

-- bytes of its header up to section_length
abbrev pub length_end : ℕ
length_end = 3

-- a byte behind the last section of a payload, in place of a table_id
abbrev pub stuffing_byte : ℕ
stuffing_byte = 0xFF

-- the table ids of the PAT and of PMT sections; sections of others are passed over
abbrev pub is_read : List ℕ → Bool
is_read bytes = (table_id bytes == 0) || (table_id bytes == 2)

-- less than the rest of the header and the CRC, or more than a PAT or a PMT section may have
abbrev pub has_bad_length : List ℕ → Bool
has_bad_length bytes = nat_lt (section_length bytes) SECTION_LENGTH_LEAST || nat_lt SECTION_LENGTH_MOST (section_length bytes)

-- its length in bytes
abbrev pub section_size : List ℕ → ℕ
section_size bytes = length_end + section_length bytes

-- one step of a long division by the CRC's polynomial: the next bit is brought down, and the polynomial goes in or not
abbrev pub brought_down : ℕ → ℕ → ℕ
brought_down remainder bit = if nat_lt (2 * remainder + bit) (2 ^ 32) then 2 * remainder + bit else bit_xor (2 * remainder + bit) crc_polynomial

-- what is left once all bits are brought down
abbrev pub remainder_on : ℕ → List ℕ → ℕ
remainder_on remainder [] = remainder
remainder_on remainder (bit ∷ bits) = remainder_on (brought_down remainder bit) bits

-- The CRC_32 over bytes by long division. The division of polynomials has the same one (`laws::crc_by_long_division`);
-- this form is here since a list of sections goes by a test.
unfoldable pub crc_over : List ℕ → ℕ
crc_over bytes = remainder_on 0 (inverted (bit_list bytes ++ replicate 32 0))

-- a section, or why it isn't one
abbrev pub Found : Type 0
Found = Result (List ℕ) SectionFault

-- the bytes of a section, where the CRC over them is 0
abbrev pub checked : List ℕ → Found
checked section = if crc_over section == 0 then Ok section else Err BadCrc

-- What is found of the section at the head of these bytes: a bad length as soon as its length is there, and the
-- section, or its bad CRC, once all its bytes are. Nothing before, and nothing of a section that is passed over.
abbrev pub found_at : List ℕ → List Found
found_at bytes =
    if nat_lt (length bytes) length_end || not (is_read bytes) then [] else
    if has_bad_length bytes then Err BadSection ∷ [] else
    if nat_lt (length bytes) (section_size bytes) then [] else checked (take (section_size bytes) bytes) ∷ []

-- ---- all sections

-- What is found of the sections that begin in these bytes of a payload, one behind the other up to a stuffing byte. The
-- first n bytes belong to a section before; the last section goes on in the bytes `next`, in which none begins.
abbrev pub found_from : ℕ → List ℕ → List ℕ → List Found
found_from n [] next = []
found_from (suc n) (byte ∷ bytes) next = found_from n bytes next
found_from zero (byte ∷ bytes) next =
    if byte == stuffing_byte then [] else
    found_at (byte ∷ bytes ++ next) ++ found_from (section_size (byte ∷ bytes ++ next) - 1) bytes next

-- what is found of the sections that begin in a payload, with the bytes in which the last one goes on
abbrev pub found_in : Payload → List ℕ → List Found
found_in payload next =
    if has_pointer payload then if points_past payload then Err BadSection ∷ [] else found_from 0 (behind_pointer payload) next else []

-- in all payloads, each with the bytes of those behind it in which its last section goes on
abbrev pub found_in_all : List Payload → List Found
found_in_all [] = []
found_in_all (payload ∷ payloads) = found_in payload (bytes_on payloads) ++ found_in_all payloads

-- one of them is an error
abbrev pub has_error : List Found → Bool
has_error found = list_any is_err found

-- what is found up to the first error, with that error
abbrev pub until_error : List Found → List Found
until_error [] = []
until_error (Ok section ∷ found) = Ok section ∷ until_error found
until_error (Err fault ∷ found) = Err fault ∷ []

-- The sections of payloads that are read together with those before them: behind the payload in which the first error
-- is found, reading begins anew.
abbrev pub sections_behind : List Payload → List Payload → List Found
sections_behind before [] = until_error (found_in_all before)
sections_behind before (payload ∷ payloads) =
    let found = until_error (found_in_all (before ++ payload ∷ [])) in
    if has_error found then found ++ sections_behind [] payloads else sections_behind (before ++ payload ∷ []) payloads

-- the sections of payloads, and the errors in their places
unfoldable pub sections_of : List Payload → List Found
sections_of payloads = sections_behind [] payloads

-- a section behind a pointer_field of 0, and stuffing bytes to the packet's end (2.4.4.1)
abbrev pub section_payload : List ℕ → List ℕ
section_payload section = 0 ∷ section ++ replicate (PAYLOAD_BYTES - 1 - length section) stuffing_byte

-- what a payload adds to the sections of those before it
abbrev pub added : List Payload → Payload → List Found
added before payload = drop (length (sections_of before)) (sections_of (before ++ payload ∷ []))

-- a payload that goes on with what is before it
abbrev pub going : List ℕ → Payload
going bytes = record { start = false; bytes = bytes }

-- ---- reading in turn

-- What was given of the payloads that were fed, and what others, which are held, still give, are the sections of all
-- payloads, whatever follows.
pub record GivesInTurn (fed : List Payload) (given : List Found) (held : List Payload) : Type 0 where
  pub all : (later : List Payload) → sections_of (fed ++ later) ≡ given ++ sections_of (held ++ later)
