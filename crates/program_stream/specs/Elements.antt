-- The elements of a program stream: pack headers, end codes and packets (ISO/IEC 13818-1, 2.5.3).
use Rattle.std.specs.Prelude.{◌≡◌, ℕ, ◌+◌, ◌<◌, ◌≤◌, ◌==◌, Bool, true, false, not, ◌&&◌, ◌||◌, List, [], ◌∷◌, ◌++◌, length, replicate, Option, Some, None, if◌then◌else◌}
use Rattle.std.specs.List.{flat_map, AllByRecursion}
use Rattle.bit_lists.specs.Fields.{bits}
use Rattle.pes_units.specs.PesHeader.{pes_packet_length, is_stream_id}
use Rattle.program_stream.specs.declared.split_fault.SplitFault.{SplitFault}
use Rattle.program_stream.specs.declared.split_fault.SplitFault.TheVariants.{BadStart, BadPack, BadLength}
use Rattle.program_stream.specs.declared.stream_ids.TheConstants.{END_CODE, PACK_START_CODE}

-- ---- an element, whatever it is

-- an element: how many zero bytes stand before it, the byte behind its start code prefix, and what follows that byte
pub record Element : Type 0 where
  pub zeros : ℕ
  pub id : ℕ
  pub body : List ℕ

-- its own bytes, from the prefix 00 00 01 on
abbrev pub element_bytes : Element → List ℕ
element_bytes element = 0 ∷ 0 ∷ 1 ∷ element.id ∷ element.body

-- the same behind its zero bytes
abbrev pub element_spelling : Element → List ℕ
element_spelling element = replicate element.zeros 0 ++ element_bytes element

-- elements one behind the other
abbrev pub all_spelled : List Element → List ℕ
all_spelled elements = flat_map element_spelling elements

-- ---- its length

-- pack_stuffing_length, in the last three bits of a pack header's 14 bytes (2.5.3.3)
abbrev pub pack_stuffing_length : List ℕ → ℕ
pack_stuffing_length bytes = bits bytes 109 3

-- How many bytes an element has from its prefix on: an end code 4, a pack header 14 and its stuffing bytes, every other one 6 and
-- as many as it states. Bits past the end are 0, so what is too short to say its length is shorter than this.
abbrev pub element_length : Element → ℕ
element_length element =
    if element.id == END_CODE then 4 else if element.id == PACK_START_CODE then 14 + pack_stuffing_length (element_bytes element) else 6 + pes_packet_length (element_bytes element)

-- its id is that of an element, and it has all of its bytes
pub record IsWholeElement (element : Element) : Type 0 where
  pub some_id : END_CODE ≤ element.id
  pub all_bytes : length (element_bytes element) ≡ element_length element

-- its id is that of an element, and it has fewer bytes
pub record IsCutShort (element : Element) : Type 0 where
  pub some_id : END_CODE ≤ element.id
  pub few_bytes : length (element_bytes element) < element_length element

-- ---- what a whole one may be refused for

-- `01` behind the start code, and each marker bit of a pack header: behind the three parts of the clock reference's base, its
-- extension, and two behind the rate (2.5.3.3). The numbers between them may be anything.
abbrev pub has_pack_marks : List ℕ → Bool
has_pack_marks bytes =
    (bits bytes 32 2 == 1) && (bits bytes 37 1 == 1) && (bits bytes 53 1 == 1) && (bits bytes 69 1 == 1) && (bits bytes 79 1 == 1) && (bits bytes 102 2 == 3)

-- an id of a video or an audio stream, whether it is carried or not
abbrev pub is_video_or_audio : ℕ → Bool
is_video_or_audio id = is_stream_id true id || is_stream_id false id

-- what refuses a whole element at a place: a pack header without its marks, or a video or audio packet that states no length
abbrev pub element_refusal : ℕ → Element → Option SplitFault
element_refusal at element =
    if (element.id == PACK_START_CODE) && not (has_pack_marks (element_bytes element)) then Some (BadPack at)
    else if is_video_or_audio element.id && (pes_packet_length (element_bytes element) == 0) then Some (BadLength at)
    else None

-- a whole element that nothing refuses
pub record IsSoundElement (element : Element) : Type 0 where
  pub whole : IsWholeElement element
  pub no_refusal : (at : ℕ) → element_refusal at element ≡ None

-- ---- the end of a stream

-- What may stand behind the last whole element: zero bytes, or an element that the end cuts, of which no byte behind the prefix need
-- stand. Of cut elements there are so many.
pub data IsEnd (rest : List ℕ) (cut : ℕ) : Type 0 where
  zero_bytes : (zeros : ℕ) → rest ≡ replicate zeros 0 → cut ≡ 0 → IsEnd rest cut
  prefix_alone : (zeros : ℕ) → rest ≡ replicate zeros 0 ++ 0 ∷ 0 ∷ 1 ∷ [] → cut ≡ 1 → IsEnd rest cut
  cut_element : (element : Element) → rest ≡ element_spelling element → IsCutShort element → cut ≡ 1 → IsEnd rest cut

-- The bytes are these elements, each whole and not refused, and such an end.
pub record AreElements (bytes : List ℕ) (elements : List Element) (cut : ℕ) : Type 0 where
  pub rest : List ℕ
  pub bytes_are : bytes ≡ all_spelled elements ++ rest
  pub sound : AllByRecursion IsSoundElement elements
  pub ending : IsEnd rest cut

-- ---- the first refusal

-- Bytes behind which no start code prefix comes before another byte than zero: they aren't zero bytes alone, nor zero bytes (or none)
-- and then 00 00 01.
pub record HasNoStart (rest : List ℕ) : Type 0 where
  pub not_zeros : (zeros : ℕ) → rest ≡ replicate zeros 0 → ⊥
  pub no_prefix : (zeros : ℕ) (more : List ℕ) → rest ≡ replicate zeros 0 ++ 0 ∷ 0 ∷ 1 ∷ more → ⊥

-- What refuses the bytes from a place on: no start code, at the first of them; a start code that is none of an element, or an element
-- that is refused, at the first byte of its prefix.
pub data IsRefusedAt (at : ℕ) (rest : List ℕ) (fault : SplitFault) : Type 0 where
  no_start : HasNoStart rest → fault ≡ BadStart at → IsRefusedAt at rest fault
  no_element : (element : Element) → rest ≡ element_spelling element → element.id < END_CODE → fault ≡ BadStart (at + element.zeros) → IsRefusedAt at rest fault
  bad_element : (element : Element) (more : List ℕ) → rest ≡ element_spelling element ++ more → IsWholeElement element → element_refusal (at + element.zeros) element ≡ Some fault
      → IsRefusedAt at rest fault

-- The first refusal: that of the bytes behind elements that are whole and not refused.
pub record IsFirstRefusal (bytes : List ℕ) (fault : SplitFault) : Type 0 where
  pub elements : List Element
  pub rest : List ℕ
  pub bytes_are : bytes ≡ all_spelled elements ++ rest
  pub sound : AllByRecursion IsSoundElement elements
  pub refused : IsRefusedAt (length (all_spelled elements)) rest fault
