-- What a PMT section says, as a function of its bytes (ISO/IEC 13818-1, 2.4.4.8): `IsPmt` and `HasRoom` in one, for definitions that compute.
use Rattle.std.specs.Prelude.{ℕ, zero, suc, ◌+◌, ◌==◌, ◌&&◌, Bool, nat_le, nat_lt, List, [], ◌∷◌, length, take, drop, map, Option, Some, None, option_and_then, if◌then◌else◌}
use Rattle.std.specs.List.{list_all, sum_by}
use Rattle.std.specs.Option.{option_map}
use Rattle.bit_lists.specs.Fields.{bits}
use Rattle.psi_tables.specs.declared.program_map.ProgramMap.{ProgramMap}
use Rattle.psi_tables.specs.declared.section.TheConstants.{SECTION_LENGTH_LEAST}
use Rattle.psi_tables.specs.declared.stream.Stream.{Stream}
use Rattle.psi_tables.specs.declared.stream.TheConstants.{DESCRIPTOR_BYTES, STREAMS_MOST}
use Rattle.psi_tables.specs.Section.{table_id, section_length, table_id_extension, current_next_indicator, content}
use Rattle.psi_tables.specs.Descriptors.{descriptor_length, count_dropped}
use Rattle.psi_tables.specs.Streams.{StreamInfo, ES_info_length, stream_of}
use Rattle.psi_tables.specs.Pmt.{PCR_PID, program_info_length}

-- Items one behind the other up to the end of the bytes, at most n: each has as many bytes as its front says, and is read by itself.
abbrev pub items_in : {A : Type 0} → (List ℕ → ℕ) → (List ℕ → Option A) → List ℕ → ℕ → Option (List A)
items_in size item [] n = Some []
items_in size item (byte ∷ bytes) zero = None
items_in size item (byte ∷ bytes) (suc n) =
    if nat_lt (length (byte ∷ bytes)) (size (byte ∷ bytes)) then None else
    option_and_then (λ first. option_map (λ others. first ∷ others) (items_in size item (drop (size (byte ∷ bytes)) (byte ∷ bytes)) n))
    (item (take (size (byte ∷ bytes)) (byte ∷ bytes)))

-- the bytes of a descriptor that bytes begin with (2.6.1)
abbrev pub descriptor_size : List ℕ → ℕ
descriptor_size bytes = 2 + descriptor_length bytes

-- the descriptors that bytes are
abbrev pub descriptors_in : List ℕ → Option (List (List ℕ))
descriptors_in bytes = items_in descriptor_size Some bytes (length bytes)

-- the bytes of a stream that bytes begin with
abbrev pub info_size : List ℕ → ℕ
info_size bytes = 5 + ES_info_length bytes

-- the stream that bytes are, with these descriptors
abbrev pub info_with : List ℕ → List (List ℕ) → StreamInfo
info_with bytes descriptors = record { stream_type = bits bytes 0 8; elementary_PID = bits bytes 11 13; descriptors = descriptors }

-- the streams that bytes are
abbrev pub infos_in : List ℕ → Option (List StreamInfo)
infos_in bytes = items_in info_size (λ info. option_map (info_with info) (descriptors_in (drop 5 info))) bytes (length bytes)

-- no more streams, and no more descriptor bytes of a stream, than are kept
abbrev pub has_room : List Stream → Bool
has_room streams = nat_le (length streams) STREAMS_MOST && list_all (λ stream. nat_le (length stream.descriptors.items) DESCRIPTOR_BYTES) streams

-- a current PMT section with room for what its content begins with
abbrev pub is_pmt : List ℕ → Bool
is_pmt section =
    (table_id section == 2) && (current_next_indicator section == 1) && (length section == 3 + section_length section)
    && nat_le SECTION_LENGTH_LEAST (section_length section) && nat_le (4 + program_info_length (content section)) (length (content section))

-- the program of a section with these descriptors of its own and these streams
abbrev pub program_with : List ℕ → List (List ℕ) → List StreamInfo → ProgramMap
program_with section descriptors infos = record {
  number = table_id_extension section;
  pcr_pid = PCR_PID (content section);
  streams = record { items = map stream_of infos };
  dropped = length descriptors + sum_by (λ info. count_dropped info.descriptors) infos;
}

-- the program of a current PMT section, where it is one and what it says is kept
abbrev pub pmt_of : List ℕ → Option ProgramMap
pmt_of section =
    if is_pmt section then option_and_then (λ descriptors. option_and_then (λ infos.
    if has_room (map stream_of infos) then Some (program_with section descriptors infos) else None)
    (infos_in (drop (4 + program_info_length (content section)) (content section))))
    (descriptors_in (take (program_info_length (content section)) (drop 4 (content section)))) else None
