-- What is written as a program map section is one.
use Rattle.std.proofs.Common.{◌≡◌, ℕ, ◌+◌, ◌*◌, ◌^◌, ◌<◌, ◌≤◌, Bool, true, cond, List, [], ◌∷◌, ◌++◌, All, length, get_or, take, drop, map, refl, sym, ap, ap₂, subst, ◌∙◌, arith, length-append}
use Rattle.std.specs.Prelude.{not}
use Rattle.std.specs.List.{flat_map, sum_by, AllPass, filter, concat}
use Rattle.std.proofs.lemmas.List.Elements.{All-head, All-tail}
use Rattle.std.proofs.lemmas.List.Folds.{length-flat_map-take}
use Rattle.std.proofs.lemmas.List.Sums.{sum_by-cons}
use Rattle.psi_tables.specs.declared.stream.Stream.{Stream}
use Rattle.psi_tables.specs.declared.program_map.ProgramMap.{ProgramMap}
use Rattle.psi_tables.specs.Section.{IsItemRow, IsWithCrc, written_section_header, written_pid, written_length}
use Rattle.psi_tables.specs.Descriptors.{IsDescriptor, is_kept, kept_bytes, count_dropped}
use Rattle.psi_tables.specs.Streams.{StreamInfo, IsStreamInfo, stream_of, IsStreamWritable, written_stream}
use Rattle.psi_tables.specs.Pmt.{PCR_PID, program_info_length, IsMapContent, IsPmt, HasRoom, IsWritableMap, written_streams, written_pmt, without_dropped}
use Rattle.psi_tables.proofs.Elements.{descriptor_tag-is, elementary_PID-is, ES_info_length-is, PCR_PID-is, program_info_length-is}
use Rattle.psi_tables.proofs.MapContents.{IsCut, content_says}
use Rattle.psi_tables.proofs.WrittenPat.{section_says}

-- ---- descriptors that are all kept

kept_whole : (descriptors : List (List ℕ)) (bytes : List ℕ) → IsItemRow IsDescriptor descriptors bytes → AllPass is_kept descriptors → kept_bytes descriptors ≡ bytes
kept_whole [] bytes row keeps = sym row
kept_whole (d ∷ ds) bytes row keeps =
    let first : is_kept d ≡ true = All-head (λ (x : List ℕ). is_kept x ≡ true) d ds keeps in
    let others : kept_bytes ds ≡ row.1 = kept_whole ds row.1 row.4 (All-tail (λ (x : List ℕ). is_kept x ≡ true) d ds keeps) in
    ap (λ (b : Bool). concat (cond b (d ∷ filter is_kept ds) (filter is_kept ds))) first
    ∙ ap₂ (λ (xs ys : List ℕ). xs ++ ys) row.3.bytes_are others ∙ sym row.2

none_dropped : (descriptors : List (List ℕ)) → AllPass is_kept descriptors → count_dropped descriptors ≡ 0
none_dropped [] keeps = refl
none_dropped (d ∷ ds) keeps =
    let first : is_kept d ≡ true = All-head (λ (x : List ℕ). is_kept x ≡ true) d ds keeps in
    let counts : cond {A = ℕ} (not (is_kept d)) 1 0 ≡ 0 = ap (λ (b : Bool). cond {A = ℕ} (not b) 1 0) first in
    omega (arith, sum_by-cons (λ (x : List ℕ). cond (not (is_kept x)) 1 0) d ds, counts, none_dropped ds (All-tail (λ (x : List ℕ). is_kept x ≡ true) d ds keeps))

-- ---- streams

abbrev StreamSays : Stream → Type 0
StreamSays stream = (info : StreamInfo) × IsStreamInfo info (written_stream stream) × (stream ≡ stream_of info) × (count_dropped info.descriptors ≡ 0)

stream_says : (stream : Stream) → IsStreamWritable stream → stream.kind < 256 → length stream.descriptors.items ≤ 183 → StreamSays stream
stream_says stream is kind_low fits =
    let bytes : List ℕ = written_stream stream in (
      record { stream_type = stream.kind; elementary_PID = stream.pid; descriptors = is.descriptors },
      record {
        size = omega (arith, fits, ES_info_length-is bytes);
        type_is = omega (arith, kind_low, descriptor_tag-is bytes);
        pid = omega (arith, is.pid, elementary_PID-is bytes);
        descriptors_are = is.descriptors_are;
      },
      ap (λ (xs : List ℕ). record { kind = stream.kind; pid = stream.pid; descriptors = record { items = xs } }) (sym (kept_whole is.descriptors stream.descriptors.items is.descriptors_are is.kept)),
      none_dropped is.descriptors is.kept,
    )

abbrev StreamsSay : List Stream → Type 0
StreamsSay streams = (infos : List StreamInfo) × IsItemRow IsStreamInfo infos (flat_map written_stream streams) × (streams ≡ map stream_of infos)
    × (sum_by (λ (i : StreamInfo). count_dropped i.descriptors) infos ≡ 0)

streams_say : (streams : List Stream) → All StreamSays streams → StreamsSay streams
streams_say [] each = ([], refl, refl, refl)
streams_say (s ∷ streams) each =
    let first = All-head StreamSays s streams each in
    let others = streams_say streams (All-tail StreamSays s streams each) in (
      first.0 ∷ others.0,
      (written_stream s, flat_map written_stream streams, refl, first.1, others.1),
      ap₂ (λ (x : Stream) (xs : List Stream). x ∷ xs) first.2 others.2,
      omega (arith, sum_by-cons (λ (i : StreamInfo). count_dropped i.descriptors) first.0 others.0, first.3, others.3),
    )

-- ---- room

five_each : (streams : List Stream) → 5 * length streams ≤ length (flat_map written_stream streams)
five_each [] = omega arith
five_each (s ∷ streams) = omega (arith, five_each streams, length-append (written_stream s) (flat_map written_stream streams))

pub written_has_room : (program : ProgramMap) → length (written_streams program) ≤ 183 → HasRoom program
written_has_room program few = record {
  streams = omega (arith, few, five_each program.streams.items);
  descriptors = λ k d within. omega (arith, few, length-flat_map-take written_stream program.streams.items k d within);
}

-- ---- sections

pub written_pmt_is : (program : ProgramMap) (bytes : List ℕ) → program.number < 2 ^ 16 → All (λ stream. stream.kind < 256) program.streams.items
    → IsWritableMap program → HasRoom (without_dropped program) → length (written_streams program) ≤ 183 → IsWithCrc (written_pmt program) bytes
    → IsPmt (without_dropped program) bytes
written_pmt_is program bytes number_low kinds writable room few is =
    let streams : List ℕ = written_streams program in
    let body : List ℕ = written_pid program.pcr_pid ++ written_length 0 ++ streams in
    let size : 13 + length streams ≡ 9 + length body = omega arith in
    let says = section_says 2 program.number body bytes (omega arith) number_low (omega (arith, few)) (subst (λ (n : ℕ). IsWithCrc (written_section_header 2 n program.number ++ body) bytes) size is) in
    let infos = streams_say program.streams.items (λ k d within. stream_says (get_or program.streams.items k d) (writable.streams k d within) (kinds k d within) (room.descriptors k d within)) in
    let none : program_info_length body ≡ 0 = omega (arith, program_info_length-is body) in
    let cut : IsCut body [] streams = record {
      room = omega (arith, none);
      info_is = sym (ap (λ (n : ℕ). take n (drop 4 body)) none);
      streams_are = sym (ap (λ (n : ℕ). drop (4 + n) body) none);
    } in
    let pcr : program.pcr_pid ≡ PCR_PID body = omega (arith, writable.pcr, PCR_PID-is body) in
    record {
      current = says.header.current;
      whole = says.whole;
      number = sym says.header.extension_is;
      content_is = subst (IsMapContent (without_dropped program)) (sym says.content_is)
          (content_says body [] streams (without_dropped program) [] infos.0 cut pcr refl infos.1 infos.2 (omega (arith, infos.3)));
    }
