-- The content of program map sections, and what is kept of it.
use Rattle.std.proofs.Common.{◌≡◌, ℕ, ◌+◌, ◌*◌, ◌<◌, ◌≤◌, List, All, length, get_or, take, drop, map, sym, ap, ap₂, subst, ◌∙◌, arith, length-drop}
use Rattle.std.specs.Prelude.{bit_and}
use Rattle.std.specs.List.{sum_by}
use Rattle.std.proofs.lemmas.List.{length-map, get_or-map, get_or-take, drop-drop}
use Rattle.std.proofs.lemmas.List.Elements.{All-map, All-same}
use Rattle.bit_lists.proofs.MaskLemmas.{and_15, and_31}
use Rattle.psi_tables.specs.declared.stream.Stream.{Stream}
use Rattle.psi_tables.specs.declared.program_map.ProgramMap.{ProgramMap}
use Rattle.psi_tables.specs.Section.{IsItemRow}
use Rattle.psi_tables.specs.Descriptors.{IsDescriptor, count_dropped}
use Rattle.psi_tables.specs.Streams.{StreamInfo, IsStreamInfo, stream_of}
use Rattle.psi_tables.specs.Private.Streams.{IsKeepable}
use Rattle.psi_tables.specs.Pmt.{PCR_PID, program_info_length, IsMapContent, HasRoom}
use Rattle.psi_tables.proofs.Elements.{PCR_PID-is, program_info_length-is}
use Rattle.psi_tables.proofs.Rows.{same_row}
use Rattle.psi_tables.proofs.DescriptorRows.{descriptors_told}
use Rattle.psi_tables.proofs.StreamRows.{streams_told}

abbrev FitsDescriptors : Stream → Type 0
FitsDescriptors stream = length stream.descriptors.items ≤ 183

-- where a map has room, so has what it was taken from
pub keepable_from : (program : ProgramMap) (streams : List StreamInfo) → program.streams.items ≡ map stream_of streams → HasRoom program → (length streams ≤ 64) × All IsKeepable streams
keepable_from program streams kept room =
    let all : All FitsDescriptors (map stream_of streams) = All-same FitsDescriptors (map stream_of streams) program.streams.items (sym kept) room.descriptors in (
      omega (arith, room.streams, ap length kept, length-map streams stream_of),
      λ k d within. subst FitsDescriptors (get_or-map stream_of streams k d (stream_of d) within) (all k (stream_of d) (omega (arith, within, length-map streams stream_of))),
    )

-- and where what it was taken from has room, so has the map
pub room_from : (program : ProgramMap) (streams : List StreamInfo) → program.streams.items ≡ map stream_of streams → length streams ≤ 64 → All IsKeepable streams → HasRoom program
room_from program streams kept few keeps = record {
  streams = omega (arith, few, ap length kept, length-map streams stream_of);
  descriptors = All-same FitsDescriptors program.streams.items (map stream_of streams) kept (All-map FitsDescriptors stream_of streams keeps);
}

-- ---- the parts of a content

-- the program's own descriptors, and the streams behind them
pub record IsCut (content info streams : List ℕ) : Type 0 where
  pub room : 4 + program_info_length content ≤ length content
  pub info_is : info ≡ take (program_info_length content) (drop 4 content)
  pub streams_are : streams ≡ drop (4 + program_info_length content) content

-- as the code cuts it
pub cut_at : (content head rest info streams : List ℕ) (n : ℕ) → ((i : ℕ) → get_or content i 0 < 256) → head ≡ take 4 content → rest ≡ drop 4 content
    → 4 ≤ length content → n ≡ bit_and (get_or head 2 0) 15 * 256 + get_or head 3 0 → n ≤ length rest → info ≡ take n rest → streams ≡ drop n rest
    → IsCut content info streams
cut_at content head rest info streams n bytes head_is rest_is long n_is within info_is streams_are =
    let at : (i : ℕ) → i < 4 → get_or head i 0 ≡ get_or content i 0 = λ i low. ap (λ (xs : List ℕ). get_or xs i 0) head_is ∙ get_or-take 4 content i 0 low in
    let same : n ≡ program_info_length content = omega (arith, n_is, program_info_length-is content, at 2 (omega arith), at 3 (omega arith), and_15 (get_or head 2 0), bytes 3) in
    record {
      room = omega (arith, within, same, ap length rest_is, length-drop 4 content, long);
      info_is = info_is ∙ ap₂ (λ (k : ℕ) (xs : List ℕ). take k xs) same rest_is;
      streams_are = streams_are ∙ ap₂ (λ (k : ℕ) (xs : List ℕ). drop k xs) same rest_is ∙ drop-drop (program_info_length content) 4 content;
    }

pub pcr_at : (content head : List ℕ) (pcr : ℕ) → ((i : ℕ) → get_or content i 0 < 256) → head ≡ take 4 content → pcr ≡ bit_and (get_or head 0 0) 31 * 256 + get_or head 1 0 → pcr ≡ PCR_PID content
pcr_at content head pcr bytes head_is pcr_is =
    let at : (i : ℕ) → i < 4 → get_or head i 0 ≡ get_or content i 0 = λ i low. ap (λ (xs : List ℕ). get_or xs i 0) head_is ∙ get_or-take 4 content i 0 low in
    omega (arith, pcr_is, PCR_PID-is content, at 0 (omega arith), at 1 (omega arith), and_31 (get_or head 0 0), bytes 1)

-- what its parts say, the content says
pub content_says : (content info streams : List ℕ) (program : ProgramMap) (descriptors : List (List ℕ)) (infos : List StreamInfo)
    → IsCut content info streams → program.pcr_pid ≡ PCR_PID content → IsItemRow IsDescriptor descriptors info → IsItemRow IsStreamInfo infos streams
    → program.streams.items ≡ map stream_of infos → program.dropped ≡ length descriptors + sum_by (λ i. count_dropped i.descriptors) infos
    → IsMapContent program content
content_says content info streams program descriptors infos cut pcr descriptors_are streams_are kept dropped = record {
  pcr = pcr;
  room = cut.room;
  descriptors = descriptors;
  descriptors_are = subst (IsItemRow IsDescriptor descriptors) cut.info_is descriptors_are;
  streams = infos;
  streams_are = subst (IsItemRow IsStreamInfo infos) cut.streams_are streams_are;
  kept = kept;
  dropped_are = dropped;
}

-- a content says one thing of a program at most
pub one_map : (p q : ProgramMap) (content : List ℕ) → IsMapContent p content → IsMapContent q content → p.number ≡ q.number → p ≡ q
one_map p q content first second numbers =
    let infos : first.streams ≡ second.streams = same_row IsStreamInfo streams_told first.streams second.streams
    (drop (4 + program_info_length content) content) first.streams_are second.streams_are in
    let descriptors : first.descriptors ≡ second.descriptors =
    same_row IsDescriptor descriptors_told first.descriptors second.descriptors (take (program_info_length content) (drop 4 content)) first.descriptors_are second.descriptors_are in
    let pcrs : p.pcr_pid ≡ q.pcr_pid = first.pcr ∙ sym second.pcr in
    let streams : p.streams.items ≡ q.streams.items = first.kept ∙ ap (map stream_of) infos ∙ sym second.kept in
    let dropped : p.dropped ≡ q.dropped =
    first.dropped_are ∙ ap₂ (λ (ds : List (List ℕ)) (is : List StreamInfo). length ds + sum_by (λ i. count_dropped i.descriptors) is) descriptors infos ∙ sym second.dropped_are in
    ap₂ (λ (n c : ℕ). record { number = n; pcr_pid = c; streams = p.streams; dropped = p.dropped }) numbers pcrs
    ∙ ap₂ (λ (xs : List Stream) (d : ℕ). record { number = q.number; pcr_pid = q.pcr_pid; streams = record { items = xs }; dropped = d }) streams dropped
