-- A program map that was read can be written again.
use Rattle.std.proofs.Common.{◌≡◌, ℕ, ◌+◌, ◌^◌, ◌<◌, Bool, true, false, cond, List, [], ◌∷◌, ◌++◌, All, length, map, drop, Some, Ok, Err, refl, sym, ap, subst, ◌∙◌}
use Rattle.std.specs.List.{concat, filter, find}
use Rattle.std.proofs.lemmas.List.Elements.{All-cons, All-head, All-nil, All-tail, filter_passes}
use Rattle.std.proofs.lemmas.Option.{none-some, same_Some}
use Rattle.bit_lists.specs.Fields.{bits}
use Rattle.bit_lists.proofs.WordLemmas.{bits_below}
use Rattle.psi_tables.specs.declared.program_map.ProgramMap.{ProgramMap}
use Rattle.psi_tables.specs.declared.stream.Stream.{Stream}
use Rattle.psi_tables.specs.Section.{IsItemRow, content}
use Rattle.psi_tables.specs.Descriptors.{IsDescriptor, descriptor_length, is_kept, kept_bytes}
use Rattle.psi_tables.specs.Streams.{StreamInfo, IsStreamInfo, IsStreamWritable, stream_of}
use Rattle.psi_tables.specs.Pmt.{IsMapContent, IsPmt, IsWritableMap}
use Rattle.psi_tables.specs.PmtOf.{pmt_of}
use Rattle.psi_tables.proofs.PmtFunction.{pmt_is}
use Rattle.ts_demux.specs.declared.demux_fault.DemuxFault.{DemuxFault}
use Rattle.ts_demux.specs.Streams.{audios_of, is_carried, is_video, video_of, without_video}
use Rattle.ts_demux.specs.Tables.{IsMapOf, Stop, StopsAt, refuse, take, no_sync, pat_packet, pmt_packet, pat_section, pmt_section, map_section}
use Rattle.psi_tables.specs.Sections.{Found}
use Rattle.ts_demux.specs.Demux.{HasCarriedMap}

-- ---- descriptors

-- what is kept of a row of descriptors is a row of those that are kept
kept-row : (descriptors : List (List ℕ)) (bytes : List ℕ) → IsItemRow IsDescriptor descriptors bytes → IsItemRow IsDescriptor (filter is_kept descriptors) (kept_bytes descriptors)
kept-row [] bytes row = refl
kept-row (d ∷ ds) bytes row = by_test (is_kept d) (kept-row ds row.1 row.4)
  where
    itself : IsDescriptor d d
    itself = record { bytes_are = refl; size = subst (λ (b : List ℕ). length b ≡ 2 + descriptor_length b) (sym row.3.bytes_are) row.3.size }

    by_test : (kept : Bool) → IsItemRow IsDescriptor (filter is_kept ds) (kept_bytes ds)
        → IsItemRow IsDescriptor (cond kept (d ∷ filter is_kept ds) (filter is_kept ds)) (concat (cond kept (d ∷ filter is_kept ds) (filter is_kept ds)))
    by_test true rest = (d, kept_bytes ds, refl, itself, rest)
    by_test false rest = rest

-- ---- streams

stream-writable : (info : StreamInfo) (bytes : List ℕ) → IsStreamInfo info bytes → IsStreamWritable (stream_of info)
stream-writable info bytes is = record {
  pid = subst (λ (n : ℕ). n < 2 ^ 13) (sym is.pid) (bits_below bytes 11 13);
  descriptors = filter is_kept info.descriptors;
  descriptors_are = kept-row info.descriptors (drop 5 bytes) is.descriptors_are;
  kept = filter_passes is_kept info.descriptors;
}

infos-writable : (infos : List StreamInfo) (bytes : List ℕ) → IsItemRow IsStreamInfo infos bytes → All IsStreamWritable (map stream_of infos)
infos-writable [] bytes row = All-nil IsStreamWritable
infos-writable (info ∷ infos) bytes row =
    All-cons IsStreamWritable (stream_of info) (map stream_of infos) (stream-writable info row.0 row.3) (infos-writable infos row.1 row.4)

section-writable : (section : List ℕ) (program : ProgramMap) → pmt_of section ≡ Some program → IsWritableMap program
section-writable section program made =
    let is : IsPmt program section = (pmt_is section program made).0 in
    let says : IsMapContent program (content section) = is.content_is in record {
      pcr = subst (λ (n : ℕ). n < 2 ^ 13) (sym says.pcr) (bits_below (content section) 3 13);
      streams = subst (All IsStreamWritable) (sym says.kept) (infos-writable says.streams (drop (4 + bits (content section) 20 12) (content section)) says.streams_are);
    }

-- ---- the map that is taken

refused : (fault : DemuxFault) (program : ProgramMap) → refuse fault ≡ take program → ⊥
refused fault program same = cc

told-map : (number : ℕ) (found : Found) (one other : ProgramMap) → IsMapOf number found one → one ≡ other → (section : List ℕ) × (pmt_of section ≡ Some other)
told-map number (Ok section) one other told same = (section, told.0 ∙ ap Some same)
told-map number (Err fault) one other told same = absurd told

taken-map : (file : List ℕ) (number n rank : ℕ) (stop : Stop) (program : ProgramMap) → StopsAt file number n rank stop → stop ≡ take program
    → (section : List ℕ) × (pmt_of section ≡ Some program)
taken-map file number n rank stop program (no_sync r h e) is = absurd (refused _ program (sym e ∙ is))
taken-map file number n rank stop program (pat_packet fault r h e) is = absurd (refused _ program (sym e ∙ is))
taken-map file number n rank stop program (pmt_packet packet index pid fault r t apart h e) is = absurd (refused _ program (sym e ∙ is))
taken-map file number n rank stop program (pat_section k found fault r s bad e) is = absurd (refused _ program (sym e ∙ is))
taken-map file number n rank stop program (pmt_section k found fault r s bad e) is = absurd (refused _ program (sym e ∙ is))
taken-map file number n rank stop program (map_section k found one r s told e) is =
    let both : take one ≡ take program = sym e ∙ is in
    let same : one ≡ program = cc in told-map number found one program told same

-- ---- the streams that are carried

among-found : (P : Stream → Type 0) (streams : List Stream) (video : Stream) → All P streams → video_of streams ≡ Some video → P video
among-found P [] video all found = absurd (none-some video found)
among-found P (s ∷ ss) video all found = by_test (is_video s) found (among-found P ss video (All-tail P s ss all))
  where
    by_test : (test : Bool) → cond test (Some s) (find is_video ss) ≡ Some video → (find is_video ss ≡ Some video → P video) → P video
    by_test true same later = subst P (same_Some s video same) (All-head P s ss all)
    by_test false same later = later same

all-others : (P : Stream → Type 0) (streams : List Stream) → All P streams → All P (without_video streams)
all-others P [] all = All-nil P
all-others P (s ∷ ss) all = by_test (is_video s) (all-others P ss (All-tail P s ss all))
  where
    by_test : (test : Bool) → All P (without_video ss) → All P (cond test ss (s ∷ without_video ss))
    by_test true rest = All-tail P s ss all
    by_test false rest = All-cons P s (without_video ss) (All-head P s ss all) rest

all-audios : (P : Stream → Type 0) (dropped earlier : List ℕ) (streams : List Stream) → All P streams → All P (audios_of dropped earlier streams)
all-audios P dropped earlier [] all = All-nil P
all-audios P dropped earlier (s ∷ ss) all =
    by_test (is_carried dropped earlier s) (all-audios P dropped (earlier ++ s.pid ∷ []) ss (All-tail P s ss all)) (all-audios P dropped earlier ss (All-tail P s ss all))
  where
    by_test : (test : Bool) → All P (audios_of dropped (earlier ++ s.pid ∷ []) ss) → All P (audios_of dropped earlier ss)
        → All P (cond test (s ∷ audios_of dropped (earlier ++ s.pid ∷ []) ss) (audios_of dropped earlier ss))
    by_test true more less = All-cons P s (audios_of dropped (earlier ++ s.pid ∷ []) ss) (All-head P s ss all) more
    by_test false more less = less

-- the map of the carried streams of a program of a file can be written
pub carried-writable : (file : List ℕ) (number : ℕ) (dropped : List ℕ) (carried : ProgramMap) (others : List ℕ) → HasCarriedMap file number dropped carried others → IsWritableMap carried
carried-writable file number dropped carried others has =
    let whole = has.whole in
    let from = taken-map file number has.tables.packet has.tables.rank (take whole) whole has.tables.stops refl in
    let writable : IsWritableMap whole = section-writable from.0 whole from.1 in
    let is = has.carried_is in
    let video : IsStreamWritable is.video = among-found IsStreamWritable whole.streams.items is.video writable.streams is.video_is in
    let audios : All IsStreamWritable (audios_of dropped (is.video.pid ∷ []) (without_video whole.streams.items)) =
    all-audios IsStreamWritable dropped (is.video.pid ∷ []) (without_video whole.streams.items) (all-others IsStreamWritable whole.streams.items writable.streams) in record {
      pcr = subst (λ (n : ℕ). n < 2 ^ 13) (sym is.pcr) writable.pcr;
      streams = subst (All IsStreamWritable) (sym is.streams)
          (All-cons IsStreamWritable is.video (audios_of dropped (is.video.pid ∷ []) (without_video whole.streams.items)) video audios);
    }

-- ---- stream types

abbrev pub HasKind : Stream → Type 0
HasKind stream = stream.kind < 2 ^ 8

infos-kinds : (infos : List StreamInfo) (bytes : List ℕ) → IsItemRow IsStreamInfo infos bytes → All HasKind (map stream_of infos)
infos-kinds [] bytes row = All-nil HasKind
infos-kinds (info ∷ infos) bytes row =
    All-cons HasKind (stream_of info) (map stream_of infos) (subst (λ (n : ℕ). n < 2 ^ 8) (sym row.3.type_is) (bits_below row.0 0 8)) (infos-kinds infos row.1 row.4)

section-kinds : (section : List ℕ) (program : ProgramMap) → pmt_of section ≡ Some program → All HasKind program.streams.items
section-kinds section program made =
    let says : IsMapContent program (content section) = (pmt_is section program made).0.content_is in
    subst (All HasKind) (sym says.kept) (infos-kinds says.streams (drop (4 + bits (content section) 20 12) (content section)) says.streams_are)

-- the types of the carried streams of a program of a file have 8 bits
pub carried-kinds : (file : List ℕ) (number : ℕ) (dropped : List ℕ) (carried : ProgramMap) (others : List ℕ) → HasCarriedMap file number dropped carried others
    → All (λ (stream : Stream). stream.kind < 2 ^ 8) carried.streams.items
carried-kinds file number dropped carried others has =
    let whole = has.whole in
    let from = taken-map file number has.tables.packet has.tables.rank (take whole) whole has.tables.stops refl in
    let kinds : All HasKind whole.streams.items = section-kinds from.0 whole from.1 in
    let is = has.carried_is in
    subst (All HasKind) (sym is.streams)
    (All-cons HasKind is.video (audios_of dropped (is.video.pid ∷ []) (without_video whole.streams.items)) (among-found HasKind whole.streams.items is.video kinds is.video_is)
    (all-audios HasKind dropped (is.video.pid ∷ []) (without_video whole.streams.items) (all-others HasKind whole.streams.items kinds)))
