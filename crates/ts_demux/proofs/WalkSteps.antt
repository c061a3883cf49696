-- A walk that reads the tables, one section or one packet further.
use Rattle.std.proofs.Common.{◌≡◌, ◌≢◌, ℕ, ◌+◌, ◌*◌, ◌<◌, ◌≤◌, ◌==◌, Bool, true, false, List, [], ◌∷◌, ◌++◌, length, drop, Option, Some, None, Result, Ok, Err, refl, sym, ap, ◌∙◌, subst, arith}
use Rattle.std.proofs.lemmas.Bool.Decides.{nat_tests}
use Rattle.arrayvec.specs.ArrayVec.{ArrayVec}
use Rattle.ts_packets.specs.declared.pid_fault.PidFault.{PidFault}
use Rattle.ts_packets.specs.Packet.{sync_byte, packet_identifier}
use Rattle.ts_packets.specs.TransportStream.{Piece, piece_at, piece_count, is_of_pid, pid_pieces}
use Rattle.ts_packets.specs.Carried.{pid_fault}
use Rattle.psi_tables.specs.declared.program_map.ProgramMap.{ProgramMap}
use Rattle.psi_tables.specs.declared.section.SectionFault.{SectionFault}
use Rattle.psi_tables.specs.Sections.{Found, sections_of}
use Rattle.psi_tables.specs.SectionBuilder.{found_of}
use Rattle.ts_demux.specs.declared.demux_fault.DemuxFault.{DemuxFault}
use Rattle.ts_demux.specs.declared.demux_fault.DemuxFault.TheVariants.{Sync}
use Rattle.ts_demux.specs.declared.section_reader.SectionReader.{SectionReader}
use Rattle.ts_demux.specs.declared.table_walk.Known.{Known}
use Rattle.ts_demux.specs.declared.table_walk.Known.TheVariants.{Nothing, OtherPrograms, MapOn}
use Rattle.ts_demux.specs.declared.table_walk.Reading.{Reading}
use Rattle.ts_demux.specs.declared.table_walk.Reading.TheVariants.{AllRead, GoesOn, Map}
use Rattle.ts_demux.specs.declared.table_walk.TableWalk.{TableWalk}
use Rattle.ts_demux.specs.Faults.{of_pid, of_section}
use Rattle.ts_demux.specs.Tables.{
  pat_pid,
  piece,
  IsSection,
  IsBadPat,
  IsBadPmt,
  IsMapOf,
  refuse,
  take,
  no_sync,
  pat_packet,
  pmt_packet,
  pat_section,
  pmt_section,
  map_section,
  StopsFirst,
  IsTablesFault,
  sections_in,
  sections_at,
}
use Rattle.ts_demux.specs.SectionReader.{Waits}
use Rattle.ts_demux.specs.Private.SectionReader.{added_by, TakesPiece, ReadsNext}
use Rattle.ts_demux.specs.TableWalk.{IsNamed, IsKnown, IsMapReader, IsBetween, missing_of}
use Rattle.ts_demux.specs.Private.TableWalk.{IsInPat, IsInMap, Reads, IsKnownBehind, ReadsPat, ReadsMap, IsOnMapPid, is_on_pat_pid, is_map_on}
use Rattle.ts_demux.proofs.TableLemmas.{pieces_more, pieces_other, pieces_none, of_no_other, none_there, next_there, none_behind, stops, quiet_further, quiet_next}
use Rattle.ts_demux.proofs.TableSteps.{
  first_pat,
  first_map,
  pat_passes,
  pat_pmt_section,
  map_passes,
  map_pmt_section,
  named_more,
  known_more,
  first_known,
  known_next,
  pat_ends,
  map_ends,
  other_ends,
  nothing_stops,
  no_pat,
  no_program,
}

-- ---- the sections of a packet of PID 0

-- the first section that waits is the next one of the packet
pub pat_there : (file : List ℕ) (n : ℕ) (walk : TableWalk) (found : Result (ArrayVec ℕ) SectionFault) (after : SectionReader) → (within : IsInPat file n walk) →
    ReadsNext (pid_pieces file pat_pid 0 (n + 1)) within.waiting (Some found) after →
    IsSection file pat_pid 0 n within.done (found_of found)
pat_there file n walk found after within reads =
    record { within = within.within; stands = (next_there (sections_at file pat_pid 0 n) within.done (found_of found) reads.0 (within.waiting_is ∙ reads.1)).0 }

pub pat_all_read : (file : List ℕ) (n : ℕ) (walk : TableWalk) (after : SectionReader) → (within : IsInPat file n walk) →
    ReadsNext (pid_pieces file pat_pid 0 (n + 1)) within.waiting None after → IsBetween file (n + 1) (record walk { pat = after })
pat_all_read file n walk after within reads =
    let end : drop within.done (sections_at file pat_pid 0 n) ≡ [] = within.waiting_is ∙ reads.0 in
    record {
      quiet = quiet_next file walk.program n (within.done + 1) within.quiet (λ j stop less is. pat_ends file walk.program n within.done j stop within.of_pid end less is);
      known = known_next file walk.program n (within.done + 1) walk.known within.known (λ j found less is. none_behind_it j found less is end);
      pat = reads.1;
      map = within.map;
    }
  where
    none_behind_it : (j : ℕ) (found : Found) → within.done + 1 ≤ j + 1 → IsSection file pat_pid 0 n j found → drop within.done (sections_at file pat_pid 0 n) ≡ [] → ⊥
    none_behind_it j found less is end = none_behind (sections_at file pat_pid 0 n) within.done j found end (omega arith) is.stands

-- a section that is refused as one of PID 0
pub pat_refuses : (file : List ℕ) (n : ℕ) (walk : TableWalk) (found : Found) (fault : SectionFault) → (within : IsInPat file n walk) → IsSection file pat_pid 0 n within.done found →
    IsBadPat found fault → StopsFirst file walk.program (refuse (of_section (188 * n) fault))
pat_refuses file n walk found fault within there bad =
    stops file walk.program n (within.done + 1) (refuse (of_section (188 * n) fault)) within.quiet (pat_section within.done found fault refl there bad refl)

-- a reader that has taken nothing stands where the PID becomes known
fresh_reader : (file : List ℕ) (n pid from : ℕ) (reader : SectionReader) → from ≡ n + 1 → Waits [] [] reader → pid ≢ pat_pid → (from ≤ n + 1) × Waits (pid_pieces file pid from (n + 1)) [] reader
fresh_reader file n pid from reader from_is waits other =
    (omega arith, subst (λ (f : ℕ). Waits (pid_pieces file pid f (n + 1)) [] reader) (sym from_is) (subst (λ (ps : List Piece). Waits ps [] reader) (sym (pieces_none file pid (n + 1))) waits))

-- what the PMT's reader has taken stays, and it begins behind the packet where the PID becomes known
map_reader_behind : (file : List ℕ) (program : ℕ) (section : List ℕ) (n : ℕ) (known after : Known) (reader : SectionReader) → IsMapReader file (n + 1) known reader →
    IsKnownBehind program section n known after → IsMapReader file (n + 1) after reader
map_reader_behind file program section n (MapOn pid from) after reader stands behind = subst (λ (k : Known). IsMapReader file (n + 1) k reader) (sym behind) stands
map_reader_behind file program section n Nothing (MapOn pid from) reader stands behind = fresh_reader file n pid from reader behind.1 stands
map_reader_behind file program section n Nothing OtherPrograms reader stands behind = stands
map_reader_behind file program section n Nothing Nothing reader stands behind = stands
map_reader_behind file program section n OtherPrograms (MapOn pid from) reader stands behind = fresh_reader file n pid from reader behind.1 stands
map_reader_behind file program section n OtherPrograms OtherPrograms reader stands behind = stands
map_reader_behind file program section n OtherPrograms Nothing reader stands behind = absurd behind

pub pat_goes_on : (file : List ℕ) (n : ℕ) (walk : TableWalk) (section : ArrayVec ℕ) (known : Known) (after : SectionReader) → (within : IsInPat file n walk) →
    ReadsNext (pid_pieces file pat_pid 0 (n + 1)) within.waiting (Some (Ok section)) after →
    ReadsPat walk.program section.items n walk.known (Ok known) →
    (is_on_pat_pid walk.known ≡ true → ((fault : SectionFault) → IsBadPmt (Ok section.items) fault → ⊥) × ((map : ProgramMap) → IsMapOf walk.program (Ok section.items) map → ⊥)) →
    IsInPat file n (record { program = walk.program; known = known; pat = after; map = walk.map })
pat_goes_on file n walk section known after within reads says on_pat =
    let there : IsSection file pat_pid 0 n within.done (Ok section.items) = pat_there file n walk (Ok section) after within reads in
    record {
      within = within.within;
      of_pid = within.of_pid;
      done = within.done + 1;
      waiting = reads.0;
      quiet = quiet_further file walk.program n (within.done + 1) within.quiet
          (λ stop. pat_passes file walk.program n within.done walk.known (Ok section.items) stop within.known within.of_pid there says.0 on_pat);
      known = known_more file walk.program n within.done section.items walk.known known within.known there says.1;
      pat = reads.2;
      waiting_is = (next_there (sections_at file pat_pid 0 n) within.done (Ok section.items) reads.0 (within.waiting_is ∙ reads.1)).1;
      map = map_reader_behind file walk.program section.items n walk.known known walk.map within.map says.1;
    }

-- a section that is read as one of the PMT's PID, where that is PID 0
pub pat_map_read : (file : List ℕ) (n : ℕ) (walk : TableWalk) (section : ArrayVec ℕ) (known : Known) (after : SectionReader) (result : Result Reading DemuxFault) →
    (within : IsInPat file n walk) → ReadsNext (pid_pieces file pat_pid 0 (n + 1)) within.waiting (Some (Ok section)) after →
    ReadsPat walk.program section.items n walk.known (Ok known) → is_on_pat_pid walk.known ≡ true → ReadsMap walk.program section.items (188 * n) result →
    Reads file walk.program result (IsInPat file n (record {
      program =
          walk.program;
      known = known;
      pat = after;
      map = walk.map;
    }) × (walk.program ≡ walk.program)) (IsBetween file (n + 1) (record { program = walk.program; known = known; pat = after; map = walk.map }) × (walk.program ≡ walk.program))
pat_map_read file n walk section known after (Ok AllRead) within reads says on says_map = absurd says_map
pat_map_read file n walk section known after (Ok GoesOn) within reads says on says_map = (pat_goes_on file n walk section known after within reads says (λ _. says_map), refl)
pat_map_read file n walk section known after (Ok (Map map)) within reads says on says_map =
    stops file walk.program n (within.done + 1) (take map) within.quiet
    (map_section within.done (Ok section.items) map refl (pat_pmt_section file walk.program n within.done walk.known
    (Ok section.items) within.known on (pat_there file n walk (Ok section) after within reads)) says_map refl)
pat_map_read file n walk section known after (Err fault) within reads says on says_map =
    stops file walk.program n (within.done + 1) (refuse fault) within.quiet
    (pmt_section within.done (Ok section.items) says_map.0 refl
    (pat_pmt_section file walk.program n within.done walk.known (Ok section.items) within.known on
    (pat_there file n walk (Ok section) after within reads)) says_map.1 (ap refuse says_map.2))

-- ---- the sections of a packet of the PMT's PID

pub map_there : (file : List ℕ) (n : ℕ) (walk : TableWalk) (found : Result (ArrayVec ℕ) SectionFault) (after : SectionReader) → (within : IsInMap file n walk) →
    ReadsNext (pid_pieces file within.pid within.from (n + 1)) within.waiting (Some found) after →
    IsSection file within.pid within.from n within.done (found_of found)
map_there file n walk found after within reads =
    record { within = within.within; stands = (next_there (sections_at file within.pid within.from n) within.done (found_of found) reads.0 (within.waiting_is ∙ reads.1)).0 }

known_is : (file : List ℕ) (program n r pid from : ℕ) (known : Known) → known ≡ MapOn pid from → IsNamed file program n r pid from → IsKnown file program n r known
known_is file program n r pid from known is named = subst (λ (k : Known). IsKnown file program n r k) (sym is) named

pub map_all_read : (file : List ℕ) (n : ℕ) (walk : TableWalk) (after : SectionReader) → (within : IsInMap file n walk) →
    ReadsNext (pid_pieces file within.pid within.from (n + 1)) within.waiting None after → IsBetween file (n + 1) (record walk { map = after })
map_all_read file n walk after within reads =
    let end : drop within.done (sections_at file within.pid within.from n) ≡ [] = within.waiting_is ∙ reads.0 in
    record {
      quiet = quiet_next file walk.program n (within.done + 1) within.quiet
          (λ j stop less is. map_ends file walk.program n within.done within.pid within.from j stop within.named within.other within.of_pid end less
          is);
      known = known_next file walk.program n (within.done + 1) walk.known
          (known_is file walk.program n (within.done + 1) within.pid within.from walk.known within.known_is within.named)
          (λ j found less is. none_there file pat_pid 0 n j found (of_no_other file within.pid pat_pid n within.of_pid within.other) is);
      pat = within.pat;
      map = subst (λ (k : Known). IsMapReader file (n + 1) k after) (sym within.known_is) (λ other. (omega (arith, within.behind), reads.1));
    }

pub map_refuses : (file : List ℕ) (n : ℕ) (walk : TableWalk) (found : Found) (fault : SectionFault) → (within : IsInMap file n walk) →
    IsSection file within.pid within.from n within.done found → IsBadPmt found fault → StopsFirst file walk.program (refuse (of_section (188 * n) fault))
map_refuses file n walk found fault within there bad =
    stops file walk.program n (within.done + 1) (refuse (of_section (188 * n) fault)) within.quiet
    (pmt_section within.done found fault refl (map_pmt_section file walk.program n within.done within.pid within.from found within.named within.other there) bad refl)

pub map_read : (file : List ℕ) (n : ℕ) (walk : TableWalk) (section : ArrayVec ℕ) (after : SectionReader) (result : Result Reading DemuxFault) → (within : IsInMap file n walk) →
    ReadsNext (pid_pieces file within.pid within.from (n + 1)) within.waiting (Some (Ok section)) after →
    ReadsMap walk.program section.items (188 * n) result →
    Reads file walk.program result (IsInMap file n (record walk { map = after }) × (walk.program ≡ walk.program)) (IsBetween file (n + 1) (record walk { map = after }) × (walk.program ≡ walk.program))
map_read file n walk section after (Ok AllRead) within reads says = absurd says
map_read file n walk section after (Ok GoesOn) within reads says = (
  record {
    pid = within.pid;
    from = within.from;
    within = within.within;
    known_is = within.known_is;
    other = within.other;
    of_pid = within.of_pid;
    behind = within.behind;
    done = within.done + 1;
    waiting = reads.0;
    quiet = quiet_further file walk.program n (within.done + 1) within.quiet
        (λ stop. map_passes file walk.program n within.done within.pid within.from (Ok section.items) stop within.named within.other within.of_pid
        (map_there file n walk (Ok section) after within reads) says.0 says.1);
    named = named_more file walk.program n (within.done + 1) within.pid within.from within.named;
    map = reads.2;
    waiting_is = (next_there (sections_at file within.pid within.from n) within.done (Ok section.items) reads.0 (within.waiting_is ∙ reads.1)).1;
    pat = within.pat;
  },
  refl,
)
map_read file n walk section after (Ok (Map map)) within reads says =
    stops file walk.program n (within.done + 1) (take map) within.quiet
    (map_section within.done (Ok section.items) map refl (map_pmt_section file walk.program n within.done within.pid within.from
    (Ok section.items) within.named within.other (map_there file n walk (Ok section) after within reads)) says refl)
map_read file n walk section after (Err fault) within reads says =
    stops file walk.program n (within.done + 1) (refuse fault) within.quiet
    (pmt_section within.done (Ok section.items) says.0 refl (map_pmt_section file walk.program n within.done within.pid within.from
    (Ok section.items) within.named within.other (map_there file n walk (Ok section) after within reads)) says.1 (ap refuse says.2))

-- ---- a packet begins

-- the PMT's reader where a packet isn't of its PID
pub map_reader_same : (file : List ℕ) (n : ℕ) (known : Known) (reader : SectionReader) → ((pid from : ℕ) → known ≡ MapOn pid from → pid ≢ pat_pid → is_of_pid file pid n ≡ false) →
    IsMapReader file n known reader → IsMapReader file (n + 1) known reader
map_reader_same file n Nothing reader not_of stands = stands
map_reader_same file n OtherPrograms reader not_of stands = stands
map_reader_same file n (MapOn pid from) reader not_of stands =
    λ other. (omega (arith, (stands other).0), subst (λ (ps : List Piece). Waits ps [] reader) (sym (pieces_other file pid from n (not_of pid from refl other))) (stands other).1)

-- what waits behind a piece of the PID is what its packet completes
pub waits_there : (file : List ℕ) (pid from n : ℕ) (bytes : List ℕ) (reader : SectionReader) → from ≤ n → is_of_pid file pid n ≡ true → bytes ≡ piece_at file n →
    Waits (pid_pieces file pid from n ++ record { at = 188 * n; bytes = bytes } ∷ []) (added_by (pid_pieces file pid from n) (record { at = 188 * n; bytes = bytes })) reader →
    Waits (pid_pieces file pid from (n + 1)) (sections_at file pid from n) reader
waits_there file pid from n bytes reader behind of_pid bytes_are waits =
    let same : pid_pieces file pid from n ++ record { at = 188 * n; bytes = bytes } ∷ [] ≡ pid_pieces file pid from (n + 1) =
    ap (λ (b : List ℕ). pid_pieces file pid from n ++ record { at = 188 * n; bytes = b } ∷ []) bytes_are ∙ sym (pieces_more file pid from n behind of_pid) in
    subst (λ (ps : List Piece). Waits ps (drop (length (sections_in (pid_pieces file pid from n))) (sections_in ps)) reader) same waits

pub fault_there : (file : List ℕ) (pid from n : ℕ) (bytes : List ℕ) (fault : Option PidFault) → bytes ≡ piece_at file n →
    pid_fault (pid_pieces file pid from n) (record { at = 188 * n; bytes = bytes }) ≡ fault → pid_fault (pid_pieces file pid from n) (piece file n) ≡ fault
fault_there file pid from n bytes fault bytes_are is = subst (λ (b : List ℕ). pid_fault (pid_pieces file pid from n) (record { at = 188 * n; bytes = b }) ≡ fault) bytes_are is

pub pat_begins : (file : List ℕ) (n : ℕ) (walk : TableWalk) (bytes : List ℕ) (after : SectionReader) → n < piece_count file → bytes ≡ piece_at file n → sync_byte bytes ≡ 0x47 →
    is_of_pid file pat_pid n ≡ true → IsBetween file n walk →
    TakesPiece (pid_pieces file pat_pid 0 n) (record { at = 188 * n; bytes = bytes }) (Ok tt) after → IsInPat file n (record walk { pat = after })
pat_begins file n walk bytes after within bytes_are sync of_pid between takes = record {
  within = within;
  of_pid = of_pid;
  done = 0;
  waiting = sections_at file pat_pid 0 n;
  quiet = quiet_further file walk.program n 0 between.quiet (λ stop. first_pat file walk.program n stop
      (subst (λ (b : List ℕ). sync_byte b ≡ 0x47) bytes_are sync) of_pid (fault_there file pat_pid 0 n bytes None bytes_are takes.0));
  known = first_known file walk.program n walk.known between.known;
  pat = waits_there file pat_pid 0 n bytes after (omega arith) of_pid bytes_are takes.1;
  waiting_is = refl;
  map = map_reader_same file n walk.known walk.map (λ pid from is other. of_no_other file pat_pid pid n of_pid (λ same. other (sym same))) between.map;
}

pub pat_refuses_packet : (file : List ℕ) (n : ℕ) (walk : TableWalk) (bytes : List ℕ) (fault : PidFault) → n < piece_count file → bytes ≡ piece_at file n →
    is_of_pid file pat_pid n ≡ true → IsBetween file n walk →
    pid_fault (pid_pieces file pat_pid 0 n) (record { at = 188 * n; bytes = bytes }) ≡ Some fault → StopsFirst file walk.program (refuse (of_pid (188 * n) fault))
pat_refuses_packet file n walk bytes fault within bytes_are on_pid between is =
    stops file walk.program n 0 (refuse (of_pid (188 * n) fault)) between.quiet
    (pat_packet fault refl (record { within = within; behind = omega arith; of_pid = on_pid; fault_is = fault_there file pat_pid 0 n bytes (Some fault) bytes_are is }) refl)

-- the same on the PMT's PID
pub map_pulled : (file : List ℕ) (n : ℕ) (known : Known) (reader : SectionReader) → IsOnMapPid file n known → IsMapReader file n known reader → sections_of reader.builder ≡ []
map_pulled file n Nothing reader on stands = absurd on
map_pulled file n OtherPrograms reader on stands = absurd on
map_pulled file n (MapOn pid from) reader on stands = (stands on.0).1.waiting_is

pub map_begins : (file : List ℕ) (n : ℕ) (walk : TableWalk) (known : Known) (bytes : List ℕ) (after : SectionReader) → walk.known ≡ known → n < piece_count file →
    bytes ≡ piece_at file n → sync_byte bytes ≡ 0x47 → IsOnMapPid file n known → IsBetween file n walk →
    ((before : List Piece) (at : ℕ) → Waits before [] walk.map → TakesPiece before (record { at = at; bytes = bytes }) (Ok tt) after) → IsInMap file n (record walk { map = after })
map_begins file n walk Nothing bytes after is within bytes_are sync on between takes = absurd on
map_begins file n walk OtherPrograms bytes after is within bytes_are sync on between takes = absurd on
map_begins file n walk (MapOn pid from) bytes after is within bytes_are sync on between takes =
    let named : IsNamed file walk.program n 0 pid from = subst (λ (k : Known). IsKnown file walk.program n 0 k) is between.known in
    let stands = subst (λ (k : Known). IsMapReader file n k walk.map) is between.map on.0 in
    let taken = takes (pid_pieces file pid from n) (188 * n) stands.1 in
    record {
      pid = pid;
      from = from;
      within = within;
      known_is = is;
      other = on.0;
      of_pid = on.1;
      behind = stands.0;
      done = 0;
      waiting = sections_at file pid from n;
      quiet = quiet_further file walk.program n 0 between.quiet
          (λ stop. first_map file walk.program n pid from stop named (subst (λ (b : List ℕ). sync_byte b ≡ 0x47) bytes_are sync) on.0 on.1
          (fault_there file pid from n bytes None bytes_are taken.0));
      named = named_more file walk.program n 0 pid from named;
      map = waits_there file pid from n bytes after stands.0 on.1 bytes_are taken.1;
      waiting_is = refl;
      pat = subst (λ (ps : List Piece). Waits ps [] walk.pat) (sym (pieces_other file pat_pid 0 n (of_no_other file pid pat_pid n on.1 on.0))) between.pat;
    }

pub map_refuses_packet : (file : List ℕ) (n : ℕ) (walk : TableWalk) (known : Known) (bytes : List ℕ) (fault : PidFault) (after : SectionReader) → walk.known ≡ known →
    n < piece_count file → bytes ≡ piece_at file n → IsOnMapPid file n known → IsBetween file n walk →
    ((before : List Piece) (at : ℕ) → Waits before [] walk.map → TakesPiece before (record { at = at; bytes = bytes }) (Err fault) after)
    → StopsFirst file walk.program (refuse (of_pid (188 * n) fault))
map_refuses_packet file n walk Nothing bytes fault after is within bytes_are on between takes = absurd on
map_refuses_packet file n walk OtherPrograms bytes fault after is within bytes_are on between takes = absurd on
map_refuses_packet file n walk (MapOn pid from) bytes fault after is within bytes_are on between takes =
    let named : IsNamed file walk.program n 0 pid from = subst (λ (k : Known). IsKnown file walk.program n 0 k) is between.known in
    let stands = subst (λ (k : Known). IsMapReader file n k walk.map) is between.map on.0 in
    let has : pid_fault (pid_pieces file pid from n) (piece file n) ≡ Some fault = fault_there file pid from n bytes (Some fault) bytes_are (takes (pid_pieces file pid from n) (188 * n) stands.1) in
    let from_next : from ≡ named.at + 1 = named.from_is in
    stops file walk.program n 0 (refuse (of_pid (188 * n) fault)) between.quiet
    (pmt_packet named.at named.index pid fault refl named.takes on.0 (record {
      within = within;
      behind = omega (arith, stands.0);
      of_pid = on.1;
      fault_is = subst (λ (f : ℕ). pid_fault (pid_pieces file pid f n) (piece file n) ≡ Some fault) from_next has;
    }) refl)

-- a packet of neither PID
pub other_goes_on : (file : List ℕ) (n : ℕ) (walk : TableWalk) (bytes : List ℕ) → bytes ≡ piece_at file n → sync_byte bytes ≡ 0x47 → is_of_pid file pat_pid n ≡ false →
    ((pid from : ℕ) → walk.known ≡ MapOn pid from → is_of_pid file pid n ≡ false) → IsBetween file n walk → IsBetween file (n + 1) walk
other_goes_on file n walk bytes bytes_are sync not_pat not_map between =
    let sync_there = subst (λ (b : List ℕ). sync_byte b ≡ 0x47) bytes_are sync in
    record {
      quiet = quiet_next file walk.program n 0 between.quiet (λ j stop less. other_ends file walk.program n j walk.known stop between.known sync_there not_pat not_map);
      known = known_next file walk.program n 0 walk.known between.known (λ j found less. none_there file pat_pid 0 n j found not_pat);
      pat = subst (λ (ps : List Piece). Waits ps [] walk.pat) (sym (pieces_other file pat_pid 0 n not_pat)) between.pat;
      map = map_reader_same file n walk.known walk.map (λ pid from is other. not_map pid from is) between.map;
    }

-- a packet without the sync byte
pub sync_refuses : (file : List ℕ) (n : ℕ) (walk : TableWalk) (bytes : List ℕ) → n < piece_count file → bytes ≡ piece_at file n → sync_byte bytes ≢ 0x47 → IsBetween file n walk →
    StopsFirst file walk.program (refuse (Sync (188 * n)))
sync_refuses file n walk bytes within bytes_are none between =
    stops file walk.program n 0 (refuse (Sync (188 * n))) between.quiet (no_sync refl (record { within = within; no_sync = subst (λ (b : List ℕ). sync_byte b ≢ 0x47) bytes_are none }) refl)

-- which PIDs a packet isn't of
pub is_of : (file : List ℕ) (n pid other : ℕ) (bytes : List ℕ) (is : Bool) → bytes ≡ piece_at file n → pid ≡ packet_identifier bytes → (pid == other) ≡ is → is_of_pid file other n ≡ is
is_of file n pid other bytes is bytes_are pid_is same = ap (λ (b : List ℕ). packet_identifier b == other) (sym bytes_are) ∙ ap (λ (p : ℕ). p == other) (sym pid_is) ∙ same

pub not_on_map : (file : List ℕ) (n pid : ℕ) (bytes : List ℕ) (known : Known) → bytes ≡ piece_at file n → pid ≡ packet_identifier bytes → is_map_on known pid ≡ false →
    (map_pid from : ℕ) → known ≡ MapOn map_pid from → is_of_pid file map_pid n ≡ false
not_on_map file n pid bytes known bytes_are pid_is not_on map_pid from is = is_of file n pid map_pid bytes false bytes_are pid_is (subst (λ (k : Known). is_map_on k pid ≡ false) is not_on)

pub on_map : (file : List ℕ) (n pid : ℕ) (bytes : List ℕ) (known : Known) → bytes ≡ piece_at file n → pid ≡ packet_identifier bytes → pid ≢ pat_pid → is_map_on known pid ≡ true →
    IsOnMapPid file n known
on_map file n pid bytes Nothing bytes_are pid_is other on = absurd cc
on_map file n pid bytes OtherPrograms bytes_are pid_is other on = absurd cc
on_map file n pid bytes (MapOn map_pid from) bytes_are pid_is other on = (
  λ zero_is. other (let same : pid ≡ map_pid = grind (arith, nat_tests) in same ∙ zero_is),
  is_of file n pid map_pid bytes true bytes_are pid_is on,
)

-- ---- at the file's end

pub ends_missing : (file : List ℕ) (n : ℕ) (walk : TableWalk) (known : Known) → walk.known ≡ known → piece_count file ≤ n → IsBetween file n walk → IsTablesFault file walk.program (missing_of known)
ends_missing file n walk Nothing is end between =
    let known = subst (λ (k : Known). IsKnown file walk.program n 0 k) is between.known in
    (refl, nothing_stops file walk.program n end between.quiet, no_pat file n end known.1)
ends_missing file n walk OtherPrograms is end between =
    let known = subst (λ (k : Known). IsKnown file walk.program n 0 k) is between.known in
    (refl, nothing_stops file walk.program n end between.quiet, known.1, no_program file walk.program n end known.0)
ends_missing file n walk (MapOn pid from) is end between =
    let named = subst (λ (k : Known). IsKnown file walk.program n 0 k) is between.known in
    (refl, nothing_stops file walk.program n end between.quiet, record { packet = named.at; index = named.index; pid = pid; pat = named.takes })
