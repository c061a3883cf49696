-- A file has an answer.
use Rattle.std.proofs.Common.{
  ◌≡◌,
  ◌≢◌,
  ℕ,
  zero,
  suc,
  ◌+◌,
  ◌*◌,
  ◌<◌,
  ◌≤◌,
  ◌==◌,
  ◌⊎◌,
  inl,
  inr,
  Bool,
  true,
  false,
  List,
  [],
  ◌∷◌,
  length,
  map,
  Option,
  Some,
  None,
  Result,
  Ok,
  Err,
  MatchResult,
  refl,
  sym,
  ◌∙◌,
  subst,
  arith,
}
use Rattle.std.specs.Prelude.{nat_le, nat_lt}
use Rattle.std.proofs.lemmas.Bool.Decides.{nat_tests}
use Rattle.stream_constants.specs.declared.packets.TheConstants.{PACKET_BYTES}
use Rattle.ts_packets.specs.declared.packet_fault.PacketFault.{PacketFault}
use Rattle.ts_packets.specs.declared.packet_fault.PacketFault.TheVariants as packet_faults
use Rattle.ts_packets.specs.declared.pid_fault.PidFault.{PidFault}
use Rattle.ts_packets.specs.declared.pid_fault.PidFault.TheVariants as pid_faults
use Rattle.ts_packets.specs.Packet.{sync_byte, packet_identifier}
use Rattle.ts_packets.specs.TransportStream.{piece_at, piece_count, is_of_pid, pid_pieces, rest_of}
use Rattle.ts_packets.specs.Carried.{pid_fault}
use Rattle.psi_tables.specs.declared.pmt.TheConstants.{PACKET_SECTION_BYTES}
use Rattle.psi_tables.specs.declared.program_map.ProgramMap.{ProgramMap}
use Rattle.psi_tables.specs.declared.section.SectionFault.{SectionFault}
use Rattle.psi_tables.specs.declared.section.SectionFault.TheVariants as section_faults
use Rattle.psi_tables.specs.declared.stream.Stream.{Stream}
use Rattle.psi_tables.specs.Pmt.{pids_of, pmt_length}
use Rattle.ts_demux.specs.declared.demux_fault.DemuxFault.{DemuxFault}
use Rattle.ts_demux.specs.declared.demux_fault.DemuxFault.TheVariants as faults
use Rattle.ts_demux.specs.declared.demuxed.Demuxed.{Demuxed}
use Rattle.ts_demux.specs.Faults.{of_packet, of_pid, of_section}
use Rattle.ts_demux.specs.Streams.{video_of, without_video, audios_of, others_of, is_among}
use Rattle.ts_demux.specs.declared.placed_map.PlacedMap.{PlacedMap}
use Rattle.ts_demux.specs.Tables.{piece, HasPidFault, refuse, StopsAt, no_sync, pat_packet, pmt_packet, pat_section, pmt_section, map_section, IsTablesFault, IsPlacedMap, HasMap}
use Rattle.ts_demux.specs.Demux.{most_audios, HasCarriedMap, IsStreamFault, IsFirstStreamFault, pes_packets_on, IsDemuxed, IsDemuxRefused, short_file, tables, no_video, audios, long_map, streams}
use Rattle.ts_demux.specs.Private.StreamWalk.{AreSoundBefore}
use Rattle.ts_demux.proofs.GatherSteps.{fault_within, sound_more, sound_all}
use Rattle.ts_demux.proofs.OneAnswer.{WhyNot, no_pat, no_program, no_pmt, stopped, why_not}

-- ---- no refusal of the file is want of memory

packet_told : (at : ℕ) (fault : PacketFault) → of_packet at fault ≡ faults.OutOfMemory → ⊥
packet_told at packet_faults.Sync e = absurd cc
packet_told at packet_faults.ErrorFlag e = absurd cc
packet_told at packet_faults.Scrambled e = absurd cc
packet_told at packet_faults.BadField e = absurd cc

pid_told : (at : ℕ) (fault : PidFault) → of_pid at fault ≡ faults.OutOfMemory → ⊥
pid_told at (pid_faults.Refused fault) e = packet_told at fault e
pid_told at pid_faults.Discontinuity e = absurd cc
pid_told at pid_faults.Gap e = absurd cc

section_told : (at : ℕ) (fault : SectionFault) → of_section at fault ≡ faults.OutOfMemory → ⊥
section_told at section_faults.BadSection e = absurd cc
section_told at section_faults.BadCrc e = absurd cc
section_told at section_faults.TooLong e = absurd cc

stop_told : (file : List ℕ) (program n rank : ℕ) (fault : DemuxFault) → fault ≡ faults.OutOfMemory → StopsAt file program n rank (refuse fault) → ⊥
stop_told file program n rank fault memory (no_sync r has is) = absurd cc
stop_told file program n rank fault memory (pat_packet found r has is) = let e : of_pid (PACKET_BYTES * n) found ≡ faults.OutOfMemory = cc in pid_told (PACKET_BYTES * n) found e
stop_told file program n rank fault memory (pmt_packet packet index pid found r takes apart has is) =
    let e : of_pid (PACKET_BYTES * n) found ≡ faults.OutOfMemory = cc in pid_told (PACKET_BYTES * n) found e
stop_told file program n rank fault memory (pat_section k found bad_is r section bad is) =
    let e : of_section (PACKET_BYTES * n) bad_is ≡ faults.OutOfMemory = cc in section_told (PACKET_BYTES * n) bad_is e
stop_told file program n rank fault memory (pmt_section k found bad_is r section bad is) =
    let e : of_section (PACKET_BYTES * n) bad_is ≡ faults.OutOfMemory = cc in section_told (PACKET_BYTES * n) bad_is e
stop_told file program n rank fault memory (map_section k found m r section map_is is) = absurd cc

tables_told : (file : List ℕ) (program : ℕ) (fault : DemuxFault) → WhyNot file program fault → fault ≡ faults.OutOfMemory → ⊥
tables_told file program fault (no_pat e nothing none) memory = absurd cc
tables_told file program fault (no_program e nothing some none) memory = absurd cc
tables_told file program fault (no_pmt e nothing some) memory = absurd cc
tables_told file program fault (stopped s) memory = stop_told file program s.packet s.rank fault memory s.stops

stream_told : (file pids : List ℕ) (n : ℕ) (fault : DemuxFault) → IsStreamFault file pids n fault → fault ≡ faults.OutOfMemory → ⊥
stream_told file pids n fault (inl (none, e)) memory = absurd cc
stream_told file pids n fault (inr (pid, found, among, has, e)) memory = pid_told (PACKET_BYTES * n) found (sym e ∙ memory)

-- ---- the packets of the streams

-- a packet is refused or isn't
abbrev Refused : List ℕ → List ℕ → ℕ → Type 0
Refused file pids n = ((fault : DemuxFault) × IsStreamFault file pids n fault) ⊎ ((fault : DemuxFault) → IsStreamFault file pids n fault → ⊥)

-- by the fault on its PID
by_fault : (file pids : List ℕ) (pid n : ℕ) → n < piece_count file → packet_identifier (piece_at file n) ≡ pid → sync_byte (piece_at file n) ≡ 0x47 → is_among pids pid ≡ true
    → (found : Option PidFault) → pid_fault (pid_pieces file pid 0 n) (piece file n) ≡ found → Refused file pids n
by_fault file pids pid n within pid_is sync among (Some fault) found_is =
    let of_it : is_of_pid file pid n ≡ true = grind (arith, nat_tests) in
    inl (of_pid (PACKET_BYTES * n) fault, inr (pid, fault, among, record { within = within; behind = omega arith; of_pid = of_it; fault_is = found_is }, refl))
by_fault file pids pid n within pid_is sync among None found_is = inr none
  where
    none : (fault : DemuxFault) → IsStreamFault file pids n fault → ⊥
    none fault (inl (missing, e)) = missing.no_sync sync
    none fault (inr (other, found, other_among, has, e)) =
        let of_other : is_of_pid file other n ≡ true = has.of_pid in
        let same : other ≡ pid = grind (arith, nat_tests) in
        let there : HasPidFault file pid 0 n found = subst (λ (p : ℕ). HasPidFault file p 0 n found) same has in
        let both : None ≡ Some found = sym found_is ∙ there.fault_is in
        absurd cc

by_pid : (file pids : List ℕ) (n : ℕ) → n < piece_count file → sync_byte (piece_at file n) ≡ 0x47 → (among : Bool) → is_among pids (packet_identifier (piece_at file n)) ≡ among → Refused file pids n
by_pid file pids n within sync true among =
    by_fault file pids (packet_identifier (piece_at file n)) n within refl sync among (pid_fault (pid_pieces file (packet_identifier (piece_at file n)) 0 n) (piece file n)) refl
by_pid file pids n within sync false apart = inr none
  where
    none : (fault : DemuxFault) → IsStreamFault file pids n fault → ⊥
    none fault (inl (missing, e)) = missing.no_sync sync
    none fault (inr (other, found, among, has, e)) =
        let of_other : is_of_pid file other n ≡ true = has.of_pid in
        let same : other ≡ packet_identifier (piece_at file n) = grind (arith, nat_tests) in
        let both : is_among pids (packet_identifier (piece_at file n)) ≡ true = subst (λ (p : ℕ). is_among pids p ≡ true) same among in
        absurd cc

by_sync : (file pids : List ℕ) (n : ℕ) → n < piece_count file → (is : Bool) → (sync_byte (piece_at file n) == 0x47) ≡ is → Refused file pids n
by_sync file pids n within true is =
    let sync : sync_byte (piece_at file n) ≡ 0x47 = grind (arith, nat_tests) in
    by_pid file pids n within sync (is_among pids (packet_identifier (piece_at file n))) refl
by_sync file pids n within false is =
    let missing : sync_byte (piece_at file n) ≢ 0x47 = grind (arith, nat_tests) in
    inl (faults.Sync (PACKET_BYTES * n), inl (record { within = within; no_sync = missing }, refl))

refused_or_not : (file pids : List ℕ) (n : ℕ) → Refused file pids n
refused_or_not file pids n = by_place (nat_lt n (piece_count file)) refl
  where
    by_place : (is : Bool) → nat_lt n (piece_count file) ≡ is → Refused file pids n
    by_place true is = let within : n < piece_count file = grind (arith, nat_tests) in by_sync file pids n within (sync_byte (piece_at file n) == 0x47) refl
    by_place false is = let outside : piece_count file ≤ n = grind (arith, nat_tests) in inr (λ fault stands. omega (arith, outside, fault_within file pids n fault stands))

first_or_sound : (file pids : List ℕ) (n : ℕ) → ((fault : DemuxFault) × IsFirstStreamFault file pids fault) ⊎ AreSoundBefore file pids n
first_or_sound file pids zero = inr (λ m fault below is. omega (arith, below))
first_or_sound file pids (suc n) = more (first_or_sound file pids n) (refused_or_not file pids n)
  where
    more : ((fault : DemuxFault) × IsFirstStreamFault file pids fault) ⊎ AreSoundBefore file pids n → Refused file pids n
        → ((fault : DemuxFault) × IsFirstStreamFault file pids fault) ⊎ AreSoundBefore file pids (suc n)
    more (inl found) here = inl found
    more (inr sound) (inl (fault, is)) = inl (fault, record { packet = n; stands = is; first = λ m other below stands. sound m other below stands })
    more (inr sound) (inr none) = let e : n + 1 ≡ suc n = omega arith in inr (subst (AreSoundBefore file pids) e (sound_more file pids n sound none))

-- ---- the answer

module _ (file : List ℕ) (program : ℕ) (drop : List ℕ) where
  abbrev Answer : Type 0
  Answer = ((demuxed : Demuxed) × IsDemuxed file program drop demuxed) ⊎ ((fault : DemuxFault) × (fault ≢ faults.OutOfMemory) × IsDemuxRefused file program drop fault)

  by_streams : (carried : ProgramMap) (others : List ℕ) (video : Stream) (rest : List Stream) → HasCarriedMap file program drop carried others
      → carried.streams.items ≡ video ∷ rest → length carried.streams.items ≤ 1 + most_audios → pmt_length carried ≤ PACKET_SECTION_BYTES
      → ((fault : DemuxFault) × IsFirstStreamFault file (pids_of carried) fault) ⊎ AreSoundBefore file (pids_of carried) (piece_count file) → Answer
  by_streams carried others video rest has items few short (inl (fault, first)) =
      inr (fault, stream_told file (pids_of carried) first.packet fault first.stands, streams carried others has few short first)
  by_streams carried others video rest has items few short (inr sound) = inl (
    record { map = carried; video = (pes_packets_on file video).units; audios = map (pes_packets_on file) rest; rest = length (rest_of file); not_carried = others },
    record {
      tables = has;
      few = few;
      short = short;
      sound = sound_all file (pids_of carried) (piece_count file) (omega arith) sound;
      video = video;
      audios = rest;
      streams = items;
      video_packets = refl;
      audio_packets = refl;
      rest_is = refl;
    },
  )

  by_map : (carried : ProgramMap) (others : List ℕ) (video : Stream) (rest : List Stream) → HasCarriedMap file program drop carried others → carried.streams.items ≡ video ∷ rest → Answer
  by_map carried others video rest has items = by_count (nat_le (length carried.streams.items) (1 + most_audios)) refl (nat_le (pmt_length carried) PACKET_SECTION_BYTES) refl
    where
      by_count : (few : Bool) → nat_le (length carried.streams.items) (1 + most_audios) ≡ few → (short : Bool) → nat_le (pmt_length carried) PACKET_SECTION_BYTES ≡ short → Answer
      by_count false few_is short short_is =
          let many : 1 + most_audios < length carried.streams.items = grind (arith, nat_tests) in
          let other : faults.ProgramLimit 0 ≢ faults.OutOfMemory = λ e. absurd cc in
          inr (faults.ProgramLimit 0, other, audios carried others has many refl)
      by_count true few_is false short_is =
          let few : length carried.streams.items ≤ 1 + most_audios = grind (arith, nat_tests) in
          let long : PACKET_SECTION_BYTES < pmt_length carried = grind (arith, nat_tests) in
          let other : faults.PmtTooLong 0 ≢ faults.OutOfMemory = λ e. absurd cc in
          inr (faults.PmtTooLong 0, other, long_map carried others has few long refl)
      by_count true few_is true short_is =
          let few : length carried.streams.items ≤ 1 + most_audios = grind (arith, nat_tests) in
          let short : pmt_length carried ≤ PACKET_SECTION_BYTES = grind (arith, nat_tests) in
          by_streams carried others video rest has items few short (first_or_sound file (pids_of carried) (piece_count file))

  by_video : (whole : ProgramMap) → PACKET_BYTES ≤ length file → HasMap file program whole → (video : Option Stream) → video_of whole.streams.items ≡ video → Answer
  by_video whole long has None none =
      let other : faults.NoVideo 0 ≢ faults.OutOfMemory = λ e. absurd cc in
      inr (faults.NoVideo 0, other, no_video whole long has none refl)
  by_video whole long has (Some video) is =
      let rest : List Stream = audios_of drop (video.pid ∷ []) (without_video whole.streams.items) in
      let others : List ℕ = others_of drop (video.pid ∷ []) (without_video whole.streams.items) in
      let carried : ProgramMap = record { number = whole.number; pcr_pid = whole.pcr_pid; streams = record { items = video ∷ rest }; dropped = whole.dropped } in
      let has_it : HasCarriedMap file program drop carried others = record {
        long = long;
        whole = whole;
        tables = has;
        carried_is = record { number = refl; pcr = refl; dropped_same = refl; video = video; video_is = is; streams = refl; others_are = refl };
      } in
      by_map carried others video rest has_it refl

  by_tables : PACKET_BYTES ≤ length file → (result : Result PlacedMap DemuxFault) → MatchResult result (IsPlacedMap file program) (IsTablesFault file program) → Answer
  by_tables long (Ok placed) has = by_video placed.map long has.map_is (video_of placed.map.streams.items) refl
  by_tables long (Err fault) is = inr (fault, tables_told file program fault (why_not file program fault is), tables long is)

  -- from what the reading of the tables answers
  pub some_answer : (result : Result PlacedMap DemuxFault) → MatchResult result (IsPlacedMap file program) (IsTablesFault file program) → Answer
  some_answer result is = by_length (nat_le PACKET_BYTES (length file)) refl
    where
      by_length : (long : Bool) → nat_le PACKET_BYTES (length file) ≡ long → Answer
      by_length true long_is = let long : PACKET_BYTES ≤ length file = grind (arith, nat_tests) in by_tables long result is
      by_length false long_is =
          let short : length file < PACKET_BYTES = grind (arith, nat_tests) in
          let other : faults.ShortFile 0 ≢ faults.OutOfMemory = λ e. absurd cc in
          inr (faults.ShortFile 0, other, short_file short refl)
