-- A program of a stream that is clean by its own times: what an audit finds on it.
use Rattle.std.proofs.Common.{◌≡◌, ◌≢◌, ℕ, suc, ◌+◌, ◌*◌, ◌<◌, ◌≤◌, ◌==◌, ◌||◌, Bool, true, false, List}
use Rattle.std.proofs.Common.{[], ◌∷◌, ◌++◌, All, length, map, Option, Some, None, refl, sym, ap, subst, ◌∙◌, arith, inl, inr}
use Rattle.std.specs.Prelude.{slice_get}
use Rattle.std.specs.List.{range_with_len}
use Rattle.std.specs.List.Sorted.{IsStrictlyIncreasing}
use Rattle.std.proofs.lemmas.Bool.{eqb-true}
use Rattle.std.proofs.lemmas.List.{length-map}
use Rattle.std.proofs.lemmas.Option.{none-some, same_Some}
use Rattle.bit_lists.specs.Payload.{Payload}
use Rattle.ts_packets.specs.Packet.{PacketRecord}
use Rattle.ts_packets.specs.TransportStream.{is_of_pid, packets, piece_at, piece_count, pid_pieces}
use Rattle.ts_packets.specs.Carried.{payloads_on, pid_fault}
use Rattle.psi_tables.specs.declared.stream.Stream.{Stream}
use Rattle.version_table.specs.declared.table.AudioPacket.{AudioPacket}
use Rattle.version_table.specs.declared.table.Unit.{Unit as CodedUnit}
use Rattle.version_table.specs.declared.table.ProgramRow.{ProgramRow}
use Rattle.slot_rule.specs.Queues.{audio_of, video_queue}
use Rattle.tstd_model.specs.declared.decoder_input.BufferKind.TheVariants.{System}
use Rattle.tstd_model.specs.declared.fault.TstdFault.{TstdFault}
use Rattle.tstd_model.specs.Faults.{IsFault}
use Rattle.mux_writer.specs.Layout.{map_pid, video_pid}
use Rattle.layer_laws.specs.Counted.{AreCounted}
use Rattle.ts_demux.specs.declared.demuxed.AudioStream.{AudioStream}
use Rattle.ts_demux.specs.declared.demuxed.Demuxed.{Demuxed}
use Rattle.ts_demux.specs.declared.demuxed.PesUnit.{PesUnit}
use Rattle.ts_demux.specs.Demux.{AreStreamsSound, IsDemuxed, pes_packets_on, units_in}
use Rattle.ts_demux.specs.Streams.{is_among}
use Rattle.ts_demux.specs.Tables.{IsMapPid}
use Rattle.elementary_streams.specs.Packets.{joined}
use Rattle.es_units.specs.Units.{first_sequence}
use Rattle.ts_demux.specs.PidPlaces.{places_on}
use Rattle.stream_audit.specs.declared.audited_stream.AuditedStream.{AuditedStream}
use Rattle.stream_audit.specs.Clock.{clock_of, first_off}
use Rattle.stream_audit.specs.declared.file_clock.FoundClock.{FoundClock}
use Rattle.stream_audit.specs.declared.finding.Finding.{Finding}
use Rattle.stream_audit.specs.declared.kept_units.KeptUnits.{KeptUnits}
use Rattle.stream_audit.specs.Audit.{AreStreamsOf, IsAudited}
use Rattle.stream_audit.specs.Findings.{FindsBy, FindsFirst, FindsOn}
use Rattle.stream_audit.specs.Refusals.{IsProgramRead}
use Rattle.stream_audit.specs.Streams.{AreAudioStreams, IsAudioStream, IsVideoStream, system_stream}
use Rattle.clean_laws.specs.Arrivals.{header_bytes, section_arrivals}
use Rattle.clean_laws.specs.Clean.{IsCleanOn}
use Rattle.time_laws.specs.Carried.{CarriesTimes}
use Rattle.time_laws.specs.Clock.{IsClock}
use Rattle.time_laws.specs.Video.{AreDecoded, BeginAt, DecodedPicture}
use Rattle.audit_laws.specs.Carried.{CarriesAudio, CarriesVideo}
use Rattle.audit_laws.specs.Kept.{AreKeptOf, IsBegun}
use Rattle.audit_laws.specs.Found.{IsFullAtMost}
use Rattle.audit_laws.specs.Written.{IsFoundClean}
use Rattle.audit_laws.proofs.Axis.{AreOnAxis, HasAxis}
use Rattle.audit_laws.proofs.Begun.{begun}
use Rattle.audit_laws.proofs.Parsed.{IsTakenAt}
use Rattle.audit_laws.proofs.Places.{as-many}
use Rattle.audit_laws.proofs.Streams.{AreFullAtMost, first-found, one-behind}

-- ---- the laws below, as this proof calls them

pub record ProgramLaws : Type 0 where
  pub one : (file : List ℕ) (program : ℕ) (drop : List ℕ) (one other : Demuxed) → IsDemuxed file program drop one → IsDemuxed file program drop other → one ≡ other
  pub no_fault : (file : List ℕ) (list : List PacketRecord) (pid from n : ℕ) → packets file ≡ map Some list → AreCounted pid list → from ≤ n → n < length list → is_of_pid file pid n ≡ true
      → pid_fault (pid_pieces file pid from n) (record { at = 188 * n; bytes = piece_at file n }) ≡ None
  pub zero_is : (file : List ℕ) (list : List PacketRecord) (slot pid base : ℕ) → packets file ≡ map Some list → AreCounted pid list → IsClock list slot pid base
      → clock_of slot (places_on file pid) ≡ Some base
  pub off_is : (file : List ℕ) (list : List PacketRecord) (slot pid base : ℕ) → packets file ≡ map Some list → AreCounted pid list → IsClock list slot pid base
      → first_off slot base (places_on file pid) ≡ None
  pub sections : (file : List ℕ) (list : List PacketRecord) (slot map_pid : ℕ) (found : Option Finding) → packets file ≡ map Some list → AreCounted 0 list → AreCounted map_pid list
      → ((fault : TstdFault) → IsFault slot System (section_arrivals map_pid list) [] fault → ⊥) → FindsOn slot (system_stream file map_pid) found → IsFullAtMost found
  pub video : (file : List ℕ) (list : List PacketRecord) (slot pid program base : ℕ) (row : ProgramRow) (choice : List ℕ) (pes : List PesUnit) (times : List ℕ) (kept : KeptUnits)
      (stream : AuditedStream) (found : Option Finding) → CarriesVideo file list pid row choice pes times → IsCleanOn slot pid (video_queue program row choice) list
      → All (λ (p : Payload). header_bytes p < length p.bytes) (payloads_on pid list) → first_sequence (joined pes) ≡ Some 0 → base < 2576980377600
      → AreKeptOf base pes times row.vbv kept → IsVideoStream file base kept pid pes stream → FindsOn slot stream found → IsFullAtMost found
  pub audio : (file : List ℕ) (list : List PacketRecord) (slot base begin at : ℕ) (audio : AudioStream) (rows : List AudioPacket) (kept : KeptUnits) (stream : AuditedStream)
      (found : Option Finding) → CarriesAudio file list audio begin at rows → IsCleanOn slot audio.pid (audio_of rows) list → IsBegun base kept begin at
      → IsAudioStream file base kept audio stream → FindsOn slot stream found → IsFullAtMost found

-- What is known of a program of a stream.
pub record IsProgramIn (file : List ℕ) (list : List PacketRecord) (slot place number : ℕ) (row : ProgramRow) (choice : List ℕ) : Type 0 where
  pub read : packets file ≡ map Some list
  pub counted : (pid : ℕ) → pid ≢ 8191 → AreCounted pid list
  pub few : place < 8
  pub short : length file ≤ 536870912
  pub times : CarriesTimes file list slot place number row choice
  pub taken : IsTakenAt file place number
  pub is_clean : IsCleanOn slot (video_pid place) (video_queue place row choice) list
  pub data_behind : All (λ (p : Payload). header_bytes p < length p.bytes) (payloads_on (video_pid place) list)
  pub sections : (fault : TstdFault) → IsFault slot System (section_arrivals (map_pid place) list) [] fault → ⊥
  pub rise : IsStrictlyIncreasing (map (λ (unit : CodedUnit). unit.due) row.units)
  pub axis : HasAxis file number row
  pub few_audios : length row.audios ≤ 8
  pub audios_clean : (audio : ℕ) (packets : List AudioPacket) → slice_get row.audios audio ≡ Some packets → IsCleanOn slot (video_pid place + 1 + audio) (audio_of packets) list

-- the list of pictures is as long as that of PES packets
decoded-many : (base : ℕ) (earlier : List DecodedPicture) (packets : List PesUnit) (pictures : List DecodedPicture) → AreDecoded base earlier packets pictures → length packets ≡ length pictures
decoded-many base earlier [] [] are = refl
decoded-many base earlier [] (p ∷ ps) are = absurd are
decoded-many base earlier (q ∷ qs) [] are = absurd are
decoded-many base earlier (q ∷ qs) (p ∷ ps) are = ap suc (decoded-many base (p ∷ earlier) qs ps are.1)

head_of : List ℕ → ℕ
head_of [] = 0
head_of (x ∷ xs) = x

tail_of : List ℕ → List ℕ
tail_of [] = []
tail_of (x ∷ xs) = xs

head-pid : (o : Stream) (os : List Stream) (from n : ℕ) → map (λ (stream : Stream). stream.pid) (o ∷ os) ≡ range_with_len from (suc n) → o.pid ≡ from
unfolding head_of
head-pid o os from n same = ap head_of same

tail-pids : (o : Stream) (os : List Stream) (from n : ℕ) → map (λ (stream : Stream). stream.pid) (o ∷ os) ≡ range_with_len from (suc n)
    → map (λ (stream : Stream). stream.pid) os ≡ range_with_len (from + 1) n
unfolding tail_of
tail-pids o os from n same = ap tail_of same

module _ (laws : ProgramLaws) (file : List ℕ) (list : List PacketRecord) (slot place number : ℕ) (row : ProgramRow) (choice : List ℕ)
    (is : IsProgramIn file list slot place number row choice) where
  abbrev demuxed : Demuxed
  demuxed = is.times.demuxed

  abbrev pictures : List DecodedPicture
  pictures = is.times.first ∷ is.times.later

  abbrev pub ats : List ℕ
  ats = map (λ (picture : DecodedPicture). picture.at) (is.times.first ∷ is.times.later)

  taken-same : is.taken.demuxed ≡ is.times.demuxed
  taken-same = laws.one file number [] is.taken.demuxed is.times.demuxed is.taken.taken_out is.times.taken_out

  pcr-pid : is.times.demuxed.map.pcr_pid ≡ video_pid place
  pcr-pid = ap (λ (d : Demuxed). d.map.pcr_pid) (sym taken-same) ∙ is.taken.pcr

  begins : first_sequence (joined is.times.demuxed.video) ≡ Some 0
  begins = ap (λ (d : Demuxed). first_sequence (joined d.video)) (sym taken-same) ∙ is.taken.begins

  video-counted : AreCounted (video_pid place) list
  video-counted = is.counted (video_pid place) (λ same. omega (arith, same, is.few))

  map-counted : AreCounted (map_pid place) list
  map-counted = is.counted (map_pid place) (λ same. omega (arith, same, is.few))

  pat-counted : AreCounted 0 list
  pat-counted = is.counted 0 (λ same. omega (arith, same))

  -- ---- the clock

  pcr-counted : AreCounted is.times.demuxed.map.pcr_pid list
  pcr-counted = subst (λ (pid : ℕ). AreCounted pid list) (sym pcr-pid) video-counted

  zero-found : clock_of slot (places_on file is.times.demuxed.map.pcr_pid) ≡ Some is.times.base
  zero-found = laws.zero_is file list slot is.times.demuxed.map.pcr_pid is.times.base is.read pcr-counted is.times.clock

  off-found : first_off slot is.times.base (places_on file is.times.demuxed.map.pcr_pid) ≡ None
  off-found = laws.off_is file list slot is.times.demuxed.map.pcr_pid is.times.base is.read pcr-counted is.times.clock

  abbrev pub clock : FoundClock
  clock = record { zero = is.times.base; off = None }

  -- ---- nothing is refused

  among-one : (pid p : ℕ) → is_among (pid ∷ []) p ≡ true → pid ≡ p
  among-one pid p among = by_test (pid == p) refl among
    where
      by_test : (b : Bool) → (pid == p) ≡ b → (b || false) ≡ true → pid ≡ p
      by_test true same passes = eqb-true pid p same
      by_test false same passes = absurd cc

  sound-on : (pid : ℕ) → AreCounted pid list → AreStreamsSound file (pid ∷ [])
  sound-on pid counted n fault (inl unsynced) = is.times.taken_out.sound n fault (inl unsynced)
  sound-on pid counted n fault (inr (p, found, among, hits, said)) =
      let same : pid ≡ p = among-one pid p among in
      none-some found
      (sym (laws.no_fault file list p 0 n is.read (subst (λ (k : ℕ). AreCounted k list) same counted) hits.behind
      (subst (λ (k : ℕ). n < k) (as-many file list is.read) hits.within) hits.of_pid) ∙ hits.fault_is)

  map-is : IsMapPid file number (map_pid place)
  map-is = record { packet = is.times.map_pid_is.packet; index = is.times.map_pid_is.index; takes = is.times.map_pid_is.taken }

  pub read-of : IsProgramRead file number slot is.times.demuxed (map_pid place) clock
  read-of = record {
    tables = record {
      file_fits = is.short;
      taken_out = is.times.taken_out;
      map_is = map-is;
      pat_sound = sound-on 0 pat-counted;
      map_sound = sound-on (map_pid place) map-counted;
    };
    clock_is = record {
      known = λ same. omega (arith, same, pcr-pid, is.few);
      sound = sound-on is.times.demuxed.map.pcr_pid pcr-counted;
      zero_is = zero-found;
      off_is = sym off-found;
    };
  }

  -- ---- the video

  video-is : (video : Stream) (audios : List Stream) → is.times.demuxed.map.streams.items ≡ video ∷ audios → video.pid ≡ video_pid place
  unfolding head_of
  video-is video audios streams =
      ap head_of
      (sym (ap (map (λ (stream : Stream). stream.pid)) streams) ∙ is.times.pids
      ∙ ap (range_with_len (video_pid place)) (let e : 1 + length row.audios ≡ suc (length row.audios) = omega arith in e))

  pes-are : is.times.demuxed.video ≡ units_in (pid_pieces file (video_pid place) 0 (piece_count file))
  pes-are =
      let out = is.times.taken_out in
      out.video_packets ∙ ap (λ (pid : ℕ). units_in (pid_pieces file pid 0 (piece_count file))) (video-is out.video out.audios out.streams)

  of-video : CarriesVideo file list (video_pid place) row choice is.times.demuxed.video ats
  of-video = record {
    read = is.read;
    counted = video-counted;
    pes_are = pes-are;
    sizes = is.times.sizes;
    dues = is.times.dues;
    many = decoded-many is.times.base [] is.times.demuxed.video pictures is.times.decoded ∙ sym (length-map pictures (λ (picture : DecodedPicture). picture.at));
    rise = is.rise;
  }

  -- ---- the audio streams

  same-axis : is.axis.demuxed ≡ is.times.demuxed
  same-axis = laws.one file number [] is.axis.demuxed is.times.demuxed is.axis.taken_out is.times.taken_out

  on-axis : AreOnAxis is.axis.begin is.axis.at is.times.demuxed.audios row.audios
  on-axis = subst (λ (d : Demuxed). AreOnAxis is.axis.begin is.axis.at d.audios row.audios) same-axis is.axis.audios

  first-at : is.times.first.at ≡ is.axis.at
  unfolding head_of
  first-at = ap head_of (sym is.times.dues ∙ is.axis.dues)

  begun-with : (kept : KeptUnits) (vbv : ℕ) → AreKeptOf is.times.base is.times.demuxed.video ats vbv kept → IsBegun is.times.base kept is.axis.begin is.axis.at
  begun-with kept vbv kept_are =
      subst (IsBegun is.times.base kept is.axis.begin) first-at
      (begun is.times.base kept is.times.demuxed.video is.times.first is.times.later is.axis.begin is.times.clock.below kept_are.units is.times.decoded
      (subst (λ (d : Demuxed). BeginAt is.axis.begin d.video) same-axis is.axis.begin_is))

  -- the PIDs behind the video's
  audio-pids : map (λ (stream : Stream). stream.pid) is.times.taken_out.audios ≡ range_with_len (video_pid place + 1) (length row.audios)
  unfolding tail_of
  audio-pids =
      ap tail_of
      (sym (ap (map (λ (stream : Stream). stream.pid)) is.times.taken_out.streams) ∙ is.times.pids
      ∙ ap (range_with_len (video_pid place)) (let e : 1 + length row.audios ≡ suc (length row.audios) = omega arith in e))

  audio-counted : (k : ℕ) → k < length row.audios → AreCounted (video_pid place + 1 + k) list
  audio-counted k less = is.counted (video_pid place + 1 + k) (λ same. omega (arith, same, is.few, less, is.few_audios))

  audios-full : (kept : KeptUnits) → IsBegun is.times.base kept is.axis.begin is.axis.at → (others : List Stream) (rows : List (List AudioPacket)) (from : ℕ) (streams : List AuditedStream)
      → map (λ (stream : Stream). stream.pid) others ≡ range_with_len from (length rows) → AreOnAxis is.axis.begin is.axis.at (map (pes_packets_on file) others) rows
      → ((k : ℕ) → k < length rows → AreCounted (from + k) list)
      → ((k : ℕ) (packets : List AudioPacket) → slice_get rows k ≡ Some packets → IsCleanOn slot (from + k) (audio_of packets) list)
      → AreAudioStreams file is.times.base kept (map (pes_packets_on file) others) streams → AreFullAtMost slot streams
  audios-full kept begins [] [] from [] pids axis counted clean are = tt
  audios-full kept begins [] [] from (s ∷ ss) pids axis counted clean are = absurd are
  audios-full kept begins [] (r ∷ rs) from streams pids axis counted clean are = absurd axis
  audios-full kept begins (o ∷ os) [] from streams pids axis counted clean are = absurd axis
  audios-full kept begins (o ∷ os) (r ∷ rs) from [] pids axis counted clean are = absurd are
  audios-full kept begins (o ∷ os) (r ∷ rs) from (s ∷ ss) pids axis counted clean are =
      let own : from + 0 ≡ o.pid = (let e : from + 0 ≡ from = omega arith in e) ∙ sym (head-pid o os from (length rs) pids) in
      let next : (k : ℕ) → from + suc k ≡ from + 1 + k = λ k. omega arith in (
        λ found finds.
            laws.audio file list slot is.times.base is.axis.begin is.axis.at (pes_packets_on file o) r kept s found
            (record {
              read = is.read;
              counted = subst (λ (pid : ℕ). AreCounted pid list) own (counted 0 (omega arith));
              units_are = refl;
              frames = axis.0.frames;
              framed = axis.0.framed;
              pieces = axis.0.pieces;
              pieces_are = axis.0.pieces_are;
              rows_are = axis.0.rows_are;
            })
            (subst (λ (pid : ℕ). IsCleanOn slot pid (audio_of r) list) own (clean 0 r refl)) begins are.0 finds,
        audios-full kept begins os rs (from + 1) ss (tail-pids o os from (length rs) pids) axis.1
            (λ k less. subst (λ (pid : ℕ). AreCounted pid list) (next k) (counted (suc k) (omega (arith, less))))
            (λ k packets there. subst (λ (pid : ℕ). IsCleanOn slot pid (audio_of packets) list) (next k) (clean (suc k) packets there)) are.1,
      )

  -- ---- what is found

  pub found-of : (kept : KeptUnits) (found : Option Finding) → AreKeptOf is.times.base is.times.demuxed.video ats is.times.first.seq.vbv kept → IsAudited file number slot kept found
      → IsFullAtMost found
  found-of kept found kept_are audited = by_demuxed audited.demuxed audited.map_pid audited.clock audited.streams same map-same clock-same off-none audited.streams_are audited.first
    where
      same : audited.demuxed ≡ is.times.demuxed
      same = laws.one file number [] audited.demuxed is.times.demuxed audited.read.tables.taken_out is.times.taken_out

      map-same : audited.map_pid ≡ map_pid place
      map-same =
          let takes = audited.read.tables.map_is.takes in
          is.times.map_pid_is.only audited.read.tables.map_is.packet audited.read.tables.map_is.index audited.map_pid takes.found takes.section takes.names

      clock-same : audited.clock.zero ≡ is.times.base
      clock-same =
          same_Some audited.clock.zero is.times.base
          (sym audited.read.clock_is.zero_is ∙ ap (λ (d : Demuxed). clock_of slot (places_on file d.map.pcr_pid)) same ∙ zero-found)

      off-none : audited.clock.off ≡ None
      off-none =
          audited.read.clock_is.off_is ∙ ap (λ (base : ℕ). first_off slot base (places_on file audited.demuxed.map.pcr_pid)) clock-same
          ∙ ap (λ (d : Demuxed). first_off slot is.times.base (places_on file d.map.pcr_pid)) same ∙ off-found

      by_demuxed : (d : Demuxed) (pid : ℕ) (c : FoundClock) (streams : List AuditedStream) → d ≡ is.times.demuxed → pid ≡ map_pid place → c.zero ≡ is.times.base → c.off ≡ None
          → AreStreamsOf file pid c.zero kept d streams → FindsBy slot d.map.pcr_pid c.off streams found → IsFullAtMost found
      by_demuxed d pid c streams d-is pid-is zero-is off-is are finds =
          first-found slot (are.video_stream ∷ are.audio_streams ++ system_stream file pid ∷ []) found (
            λ found_one finds_one.
                laws.video file list slot (video_pid place) place is.times.base row choice is.times.demuxed.video ats kept are.video_stream found_one of-video is.is_clean is.data_behind
                begins is.times.clock.below (record { units = kept_are.units; buffer = kept_are.buffer ∙ sym is.times.buffer }) of_video finds_one,
            one-behind slot are.audio_streams (system_stream file pid)
                (audios-full kept (begun-with kept is.times.first.seq.vbv kept_are) is.times.taken_out.audios row.audios (video_pid place + 1) are.audio_streams audio-pids
                (subst (λ (audios : List AudioStream). AreOnAxis is.axis.begin is.axis.at audios row.audios) is.times.taken_out.audio_packets on-axis) audio-counted is.audios_clean of_audios)
                (λ found_one finds_one.
                laws.sections file list slot (map_pid place) found_one is.read pat-counted map-counted is.sections
                (subst (λ (k : ℕ). FindsOn slot (system_stream file k) found_one) pid-is finds_one)),
          )
          by_off
        where
          of_audios : AreAudioStreams file is.times.base kept (map (pes_packets_on file) is.times.taken_out.audios) are.audio_streams
          of_audios =
              subst (λ (audios : List AudioStream). AreAudioStreams file is.times.base kept audios are.audio_streams) (ap (λ (e : Demuxed). e.audios) d-is ∙ is.times.taken_out.audio_packets)
              (subst (λ (z : ℕ). AreAudioStreams file z kept d.audios are.audio_streams) zero-is are.are_audio)

          of_video : IsVideoStream file is.times.base kept (video_pid place) is.times.demuxed.video are.video_stream
          of_video =
              subst (λ (k : ℕ). IsVideoStream file is.times.base kept k is.times.demuxed.video are.video_stream)
              (video-is are.video are.others (ap (λ (e : Demuxed). e.map.streams.items) (sym d-is) ∙ are.video_is))
              (subst (λ (z : ℕ). IsVideoStream file z kept are.video.pid is.times.demuxed.video are.video_stream) zero-is
              (subst (λ (e : Demuxed). IsVideoStream file c.zero kept are.video.pid e.video are.video_stream) d-is are.is_video))

          by_off : FindsFirst slot (are.video_stream ∷ are.audio_streams ++ system_stream file pid ∷ []) found
          by_off =
              subst (λ (ss : List AuditedStream). FindsFirst slot ss found) are.streams_are
              (subst (λ (off : Option ℕ). FindsBy slot d.map.pcr_pid off streams found) off-is finds)

  pub found-clean : IsFoundClean file slot number
  found-clean = record {
    demuxed = is.times.demuxed;
    map_pid = map_pid place;
    clock = clock;
    read = read-of;
    none_off = refl;
    first = is.times.first;
    later = is.times.later;
    decoded = is.times.decoded;
    found = found-of;
  }
