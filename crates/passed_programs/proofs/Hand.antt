-- All that is taken out of a file by passes, whichever file each of them read.
use Rattle.std.proofs.Common.{◌≡◌, ℕ, suc, ◌+◌, ◌/◌, ◌≤◌, true, List, [], ◌∷◌, length, map, All, Option, None, refl, sym, ap, ◌∙◌, subst, arith, ℤ}
use Rattle.std.specs.List.{AllZip, sum_by}
use Rattle.std.proofs.lemmas.List.Elements.{All-cons, All-nil}
use Rattle.bit_lists.specs.Fields.{AreBytes}
use Rattle.psi_tables.specs.declared.stream.Stream.{Stream}
use Rattle.psi_tables.specs.Pmt.{pids_of}
use Rattle.ts_packets.specs.TransportStream.{piece_count}
use Rattle.ts_demux.specs.declared.carried_streams.CarriedStreams.{CarriedStreams}
use Rattle.ts_demux.specs.declared.demuxed.AudioStream.{AudioStream}
use Rattle.ts_demux.specs.declared.demuxed.Demuxed.{Demuxed}
use Rattle.ts_demux.specs.declared.demuxed.PesUnit.{PesUnit}
use Rattle.ts_demux.specs.CarriedMap.{HasStreams}
use Rattle.ts_demux.specs.Demux.{pes_packets_on}
use Rattle.elementary_streams.specs.declared.audio_stream.ReadStream.{ReadStream}
use Rattle.elementary_streams.specs.Audio.{IsStreamRead}
use Rattle.elementary_streams.proofs.CarriedSizes.{units_few}
use Rattle.program_reader.specs.declared.unit_sizes.SizesWanted.{SizesWanted}
use Rattle.program_reader.specs.declared.unit_sizes.UnitSizes.{UnitSizes}
use Rattle.program_reader.specs.Programs.{all_packets_dropped, video_bytes}
use Rattle.program_reader.specs.Sizes.{AreProgramSizes, stands_at}
use Rattle.program_reader.specs.KeptUnits.{kept_at}
use Rattle.program_reader.specs.ReadProgram.{CanBeWritten, IsReadProgram, IsWithinLimits}
use Rattle.stream_pass.specs.PassedStream.{HasPackets, IsOfStream}
use Rattle.passed_programs.specs.PassedAudio.{ReadsAudio}
use Rattle.passed_programs.specs.declared.due_program.FoundMap.{FoundMap}
use Rattle.passed_programs.specs.declared.passed_program.PassedProgram.{PassedProgram}
use Rattle.passed_programs.specs.declared.passes.VideoPassed.{VideoPassed}
use Rattle.passed_programs.specs.PassedProgram.{AreRead, IsPassed}
use Rattle.passed_programs.specs.Private.Passes.{AreAudiosPassed, AreStreamsPassed, IsVideoPassed, OfFront}
use Rattle.passed_programs.proofs.OfFile.{sizes_of_program}

-- ---- one stream

-- a stream has no more bytes than its file
pub stream_small : (any : Stream) (file pids : List ℕ) (index : ℕ) (packets : List PesUnit) → HasPackets file pids index packets → length file ≤ 1099511627776
    → sum_by (λ packet. length packet.bytes) packets ≤ 1099511627776
stream_small any file pids index packets has short =
    let few = units_few file (record any { pid = has.pid }) in
    let same : sum_by (λ packet. length packet.bytes) packets ≡ sum_by (λ packet. length packet.bytes) (pes_packets_on file (record any { pid = has.pid })).units =
    ap (λ (ps : List PesUnit). sum_by (λ packet. length packet.bytes) ps) has.packets_are in
    let count : piece_count file ≡ length file / 188 = refl in
    omega (arith, few.1, same, short, count)

-- ---- the audio streams

-- the PES packets of each as its pass had them
pub hand_audios : (front : Option (List ℕ)) (pids : List ℕ) (first : ℤ) (index : ℕ) (read : List ReadStream) → AreAudiosPassed front pids first index read → List AudioStream
hand_audios front pids first index [] are = []
hand_audios front pids first index (one ∷ more) are = record { pid = 0; units = are.0.holds.packets } ∷ hand_audios front pids first (index + 1) more are.1

pub hand_count : (front : Option (List ℕ)) (pids : List ℕ) (first : ℤ) (index : ℕ) (read : List ReadStream) (are : AreAudiosPassed front pids first index read)
    → length (hand_audios front pids first index read are) ≡ length read
unfolding hand_audios
hand_count front pids first index [] are = refl
hand_count front pids first index (one ∷ more) are = ap suc (hand_count front pids first (index + 1) more are.1)

pub hand_read : (front : Option (List ℕ)) (pids : List ℕ) (first : ℤ) (index : ℕ) (read : List ReadStream) (are : AreAudiosPassed front pids first index read)
    → AllZip (IsStreamRead first) (hand_audios front pids first index read are) read
unfolding hand_audios
hand_read front pids first index [] are = tt
hand_read front pids first index (one ∷ more) are =
    (are.0.holds.said (record { pid = 0; units = are.0.holds.packets }) refl, hand_read front pids first (index + 1) more are.1)

pub hand_few : (front : Option (List ℕ)) (pids : List ℕ) (first : ℤ) (index : ℕ) (read : List ReadStream) (are : AreAudiosPassed front pids first index read)
    → All (λ (stream : AudioStream). length stream.units ≤ 4000000) (hand_audios front pids first index read are)
unfolding hand_audios
hand_few front pids first index [] are = All-nil (λ (stream : AudioStream). length stream.units ≤ 4000000)
hand_few front pids first index (one ∷ more) are =
    All-cons (λ (stream : AudioStream). length stream.units ≤ 4000000) (record { pid = 0; units = are.0.holds.packets }) (hand_audios front pids first (index + 1) more are.1)
    are.0.holds.sound_stream.few (hand_few front pids first (index + 1) more are.1)

pub hand_small : (any : Stream) (front : Option (List ℕ)) (pids : List ℕ) (first : ℤ) (index : ℕ) (read : List ReadStream) (are : AreAudiosPassed front pids first index read)
    → All (λ (stream : AudioStream). sum_by (λ packet. length packet.bytes) stream.units ≤ 1099511627776) (hand_audios front pids first index read are)
unfolding hand_audios
hand_small any front pids first index [] are = All-nil (λ (stream : AudioStream). sum_by (λ packet. length packet.bytes) stream.units ≤ 1099511627776)
hand_small any front pids first index (one ∷ more) are =
    All-cons (λ (stream : AudioStream). sum_by (λ packet. length packet.bytes) stream.units ≤ 1099511627776) (record { pid = 0; units = are.0.holds.packets })
    (hand_audios front pids first (index + 1) more are.1)
    (stream_small any are.0.file pids index are.0.holds.packets are.0.holds.sound_stream.has are.0.holds.sound_stream.short)
    (hand_small any front pids first (index + 1) more are.1)

-- ---- all of it

module _ (front : Option (List ℕ)) (limit number : ℕ) (dropped : List ℕ) (wanted : SizesWanted) (carried : CarriedStreams) (passed : VideoPassed) (audios : List ReadStream)
    (are : AreStreamsPassed front limit number dropped wanted carried passed audios) (rest : ℕ) where
  abbrev pub own_streams : List AudioStream
  own_streams = hand_audios front (pids_of carried.map) passed.video.first.stated 1 audios are.audios_read

  abbrev pub own : Demuxed
  own = record { map = carried.map; video = are.video_read.holds.1.packets; audios = own_streams; rest = rest; not_carried = carried.others }

  abbrev found : FoundMap
  found = record { map = carried.map; rest = rest; not_carried = carried.others }

  any : Stream
  any = are.map_read.holds.tables.carried_is.video

  own_count : 1 + length own_streams ≡ length carried.map.streams.items
  own_count =
      let count = hand_count front (pids_of carried.map) passed.video.first.stated 1 audios are.audios_read in
      omega (arith, count, are.all_read)

  few_audios : length own_streams ≤ 8
  few_audios =
      let most : length carried.map.streams.items ≤ 1 + 8 = are.map_read.holds.few in
      omega (arith, own_count, most)

  pub own_read : length passed.video.units.items ≤ 4194304 → AreRead own found passed.video audios
  own_read units = record {
    map_is = refl;
    rest_is = refl;
    not_carried_are = refl;
    packets_few = (are.video_read.holds.1.sound_video.few, hand_few front (pids_of carried.map) passed.video.first.stated 1 audios are.audios_read);
    video_few = stream_small any are.video_read.file (pids_of carried.map) 0 are.video_read.holds.1.packets are.video_read.holds.1.sound_video.has are.video_read.holds.1.sound_video.short;
    audio_few = hand_small any front (pids_of carried.map) passed.video.first.stated 1 audios are.audios_read;
    audios_few = few_audios;
    video_read = are.video_read.holds.1.walked own refl;
    units_few = units;
    audios_read = hand_read front (pids_of carried.map) passed.video.first.stated 1 audios are.audios_read;
  }

  next_is : 1 + length own_streams ≡ suc (length own_streams)
  next_is = omega arith

  pub own_program : (start : ℕ) (answer : PassedProgram) → CanBeWritten carried.map → (is : IsPassed start own answer) → IsReadProgram start is.program
  own_program start answer fits is = record {
    demuxed = own;
    within = record {
      map_fits = fits;
      its_streams = record { as_many = sym own_count ∙ next_is; few = few_audios };
      few_packets = (are.video_read.holds.1.sound_video.few, hand_few front (pids_of carried.map) passed.video.first.stated 1 audios are.audios_read);
      video_small = stream_small any are.video_read.file (pids_of carried.map) 0 are.video_read.holds.1.packets are.video_read.holds.1.sound_video.has are.video_read.holds.1.sound_video.short;
      audios_small = hand_small any front (pids_of carried.map) passed.video.first.stated 1 audios are.audios_read;
    };
    program_is = is.program_is;
    bytes = subst AreBytes (sym is.program_is.video_is) are.video_read.holds.1.bytes;
    cut = 0;
    one_cut = omega arith;
    pes_dropped_is = let none : all_packets_dropped own ≡ all_packets_dropped own + 0 = omega arith in is.pes_dropped_is ∙ none;
  }

  pub own_sizes : (start : ℕ) (answer : PassedProgram) (is : IsPassed start own answer) → map stands_at answer.units ≡ map kept_at passed.video.units.items → wanted.are_wanted ≡ true
      → AreProgramSizes is.program wanted.coarser.now passed.video.sizes.items
  own_sizes start answer is places want =
      sizes_of_program start own answer passed.video wanted.coarser.now passed.video.sizes.items places (are.video_read.holds.1.sized want own refl) is
