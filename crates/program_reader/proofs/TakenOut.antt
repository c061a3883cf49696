-- What is taken out of a file of either form has as many audio streams as its map has streams behind the video, eight at most.
use Rattle.std.proofs.Common.{◌≡◌, ℕ, ◌+◌, ◌≤◌, suc, List, [], ◌∷◌, ◌++◌, length, map, take, sym, ap, subst, ◌∙◌, arith}
use Rattle.std.proofs.lemmas.List.{length-map}
use Rattle.psi_tables.specs.declared.program_map.ProgramMap.{ProgramMap}
use Rattle.psi_tables.specs.declared.stream.Stream.{Stream}
use Rattle.ts_demux.specs.declared.demuxed.AudioStream.{AudioStream}
use Rattle.ts_demux.specs.declared.demuxed.Demuxed.{Demuxed}
use Rattle.ts_demux.specs.Demux.{IsDemuxed, pes_packets_on}
use Rattle.program_stream.specs.Split.{IsSplit}
use Rattle.program_stream.specs.Streams.{carried_audio_ids, map_stream, stream_with_id}
use Rattle.job_report.specs.declared.job.Form.{Form}
use Rattle.job_report.specs.declared.job.Form.TheVariants.{Ts, Ps}
use Rattle.elementary_streams.specs.Audio.{audio_type}
use Rattle.program_reader.specs.AudioTypes.{typed}
use Rattle.program_reader.specs.Programs.{IsTakenOut, StandIn, in_packets, in_elements}
use Rattle.program_reader.specs.ReadProgram.{HasItsStreams}
use Rattle.program_reader.proofs.AudioMaps.{by_type}

-- the streams of a program stream in its map
pub typed-streams : (file drop : List ℕ) (found : Demuxed) (cut : ℕ) (is : IsSplit file drop found cut)
    → (typed Ps found).map.streams.items ≡ map_stream 2 is.video ∷ map by_type found.audios
typed-streams file drop found cut is = ap (λ (m : ProgramMap). take 1 m.streams.items ++ map by_type found.audios) is.map_is

of-packets : (file : List ℕ) (number : ℕ) (drop : List ℕ) (found : Demuxed) → IsDemuxed file number drop found → HasItsStreams (typed Ts found)
of-packets file number drop found is =
    let streams : length found.map.streams.items ≡ suc (length is.audios) = ap (λ (xs : List Stream). length xs) is.streams in
    let audios : length found.audios ≡ length is.audios =
    ap (λ (xs : List AudioStream). length xs) is.audio_packets ∙ length-map is.audios (pes_packets_on file) in
    let most : length found.map.streams.items ≤ 1 + 8 = is.few in
    record { as_many = omega (arith, streams, audios); few = omega (arith, streams, audios, most) }

pub of-elements : (file drop : List ℕ) (found : Demuxed) (cut : ℕ) → IsSplit file drop found cut → HasItsStreams (typed Ps found)
of-elements file drop found cut is =
    let ids : List ℕ = carried_audio_ids drop is.elements in
    let audios : length found.audios ≡ length ids = ap (λ (xs : List AudioStream). length xs) is.audio_packets ∙ length-map ids (stream_with_id is.elements) in
    let most : length ids ≤ 8 = is.few in
    record {
      as_many = ap (λ (xs : List Stream). length xs) (typed-streams file drop found cut is) ∙ ap suc (length-map found.audios by_type);
      few = omega (arith, audios, most);
    }

by-form : (form : Form) (file : List ℕ) (number : ℕ) (drop : List ℕ) (found : Demuxed) (cut : ℕ) → StandIn form file number drop found cut → HasItsStreams (typed form found)
by-form form file number drop found cut (in_packets is_form is none) = subst (λ (f : Form). HasItsStreams (typed f found)) (sym is_form) (of-packets file number drop found is)
by-form form file number drop found cut (in_elements is_form one is) = subst (λ (f : Form). HasItsStreams (typed f found)) (sym is_form) (of-elements file drop found cut is)

pub its-streams : (form : Form) (file : List ℕ) (number : ℕ) (drop : List ℕ) (demuxed : Demuxed) → IsTakenOut form file number drop demuxed → HasItsStreams demuxed
its-streams form file number drop demuxed is = subst HasItsStreams (sym is.typed_is) (by-form form file number drop is.found is.cut is.stand)
