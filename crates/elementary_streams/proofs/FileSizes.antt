-- What is taken out of a transport stream has no more bytes than the file.
use Rattle.std.proofs.Common.{◌≡◌, ℕ, ◌/◌, ◌≤◌, List, ◌∷◌, length, map, get_or, All, refl, sym, ap, ◌∙◌, subst, arith}
use Rattle.std.specs.List.{sum_by}
use Rattle.std.proofs.lemmas.List.{length-map}
use Rattle.std.proofs.lemmas.List.Elements.{All-map}
use Rattle.psi_tables.specs.declared.stream.Stream.{Stream}
use Rattle.ts_demux.specs.declared.demuxed.AudioStream.{AudioStream}
use Rattle.ts_demux.specs.declared.demuxed.Demuxed.{Demuxed}
use Rattle.ts_demux.specs.declared.demuxed.PesUnit.{PesUnit}
use Rattle.ts_demux.specs.Demux.{IsDemuxed, pes_packets_on}
use Rattle.ts_packets.specs.TransportStream.{piece_count}
use Rattle.elementary_streams.proofs.CarriedSizes.{units_few}

abbrev AreWithin : List ℕ → List PesUnit → Type 0
AreWithin file units = sum_by (λ packet. length packet.bytes) units ≤ length file

stream_within : (file : List ℕ) (stream : Stream) → AreWithin file (pes_packets_on file stream).units
stream_within file stream = let count : piece_count file ≡ length file / 188 = refl in let few = units_few file stream in omega (arith, few.1, count)

pub video_within : (file : List ℕ) (number : ℕ) (drop : List ℕ) (demuxed : Demuxed) → IsDemuxed file number drop demuxed → AreWithin file demuxed.video
video_within file number drop demuxed is = subst (λ (units : List PesUnit). AreWithin file units) (sym is.video_packets) (stream_within file is.video)

pub audios_within : (file : List ℕ) (number : ℕ) (drop : List ℕ) (demuxed : Demuxed) → IsDemuxed file number drop demuxed
    → All (λ (stream : AudioStream). AreWithin file stream.units) demuxed.audios
audios_within file number drop demuxed is =
    subst (λ (streams : List AudioStream). All (λ (stream : AudioStream). AreWithin file stream.units) streams) (sym is.audio_packets)
    (All-map (λ (stream : AudioStream). AreWithin file stream.units) (pes_packets_on file) is.audios (λ k d lt. stream_within file (get_or is.audios k d)))

pub few_audios : (file : List ℕ) (number : ℕ) (drop : List ℕ) (demuxed : Demuxed) → IsDemuxed file number drop demuxed → length demuxed.audios ≤ 8
few_audios file number drop demuxed is =
    let streams : length demuxed.map.streams.items ≡ length (is.video ∷ is.audios) = ap (λ (xs : List Stream). length xs) is.streams in
    let audios : length demuxed.audios ≡ length is.audios = ap (λ (xs : List AudioStream). length xs) is.audio_packets ∙ length-map is.audios (pes_packets_on file) in
    omega (arith, streams, audios, is.few)
