-- The PES packets that passed, and those that are taken out of a file at once.
use Rattle.std.proofs.Common.{◌≡◌, ℕ, zero, suc, ◌+◌, List, [], ◌∷◌, ◌++◌, map, slice_get, Some, sym, ap, ◌∙◌, arith}
use Rattle.std.specs.Option.{option_to_list}
use Rattle.std.proofs.lemmas.Option.{same_Some}
use Rattle.ts_packets.specs.TransportStream.{piece_count}
use Rattle.psi_tables.specs.declared.stream.Stream.{Stream}
use Rattle.psi_tables.specs.Pmt.{pids_of as pids_of_map}
use Rattle.ts_demux.specs.declared.demuxed.AudioStream.{AudioStream}
use Rattle.ts_demux.specs.declared.demuxed.Demuxed.{Demuxed}
use Rattle.ts_demux.specs.declared.demuxed.PesUnit.{PesUnit}
use Rattle.ts_demux.specs.Demux.{IsDemuxed, pes_packets_on}
use Rattle.pes_passing.specs.declared.passing_packets.PassingPackets.{PassingPackets}
use Rattle.pes_passing.specs.PassingPackets.{held_of, index_of, packets_before, pids_of, StandsAtEnd}

-- the stream of a number, and its PID
pub stream_at : (file : List ℕ) (streams : List Stream) (k : ℕ) (stream : AudioStream) (pid : ℕ) → slice_get (map (pes_packets_on file) streams) k ≡ Some stream
    → slice_get (map (λ (s : Stream). s.pid) streams) k ≡ Some pid → stream.units ≡ packets_before file pid (piece_count file)
stream_at file [] k stream pid there here = absurd cc
stream_at file (s ∷ streams) zero stream pid there here =
    ap (λ (a : AudioStream). a.units) (sym (same_Some (pes_packets_on file s) stream there)) ∙ ap (λ (p : ℕ). packets_before file p (piece_count file)) (same_Some s.pid pid here)
stream_at file (s ∷ streams) (suc k) stream pid there here = stream_at file streams k stream pid there here

pid_at : (packets : PassingPackets) (demuxed : Demuxed) (video : Stream) (audios : List Stream) (k pid : ℕ) → pids_of packets ≡ pids_of_map demuxed.map
    → demuxed.map.streams.items ≡ video ∷ audios → index_of packets ≡ k → slice_get (pids_of packets) (index_of packets) ≡ Some pid
    → slice_get (map (λ (s : Stream). s.pid) (video ∷ audios)) k ≡ Some pid
pid_at packets demuxed video audios k pid same streams index there =
    sym (ap (λ (pids : List ℕ). slice_get pids k) (same ∙ ap (map (λ (s : Stream). s.pid)) streams)) ∙ sym (ap (slice_get (pids_of packets)) index) ∙ there

pub video_is : (file : List ℕ) (program : ℕ) (drop : List ℕ) (demuxed : Demuxed) (ended : List PesUnit) (packets : PassingPackets) → IsDemuxed file program drop demuxed
    → StandsAtEnd file ended packets → pids_of packets ≡ pids_of_map demuxed.map → index_of packets ≡ 0 → demuxed.video ≡ ended ++ option_to_list (held_of packets)
video_is file program drop demuxed ended packets is at_end same index =
    let here = pid_at packets demuxed is.video is.audios 0 at_end.pid same is.streams index at_end.pid_is in
    is.video_packets ∙ ap (λ (p : ℕ). packets_before file p (piece_count file)) (same_Some is.video.pid at_end.pid here) ∙ at_end.split.packets

pub audio_is : (file : List ℕ) (program : ℕ) (drop : List ℕ) (demuxed : Demuxed) (ended : List PesUnit) (packets : PassingPackets) (k : ℕ) (stream : AudioStream)
    → IsDemuxed file program drop demuxed → StandsAtEnd file ended packets → pids_of packets ≡ pids_of_map demuxed.map → index_of packets ≡ k + 1
    → slice_get demuxed.audios k ≡ Some stream → stream.units ≡ ended ++ option_to_list (held_of packets)
audio_is file program drop demuxed ended packets k stream is at_end same index there =
    let next : index_of packets ≡ suc k = omega (arith, index) in
    let here = pid_at packets demuxed is.video is.audios (suc k) at_end.pid same is.streams next at_end.pid_is in
    stream_at file is.audios k stream at_end.pid (sym (ap (λ (audios : List AudioStream). slice_get audios k) is.audio_packets) ∙ there) here ∙ at_end.split.packets
