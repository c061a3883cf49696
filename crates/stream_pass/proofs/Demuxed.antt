-- The streams of a file, and those that are taken out of it at once.
use Rattle.std.proofs.Common.{◌≡◌, ℕ, zero, suc, ◌+◌, List, [], ◌∷◌, map, slice_get, Some, sym, ap, ◌∙◌, arith}
use Rattle.std.proofs.lemmas.Option.{same_Some}
use Rattle.ts_packets.specs.TransportStream.{piece_count}
use Rattle.psi_tables.specs.declared.stream.Stream.{Stream}
use Rattle.psi_tables.specs.Pmt.{pids_of as pids_of_map}
use Rattle.ts_demux.specs.declared.demuxed.AudioStream.{AudioStream}
use Rattle.ts_demux.specs.declared.demuxed.Demuxed.{Demuxed}
use Rattle.ts_demux.specs.declared.demuxed.PesUnit.{PesUnit}
use Rattle.ts_demux.specs.Demux.{IsDemuxed, pes_packets_on}
use Rattle.pes_passing.specs.PassingPackets.{packets_before}
use Rattle.stream_pass.specs.PassedStream.{HasPackets}
use Rattle.pes_passing.proofs.Demuxed.{stream_at}

module _ (file : List ℕ) (program : ℕ) (drop : List ℕ) (demuxed : Demuxed) (packets : List PesUnit) (is : IsDemuxed file program drop demuxed) where
  -- the PID of a number on the map
  pid_at : (k pid : ℕ) → slice_get (pids_of_map demuxed.map) k ≡ Some pid → slice_get (map (λ (s : Stream). s.pid) (is.video ∷ is.audios)) k ≡ Some pid
  pid_at k pid there = sym (ap (λ (streams : List Stream). slice_get (map (λ (s : Stream). s.pid) streams) k) is.streams) ∙ there

  pub video_is : HasPackets file (pids_of_map demuxed.map) 0 packets → demuxed.video ≡ packets
  video_is has = is.video_packets ∙ ap (λ (p : ℕ). packets_before file p (piece_count file)) (same_Some is.video.pid has.pid (pid_at 0 has.pid has.pid_is)) ∙ sym has.packets_are

  pub audio_is : (k : ℕ) (stream : AudioStream) → slice_get demuxed.audios k ≡ Some stream → HasPackets file (pids_of_map demuxed.map) (k + 1) packets → stream.units ≡ packets
  audio_is k stream there has =
      let next : k + 1 ≡ suc k = omega arith in
      let here = pid_at (suc k) has.pid (sym (ap (slice_get (pids_of_map demuxed.map)) next) ∙ has.pid_is) in
      stream_at file is.audios k stream has.pid (sym (ap (λ (audios : List AudioStream). slice_get audios k) is.audio_packets) ∙ there) here ∙ sym has.packets_are
