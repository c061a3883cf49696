-- The streams of a program stream, and those that are taken out of it at once.
use Rattle.std.proofs.Common.{◌≡◌, ℕ, List, slice_get, Some, sym, ◌∙◌}
use Rattle.psi_tables.specs.Pmt.{pids_of as pids_of_map}
use Rattle.ts_demux.specs.declared.demuxed.AudioStream.{AudioStream}
use Rattle.ts_demux.specs.declared.demuxed.Demuxed.{Demuxed}
use Rattle.ts_demux.specs.declared.demuxed.PesUnit.{PesUnit}
use Rattle.program_stream.specs.Split.{IsSplit}
use Rattle.pes_passing.proofs.Split.{audio_of, video_of}
use Rattle.stream_pass.specs.PassedElements.{HasIdPackets}

module _ (file drop : List ℕ) (demuxed : Demuxed) (cut : ℕ) (packets : List PesUnit) (is : IsSplit file drop demuxed cut) where
  pub id_video_is : (id : ℕ) → slice_get (pids_of_map demuxed.map) 0 ≡ Some id → HasIdPackets file id packets → demuxed.video ≡ packets
  id_video_is id first has = video_of file drop demuxed cut has.elements has.cut id is has.elements_are first ∙ sym has.packets_are

  pub id_audio_is : (k : ℕ) (stream : AudioStream) → slice_get demuxed.audios k ≡ Some stream → HasIdPackets file stream.pid packets → stream.units ≡ packets
  id_audio_is k stream there has = audio_of file drop demuxed cut has.elements has.cut k stream is has.elements_are there ∙ sym has.packets_are
