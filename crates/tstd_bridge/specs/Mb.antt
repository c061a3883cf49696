-- MB of a video as it would be if EB always had room, and how far it is behind the work that the slot rule counts.
use Rattle.std.specs.Prelude.{ℕ, ◌+◌, ◌-◌, ◌*◌, List}
use Rattle.slot_rule.specs.declared.constants.TheConstants.{VIDEO_TB_GATE}
use Rattle.stream_constants.specs.declared.decoder.TheConstants.{MB_SUBTICKS, VIDEO_BYTES, VIDEO_TB_SUBTICKS}
use Rattle.stream_constants.specs.declared.packets.TheConstants.{PACKET_BYTES}
use Rattle.tstd_model.specs.declared.decoder_input.Arrival.{Arrival}
use Rattle.tstd_model.specs.declared.decoder_input.BufferKind.TheVariants.{Video as VideoBuffers}
use Rattle.tstd_model.specs.Instants.{departures}
use Rattle.tstd_model.specs.Decoder.{DecoderBuffer, eb_bytes, payload_passes}

-- subticks that MB is behind at most: those that a packet and the bytes that its gate lets wait take to leave TB
abbrev pub mb_delay : ℕ
mb_delay = (VIDEO_TB_GATE + PACKET_BYTES) * VIDEO_TB_SUBTICKS

-- MB if EB always had room, and a byte of a PES header took as long as a byte of data
abbrev pub free_running_mb : (slot vbv : ℕ) → List Arrival → DecoderBuffer
free_running_mb slot vbv arrivals = record {
  size = VIDEO_BYTES - eb_bytes vbv;
  ins = payload_passes slot (VideoBuffers vbv) arrivals;
  outs = departures MB_SUBTICKS 0 (payload_passes slot (VideoBuffers vbv) arrivals);
}
