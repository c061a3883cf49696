-- Packets with nothing but a PCR in a stream of constant rate (ISO/IEC 13818-1, 2.4.2.2, 2.4.3.4 and 2.4.3.5).
use Rattle.std.specs.Prelude.{ℕ, ◌+◌, ◌*◌, ◌/◌, ◌%◌, false, [], Some}
use Rattle.stream_constants.specs.declared.packets.TheConstants.{PACKET_BYTES}
use Rattle.pcr_writer.specs.declared.pcr.TheConstants.{BASE_END_BYTE, PCR_MODULUS}
use Rattle.ts_packets.specs.Packet.{PacketRecord}

-- the whole ticks, from the first byte of slot 0 on, at which a byte of slot n arrives: a slot lasts so many ticks, and its
-- bytes come evenly
abbrev pub arrival_ticks : (slot n byte : ℕ) → ℕ
arrival_ticks slot n byte = (PACKET_BYTES * n + byte) * slot / PACKET_BYTES

-- the PCR in slot n, where slot 0 begins at the tick `base`: the time at which the byte with its base's last bit arrives
abbrev pub pcr_at : (base n slot : ℕ) → ℕ
pcr_at base n slot = (base + arrival_ticks slot n BASE_END_BYTE) % PCR_MODULUS

-- a packet with this PCR and no payload
abbrev pub pcr_record : (pid counter ticks : ℕ) → PacketRecord
pcr_record pid counter ticks = record {
  pid = pid;
  start = false;
  counter = counter;
  field = Some (record { discontinuity = false; pcr = Some ticks });
  payload = [];
}
