-- The clock of a program by the PCRs of a stream, and when it shows a time (ISO/IEC 13818-1, 2.4.2.2 and 2.4.3.5).
use Rattle.std.specs.Prelude.{◌≡◌, ℕ, ◌+◌, ◌<◌, ◌≤◌, List, length, slice_get, Option, Some, option_and_then, ℤ, pos, ◌+ℤ◌, ◌*ℤ◌}
use Rattle.ts_packets.specs.Packet.{PacketRecord}
use Rattle.slot_rule.specs.Timetable.{period}
use Rattle.pcr_writer.specs.declared.pcr.TheConstants.{PCR_MODULUS}
use Rattle.pcr_writer.specs.PcrPacket.{pcr_at}

-- the PCR of a packet, where it has one
abbrev pub pcr_of : PacketRecord → Option ℕ
pcr_of packet = option_and_then (λ field. field.pcr) packet.field

-- the packet in slot n of a stream is of the PID and has this PCR
pub record HasPcrIn (stream : List PacketRecord) (pid n pcr : ℕ) : Type 0 where
  pub packet : PacketRecord
  pub there : slice_get stream n ≡ Some packet
  pub pid_is : packet.pid ≡ pid
  pub pcr_is : pcr_of packet ≡ Some pcr

-- The PCRs on a PID of a stream whose slots last so many ticks are those of one clock, which shows `base` when the stream's first byte comes and goes on at
-- 27,000,000 ticks a second, modulo 300 times 2^33: each says what the clock shows when the byte with the last bit of its base comes. One stands in
-- the slots of any period.
pub record IsClock (stream : List PacketRecord) (slot pid base : ℕ) : Type 0 where
  pub below : base < PCR_MODULUS
  pub each : (n pcr : ℕ) → HasPcrIn stream pid n pcr → pcr ≡ pcr_at base n slot
  pub often : (from : ℕ) → from + period slot ≤ length stream → (n : ℕ) × (pcr : ℕ) × (from ≤ n) × (n < from + period slot) × HasPcrIn stream pid n pcr
  pub long : period slot ≤ length stream

-- A clock that shows `base` at the first byte of a stream first shows this time, in ticks, so many ticks later: as much as the time is behind the base, modulo
-- the round of the clock, and less than a round.
pub record IsFirstShown (base : ℕ) (time : ℤ) (at : ℕ) : Type 0 where
  pub first : at < PCR_MODULUS
  pub shown : (turns : ℤ) × (pos (base + at) ≡ (time +ℤ turns *ℤ pos PCR_MODULUS))
