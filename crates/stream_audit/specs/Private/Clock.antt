-- What one more clock reference changes; no public clause cites these.
use Rattle.std.specs.Prelude.{ℕ, ◌*◌, Option, Some, None, unwrap_or, if◌then◌else◌}
use Rattle.std.specs.Option.{option_or}
use Rattle.stream_constants.specs.declared.packets.TheConstants.{PACKET_BYTES}
use Rattle.pcr_writer.specs.declared.pcr.TheConstants.{BASE_END_BYTE}
use Rattle.pcr_writer.specs.PcrPacket.{arrival_ticks}
use Rattle.stream_audit.specs.Clock.{is_off, ticks_from}

-- what the file's clock shows at its first byte, by the first reference, or by this one where it is the first
abbrev pub zero_by : (slot : ℕ) → Option ℕ → (packet pcr : ℕ) → ℕ
zero_by slot zero packet pcr = unwrap_or zero (ticks_from (arrival_ticks slot packet BASE_END_BYTE) pcr)

-- behind a reference that is known
abbrev pub zero_behind : (slot : ℕ) → Option ℕ → (packet pcr : ℕ) → Option ℕ
zero_behind slot zero packet pcr = Some (zero_by slot zero packet pcr)

-- the first one that is off, or this one where it is the first
abbrev pub off_behind : (slot : ℕ) → (zero off : Option ℕ) → (packet pcr : ℕ) → Option ℕ
off_behind slot zero off packet pcr =
    option_or off (if is_off slot (zero_by slot zero packet pcr) (record { packet = packet; pcr = pcr }) then Some (PACKET_BYTES * packet) else None)
