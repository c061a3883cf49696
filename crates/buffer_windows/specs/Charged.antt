-- How a window charges: nothing, bytes, or whole packets.
use Rattle.std.specs.Prelude.{ℕ, ◌*◌}
use Rattle.std.specs.Int.{div_ceil}
use Rattle.stream_constants.specs.declared.packets.TheConstants.{PAYLOAD_BYTES}
use Rattle.buffer_windows.specs.declared.prices.Charged.{Charged}
use Rattle.buffer_windows.specs.declared.prices.Charged.TheVariants.{Nothing, Bytes, Packets}

-- so many bytes in whole packets
abbrev pub in_packets : (bytes : ℕ) → ℕ
in_packets bytes = PAYLOAD_BYTES * div_ceil bytes PAYLOAD_BYTES

-- what is charged in this way for so many bytes
abbrev pub charged_for : Charged → (bytes : ℕ) → ℕ
charged_for Nothing bytes = 0
charged_for Bytes bytes = bytes
charged_for Packets bytes = in_packets bytes
