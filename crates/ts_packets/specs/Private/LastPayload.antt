-- What the fields hold that keep the last packet with payload of a PID.
use Rattle.std.specs.Prelude.{ℕ, nat_lt, List, take, Option, Some, None, if◌then◌else◌}
use Rattle.ts_packets.specs.LastPayload.{Numbered}

-- the front of the bytes, or nothing where its length is 0
abbrev pub last_kept : ℕ → ℕ → List ℕ → Option Numbered
last_kept counter count bytes = if nat_lt 0 count then Some (record { counter = counter; payload = take count bytes }) else None
