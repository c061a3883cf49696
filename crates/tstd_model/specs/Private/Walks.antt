-- What the walks over a decoder's bytes find, and which of it is said; no public clause cites these.
use Rattle.std.specs.Prelude.{◌≡◌, ℕ, ◌<◌, ◌≤◌, List, drop, filter, min, Option, Some, None}
use Rattle.tstd_model.specs.PacketBytes.{Arrival, parts, arrives, kept}
use Rattle.tstd_model.specs.Decoder.{BufferKind, Video, Audio, System, Removal, DecoderBuffer, transport_buffer, multiplexing_buffer, audio_buffer, system_buffer, removed, is_removed, completes}
use Rattle.tstd_model.specs.Faults.{TstdFault, Overflow, Late, Old, hold_subticks}
use Rattle.tstd_model.specs.Private.Scans.{RemovedByte, first_over, first_late, first_old, taken_from}

-- the buffer behind TB
abbrev pub main_buffer : (slot : ℕ) → BufferKind → List Arrival → List Removal → DecoderBuffer
main_buffer slot (Video vbv) arrivals removals = multiplexing_buffer slot vbv arrivals removals
main_buffer slot Audio arrivals removals = audio_buffer slot arrivals removals
main_buffer slot System arrivals removals = system_buffer slot arrivals

-- the first instant at which a buffer is over its size, by a walk
abbrev pub first_excess : DecoderBuffer → Option ℕ
first_excess buffer = first_over (drop buffer.size buffer.ins) buffer.outs

-- the smaller of two instants that may be there
abbrev pub earlier : Option ℕ → Option ℕ → Option ℕ
earlier None other = other
earlier (Some at) None = Some at
earlier (Some at) (Some other) = Some (min at other)

-- the first instant at which TB or the buffer behind it is over its size, by walks
abbrev pub excess_found : (slot : ℕ) → BufferKind → List Arrival → List Removal → Option ℕ
excess_found slot kind arrivals removals =
    earlier (first_excess (transport_buffer slot kind arrivals)) (first_excess (main_buffer slot kind arrivals removals))

-- the first byte that a removal doesn't find, by a walk
abbrev pub late_found : (slot : ℕ) → BufferKind → List Arrival → List Removal → Option RemovedByte
late_found slot kind arrivals removals = first_late (completes slot kind arrivals removals) (taken_from 0 removals)

-- the first instant at which a byte is held past the limit, by a walk
abbrev pub old_found : (slot : ℕ) → BufferKind → List Arrival → List Removal → Option ℕ
old_found slot kind arrivals removals =
    first_old hold_subticks (filter (is_removed kind) (parts arrivals)) (kept (is_removed kind) (parts arrivals) (arrives slot arrivals)) (removed removals)

-- an instant is at most another one, if that is there; it is before another one, if that is there
abbrev pub NotAfter : (at : ℕ) → Option ℕ → Type 0
NotAfter at None = Unit {0}
NotAfter at (Some other) = at ≤ other

abbrev pub Before : (at : ℕ) → Option ℕ → Type 0
Before at None = Unit {0}
Before at (Some other) = at < other

abbrev pub BeforeByte : (at : ℕ) → Option RemovedByte → Type 0
BeforeByte at None = Unit {0}
BeforeByte at (Some byte) = at < byte.at

-- what is said of a byte that isn't found, an instant of excess and an instant past the limit
abbrev pub IsEarliest : Option RemovedByte → (over old : Option ℕ) → Option TstdFault → Type 0
IsEarliest late over old None = (late ≡ None) × (over ≡ None) × (old ≡ None)
IsEarliest late over old (Some (Late removal)) =
    (byte : RemovedByte) × (late ≡ Some byte) × (byte.removal ≡ removal) × NotAfter byte.at over × NotAfter byte.at old
IsEarliest late over old (Some (Overflow at)) = (over ≡ Some at) × BeforeByte at late × NotAfter at old
IsEarliest late over old (Some (Old at)) = (old ≡ Some at) × BeforeByte at late × Before at over
