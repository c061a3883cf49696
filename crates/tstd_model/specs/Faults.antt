-- The faults of a decoder, and which of them is the first.
use Rattle.std.specs.Prelude.{◌≡◌, ℕ, ◌+◌, ◌*◌, ◌<◌, ◌≤◌, ◌⊎◌, List, take, sum_by, filter, slice_get, slice_index_or, Option, Some, None}
use Rattle.stream_constants.specs.declared.clock.TheConstants.{SUBTICKS_PER_TICK}
use Rattle.stream_constants.specs.declared.decoder.TheConstants.{HOLD_TICKS}
pub use Rattle.tstd_model.specs.declared.fault.TstdFault.{TstdFault}
pub use Rattle.tstd_model.specs.declared.fault.TstdFault.TheVariants.{Overflow, Late, Old}
use Rattle.tstd_model.specs.Instants.{came_before}
use Rattle.tstd_model.specs.PacketBytes.{Arrival, Data, parts, arrives, kept}
use Rattle.tstd_model.specs.Decoder.{BufferKind, Removal, DecoderBuffer, IsOverfull, buffers, removed, is_removed, completes}

-- some buffer is over its size at an instant
pub record Overflows (slot : ℕ) (kind : BufferKind) (arrivals : List Arrival) (removals : List Removal) (at : ℕ) : Type 0 where
  pub place : ℕ
  pub buffer : DecoderBuffer
  pub one_of : slice_get (buffers slot kind arrivals removals) place ≡ Some buffer
  pub over : IsOverfull buffer at

-- the removal of this number finds less than it takes: fewer bytes came before its time than it and those before it take
pub record FindsLess (slot : ℕ) (kind : BufferKind) (arrivals : List Arrival) (removals : List Removal) (number : ℕ) : Type 0 where
  pub removal : Removal
  pub one_of : slice_get removals number ≡ Some removal
  pub fewer : came_before (SUBTICKS_PER_TICK * removal.due) (completes slot kind arrivals removals) < sum_by (λ r. r.bytes) (take (number + 1) removals)

-- subticks that a byte may be held
abbrev pub hold_subticks : ℕ
hold_subticks = SUBTICKS_PER_TICK * HOLD_TICKS

-- a byte of data that removals take is held until this instant, which is the first one past the limit, or longer
pub record HeldPastLimit (slot : ℕ) (kind : BufferKind) (arrivals : List Arrival) (removals : List Removal) (at : ℕ) : Type 0 where
  pub byte : ℕ
  pub arrival : ℕ
  pub is_data : slice_get (filter (is_removed kind) (parts arrivals)) byte ≡ Some Data
  pub arrives : slice_get (kept (is_removed kind) (parts arrivals) (arrives slot arrivals)) byte ≡ Some arrival
  pub past : at ≡ arrival + hold_subticks + 1
  pub stays : (instant : ℕ) → slice_get (removed removals) byte ≡ Some instant → arrival + hold_subticks < instant

-- the decoder has this fault
abbrev pub IsFault : (slot : ℕ) → BufferKind → List Arrival → List Removal → TstdFault → Type 0
IsFault slot kind arrivals removals (Overflow at) = Overflows slot kind arrivals removals at
IsFault slot kind arrivals removals (Late removal) = FindsLess slot kind arrivals removals removal
IsFault slot kind arrivals removals (Old at) = HeldPastLimit slot kind arrivals removals at

-- the instant of a fault
abbrev pub instant_of : List Removal → TstdFault → ℕ
instant_of removals (Overflow at) = at
instant_of removals (Late removal) = SUBTICKS_PER_TICK * (slice_index_or removals removal (record { due = 0; bytes = 0 })).due
instant_of removals (Old at) = at

-- of two faults at one instant, the first is said before the second: removals in their order, then buffers, then held bytes
abbrev pub FaultGoesBefore : TstdFault → TstdFault → Type 0
FaultGoesBefore (Late removal) (Late other) = removal ≤ other
FaultGoesBefore (Late removal) (Overflow other) = Unit {0}
FaultGoesBefore (Late removal) (Old other) = Unit {0}
FaultGoesBefore (Overflow at) (Late other) = ⊥
FaultGoesBefore (Overflow at) (Overflow other) = Unit {0}
FaultGoesBefore (Overflow at) (Old other) = Unit {0}
FaultGoesBefore (Old at) (Late other) = ⊥
FaultGoesBefore (Old at) (Overflow other) = ⊥
FaultGoesBefore (Old at) (Old other) = Unit {0}

-- the fault is there, and each fault is later, or at the same instant and said after it
pub record IsEarliestFault (slot : ℕ) (kind : BufferKind) (arrivals : List Arrival) (removals : List Removal) (fault : TstdFault) : Type 0 where
  pub there : IsFault slot kind arrivals removals fault
  pub first : (other : TstdFault) → IsFault slot kind arrivals removals other
      → (instant_of removals fault < instant_of removals other)
      ⊎ ((instant_of removals fault ≡ instant_of removals other) × FaultGoesBefore fault other)

-- the first fault, or none where there is none
abbrev pub IsFirstOrNone : (slot : ℕ) → BufferKind → List Arrival → List Removal → Option TstdFault → Type 0
IsFirstOrNone slot kind arrivals removals (Some fault) = IsEarliestFault slot kind arrivals removals fault
IsFirstOrNone slot kind arrivals removals None = (fault : TstdFault) → IsFault slot kind arrivals removals fault → ⊥
