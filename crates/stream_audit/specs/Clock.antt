-- The clock of a file by its program clock references, and those that another clock would have (ISO/IEC 13818-1, 2.4.2.2 and 2.4.3.5).
use Rattle.std.specs.Prelude.{◌≡◌, ◌≢◌, ℕ, ◌+◌, ◌-◌, ◌*◌, ◌/◌, ◌%◌, min, nat_lt, Bool, List, [], ◌∷◌, Option, Some, if◌then◌else◌, ℤ, pos, ◌-ℤ◌, slice_get, option_and_then}
use Rattle.std.specs.List.{filter_map, find}
use Rattle.std.specs.Option.{option_map}
use Rattle.stream_constants.specs.declared.packets.TheConstants.{PACKET_BYTES}
use Rattle.pcr_writer.specs.declared.pcr.TheConstants.{BASE_END_BYTE, PCR_MODULUS}
use Rattle.pcr_writer.specs.PcrPacket.{arrival_ticks, pcr_at}
use Rattle.ts_demux.specs.declared.pid_places.Place.{Place}
use Rattle.ts_demux.specs.Demux.{AreStreamsSound}
use Rattle.ts_demux.specs.PidPlaces.{places_on}
use Rattle.stream_audit.specs.declared.clock.FileClock.{FileClock}
use Rattle.stream_audit.specs.declared.file_clock.FoundClock.{FoundClock}
use Rattle.stream_audit.specs.declared.file_clock.TheConstants.{NULL_PID}
use Rattle.stream_audit.specs.declared.clock.TheConstants.{PCR_TOLERANCE_TICKS}

-- ---- times on a clock that goes round, in ticks modulo 300 times 2^33

-- how much later the one time is than the other: less than a round
abbrev pub ticks_from : (earlier later : ℕ) → ℕ
ticks_from earlier later = (later + (PCR_MODULUS - earlier % PCR_MODULUS)) % PCR_MODULUS

-- how far apart two times are, by the shorter way round
abbrev pub apart : ℕ → ℕ → ℕ
apart one other = min (ticks_from one other) (ticks_from other one)

-- the difference of two times that is at least minus half a round and less than half a round
abbrev pub shift : (from to : ℕ) → ℤ
shift from to = if nat_lt (ticks_from from to) (PCR_MODULUS / 2) then pos (ticks_from from to) else (pos (ticks_from from to) -ℤ pos PCR_MODULUS)

-- ---- the clock of a file

-- a program clock reference, and the number of its packet in the file
pub record PlacedPcr : Type 0 where
  pub packet : ℕ
  pub pcr : ℕ

-- those of the packets of a PID, in order
abbrev pub pcrs_of : List Place → List PlacedPcr
pcrs_of places = filter_map (λ place. option_map (λ pcr. record { packet = place.packet; pcr = pcr }) place.pcr) places

-- what the clock shows when the file's first byte comes, where slots of so many ticks follow each other: the first reference, less the ticks up to its own
-- byte; none where there is no reference
abbrev pub clock_of : (slot : ℕ) → List Place → Option ℕ
clock_of slot places = option_map (λ first. ticks_from (arrival_ticks slot first.packet BASE_END_BYTE) first.pcr) (slice_get (pcrs_of places) 0)

-- a reference is off by more than 500 ns, which are 13.5 ticks (2.4.2.2)
abbrev pub is_off : (slot clock_zero : ℕ) → PlacedPcr → Bool
is_off slot clock_zero reference = nat_lt PCR_TOLERANCE_TICKS (apart (pcr_at clock_zero reference.packet slot) reference.pcr)

-- the first one that is off, from the file's first reference on, which never is; the byte of the file where its packet begins
abbrev pub first_off : (slot clock_zero : ℕ) → List Place → Option ℕ
first_off slot clock_zero places = option_map (λ reference. PACKET_BYTES * reference.packet) (find (is_off slot clock_zero) (pcrs_of places))

-- the same by the clock of the first reference, and none where there is no reference
abbrev pub off_of : (slot : ℕ) → List Place → Option ℕ
off_of slot places = option_and_then (λ zero. first_off slot zero places) (clock_of slot places)

-- A clock knows these packets of its PID.
pub record HasSeen (slot : ℕ) (places : List Place) (clock : FileClock) : Type 0 where
  pub zero_is : clock.zero ≡ clock_of slot places
  pub off_is : clock.off ≡ off_of slot places

-- The clock of a file by the references on a PID, which isn't that of null packets, and none of whose packets is refused: what it shows at the file's first
-- byte, and the first reference that is off.
pub record IsClockOf (file : List ℕ) (slot pid : ℕ) (clock : FoundClock) : Type 0 where
  pub known : pid ≢ NULL_PID
  pub sound : AreStreamsSound file (pid ∷ [])
  pub zero_is : clock_of slot (places_on file pid) ≡ Some clock.zero
  pub off_is : clock.off ≡ first_off slot clock.zero (places_on file pid)
