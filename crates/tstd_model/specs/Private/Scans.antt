-- The first place at which two lists of instants, walked side by side, show a fault; no public clause cites these.
use Rattle.std.specs.Prelude.{ℕ, ◌+◌, ◌*◌, nat_le, nat_lt, List, [], ◌∷◌, ◌++◌, replicate, drop, Bool, true, false, Option, Some, None, if◌then◌else◌}
use Rattle.stream_constants.specs.declared.clock.TheConstants.{SUBTICKS_PER_TICK}
pub use Rattle.tstd_model.specs.declared.removed_bytes.RemovedByte.{RemovedByte}
use Rattle.tstd_model.specs.Decoder.{Removal}
use Rattle.tstd_model.specs.PacketBytes.{PacketPart, Overhead, PesHeader, Data}

-- the first byte of `ins` that comes before the byte at its place of `outs` left: with `ins` cut by a buffer's size, the
-- first instant at which the buffer is over its size
unfoldable pub first_over : (ins outs : List ℕ) → Option ℕ
first_over [] outs = None
first_over (comes ∷ ins) [] = Some comes
first_over (comes ∷ ins) (leaves ∷ outs) = if nat_le leaves comes then first_over ins outs else Some comes

-- the bytes that removals take, the first of which has this number
unfoldable pub taken_from : (number : ℕ) → List Removal → List RemovedByte
taken_from number [] = []
taken_from number (removal ∷ later) =
    replicate removal.bytes (record { at = SUBTICKS_PER_TICK * removal.due; removal = number }) ++ taken_from (number + 1) later

-- the first byte that is taken before it has come
unfoldable pub first_late : (completes : List ℕ) → List RemovedByte → Option RemovedByte
first_late completes [] = None
first_late [] (byte ∷ bytes) = Some byte
first_late (instant ∷ completes) (byte ∷ bytes) = if nat_lt instant byte.at then first_late completes bytes else Some byte

-- a byte is data, and isn't taken first of these within the limit
unfoldable pub is_held : (limit : ℕ) → PacketPart → (arrival : ℕ) → (removed : List ℕ) → Bool
is_held limit Data arrival [] = true
is_held limit Data arrival (instant ∷ removed) = nat_lt (arrival + limit) instant
is_held limit PesHeader arrival removed = false
is_held limit Overhead arrival removed = false

-- the first instant past the limit at which a byte of data is held, of bytes with these parts that come at these instants
unfoldable pub first_old : (limit : ℕ) → List PacketPart → (comes removed : List ℕ) → Option ℕ
first_old limit [] comes removed = None
first_old limit (part ∷ parts) [] removed = None
first_old limit (part ∷ parts) (arrival ∷ comes) removed =
    if is_held limit part arrival removed then Some (arrival + limit + 1) else first_old limit parts comes (drop 1 removed)
