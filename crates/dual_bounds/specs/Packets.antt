-- Packets of an audio stream by their due times.
use Rattle.std.specs.Prelude.{ℕ, ◌<◌, ◌≤◌, List, length, slice_index_or}
use Rattle.version_table.specs.declared.table.AudioPacket.{AudioPacket}

-- due times do not fall
abbrev pub DuesStay : List AudioPacket → Type 0
DuesStay packets = (i j : ℕ) (d : AudioPacket) → i ≤ j → j < length packets → (slice_index_or packets i d).due ≤ (slice_index_or packets j d).due

-- the packets before this place are due by a time, and the others later
pub record SplitsBy (time : ℕ) (packets : List AudioPacket) (place : ℕ) : Type 0 where
  pub within : place ≤ length packets
  pub by : (k : ℕ) (d : AudioPacket) → k < place → (slice_index_or packets k d).due ≤ time
  pub later : (k : ℕ) (d : AudioPacket) → place ≤ k → k < length packets → time < (slice_index_or packets k d).due
