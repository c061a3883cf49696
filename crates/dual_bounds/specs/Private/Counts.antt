-- Counts that the room of a window is made of.
use Rattle.std.specs.Prelude.{ℕ, ◌<◌, ◌≤◌, List, length, count_by, slice_index_or}
use Rattle.version_table.specs.declared.table.AudioPacket.{AudioPacket}
use Rattle.dual_bounds.specs.Room.{is_within}

-- how many of some audio packets are due in the window
unfoldable pub audio_within : (from due : ℕ) → List AudioPacket → ℕ
audio_within from due packets = count_by (λ packet. is_within from due packet.due) packets

-- the packets before this place are due before a time, and the others not
pub record SplitsBefore (time : ℕ) (packets : List AudioPacket) (place : ℕ) : Type 0 where
  pub within : place ≤ length packets
  pub before : (k : ℕ) (d : AudioPacket) → k < place → (slice_index_or packets k d).due < time
  pub not_before : (k : ℕ) (d : AudioPacket) → place ≤ k → k < length packets → time ≤ (slice_index_or packets k d).due
