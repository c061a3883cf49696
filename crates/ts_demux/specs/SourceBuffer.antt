-- The bytes that a buffer over a source holds.
use Rattle.std.specs.Prelude.{ℕ, List}

-- the size of the room, and the bytes that were taken from a source and aren't passed yet
abbrev pub Buffered : Type 0
Buffered = ℕ × List ℕ

-- that size
abbrev pub room_size : Buffered → ℕ
room_size buffered = buffered.0

-- those bytes
abbrev pub held_bytes : Buffered → List ℕ
held_bytes buffered = buffered.1
