-- What a look-up of the times of units finds.
use Rattle.std.specs.Prelude.{◌≡◌, ℕ, ◌<◌, nat_le, List, [], ◌∷◌, ◌++◌, length, take, Option, Some, None, if◌then◌else◌}
use Rattle.pes_units.specs.declared.times.Times.{Times}
use Rattle.elementary_streams.specs.declared.pes_packets.PlacedPacket.{PlacedPacket}
use Rattle.program_reader.specs.PictureTimes.{no_times}

-- the last of some places, if there are any
abbrev pub EndsWith : List ℕ → Option ℕ → Type 0
EndsWith places None = places ≡ []
EndsWith places (Some last) = (early : List ℕ) × (places ≡ early ++ last ∷ [])

-- the times of a picture in a PES packet, by the last picture before it: none where that begins in the packet too
abbrev pub times_behind : PlacedPacket → Option ℕ → Times
times_behind packet None = packet.header.times
times_behind packet (Some last) = if nat_le packet.from last then no_times else packet.header.times

-- an item is the next one of a list behind so many
pub record IsNextOf {X : Type 0} (xs : List X) (count : ℕ) (x : X) : Type 0 where
  pub rest : List X
  pub split : xs ≡ take count xs ++ x ∷ rest
  pub within : count < length xs
