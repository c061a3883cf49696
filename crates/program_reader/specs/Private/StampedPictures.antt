-- The first picture of each PES packet in which one begins.
use Rattle.std.specs.Prelude.{◌≡◌, ◌⊎◌, ℕ, ◌+◌, ◌<◌, ◌≤◌, ◌==◌, List, [], ◌∷◌, length, Option, Some, None}
use Rattle.std.specs.List.{find, flat_map}
use Rattle.std.specs.Option.{option_map_or}
use Rattle.pes_units.specs.declared.times.Times.{Times}
use Rattle.elementary_streams.specs.declared.pes_packets.PlacedPacket.{PlacedPacket}
use Rattle.program_reader.specs.declared.picture_times.StampedPicture.{StampedPicture}
use Rattle.es_units.specs.Pictures.{first_picture}
use Rattle.program_reader.specs.PictureTimes.{no_times, times_at}

-- a picture at a place, if there is one, with these times
abbrev pub stamp_at : Times → Option ℕ → List StampedPicture
stamp_at times None = []
stamp_at times (Some at) = record { at = at; times = times } ∷ []

-- that of one PES packet
abbrev pub stamp_of : List ℕ → PlacedPacket → List StampedPicture
stamp_of es packet = stamp_at packet.header.times (first_picture es packet.from packet.end)

-- those of all
abbrev pub stamps_of : List ℕ → List PlacedPacket → List StampedPicture
stamps_of es packets = flat_map (stamp_of es) packets

-- ---- their times, looked up in order

-- the times of the stamp at a place, if there is one
abbrev pub times_of_stamp : List StampedPicture → ℕ → Times
times_of_stamp stamps at = option_map_or (λ stamp. stamp.times) (find (λ stamp. stamp.at == at) stamps) no_times

-- each stands behind the one before, and the first at a place or behind it
abbrev pub AreRising : ℕ → List StampedPicture → Type 0
AreRising least [] = Unit {0}
AreRising least (stamp ∷ stamps) = (least ≤ stamp.at) × AreRising (stamp.at + 1) stamps

-- those from a place on are left of some
pub record Leaves (at : ℕ) (stamps left : List StampedPicture) : Type 0 where
  pub same : (place : ℕ) → at ≤ place → times_of_stamp left place ≡ times_of_stamp stamps place
  pub rising : AreRising at left
  pub fewer : length left ≤ length stamps

-- some before a place are passed by
pub record LeavesFrom (at : ℕ) (stamps left : List StampedPicture) : Type 0 where
  pub same : (place : ℕ) → at ≤ place → times_of_stamp left place ≡ times_of_stamp stamps place
  pub rising : AreRising 0 left
  pub fewer : length left ≤ length stamps

-- stamps tell the times of pictures from a place on
pub record TellTimes (es : List ℕ) (packets : List PlacedPacket) (from : ℕ) (stamps : List StampedPicture) : Type 0 where
  pub same : (place : ℕ) → from ≤ place → times_of_stamp stamps place ≡ times_at es packets place
  pub rising : AreRising 0 stamps

-- each stated time is that of a stamp which isn't left behind it
abbrev pub IsCounted : List StampedPicture → List StampedPicture → Times → Type 0
IsCounted stamps left times = (length left < length stamps) ⊎ ((times ≡ no_times) × (length left ≤ length stamps))
