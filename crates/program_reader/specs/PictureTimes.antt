-- Which times of PES headers belong to which coded picture (ISO/IEC 13818-1, 2.4.3.7).
use Rattle.std.specs.Prelude.{ℕ, ◌==◌, Bool, false, List, None}
use Rattle.std.specs.List.{find}
use Rattle.std.specs.Option.{option_map_or}
use Rattle.es_units.specs.Pictures.{first_picture}
use Rattle.pes_units.specs.declared.times.Times.{Times}
use Rattle.elementary_streams.specs.declared.pes_packets.PlacedPacket.{PlacedPacket}

-- the first picture whose start code begins in the PES packet begins at the place
abbrev pub is_first_picture_in : List ℕ → ℕ → PlacedPacket → Bool
is_first_picture_in es at packet = option_map_or (λ first. first == at) (first_picture es packet.from packet.end) false

-- no times
abbrev pub no_times : Times
no_times = record { pts = None; dts = None }

-- the times of the picture that begins at the place: those of the PES packet in which it is the first one to begin
abbrev pub times_at : List ℕ → List PlacedPacket → ℕ → Times
times_at es packets at = option_map_or (λ packet. packet.header.times) (find (is_first_picture_in es at) packets) no_times

-- the times of a unit: those of the picture that begins in it
abbrev pub times_of_unit : List ℕ → List PlacedPacket → ℕ × ℕ → Times
times_of_unit es packets unit = option_map_or (times_at es packets) (first_picture es unit.0 unit.1) no_times
