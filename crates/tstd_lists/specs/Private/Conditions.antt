-- What a decoder takes.
use Rattle.std.specs.Prelude.{◌<◌, ◌≤◌, ◌^◌, List, length, map}
use Rattle.std.specs.List.{All}
use Rattle.std.specs.List.Sorted.{IsStrictlyIncreasing, IsNonDecreasing}
use Rattle.tstd_model.specs.declared.decoder_input.Arrival.{Arrival}
use Rattle.tstd_model.specs.declared.decoder_input.Removal.{Removal}
use Rattle.tstd_model.specs.PacketBytes.{HasHeaderWithin}

-- the slots of packets rise, and headers and payloads fit
pub record ArePackets (arrivals : List Arrival) : Type 0 where
  pub slots_rise : IsStrictlyIncreasing (map (λ arrival. arrival.slot_no) arrivals)
  pub headers_within : All HasHeaderWithin arrivals

-- the times of removals don't fall, and they are few and early enough
pub record AreRemovals (removals : List Removal) : Type 0 where
  pub few : length removals < 2 ^ 32
  pub dues_rise : IsNonDecreasing (map (λ removal. removal.due) removals)
  pub dues_fit : All (λ removal. removal.due ≤ 2 ^ 53) removals
