-- What is known of a decoder that is walked over; no public clause cites this.
use Rattle.std.specs.Prelude.{◌<◌, ◌≤◌, ◌^◌, length, map}
use Rattle.std.specs.List.{All}
use Rattle.std.specs.List.Sorted.{IsStrictlyIncreasing}
use Rattle.tstd_model.specs.declared.system_decoder.SystemDecoder.{SystemDecoder}
use Rattle.tstd_model.specs.PacketBytes.{HasHeaderWithin}
use Rattle.tstd_model.specs.Decoder.{IsInLevel}

-- its instants fit 64 bits
pub record InLimits (decoder : SystemDecoder) : Type 0 where
  pub slot_fits : decoder.slot ≤ 2 ^ 16
  pub in_level : IsInLevel decoder.kind
  pub slots_rise : IsStrictlyIncreasing (map (λ arrival. arrival.slot_no) decoder.arrivals.now)
  pub slots_fit : All (λ arrival. arrival.slot_no < 2 ^ 32) decoder.arrivals.now
  pub headers_within : All HasHeaderWithin decoder.arrivals.now
  pub few : length decoder.removals.now < 2 ^ 32
  pub dues_fit : All (λ removal. removal.due ≤ 2 ^ 53) decoder.removals.now
