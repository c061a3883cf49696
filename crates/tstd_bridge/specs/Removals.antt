-- When a queue's bytes may be removed from the decoder: between the times at which their packets are wanted and gone.
use Rattle.std.specs.Prelude.{ℕ, ◌-◌, ◌*◌, ◌<◌, ◌≤◌, List, map, replicate, All}
use Rattle.std.specs.List.{flat_map, AllZip}
use Rattle.std.specs.List.Sorted.{IsNonDecreasing}
use Rattle.stream_constants.specs.declared.clock.TheConstants.{SUBTICKS_PER_TICK}
use Rattle.slot_rule.specs.declared.queue_kind.QueueKind.{QueueKind}
use Rattle.slot_rule.specs.declared.queue_kind.QueueKind.TheVariants.{Video, Audio}
use Rattle.slot_rule.specs.declared.queued_packet.QueuedPacket.{QueuedPacket}
use Rattle.tstd_model.specs.declared.decoder_input.Removal.{Removal}
use Rattle.tstd_model.specs.Decoder.{removed}
use Rattle.tstd_bridge.specs.Arrivals.{Headers}

-- each packet's PES header is within its payload
abbrev pub AreWithin : Headers → List QueuedPacket → Type 0
AreWithin headers packets = All (λ packet. headers packet ≤ packet.payload) packets

-- each packet has data behind its PES header
abbrev pub LeaveData : Headers → List QueuedPacket → Type 0
LeaveData headers packets = All (λ packet. headers packet < packet.payload) packets

-- the bytes of a packet that are removed from EB or B: all payload of audio, and of video that without PES header
abbrev pub removable : QueueKind → Headers → QueuedPacket → ℕ
removable (Video program vbv) headers packet = packet.payload - headers packet
removable Audio headers packet = packet.payload

-- when each of these bytes is wanted, in subticks
abbrev pub wanted_of_each : QueueKind → Headers → List QueuedPacket → List ℕ
wanted_of_each kind headers packets = flat_map (λ packet. replicate (removable kind headers packet) (SUBTICKS_PER_TICK * packet.due)) packets

-- when each of these bytes is gone, in subticks
abbrev pub gone_of_each : QueueKind → Headers → List QueuedPacket → List ℕ
gone_of_each kind headers packets = flat_map (λ packet. replicate (removable kind headers packet) (SUBTICKS_PER_TICK * packet.gone)) packets

-- the removals take each removable byte of the packets, in order, when it is wanted or later and not after it is gone; a
-- byte of video is wanted and gone at once, when its unit is decoded
pub record IsAllowed (kind : QueueKind) (headers : Headers) (packets : List QueuedPacket) (removals : List Removal) : Type 0 where
  pub in_order : IsNonDecreasing (map (λ removal. removal.due) removals)
  pub wanted : AllZip (λ wanted at. wanted ≤ at) (wanted_of_each kind headers packets) (removed removals)
  pub gone : AllZip (λ at gone. at ≤ gone) (removed removals) (gone_of_each kind headers packets)

-- the removals that take each packet's bytes when they are wanted
abbrev pub removals_when_wanted : QueueKind → Headers → List QueuedPacket → List Removal
removals_when_wanted kind headers packets = map (λ packet. record { due = packet.due; bytes = removable kind headers packet }) packets
