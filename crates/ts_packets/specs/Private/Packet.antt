-- What a body finds behind a packet's header.
use Rattle.std.specs.Prelude.{◌≡◌, false, List, ℕ, Option}
use Rattle.ts_packets.specs.declared.adaptation_field.AdaptationField.{AdaptationField}
use Rattle.ts_packets.specs.declared.packet_fault.PacketFault.TheVariants.{BadField}
use Rattle.ts_packets.specs.Packet.{fields_of, has_fault}

-- nothing is wrong with the field, and these are the field and the payload
abbrev pub HasFieldAndPayload : List ℕ → Option AdaptationField → List ℕ → Type 0
HasFieldAndPayload bytes field payload = (has_fault bytes BadField ≡ false) × (field ≡ (fields_of bytes).field) × (payload ≡ (fields_of bytes).payload)
