-- The packet of a unit at a place, and the version that the unit has.
use Rattle.std.proofs.Common.{◌≡◌, ℕ, min, ◌+◌, ◌-◌, ◌*◌, ◌<◌, ◌≤◌, List, length, get_or, slice_get, slice_index, Option, Some, None, sym, ap, subst, ◌∙◌, inl, inr, ltb, lt-ltb, le-ltb, arith}
use Rattle.std.specs.Option.{option_and_then}
use Rattle.std.proofs.lemmas.Bool.{cases_lt, cond-true, cond-false}
use Rattle.std.proofs.lemmas.List.{get_or_past}
use Rattle.std.proofs.lemmas.Option.{slice_get-get_or, slice_get_cases, slice_get_past, slice_get_within, get_or_from_slice_get}
use Rattle.version_table.specs.declared.table.Unit.{Unit as CodedUnit}
use Rattle.version_table.specs.declared.table.Version.{Version}
use Rattle.version_table.specs.Choice.{HasVersion, version_at}
use Rattle.stream_constants.specs.declared.packets.TheConstants.{PAYLOAD_BYTES}
use Rattle.slot_rule.specs.Private.QueueItems.{HasSizes}
use Rattle.slot_rule.specs.Queues.{QueuedPacket, unit_packets}
use Rattle.slot_rule.proofs.RulePlaces.{unit_piece, packet_at}
use Rattle.slot_rule.proofs.RuleUnits.{piece_of, length-unit_rest, get_or-unit_rest}
use Rattle.slot_rule.proofs.RuleVideo.{HasSizes-long, HasSizes-at}

pub unit_packets-some : (item due bytes piece : ℕ) → PAYLOAD_BYTES * piece < bytes
    → slice_get (unit_packets item due bytes) piece ≡ Some (piece_of item due piece (min PAYLOAD_BYTES (bytes - PAYLOAD_BYTES * piece)))
unit_packets-some item due bytes piece fits =
    let d : QueuedPacket = piece_of item due piece 0 in
    let within : piece < length (unit_packets item due bytes) = omega (arith, length-unit_rest item 0 due bytes) in
    slice_get-get_or (unit_packets item due bytes) piece d within
    ∙ ap (λ p. Some p) (get_or-unit_rest item 0 due bytes piece d within
    ∙ ap (λ (n : ℕ). piece_of item due n (min PAYLOAD_BYTES (bytes - PAYLOAD_BYTES * piece))) (let same : 0 + piece ≡ piece = omega arith in same))

pub unit_packets-none : (item due bytes piece : ℕ) → 1 ≤ bytes → bytes ≤ PAYLOAD_BYTES * piece → slice_get (unit_packets item due bytes) piece ≡ None
unit_packets-none item due bytes piece some past =
    slice_get_past (unit_packets item due bytes) piece (omega (arith, length-unit_rest item 0 due bytes))

-- a version with bytes is there
version_is_there : (unit : CodedUnit) (k : ℕ) → 1 ≤ (version_at unit k).bytes → HasVersion unit k
version_is_there unit k some =
    elim (cases_lt k (length unit.versions.items)) as (λ _. HasVersion unit k) [
      | inl within ↦ within
      | inr past ↦ (let none : (version_at unit k).bytes ≡ 0 = ap (λ (v : Version). v.bytes) (get_or_past unit.versions.items k (record { bytes = 0; distortion = 0 }) past) in absurd (omega arith))
    ]

-- where each unit has a version with bytes: its number, the version and the bytes
pub HasSizes-version : (units : List CodedUnit) (choice : List ℕ) (item : ℕ) (unit : CodedUnit) → HasSizes units choice → slice_get units item ≡ Some unit
    → (item < length choice) × HasVersion unit (slice_index choice item) × (1 ≤ (version_at unit (slice_index choice item)).bytes)
HasSizes-version units choice item unit sizes there =
    let within : item < length units = slice_get_within units item unit there in
    let same : get_or units item unit ≡ unit = get_or_from_slice_get units item unit unit there in
    let some : 1 ≤ (version_at unit (slice_index choice item)).bytes =
    subst (λ (u : CodedUnit). 1 ≤ (version_at u (slice_index choice item)).bytes) same (HasSizes-at units choice sizes item unit 0 within).0 in
    (omega (arith, HasSizes-long units choice sizes), version_is_there unit (slice_index choice item) some, some)

unit_piece-is : (item : ℕ) (unit : CodedUnit) (number piece : ℕ) → 1 ≤ (version_at unit number).bytes
    → slice_get (unit_packets item unit.due (version_at unit number).bytes) piece ≡ unit_piece item unit number piece
unit_piece-is item unit number piece some =
    let bytes = (version_at unit number).bytes in
    let at : Option QueuedPacket = Some (piece_of item unit.due piece (min PAYLOAD_BYTES (bytes - PAYLOAD_BYTES * piece))) in
    elim (cases_lt (PAYLOAD_BYTES * piece) bytes) as (λ _. slice_get (unit_packets item unit.due (version_at unit number).bytes) piece ≡ unit_piece item unit number piece) [
      | inl fits ↦ unit_packets-some item unit.due bytes piece fits ∙ sym (cond-true (ltb (PAYLOAD_BYTES * piece) bytes) at None (lt-ltb (PAYLOAD_BYTES * piece) bytes fits))
      | inr past ↦ unit_packets-none item unit.due bytes piece some past ∙ sym (cond-false (ltb (PAYLOAD_BYTES * piece) bytes) at None (le-ltb (PAYLOAD_BYTES * piece) bytes past))
    ]

-- what the two clauses on a piece of a unit say together
pub packet_at-from_clauses : (units : List CodedUnit) (choice : List ℕ) (item piece : ℕ) (o : Option QueuedPacket) → HasSizes units choice → (length units ≤ item → o ≡ None)
    → ((unit : CodedUnit) → slice_get units item ≡ Some unit → o ≡ slice_get (unit_packets item unit.due (version_at unit (slice_index choice item)).bytes) piece)
    → o ≡ packet_at units choice item piece
packet_at-from_clauses units choice item piece o sizes missing found =
    elim (slice_get_cases units item).1 as (λ _. o ≡ packet_at units choice item piece) [
      | inl at ↦
          found at.0 at.2 ∙ unit_piece-is item at.0 (slice_index choice item) piece (HasSizes-version units choice item at.0 sizes at.2).2
          ∙ sym (ap (λ (u : Option CodedUnit). option_and_then (λ unit. unit_piece item unit (slice_index choice item) piece) u) at.2)
      | inr past ↦ missing past.0 ∙ sym (ap (λ (u : Option CodedUnit). option_and_then (λ unit. unit_piece item unit (slice_index choice item) piece) u) past.1)
    ]
