-- Where a packet stands in a video stream, and the packet after it.
use Rattle.std.proofs.Common.{
  ◌≡◌,
  ℕ,
  zero,
  suc,
  min,
  ◌+◌,
  ◌-◌,
  ◌*◌,
  ◌<◌,
  ◌≤◌,
  ◌⊎◌,
  ltb,
  List,
  ◌∷◌,
  length,
  get_or,
  drop,
  slice_get,
  slice_index,
  nat_lt,
  if◌then◌else◌,
  Option,
  Some,
  None,
  refl,
  sym,
  ap,
  subst,
  ◌∙◌,
  inl,
  inr,
  lt-ltb,
  le-ltb,
  add-one,
  arith,
}
use Rattle.std.specs.Option.{option_and_then, option_or}
use Rattle.std.proofs.lemmas.Bool.{cases_lt, cond-true, cond-false}
use Rattle.std.proofs.lemmas.Option.{slice_get_past, slice_get_cases, slice_get_within, same_Some, get_or_from_slice_get}
use Rattle.version_table.specs.declared.table.Unit.{Unit as CodedUnit}
use Rattle.version_table.specs.Choice.{version_at}
use Rattle.stream_constants.specs.declared.packets.TheConstants.{PAYLOAD_BYTES}
use Rattle.slot_rule.specs.Queues.{QueuedPacket}
use Rattle.slot_rule.proofs.RuleFronts.{drop_next, drop_none}
use Rattle.slot_rule.proofs.RuleUnits.{piece_of}
use Rattle.slot_rule.proofs.RuleVideo.{packets_from, packets_from-at, packets_from-all, video_from, video_from-more, video_from-last, HasSizes, HasSizes-long, HasSizes-at}

-- a piece of unit `item` in a version; none where it has fewer
abbrev pub unit_piece : (item : ℕ) → CodedUnit → (number piece : ℕ) → Option QueuedPacket
unit_piece item unit number piece =
    let bytes = (version_at unit number).bytes in
    if nat_lt (PAYLOAD_BYTES * piece) bytes
    then Some (piece_of item unit.due piece (min PAYLOAD_BYTES (bytes - PAYLOAD_BYTES * piece)))
    else None

-- a piece of unit `item` of these units in these versions; none where there is none
abbrev pub packet_at : List CodedUnit → List ℕ → (item piece : ℕ) → Option QueuedPacket
packet_at units choice item piece = option_and_then (λ unit. unit_piece item unit (slice_index choice item) piece) (slice_get units item)

-- the next piece of the packet's unit, or else the first of the next unit
abbrev pub packet_after : List CodedUnit → List ℕ → QueuedPacket → Option QueuedPacket
packet_after units choice packet = option_or (packet_at units choice packet.item (packet.piece + 1)) (packet_at units choice (packet.item + 1) 0)

unit_piece-some : (item : ℕ) (unit : CodedUnit) (number piece left : ℕ) → (version_at unit number).bytes ≡ PAYLOAD_BYTES * piece + left → 1 ≤ left
    → unit_piece item unit number piece ≡ Some (piece_of item unit.due piece (min PAYLOAD_BYTES left))
unit_piece-some item unit number piece left e some =
    let bytes = (version_at unit number).bytes in
    let rest : (version_at unit number).bytes - PAYLOAD_BYTES * piece ≡ left = omega arith in
    cond-true (ltb (PAYLOAD_BYTES * piece) bytes) (Some (piece_of item unit.due piece (min PAYLOAD_BYTES (bytes - PAYLOAD_BYTES * piece)))) None (lt-ltb (PAYLOAD_BYTES * piece) bytes (omega arith))
    ∙ ap (λ n. Some (piece_of item unit.due piece (min PAYLOAD_BYTES n))) rest

unit_piece-none : (item : ℕ) (unit : CodedUnit) (number piece : ℕ) → (version_at unit number).bytes ≤ PAYLOAD_BYTES * piece → unit_piece item unit number piece ≡ None
unit_piece-none item unit number piece past =
    let bytes = (version_at unit number).bytes in
    cond-false (ltb (PAYLOAD_BYTES * piece) bytes) (Some (piece_of item unit.due piece (min PAYLOAD_BYTES (bytes - PAYLOAD_BYTES * piece)))) None (le-ltb (PAYLOAD_BYTES * piece) bytes past)

packet_at-is : (units : List CodedUnit) (choice : List ℕ) (item piece : ℕ) (unit : CodedUnit) → slice_get units item ≡ Some unit
    → packet_at units choice item piece ≡ unit_piece item unit (slice_index choice item) piece
packet_at-is units choice item piece unit e = ap (λ (o : Option CodedUnit). option_and_then (λ c. unit_piece item c (slice_index choice item) piece) o) e

packet_at-past : (units : List CodedUnit) (choice : List ℕ) (item piece : ℕ) → length units ≤ item → packet_at units choice item piece ≡ None
packet_at-past units choice item piece past = ap (λ (o : Option CodedUnit). option_and_then (λ c. unit_piece item c (slice_index choice item) piece) o) (slice_get_past units item past)

-- where packet k of a video stream stands: in its unit, with so many bytes left from it on, and what stands from it on
pub record StandsAt (units : List CodedUnit) (choice : List ℕ) (k : ℕ) (packet : QueuedPacket) : Type 0 where
  pub unit : CodedUnit
  pub within : packet.item < length units
  pub unit_is : slice_get units packet.item ≡ Some unit
  pub left : ℕ
  pub bytes : (version_at unit (slice_index choice packet.item)).bytes ≡ PAYLOAD_BYTES * packet.piece + left
  pub some_left : 1 ≤ left
  pub packet_is : packet ≡ piece_of packet.item unit.due packet.piece (min PAYLOAD_BYTES left)
  pub from_here : drop k (packets_from 0 units choice) ≡ video_from packet.item packet.piece unit.due left units choice

-- the first packet from a place of a unit on
video_from-first : (item piece due left : ℕ) (units : List CodedUnit) (choice : List ℕ)
    → (rest' : List QueuedPacket) × (video_from item piece due left units choice ≡ piece_of item due piece (min PAYLOAD_BYTES left) ∷ rest')
video_from-first item piece due left units choice =
    elim (cases_lt PAYLOAD_BYTES left) as (λ _. (rest' : List QueuedPacket) × (video_from item piece due left units choice ≡ piece_of item due piece (min PAYLOAD_BYTES left) ∷ rest')) [
      | inl large ↦
          (let full : PAYLOAD_BYTES ≡ min PAYLOAD_BYTES left = omega arith in (
            video_from item (piece + 1) due (left - PAYLOAD_BYTES) units choice,
            video_from-more item piece due left units choice large ∙ ap (λ n. piece_of item due piece n ∷ video_from item (piece + 1) due (left - PAYLOAD_BYTES) units choice) full,
          ))
      | inr small ↦
          (let last : left ≡ min PAYLOAD_BYTES left = omega arith in (
            packets_from (item + 1) (drop (item + 1) units) (drop (item + 1) choice),
            video_from-last item piece due left units choice small ∙ ap (λ n. piece_of item due piece n ∷ packets_from (item + 1) (drop (item + 1) units) (drop (item + 1) choice)) last,
          ))
    ]

pub StandsAt-packet : (units : List CodedUnit) (choice : List ℕ) (k : ℕ) (packet : QueuedPacket) → StandsAt units choice k packet
    → slice_get (packets_from 0 units choice) k ≡ Some packet
StandsAt-packet units choice k packet at =
    let first = video_from-first packet.item packet.piece at.unit.due at.left units choice in
    (drop_next (packets_from 0 units choice) k packet first.0 (at.from_here ∙ first.1 ∙ ap (λ (p : QueuedPacket). p ∷ first.0) (sym at.packet_is))).1

-- where unit n begins
starts_at : (units : List CodedUnit) (choice : List ℕ) (n k : ℕ) (unit : CodedUnit) → HasSizes units choice → slice_get units n ≡ Some unit
    → drop k (packets_from 0 units choice) ≡ packets_from n (drop n units) (drop n choice)
    → StandsAt units choice k (piece_of n unit.due 0 (min PAYLOAD_BYTES (version_at unit (slice_index choice n)).bytes))
starts_at units choice n k unit sizes got from =
    let within : n < length units = slice_get_within units n unit got in
    let long : length units ≤ length choice = HasSizes-long units choice sizes in
    let same : get_or units n unit ≡ unit = get_or_from_slice_get units n unit unit got in
    let size = HasSizes-at units choice sizes n unit 0 within in
    record {
      unit = unit;
      within = within;
      unit_is = got;
      left = (version_at unit (slice_index choice n)).bytes;
      bytes = omega arith;
      some_left = subst (λ (c : CodedUnit). 1 ≤ (version_at c (slice_index choice n)).bytes) same size.0;
      packet_is = refl;
      from_here = from ∙ packets_from-at n n units choice unit 0 within (omega arith) ∙ ap (λ (c : CodedUnit). video_from n 0 c.due (version_at c (slice_index choice n)).bytes units choice) same;
    }

-- from unit n on there is a packet, or no unit
unit_cases : (units : List CodedUnit) (choice : List ℕ) (n k : ℕ) → HasSizes units choice → drop k (packets_from 0 units choice) ≡ packets_from n (drop n units) (drop n choice)
    → ((packet : QueuedPacket) × (packet_at units choice n 0 ≡ Some packet) × StandsAt units choice k packet)
    ⊎ ((packet_at units choice n 0 ≡ None) × (length (packets_from 0 units choice) ≤ k))
unfolding starts_at
unit_cases units choice n k sizes from =
    (elim (slice_get_cases units n).1 as (λ _. ((packet : QueuedPacket) × (packet_at units choice n 0 ≡ Some packet) × StandsAt units choice k packet)
    ⊎ ((packet_at units choice n 0 ≡ None) × (length (packets_from 0 units choice) ≤ k))) [
      | inl at ↦
          (let stands = starts_at units choice n k at.0 sizes at.2 from in
          inl (
            piece_of n at.0.due 0 (min PAYLOAD_BYTES stands.left),
            packet_at-is units choice n 0 at.0 at.2
                ∙ unit_piece-some n at.0 (slice_index choice n) 0 stands.left stands.bytes stands.some_left,
            stands,
          ))
      | inr past ↦ inr (packet_at-past units choice n 0 past.0, (drop_none (packets_from 0 units choice) k (from ∙ packets_from-all n n units (drop n choice) past.0)).0)
    ])

-- the packet after one that stands at a place
after_cases : (units : List CodedUnit) (choice : List ℕ) (k : ℕ) (packet : QueuedPacket) → HasSizes units choice → StandsAt units choice k packet
    → ((next : QueuedPacket) × (packet_after units choice packet ≡ Some next) × StandsAt units choice (k + 1) next)
    ⊎ ((packet_after units choice packet ≡ None) × (length (packets_from 0 units choice) ≤ k + 1))
after_cases units choice k packet sizes at =
    (elim (cases_lt PAYLOAD_BYTES at.left) as (λ _. ((next : QueuedPacket) × (packet_after units choice packet ≡ Some next)
    × StandsAt units choice (k + 1) next) ⊎ ((packet_after units choice packet ≡ None) × (length (packets_from 0 units choice) ≤ k + 1))) [
      | inl large ↦
          (let next = piece_of packet.item at.unit.due (packet.piece + 1) (min PAYLOAD_BYTES (at.left - PAYLOAD_BYTES)) in
          let bytes : (version_at at.unit (slice_index choice packet.item)).bytes ≡ PAYLOAD_BYTES * (packet.piece + 1) + (at.left - PAYLOAD_BYTES) = omega (arith, at.bytes) in
          let rest = drop_next (packets_from 0 units choice) k _ _ (at.from_here ∙ video_from-more packet.item packet.piece at.unit.due at.left units choice large) in
          inl (
            next,
            ap (λ (o : Option QueuedPacket). option_or o (packet_at units choice (packet.item + 1) 0))
                (packet_at-is units choice packet.item (packet.piece + 1) at.unit at.unit_is
                ∙ unit_piece-some packet.item at.unit (slice_index choice packet.item) (packet.piece + 1) (at.left - PAYLOAD_BYTES) bytes
                (omega arith)),
            record { unit = at.unit; within = at.within; unit_is = at.unit_is; left = at.left - PAYLOAD_BYTES; bytes = bytes; some_left = omega arith; packet_is = refl; from_here = rest.2 },
          ))
      | inr small ↦
          (let rest = drop_next (packets_from 0 units choice) k _ _ (at.from_here ∙ video_from-last packet.item packet.piece at.unit.due at.left units choice small) in
          let none : packet_at units choice packet.item (packet.piece + 1)
          ≡ None = packet_at-is units choice packet.item (packet.piece + 1) at.unit at.unit_is
          ∙ unit_piece-none packet.item at.unit (slice_index choice packet.item) (packet.piece + 1) (omega (arith, at.bytes)) in
          let first : packet_after units choice packet ≡ packet_at units choice (packet.item + 1) 0 = ap (λ (o : Option QueuedPacket). option_or o (packet_at units choice (packet.item + 1) 0)) none in
          (elim (unit_cases units choice (packet.item + 1) (k + 1) sizes rest.2) as
          (λ _. ((next : QueuedPacket) × (packet_after units choice packet ≡ Some next) × StandsAt units choice (k + 1) next)
          ⊎ ((packet_after units choice packet ≡ None) × (length (packets_from 0 units choice) ≤ k + 1))) [
            | inl next ↦ inl (next.0, first ∙ next.1, next.2)
            | inr past ↦ inr (first ∙ past.0, past.1)
          ]))
    ])

stands_at : (units : List CodedUnit) (choice : List ℕ) → HasSizes units choice → (k : ℕ) → k < length (packets_from 0 units choice)
    → (packet : QueuedPacket) × StandsAt units choice k packet
stands_at units choice sizes zero within =
    (elim (unit_cases units choice 0 0 sizes refl) as (λ _. (packet : QueuedPacket) × StandsAt units choice 0 packet) [
      | inl first ↦ (first.0, first.2)
      | inr past ↦ absurd (omega arith)
    ])
stands_at units choice sizes (suc k) within =
    let at = stands_at units choice sizes k (omega arith) in
    (elim (after_cases units choice k at.0 sizes at.1) as (λ _. (packet : QueuedPacket) × StandsAt units choice (suc k) packet) [
      | inl next ↦ rw (← add-one) (next.0, next.2)
      | inr past ↦ absurd (omega arith)
    ])

-- each packet of a video stream stands at its place
pub StandsAt-from_get : (units : List CodedUnit) (choice : List ℕ) → HasSizes units choice → (k : ℕ) (packet : QueuedPacket)
    → slice_get (packets_from 0 units choice) k ≡ Some packet → StandsAt units choice k packet
StandsAt-from_get units choice sizes k packet got =
    let at = stands_at units choice sizes k (slice_get_within (packets_from 0 units choice) k packet got) in
    subst (λ (p : QueuedPacket). StandsAt units choice k p) (same_Some at.0 packet (sym (StandsAt-packet units choice k at.0 at.1) ∙ got)) at.1

-- the first packet of a video stream is the first piece of its first unit
pub packets_from-first : (units : List CodedUnit) (choice : List ℕ) → HasSizes units choice → slice_get (packets_from 0 units choice) 0 ≡ packet_at units choice 0 0
packets_from-first units choice sizes =
    (elim (unit_cases units choice 0 0 sizes refl) as (λ _. slice_get (packets_from 0 units choice) 0 ≡ packet_at units choice 0 0) [
      | inl first ↦ StandsAt-packet units choice 0 first.0 first.2 ∙ sym first.1
      | inr past ↦ slice_get_past (packets_from 0 units choice) 0 past.1 ∙ sym past.0
    ])

-- the packet of a video stream after another is the next piece of its unit, or else the first of the next unit
pub packets_from-after : (units : List CodedUnit) (choice : List ℕ) → HasSizes units choice → (k : ℕ) (packet : QueuedPacket)
    → slice_get (packets_from 0 units choice) k ≡ Some packet
    → slice_get (packets_from 0 units choice) (k + 1) ≡ packet_after units choice packet
packets_from-after units choice sizes k packet got =
    (elim (after_cases units choice k packet sizes (StandsAt-from_get units choice sizes k packet got)) as (λ _. slice_get (packets_from 0 units choice) (k + 1) ≡ packet_after units choice packet) [
      | inl next ↦ StandsAt-packet units choice (k + 1) next.0 next.2 ∙ sym next.1
      | inr past ↦ slice_get_past (packets_from 0 units choice) (k + 1) past.1 ∙ sym past.0
    ])
