-- Removals that take each packet's bytes when they are wanted are allowed.
use Rattle.std.proofs.Common.{◌≡◌, ℕ, zero, suc, ◌*◌, ◌<◌, ◌≤◌, List, [], ◌∷◌, length, get_or, map, replicate, slice_get, Some, refl, ap, arith}
use Rattle.std.specs.List.{AllZip, All}
use Rattle.std.specs.List.Sorted.{IsNonDecreasing, IsNonDecreasingBy}
use Rattle.std.proofs.lemmas.List.{get_or-map, length-map}
use Rattle.std.proofs.lemmas.List.Elements.{All-head, All-tail}
use Rattle.stream_constants.specs.declared.clock.TheConstants.{SUBTICKS_PER_TICK}
use Rattle.version_table.specs.declared.table.Table.{Table}
use Rattle.version_table.specs.Choice.{Fits}
use Rattle.version_table.specs.Table.{IsValidTable}
use Rattle.slot_rule.specs.declared.queue_kind.QueueKind.{QueueKind}
use Rattle.slot_rule.specs.declared.queued_packet.QueuedPacket.{QueuedPacket}
use Rattle.slot_rule.specs.Queues.{queues_of}
use Rattle.slot_rule.proofs.RuleQueues.{IsLimited, IsValidStream, IsValidStream-at}
use Rattle.tstd_model.specs.declared.decoder_input.Removal.{Removal}
use Rattle.tstd_model.specs.Decoder.{removed}
use Rattle.tstd_bridge.specs.Arrivals.{Headers}
use Rattle.tstd_bridge.specs.Removals.{removable, wanted_of_each, gone_of_each, IsAllowed, removals_when_wanted}
use Rattle.tstd_bridge.proofs.ZipLaws.{AllZip-append}

-- the removal of a packet
abbrev removal_of : QueueKind → Headers → QueuedPacket → Removal
removal_of kind headers packet = record { due = packet.due; bytes = removable kind headers packet }

dues_are : (kind : QueueKind) (headers : Headers) (packets : List QueuedPacket) → map (λ (r : Removal). r.due) (removals_when_wanted kind headers packets) ≡ map (λ (p : QueuedPacket). p.due) packets
dues_are kind headers [] = refl
dues_are kind headers (packet ∷ packets) = ap (λ (more : List ℕ). packet.due ∷ more) (dues_are kind headers packets)

in_order : (packets : List QueuedPacket) → IsNonDecreasingBy (λ (p : QueuedPacket). p.due) packets → IsNonDecreasing (map (λ (p : QueuedPacket). p.due) packets)
in_order packets rises i j d upto within =
    let none : QueuedPacket = record { item = 0; piece = 0; payload = 0; due = 0; gone = 0 } in
    let size : length (map (λ (p : QueuedPacket). p.due) packets) ≡ length packets = length-map packets (λ (p : QueuedPacket). p.due) in
    let fits : j < length packets = omega (arith, within, size) in
    let early : i < length packets = omega (arith, fits, upto) in
    let low : get_or (map (λ (p : QueuedPacket). p.due) packets) i d ≡ (get_or packets i none).due = get_or-map (λ (p : QueuedPacket). p.due) packets i none d early in
    let high : get_or (map (λ (p : QueuedPacket). p.due) packets) j d ≡ (get_or packets j none).due = get_or-map (λ (p : QueuedPacket). p.due) packets j none d fits in
    omega (arith, low, high, rises i j none upto fits)

zip_copies : (count x y : ℕ) → x ≤ y → AllZip (λ a b. a ≤ b) (replicate count x) (replicate count y)
zip_copies zero x y le = tt
zip_copies (suc count) x y le = (le, zip_copies count x y le)

when_wanted : (kind : QueueKind) (headers : Headers) (packets : List QueuedPacket)
    → AllZip (λ wanted at. wanted ≤ at) (wanted_of_each kind headers packets) (removed (removals_when_wanted kind headers packets))
unfolding removed
when_wanted kind headers [] = tt
when_wanted kind headers (packet ∷ packets) =
    let own = replicate (removable kind headers packet) (SUBTICKS_PER_TICK * packet.due) in
    AllZip-append (λ wanted at. wanted ≤ at) own own (wanted_of_each kind headers packets) (removed (removals_when_wanted kind headers packets))
    (zip_copies (removable kind headers packet) (SUBTICKS_PER_TICK * packet.due) (SUBTICKS_PER_TICK * packet.due) (omega arith)) (when_wanted kind headers packets)

by_gone : (slot : ℕ) (kind : QueueKind) (headers : Headers) (packets : List QueuedPacket) → All (IsLimited slot) packets
    → AllZip (λ at gone. at ≤ gone) (removed (removals_when_wanted kind headers packets)) (gone_of_each kind headers packets)
unfolding removed
by_gone slot kind headers [] each = tt
by_gone slot kind headers (packet ∷ packets) each =
    let own = replicate (removable kind headers packet) (SUBTICKS_PER_TICK * packet.due) in
    let own_gone = replicate (removable kind headers packet) (SUBTICKS_PER_TICK * packet.gone) in
    let limited : IsLimited slot packet = All-head (IsLimited slot) packet packets each in
    AllZip-append (λ at gone. at ≤ gone) own own_gone (removed (removals_when_wanted kind headers packets)) (gone_of_each kind headers packets)
    (zip_copies (removable kind headers packet) (SUBTICKS_PER_TICK * packet.due) (SUBTICKS_PER_TICK * packet.gone) (omega (arith, limited.due)))
    (by_gone slot kind headers packets (All-tail (IsLimited slot) packet packets each))

pub allowed_when_wanted : (table : Table) (choice : List ℕ) (stream : ℕ) (kind : QueueKind) (packets : List QueuedPacket) (headers : Headers)
    → IsValidTable table → Fits table choice → slice_get (queues_of table choice) stream ≡ Some (record { kind = kind; packets = packets })
    → IsAllowed kind headers packets (removals_when_wanted kind headers packets)
allowed_when_wanted table choice stream kind packets headers valid fits there =
    let kept : IsValidStream table.slot (record { kind = kind; packets = packets }) = IsValidStream-at table choice stream (record { kind = kind; packets = packets }) valid fits there in
    record {
      in_order = rw (dues_are kind headers packets) (in_order packets kept.dues);
      wanted = when_wanted kind headers packets;
      gone = by_gone table.slot kind headers packets kept.each;
    }
