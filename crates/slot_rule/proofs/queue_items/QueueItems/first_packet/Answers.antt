use Rattle.std.proofs.Common.{◌≡◌, ℕ, ◌≤◌, List, length, slice_get, slice_index, Option, Some, None, drop, sym, ap₂, subst, ◌∙◌}
use Rattle.version_table.specs.declared.table.ProgramRow.{ProgramRow}
use Rattle.version_table.specs.declared.table.Table.{Table}
use Rattle.version_table.specs.declared.table.Unit.{Unit as CodedUnit}
use Rattle.version_table.specs.Choice.{version_at}
use Rattle.slot_rule.specs.declared.queue_items.QueueItems.{QueueItems}
use Rattle.slot_rule.specs.declared.queue_items.QueueItems.TheVariants.{Units}
use Rattle.slot_rule.specs.Private.QueueItems.{HasSizes, IsPlace, program_at}
use Rattle.slot_rule.specs.Private.QueueState.{packets_at}
use Rattle.slot_rule.specs.Queues.{QueuedPacket, unit_packets}
use Rattle.slot_rule.proofs.RulePlaces.{packets_from-first}
use Rattle.slot_rule.proofs.RuleVideo.{packets_from}
use Rattle.slot_rule.proofs.UnitPieces.{packet_at-from_clauses}
use Rattle.slot_rule.proofs.queue_items.QueueItems.first_packet.Goals as goal

first_of_units : (table : Table) (choice : List ℕ) (program first : ℕ) (row : ProgramRow) (versions : List ℕ) (o : Option QueuedPacket)
    → row ≡ program_at table program → versions ≡ drop first choice → HasSizes (program_at table program).units (drop first choice)
    → (length row.units ≤ 0 → o ≡ None)
    → ((unit : CodedUnit) → slice_get row.units 0 ≡ Some unit → o ≡ slice_get (unit_packets 0 unit.due (version_at unit (slice_index versions 0)).bytes) 0)
    → o ≡ slice_get (packets_at table choice (Units program first)) 0
first_of_units table choice program first row versions o row_is versions_are there missing found =
    let sizes : HasSizes row.units versions = rw (row_is, versions_are) there in
    packet_at-from_clauses row.units versions 0 0 o sizes missing found ∙ sym (packets_from-first row.units versions sizes)
    ∙ ap₂ (λ (r : ProgramRow) (v : List ℕ). slice_get (packets_from 0 r.units v) 0) row_is versions_are

pub returns-in-Units : goal.returns-in-Units
returns-in-Units c =
    let table = c.args.table.now in
    let choice = c.args.choice.now in
    let there : IsPlace table choice (Units c.in-Units.program c.in-Units.first) = subst (λ (s : QueueItems). IsPlace table choice s) c.in-Units.is c.requires in
    subst (λ (s : QueueItems). c.unit_packet.result ≡ slice_get (packets_at table choice s) 0) (sym c.in-Units.is)
    (first_of_units table choice c.in-Units.program c.in-Units.first c.program_at.result.now c.versions_from.result.now c.unit_packet.result
    c.program_at.ensures c.versions_from.ensures there.2 c.unit_packet.ensures.missing c.unit_packet.ensures.found)
