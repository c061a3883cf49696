-- Where a window has no room, no choice is scheduled.
use Rattle.std.proofs.Common.{◌≡◌, ℕ, ◌+◌, ◌≤◌, Bool, true, false, cond, List, [], ◌∷◌, sum_by, Option, Some, None, refl, arith, pos, ◌-ℤ◌, ◌<ℤ◌}
use Rattle.std.specs.List.{AllZip, zip}
use Rattle.std.proofs.lemmas.Int.{ints}
use Rattle.std.proofs.lemmas.List.Sums.{sum_by-cons}
use Rattle.version_table.specs.declared.table.Table.{Table}
use Rattle.version_table.specs.declared.table.Unit.{Unit as CodedUnit}
use Rattle.version_table.specs.Choice.{Fits, HasVersion, version_at}
use Rattle.version_table.specs.Table.{IsValidTable, units_of}
use Rattle.slot_rule.specs.Queues.{queues_of}
use Rattle.slot_rule.specs.Schedule.{IsScheduled}
use Rattle.dual_bounds.specs.Room.{audio_due, free_slots, is_within, room}
use Rattle.dual_bounds.specs.Values.{packet_count}
use Rattle.dual_bounds.proofs.Carried.{due_fit, due_in_queues}
use Rattle.dual_bounds.proofs.UnitPackets.{packets_due, units_due}
use Rattle.impossible_proof.specs.declared.window.NoRoom.{NoRoom}
use Rattle.impossible_proof.specs.NoRoom.{HasNoRoom, IsAnswer, fewest_packets, need}
use Rattle.impossible_proof.proofs.NeedOf.{fewest-le}

-- what a unit needs in a window is at most its packets there in any version
needs-le : (within : Bool) (fewest packets : ℕ) → fewest ≤ packets → cond within fewest 0 ≤ cond within packets 0
needs-le true fewest packets le = le
needs-le false fewest packets le = omega arith

units_need : (from due : ℕ) (units : List CodedUnit) (choice : List ℕ) → AllZip HasVersion units choice
    → sum_by (λ unit. cond (is_within from due unit.due) (fewest_packets unit) 0) units ≤ sum_by (packets_due from due) (zip units choice)
units_need from due [] [] fits = omega arith
units_need from due [] (k ∷ choice) fits = absurd fits
units_need from due (unit ∷ units) [] fits = absurd fits
units_need from due (unit ∷ units) (k ∷ choice) fits =
    omega (
      arith,
      sum_by-cons (λ (u : CodedUnit). cond (is_within from due u.due) (fewest_packets u) 0) unit units,
      sum_by-cons (packets_due from due) (unit, k) (zip units choice),
      needs-le (is_within from due unit.due) (fewest_packets unit) (packet_count (version_at unit k)) (fewest-le unit k fits.0),
      units_need from due units choice fits.1,
    )

pub need-le : (table : Table) (choice : List ℕ) (from due : ℕ) → Fits table choice → need table from due ≤ sum_by (packets_due from due) (zip (units_of table) choice)
unfolding need
need-le table choice from due fits = units_need from due (units_of table) choice fits

overfull : (free audio needed packets carried : ℕ) → (pos free -ℤ pos audio) <ℤ pos needed → needed ≤ packets → packets + audio ≤ carried → carried ≤ free → ⊥
overfull free audio needed packets carried short le due fit = omega (arith, ints)

pub nothing_fits : (table : Table) (from due : ℕ) → IsValidTable table → HasNoRoom table from due → (choice : List ℕ) → Fits table choice → IsScheduled table choice → ⊥
unfolding room
nothing_fits table from due valid has choice fits (rows, schedule) =
    overfull (free_slots table from due) (audio_due table from due) (need table from due) (sum_by (packets_due from due) (zip (units_of table) choice))
    (due_in_queues from due (queues_of table choice)) has.short (need-le table choice from due fits) (units_due table choice from due)
    (due_fit table choice rows valid fits schedule from due)

-- so no window is answered where some choice is scheduled
pub none_where_scheduled : (table : Table) (answer : Option NoRoom) → IsValidTable table → IsAnswer table answer → (choice : List ℕ) → Fits table choice → IsScheduled table choice
    → answer ≡ None
none_where_scheduled table None valid is choice fits scheduled = refl
none_where_scheduled table (Some found) valid is choice fits scheduled = absurd (nothing_fits table found.from found.due valid is.has_no_room choice fits scheduled)
