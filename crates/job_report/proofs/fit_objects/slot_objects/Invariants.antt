use Rattle.std.proofs.Common.{◌≡◌, take, map}
use Rattle.serde_json.specs.View.{view}
use Rattle.job_report.specs.Report.{slot_object}
use Rattle.job_report.proofs.fit_objects.slot_objects.Given as goal

abbrev pub invariant-loop-slot : goal.invariant-loop-slot
invariant-loop-slot l = map view l.items.items ≡ map slot_object (take l.slot-index l.slots)
