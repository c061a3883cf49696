-- What a kept run keeps, and which of it stands under another choice.
use Rattle.std.specs.Prelude.{◌≡◌, ◌≤◌, true, false, [], length, Some, vec_capacity, None, if◌then◌else◌}
use Rattle.version_table.specs.Table.{IsValidTable, units_of}
use Rattle.version_table.specs.Choice.{Fits}
use Rattle.slot_rule.specs.declared.checkpoints.TheConstants.{CHECKPOINTS_MOST}
use Rattle.slot_rule.specs.declared.slot_run.SlotRun.TheInside.{Inside}
use Rattle.slot_rule.specs.SlotRun.{KeptRun, CountsCheckpoints, slots_apart}
use Rattle.slot_rule.specs.Private.Checkpoints.{AreCheckpoints}

-- the table, the choice of the last run, and how far its checkpoints go
abbrev pub kept_run : Inside → KeptRun
kept_run run = record { table = run.table.now; kept = if run.has_run then Some run.choice.items else None; upto = run.upto }

-- the checkpoints are those of the choice, where there was a run, and there is room for all that a run keeps
pub record KeepsRun (run : Inside) : Type 0 where
  pub valid : IsValidTable run.table.now
  pub room : CHECKPOINTS_MOST ≤ vec_capacity run.checkpoints
  pub choice_room : length (units_of run.table.now) ≤ vec_capacity run.choice
  pub few : length run.checkpoints.items ≤ CHECKPOINTS_MOST
  pub fresh : run.has_run ≡ false → run.checkpoints.items ≡ []
  pub fits : run.has_run ≡ true → Fits run.table.now run.choice.items
  pub are : AreCheckpoints run.table.now run.choice.items run.checkpoints.items
  pub apart : run.apart ≡ slots_apart run.table.now
  pub counts : run.has_run ≡ true → CountsCheckpoints run.table.now run.choice.items run.upto (length run.checkpoints.items)
