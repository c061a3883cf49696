-- A busy time; no public clause cites this.
use Rattle.std.specs.Prelude.{◌+◌, ◌<◌, ◌≤◌}
use Rattle.stream_constants.specs.declared.clock.TheConstants.{SUBTICKS_PER_SECOND}
use Rattle.stream_audit.specs.declared.busy_time.BusyTime.{BusyTime}
unfoldable pub use Rattle.stream_audit.specs.BusyWalk.{busy_by, busy_behind}

-- it has begun, and is less than a second
abbrev pub IsShort : BusyTime → Type 0
IsShort time = (time.from ≤ time.until) × (time.until < time.from + SUBTICKS_PER_SECOND)
