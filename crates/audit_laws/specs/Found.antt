-- What an audit may find on a stream that is clean.
use Rattle.std.specs.Prelude.{◌≡◌, Option, Some, None}
use Rattle.stream_audit.specs.declared.finding.FaultName.TheVariants.{Full}
use Rattle.stream_audit.specs.declared.finding.Finding.{Finding}

-- nothing, or a transport buffer that isn't empty for a second, which no rule of a schedule forbids
abbrev pub IsFullAtMost : Option Finding → Type 0
IsFullAtMost None = Unit {0}
IsFullAtMost (Some finding) = finding.fault ≡ Full
