-- A fault of the shelf ends the reading of a job.
use Rattle.std.proofs.Common.{ℕ, List}
use Rattle.job_files.specs.declared.job_stop.JobStop.{JobStop}
use Rattle.job_files.specs.declared.job_stop.JobStop.TheVariants.{Text, Source, Unread, Missing, OutOfMemory}
use Rattle.job_files.specs.Stops.{EndsMissing, EndsUnread}
use Rattle.job_files.specs.Private.Steps.{IsMissing, IsUnread}

-- a file that can't be read ends it so
pub unread_ends : (name : List ℕ) (stop : JobStop) → IsUnread name stop → EndsUnread stop
unread_ends name (Unread file) is = tt
unread_ends name OutOfMemory is = tt
unread_ends name (Text refusal) is = absurd is
unread_ends name (Source fault) is = absurd is
unread_ends name (Missing file) is = absurd is

-- and one that isn't there
pub missing_ends : (name : List ℕ) (stop : JobStop) → IsMissing name stop → EndsMissing stop
missing_ends name (Missing file) is = tt
missing_ends name OutOfMemory is = tt
missing_ends name (Text refusal) is = absurd is
missing_ends name (Source fault) is = absurd is
missing_ends name (Unread file) is = absurd is
