-- `gen` calls for one status.
use Rattle.std.proofs.Common.{◌≡◌, refl}
use Rattle.command_words.specs.declared.status.Status.{Status}
use Rattle.command_words.specs.declared.status.Status.TheVariants as statuses
use Rattle.command_words.specs.Status.{IsSameStatus}
use Rattle.command_words.proofs.SameStatus.{both_one}
use Rattle.gen_command.specs.GenCommand.{GenCallsFor}

-- `gen` calls for Ok alone
gen_calls_for_ok : (s : Status) → GenCallsFor s → statuses.Ok ≡ s
gen_calls_for_ok statuses.Ok a = refl
gen_calls_for_ok statuses.Usage a = absurd a
gen_calls_for_ok (statuses.JobRefused refusal) a = absurd a
gen_calls_for_ok (statuses.Unschedulable miss) a = absurd a
gen_calls_for_ok (statuses.SourceRefused fault) a = absurd a
gen_calls_for_ok (statuses.CertRefused refusal) a = absurd a
gen_calls_for_ok statuses.ReadFault a = absurd a
gen_calls_for_ok statuses.WriteFault a = absurd a
gen_calls_for_ok statuses.Missing a = absurd a
gen_calls_for_ok statuses.OutOfMemory a = absurd a
gen_calls_for_ok (statuses.AuditFault finding) a = absurd a
gen_calls_for_ok statuses.NoFit a = absurd a

-- so it calls for one status
pub gen_calls_for_one : (s t : Status) → GenCallsFor s → GenCallsFor t → IsSameStatus s t
gen_calls_for_one s t a b = both_one statuses.Ok s t (gen_calls_for_ok s a) (gen_calls_for_ok t b) refl
