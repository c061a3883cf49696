-- Statuses that are the same.
use Rattle.std.proofs.Common.{◌≡◌, subst}
use Rattle.command_words.specs.declared.status.Status.{Status}
use Rattle.command_words.specs.declared.status.Status.TheVariants as statuses
use Rattle.command_words.specs.Status.{IsSameStatus}

-- two statuses that are one are the same, where that one is the same as itself
pub both_one : (one s t : Status) → one ≡ s → one ≡ t → IsSameStatus one one → IsSameStatus s t
both_one one s t first second same = subst (λ (x : Status). IsSameStatus x t) first (subst (λ (x : Status). IsSameStatus one x) second same)

-- a status that is the same as Ok is Ok
pub is_ok : (s : Status) → IsSameStatus s statuses.Ok → s ≡ statuses.Ok
is_ok statuses.Ok same = same
is_ok statuses.Usage same = same
is_ok (statuses.JobRefused refusal) same = same
is_ok (statuses.Unschedulable miss) same = same
is_ok (statuses.SourceRefused fault) same = same
is_ok (statuses.CertRefused refusal) same = same
is_ok statuses.ReadFault same = same
is_ok statuses.WriteFault same = same
is_ok statuses.Missing same = same
is_ok statuses.OutOfMemory same = same
is_ok (statuses.AuditFault finding) same = same
is_ok statuses.NoFit same = same
