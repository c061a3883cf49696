-- What TABLE holds calls for one status.
use Rattle.std.proofs.Common.{◌≡◌, ℕ, List, Some, refl, subst}
use Rattle.shelf_io.specs.Files.{Files}
use Rattle.command_words.specs.declared.status.Status.{Status}
use Rattle.command_words.specs.declared.status.Status.TheVariants as statuses
use Rattle.command_words.specs.Status.{IsSameStatus}
use Rattle.plan_command.specs.PlanCommand.{IsTableRefused}
use Rattle.plan_command.proofs.OneStatus.{OneReading, one_refusal, table_or_refusal}
use Rattle.impossible_command.specs.ImpossibleCommand.{ImpossibleCallsFor}

pub impossible_calls_for_one : OneReading → (name : List ℕ) (files : Files) (s t : Status) → ImpossibleCallsFor name (Some files) s → ImpossibleCallsFor name (Some files) t → IsSameStatus s t
impossible_calls_for_one reading name files statuses.Ok statuses.Ok a b = refl
impossible_calls_for_one reading name files statuses.Ok (statuses.JobRefused refusal) a b = absurd (table_or_refusal reading files name a.0 refusal a.1 b)
impossible_calls_for_one reading name files statuses.Ok statuses.Missing a b = let x = a.1.held in cc
impossible_calls_for_one reading name files (statuses.JobRefused refusal) statuses.Ok a b = absurd (table_or_refusal reading files name b.0 refusal b.1 a)
impossible_calls_for_one reading name files (statuses.JobRefused refusal) (statuses.JobRefused other) (text, held, refused) (same, holds, is) =
    let texts : same ≡ text = cc in
    one_refusal reading text refusal other refused (subst (λ (x : List ℕ). IsTableRefused x other) texts is)
impossible_calls_for_one reading name files (statuses.JobRefused refusal) statuses.Missing a b = let x = a.1 in cc
impossible_calls_for_one reading name files statuses.Missing statuses.Ok a b = let x = b.1.held in cc
impossible_calls_for_one reading name files statuses.Missing (statuses.JobRefused refusal) a b = let x = b.1 in cc
impossible_calls_for_one reading name files statuses.Missing statuses.Missing a b = refl
impossible_calls_for_one reading name files statuses.Usage t a b = absurd a
impossible_calls_for_one reading name files (statuses.SourceRefused fault) t a b = absurd a
impossible_calls_for_one reading name files (statuses.Unschedulable miss) t a b = absurd a
impossible_calls_for_one reading name files (statuses.CertRefused refusal) t a b = absurd a
impossible_calls_for_one reading name files statuses.ReadFault t a b = absurd a
impossible_calls_for_one reading name files statuses.WriteFault t a b = absurd a
impossible_calls_for_one reading name files statuses.OutOfMemory t a b = absurd a
impossible_calls_for_one reading name files (statuses.AuditFault finding) t a b = absurd a
impossible_calls_for_one reading name files statuses.NoFit t a b = absurd a
impossible_calls_for_one reading name files s statuses.Usage a b = absurd b
impossible_calls_for_one reading name files s (statuses.SourceRefused fault) a b = absurd b
impossible_calls_for_one reading name files s (statuses.Unschedulable miss) a b = absurd b
impossible_calls_for_one reading name files s (statuses.CertRefused refusal) a b = absurd b
impossible_calls_for_one reading name files s statuses.ReadFault a b = absurd b
impossible_calls_for_one reading name files s statuses.WriteFault a b = absurd b
impossible_calls_for_one reading name files s statuses.OutOfMemory a b = absurd b
impossible_calls_for_one reading name files s (statuses.AuditFault finding) a b = absurd b
impossible_calls_for_one reading name files s statuses.NoFit a b = absurd b
