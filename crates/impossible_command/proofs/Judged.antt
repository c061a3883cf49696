-- What becomes of the text of TABLE.
use Rattle.std.proofs.Common.{◌≡◌, ◌+◌, ℕ, List, Option, Some, None, IfSome, refl, subst}
use Rattle.shelf_io.specs.Asked.{AsksUpTo}
use Rattle.shelf_io.specs.Files.{Files}
use Rattle.job_report.specs.declared.report.Report.{Report}
use Rattle.version_table.specs.declared.fault.TableFault.{TableFault}
use Rattle.version_table.specs.declared.fault.TableFault.TheVariants as faults
use Rattle.version_table.specs.declared.limits.TheConstants.{TABLE_TEXT_MOST}
use Rattle.version_table.specs.declared.table.Table.{Table}
use Rattle.version_table.specs.Text.{IsFaultOf}
use Rattle.command_words.specs.declared.ended.Ended.{Ended}
use Rattle.command_words.specs.declared.status.Status.TheVariants as statuses
use Rattle.command_words.specs.declared.status.JobRefusal.{JobRefusal}
use Rattle.command_words.specs.declared.status.JobRefusal.TheVariants.{TableSyntax, TableLimit}
use Rattle.command_words.specs.Ended.{EndsBy, Performs, answer_of}
use Rattle.command_words.specs.Held.{HoldsText}
use Rattle.shelf_io.specs.Facts.{ShelfFacts}
use Rattle.command_words.specs.Report.{refusal_report}
use Rattle.command_words.specs.Task.{AsksOnly}
use Rattle.command_words.proofs.Counted.{asks_one}
use Rattle.command_words.proofs.Performed.{performs_uncalled, wants_uncalled}
use Rattle.plan_command.specs.PlanCommand.{HoldsTable}
use Rattle.plan_command.specs.Private.Front.{HoldsFront}
use Rattle.plan_command.specs.Refused.{refusal_by, IsRefusedFor}
use Rattle.plan_command.proofs.Held.{text_is_refused}
use Rattle.impossible_command.specs.ImpossibleCommand.{ImpossibleMayRefuse, impossible_task}
use Rattle.impossible_command.specs.Verdict.{IsVerdict}
use Rattle.impossible_command.specs.Private.Judged.{EndsByVerdict}

-- a refusal of a table's text is one of line or limit
may_refuse : (refusal : JobRefusal) (fault : TableFault) → refusal_by fault ≡ Some refusal → ImpossibleMayRefuse (statuses.JobRefused refusal)
may_refuse refusal (faults.TableSyntax n) by = let same : TableSyntax n ≡ refusal = cc in subst (λ (r : JobRefusal). ImpossibleMayRefuse (statuses.JobRefused r)) same tt
may_refuse refusal (faults.TableLimit name) by = let same : TableLimit name ≡ refusal = cc in subst (λ (r : JobRefusal). ImpossibleMayRefuse (statuses.JobRefused r)) same tt
may_refuse refusal faults.OutOfMemory by = cc

refused_with : (table : List ℕ) (facts : ShelfFacts) (front : List ℕ) (result : Option Ended) (fault : TableFault) (refusal : JobRefusal)
    → refusal_by fault ≡ Some refusal → HoldsFront facts.files table front → IsFaultOf front fault
    → IfSome result (EndsBy (statuses.JobRefused refusal) (refusal_report refusal)) → Performs (impossible_task table) facts facts (answer_of result)
refused_with table facts front result fault refusal by holds is so =
    let refused = text_is_refused holds.text front refusal fault holds.front_is by is in
    performs_uncalled (impossible_task table) facts result (statuses.JobRefused refusal) (refusal_report refusal) (refusal_report refusal) so refl
    (λ held told. ((holds.text, subst (λ (t : Option Files). HoldsText t table holds.text) told holds.held, refused), refl)) (λ held. refl)
    (record { may = may_refuse refusal fault by; says = refl; called = (holds.text, holds.held, refused) })

-- a refused text ends the command
pub refused_ends : (table : List ℕ) (facts : ShelfFacts) (front : List ℕ) (result : Option Ended) (fault : TableFault)
    → HoldsFront facts.files table front → IsFaultOf front fault → IfSome result (IsRefusedFor (refusal_by fault)) → Performs (impossible_task table) facts facts (answer_of result)
refused_ends table facts front None fault holds is so = wants_uncalled (impossible_task table) facts (λ held. refl)
refused_ends table facts front (Some ended) (faults.TableSyntax n) holds is so =
    refused_with table facts front (Some ended) (faults.TableSyntax n) (TableSyntax n) refl holds is so
refused_ends table facts front (Some ended) (faults.TableLimit name) holds is so =
    refused_with table facts front (Some ended) (faults.TableLimit name) (TableLimit name) refl holds is so
refused_ends table facts front (Some ended) faults.OutOfMemory holds is so = absurd so

-- the verdict on the table that TABLE holds ends it
pub judged_ends : (name : List ℕ) (facts : ShelfFacts) (table : Table) (result : Option Ended) → HoldsTable facts.files name table → IfSome result (EndsByVerdict table)
    → Performs (impossible_task name) facts facts (answer_of result)
judged_ends name facts table None holds judged = wants_uncalled (impossible_task name) facts (λ held. refl)
judged_ends name facts table (Some ended) holds (report, is, ends) =
    performs_uncalled (impossible_task name) facts (Some ended) statuses.Ok report report ends refl
    (λ held told. ((table, subst (λ (t : Option Files). HoldsTable t name table) told holds, report, is, refl), refl)) (λ held. refl)
    (table, holds, report, is, refl)

-- `impossible` asks for TABLE alone
pub asks_table : (table : List ℕ) (told : Option Files) (old new : List ℕ → ℕ) → AsksUpTo table (TABLE_TEXT_MOST + 1) old new → AsksOnly (impossible_task table) told old new
asks_table table told old new asks = asks_one (impossible_task table) told table TABLE_TEXT_MOST old new (refl, refl) (λ name limit is. is) asks
