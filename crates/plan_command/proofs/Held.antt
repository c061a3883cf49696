-- What TABLE holds, from the bytes that were read of it, and what `plan` leaves.
use Rattle.std.proofs.Common.{◌≡◌, ℕ, ◌+◌, ◌≤◌, List, length, take, Option, Some, None, IfSome, refl, sym, ap, subst, inl, inr, arith}
use Rattle.std.proofs.lemmas.List.{length-take}
use Rattle.bound_certificate.specs.declared.cert.Cert.{Cert}
use Rattle.bound_certificate.specs.Spelling.{cert_spelling}
use Rattle.std.specs.FinMap.{insert}
use Rattle.branch_plan.specs.declared.planner.PlanFault.{PlanFault}
use Rattle.branch_plan.specs.declared.planner.PlanFault.TheVariants.{Missed}
use Rattle.branch_plan.specs.Plan.{IsMissOfSmallest}
use Rattle.job_report.specs.Report.{report_line}
use Rattle.job_report.specs.declared.report.Report.{Report}
use Rattle.slot_rule.specs.declared.sent.Miss.{Miss}
use Rattle.shelf_io.specs.Files.{Files, with_content}
use Rattle.shelf_io.specs.Asked.{AsksUpTo}
use Rattle.shelf_io.specs.WholeFile.{HoldsPrefix}
use Rattle.version_table.specs.declared.limits.TheConstants.{TABLE_TEXT_MOST}
use Rattle.version_table.specs.declared.fault.TableFault.{TableFault}
use Rattle.version_table.specs.declared.fault.TableFault.TheVariants as faults
use Rattle.version_table.specs.declared.table.Table.{Table}
use Rattle.version_table.specs.Text.{IsTableRead, IsFaultOf, TextReading, Holds, RefusedAt, RefusedFor}
use Rattle.command_words.specs.declared.ended.Ended.{Ended}
use Rattle.command_words.specs.declared.status.Status.TheVariants as statuses
use Rattle.command_words.specs.declared.status.JobRefusal.{JobRefusal}
use Rattle.command_words.specs.declared.status.JobRefusal.TheVariants.{TableSyntax, TableLimit}
use Rattle.command_words.specs.Ended.{EndsBy, Performs, answer_of}
use Rattle.command_words.specs.Held.{HoldsText}
use Rattle.shelf_io.specs.Facts.{ShelfFacts}
use Rattle.command_words.specs.Outside.{OnFiles}
use Rattle.command_words.specs.Report.{miss_report, refusal_report}
use Rattle.command_words.specs.Task.{AsksOnly}
use Rattle.command_words.proofs.Counted.{asks_one}
use Rattle.command_words.proofs.Performed.{performs_uncalled, wants_uncalled}
use Rattle.command_words.proofs.Texts.{take_all_of}
use Rattle.command_words.proofs.Told.{HoldsPart, on_content, on_prefix}
use Rattle.plan_command.specs.PlanCommand.{HasPlan, HoldsTable, IsTableRefused, PlanDone, PlanLeaves, PlanMayRefuse, plan_task}
use Rattle.plan_command.specs.Report.{plan_report}
use Rattle.plan_command.specs.Private.Front.{HoldsFront}
use Rattle.plan_command.specs.Refused.{refusal_by, IsRefusedFor}

-- a text is read as its front of one byte past the limit
pub read_whole : (text front : List ℕ) (reading : TextReading) → front ≡ take (TABLE_TEXT_MOST + 1) text → IsTableRead front reading → IsTableRead text reading
read_whole text front (Holds table) is (short, valid, spelled) =
    let whole : front ≡ text = take_all_of TABLE_TEXT_MOST text front is short in
    subst (λ (t : List ℕ). IsTableRead t (Holds table)) whole (short, valid, spelled)
read_whole text front (RefusedAt n) is (short, refused) =
    let whole : front ≡ text = take_all_of TABLE_TEXT_MOST text front is short in
    subst (λ (t : List ℕ). IsTableRead t (RefusedAt n)) whole (short, refused)
read_whole text front (RefusedFor limit) is (inl (long, bytes)) =
    let cut : length front ≤ length text = subst (λ (t : List ℕ). length t ≤ length text) (sym is) (omega (arith, length-take (TABLE_TEXT_MOST + 1) text)) in
    inl (omega arith, bytes)
read_whole text front (RefusedFor limit) is (inr (short, refused)) =
    let whole : front ≡ text = take_all_of TABLE_TEXT_MOST text front is short in
    subst (λ (t : List ℕ). IsTableRead t (RefusedFor limit)) whole (inr (short, refused))

-- a text is refused as its front is
pub text_is_refused : (text front : List ℕ) (refusal : JobRefusal) (fault : TableFault) → front ≡ take (TABLE_TEXT_MOST + 1) text → refusal_by fault ≡ Some refusal
    → IsFaultOf front fault → IsTableRefused text refusal
text_is_refused text front refusal (faults.TableSyntax n) front_is by is =
    let same : TableSyntax n ≡ refusal = cc in
    subst (IsTableRefused text) same (read_whole text front (RefusedAt n) front_is is)
text_is_refused text front refusal (faults.TableLimit name) front_is by is =
    let same : TableLimit name ≡ refusal = cc in
    subst (IsTableRefused text) same (is.0, read_whole text front (RefusedFor is.0) front_is is.1, is.2)
text_is_refused text front refusal faults.OutOfMemory front_is by is = cc

-- a refusal of a table's text is one of line or limit
may_refuse : (refusal : JobRefusal) (fault : TableFault) → refusal_by fault ≡ Some refusal → PlanMayRefuse (statuses.JobRefused refusal)
may_refuse refusal (faults.TableSyntax n) by = let same : TableSyntax n ≡ refusal = cc in subst (λ (r : JobRefusal). PlanMayRefuse (statuses.JobRefused r)) same tt
may_refuse refusal (faults.TableLimit name) by = let same : TableLimit name ≡ refusal = cc in subst (λ (r : JobRefusal). PlanMayRefuse (statuses.JobRefused r)) same tt
may_refuse refusal faults.OutOfMemory by = cc

-- a text that is refused ends the command with its refusal
refused_with : (table certificate : List ℕ) (facts : ShelfFacts) (front : List ℕ) (result : Option Ended) (fault : TableFault) (refusal : JobRefusal)
    → refusal_by fault ≡ Some refusal → HoldsFront facts.files table front → IsFaultOf front fault
    → IfSome result (EndsBy (statuses.JobRefused refusal) (refusal_report refusal)) → Performs (plan_task table certificate) facts facts (answer_of result)
refused_with table certificate facts front result fault refusal by holds is so =
    let refused = text_is_refused holds.text front refusal fault holds.front_is by is in
    performs_uncalled (plan_task table certificate) facts result (statuses.JobRefused refusal) (refusal_report refusal) (refusal_report refusal) so refl
    (λ held told. ((holds.text, subst (λ (t : Option Files). HoldsText t table holds.text) told holds.held, refused), refl)) (λ held. inl refl)
    (record { may = may_refuse refusal fault by; says = refl; called = (holds.text, holds.held, refused) })

pub refused_ends : (table certificate : List ℕ) (facts : ShelfFacts) (front : List ℕ) (result : Option Ended) (fault : TableFault)
    → HoldsFront facts.files table front → IsFaultOf front fault → IfSome result (IsRefusedFor (refusal_by fault)) → Performs (plan_task table certificate) facts facts (answer_of result)
refused_ends table certificate facts front None fault holds is so = wants_uncalled (plan_task table certificate) facts (λ held. inl refl)
refused_ends table certificate facts front (Some ended) (faults.TableSyntax n) holds is so =
    refused_with table certificate facts front (Some ended) (faults.TableSyntax n) (TableSyntax n) refl holds is so
refused_ends table certificate facts front (Some ended) (faults.TableLimit name) holds is so =
    refused_with table certificate facts front (Some ended) (faults.TableLimit name) (TableLimit name) refl holds is so
refused_ends table certificate facts front (Some ended) faults.OutOfMemory holds is so = absurd so

-- a front of the certificate of a plan is what `plan` may leave
plan_leaves : (table certificate : List ℕ) (plan : Cert) (files after : Files) → HasPlan (Some files) table plan
    → HoldsPart certificate (cert_spelling plan) files after → PlanLeaves table certificate files after
plan_leaves table certificate plan files after has (inl same) = inl same
plan_leaves table certificate plan files after has (inr (k, few, written)) = inr (plan, has, k, few, written)

-- a call that wrote a front of some bytes, which are those of the certificate of a plan
pub part_written : (old new : Option Files) (table certificate : List ℕ) (plan : Cert) (bytes : List ℕ) → bytes ≡ cert_spelling plan → HasPlan old table plan
    → HoldsPrefix old new certificate bytes → OnFiles old new (PlanLeaves table certificate)
part_written old new table certificate plan bytes is has holds =
    on_prefix old new certificate (cert_spelling plan) (PlanLeaves table certificate)
    (subst (λ (b : List ℕ). HoldsPrefix old new certificate b) is holds)
    (λ held after told part. plan_leaves table certificate plan held after (subst (λ (t : Option Files). HasPlan t table plan) told has) part)

-- and one that wrote all of them
pub whole_written : (old new : Option Files) (table certificate : List ℕ) (plan : Cert) (bytes : List ℕ) → bytes ≡ cert_spelling plan → HasPlan old table plan
    → new ≡ with_content old certificate bytes → OnFiles old new (λ held after. PlanDone table certificate held (report_line (plan_report plan)) after)
whole_written old new table certificate plan bytes is has written =
    on_content old new certificate bytes (λ held after. PlanDone table certificate held (report_line (plan_report plan)) after) written
    (λ held told. (plan, subst (λ (t : Option Files). HasPlan t table plan) told has, refl, ap (insert held certificate) is))

-- `plan` asks for TABLE alone
pub asks_table : (table certificate : List ℕ) (told : Option Files) (old new : List ℕ → ℕ) → AsksUpTo table (TABLE_TEXT_MOST + 1) old new
    → AsksOnly (plan_task table certificate) told old new
asks_table table certificate told old new asks = asks_one (plan_task table certificate) told table TABLE_TEXT_MOST old new (refl, refl) (λ name limit is. is) asks

-- a table whose smallest choice misses ends the command with its first miss
pub missed_ends : (table certificate : List ℕ) (facts : ShelfFacts) (held_table : Table) (result : Option Ended) (fault : PlanFault) (miss : Miss) (report : Report)
    → fault ≡ Missed miss → IsMissOfSmallest held_table fault → HoldsTable facts.files table held_table
    → IfSome result (EndsBy (statuses.Unschedulable miss) report) → report ≡ miss_report miss → Performs (plan_task table certificate) facts facts (answer_of result)
missed_ends table certificate facts held_table result fault miss report is misses holds so says =
    let missed : IsMissOfSmallest held_table (Missed miss) = subst (IsMissOfSmallest held_table) is misses in
    performs_uncalled (plan_task table certificate) facts result (statuses.Unschedulable miss) report (miss_report miss) so says
    (λ held told. ((held_table, missed.0, subst (λ (t : Option Files). HoldsTable t table held_table) told holds, missed.1, missed.2), refl)) (λ held. inl refl)
    (record { may = tt; says = refl; called = (held_table, missed.0, holds, missed.1, missed.2) })
