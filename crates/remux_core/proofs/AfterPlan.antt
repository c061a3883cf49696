-- What `plan` leaves, `check-plan` accepts.
use Rattle.std.proofs.Common.{◌≡◌, ℕ, List, Some, refl, ◌∙◌}
use Rattle.std.specs.FinMap.{get}
use Rattle.bound_certificate.specs.Spelling.{cert_spelling}
use Rattle.shelf_io.specs.Files.{Files}
use Rattle.command_words.specs.declared.status.Status.TheVariants.{Ok}
use Rattle.command_words.specs.Command.{IsPlanCommand}
use Rattle.command_words.proofs.Contents.{get_own, get_other, stays}
use Rattle.plan_command.specs.PlanCommand.{PlanDone}
use Rattle.check_plan_command.specs.CheckPlanCommand.{CheckPlanCallsFor}

pub plan_is_accepted : (words : List (List ℕ)) (table certificate : List ℕ) (files after : Files) (line : List ℕ) → IsPlanCommand words table certificate
    → PlanDone table certificate files line after → CheckPlanCallsFor table certificate (Some after) Ok
plan_is_accepted words table certificate files after line said (plan, has, says, written) =
    let holds = has.holds in
    let is = has.is_plan in
    let table_held : get after table ≡ Some holds.text =
    stays _ after table written ∙ get_other files certificate (cert_spelling plan) table said.apart ∙ holds.held in
    let held : get after certificate ≡ Some (cert_spelling plan) = stays _ after certificate written ∙ get_own files certificate (cert_spelling plan) in (
      has.table,
      plan,
      record { text = holds.text; held = table_held; read = holds.read },
      record { bytes = cert_spelling plan; held = held; read = (is.writable.bytes, is.is_cert, refl) },
      is.faultless,
    )
