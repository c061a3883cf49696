use Rattle.std.proofs.Common.{refl, subst, sym, List, ℕ}
use Rattle.shelf_io.specs.Facts.{shelf_facts}
use Rattle.command_words.proofs.Performed.{wants_uncalled}
use Rattle.fit_command.specs.FitCommand.{HoldsAsked, fit_task_of}
use Rattle.fit_command.specs.Private.ListFaults.{IsListFaultOf}
use Rattle.fit_command.specs.declared.list_fault.ListFault.{ListFault}
use Rattle.fit_command.proofs.FitSteps.{asked_of, refused_ends}
use Rattle.fit_command.proofs.steps.fit_in_text.Goals as goal

pub fit_in_slots-requires-clause-some : goal.fit_in_slots-requires-clause-some
fit_in_slots-requires-clause-some g c = rw c.as_slice.ensures c.in-Ok.ensures.list.some

pub fit_in_slots-requires-clause-stand : goal.fit_in_slots-requires-clause-stand
fit_in_slots-requires-clause-stand g c = rw c.as_slice.ensures c.in-Ok.ensures.list.stand

pub fit_in_slots-requires-clause-asked : goal.fit_in_slots-requires-clause-asked
fit_in_slots-requires-clause-asked g c =
    let files = c.args.files.now in
    let told = g.K.Shelf.files c.args.shelf.now in
    subst (λ (slots : List ℕ). HoldsAsked told files.job.now files.list.now c.args.job slots) (sym c.as_slice.ensures)
    (asked_of told files.job.now files.list.now c.args.text.now c.args.job c.in-Ok.slots c.requires.held c.requires.list c.in-Ok.ensures.list)

pub returns-in-Err-ListSyntax : goal.returns-in-Err-ListSyntax
returns-in-Err-ListSyntax g c =
    let facts = shelf_facts g.K.Shelf.files g.K.Shelf.counts g.K.Shelf.asked g.K.Shelf.since_fault in
    let files = c.args.files.now in
    let refused = subst (λ (fault : ListFault). IsListFaultOf c.args.text.now fault) c.in-Err-ListSyntax.field-0-is c.in-Err-ListSyntax.ensures.refusal in
    refused_ends files.job.now files.list.now (facts c.args.shelf.now) c.args.text.now c.args.job c.in-Err-ListSyntax.line c.refusal_report-report.result c.end_with.result
    c.requires.held c.requires.list refused c.refusal_report-report.ensures c.end_with.ensures

pub returns : goal.returns
returns g c =
    let facts = shelf_facts g.K.Shelf.files g.K.Shelf.counts g.K.Shelf.asked g.K.Shelf.since_fault in
    wants_uncalled (fit_task_of c.args.files.now) (facts c.args.shelf.now) (λ held. refl)
