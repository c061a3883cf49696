use Rattle.std.proofs.Common.{◌≡◌, ℕ, List, Option, sym, ap, subst, ◌∙◌}
use Rattle.version_table.specs.Choice.{Fits}
use Rattle.bound_certificate.specs.declared.cert.Node.TheVariants.{Run}
use Rattle.certificate_checker.specs.Shown.{bound_of_run, choice_left}
use Rattle.certificate_checker.specs.Private.Paths.{IsClosed}
use Rattle.certificate_checker.proofs.Steps.{leaf_taken}
use Rattle.certificate_checker.proofs.Units.{fits_left}
use Rattle.certificate_checker.proofs.walk.take_run.Goals as goal

pub bound_of_run-bound-requires-clause-fits : goal.bound_of_run-bound-requires-clause-fits
bound_of_run-bound-requires-clause-fits c =
    subst (λ (xs : List ℕ). Fits c.args.table.now xs) (sym (c.as_slice-in-None.ensures.value ∙ c.requires.path.choice)) (fits_left c.args.table.now c.args.path.now.fixed.items c.requires.valid c.requires.path.fixes)

pub returns-in-None-clause-next : goal.returns-in-None-clause-next
returns-in-None-clause-next c =
    let table = c.args.table.now in
    let old = c.args.path.now in
    let choice : c.as_slice-in-None.result.now ≡ choice_left old.fixed.items = c.as_slice-in-None.ensures.value ∙ c.requires.path.choice in
    let bound : c.bound_of_run-bound.result ≡ bound_of_run table (choice_left old.fixed.items) c.args.scheduled =
    c.bound_of_run-bound.ensures ∙ ap (λ (xs : List ℕ). bound_of_run table xs c.args.scheduled) choice in
    leaf_taken table old c.close.new.path (Run c.args.scheduled) c.close.result tt c.in-None.ensures
    (subst (λ (b : Option ℕ). IsClosed table old c.close.new.path b c.close.result) bound c.close.ensures.next)
