use Rattle.std.proofs.Common.{Some, None, map, refl, subst}
use Rattle.std.specs.String.{string_bytes}
use Rattle.job_report.specs.declared.report.Report.TheVariants as reports
use Rattle.command_words.specs.declared.status.Status.TheVariants.{Usage}
use Rattle.command_words.specs.declared.command.Parsed.{Parsed}
use Rattle.command_words.specs.Command.{IsSaid}
use Rattle.shelf_io.specs.Facts.{shelf_facts}
use Rattle.command_words.specs.Parsed.{command_of, plan_of, gen_of, run_of, check_of, probe_of, check_plan_of, impossible_of, fit_of, audit_of}
use Rattle.command_words.specs.Task.{no_task}
use Rattle.command_words.proofs.Performed.{performs_uncalled}
use Rattle.remux_core.proofs.top_call.perform.Goals as goal

pub returns-in-None : goal.returns-in-None
returns-in-None g c =
    let shelf = shelf_facts g.K.Shelf.files g.K.Shelf.counts g.K.Shelf.asked g.K.Shelf.since_fault c.args.shelf.now in
    record {
      command = None;
      said = c.in-None.ensures;
      performs = performs_uncalled no_task shelf c.end_with.result Usage reports.Usage reports.Usage c.end_with.ensures refl (λ held told. (tt, refl)) (λ held. refl) (refl, tt);
    }

pub returns-in-Some-Plan : goal.returns-in-Some-Plan
returns-in-Some-Plan g c = record {
  command = plan_of c.in-Some-Plan.files;
  said = subst (λ (p : Parsed). IsSaid (map string_bytes c.args.words.now) (command_of (Some p))) c.in-Some-Plan.field-0-is c.in-Some-Plan.ensures;
  performs = c.plan_file.ensures;
}

pub returns-in-Some-Gen : goal.returns-in-Some-Gen
returns-in-Some-Gen g c = record {
  command = gen_of c.in-Some-Gen.words;
  said = subst (λ (p : Parsed). IsSaid (map string_bytes c.args.words.now) (command_of (Some p))) c.in-Some-Gen.field-0-is c.in-Some-Gen.ensures;
  performs = c.gen_file.ensures;
}

pub returns-in-Some-Run : goal.returns-in-Some-Run
returns-in-Some-Run g c = record {
  command = run_of c.in-Some-Run.files;
  said = subst (λ (p : Parsed). IsSaid (map string_bytes c.args.words.now) (command_of (Some p))) c.in-Some-Run.field-0-is c.in-Some-Run.ensures;
  performs = c.run_job.ensures;
}

pub returns-in-Some-Check : goal.returns-in-Some-Check
returns-in-Some-Check g c = record {
  command = check_of c.in-Some-Check.files;
  said = subst (λ (p : Parsed). IsSaid (map string_bytes c.args.words.now) (command_of (Some p))) c.in-Some-Check.field-0-is c.in-Some-Check.ensures;
  performs = c.check_job.ensures;
}

pub returns-in-Some-Probe : goal.returns-in-Some-Probe
returns-in-Some-Probe g c = record {
  command = probe_of c.in-Some-Probe.words;
  said = subst (λ (p : Parsed). IsSaid (map string_bytes c.args.words.now) (command_of (Some p))) c.in-Some-Probe.field-0-is c.in-Some-Probe.ensures;
  performs = c.probe_file.ensures;
}

pub returns-in-Some-CheckPlan : goal.returns-in-Some-CheckPlan
returns-in-Some-CheckPlan g c = record {
  command = check_plan_of c.in-Some-CheckPlan.files;
  said = subst (λ (p : Parsed). IsSaid (map string_bytes c.args.words.now) (command_of (Some p))) c.in-Some-CheckPlan.field-0-is c.in-Some-CheckPlan.ensures;
  performs = c.check_plan.ensures;
}

pub returns-in-Some-Impossible : goal.returns-in-Some-Impossible
returns-in-Some-Impossible g c = record {
  command = impossible_of c.in-Some-Impossible.files;
  said = subst (λ (p : Parsed). IsSaid (map string_bytes c.args.words.now) (command_of (Some p))) c.in-Some-Impossible.field-0-is c.in-Some-Impossible.ensures;
  performs = c.judge_file.ensures;
}

pub returns-in-Some-Fit : goal.returns-in-Some-Fit
returns-in-Some-Fit g c = record {
  command = fit_of c.in-Some-Fit.files;
  said = subst (λ (p : Parsed). IsSaid (map string_bytes c.args.words.now) (command_of (Some p))) c.in-Some-Fit.field-0-is c.in-Some-Fit.ensures;
  performs = c.fit_job.ensures;
}

pub returns-in-Some-Audit : goal.returns-in-Some-Audit
returns-in-Some-Audit g c = record {
  command = audit_of c.in-Some-Audit.words;
  said = subst (λ (p : Parsed). IsSaid (map string_bytes c.args.words.now) (command_of (Some p))) c.in-Some-Audit.field-0-is c.in-Some-Audit.ensures;
  performs = c.audit_file.ensures;
}
