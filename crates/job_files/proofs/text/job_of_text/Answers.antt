use Rattle.std.proofs.Common.{map, sym, subst}
use Rattle.job_files.specs.declared.job_stop.JobStop.{JobStop}
use Rattle.job_files.specs.Private.Texts.{IsTextStop}
use Rattle.job_files.proofs.Texts.{fault_stops, shared_stops, spelled_apart}
use Rattle.job_files.proofs.text.job_of_text.Goals as goal

pub returns-in-Ok-clause-job : goal.returns-in-Ok-clause-job
returns-in-Ok-clause-job c =
    spelled_apart c.args.text.now (map (λ name. name.now) c.args.named.now) c.in-Ok.job c.apart_from.result c.in-Ok.ensures.job c.apart_from.ensures.job c.apart_from.ensures.apart

pub returns-in-Ok-clause-stop : goal.returns-in-Ok-clause-stop
returns-in-Ok-clause-stop c =
    shared_stops c.args.text.now (map (λ name. name.now) c.args.named.now) c.in-Ok.job c.apart_from.result c.in-Ok.ensures.job c.apart_from.ensures.stop

pub returns-in-Err-clause-stop : goal.returns-in-Err-clause-stop
returns-in-Err-clause-stop c =
    let named = map (λ name. name.now) c.args.named.now in
    subst (λ (stop : JobStop). IsTextStop c.args.text.now named stop) (sym c.stop_of.ensures) (fault_stops c.args.text.now named c.in-Err.fault c.in-Err.ensures.refusal)
