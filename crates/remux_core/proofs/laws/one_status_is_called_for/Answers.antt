use Rattle.remux_core.proofs.One.{Laws, words_call_for_one}
use Rattle.remux_core.proofs.laws.one_status_is_called_for.Goals as goal

pub returns : goal.returns
returns c =
    let laws : Laws = record {
      plan = c.plan_calls_for_one.ensures;
      gen = c.gen_calls_for_one.ensures;
      run = c.run_calls_for_one.ensures;
      check = c.check_calls_for_one.ensures;
      probe = c.probe_calls_for_one.ensures;
      check_plan = c.check_plan_calls_for_one.ensures;
      impossible = c.impossible_calls_for_one.ensures;
      fit = c.fit_calls_for_one.ensures;
      audit = c.audit_calls_for_one.ensures;
    } in
    words_call_for_one laws
