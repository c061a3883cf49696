use Rattle.command_words.proofs.WordsSaid.{no_three}
use Rattle.command_words.proofs.command.parse_three.Goals as goal

pub returns-in-None-parse_audit : goal.returns-in-None-parse_audit
returns-in-None-parse_audit c =
    no_three c.args.verb.now c.args.first.now c.args.second.now c.args.third.now
    (λ said. let yes = c.is_run.ensures.1 said in let no = c.if-is_run.false in cc)
    c.in-None.ensures c.in-None-parse_probe.ensures c.in-None-parse_audit.ensures
