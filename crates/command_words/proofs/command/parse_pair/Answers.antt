use Rattle.command_words.proofs.WordsSaid.{no_pair}
use Rattle.command_words.proofs.command.parse_pair.Goals as goal

pub returns : goal.returns
returns c =
    no_pair c.args.verb.now c.args.first.now c.args.second.now
    (λ said. let yes = c.is_plan.ensures.1 said in let no = c.if-is_plan.false in cc)
    (λ said. let yes = c.is_check.ensures.1 said in let no = c.if-is_check.false in cc)
    (λ said. let yes = c.is_check_plan.ensures.1 said in let no = c.if-is_check_plan.false in cc)
    (λ said. let yes = c.is_fit.ensures.1 said in let no = c.if-is_fit.false in cc)
