use Rattle.command_words.proofs.WordsSaid.{no_one}
use Rattle.command_words.proofs.command.parse_one.Goals as goal

pub returns : goal.returns
returns c = no_one c.args.verb.now c.args.name.now (λ said. let yes = c.is_impossible.ensures.1 said in let no = c.if-is_impossible.false in cc)
