use Rattle.fit_command.proofs.Lines.{none_without_number}
use Rattle.fit_command.proofs.list.number_line.Goals as goal

pub returns-in_default : goal.returns-in_default
returns-in_default c = none_without_number c.args.text.now c.in_ok-end.end c.in_ok-end.ensures c.in_default.ensures
