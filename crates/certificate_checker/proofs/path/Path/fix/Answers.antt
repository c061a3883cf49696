use Rattle.std.proofs.Common.{ℕ, List, set, Some, sym, ap, ◌∙◌}
use Rattle.certificate_checker.proofs.Units.{choice_left-set}
use Rattle.certificate_checker.proofs.path.Path.fix.Goals as goal

pub returns-clause-choice : goal.returns-clause-choice
returns-clause-choice c = ap (λ (xs : List ℕ). set xs c.args.unit c.args.k) c.requires.choice ∙ sym (choice_left-set c.args.self.now.fixed.items c.args.unit (Some c.args.k))
