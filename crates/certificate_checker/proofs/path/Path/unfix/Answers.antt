use Rattle.std.proofs.Common.{ℕ, List, set, None, sym, ap, ◌∙◌}
use Rattle.certificate_checker.proofs.Units.{choice_left-set}
use Rattle.certificate_checker.proofs.path.Path.unfix.Goals as goal

pub returns-clause-choice : goal.returns-clause-choice
returns-clause-choice c = ap (λ (xs : List ℕ). set xs c.args.unit 0) c.requires.choice ∙ sym (choice_left-set c.args.self.now.fixed.items c.args.unit None)
