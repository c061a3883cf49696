use Rattle.std.proofs.Common.{Option, subst}
use Rattle.multiplier_search.specs.declared.single.Valued.{Valued}
use Rattle.multiplier_search.specs.Private.UnitSteps.{IsBestValued}
use Rattle.multiplier_search.proofs.FirstBest.{best-of, best-alone}
use Rattle.multiplier_search.proofs.single.first_of.Goals as goal

pub returns-in-Some : goal.returns-in-Some
returns-in-Some c = λ table fixed dues more first second.
    best-of table fixed dues more c.in-Some.first c.args.b c.better_of.result (subst (λ (o : Option Valued). IsBestValued table fixed dues o) c.in-Some.is first) second c.better_of.ensures

pub returns-in-None : goal.returns-in-None
returns-in-None c = λ table fixed dues more first second.
    best-alone table fixed dues more c.args.b (subst (λ (o : Option Valued). IsBestValued table fixed dues o) c.in-None.is first) second
