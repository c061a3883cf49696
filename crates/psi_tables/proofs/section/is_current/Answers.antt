use Rattle.std.proofs.Common.{◌≡◌, get_or, arith, rules}
use Rattle.std.proofs.lemmas.List.{get_or_past}
use Rattle.psi_tables.proofs.Elements.{current_next_indicator-is}
use Rattle.psi_tables.proofs.section.is_current.Goals as goal

pub returns-in_default : goal.returns-in_default
returns-in_default c =
    let none : get_or c.args.bytes.now 5 0 ≡ 0 = get_or_past c.args.bytes.now 5 0 (omega arith) in
    (λ not. search rules, λ is. absurd (omega (arith, none, current_next_indicator-is c.args.bytes.now, is.current)))
