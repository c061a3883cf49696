use Rattle.std.proofs.Common.{Err, refl, arith}
use Rattle.certificate_checker.specs.Checked.{in_head}
use Rattle.certificate_checker.proofs.DueOrder.{order_size}
use Rattle.certificate_checker.proofs.Outcomes.{answer_fault, answer_faultless}
use Rattle.certificate_checker.proofs.Soundness.{answer_sound}
use Rattle.certificate_checker.proofs.checker.check.Goals as goal

pub returns-in-Some-clause-only_faultless : goal.returns-in-Some-clause-only_faultless
returns-in-Some-clause-only_faultless c = answer_faultless c.args.table.now c.args.cert.now (Err (record { node = 0; why = c.in-Some.why })) tt (in_head c.in-Some.ensures refl)

pub returns-in-Some-clause-only_fault : goal.returns-in-Some-clause-only_fault
returns-in-Some-clause-only_fault c = answer_fault c.args.table.now c.args.cert.now (Err (record { node = 0; why = c.in-Some.why })) tt (in_head c.in-Some.ensures refl)

pub returns-in-Some-clause-fault : goal.returns-in-Some-clause-fault
returns-in-Some-clause-fault c = in_head c.in-Some.ensures refl

pub returns-in-None-clause-only_faultless : goal.returns-in-None-clause-only_faultless
returns-in-None-clause-only_faultless c = answer_faultless c.args.table.now c.args.cert.now c.check_tree.result c.check_tree.ensures.bound c.check_tree.ensures.fault

pub returns-in-None-clause-only_fault : goal.returns-in-None-clause-only_fault
returns-in-None-clause-only_fault c = answer_fault c.args.table.now c.args.cert.now c.check_tree.result c.check_tree.ensures.faultless c.check_tree.ensures.fault

pub returns-in-None-clause-sound : goal.returns-in-None-clause-sound
returns-in-None-clause-sound c = answer_sound c.args.table.now c.args.cert.now c.check_tree.result c.requires.valid c.check_tree.ensures.bound c.check_tree.ensures.faultless

pub fault_of_head-requires-clause-units : goal.fault_of_head-requires-clause-units
fault_of_head-requires-clause-units c =
    let order = c.start.new.self.order in
    omega (arith, c.len.ensures, order.ok.0, order_size c.args.table.now order.items c.start.ensures.tally.order)
