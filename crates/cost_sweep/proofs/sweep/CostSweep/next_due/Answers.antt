use Rattle.std.proofs.Common.{◌≡◌, ◌≤◌, ◌<◌, List, length, get_or, sym, ap, ◌∙◌, arith}
use Rattle.cost_sweep.specs.declared.step.CostStep.{CostStep}
use Rattle.cost_sweep.proofs.Swept.{went-on}
use Rattle.cost_sweep.proofs.sweep.CostSweep.next_due.Goals as goal

pub go_to-requires-clause-order : goal.go_to-requires-clause-order
go_to-requires-clause-order c =
    let items = c.args.self.now.steps.now in
    let place = c.args.self.now.place in
    λ k d low. (let order : (get_or items k d).due ≤ (get_or items place d).due = c.requires.sorted.order k place d (omega arith) (omega arith) in
    let own : c.due_at-due.result ≡ (get_or items place d).due = c.due_at-due.ensures d in
    omega arith)

pub returns-clause-next : goal.returns-clause-next
returns-clause-next c =
    let place = c.args.self.now.place in
    let same = c.go_to.ensures.steps in
    let within : place < length c.go_to.new.self.steps.now = omega (arith, ap (length {A = CostStep}) same) in
    went-on place c.due_at-due.result c.go_to.new.self c.go_to.ensures.sweep within
    (λ d. c.due_at-due.ensures d ∙ ap (λ (x : List CostStep). (get_or x place d).due) (sym same)) c.go_to.ensures.reached
