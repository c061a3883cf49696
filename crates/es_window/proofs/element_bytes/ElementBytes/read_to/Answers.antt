use Rattle.std.proofs.Common.{◌<◌, ℕ, subst₂, arith}
use Rattle.es_window.specs.declared.held_part.HeldPart.{HeldPart}
use Rattle.es_window.specs.ElementBytes.{EndsBefore}
use Rattle.es_window.specs.EsWindow.{window_end}
use Rattle.es_window.proofs.ElementReading.{ends_before}
use Rattle.es_window.proofs.element_bytes.ElementBytes.read_to.Goals as goal

pub returns-then-self-clause-short : goal.returns-then-self-clause-short
returns-then-self-clause-short g c is left most has =
    let inv = c.loop-to.invariant in
    let after = g.S.Source.left c.loop-to.source in
    let most_after = g.S.Source.most c.loop-to.source in
    let less : window_end c.loop-to.self.window < c.args.to = omega (arith, c.if-to-end.false, c.end.ensures) in
    subst₂ (λ (part : HeldPart) (id : ℕ). EndsBefore left after most most_after part id c.args.to) inv.part inv.id
    (ends_before left after most most_after c.loop-to.self c.args.to c.if-self.true (inv.read left most has) less)
