use Rattle.std.proofs.Common.{◌≡◌, ◌+◌, ◌*◌, ◌-◌, nat_le, min, sym, ap, ap₂, ◌∙◌}
use Rattle.dual_bounds.specs.declared.constants.TheConstants.{MARGIN_TICKS}
use Rattle.buffer_windows.proofs.Counted.{last-is}
use Rattle.buffer_windows.proofs.audio.last_counted.Goals as goal

pub returns : goal.returns
returns c =
    let product : (c.args.window.now.tail + 1) * c.args.slot ≡ (c.from.result + 1) * c.from-2.result =
    ap₂ (λ n s. (n + 1) * s) (sym c.from.ensures) (sym c.from-2.ensures) in
    let same : min c.args.window.now.due ((c.args.window.now.tail + 1) * c.args.slot + MARGIN_TICKS - 1) ≡ c.min.result =
    ap (λ n. min c.args.window.now.due (n + MARGIN_TICKS - 1)) product ∙ sym c.min.ensures in
    λ due. last-is c.args.slot c.args.window.now.tail c.args.window.now.due due c.requires ∙ ap (nat_le due) same
