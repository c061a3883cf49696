use Rattle.std.proofs.Common.{◌≡◌, [], map, refl, sym, ap, subst, ◌∙◌, IfOk, IfErr}
use Rattle.dual_bounds.specs.Values.{from_start}
use Rattle.bound_certificate.specs.declared.cert.Node.TheVariants.{Dual, Window, BufferWindow}
use Rattle.certificate_checker.specs.Shown.{windows_in}
use Rattle.certificate_checker.specs.Faults.{IsFirstOfNode}
use Rattle.certificate_checker.specs.Private.Paths.{IsTaken}
use Rattle.certificate_checker.proofs.Steps.{IsByWindows, buffer_windows_taken, dual_by, open_by, window_by, windows_taken}
use Rattle.certificate_checker.proofs.walk.take_node.Goals as goal

pub returns-in-Dual-clause-next : goal.returns-in-Dual-clause-next
returns-in-Dual-clause-next c =
    let table = c.args.table.now in
    let old = c.args.path.now in
    let windows = c.as_slice-in-Dual.result.now in
    let same : windows ≡ windows_in (Dual c.in-Dual.with) = c.as_slice-in-Dual.ensures.value ∙ c.windows_of.ensures ∙ ap (map from_start) c.as_slice.ensures.value in
    let by = subst (λ n. IsByWindows table old.fixed.items windows n) (sym c.in-Dual.is) (dual_by table old.fixed.items windows c.in-Dual.with same) in
    windows_taken table old c.take_windows.new.path c.args.node.now windows c.take_windows.result by c.take_windows.ensures.right c.take_windows.ensures.closed

pub returns-in-BufferWindow-clause-next : goal.returns-in-BufferWindow-clause-next
returns-in-BufferWindow-clause-next c =
    let table = c.args.table.now in
    let old = c.args.path.now in
    let windows = c.as_slice-in-BufferWindow.result.now in
    let same : BufferWindow windows ≡ c.args.node.now = ap BufferWindow c.as_slice-in-BufferWindow.ensures.value ∙ sym c.in-BufferWindow.is in
    subst (λ n. IfOk c.take_buffer_windows.result (IsTaken table old c.take_buffer_windows.new.path n)) same
    (buffer_windows_taken table old c.take_buffer_windows.new.path windows c.take_buffer_windows.result c.take_buffer_windows.ensures.right c.take_buffer_windows.ensures.closed)

pub returns-in-BufferWindow-clause-wrong : goal.returns-in-BufferWindow-clause-wrong
returns-in-BufferWindow-clause-wrong c =
    let table = c.args.table.now in
    let old = c.args.path.now in
    let same : BufferWindow c.as_slice-in-BufferWindow.result.now ≡ c.args.node.now = ap BufferWindow c.as_slice-in-BufferWindow.ensures.value ∙ sym c.in-BufferWindow.is in
    subst (λ n. IfErr c.take_buffer_windows.result (IsFirstOfNode table old.fixed.items n)) same c.take_buffer_windows.ensures.wrong

pub returns-in-Open-clause-next : goal.returns-in-Open-clause-next
returns-in-Open-clause-next c =
    let table = c.args.table.now in
    let old = c.args.path.now in
    let by = subst (λ n. IsByWindows table old.fixed.items [] n) (sym c.in-Open.is) (open_by table old.fixed.items) in
    windows_taken table old c.take_windows-in-Open.new.path c.args.node.now [] c.take_windows-in-Open.result by c.take_windows-in-Open.ensures.right c.take_windows-in-Open.ensures.closed

pub returns-in-Window-clause-next : goal.returns-in-Window-clause-next
returns-in-Window-clause-next c =
    let table = c.args.table.now in
    let old = c.args.path.now in
    let windows = c.as_slice-in-Window.result.now in
    let same : windows ≡ windows_in (Window c.in-Window.with) = c.as_slice-in-Window.ensures.value in
    let by = subst (λ n. IsByWindows table old.fixed.items windows n) (sym c.in-Window.is) (window_by table old.fixed.items windows c.in-Window.with same) in
    windows_taken table old c.take_windows-in-Window.new.path c.args.node.now windows c.take_windows-in-Window.result by c.take_windows-in-Window.ensures.right c.take_windows-in-Window.ensures.closed
