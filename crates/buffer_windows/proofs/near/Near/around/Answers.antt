use Rattle.std.proofs.Common.{◌≡◌, ◌≤◌, List, [], ◌∷◌, ◌++◌, All, length, get_or, sym, subst, ap, ◌∙◌, arith}
use Rattle.std.proofs.lemmas.List.{length-append}
use Rattle.std.proofs.lemmas.List.Elements.{All-push}
use Rattle.dual_bounds.specs.declared.constants.TheConstants.{LAMBDA_MOST}
use Rattle.arrayvec.specs.ArrayVec.{ArrayVec}
use Rattle.buffer_windows.specs.declared.windows.BufferWindow.{BufferWindow}
use Rattle.buffer_windows.proofs.NearWindows.{alike_more, alike_without}
use Rattle.buffer_windows.proofs.NoWindow.{no_window}
use Rattle.buffer_windows.proofs.near.Near.around.Goals as goal
use Rattle.buffer_windows.proofs.near.Near.around.Goals.{then-touches+in-Ok, else-touches}

pub loop-window-preserved : goal.loop-window-preserved
loop-window-preserved c =
    let windows = c.args.windows.now in
    let i = c.loop-window.window-index in
    let old = c.loop-window.near.items in
    let within = c.loop-window-test.true in
    elim c.if-touches.branch [
      | then-touches+in-Ok w ↦
          (let items : c.if-touches.near.items ≡ c.loop-window.near.items ++ get_or c.args.windows.now c.loop-window.window-index no_window ∷ [] =
          ap (λ (v : ArrayVec BufferWindow). v.items) w.near-is ∙ w.in-Ok.ensures.ok in
          record {
            few = omega (arith, ap (λ (xs : List BufferWindow). length xs) items, length-append old (get_or windows i no_window ∷ []), c.loop-window.invariant.few);
            lambdas = subst (λ (xs : List BufferWindow). All (λ (window : BufferWindow). window.lambda ≤ LAMBDA_MOST) xs) (sym items)
                (All-push (λ (window : BufferWindow). window.lambda ≤ LAMBDA_MOST) old (get_or windows i no_window) c.loop-window.invariant.lambdas (c.requires.lambdas i no_window within));
            alike = λ program due bytes low high.
                rw items (alike_more c.args.slot old windows program due bytes i no_window within (c.loop-window.invariant.alike program due bytes low high));
          })
      | else-touches w ↦
          (let same : c.if-touches.near.items ≡ c.loop-window.near.items = ap (λ (v : ArrayVec BufferWindow). v.items) w.near-is in
          let nothing = c.touches.ensures w.if-touches.false in
          record {
            few = omega (arith, ap (λ (xs : List BufferWindow). length xs) same, c.loop-window.invariant.few);
            lambdas = rw same c.loop-window.invariant.lambdas;
            alike = λ program due bytes low high.
                rw same (alike_without c.args.slot old windows program due bytes i no_window within (nothing program due bytes low high)
                (c.loop-window.invariant.alike program due bytes low high));
          })
    ]
