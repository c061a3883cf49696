use Rattle.std.proofs.Common.{◌≡◌, ◌<◌, List, length, get_or, sym, ap, subst, ◌∙◌}
use Rattle.std.specs.List.{insert}
use Rattle.dual_bounds.specs.declared.windows.Window.{Window}
use Rattle.multiplier_search.specs.Private.Turns.{IsPlace}
use Rattle.multiplier_search.specs.Windows.{AreSearched, Precedes}
use Rattle.multiplier_search.proofs.Steps.{insert-searched}
use Rattle.multiplier_search.proofs.relaxed.greedy.with_window.Goals as goal

pub returns : goal.returns
returns c =
    let windows = c.args.windows.items in
    let window = c.args.window in
    let place = c.place_of-place.result in
    let is : c.inserted.result.items ≡ insert windows place window = c.inserted.ensures ∙ ap (λ (x : List Window). insert x place window) c.as_slice-3.ensures.value in
    let at : IsPlace windows window place = subst (λ (x : List Window). IsPlace x window place) c.as_slice.ensures.value c.place_of-place.ensures in
    let free : (d : Window) → place < length windows → Precedes window (get_or windows place d) =
    subst (λ (x : List Window). (d : Window) → place < length x → Precedes window (get_or x place d)) c.as_slice-2.ensures.value (c.is_taken-taken.ensures c.if-taken.false) in
    subst (λ (x : List Window). AreSearched x) (sym is) (insert-searched windows place window c.requires.searched at free c.requires.sound)
