use Rattle.std.proofs.Common.{◌≡◌, ◌<◌, List, length, sym, subst, arith}
use Rattle.version_table.specs.Table.{units_of}
use Rattle.dual_bounds.specs.declared.windows.Multiplier.{Multiplier}
use Rattle.dual_bounds.specs.declared.windows.Window.{Window}
use Rattle.multiplier_search.specs.Single.{dues_of, IsBestSingle}
use Rattle.multiplier_search.specs.Windows.{BeatEachTried}
use Rattle.multiplier_search.proofs.BestWindow.{beat-each, beat-none, first-of}
use Rattle.multiplier_search.proofs.window.best_window.Goals as goal

pub from_start-start-requires-clause-lambda : goal.from_start-start-requires-clause-lambda
from_start-start-requires-clause-lambda c =
    let table = c.args.table.now in
    let fixed = c.args.fixed.now in
    let items = c.as_slice.result.now in
    let d : Multiplier = record { due = 0; lambda = 0 } in
    let single : IsBestSingle table fixed items =
    subst (λ (x : List Multiplier). IsBestSingle table fixed x) (sym c.as_slice.ensures.value) (c.in_ok-single.ensures fixed c.in_ok-steps.ensures.steps) in
    let some : 0 < length items = grind (arith, c.if-len-eq0.false, c.len.ensures.value, c.as_slice.ensures.value) in
    (first-of table fixed items d some single).candidate.lambda

pub returns-then-len-eq0-clause-best : goal.returns-then-len-eq0-clause-best
returns-then-len-eq0-clause-best c =
    let table = c.args.table.now in
    let fixed = c.args.fixed.now in
    let none : length c.in_ok-single.single.items ≡ 0 = omega (arith, c.len.ensures.value, c.if-len-eq0.true) in
    subst (λ (x : List Window). BeatEachTried table fixed (dues_of (units_of table)) x) (sym c.new.ensures)
    (beat-none table fixed c.in_ok-single.single.items none (c.in_ok-single.ensures fixed c.in_ok-steps.ensures.steps))

pub returns-clause-best : goal.returns-clause-best
returns-clause-best c =
    let table = c.args.table.now in
    let fixed = c.args.fixed.now in
    let dues = dues_of (units_of table) in
    let are = c.in_ok-steps.ensures.steps in
    let items = c.as_slice.result.now in
    let single : IsBestSingle table fixed items = subst (λ (x : List Multiplier). IsBestSingle table fixed x) (sym c.as_slice.ensures.value) (c.in_ok-single.ensures fixed are) in
    let some : 0 < length items = grind (arith, c.if-len-eq0.false, c.len.ensures.value, c.as_slice.ensures.value) in
    let late = c.in_ok-late.ensures.best fixed are c.from_start-start.ensures.value in
    let short = c.in_ok-short.ensures.best fixed are late.valued in
    subst (λ (x : List Window). BeatEachTried table fixed dues x) (sym c.only.ensures)
    (beat-each table fixed dues _ c.from_start-start.result c.in_ok-late.late c.in_ok-short.short c.in_ok-long.long (first-of table fixed items _ some single)
    c.from_start-start.ensures.alone late short (c.in_ok-long.ensures.best fixed are short.valued))
