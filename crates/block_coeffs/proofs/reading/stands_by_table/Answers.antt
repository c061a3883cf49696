use Rattle.std.proofs.Common.{◌≤◌, IfSome, subst, sym, arith}
use Rattle.bit_cursor.specs.BitReader.{bits_left, bits_held}
use Rattle.grammar_reading.specs.Window.{ShowsFront}
use Rattle.block_coeffs.proofs.Steps.{held-shown}
use Rattle.block_coeffs.proofs.ShortCodes.{shown-next}
use Rattle.block_coeffs.proofs.reading.stands_by_table.Goals as goal

pub returns-then-branch-clause-found : goal.returns-then-branch-clause-found
returns-then-branch-clause-found g c =
    let here = c.hold_ahead.new.self in
    let window = c.whole_window.result in
    let enough : 24 ≤ bits_held here = c.in_ok-hold_ahead.ensures.enough.0 c.if-branch.true in
    let within : window.known ≤ bits_held here = omega (arith, enough, c.whole_window.ensures.whole) in
    shown-next c.args.table c.args.index (bits_left here) (bits_held here) window c.what_stands_whole.result within c.whole_window.ensures.shows c.what_stands_whole.ensures

pub returns-clause-found : goal.returns-clause-found
returns-clause-found g c =
    let here = c.hold_ahead.new.self in
    let window = c.held_window.result in
    let shows : IfSome (bits_left c.args.from.now) (ShowsFront window) = held-shown (bits_left c.args.from.now) (bits_left here)
    here.held window c.in_ok-hold_ahead.ensures.left c.in_ok-hold_ahead.ensures.few c.held_window.ensures.shows in
    let shown : IfSome (bits_left here) (ShowsFront window) = subst (λ told. IfSome told (ShowsFront window)) (sym c.in_ok-hold_ahead.ensures.left) shows in
    shown-next c.args.table c.args.index (bits_left here) (bits_held here) window c.what_stands.result c.held_window.ensures.held shown c.what_stands.ensures
