use Rattle.std.specs.Option.{option_map}
use Rattle.std.proofs.Common.{◌+◌, drop, IfSome, sym, ap, subst, ◌∙◌, arith}
use Rattle.bit_cursor.specs.BitReader.{bits_left, place}
use Rattle.block_coeffs.specs.Private.DcStanding.{dc_by}
use Rattle.grammar_reading.specs.Window.{ShowsFront}
use Rattle.grammar_reading.specs.BitsRead.{ExplainsFrom}
use Rattle.block_coeffs.specs.BlockFault.{refusal_told}
use Rattle.block_coeffs.proofs.Blocks.{local-dc_by}
use Rattle.block_coeffs.proofs.Steps.{held-shown, reads-found, explains-found}
use Rattle.block_coeffs.proofs.reading.read_dc.Goals as goal

pub returns-in-Coefficient-clause-ok : goal.returns-in-Coefficient-clause-ok
returns-in-Coefficient-clause-ok g c =
    let window = c.held_window.result in
    let shows : IfSome (bits_left c.args.from.now) (ShowsFront window) = held-shown (bits_left c.args.from.now)
    (bits_left c.hold_ahead.new.self) c.hold_ahead.new.self.held window c.in_ok-hold_ahead.ensures.left c.in_ok-hold_ahead.ensures.few c.held_window.ensures.shows in
    reads-found (dc_by c.args.table) (local-dc_by c.args.table) _ (bits_left c.args.from.now) _ window c.in-Coefficient.len _ _ shows
    c.in-Coefficient.ensures.0 c.in-Coefficient.ensures.1 (c.skip.ensures.left ∙ ap (λ told. option_map (drop c.in-Coefficient.len) told) c.in_ok-hold_ahead.ensures.left)
    (c.skip.ensures.place ∙ ap (λ n. n + c.in-Coefficient.len) c.in_ok-hold_ahead.ensures.place)

pub returns-in-Refused-clause-refused : goal.returns-in-Refused-clause-refused
returns-in-Refused-clause-refused g c =
    let window = c.held_window.result in
    let shows : IfSome (bits_left c.args.from.now) (ShowsFront window) = held-shown (bits_left c.args.from.now)
    (bits_left c.hold_ahead.new.self) c.hold_ahead.new.self.held window c.in_ok-hold_ahead.ensures.left c.in_ok-hold_ahead.ensures.few c.held_window.ensures.shows in
    subst (λ fault. IfSome (bits_left c.args.from.now) (λ bits. ExplainsFrom (dc_by c.args.table) (refusal_told fault) bits (place c.args.from.now))) (sym c.at.ensures)
    (explains-found (dc_by c.args.table) c.in-Refused.why (bits_left c.args.from.now) window c.in-Refused.behind (place c.args.from.now) _
    shows c.in-Refused.ensures.0 c.in-Refused.ensures.1 (omega arith))
