use Rattle.std.proofs.lemmas.Bool.{iff_false}
use Rattle.grammar_reading.proofs.Cuts.{none-full, none-cut, none-past, none-begun}
use Rattle.grammar_reading.proofs.symbol.why_none.Goals as goal

pub returns-then-window-eq-WINDOW_BITS : goal.returns-then-window-eq-WINDOW_BITS
returns-then-window-eq-WINDOW_BITS c = none-full c.args.table c.args.most c.args.window c.requires c.if-window-eq-WINDOW_BITS.true

pub returns-then-begins_up_to : goal.returns-then-begins_up_to
returns-then-begins_up_to c =
    none-cut c.args.table c.args.most c.args.window c.requires c.if-window-eq-WINDOW_BITS.false (c.begins_up_to.ensures.0 c.if-begins_up_to.true)

pub returns-then-begins_up_to-2 : goal.returns-then-begins_up_to-2
returns-then-begins_up_to-2 c =
    none-past c.args.table c.args.most c.args.window c.requires c.if-window-eq-WINDOW_BITS.false (iff_false c.begins_up_to.ensures c.if-begins_up_to.false)
    (c.begins_up_to-else-begins_up_to.ensures.0 c.if-begins_up_to-2.true)

pub returns-else-begins_up_to-2 : goal.returns-else-begins_up_to-2
returns-else-begins_up_to-2 c =
    none-begun c.args.table c.args.most c.args.window c.requires c.if-window-eq-WINDOW_BITS.false
    (iff_false c.begins_up_to-else-begins_up_to.ensures c.if-begins_up_to-2.false)
