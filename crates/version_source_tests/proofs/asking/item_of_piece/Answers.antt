use Rattle.version_source_tests.proofs.Pieces.{moved}
use Rattle.version_source_tests.proofs.asking.item_of_piece.Goals as goal

pub returns-then-has_piece : goal.returns-then-has_piece
returns-then-has_piece c =
    moved c.as_slice.result.now c.args.kept.now.programs c.as_slice-2.result.now c.args.kept.now.versions c.as_slice-3.result.now c.args.kept.now.choice.items c.args.ask.stream c.args.ask.item
    c.args.ask.piece c.as_slice.ensures c.as_slice-2.ensures c.as_slice-3.ensures.value (c.in_ok-item.ensures c.args.ask.piece (c.has_piece.ensures c.if-has_piece.true))
