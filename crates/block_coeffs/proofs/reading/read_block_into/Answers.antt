use Rattle.std.proofs.lemmas.Result.{err_from_is_err_and}
use Rattle.bit_cursor.specs.BitReader.{bits_left, place}
use Rattle.picture_grammar.proofs.PictureLaws.{exact-block}
use Rattle.grammar_reading.proofs.BitsRead.{refused-comes}
use Rattle.block_coeffs.specs.BlockFault.{refusal_told}
use Rattle.block_coeffs.proofs.Blocks.{explains-dc, block-ok, block-refused, block-advances, block-exact}
use Rattle.block_coeffs.proofs.reading.read_block_into.Goals as goal

pub returns-in_err-into-clause-refused : goal.returns-in_err-into-clause-refused
returns-in_err-into-clause-refused g c =
    let p = err_from_is_err_and c.from_residual.result c.from_residual.ensures.1 in
    rw (p.1, p.2) (explains-dc c.args.way (refusal_told c.in_err-into.field-0.0) (bits_left c.args.from.now) (place c.args.from.now) c.in_err-into.ensures.refused)

pub returns-in_err-into-clause-exact : goal.returns-in_err-into-clause-exact
returns-in_err-into-clause-exact g c = λ b rest comes.
    let p = err_from_is_err_and c.from_residual.result c.from_residual.ensures.1 in
    rw (p.1, p.2) (refused-comes (exact-block c.args.way) b (bits_left c.args.from.now) (place c.args.from.now) (refusal_told c.in_err-into.field-0.0) rest
    (explains-dc c.args.way (refusal_told c.in_err-into.field-0.0) (bits_left c.args.from.now) (place c.args.from.now) c.in_err-into.ensures.refused) comes)

pub returns-clause-ok : goal.returns-clause-ok
returns-clause-ok g c =
    block-ok c.args.way c.in_ok-into.field-0 c.read_pairs.new.into.items (bits_left c.args.from.now) (bits_left c.read_first.new.from) (bits_left c.read_pairs.new.from)
    (place c.args.from.now) (place c.read_first.new.from) (place c.read_pairs.new.from) c.in_ok-into.ensures.ok c.read_pairs.result c.read_pairs.ensures.ok

pub returns-clause-refused : goal.returns-clause-refused
returns-clause-refused g c =
    block-refused c.args.way c.in_ok-into.field-0 c.read_pairs.new.into.items (bits_left c.args.from.now) (bits_left c.read_first.new.from) (bits_left c.read_pairs.new.from)
    (place c.args.from.now) (place c.read_first.new.from) (place c.read_pairs.new.from) c.in_ok-into.ensures.ok c.read_pairs.result c.read_pairs.ensures.refused

pub returns-clause-advances : goal.returns-clause-advances
returns-clause-advances g c =
    block-advances c.args.way c.in_ok-into.field-0 c.read_pairs.new.into.items (bits_left c.args.from.now) (bits_left c.read_first.new.from) (bits_left c.read_pairs.new.from)
    (place c.args.from.now) (place c.read_first.new.from) (place c.read_pairs.new.from) c.in_ok-into.ensures.ok c.read_pairs.result c.read_pairs.ensures.ok c.read_pairs.ensures.advances

pub returns-clause-exact : goal.returns-clause-exact
returns-clause-exact g c = λ b rest comes.
    block-exact c.args.way (record { dc = c.in_ok-into.field-0; pairs = c.read_pairs.new.into }) b (bits_left c.args.from.now)
    (bits_left c.read_pairs.new.from) (place c.args.from.now) (place c.read_pairs.new.from) rest
    c.read_pairs.result (returns-clause-ok g c) (returns-clause-refused g c) comes
