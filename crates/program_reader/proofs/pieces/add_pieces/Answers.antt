use Rattle.std.proofs.Common.{◌*◌, ◌<◌, arith}
use Rattle.program_reader.specs.Audio.{packet_size}
use Rattle.program_reader.proofs.PieceLemmas.{piece_times, pieces_more, pieces_all, pieces_left, count_small, count_inside, count_end}
use Rattle.program_reader.proofs.pieces.add_pieces.Goals as goal

pub overflow_mul-k : goal.overflow_mul-k
overflow_mul-k c =
    let small : 184 * c.loop-k.k < 18446744073709551616 = count_small (packet_size c.args.packet.now) c.loop-k.k c.piece_count-k-end.result c.piece_count-k-end.ensures.small
    c.loop-k-test.true c.piece_count-k-end.ensures.value in
    omega (arith, small)

pub piece_at-found-requires-clause-inside : goal.piece_at-found-requires-clause-inside
piece_at-found-requires-clause-inside c = count_inside (packet_size c.args.packet.now) c.loop-k.k c.piece_count-k-end.result c.loop-k-test.true c.piece_count-k-end.ensures.value

pub piece_at-found-requires-clause-times : goal.piece_at-found-requires-clause-times
piece_at-found-requires-clause-times c =
    piece_times c.args.clock.now.earliest c.args.frames.now c.loop-k.left.now c.args.packet.now c.loop-k.k c.loop-k.invariant.tells c.requires.times

pub loop-k-preserved : goal.loop-k-preserved
loop-k-preserved c = pieces_more c.args.clock.now.start c.args.clock.now.earliest c.args.frames.now c.loop-k.left.now c.piece_at-found.result.left.now c.args.packet.now c.args.at c.loop-k.k
    c.args.pieces.now c.loop-k.pieces c.push.new.self c.piece_at-found.result.piece
    (count_inside (packet_size c.args.packet.now) c.loop-k.k c.piece_count-k-end.result c.loop-k-test.true c.piece_count-k-end.ensures.value) c.loop-k.invariant
    c.piece_at-found.ensures.piece c.piece_at-found.ensures.left c.in_ok-push.ensures.ok

pub returns-clause-pieces : goal.returns-clause-pieces
returns-clause-pieces c = pieces_all c.args.clock.now.start c.args.clock.now.earliest c.args.frames.now c.loop-k.left.now c.args.packet.now c.args.at c.loop-k.k c.args.pieces.now c.loop-k.pieces
    (count_end (packet_size c.args.packet.now) c.loop-k.k c.piece_count-k-end.result c.loop-k.auto.k-end c.loop-k-test.false c.piece_count-k-end.ensures.value) c.loop-k.invariant

pub returns-clause-left : goal.returns-clause-left
returns-clause-left c = pieces_left c.args.clock.now.start c.args.clock.now.earliest c.args.frames.now c.loop-k.left.now c.args.packet.now c.args.at c.loop-k.k c.args.pieces.now c.loop-k.pieces
    (count_end (packet_size c.args.packet.now) c.loop-k.k c.piece_count-k-end.result c.loop-k.auto.k-end c.loop-k-test.false c.piece_count-k-end.ensures.value) c.requires.sized.some
    c.loop-k.invariant
