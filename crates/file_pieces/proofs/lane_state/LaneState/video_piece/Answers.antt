use Rattle.std.proofs.Common.{◌≡◌, ◌<◌, ℕ, List, Some, ap, subst, sym, ◌∙◌}
use Rattle.pes_units.specs.PesPieces.{packets_for}
use Rattle.file_pieces.proofs.Kept.{piece_sent}
use Rattle.file_pieces.proofs.lane_state.LaneState.video_piece.Goals as goal

pub packet_piece-requires : goal.packet_piece-requires
packet_piece-requires g c =
    let packet : List ℕ = c.as_slice.result.now in
    let some : c.hold.new.self.packet ≡ Some packet = c.in-Some.is ∙ ap (λ (xs : List ℕ). Some xs) (sym c.as_slice.ensures) in
    let is = c.in-Ok.ensures.kept.packet_is packet c.args.number some c.in-Ok.ensures.held in
    subst (λ (n : ℕ). c.args.piece < packets_for n) (sym is.size_is) c.requires.piece

pub returns-clause-piece : goal.returns-clause-piece
returns-clause-piece g c =
    let packet : List ℕ = c.as_slice.result.now in
    let some : c.hold.new.self.packet ≡ Some packet = c.in-Some.is ∙ ap (λ (xs : List ℕ). Some xs) (sym c.as_slice.ensures) in
    let is = c.in-Ok.ensures.kept.packet_is packet c.args.number some c.in-Ok.ensures.held in
    piece_sent (g.K.Shelf.files c.args.shelf.now) c.args.lane.now c.args.number c.args.piece packet c.packet_piece.result c.packet_piece.new.into is c.requires.piece c.packet_piece.ensures.piece
