use Rattle.std.proofs.Common.{◌≡◌, List, ℕ, Some, ap, sym, ◌∙◌}
use Rattle.version_source.proofs.Items.{held, held-piece, held-told}
use Rattle.version_source.proofs.sent_video.SentVideo.piece.Goals as goal

pub packet_piece-requires : goal.packet_piece-requires
packet_piece-requires c =
    let video = c.args.video.now in
    let packet : List ℕ = c.as_slice.result.now in
    let some : c.hold.new.self.packet ≡ Some packet = c.in-Some.is ∙ ap (λ (xs : List ℕ). Some xs) (sym c.as_slice.ensures) in
    let is = held video.es.now video.coarser.now video.units.now video.choice.now c.args.number c.hold.new.self packet c.in_ok-hold.ensures.kept c.in_ok-hold.ensures.held some c.requires.number in
    held-piece video.es.now video.coarser.now video.units.now video.choice.now c.args.number c.hold.new.self.before packet c.args.k is c.requires.number c.requires.video.enough c.requires.made
    c.requires.piece

pub returns-clause-piece : goal.returns-clause-piece
returns-clause-piece c =
    let video = c.args.video.now in
    let packet : List ℕ = c.as_slice.result.now in
    let some : c.hold.new.self.packet ≡ Some packet = c.in-Some.is ∙ ap (λ (xs : List ℕ). Some xs) (sym c.as_slice.ensures) in
    let is = held video.es.now video.coarser.now video.units.now video.choice.now c.args.number c.hold.new.self packet c.in_ok-hold.ensures.kept c.in_ok-hold.ensures.held some c.requires.number in
    let few = held-piece video.es.now video.coarser.now video.units.now video.choice.now c.args.number c.hold.new.self.before packet c.args.k is c.requires.number c.requires.video.enough
    c.requires.made c.requires.piece in
    held-told video.es.now video.coarser.now video.units.now video.choice.now c.args.number c.hold.new.self.before packet c.args.k c.packet_piece.result c.packet_piece.new.into is
    c.requires.number c.requires.video.enough few c.packet_piece.ensures.piece
