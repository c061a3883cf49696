use Rattle.std.proofs.Common.{◌≡◌, None, refl, rules}
use Rattle.file_pieces.proofs.Told.{answer_told, grow_stops, rose_stops, told_same}
use Rattle.file_pieces.proofs.lent_pieces.LentPiecesPieceSource.piece.Goals as goal

pub returns-then-is_some-clause-same : goal.returns-then-is_some-clause-same
returns-then-is_some-clause-same g c =
    told_same (g.K.Shelf.files c.args.self.now.shelf.now) (g.K.Shelf.files c.args.self.now.shelf.now) c.args.self.now.lanes.now c.args.self.now.made _ refl

pub returns-clause-told : goal.returns-clause-told
returns-clause-told g c =
    answer_told (g.K.Shelf.files c.args.self.now.shelf.now) c.args.self.now.lanes.now c.args.self.now.made c.args.stream c.args.item c.args.piece c.piece.new.into c.piece.result c.piece.ensures.piece

pub returns-clause-same : goal.returns-clause-same
returns-clause-same g c =
    told_same (g.K.Shelf.files c.args.self.now.shelf.now) (g.K.Shelf.files c.piece.new.shelf) c.args.self.now.lanes.now c.args.self.now.made _ c.piece.ensures.shelf.same_files

pub returns-clause-causes : goal.returns-clause-causes
returns-clause-causes g c =
    let going : c.args.self.now.pieces.now.stop ≡ None = search rules in
    record {
      failed_rose = λ failed. rose_stops c.args.self.now.pieces.now.stop c.piece.new.self.stop going (c.piece.ensures.failed failed);
      never_missing = c.piece.ensures.missing;
      faults_grow = grow_stops c.args.self.now.pieces.now.stop c.piece.new.self.stop going;
    }
