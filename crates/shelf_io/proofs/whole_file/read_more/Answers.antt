use Rattle.std.proofs.Common.{◌≡◌, ◌<◌, arith, length, take}
use Rattle.std.proofs.lemmas.Grind.{common_steps}
use Rattle.shelf_io.proofs.Whole.{adds_next, IfTold_then}
use Rattle.shelf_io.proofs.whole_file.read_more.Goals as goal

pub returns-clause-told : goal.returns-clause-told
returns-clause-told g c =
    let at : c.len-2.result ≡ length c.args.bytes.now.items = grind (arith, common_steps) in
    let room : 0 < length (take c.min-asked.result c.args.room.now) = grind (arith, common_steps) in
    IfTold_then (g.K.Shelf.files c.args.shelf.now) c.args.name.now c.in_ok-count.ensures.held (λ content.
    adds_next content c.args.bytes.now.items c.extend_from_slice.new.self.items
    (take c.min-asked.result c.args.room.now) c.read.new.buf c.len-2.result c.in_ok-count.count at room c.in_ok-extend_from_slice.ensures.items)
