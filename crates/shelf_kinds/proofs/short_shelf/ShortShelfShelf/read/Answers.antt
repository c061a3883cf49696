use Rattle.std.proofs.Common.{◌≡◌, ◌≤◌, length, take, min, ap, sym, arith}
use Rattle.std.proofs.lemmas.List.{length-take-le}
use Rattle.shelf_kinds.specs.ShortShelf.{ShortState}
use Rattle.shelf_kinds.proofs.Short.{held_part}
use Rattle.shelf_kinds.proofs.short_shelf.ShortShelfShelf.read.Goals as goal

pub returns-clause-held : goal.returns-clause-held
returns-clause-held c =
    let most : c.moved-most.result ≡ min (length c.args.buf.now) c.args.self.now.limit = c.moved-most.ensures in
    let limit : c.args.self.now.limit ≡ c.self.inside.limit = ap (λ (shelf : ShortState). shelf.limit) (sym c.self.view_is) in
    let within : c.moved-most.result ≤ length c.args.buf.now = omega (arith, most) in
    let front : length (take c.moved-most.result c.args.buf.now) ≡ c.moved-most.result = length-take-le c.moved-most.result c.args.buf.now within in
    rw (← c.self.view_is) (held_part _ c.args.at c.args.buf.now c.read.new.buf c.in_ok-count.count c.moved-most.result (omega (arith, front, c.in_ok-count.ensures.count))
    within (λ room. omega (arith, most, room, limit, c.self.invariant)) c.in_ok-count.ensures.held)
