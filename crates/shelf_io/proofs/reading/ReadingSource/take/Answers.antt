use Rattle.std.proofs.Common.{◌≡◌, ◌≤◌, ◌∙◌, ◌+◌, refl, arith, ap, length, min}
use Rattle.std.proofs.lemmas.Grind.{common_steps}
use Rattle.shelf_io.specs.Reading.{most_from, left_from}
use Rattle.shelf_io.proofs.OneFile.{reading_fills, left_later}
use Rattle.shelf_io.proofs.reading.ReadingSource.take.Goals as goal

pub returns-clause-told : goal.returns-clause-told
returns-clause-told g c =
    let size : c.min-size.result ≡ min (length c.args.buf.now) (most_from c.args.self.now.place) = omega (arith, c.min-size.ensures, c.saturating_sub-most.ensures) in
    let few : c.in_ok-count.count ≤ c.min-size.result = grind (arith, common_steps) in
    reading_fills (g.K.Shelf.files c.args.self.now.shelf.now) c.args.self.now.name.now c.args.buf.now c.read.new.buf _ c.args.self.now.place
    c.min-size.result c.in_ok-count.count size few refl c.in_ok-count.ensures.held

pub returns-clause-ok : goal.returns-clause-ok
returns-clause-ok g c =
    let few : c.in_ok-count.count ≤ most_from c.args.self.now.place = grind (arith, common_steps) in
    record {
      rest = ap (λ told. left_from told c.args.self.now.name.now (c.args.self.now.place + c.in_ok-count.count)) c.in_ok-count.ensures.files
          ∙ left_later (g.K.Shelf.files c.args.self.now.shelf.now) c.args.self.now.name.now c.args.self.now.place c.in_ok-count.count few;
      fewer = omega arith;
    }
