use Rattle.std.proofs.Common.{◌≡◌, ◌+◌, ◌-◌, ◌≤◌, ◌∙◌, ap, arith, length, min}
use Rattle.std.proofs.lemmas.Grind.{common_steps}
use Rattle.file_pass.specs.FilePass.{left_to}
use Rattle.file_pass.proofs.Front.{left_behind, reads_front}
use Rattle.file_pass.proofs.file_pass.FilePassSource.take.Goals as goal

pub returns-in-Ok-clause-told : goal.returns-in-Ok-clause-told
returns-in-Ok-clause-told g c =
    let size : c.min-size.result ≡ min (length c.args.buf.now) (c.args.self.now.limit - c.args.self.now.place) = omega (arith, c.min-size.ensures) in
    let few : c.in-Ok.count ≤ c.min-size.result = grind (arith, common_steps) in
    reads_front (g.K.Shelf.files c.args.self.now.shelf.now) c.args.self.now.name.now c.args.buf.now c.read.new.buf c.args.self.now.limit c.args.self.now.place
    c.min-size.result c.in-Ok.count size few c.in-Ok.ensures.held

pub returns-in-Ok-clause-ok : goal.returns-in-Ok-clause-ok
returns-in-Ok-clause-ok g c =
    let few : c.in-Ok.count ≤ c.args.self.now.limit - c.args.self.now.place = grind (arith, common_steps) in
    record {
      rest = ap (λ told. left_to told c.args.self.now.name.now c.args.self.now.limit (c.args.self.now.place + c.in-Ok.count)) c.in-Ok.ensures.files
          ∙ left_behind (g.K.Shelf.files c.args.self.now.shelf.now) c.args.self.now.name.now c.args.self.now.limit c.args.self.now.place c.in-Ok.count few;
      fewer = omega arith;
    }
