use Rattle.std.proofs.Common.{◌≡◌, ◌<◌, length, ap, arith, rules}
use Rattle.bound_certificate.proofs.Parts.{short_block}
use Rattle.bound_certificate.proofs.cursor.Cursor.block.Goals as goal

pub returns-then-self-count-clause-stop : goal.returns-then-self-count-clause-stop
returns-then-self-count-clause-stop c = λ are.
    let view : c.args.self.now ≡ c.self.inside.rest.now = search rules in
    let short : length c.args.self.now < c.args.count = omega (arith, ap length view, c.if-self-count.true) in
    short_block c.args.count c.args.self.now short are
