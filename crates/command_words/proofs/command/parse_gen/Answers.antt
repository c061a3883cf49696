use Rattle.std.proofs.Common.{arith}
use Rattle.command_words.proofs.Decimals.{pictures_within}
use Rattle.command_words.proofs.command.parse_gen.Goals as goal
use Rattle.command_words.proofs.command.parse_gen.Goals.{then-pictures-lt1-via-then-pictures-lt1, then-pictures-lt1-via-else-pictures-lt1+then-pictures}

pub returns-then-pictures-lt1 : goal.returns-then-pictures-lt1
returns-then-pictures-lt1 c = λ start number name said.
    let words = c.args in
    let within = pictures_within words.verb.now words.seed.now words.pictures.now words.out.now c.in_ok-pictures.pictures c.in_ok-pictures.ensures start number name said in
    elim c.then-pictures-lt1.branch [
      | then-pictures-lt1-via-then-pictures-lt1 w ↦ omega (arith, within.0, w.if-pictures-lt1.true)
      | then-pictures-lt1-via-else-pictures-lt1+then-pictures w ↦ omega (arith, within.1, w.if-pictures.true)
    ]
