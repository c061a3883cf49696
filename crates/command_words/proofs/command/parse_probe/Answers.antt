use Rattle.std.proofs.Common.{arith}
use Rattle.command_words.proofs.Decimals.{number_within}
use Rattle.command_words.proofs.command.parse_probe.Goals as goal
use Rattle.command_words.proofs.command.parse_probe.Goals.{then-program-lt1-via-then-program-lt1, then-program-lt1-via-else-program-lt1+then-program}

pub returns-then-program-lt1 : goal.returns-then-program-lt1
returns-then-program-lt1 c = λ name number made said.
    let words = c.args in
    let within = number_within words.verb.now words.file.now words.program.now words.table.now c.in_ok-program.program c.in_ok-program.ensures name number made said in
    elim c.then-program-lt1.branch [
      | then-program-lt1-via-then-program-lt1 w ↦ omega (arith, within.0, w.if-program-lt1.true)
      | then-program-lt1-via-else-program-lt1+then-program w ↦ omega (arith, within.1, w.if-program.true)
    ]
