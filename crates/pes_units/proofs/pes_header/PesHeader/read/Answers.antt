use Rattle.std.proofs.Common.{◌≡◌, arith}
use Rattle.std.specs.Result.{result_err}
use Rattle.std.proofs.lemmas.Grind.{common_steps}
use Rattle.pes_units.specs.PesHeader.{pes_refusal}
use Rattle.pes_units.proofs.Elements.{elements}
use Rattle.pes_units.proofs.Refusals.{read-header}
use Rattle.pes_units.proofs.pes_header.PesHeader.read.Goals as goal

pub returns-clause-header : goal.returns-clause-header
returns-clause-header c =
    let fault : result_err c.read_whole.result ≡ pes_refusal c.args.video c.args.bytes.now = grind (arith, common_steps, elements) in
    read-header c.args.video c.args.bytes.now c.read_whole.result fault c.read_whole.ensures.header
