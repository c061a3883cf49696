use Rattle.std.proofs.Common.{length, ap, arith}
use Rattle.std.proofs.lemmas.List.{length-drop}
use Rattle.program_stream.proofs.Starts.{more_behind, still_behind}
use Rattle.program_stream.proofs.passing_elements.PassingElements.pass_zeros.Goals as goal

pub returns-clause-waiting : goal.returns-clause-waiting
returns-clause-waiting c =
    more_behind c.args.self.now.zeros c.zeros_before-zeros.result c.args.self.now.buffer c.rest.result.now c.pass.new.self c.rest.ensures c.zeros_before-zeros.ensures.zeros c.pass.ensures

pub returns-clause-size : goal.returns-clause-size
returns-clause-size c =
    omega (arith, ap length c.pass.ensures, length-drop c.zeros_before-zeros.result c.args.self.now.buffer, c.zeros_before-zeros.ensures.within, ap length c.rest.ensures)

pub returns-clause-behind : goal.returns-clause-behind
returns-clause-behind c =
    still_behind c.args.self.now.zeros c.zeros_before-zeros.result c.args.self.now.buffer c.rest.result.now c.pass.new.self c.rest.ensures c.zeros_before-zeros.ensures.behind c.pass.ensures
    c.requires.two
