use Rattle.version_table.specs.Lines.{lines_of_program, text_of_line}
use Rattle.version_table.proofs.Pushed.{lists_more}
use Rattle.version_table.proofs.write.push_programs.Goals as goal

pub loop-program-preserved : goal.loop-program-preserved
loop-program-preserved c =
    lists_more text_of_line lines_of_program _ c.loop-program.program-index c.program-item.result _ c.args.out.now.items c.loop-program.out.items _ c.loop-program-test.true c.program-item.is c.loop-program.invariant c.in_ok-push_program.ensures
