use Rattle.version_table.proofs.Drafts.{finished_lines}
use Rattle.version_table.proofs.draft.Draft.finish.Goals as goal

pub returns : goal.returns
returns c = finished_lines c.args.self c.close_program.new.self c.args.stage c.requires.whole c.requires.draft c.in_ok-close_program.ensures
