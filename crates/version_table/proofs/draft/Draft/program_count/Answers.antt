use Rattle.std.proofs.Common.{sym, ◌∙◌}
use Rattle.version_table.proofs.DraftLines.{program_count_programs, program_count_open}
use Rattle.version_table.proofs.draft.Draft.program_count.Goals as goal

pub returns-in-Programs : goal.returns-in-Programs
returns-in-Programs c =
    let at = c.in-Programs.is in
    rw at (c.len.ensures ∙ sym (program_count_programs c.args.self.now))

pub returns-in_default : goal.returns-in_default
returns-in_default c =
    rw c.as_slice.ensures (sym (program_count_open c.args.stage c.args.self.now c.requires.stands c.in_default.not-Programs))
