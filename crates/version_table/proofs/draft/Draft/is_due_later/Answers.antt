use Rattle.std.proofs.Common.{sym}
use Rattle.version_table.proofs.DraftLines.{rises_some, rises_none, no_audios}
use Rattle.version_table.proofs.draft.Draft.is_due_later.Goals as goal

pub returns-in-Some : goal.returns-in-Some
returns-in-Some c =
    let last = rw c.as_slice.ensures at (sym c.in-Some.ensures.value) in
    sym (rises_some c.args.self.now c.in-Some.unit.now c.args.due (no_audios c.args.self.now c.requires) last)

pub returns-in-None : goal.returns-in-None
returns-in-None c =
    let last = rw c.as_slice.ensures at (sym c.in-None.ensures.value) in
    sym (rises_none c.args.self.now c.args.due (no_audios c.args.self.now c.requires) last)
