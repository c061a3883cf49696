use Rattle.std.proofs.Common.{rules}
use Rattle.shelf_kinds.proofs.Held.{appended_ok, appended_err, appended_absent}
use Rattle.shelf_kinds.proofs.file_table.FileTable.append.Goals as goal

pub returns-in-Some-clause-ok : goal.returns-in-Some-clause-ok
returns-in-Some-clause-ok c = appended_ok c.args.name.now c.args.piece.now c.self.inside.held
    (c.get_mut.follows.lender c.extend_from_slice.new.self) c.in-Some.content.now c.extend_from_slice.new.self c.args.self.now
    c.extend_from_slice.result
    ((c.get_mut.follows.holds c.extend_from_slice.new.self).3 (search rules)) c.in-Some.ensures.value c.extend_from_slice.ensures.items c.self.view_is

pub returns-in-Some-clause-err : goal.returns-in-Some-clause-err
returns-in-Some-clause-err c = appended_err c.args.name.now c.args.piece.now c.self.inside.held
    (c.get_mut.follows.lender c.extend_from_slice.new.self) c.in-Some.content.now c.extend_from_slice.new.self c.args.self.now
    c.extend_from_slice.result
    ((c.get_mut.follows.holds c.extend_from_slice.new.self).3 (search rules)) c.in-Some.ensures.value c.extend_from_slice.ensures.items c.self.view_is

pub returns-in_ok-from_slice-in-None-clause-ok : goal.returns-in_ok-from_slice-in-None-clause-ok
returns-in_ok-from_slice-in-None-clause-ok c = appended_absent c.args.name.now c.args.piece.now c.self.inside.held c.args.self.now _ _ _ c.set.result
    c.in-None.ensures.value c.self.view_is (search rules) c.in_ok-from_slice-in-None.ensures.items c.set.ensures.ok
