use Rattle.std.proofs.Common.{refl, sym, ap, ◌∙◌, subst}
use Rattle.ts_demux.specs.Faults.{of_pid}
use Rattle.ts_demux.specs.Tables.{refuse, StopsFirst}
use Rattle.ts_demux.proofs.WalkSteps.{map_pulled, map_begins, map_refuses_packet}
use Rattle.ts_demux.proofs.table_walk.TableWalk.take_map_packet.Goals as goal

pub take-requires : goal.take-requires
take-requires c = map_pulled c.requires.stands.file c.args.n c.args.self.now.known c.args.self.now.map (c.requires.of_pid c.requires.stands.file c.requires.stands.bytes_are) c.requires.stands.between.map

pub returns-in-Ok-clause-ends : goal.returns-in-Ok-clause-ends
returns-in-Ok-clause-ends c file within bytes_are between =
    c.read_sections.ensures.ends file
    (map_begins file c.args.n c.args.self.now c.args.self.now.known c.args.bytes.now c.take.new.self refl within bytes_are
    c.requires.sync (c.requires.of_pid file bytes_are) between c.in-Ok.ensures)

pub returns-in-Err-clause-ends : goal.returns-in-Err-clause-ends
returns-in-Err-clause-ends c file within bytes_are between =
    subst (λ fault. StopsFirst file c.args.self.now.program (refuse fault)) (sym (c.pid_refused.ensures ∙ ap (λ at. of_pid at c.in-Err.fault) c.place_of.ensures))
    (map_refuses_packet file c.args.n c.args.self.now c.args.self.now.known c.args.bytes.now c.in-Err.fault c.take.new.self refl
    within bytes_are (c.requires.of_pid file bytes_are) between c.in-Err.ensures)

pub returns-in-Ok-clause-known : goal.returns-in-Ok-clause-known
returns-in-Ok-clause-known c file within bytes_are between =
    c.read_sections.ensures.known file
    (map_begins file c.args.n c.args.self.now c.args.self.now.known c.args.bytes.now c.take.new.self refl within bytes_are
    c.requires.sync (c.requires.of_pid file bytes_are) between c.in-Ok.ensures)
