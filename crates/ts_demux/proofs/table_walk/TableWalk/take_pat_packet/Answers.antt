use Rattle.std.proofs.Common.{◌*◌, sym, ap, ◌∙◌, subst}
use Rattle.ts_packets.specs.TransportStream.{pid_pieces}
use Rattle.ts_demux.specs.Faults.{of_pid}
use Rattle.ts_demux.specs.Tables.{pat_pid, refuse, StopsFirst}
use Rattle.ts_demux.proofs.WalkSteps.{pat_begins, pat_refuses_packet}
use Rattle.ts_demux.proofs.table_walk.TableWalk.take_pat_packet.Goals as goal

pub take-requires : goal.take-requires
take-requires c = c.requires.stands.between.pat.waiting_is

pub returns-in-Ok-clause-ends : goal.returns-in-Ok-clause-ends
returns-in-Ok-clause-ends c file within bytes_are between =
    c.read_sections.ensures.ends file
    (pat_begins file c.args.n c.args.self.now c.args.bytes.now c.take.new.self within bytes_are c.requires.sync (c.requires.of_pid file bytes_are) between
    (c.in-Ok.ensures (pid_pieces file pat_pid 0 c.args.n) (188 * c.args.n) between.pat))

pub returns-in-Err-clause-ends : goal.returns-in-Err-clause-ends
returns-in-Err-clause-ends c file within bytes_are between =
    subst (λ fault. StopsFirst file c.args.self.now.program (refuse fault)) (sym (c.pid_refused.ensures ∙ ap (λ at. of_pid at c.in-Err.fault) c.place_of.ensures))
    (pat_refuses_packet file c.args.n c.args.self.now c.args.bytes.now c.in-Err.fault within bytes_are (c.requires.of_pid file bytes_are)
    between (c.in-Err.ensures (pid_pieces file pat_pid 0 c.args.n) (188 * c.args.n) between.pat))

pub returns-in-Ok-clause-known : goal.returns-in-Ok-clause-known
returns-in-Ok-clause-known c file within bytes_are between =
    c.read_sections.ensures.known file
    (pat_begins file c.args.n c.args.self.now c.args.bytes.now c.take.new.self within bytes_are c.requires.sync (c.requires.of_pid file bytes_are) between
    (c.in-Ok.ensures (pid_pieces file pat_pid 0 c.args.n) (188 * c.args.n) between.pat))
