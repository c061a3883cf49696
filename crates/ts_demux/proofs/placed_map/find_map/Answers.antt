use Rattle.std.proofs.Common.{ℕ, ◌∙◌, subst, sym, refl}
use Rattle.ts_demux.specs.TableWalk.{missing_of}
use Rattle.ts_demux.specs.Tables.{IsTablesFault}
use Rattle.ts_demux.proofs.WalkSteps.{ends_missing}
use Rattle.ts_demux.proofs.KnownPid.{knows_map, pid_nowhere}
use Rattle.ts_demux.proofs.placed_map.find_map.Goals as goal

pub loop-bytes-init : goal.loop-bytes-init
loop-bytes-init c = record { between = c.new-walk.ensures.between c.args.file.now; program = c.new-walk.ensures.program }

pub take-requires-clause-stands : goal.take-requires-clause-stands
take-requires-clause-stands c = record {
  file = c.args.file.now;
  within = c.in-Some.ensures.some.0;
  bytes_are = c.in-Some.ensures.some.1;
  between = c.loop-bytes.invariant.between;
}

pub returns : goal.returns
returns c =
    let walk = c.loop-bytes.walk in
    subst (λ fault. IsTablesFault c.args.file.now c.args.program fault) (sym c.missing-2.ensures)
    (subst (λ (program : ℕ). IsTablesFault c.args.file.now program (missing_of walk.known)) c.loop-bytes.invariant.program
    (ends_missing c.args.file.now c.loop-bytes.n walk walk.known refl (c.packet_at.ensures.none c.in_default.is) c.loop-bytes.invariant.between))

-- a walk that gives the map knows its PID
pub returns-in-None : goal.returns-in-None
returns-in-None c =
    let knows = c.in-Ok-Some.ensures.known c.args.file.now c.in-Some.ensures.some.0 c.in-Some.ensures.some.1 c.loop-bytes.invariant.between in
    absurd (pid_nowhere c.args.file.now c.loop-bytes.walk.program c.take.new.self.known
    (knows_map c.args.file.now c.loop-bytes.walk.program c.in-Ok-Some.field-0 c.in-Ok-Some.map c.take.new.self.known knows c.in-Ok-Some.field-0-is) (sym c.map_pid.ensures ∙ c.in-None.is))
