use Rattle.std.proofs.Common.{◌⊎◌, inl, inr, List, ℕ, Some, map, subst}
use Rattle.psi_tables.specs.declared.stream.Stream.{Stream}
use Rattle.ts_demux.specs.declared.demux_fault.DemuxFault.{DemuxFault}
use Rattle.ts_demux.specs.Demux.{IsFirstStreamFault}
use Rattle.ts_demux.specs.Pass.{IsEarly}
use Rattle.ts_demux.specs.Private.StreamWalk.{AreGathered, IsGatherFault}
use Rattle.ts_demux.specs.Faults.{IsMemory}
use Rattle.ts_demux.proofs.PassSteps.{told_whole, told_early, on_refused}
use Rattle.ts_demux.proofs.demux_program.gather_in.Goals as goal

pub returns-in-Ok : goal.returns-in-Ok
returns-in-Ok c =
    let pids = map (λ (stream : Stream). stream.pid) c.args.streams.now in
    subst (λ (file : List ℕ). AreGathered file pids c.in-Ok.gatherers.items) c.new.ensures
    (told_whole c.new.result _ _ _ _ (λ (file : List ℕ). AreGathered file pids c.in-Ok.gatherers.items) c.in-Ok.ensures.gathered)

pub returns-in-Err-Refused : goal.returns-in-Err-Refused
returns-in-Err-Refused c =
    let pids = map (λ (stream : Stream). stream.pid) c.args.streams.now in
    let fault = c.in-Err-Refused.fault in
    let said = on_refused c.in-Err-Refused.field-0 fault
    (λ (refusal : DemuxFault). IsMemory refusal ⊎ IsEarly (Some c.new.result) _ _ _ _ (λ (file : List ℕ). IsFirstStreamFault file pids refusal))
    c.in-Err-Refused.field-0-is c.in-Err-Refused.ensures.refused in
    subst (λ (file : List ℕ). IsGatherFault file pids fault) c.new.ensures (elim said [
      | inl memory ↦ inl memory
      | inr first ↦ inr (told_early c.new.result _ _ _ _ (λ (file : List ℕ). IsFirstStreamFault file pids fault) first)
    ])
