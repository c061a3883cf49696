use Rattle.std.proofs.Common.{ℕ, List, Some, subst}
use Rattle.ts_demux.specs.declared.demux_fault.DemuxFault.{DemuxFault}
use Rattle.ts_demux.specs.CarriedMap.{HasStreams}
use Rattle.ts_demux.specs.Demux.{IsDemuxRefused}
use Rattle.ts_demux.specs.Pass.{HoldsOfFile}
use Rattle.ts_demux.proofs.PassSteps.{told_file, on_refused}
use Rattle.ts_demux.proofs.demux_program.streams_in.Goals as goal

pub returns-in-Ok : goal.returns-in-Ok
returns-in-Ok c =
    subst (HasStreams c.args.program c.args.drop.now c.in-Ok.carried) c.new.ensures
    (told_file c.new.result _ _ _ _ (HasStreams c.args.program c.args.drop.now c.in-Ok.carried) c.in-Ok.ensures.streams)

pub returns-in-Err-Refused : goal.returns-in-Err-Refused
returns-in-Err-Refused c =
    let fault = c.in-Err-Refused.fault in
    subst (λ (file : List ℕ). IsDemuxRefused file c.args.program c.args.drop.now fault) c.new.ensures
    (told_file c.new.result _ _ _ _ (λ (file : List ℕ). IsDemuxRefused file c.args.program c.args.drop.now fault)
    (on_refused c.in-Err-Refused.field-0 fault
    (λ (refusal : DemuxFault). HoldsOfFile (Some c.new.result) _ _ _ _ (λ (file : List ℕ). IsDemuxRefused file c.args.program c.args.drop.now refusal))
    c.in-Err-Refused.field-0-is c.in-Err-Refused.ensures.refused))
