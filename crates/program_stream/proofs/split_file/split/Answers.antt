use Rattle.std.proofs.Common.{ℕ, List, Some, subst}
use Rattle.ts_demux.specs.Pass.{HoldsOfFile}
use Rattle.ts_demux.proofs.PassSteps.{told_file, told_whole}
use Rattle.program_stream.specs.declared.split_fault.SplitFault.{SplitFault}
use Rattle.program_stream.specs.Split.{IsSplit, IsSplitRefused}
use Rattle.program_stream.proofs.PassingSteps.{is_refused}
use Rattle.program_stream.proofs.split_file.split.Goals as goal

pub returns-in-Ok : goal.returns-in-Ok
returns-in-Ok c =
    let answer = c.in-Ok.answer in
    subst (λ (file : List ℕ). IsSplit file c.args.drop.now answer.0 answer.1) c.new.ensures
    (told_whole c.new.result _ _ _ _ (λ (file : List ℕ). IsSplit file c.args.drop.now answer.0 answer.1) c.in-Ok.ensures.split)

pub returns-in-Err-Refused : goal.returns-in-Err-Refused
returns-in-Err-Refused c =
    let fault = c.in-Err-Refused.fault in
    subst (λ (file : List ℕ). IsSplitRefused file c.args.drop.now fault) c.new.ensures
    (told_file c.new.result _ _ _ _ (λ (file : List ℕ). IsSplitRefused file c.args.drop.now fault)
    (is_refused c.in-Err-Refused.field-0 fault
    (λ (refusal : SplitFault). HoldsOfFile (Some c.new.result) _ _ _ _ (λ (file : List ℕ). IsSplitRefused file c.args.drop.now refusal))
    c.in-Err-Refused.field-0-is c.in-Err-Refused.ensures.refused))
