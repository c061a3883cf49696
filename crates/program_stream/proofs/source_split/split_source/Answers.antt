use Rattle.std.proofs.Common.{◌≤◌, ℕ, List, [], inr, length}
use Rattle.program_stream.specs.Private.Steps.{StandsBehind}
use Rattle.program_stream.specs.Split.{IsSplitRefused}
use Rattle.program_stream.proofs.PassingSteps.{whole_on}
use Rattle.program_stream.proofs.Standing.{streams_refused}
use Rattle.program_stream.proofs.source_split.split_source.Goals as goal

pub take_elements-requires : goal.take_elements-requires
take_elements-requires g c = c.new-walk.ensures c.args.drop.now

pub returns-in-Err-into_demuxed-clause-refused : goal.returns-in-Err-into_demuxed-clause-refused
returns-in-Err-into_demuxed-clause-refused g c =
    let ids = c.args.drop.now in
    let cut = c.in-Ok.cut in
    let fault = c.in-Err-into_demuxed.fault in
    inr (whole_on (g.S.Source.left c.args.source.now) (g.S.Source.left c.take_elements.new.source) (g.S.Source.most c.args.source.now) (g.S.Source.most c.take_elements.new.source) []
    (λ (file : List ℕ). (14 ≤ length file) × StandsBehind file ids cut c.take_elements.new.walk) (λ (file : List ℕ). IsSplitRefused file ids fault)
    (λ file is. streams_refused file ids is.1.elements cut fault (record { long = is.0; are = is.1.are }) (c.in-Err-into_demuxed.ensures ids is.1.elements is.1.walked)) c.in-Ok.ensures.cut)
