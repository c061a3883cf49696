use Rattle.std.proofs.Common.{◌≤◌, ℕ, List, [], inr, length}
use Rattle.program_stream.specs.Private.IdWalk.{HasAllIds}
use Rattle.program_stream.specs.Split.{IsSplitRefused}
use Rattle.program_stream.proofs.ElementSteps.{no_streams}
use Rattle.program_stream.proofs.PassingSteps.{whole_on}
use Rattle.program_stream.proofs.element_streams.read_streams.Goals as goal

pub returns-in-Err-into_streams-clause-refused : goal.returns-in-Err-into_streams-clause-refused
returns-in-Err-into_streams-clause-refused g c =
    let ids = c.args.drop.now in
    let cut = c.in-Ok.cut in
    let fault = c.in-Err-into_streams.fault in
    inr (whole_on (g.S.Source.left c.args.source.now) (g.S.Source.left c.take_ids.new.source) (g.S.Source.most c.args.source.now) (g.S.Source.most c.take_ids.new.source) []
    (λ (file : List ℕ). (14 ≤ length file) × HasAllIds file cut c.take_ids.new.walk) (λ (file : List ℕ). IsSplitRefused file ids fault)
    (λ file is. no_streams file ids c.take_ids.new.walk fault cut is.0 is.1 (c.in-Err-into_streams.ensures is.1.elements is.1.ids)) c.in-Ok.ensures.cut)
