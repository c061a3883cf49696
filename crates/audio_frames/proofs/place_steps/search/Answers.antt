use Rattle.std.proofs.Common.{◌≡◌, ◌-◌, ◌≤◌, length, drop, Option, Some, subst}
use Rattle.std.specs.Prelude.{MatchOption}
use Rattle.audio_frames.specs.declared.frame_header.FrameHeader.{FrameHeader}
use Rattle.audio_frames.specs.declared.place_steps.Stage.TheVariants.{Search}
use Rattle.audio_frames.specs.Format.{header_of}
use Rattle.audio_frames.specs.Private.Sought.{AlwaysFirst}
use Rattle.audio_frames.specs.Private.Steps.{Steps, StepsFrom}
use Rattle.audio_frames.proofs.Stepping.{on_ok, search_open, search_found}
use Rattle.audio_frames.proofs.place_steps.search.Goals as goal

pub returns-in-Some : goal.returns-in-Some
returns-in-Some c =
    let bytes = c.args.bytes.now in
    let sought = c.seek-sought.result in
    let found = subst (λ (o : Option FrameHeader). MatchOption o (length bytes - sought.at ≤ 3460) (λ header. (header_of (drop sought.at bytes) ≡ Some header) × AlwaysFirst bytes sought.at))
    c.in-Some.is c.seek-sought.ensures.found in
    on_ok c.frames_from.result (StepsFrom c.in-Some.format bytes sought.at c.args.at c.args.places.now c.frames_from.new.places)
    (Steps Search bytes c.args.at c.args.places.now c.frames_from.new.places)
    (λ stepped goes. search_found bytes c.args.at c.args.places.now sought c.seek-sought.ensures.passed c.seek-sought.ensures.within c.in-Some.format c.frames_from.new.places stepped
    found.0 found.1 goes)
    c.frames_from.ensures

pub returns-in-None : goal.returns-in-None
returns-in-None c =
    let bytes = c.args.bytes.now in
    let sought = c.seek-sought.result in
    search_open bytes c.args.at c.args.places.now sought c.seek-sought.ensures.passed c.seek-sought.ensures.within
    (subst (λ (o : Option FrameHeader). MatchOption o (length bytes - sought.at ≤ 3460) (λ header. (header_of (drop sought.at bytes) ≡ Some header) × AlwaysFirst bytes sought.at))
    c.in-None.is c.seek-sought.ensures.found)
