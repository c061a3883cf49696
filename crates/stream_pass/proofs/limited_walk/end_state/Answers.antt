use Rattle.std.proofs.Common.{refl}
use Rattle.std.specs.Option.{option_copied}
use Rattle.stream_pass.specs.Private.Passed.{all_of}
use Rattle.stream_pass.proofs.Passed.{held_is, refused_at_end, taken_is}
use Rattle.stream_pass.proofs.limited_walk.end_state.Goals as goal

pub end-requires : goal.end-requires
end-requires g c =
    let (start, ended, few, none, read) = c.requires in (
      start,
      ended,
      all_of ended (option_copied c.args.last),
      taken_is (g.W.StreamWalk.has_read start) (g.W.StreamWalk.refuses start) ended c.args.state c.in-Taken.walk c.in-Taken.is read,
      record { packets = refl; none = none },
      few,
    )

pub returns-in-Taken : goal.returns-in-Taken
returns-in-Taken g c start ended few none read =
    c.end.ensures start ended (all_of ended (option_copied c.args.last))
    (taken_is (g.W.StreamWalk.has_read start) (g.W.StreamWalk.refuses start) ended c.args.state c.in-Taken.walk c.in-Taken.is read) (record { packets = refl; none = none }) few

pub returns-in-Refused : goal.returns-in-Refused
returns-in-Refused g c start ended few none read =
    refused_at_end (g.W.StreamWalk.refuses start) ended (option_copied c.args.last) c.in-Refused.fault none
    (held_is (g.W.StreamWalk.has_read start) (g.W.StreamWalk.refuses start) ended c.args.state c.in-Refused.fault c.in-Refused.is read)
