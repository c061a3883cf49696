use Rattle.std.proofs.Common.{length, sym, ◌∙◌, below_more, arith}
use Rattle.list_types.proofs.Search.{find_range}
use Rattle.audio_frames.specs.Frames.{is_first}
use Rattle.list_types.proofs.Search.{find_none}
use Rattle.audio_frames.proofs.first_frame.find_first.Goals as goal

pub returns-then-is_first : goal.returns-then-is_first
returns-then-is_first c =
    sym (find_range (is_first c.args.payload.now) (length c.args.payload.now) 0 c.loop-at.at (omega arith) (omega arith)
    (sym c.is_first.ensures ∙ c.if-is_first.true) (λ at b u. c.loop-at.invariant at u))

pub loop-at-preserved : goal.loop-at-preserved
loop-at-preserved c = below_more _ _ c.loop-at.invariant (sym c.is_first.ensures ∙ c.if-is_first.false)

pub returns : goal.returns
returns c = sym (find_none (is_first c.args.payload.now) (length c.args.payload.now) 0 (λ at b u. c.loop-at.invariant at (omega arith)))
