use Rattle.std.proofs.Common.{refl, ◌-◌, arith}
use Rattle.audio_frames.specs.FrameHeader.{kilobits}
use Rattle.audio_frames.proofs.Tables.{entry_within}
use Rattle.audio_frames.proofs.frame_header.kilobits_of.Goals as goal

pub returns-then-id-eq1-clause-range : goal.returns-then-id-eq1-clause-range
returns-then-id-eq1-clause-range c = entry_within 8 384 (kilobits 1) (c.args.bit_rate_index - 1) refl (omega arith)

pub returns-else-id-eq1-clause-range : goal.returns-else-id-eq1-clause-range
returns-else-id-eq1-clause-range c = entry_within 8 384 (kilobits 0) (c.args.bit_rate_index - 1) refl (omega arith)
