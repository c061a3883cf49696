use Rattle.std.proofs.Common.{false}
use Rattle.std.proofs.lemmas.List.Elements.{All-push}
use Rattle.elementary_streams.proofs.TakenLemmas.{IsWhole}
use Rattle.audio_walk.proofs.Ends.{fault_whole}
use Rattle.audio_walk.proofs.walk.AudioWalk.take.Goals as goal

pub returns-clause-read : goal.returns-clause-read
returns-clause-read c packets has = record {
  sound = All-push (IsWhole false) packets c.args.packet.now has.sound c.in-Ok.ensures.sound;
  placed = c.in_ok-walk.ensures packets has.placed;
}

pub returns-in-Err-clause-refused : goal.returns-in-Err-clause-refused
returns-in-Err-clause-refused c packets has = fault_whole packets c.args.packet.now c.in-Err.fault has.sound c.in-Err.ensures.refused
