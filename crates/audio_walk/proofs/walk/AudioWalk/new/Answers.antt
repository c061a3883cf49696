use Rattle.std.proofs.Common.{false, refl}
use Rattle.std.proofs.lemmas.List.Elements.{All-nil}
use Rattle.elementary_streams.proofs.TakenLemmas.{IsWhole}
use Rattle.audio_walk.proofs.walk.AudioWalk.new.Goals as goal

pub returns : goal.returns
returns c = record {
  sound = All-nil (IsWhole false);
  placed = record { placed = c.new.ensures.items; bytes = refl; walked = c.new-2.ensures.walked; rate = c.new-3.ensures };
}
