use Rattle.std.proofs.Common.{◌≡◌, take}
use Rattle.elementary_streams.specs.declared.pes_starts.TheConstants.{PES_PACKETS_MOST}
use Rattle.elementary_streams.specs.Audio.{AreStartsOf}
use Rattle.elementary_streams.specs.NearTimes.{IsNear, AreNear}
use Rattle.elementary_streams.specs.Private.PesStarts.{last_time}
use Rattle.elementary_streams.proofs.pes_starts.audio_starts.Given as goal

abbrev pub invariant-loop-packet : goal.invariant-loop-packet
invariant-loop-packet l = record {
  starts : AreStartsOf l.first.time (take l.packet-index l.packets) l.starts.items;
  before : l.before.time ≡ last_time l.first.time l.starts.items;
  near : IsNear l.packet-index l.before.time;
  all_near : AreNear PES_PACKETS_MOST l.starts.items;
}
