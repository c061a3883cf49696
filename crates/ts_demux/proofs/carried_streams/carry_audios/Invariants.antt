use Rattle.std.proofs.Common.{◌≡◌, ◌≤◌, ◌+◌, ◌++◌, length}
use Rattle.ts_demux.specs.Streams.{audios_of, others_of}
use Rattle.ts_demux.specs.Private.CarriedStreams.{pids_in}
use Rattle.ts_demux.proofs.carried_streams.carry_audios.Given as goal

abbrev pub invariant-loop-streams : goal.invariant-loop-streams
invariant-loop-streams l = record {
  room : length l.carried.items + length l.streams.items ≤ 64;
  audios : l.carried.items ++ audios_of l.drop (pids_in l.carried.items) l.streams.items ≡ l.fn.carried.items ++ audios_of l.drop (pids_in l.fn.carried.items) l.fn.streams.items;
  others : l.others ++ others_of l.drop (pids_in l.carried.items) l.streams.items ≡ others_of l.drop (pids_in l.fn.carried.items) l.fn.streams.items;
}

abbrev pub decreases-loop-streams : goal.decreases-loop-streams
decreases-loop-streams l = length l.streams.items
