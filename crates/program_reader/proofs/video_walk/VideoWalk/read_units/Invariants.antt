use Rattle.std.proofs.Common.{◌≡◌, ℕ, ◌+◌, ◌-◌, ◌≤◌, List, length, drop}
use Rattle.ts_demux.specs.declared.demuxed.PesUnit.{PesUnit}
use Rattle.elementary_streams.specs.Packets.{joined}
use Rattle.program_reader.specs.VideoWalk.{AreFew, Reads, wanted_of}
use Rattle.program_reader.proofs.video_walk.VideoWalk.read_units.Given as goal

abbrev pub invariant-loop-count : goal.invariant-loop-count
invariant-loop-count l = record {
  within : l.count ≤ length l.bytes;
  wanted : wanted_of l.self ≡ wanted_of l.fn.self;
  read : (packets : List PesUnit) (at : ℕ) → Reads packets at l.fn.self.refused l.fn.self → AreFew packets → drop at (joined packets) ≡ l.bytes
      → Reads packets (at + l.count) l.self.refused l.self;
}

abbrev pub decreases-loop-count : goal.decreases-loop-count
decreases-loop-count l = length l.bytes - l.count
