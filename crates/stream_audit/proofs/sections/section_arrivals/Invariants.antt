use Rattle.std.proofs.Common.{◌≡◌, ◌-◌, ◌≤◌, All, map}
use Rattle.ts_packets.specs.TransportStream.{piece_count}
use Rattle.tstd_model.specs.PacketBytes.{HasHeaderWithin}
use Rattle.stream_audit.specs.Private.Sections.{StandBefore}
use Rattle.stream_audit.specs.Streams.{section_arrival, system_before}
use Rattle.stream_audit.proofs.sections.section_arrivals.Given as goal

abbrev pub invariant-loop-bytes : goal.invariant-loop-bytes
invariant-loop-bytes l = record {
  most : l.n ≤ piece_count l.file;
  stand : StandBefore l.file l.map_pid l.n l.readers;
  arrivals : l.arrivals ≡ map section_arrival (system_before l.file l.map_pid l.n);
  headers : All HasHeaderWithin l.arrivals;
}

abbrev pub decreases-loop-bytes : goal.decreases-loop-bytes
decreases-loop-bytes l = piece_count l.file - l.n
