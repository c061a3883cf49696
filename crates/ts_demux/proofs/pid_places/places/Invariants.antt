use Rattle.std.proofs.Common.{◌≡◌, ◌-◌, ◌≤◌, ◌∷◌, [], All}
use Rattle.stream_constants.specs.declared.packets.TheConstants.{PAYLOAD_BYTES}
use Rattle.ts_packets.specs.TransportStream.{piece_count}
use Rattle.ts_demux.specs.PidPlaces.{IsBeforePlace, places_before}
use Rattle.ts_demux.specs.Private.StreamWalk.{AreSoundBefore}
use Rattle.ts_demux.proofs.pid_places.places.Given as goal

abbrev pub invariant-loop-bytes : goal.invariant-loop-bytes
invariant-loop-bytes l = record {
  most : l.n ≤ piece_count l.file;
  pid : l.reader.pid ≡ l.pid;
  stands : IsBeforePlace l.file l.n l.reader;
  sound : AreSoundBefore l.file (l.pid ∷ []) l.n;
  found : l.found ≡ places_before l.file l.pid l.n;
  fits : All (λ place. place.payload ≤ PAYLOAD_BYTES) l.found;
}

abbrev pub decreases-loop-bytes : goal.decreases-loop-bytes
decreases-loop-bytes l = piece_count l.file - l.n
