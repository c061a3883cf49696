-- The decoder of a stream whose packets are looked at one by one.
use Rattle.std.specs.Prelude.{◌≡◌, ℕ, List, [], ◌++◌}
use Rattle.tstd_model.specs.declared.decoder_input.PacketPart.{PacketPart}
use Rattle.tstd_model.specs.declared.decoder_input.BufferKind.{BufferKind}
use Rattle.tstd_model.specs.declared.decoder_input.Removal.{Removal}
use Rattle.tstd_model.specs.Decoder.{tb_subticks}
use Rattle.tstd_model.specs.Watch.{HasWatched}
use Rattle.ts_demux.specs.declared.pid_places.Place.{Place}
use Rattle.ts_demux.specs.PidPlaces.{places_on}
use Rattle.stream_audit.specs.declared.stream_watch.StreamWatch.{StreamWatch}
use Rattle.stream_audit.specs.declared.audited_stream.AuditedStream.{AuditedStream}
use Rattle.stream_audit.specs.BusyWatch.{HasEmptied}
use Rattle.stream_audit.specs.PesBytes.{brought_by_all}

-- nothing has come of a stream that has these removals and whose payload has these bytes
pub record BeginsStream (slot : ℕ) (kind : BufferKind) (removals : List Removal) (parts : List PacketPart) (stream : StreamWatch) : Type 0 where
  pub parts_are : stream.parts ≡ parts
  pub watched : HasWatched slot kind removals [] stream.watch
  pub emptied : HasEmptied slot (tb_subticks kind) [] stream.tb

-- These packets of its PID have come: what they bring was watched, and what later ones bring is of the bytes behind theirs.
pub record HasTakenStream (start : StreamWatch) (places : List Place) (stream : StreamWatch) : Type 0 where
  pub rest : (later : List Place) → brought_by_all (places ++ later) start.parts ≡ brought_by_all places start.parts ++ brought_by_all later stream.parts
  pub watched : (slot : ℕ) (kind : BufferKind) (removals : List Removal) → HasWatched slot kind removals [] start.watch
      → HasWatched slot kind removals (brought_by_all places start.parts) stream.watch
  pub emptied : (slot subticks : ℕ) → HasEmptied slot subticks [] start.tb → HasEmptied slot subticks (brought_by_all places start.parts) stream.tb

-- the stream that a PID of a file brings, whose payload has these bytes, with these removals
abbrev pub brought_stream : List ℕ → (pid : ℕ) → BufferKind → List Removal → List PacketPart → AuditedStream
brought_stream file pid kind removals parts = record { pid = pid; kind = kind; arrivals = brought_by_all (places_on file pid) parts; removals = removals }
