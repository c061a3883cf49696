-- What an audit finds on a program of a stream that was written (ISO/IEC 13818-1, 2.4.2).
use Rattle.std.specs.Prelude.{◌≡◌, ℕ, List, [], ◌∷◌, map, Option, None}
use Rattle.ts_demux.specs.declared.demuxed.Demuxed.{Demuxed}
use Rattle.stream_audit.specs.declared.file_clock.FoundClock.{FoundClock}
use Rattle.stream_audit.specs.declared.finding.Finding.{Finding}
use Rattle.stream_audit.specs.declared.kept_units.KeptUnits.{KeptUnits}
use Rattle.stream_audit.specs.Audit.{IsAudited}
use Rattle.stream_audit.specs.Refusals.{IsProgramRead}
use Rattle.time_laws.specs.Video.{AreDecoded, DecodedPicture}
use Rattle.audit_laws.specs.Found.{IsFullAtMost}
use Rattle.audit_laws.specs.Kept.{AreKeptOf}

-- A program of a file is read by an audit, and none of its clock references is off. Whatever units of its pictures an audit is handed, as they are decoded by the
-- file's own clock, it finds nothing on its streams but a transport buffer that isn't empty for a second.
pub record IsFoundClean (file : List ℕ) (slot number : ℕ) : Type 0 where
  pub demuxed : Demuxed
  pub map_pid : ℕ
  pub clock : FoundClock
  pub read : IsProgramRead file number slot demuxed map_pid clock
  pub none_off : clock.off ≡ None
  pub first : DecodedPicture
  pub later : List DecodedPicture
  pub decoded : AreDecoded clock.zero [] demuxed.video (first ∷ later)
  pub found : (kept : KeptUnits) (found : Option Finding) → AreKeptOf clock.zero demuxed.video (map (λ picture. picture.at) (first ∷ later)) first.seq.vbv kept
      → IsAudited file number slot kept found → IsFullAtMost found
