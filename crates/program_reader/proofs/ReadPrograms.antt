-- The program of a file is a program that was read.
use Rattle.std.proofs.Common.{ℕ, ◌≤◌, List, length, All, sym, subst}
use Rattle.bit_lists.specs.Fields.{AreBytes}
use Rattle.ts_demux.specs.declared.demuxed.AudioStream.{AudioStream}
use Rattle.ts_demux.specs.declared.demuxed.Demuxed.{Demuxed}
use Rattle.job_report.specs.declared.job.Form.{Form}
use Rattle.job_report.specs.declared.job.Form.TheVariants.{Ts, Ps}
use Rattle.program_reader.specs.declared.program.Program.{Program}
use Rattle.program_reader.specs.AudioTypes.{typed}
use Rattle.program_reader.specs.Programs.{IsProgramOfFile, IsTakenOut, StandIn}
use Rattle.program_reader.proofs.SizeLemmas.{CutWithin, audios_are_small, one_cut, video_small}
use Rattle.program_stream.specs.Split.{IsSplit}
use Rattle.ts_demux.specs.Demux.{IsDemuxed}
use Rattle.std.specs.List.{sum_by}
use Rattle.program_reader.specs.ReadProgram.{IsReadProgram, IsSmall}
use Rattle.program_reader.proofs.TakenMaps.{taken-written}
use Rattle.program_reader.proofs.TakenOut.{its-streams}

-- ---- the laws of transport streams and of program streams

-- no stream of a transport stream, or of a program stream, has more bytes than its file, and of the latter at most one element is cut
pub record StreamLaws : Type 0 where
  pub video_in_packets : (file : List ℕ) (number : ℕ) (drop : List ℕ) (demuxed : Demuxed) → IsDemuxed file number drop demuxed → sum_by (λ packet. length packet.bytes) demuxed.video ≤ length file
  pub video_in_elements : (file drop : List ℕ) (demuxed : Demuxed) (cut : ℕ) → IsSplit file drop demuxed cut → sum_by (λ packet. length packet.bytes) demuxed.video ≤ length file
  pub audios_in_packets : (file : List ℕ) (number : ℕ) (drop : List ℕ) (demuxed : Demuxed) → IsDemuxed file number drop demuxed
      → All (λ (stream : AudioStream). sum_by (λ packet. length packet.bytes) stream.units ≤ length file) demuxed.audios
  pub audios_in_elements : (file drop : List ℕ) (demuxed : Demuxed) (cut : ℕ) → IsSplit file drop demuxed cut
      → All (λ (stream : AudioStream). sum_by (λ packet. length packet.bytes) stream.units ≤ length file) demuxed.audios
  pub cut : CutWithin

-- ---- what is taken out of a file

-- no stream of it is larger than it may be
record AreSmall (demuxed : Demuxed) : Type 0 where
  pub video : IsSmall demuxed.video
  pub audios : All (λ (stream : AudioStream). IsSmall stream.units) demuxed.audios

typed-small : (form : Form) (found : Demuxed) → AreSmall found → AreSmall (typed form found)
typed-small Ts found small = record { video = small.video; audios = small.audios }
typed-small Ps found small = record { video = small.video; audios = small.audios }

streams-small : StreamLaws → (form : Form) (file : List ℕ) (number : ℕ) (drop : List ℕ) (demuxed : Demuxed) → length file ≤ 1099511627776 → IsTakenOut form file number drop demuxed
    → AreSmall demuxed
streams-small laws form file number drop demuxed within is =
    subst AreSmall (sym is.typed_is) (typed-small form is.found (record {
      video = video_small form file number drop is.found is.cut laws.video_in_packets laws.video_in_elements within is.stand;
      audios = audios_are_small form file number drop is.found is.cut laws.audios_in_packets laws.audios_in_elements within is.stand;
    }))

-- ---- a program

pub of-file : StreamLaws → (form : Form) (file : List ℕ) (number : ℕ) (drop : List ℕ) (start : ℕ) (program : Program) → IsProgramOfFile form file number drop start program
    → AreBytes program.video → IsReadProgram start program
of-file laws form file number drop start program of bytes =
    let small = streams-small laws form file number drop of.demuxed of.within of.demuxed_is in record {
      demuxed = of.demuxed;
      within = record {
        map_fits = taken-written form file number drop of.demuxed of.demuxed_is;
        its_streams = its-streams form file number drop of.demuxed of.demuxed_is;
        few_packets = of.few_packets;
        video_small = small.video;
        audios_small = small.audios;
      };
      program_is = of.program_is;
      bytes = bytes;
      cut = of.demuxed_is.cut;
      one_cut = one_cut form file number drop of.demuxed_is.found of.demuxed_is.cut laws.cut of.demuxed_is.stand;
      pes_dropped_is = of.pes_dropped_is;
    }
