-- A program that was read as its file passed is that of the file.
use Rattle.std.proofs.Common.{◌≡◌, ℕ, ◌+◌, ◌≤◌, List, length, map, All, None, refl, sym, ap, ◌∙◌, subst, arith}
use Rattle.std.specs.List.{AllZip, sum_by}
use Rattle.psi_tables.specs.Pmt.{pids_of}
use Rattle.ts_demux.specs.declared.demuxed.AudioStream.{AudioStream}
use Rattle.ts_demux.specs.declared.demuxed.Demuxed.{Demuxed}
use Rattle.ts_demux.specs.Demux.{IsDemuxed}
use Rattle.job_report.specs.declared.job.Form.TheVariants.{Ts}
use Rattle.elementary_streams.specs.declared.audio_stream.ReadStream.{ReadStream}
use Rattle.elementary_streams.specs.Audio.{IsStreamRead}
use Rattle.elementary_streams.proofs.FileSizes.{audios_within, few_audios, video_within}
use Rattle.program_reader.specs.declared.unit_sizes.SizesWanted.{SizesWanted}
use Rattle.program_reader.specs.declared.unit_sizes.UnitSizes.{UnitSizes}
use Rattle.program_reader.specs.declared.video_walk.WalkedVideo.{WalkedVideo}
use Rattle.program_reader.specs.declared.program.UnitSource.{UnitSource}
use Rattle.program_reader.specs.KeptUnits.{kept_at}
use Rattle.program_reader.specs.Programs.{HasFewPackets, IsProgramOfFile, StandIn, all_packets_dropped, video_bytes}
use Rattle.program_reader.specs.Sizes.{AreProgramSizes, AreUnitSizes, stands_at}
use Rattle.passed_programs.specs.PassedVideo.{IsVideoRead}
use Rattle.passed_programs.proofs.AsDemuxed.{video_few, video_walked}
use Rattle.passed_programs.specs.declared.due_program.FoundMap.{FoundMap}
use Rattle.passed_programs.specs.declared.passed_program.PassedProgram.{PassedProgram}
use Rattle.passed_programs.specs.PassedProgram.{AreRead, IsPassed}

each_small : (size : ℕ) (streams : List AudioStream) → size ≤ 1099511627776 → All (λ stream. sum_by (λ packet. length packet.bytes) stream.units ≤ size) streams →
    All (λ stream. sum_by (λ packet. length packet.bytes) stream.units ≤ 1099511627776) streams
each_small size streams le all = λ k d lt. omega (arith, le, all k d lt)

pub are_read : (file : List ℕ) (number : ℕ) (drop : List ℕ) (demuxed : Demuxed) (found : FoundMap) (wanted : SizesWanted) (video : WalkedVideo) (streams : List ReadStream) →
    IsDemuxed file number drop demuxed → HasFewPackets demuxed → IsVideoRead file (pids_of demuxed.map) wanted video → AllZip (IsStreamRead video.first.stated) demuxed.audios streams →
    length video.units.items ≤ 4194304 → demuxed.map ≡ found.map → demuxed.rest ≡ found.rest → demuxed.not_carried ≡ found.not_carried → AreRead demuxed found video streams
are_read file number drop demuxed found wanted video streams is few read audios units map_is rest_is others_are =
    let short : length file ≤ 1099511627776 = (video_few file number drop demuxed is wanted video read).0 in record {
      map_is = map_is;
      rest_is = rest_is;
      not_carried_are = others_are;
      packets_few = few;
      video_few = omega (arith, short, video_within file number drop demuxed is);
      audio_few = each_small (length file) demuxed.audios short (λ k d lt. audios_within file number drop demuxed is k d lt);
      audios_few = few_audios file number drop demuxed is;
      video_read = video_walked file number drop demuxed is wanted video read;
      units_few = units;
      audios_read = audios;
    }

pub program_of_file : (file : List ℕ) (number : ℕ) (drop : List ℕ) (start : ℕ) (demuxed : Demuxed) (passed : PassedProgram) → length file ≤ 1099511627776 → IsDemuxed file number drop demuxed →
    HasFewPackets demuxed → (is : IsPassed start demuxed passed) → IsProgramOfFile Ts file number drop start is.program
program_of_file file number drop start demuxed passed short taken few is =
    let none : all_packets_dropped demuxed ≡ all_packets_dropped demuxed + 0 = omega arith in record {
      within = short;
      demuxed = demuxed;
      demuxed_is = record { found = demuxed; cut = 0; stand = StandIn.in_packets refl taken refl; typed_is = refl };
      few_packets = few;
      program_is = is.program_is;
      pes_dropped_is = is.pes_dropped_is ∙ none;
    }

pub sizes_of_program : (start : ℕ) (demuxed : Demuxed) (passed : PassedProgram) (video : WalkedVideo) (coarser : List ℕ) (sizes : List UnitSizes) →
    map stands_at passed.units ≡ map kept_at video.units.items → AreUnitSizes (video_bytes demuxed) coarser None (map kept_at video.units.items) sizes →
    (is : IsPassed start demuxed passed) → AreProgramSizes is.program coarser sizes
sizes_of_program start demuxed passed video coarser sizes places are is =
    let same : map kept_at video.units.items ≡ map stands_at is.program.units = sym places ∙ ap (λ (units : List UnitSource). map stands_at units) is.read_off.units_are in
    subst (λ (es : List ℕ). AreUnitSizes es coarser None (map stands_at is.program.units) sizes) (sym is.program_is.video_is)
    (subst (λ (units : List (ℕ × ℕ)). AreUnitSizes (video_bytes demuxed) coarser None units sizes) same are)
