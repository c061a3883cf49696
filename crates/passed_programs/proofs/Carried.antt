-- The steps of reading the program of a transport stream, each over a shelf that tells the same files.
use Rattle.std.proofs.Common.{◌≡◌, ℕ, ◌+◌, ◌≤◌, List, Option, Result, Ok, Err, IfOk, IfErr, IfSome, length, map, take, sym, subst}
use Rattle.psi_tables.specs.declared.stream.Stream.{Stream}
use Rattle.psi_tables.specs.Pmt.{pids_of}
use Rattle.shelf_io.specs.Files.{Files, IfTold}
use Rattle.ts_demux.specs.declared.carried_streams.CarriedStreams.{CarriedStreams}
use Rattle.ts_demux.specs.CarriedMap.{HasStreams}
use Rattle.job_report.specs.declared.job.Form.{Form}
use Rattle.job_report.specs.declared.job.Form.TheVariants.{Ts}
use Rattle.elementary_streams.specs.declared.audio_stream.ReadStream.{ReadStream}
use Rattle.program_reader.specs.declared.unit_sizes.SizesWanted.{SizesWanted}
use Rattle.program_reader.specs.Programs.{IsProgramOfFile, IsProgramRefused}
use Rattle.passed_programs.specs.declared.passed_fault.PassedFault.{PassedFault}
use Rattle.passed_programs.specs.declared.passes.VideoPassed.{VideoPassed}
use Rattle.passed_programs.specs.declared.sized_passed.SizedPassed.{SizedPassed}
use Rattle.passed_programs.specs.PassedFile.{HoldsProgram, IsPassedProgram, IsRefusedWithin, OnRefused}
use Rattle.passed_programs.specs.Private.Passes.{AreAudiosPassed, AreStreamsPassed, IsAudiosFault, IsMapFault, IsOfTold, IsVideoFault, IsVideoPassed, OfFront, front_of}
use Rattle.passed_programs.proofs.Streams.{again}
use Rattle.passed_programs.proofs.Together.{HoldsTold, of_audios, of_map, of_video}
use Rattle.passed_programs.proofs.Within.{front_short, held_refused, held_told, program_told, refused_told}

-- the PIDs of some streams
abbrev pub pids : List Stream → List ℕ
pids streams = map (λ (stream : Stream). stream.pid) streams

module _ (told : Option Files) (name : List ℕ) (limit : ℕ) where
  pub map_step : (number : ℕ) (dropped : List ℕ) (fault : PassedFault) → limit ≤ 1099511627776 → IsOfTold (front_of told name limit) (IsMapFault number dropped) fault
      → IsOfTold (front_of told name limit) (λ whole. IsProgramRefused Ts whole number dropped) fault
  map_step number dropped fault most is = of_map (front_of told name limit) number dropped fault (front_short told name limit most) is

  pub video_step : (number : ℕ) (dropped : List ℕ) (carried : CarriedStreams) (streams : List Stream) (fault : PassedFault) → limit ≤ 1099511627776 → streams ≡ carried.map.streams.items
      → OfFront (front_of told name limit) (HasStreams number dropped carried) → IsOfTold (front_of told name limit) (IsVideoFault (pids streams)) fault
      → IsOfTold (front_of told name limit) (λ whole. IsProgramRefused Ts whole number dropped) fault
  video_step number dropped carried streams fault most same has is =
      of_video (front_of told name limit) number dropped carried fault (front_short told name limit most) has
      (subst (λ (all : List Stream). IsOfTold (front_of told name limit) (IsVideoFault (pids all)) fault) same is)

  pub audios_step : (later : Option Files) (number : ℕ) (dropped : List ℕ) (wanted : SizesWanted) (carried : CarriedStreams) (passed : VideoPassed) (streams : List Stream) (fault : PassedFault)
      → later ≡ told → limit ≤ 1099511627776 → streams ≡ carried.map.streams.items → OfFront (front_of told name limit) (HasStreams number dropped carried)
      → OfFront (front_of told name limit) (IsVideoPassed (pids streams) wanted passed) → IsOfTold (front_of later name limit) (IsAudiosFault (pids streams) passed.video.first.stated) fault
      → IsOfTold (front_of told name limit) (λ whole. IsProgramRefused Ts whole number dropped) fault
  audios_step later number dropped wanted carried passed streams fault files most same has video is =
      of_audios (front_of told name limit) number dropped wanted carried passed fault (front_short told name limit most) has
      (subst (λ (all : List Stream). OfFront (front_of told name limit) (IsVideoPassed (pids all) wanted passed)) same video)
      (subst (λ (all : List Stream). IsOfTold (front_of told name limit) (IsAudiosFault (pids all) passed.video.first.stated) fault) same
      (again told later name limit files (IsAudiosFault (pids streams) passed.video.first.stated) fault is))

  pub are_passed : (later : Option Files) (number : ℕ) (dropped : List ℕ) (wanted : SizesWanted) (carried : CarriedStreams) (passed : VideoPassed) (audios : List ReadStream) (streams : List Stream)
      → later ≡ told → streams ≡ carried.map.streams.items → OfFront (front_of told name limit) (HasStreams number dropped carried)
      → OfFront (front_of told name limit) (IsVideoPassed (pids streams) wanted passed) → passed.size ≤ limit
      → AreAudiosPassed (front_of later name limit) (pids streams) passed.video.first.stated 1 audios → 1 + length audios ≡ length streams
      → AreStreamsPassed (front_of told name limit) limit number dropped wanted carried passed audios
  are_passed later number dropped wanted carried passed audios streams files same has video within read count = record {
    map_read = has;
    video_read = subst (λ (all : List Stream). OfFront (front_of told name limit) (IsVideoPassed (pids all) wanted passed)) same video;
    within = within;
    audios_read = subst (λ (all : List Stream). AreAudiosPassed (front_of told name limit) (pids all) passed.video.first.stated 1 audios) same
        (subst (λ (t : Option Files). AreAudiosPassed (front_of t name limit) (pids streams) passed.video.first.stated 1 audios) files read);
    all_read = subst (λ (all : List Stream). 1 + length audios ≡ length all) same count;
  }

  pub program_again : (later : Option Files) (number start : ℕ) (dropped : List ℕ) (wanted : SizesWanted) (passed : SizedPassed) → later ≡ told
      → IsPassedProgram start limit wanted (HoldsTold (front_of later name limit) number dropped start) passed
      → IsPassedProgram start limit wanted (HoldsTold (front_of told name limit) number dropped start) passed
  program_again later number start dropped wanted passed files is =
      subst (λ (t : Option Files). IsPassedProgram start limit wanted (HoldsTold (front_of t name limit) number dropped start) passed) files is

  pub program_within : (later : Option Files) (number start : ℕ) (dropped : List ℕ) (wanted : SizesWanted) (passed : SizedPassed) → later ≡ told
      → IfTold told name (λ content. length content ≤ limit) → IsPassedProgram start limit wanted (HoldsTold (front_of later name limit) number dropped start) passed
      → IsPassedProgram start limit wanted (HoldsProgram told name Ts number dropped start) passed
  program_within later number start dropped wanted passed files short is =
      program_told told name limit number start dropped wanted passed short (program_again later number start dropped wanted passed files is)

  pub refused_within : (later : Option Files) (number : ℕ) (dropped : List ℕ) (fault : PassedFault) → later ≡ told → IfTold told name (λ content. length content ≤ limit)
      → IsOfTold (front_of later name limit) (λ whole. IsProgramRefused Ts whole number dropped) fault
      → OnRefused fault (λ found. IfTold told name (λ file. IsRefusedWithin limit Ts number dropped file found))
  refused_within later number dropped fault files short is =
      refused_told told name limit number dropped fault short (again told later name limit files (λ whole. IsProgramRefused Ts whole number dropped) fault is)

  pub programs_within : (result : Result SizedPassed PassedFault) (later : Option Files) (number start : ℕ) (dropped : List ℕ) (wanted : SizesWanted) → later ≡ told
      → IfTold told name (λ content. length content ≤ limit) → IfOk result (IsPassedProgram start limit wanted (HoldsTold (front_of later name limit) number dropped start))
      → IfOk result (IsPassedProgram start limit wanted (HoldsProgram told name Ts number dropped start))
  programs_within (Ok passed) later number start dropped wanted files short is = program_within later number start dropped wanted passed files short is
  programs_within (Err fault) later number start dropped wanted files short is = tt

  pub refusals_within : (result : Result SizedPassed PassedFault) (later : Option Files) (number : ℕ) (dropped : List ℕ) → later ≡ told → IfTold told name (λ content. length content ≤ limit)
      → IfErr result (IsOfTold (front_of later name limit) (λ whole. IsProgramRefused Ts whole number dropped))
      → IfErr result (λ fault. OnRefused fault (λ found. IfTold told name (λ file. IsRefusedWithin limit Ts number dropped file found)))
  refusals_within (Ok passed) later number dropped files short is = tt
  refusals_within (Err fault) later number dropped files short is = refused_within later number dropped fault files short is

-- the bytes that were held
pub programs_held : (result : Result SizedPassed PassedFault) (told : Option Files) (name bytes : List ℕ) (form : Form) (limit number start : ℕ) (dropped : List ℕ) (wanted : SizesWanted)
    → IfTold told name (λ content. bytes ≡ take (limit + 1) content)
    → IfOk result (IsPassedProgram start limit wanted (λ size program. (size ≡ length bytes) × IsProgramOfFile form bytes number dropped start program))
    → IfOk result (IsPassedProgram start limit wanted (HoldsProgram told name form number dropped start))
programs_held (Ok passed) told name bytes form limit number start dropped wanted read is = held_told told name bytes form limit number start dropped wanted passed read is
programs_held (Err fault) told name bytes form limit number start dropped wanted read is = tt

pub refusals_held : (result : Result SizedPassed PassedFault) (told : Option Files) (name bytes : List ℕ) (form : Form) (limit number : ℕ) (dropped : List ℕ)
    → IfTold told name (λ content. bytes ≡ take (limit + 1) content)
    → IfErr result (λ fault. OnRefused fault (IsRefusedWithin limit form number dropped bytes))
    → IfErr result (λ fault. OnRefused fault (λ found. IfTold told name (λ file. IsRefusedWithin limit form number dropped file found)))
refusals_held (Ok passed) told name bytes form limit number dropped read is = tt
refusals_held (Err fault) told name bytes form limit number dropped read is = held_refused told name bytes form limit number dropped fault read is
