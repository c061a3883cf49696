-- The program of streams that were read by passes over a file, told or not, and what refuses it.
use Rattle.std.proofs.Common.{◌≡◌, ℕ, ◌+◌, ◌%◌, ◌<◌, ◌≤◌, true, List, length, map, All, Option, None, Some, IfSome, inl, inr, refl, sym, ap, ◌∙◌, subst, arith}
use Rattle.std.specs.List.{AllZip}
use Rattle.bit_lists.specs.Fields.{AreBytes}
use Rattle.psi_tables.specs.declared.program_map.ProgramMap.{ProgramMap}
use Rattle.psi_tables.specs.Pmt.{pids_of}
use Rattle.ts_demux.specs.declared.carried_streams.CarriedStreams.{CarriedStreams}
use Rattle.ts_demux.specs.declared.demuxed.AudioStream.{AudioStream}
use Rattle.ts_demux.specs.declared.demuxed.Demuxed.{Demuxed}
use Rattle.ts_demux.specs.declared.demuxed.PesUnit.{PesUnit}
use Rattle.ts_demux.specs.CarriedMap.{HasStreams}
use Rattle.ts_demux.specs.Demux.{IsDemuxed}
use Rattle.ts_packets.specs.TransportStream.{rest_of}
use Rattle.job_report.specs.declared.job.Form.{Form}
use Rattle.job_report.specs.declared.job.Form.TheVariants.{Ts}
use Rattle.elementary_streams.specs.declared.audio_stream.ReadStream.{ReadStream}
use Rattle.elementary_streams.specs.Audio.{IsStreamRead}
use Rattle.elementary_streams.specs.Packets.{joined, taken}
use Rattle.program_reader.specs.declared.program.Program.{Program}
use Rattle.program_reader.specs.declared.program_fault.ProgramFault.{ProgramFault}
use Rattle.program_reader.specs.declared.unit_sizes.SizesWanted.{SizesWanted}
use Rattle.program_reader.specs.declared.video_walk.WalkedVideo.{WalkedVideo}
use Rattle.program_reader.specs.KeptUnits.{kept_at}
use Rattle.program_reader.specs.Programs.{HasFewPackets, IsProgramOfFile, IsProgramRefused, video_bytes}
use Rattle.program_reader.specs.Sizes.{stands_at}
use Rattle.program_reader.specs.ReadProgram.{CanBeWritten, IsReadProgram}
use Rattle.passed_programs.specs.PassedVideo.{IsVideoRead}
use Rattle.passed_programs.proofs.AsDemuxed.{packets_are, some_demuxed, video_few}
use Rattle.passed_programs.specs.declared.due_program.FoundMap.{FoundMap}
use Rattle.passed_programs.specs.declared.passed_fault.PassedFault.{PassedFault}
use Rattle.passed_programs.specs.declared.passed_fault.PassedFault.TheVariants as faults
use Rattle.passed_programs.specs.declared.passed_program.PassedProgram.{PassedProgram}
use Rattle.passed_programs.specs.declared.passes.VideoPassed.{VideoPassed}
use Rattle.passed_programs.specs.declared.sized_passed.SizedPassed.{SizedPassed}
use Rattle.passed_programs.specs.PassedFile.{IsPassedProgram, passes_limit}
use Rattle.passed_programs.specs.PassedProgram.{AreRead, IsPassed}
use Rattle.passed_programs.specs.Private.Passes.{AreAudiosOf, AreStreamsPassed, EndsPasses, IsAudiosFault, IsMapFault, IsOfTold, IsVideoFault, IsVideoPassed, OfFront}
use Rattle.passed_programs.proofs.Hand.{own, own_program, own_read, own_sizes}
use Rattle.passed_programs.proofs.OfFile.{are_read, program_of_file, sizes_of_program}
use Rattle.passed_programs.proofs.Fronts.{on_told}
use Rattle.passed_programs.proofs.Streams.{audios_told}
use Rattle.passed_programs.proofs.Told.{audios_read, audios_refused, ends_refused, few_all, map_fault_refused, rest_size, units_refused, video_fault_refused}

-- the laws that are given: a map can be written, and the program of a file is one that was read
abbrev pub MapsAreWritten : Type 0
MapsAreWritten = (number : ℕ) (dropped : List ℕ) (carried : CarriedStreams) (file : List ℕ) → HasStreams number dropped carried file → CanBeWritten carried.map

abbrev pub ProgramsAreRead : Type 0
ProgramsAreRead = (form : Form) (file : List ℕ) (number : ℕ) (dropped : List ℕ) (start : ℕ) (program : Program) → IsProgramOfFile form file number dropped start program → AreBytes program.video
    → IsReadProgram start program

-- a told file that holds a program of so many bytes
abbrev pub HoldsTold : Option (List ℕ) → (number : ℕ) → (dropped : List ℕ) → (start size : ℕ) → Program → Type 0
HoldsTold front number dropped start size program = IfSome front (λ file. (size ≡ length file) × IsProgramOfFile Ts file number dropped start program)

-- ---- of a told file

module _ (file : List ℕ) (limit number : ℕ) (dropped : List ℕ) (wanted : SizesWanted) (carried : CarriedStreams) (passed : VideoPassed) (audios : List ReadStream)
    (are : AreStreamsPassed (Some file) limit number dropped wanted carried passed audios) where
  map_told : HasStreams number dropped carried file
  map_told = on_told (Some file) (HasStreams number dropped carried) are.map_read

  video_told : IsVideoPassed (pids_of carried.map) wanted passed file
  video_told = on_told (Some file) (IsVideoPassed (pids_of carried.map) wanted passed) are.video_read

  -- what is taken out of it
  record Taken (demuxed : Demuxed) : Type 0 where
    pub demuxed_is : IsDemuxed file number dropped demuxed
    pub map_is : demuxed.map ≡ carried.map
    pub others_are : demuxed.not_carried ≡ carried.others
    pub video_is : IsVideoRead file (pids_of demuxed.map) wanted passed.video
    pub audios_are : AreAudiosOf file (pids_of demuxed.map) passed.video.first.stated 1 audios
    pub count : 1 + length audios ≡ length demuxed.map.streams.items

  taken_here : (demuxed : Demuxed) × Taken demuxed
  taken_here =
      let some = some_demuxed file number dropped carried.map carried.others map_told.tables map_told.few map_told.short video_told.1.sound_video.sound in (
        some.0,
        record {
          demuxed_is = some.1;
          map_is = some.2;
          others_are = some.3;
          video_is = subst (λ (m : ProgramMap). IsVideoRead file (pids_of m) wanted passed.video) (sym some.2) video_told.1;
          audios_are = subst (λ (m : ProgramMap). AreAudiosOf file (pids_of m) passed.video.first.stated 1 audios) (sym some.2)
              (audios_told file (pids_of carried.map) passed.video.first.stated 1 audios are.audios_read);
          count = are.all_read ∙ sym (ap (λ (m : ProgramMap). length m.streams.items) some.2);
        },
      )

  few_here : (demuxed : Demuxed) → Taken demuxed → HasFewPackets demuxed
  few_here demuxed is = (
    (video_few file number dropped demuxed is.demuxed_is wanted passed.video is.video_is).1,
    few_all file number dropped demuxed is.demuxed_is passed.video.first.stated audios is.audios_are is.count,
  )

  read_here : (demuxed : Demuxed) (is : Taken demuxed) (found : FoundMap) → length passed.video.units.items ≤ 4194304 → found.map ≡ carried.map → found.not_carried ≡ carried.others
      → found.rest ≡ passed.size % 188 → AreRead demuxed found passed.video audios
  read_here demuxed is found units map_is others_are rest_is =
      let rest : length (rest_of file) ≡ passed.size % 188 = rest_size file passed.size video_told.0 in
      are_read file number dropped demuxed found wanted passed.video audios is.demuxed_is (few_here demuxed is) is.video_is
      (audios_read file number dropped demuxed is.demuxed_is passed.video.first.stated audios is.audios_are is.count) units (is.map_is ∙ sym map_is)
      (is.demuxed_is.rest_is ∙ rest ∙ sym rest_is) (is.others_are ∙ sym others_are)

  pub told_program : ProgramsAreRead → (start : ℕ) (found : FoundMap) (answer : SizedPassed) → length passed.video.units.items ≤ 4194304 → found.map ≡ carried.map
      → found.not_carried ≡ carried.others → found.rest ≡ passed.size % 188 → ((demuxed : Demuxed) → AreRead demuxed found passed.video audios → IsPassed start demuxed answer.program)
      → map stands_at answer.program.units ≡ map kept_at passed.video.units.items → answer.sizes ≡ passed.video.sizes.items → answer.size ≡ passed.size
      → IsPassedProgram start limit wanted (HoldsTold (Some file) number dropped start) answer
  told_program law start found answer units map_is others_are rest_is due places sizes_are size_is =
      let demuxed = taken_here.0 in
      let is = taken_here.1 in
      let of = due demuxed (read_here demuxed is found units map_is others_are rest_is) in
      let holds = program_of_file file number dropped start demuxed answer.program video_told.1.sound_video.short is.demuxed_is (few_here demuxed is) of in
      let same = packets_are file number dropped demuxed is.demuxed_is is.video_is.packets is.video_is.sound_video.has in
      record {
        program = of.program;
        read = law Ts file number dropped start of.program holds (subst AreBytes (sym of.program_is.video_is) (bytes_here demuxed is same));
        read_off = of.read_off;
        sized = λ want. rw sizes_are (sizes_of_program start demuxed answer.program passed.video wanted.coarser.now passed.video.sizes.items places (is.video_is.sized want demuxed same) of);
        within = rw size_is are.within;
        on_told = (size_is ∙ video_told.0, holds);
      }
    where
      bytes_here : (demuxed : Demuxed) (is : Taken demuxed) → demuxed.video ≡ is.video_is.packets → AreBytes (video_bytes demuxed)
      bytes_here demuxed is same = subst (λ (ps : List PesUnit). AreBytes (joined (taken true ps))) (sym same) is.video_is.bytes

  pub told_units : 4194304 < length passed.video.units.items → IsProgramRefused Ts file number dropped passes_limit
  told_units many =
      let demuxed = taken_here.0 in
      let is = taken_here.1 in
      units_refused file number dropped demuxed is.demuxed_is wanted passed.video is.video_is audios is.audios_are is.count many

-- ---- of any

pub passed_program : MapsAreWritten → ProgramsAreRead → (front : Option (List ℕ)) (limit number : ℕ) (dropped : List ℕ) (wanted : SizesWanted) (carried : CarriedStreams) (passed : VideoPassed)
    (audios : List ReadStream) (start : ℕ) (found : FoundMap) (answer : SizedPassed) → AreStreamsPassed front limit number dropped wanted carried passed audios
    → length passed.video.units.items ≤ 4194304 → found.map ≡ carried.map → found.not_carried ≡ carried.others → found.rest ≡ passed.size % 188
    → ((demuxed : Demuxed) → AreRead demuxed found passed.video audios → IsPassed start demuxed answer.program)
    → map stands_at answer.program.units ≡ map kept_at passed.video.units.items → answer.sizes ≡ passed.video.sizes.items → answer.size ≡ passed.size
    → IsPassedProgram start limit wanted (HoldsTold front number dropped start) answer
passed_program maps law (Some file) limit number dropped wanted carried passed audios start found answer are units map_is others_are rest_is due places sizes_are size_is =
    told_program file limit number dropped wanted carried passed audios are law start found answer units map_is others_are rest_is due places sizes_are size_is
passed_program maps law None limit number dropped wanted carried passed audios start found answer are units map_is others_are rest_is due places sizes_are size_is =
    let read = own_read None limit number dropped wanted carried passed audios are found.rest units in
    let of = due (own None limit number dropped wanted carried passed audios are found.rest) (as_found map_is others_are read) in
    record {
      program = of.program;
      read = own_program None limit number dropped wanted carried passed audios are found.rest start answer.program (maps number dropped carried are.map_read.file are.map_read.holds) of;
      read_off = of.read_off;
      sized = λ want. rw sizes_are (own_sizes None limit number dropped wanted carried passed audios are found.rest start answer.program of places want);
      within = rw size_is are.within;
      on_told = tt;
    }
  where
    as_found : found.map ≡ carried.map → found.not_carried ≡ carried.others → AreRead (own None limit number dropped wanted carried passed audios are found.rest)
        (record { map = carried.map; rest = found.rest; not_carried = carried.others }) passed.video audios → AreRead (own None limit number dropped wanted carried passed audios are found.rest) found passed.video audios
    as_found map_is others_are read = record {
      map_is = sym map_is;
      rest_is = refl;
      not_carried_are = sym others_are;
      packets_few = read.packets_few;
      video_few = read.video_few;
      audio_few = read.audio_few;
      audios_few = read.audios_few;
      video_read = read.video_read;
      units_few = read.units_few;
      audios_read = read.audios_read;
    }

-- some program there is, whatever is told
pub some_read : (front : Option (List ℕ)) (limit number : ℕ) (dropped : List ℕ) (wanted : SizesWanted) (carried : CarriedStreams) (passed : VideoPassed) (audios : List ReadStream) (found : FoundMap)
    → AreStreamsPassed front limit number dropped wanted carried passed audios → length passed.video.units.items ≤ 4194304 → found.map ≡ carried.map → found.not_carried ≡ carried.others
    → (demuxed : Demuxed) × AreRead demuxed found passed.video audios
some_read front limit number dropped wanted carried passed audios found are units map_is others_are =
    let read = own_read front limit number dropped wanted carried passed audios are found.rest units in (
      own front limit number dropped wanted carried passed audios are found.rest,
      record {
        map_is = sym map_is;
        rest_is = refl;
        not_carried_are = sym others_are;
        packets_few = read.packets_few;
        video_few = read.video_few;
        audio_few = read.audio_few;
        audios_few = read.audios_few;
        video_read = read.video_read;
        units_few = read.units_few;
        audios_read = read.audios_read;
      },
    )

pub units_told : (front : Option (List ℕ)) (limit number : ℕ) (dropped : List ℕ) (wanted : SizesWanted) (carried : CarriedStreams) (passed : VideoPassed) (audios : List ReadStream)
    → AreStreamsPassed front limit number dropped wanted carried passed audios → 4194304 < length passed.video.units.items
    → IfSome front (λ file. IsProgramRefused Ts file number dropped passes_limit)
units_told None limit number dropped wanted carried passed audios are many = tt
units_told (Some file) limit number dropped wanted carried passed audios are many = told_units file limit number dropped wanted carried passed audios are many

-- ---- refusals

abbrev pub IsShort : (front : Option (List ℕ)) → Type 0
IsShort front = IfSome front (λ file. length file ≤ 1099511627776)

refused_told : (front : Option (List ℕ)) (Q R : List ℕ → ProgramFault → Type 0) (fault : PassedFault) → ((file : List ℕ) (found : ProgramFault) → front ≡ Some file → Q file found → R file found)
    → IsOfTold front Q fault → IsOfTold front R fault
refused_told front Q R (faults.Refused found) on (inl memory) = inl memory
refused_told None Q R (faults.Refused found) on (inr told) = inr tt
refused_told (Some file) Q R (faults.Refused found) on (inr told) = inr (on file found refl told)
refused_told front Q R faults.Failed on is = tt
refused_told front Q R faults.Missing on is = tt

short_of : (front : Option (List ℕ)) (file : List ℕ) → IsShort front → front ≡ Some file → length file ≤ 1099511627776
short_of front file short is = subst (λ (told : Option (List ℕ)). IsShort told) is short

told_of : (front : Option (List ℕ)) (file : List ℕ) (P : List ℕ → Type 0) → OfFront front P → front ≡ Some file → P file
told_of front file P of is = on_told (Some file) P (subst (λ (told : Option (List ℕ)). OfFront told P) is of)

pub of_map : (front : Option (List ℕ)) (number : ℕ) (dropped : List ℕ) (fault : PassedFault) → IsShort front → IsOfTold front (IsMapFault number dropped) fault
    → IsOfTold front (λ whole. IsProgramRefused Ts whole number dropped) fault
of_map front number dropped fault short told =
    refused_told front (IsMapFault number dropped) (λ file. IsProgramRefused Ts file number dropped) fault
    (λ file found is refused. map_fault_refused file number dropped found (short_of front file short is) refused) told

pub of_video : (front : Option (List ℕ)) (number : ℕ) (dropped : List ℕ) (carried : CarriedStreams) (fault : PassedFault) → IsShort front → OfFront front (HasStreams number dropped carried)
    → IsOfTold front (IsVideoFault (pids_of carried.map)) fault → IsOfTold front (λ whole. IsProgramRefused Ts whole number dropped) fault
of_video front number dropped carried fault short has told =
    refused_told front (IsVideoFault (pids_of carried.map)) (λ file. IsProgramRefused Ts file number dropped) fault
    (λ file found is refused. video_fault_refused file number dropped carried (told_of front file (HasStreams number dropped carried) has is) (short_of front file short is) found refused) told

pub of_audios : (front : Option (List ℕ)) (number : ℕ) (dropped : List ℕ) (wanted : SizesWanted) (carried : CarriedStreams) (passed : VideoPassed) (fault : PassedFault) → IsShort front
    → OfFront front (HasStreams number dropped carried) → OfFront front (IsVideoPassed (pids_of carried.map) wanted passed)
    → IsOfTold front (IsAudiosFault (pids_of carried.map) passed.video.first.stated) fault → IsOfTold front (λ whole. IsProgramRefused Ts whole number dropped) fault
of_audios front number dropped wanted carried passed fault short has video told =
    refused_told front (IsAudiosFault (pids_of carried.map) passed.video.first.stated) (λ file. IsProgramRefused Ts file number dropped) fault
    (λ file found is refused.
    in_file file found (told_of front file (HasStreams number dropped carried) has is) (told_of front file (IsVideoPassed (pids_of carried.map) wanted passed) video is) (short_of front file short is)
    refused) told
  where
    in_file : (file : List ℕ) (found : ProgramFault) → HasStreams number dropped carried file → IsVideoPassed (pids_of carried.map) wanted passed file → length file ≤ 1099511627776
        → IsAudiosFault (pids_of carried.map) passed.video.first.stated file found → IsProgramRefused Ts file number dropped found
    in_file file found has video short refused =
        let some = some_demuxed file number dropped carried.map carried.others has.tables has.few has.short video.1.sound_video.sound in
        audios_refused file number dropped some.0 some.1 wanted passed.video
        (subst (λ (m : ProgramMap). IsVideoRead file (pids_of m) wanted passed.video) (sym some.2) video.1) found
        (λ other end. ends_refused file number dropped carried has short other (subst (λ (m : ProgramMap). EndsPasses (pids_of m) file other) some.2 end))
        (subst (λ (m : ProgramMap). IsAudiosFault (pids_of m) passed.video.first.stated file found) (sym some.2) refused)
