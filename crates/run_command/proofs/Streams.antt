-- The stream of a job, written to a file.
use Rattle.std.proofs.Common.{◌≡◌, ◌*◌, ℕ, All, List, [], ◌∷◌, length, map, Option, Result, OnOk, OnErr, inr, subst, sym}
use Rattle.std.proofs.lemmas.List.Elements.{All-cons, All-nil}
use Rattle.std.proofs.lemmas.Option.{IfSome_then}
use Rattle.std.proofs.lemmas.Result.{on_err_weaker, on_ok_weaker}
use Rattle.bit_lists.specs.Fields.{AreBytes}
use Rattle.shelf_io.specs.Files.{Files, with_content}
use Rattle.shelf_io.specs.WholeFile.{HoldsPrefix}
use Rattle.slot_rule.specs.declared.slot_list.SlotList.{SlotList}
use Rattle.slot_rule.specs.SlotList.{IsSlotList}
use Rattle.stream_constants.specs.declared.packets.TheConstants.{PACKET_BYTES}
use Rattle.version_table.specs.declared.table.Table.{Table}
use Rattle.version_table.specs.Choice.{Fits}
use Rattle.version_table.specs.Table.{IsValidTable}
use Rattle.job_report.specs.declared.job.Job.{Job}
use Rattle.job_report.specs.declared.job.ProgramJob.{ProgramJob}
use Rattle.job_report.specs.ValidJob.{IsValidJob}
use Rattle.program_reader.specs.declared.program.Program.{Program}
use Rattle.job_programs.specs.Programs.{ArePrograms}
use Rattle.job_programs.specs.Read.{AreReadEach, AreReadPrograms}
use Rattle.job_programs.specs.Told.{AreProgramsOn}
use Rattle.program_table.specs.Table.{IsTableOf}
use Rattle.job_stream.specs.Stream.{IsStreamIn, layout_of}
use Rattle.clean_laws.specs.Clean.{IsCleanStream}
use Rattle.version_maker.specs.declared.version.UnitVersion.{UnitVersion}
use Rattle.version_source.specs.Pieces.{pieces_of, stream_items}
use Rattle.version_source.specs.Versions.{AreAllVersions, ratios_of}
use Rattle.mux_writer.specs.Output.{output_stream}
use Rattle.job_laws.specs.ParsesTo.{ParsesTo}
use Rattle.time_laws.specs.Carried.{CarriesTable, IsCleanByItsTimes}
use Rattle.job_files.specs.declared.job_table.JobTable.{JobTable}
use Rattle.run_command.specs.Private.StreamFile.{HoldsStream, HoldsStreamPart}
use Rattle.run_command.specs.Written.{IsJobStream, IsStreamOn}

-- a stream has a packet for each of its slots
abbrev pub StreamHasSlots : Type 0
StreamHasSlots = (job : Job) (programs : List Program) (table : Table) (choice : List ℕ) (slots : SlotList) (stream : List ℕ)
    → IsValidJob job → AreReadPrograms job programs → IsTableOf job programs table → IsValidTable table → Fits table choice
    → IsSlotList table choice slots → IsStreamIn job programs choice slots stream → length stream ≡ PACKET_BYTES * slots.slots

-- its bytes are clean
abbrev pub StreamIsClean : Type 0
StreamIsClean = (job : Job) (programs : List Program) (table : Table) (choice : List ℕ) (slots : SlotList) (stream : List ℕ)
    → IsValidJob job → AreReadPrograms job programs → IsTableOf job programs table → IsValidTable table → Fits table choice
    → IsSlotList table choice slots → IsStreamIn job programs choice slots stream → IsCleanStream table choice stream

-- it carries the times of its table
abbrev pub StreamCarriesTimes : Type 0
StreamCarriesTimes = (job : Job) (contents : List (List ℕ)) (programs : List Program) (table : Table) (choice : List ℕ) (slots : SlotList) (stream : List ℕ)
    → IsValidJob job → ArePrograms job contents programs → IsTableOf job programs table → IsValidTable table → Fits table choice
    → IsSlotList table choice slots → IsStreamIn job programs choice slots stream → All (λ (program : Program). AreBytes program.video) programs → CarriesTable table choice (map (λ (program : ProgramJob). program.number) job.programs) stream

-- and is clean by them
abbrev pub StreamIsCleanByTimes : Type 0
StreamIsCleanByTimes = (job : Job) (contents : List (List ℕ)) (programs : List Program) (table : Table) (choice : List ℕ) (slots : SlotList) (stream : List ℕ)
    → IsValidJob job → ArePrograms job contents programs → IsTableOf job programs table → IsValidTable table → Fits table choice
    → IsSlotList table choice slots → IsStreamIn job programs choice slots stream → All (λ (program : Program). AreBytes program.video) programs → IsCleanByItsTimes job.slot (map (λ (program : ProgramJob). program.number) job.programs) stream

-- its programs are read back from it
abbrev pub ProgramsAreReadBack : Type 0
ProgramsAreReadBack = (job : Job) (contents : List (List ℕ)) (programs : List Program) (table : Table) (choice : List ℕ) (slots : SlotList) (versions : List (List (List UnitVersion)))
    → IsValidJob job → ArePrograms job contents programs → IsTableOf job programs table → IsValidTable table → Fits table choice
    → IsSlotList table choice slots → AreAllVersions programs (ratios_of job.programs) versions → All (λ (program : Program). AreBytes program.video) programs
    → ParsesTo (output_stream (layout_of job programs) job.slot (pieces_of (stream_items programs versions choice)) slots.rows) 0 job.programs contents programs versions choice

-- the videos of programs that were read are bytes
videos-bytes : (slot start : ℕ) (jobs : List ProgramJob) (programs : List Program) → AreReadEach slot start jobs programs → All (λ (program : Program). AreBytes program.video) programs
videos-bytes slot start [] [] each = All-nil (λ (program : Program). AreBytes program.video)
videos-bytes slot start [] (p ∷ ps) each = absurd each
videos-bytes slot start (j ∷ js) [] each = absurd each
videos-bytes slot start (j ∷ js) (p ∷ ps) (was, rest) = All-cons (λ (program : Program). AreBytes program.video) p ps was.read.bytes (videos-bytes slot start js ps rest)

-- where the programs are those of contents of their files, it is the job's stream, whole and clean, and they are read back from it
is_job_stream : StreamHasSlots → StreamIsClean → StreamCarriesTimes → StreamIsCleanByTimes → ProgramsAreReadBack
    → (made : JobTable) (choice : List ℕ) (slots : SlotList) (stream : List ℕ) → IsValidJob made.job → AreReadPrograms made.job made.programs
    → IsTableOf made.job made.programs made.table → IsValidTable made.table → Fits made.table choice
    → IsSlotList made.table choice slots → IsStreamIn made.job made.programs choice slots stream
    → (contents : List (List ℕ)) → ArePrograms made.job contents made.programs → IsJobStream made choice slots stream
is_job_stream law clean times by_times back made choice slots stream valid read table table_valid fits list is contents are =
    let bytes = videos-bytes made.job.slot made.job.start made.job.programs made.programs read.each in record {
      is_stream = is;
      whole = law made.job made.programs made.table choice slots stream valid read table table_valid fits list is;
      clean = clean made.job made.programs made.table choice slots stream valid read table table_valid fits list is;
      times = times made.job contents made.programs made.table choice slots stream valid are table table_valid fits list is bytes;
      clean_by_its_times = by_times made.job contents made.programs made.table choice slots stream valid are table table_valid fits list is bytes;
      held = (contents, are);
      read_back = λ files held. subst (λ (bytes : List ℕ). ParsesTo bytes 0 made.job.programs files made.programs is.versions choice) (sym is.stream_is)
          (back made.job files made.programs made.table choice slots is.versions valid held table table_valid fits list is.are_versions bytes);
    }

-- so of programs that were read it is the stream, whole and clean
pub is_stream_on : StreamHasSlots → StreamIsClean → StreamCarriesTimes → StreamIsCleanByTimes → ProgramsAreReadBack
    → (told : Option Files) (made : JobTable) (choice : List ℕ) (slots : SlotList) (stream : List ℕ) → IsValidJob made.job → AreProgramsOn told made.job made.programs
    → IsTableOf made.job made.programs made.table → IsValidTable made.table → Fits made.table choice
    → IsSlotList made.table choice slots → IsStreamIn made.job made.programs choice slots stream → IsStreamOn told made choice slots stream
is_stream_on law clean times by_times back told made choice slots stream valid on table table_valid fits list is =
    let read : AreReadPrograms made.job made.programs = on.read in
    let by_contents : (contents : List (List ℕ)) → ArePrograms made.job contents made.programs → IsJobStream made choice slots stream =
    is_job_stream law clean times by_times back made choice slots stream valid read table table_valid fits list is in record {
      is_stream = is;
      whole = law made.job made.programs made.table choice slots stream valid read table table_valid fits list is;
      clean = clean made.job made.programs made.table choice slots stream valid read table table_valid fits list is;
      of_contents = by_contents;
      held = IfSome_then told on.held (λ files in_files. by_contents in_files.contents in_files.are);
    }

-- a file that holds it
pub holds_stream : {T E : Type 0} (r : Result T E) (old new : Option Files) (name : List ℕ) (made : JobTable) (choice : List ℕ) (slots : SlotList) (stream : List ℕ)
    → IsStreamOn old made choice slots stream → OnOk r (new ≡ with_content old name stream) → OnOk r (HoldsStream old new name made choice slots)
holds_stream r old new name made choice slots stream is same = on_ok_weaker r (λ e. (stream, is, e)) same

-- or a front of it
pub holds_part : {T E : Type 0} (r : Result T E) (old new : Option Files) (name : List ℕ) (made : JobTable) (choice : List ℕ) (slots : SlotList) (stream : List ℕ)
    → IsStreamOn old made choice slots stream → OnErr r (HoldsPrefix old new name stream) → OnErr r (HoldsStreamPart old new name made choice slots)
holds_part r old new name made choice slots stream is part = on_err_weaker r (λ p. inr (stream, is, p)) part
