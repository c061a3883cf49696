-- The stream of a job.
use Rattle.std.specs.Prelude.{◌≡◌, ℕ, ◌*◌, List, length, map, Option, IfSome}
use Rattle.shelf_io.specs.Files.{Files}
use Rattle.slot_rule.specs.declared.slot_list.SlotList.{SlotList}
use Rattle.stream_constants.specs.declared.packets.TheConstants.{PACKET_BYTES}
use Rattle.job_stream.specs.Stream.{IsStreamIn}
use Rattle.clean_laws.specs.Clean.{IsCleanStream}
use Rattle.time_laws.specs.Carried.{CarriesTable, IsCleanByItsTimes}
use Rattle.job_programs.specs.Programs.{ArePrograms}
use Rattle.job_laws.specs.ParsesTo.{ParsesTo}
use Rattle.job_files.specs.declared.job_table.JobTable.{JobTable}

-- The stream of a job in these versions and slots: a packet of 188 bytes for each slot, whose bytes, read by themselves, give no buffer of the
-- system target decoder a fault, with removals by the table's times; these times are those that the bytes carry, so with removals by the bytes' own times
-- none has a fault; and read as files are, they give the programs again, with their units in the versions that the choice names and the audio PES packets of
-- the programs' files, whichever contents hold the programs; some do.
pub record IsJobStream (made : JobTable) (choice : List ℕ) (slots : SlotList) (stream : List ℕ) : Type 0 where
  pub is_stream : IsStreamIn made.job made.programs choice slots stream
  pub whole : length stream ≡ PACKET_BYTES * slots.slots
  pub clean : IsCleanStream made.table choice stream
  pub times : CarriesTable made.table choice (map (λ program. program.number) made.job.programs) stream
  pub clean_by_its_times : IsCleanByItsTimes made.job.slot (map (λ program. program.number) made.job.programs) stream
  pub held : (contents : List (List ℕ)) × ArePrograms made.job contents made.programs
  pub read_back : (contents : List (List ℕ)) → ArePrograms made.job contents made.programs
      → ParsesTo stream 0 made.job.programs contents made.programs is_stream.versions choice

-- The stream of a job whose programs were read: a packet for each slot, whose bytes give no buffer a fault; and all of the above where there are contents of
-- the programs' files of which they are the programs, as there are where the shelf tells its files.
pub record IsStreamOn (told : Option Files) (made : JobTable) (choice : List ℕ) (slots : SlotList) (stream : List ℕ) : Type 0 where
  pub is_stream : IsStreamIn made.job made.programs choice slots stream
  pub whole : length stream ≡ PACKET_BYTES * slots.slots
  pub clean : IsCleanStream made.table choice stream
  pub of_contents : (contents : List (List ℕ)) → ArePrograms made.job contents made.programs → IsJobStream made choice slots stream
  pub held : IfSome told (λ files. IsJobStream made choice slots stream)
