-- The stream of a job carries the times of the table of its programs.
use Rattle.std.proofs.Common.{◌≡◌, ℕ, zero, suc, ◌+◌, ◌<◌, List, [], ◌∷◌, All, length, map, Some, refl, sym, ap, subst, ◌∙◌, arith}
use Rattle.std.specs.Prelude.{slice_get, slice_index}
use Rattle.std.specs.List.{AllZip, flat_map}
use Rattle.std.proofs.lemmas.List.{length-map}
use Rattle.std.proofs.lemmas.Option.{none-some, same_Some, slice_get_within}
use Rattle.ts_packets.specs.TransportStream.{packets}
use Rattle.version_table.specs.declared.table.ProgramRow.{ProgramRow}
use Rattle.version_table.specs.declared.table.Table.{Table}
use Rattle.version_table.specs.Choice.{Fits, HasVersion}
use Rattle.version_table.specs.Table.{IsValidTable}
use Rattle.slot_rule.specs.declared.slot_list.SlotList.{SlotList}
use Rattle.slot_rule.specs.Sent.{choice_from}
use Rattle.slot_rule.specs.SlotList.{IsSlotList}
use Rattle.job_report.specs.declared.job.Job.{Job}
use Rattle.job_report.specs.declared.job.ProgramJob.{ProgramJob}
use Rattle.job_report.specs.ValidJob.{IsValidJob}
use Rattle.program_reader.specs.declared.program.Program.{Program}
use Rattle.version_maker.specs.declared.version.UnitVersion.{UnitVersion}
use Rattle.version_source.specs.Versions.{AreAllVersions, ratios_of}
use Rattle.program_table.specs.Table.{program_rows}
use Rattle.job_programs.specs.Programs.{ArePrograms}
use Rattle.mux_writer.specs.declared.layout.Layout.{Layout}
use Rattle.mux_writer.specs.Layout.{map_pid, video_pid}
use Rattle.mux_writer.specs.Output.{output_packets, output_stream}
use Rattle.mux_writer.specs.Pieces.{Pieces}
use Rattle.job_stream.specs.Stream.{layout_of}
use Rattle.parsing_laws.specs.TakenOut.{LeadsToMap}
use Rattle.job_laws.specs.ParsesTo.{ParsesTo}
use Rattle.time_laws.specs.Carried.{CarriesTable, CarriesTimes}
use Rattle.time_laws.specs.Clock.{IsClock}
use Rattle.time_laws.proofs.Audios.{WhereverItStands}
use Rattle.time_laws.proofs.Clocks.{clock-of}
use Rattle.time_laws.proofs.Programs.{OneDemuxed, carries-each}
use Rattle.time_laws.proofs.Spelled.{SpellingLaws}

rows-many : (jobs : List ProgramJob) (programs : List Program) (versions : List (List (List UnitVersion))) → AreAllVersions programs (ratios_of jobs) versions
    → (length programs ≡ length (program_rows jobs programs versions)) × (length jobs ≡ length (program_rows jobs programs versions))
rows-many [] [] [] are = (refl, refl)
rows-many [] [] (v ∷ vs) are = absurd are
rows-many [] (p ∷ ps) versions are = absurd are
rows-many (j ∷ js) [] versions are = absurd are
rows-many (j ∷ js) (p ∷ ps) [] are = absurd are
rows-many (j ∷ js) (p ∷ ps) (v ∷ vs) are = let rest = rows-many js ps vs are.1 in (ap suc rest.0, ap suc rest.1)

base-at : (programs : List Program) (place : ℕ) (p : Program) → slice_get programs place ≡ Some p → slice_index (map (λ (program : Program). program.base) programs) place ≡ p.base
base-at [] zero p there = absurd (none-some p there)
base-at [] (suc place) p there = absurd (none-some p there)
base-at (q ∷ qs) zero p there = ap (λ (program : Program). program.base) (same_Some q p there)
base-at (q ∷ qs) (suc place) p there = base-at qs place p there

pub times-carried : SpellingLaws → OneDemuxed → WhereverItStands → (job : Job) (contents : List (List ℕ)) (programs : List Program) (table : Table) (choice : List ℕ) (slots : SlotList)
    (pieces : Pieces) (versions : List (List (List UnitVersion))) → IsValidJob job → ArePrograms job contents programs → table.slot ≡ job.slot
    → table.programs ≡ program_rows job.programs programs versions → AreAllVersions programs (ratios_of job.programs) versions → IsValidTable table → Fits table choice → IsSlotList table choice slots
    → All (λ (base : ℕ). base < 2576980377600) (map (λ (program : Program). program.base) programs)
    → packets (output_stream (layout_of job programs) job.slot pieces slots.rows) ≡ map Some (output_packets (layout_of job programs) job.slot pieces slots.rows)
    → ParsesTo (output_stream (layout_of job programs) job.slot pieces slots.rows) 0 job.programs contents programs versions choice
    → ((place number : ℕ) → slice_get (map (λ (program : ProgramJob). program.number) job.programs) place ≡ Some number
    → LeadsToMap (output_stream (layout_of job programs) job.slot pieces slots.rows) number (map_pid place))
    → CarriesTable table choice (map (λ (program : ProgramJob). program.number) job.programs) (output_stream (layout_of job programs) job.slot pieces slots.rows)
times-carried laws one wherever job contents programs table choice slots pieces versions valid are slot_is rows_are are_versions table_valid fits list bases read back leads = record {
  stream = output_packets layout job.slot pieces slots.rows;
  read = read;
  as_many = length-map job.programs (λ (program : ProgramJob). program.number) ∙ many.1 ∙ sym (ap length rows_are);
  each = λ place number row there found.
      let part : choice_from (program_rows job.programs programs versions) place choice ≡ choice_from table.programs place choice =
      ap (λ (rows : List ProgramRow). choice_from rows place choice) (sym rows_are) in
      subst (λ (c : List ℕ). CarriesTimes (output_stream layout job.slot pieces slots.rows) (output_packets layout job.slot pieces slots.rows) table.slot place number row c) part
      (subst
      (λ (slot : ℕ). CarriesTimes (output_stream layout job.slot pieces slots.rows) (output_packets layout job.slot pieces slots.rows) slot place number row
      (choice_from (program_rows job.programs programs versions) place choice))
      (sym slot_is)
      (subst
      (λ (k : ℕ). CarriesTimes (output_stream layout job.slot pieces slots.rows) (output_packets layout job.slot pieces slots.rows) job.slot k number row
      (choice_from (program_rows job.programs programs versions) place choice))
      (let e : 0 + place ≡ place = omega arith in e)
      (carries-each laws one wherever (output_stream layout job.slot pieces slots.rows) (output_packets layout job.slot pieces slots.rows) job.slot job.start (omega (arith, valid.slot_most)) 0
      job.programs programs versions choice [] [] contents are are_versions fit back led clocks place number row there
      (sym (ap (λ (rows : List ProgramRow). slice_get rows place) rows_are) ∙ found))));
}
  where
    layout : Layout
    layout = layout_of job programs

    many : (length programs ≡ length (program_rows job.programs programs versions)) × (length job.programs ≡ length (program_rows job.programs programs versions))
    many = rows-many job.programs programs versions are_versions

    fit : AllZip HasVersion (flat_map (λ (row : ProgramRow). row.units) (program_rows job.programs programs versions)) choice
    fit = subst (λ (rows : List ProgramRow). AllZip HasVersion (flat_map (λ (row : ProgramRow). row.units) rows) choice) rows_are fits

    led : (place number : ℕ) → slice_get (map (λ (program : ProgramJob). program.number) job.programs) place ≡ Some number
        → LeadsToMap (output_stream layout job.slot pieces slots.rows) number (map_pid (0 + place))
    led place number there =
        subst (λ (k : ℕ). LeadsToMap (output_stream layout job.slot pieces slots.rows) number (map_pid k)) (let e : place ≡ 0 + place = omega arith in e) (leads place number there)

    clocks : (place : ℕ) (p : Program) → slice_get programs place ≡ Some p → IsClock (output_packets layout job.slot pieces slots.rows) job.slot (video_pid (0 + place)) p.base
    clocks place p there =
        let inside : place < length programs = slice_get_within programs place p there in
        let rows : place < length table.programs = omega (arith, inside, many.0, ap length rows_are) in
        let base : slice_index (map (λ (program : Program). program.base) programs) place ≡ p.base = base-at programs place p there in
        let below : p.base < 2576980377600 =
        subst (λ (b : ℕ). b < 2576980377600) base (bases place 0 (omega (arith, inside, length-map programs (λ (program : Program). program.base)))) in
        subst (λ (slot : ℕ). IsClock (output_packets layout slot pieces slots.rows) slot (video_pid (0 + place)) p.base) slot_is
        (subst (λ (k : ℕ). IsClock (output_packets layout table.slot pieces slots.rows) table.slot (video_pid k) p.base) (let e : place ≡ 0 + place = omega arith in e)
        (clock-of layout pieces table choice slots place p.base table_valid list rows base below))
