-- The table of the programs of a job keeps the limits of tables.
use Rattle.std.proofs.Common.{◌≡◌, ℕ, zero, suc, ◌+◌, ◌*◌, ◌<◌, ◌≤◌, ◌⊎◌, List, [], ◌∷◌, ◌++◌, length, map, sum_by, All, None, inl, inr, ap, subst, sym, ◌∙◌, arith}
use Rattle.std.specs.List.{flat_map}
use Rattle.std.specs.List.Sorted.{IsStrictlyIncreasing}
use Rattle.std.proofs.lemmas.Bool.{cases_order}
use Rattle.std.proofs.lemmas.List.{length-append, length-map}
use Rattle.std.proofs.lemmas.List.Elements.{All-cons, All-head, All-nil, All-tail}
use Rattle.std.proofs.lemmas.List.Sums.{sum_by-append, sum_by-cons}
use Rattle.picture_grammar.specs.Picture.{IsState}
use Rattle.job_report.specs.declared.job.Job.{Job}
use Rattle.job_report.specs.declared.job.ProgramJob.{ProgramJob}
use Rattle.job_report.specs.ValidJob.{IsValidJob, IsValidProgramJob}
use Rattle.version_table.specs.declared.table.AudioPacket.{AudioPacket}
use Rattle.version_table.specs.declared.table.ProgramRow.{ProgramRow}
use Rattle.version_table.specs.declared.table.Table.{Table}
use Rattle.version_table.specs.Table.{IsValidProgram, IsValidTable, IsValidUnit, audio_packets_of, greatest_distortion, units_of}
use Rattle.version_table.proofs.Greatest.{greatest_together}
use Rattle.program_reader.specs.declared.program.Program.{Program}
use Rattle.program_reader.specs.Programs.{IsProgram, video_bytes, video_packets}
use Rattle.program_reader.specs.Units.{AreInOrder}
use Rattle.job_programs.specs.Distortions.{IsNear, KeepsDistortions}
use Rattle.job_programs.specs.Share.{KeepsShare, audio_packets}
use Rattle.job_programs.specs.Programs.{IsWithinTime, units_of_programs}
use Rattle.job_programs.specs.Read.{AreReadEach, AreReadPrograms, IsReadFor}
use Rattle.program_reader.specs.ReadProgram.{HasItsStreams, IsReadProgram}
use Rattle.version_maker.specs.declared.version.UnitVersion.{UnitVersion}
use Rattle.version_source.specs.Versions.{AreAllVersions, AreVideoVersions, ratios_of}
use Rattle.program_table.specs.Table.{IsRowOf, IsTableOf, audio_row, program_row, program_rows, unit_rows}
use Rattle.program_table.proofs.AudioLimits.{rows-packets, sources-as-many, streams-valid}
use Rattle.program_table.proofs.UnitLimits.{AreAllNear, HavePlaces, Climb, IsShortUnit, all-near, told-near, told-together, climb-rises, dues-climb, dues_of, kept-in-order, pictures-state, row-dues, rows-few, rows-valid, sources-many, units-short}

-- ---- one program

-- the audio packets of a row
abbrev audio_packets_in : ProgramRow → List AudioPacket
audio_packets_in row = flat_map (λ packets. packets) row.audios

-- a row keeps the limits, and takes no more than one of eight may: audio packets, and distortions
record IsFine (slot : ℕ) (row : ProgramRow) : Type 0 where
  pub valid : IsValidProgram slot row
  pub few : length (audio_packets_in row) ≤ 536870911
  pub together : sum_by greatest_distortion row.units < 1152921504606846976

program-short : (start : ℕ) (program : Program) → IsReadProgram start program → All IsShortUnit program.units
program-short start program was =
    let read : IsProgram start was.demuxed program = was.program_is in
    let es = video_bytes was.demuxed in
    let packets = video_packets was.demuxed in
    let pictures = read.has_pictures in
    units-short start read.earliest es packets [] read.kept read.pictures program.units read.units_are
    (kept-in-order es packets pictures.units.cuts read.kept read.pictures pictures.at_end pictures.kept_are)

-- the greatest distortions of a program's units together are below its limit
together-of : (slot weight : ℕ) (coarser : List ℕ) (program : Program) (versions : List (List UnitVersion)) (drift : ℕ) → KeepsDistortions weight drift coarser program
    → All (IsValidUnit slot) (unit_rows weight drift program.units versions) → AreVideoVersions program.video coarser None program.units versions
    → sum_by greatest_distortion (unit_rows weight drift program.units versions) < 1152921504606846976
together-of slot weight coarser program versions drift keeps valid is = by-drift drift keeps valid
  where
    told : (drift : ℕ) → IsNear weight drift coarser program → sum_by greatest_distortion (unit_rows weight drift program.units versions) < 1152921504606846976
    told drift near =
        subst (λ (n : ℕ). n < 1152921504606846976) (sym (told-together weight drift program.video coarser None program.units versions near.sizes is near.are_sizes)) near.together

    few : (drift : ℕ) → All (IsValidUnit slot) (unit_rows weight drift program.units versions) → length program.units ≤ 4096
        → sum_by greatest_distortion (unit_rows weight drift program.units versions) < 1152921504606846976
    few drift valid less = omega (arith, greatest_together slot (unit_rows weight drift program.units versions) valid, rows-few weight drift program.units versions, less)

    by-count : KeepsDistortions weight zero coarser program → All (IsValidUnit slot) (unit_rows weight zero program.units versions)
        → (4096 ≡ length program.units) ⊎ ((4096 < length program.units) ⊎ (length program.units < 4096))
        → sum_by greatest_distortion (unit_rows weight zero program.units versions) < 1152921504606846976
    by-count keeps valid (inl same) = few zero valid (omega (arith, same))
    by-count keeps valid (inr (inl many)) = told zero (keeps (inr many))
    by-count keeps valid (inr (inr less)) = few zero valid (omega (arith, less))

    by-drift : (drift : ℕ) → KeepsDistortions weight drift coarser program → All (IsValidUnit slot) (unit_rows weight drift program.units versions)
        → sum_by greatest_distortion (unit_rows weight drift program.units versions) < 1152921504606846976
    by-drift (suc less) keeps valid = told (suc less) (keeps (inl (omega arith)))
    by-drift zero keeps valid = by-count keeps valid (cases_order 4096 (length program.units))

program-fine : HavePlaces → (slot start weight drift : ℕ) (coarser : List ℕ) (program : Program) (versions : List (List UnitVersion)) → length coarser ≤ 7
    → IsReadProgram start program → IsWithinTime slot program → AreVideoVersions program.video coarser None program.units versions
    → KeepsShare weight drift coarser program → AreAllNear weight drift program.units versions → IsFine slot (program_row weight drift program versions)
program-fine places slot start weight drift coarser program versions few_ratios was within is room near =
    let demuxed = was.demuxed in
    let read : IsProgram start demuxed program = was.program_is in
    let es = video_bytes demuxed in
    let packets = video_packets demuxed in
    let pictures = read.has_pictures in
    let in_order : AreInOrder es packets [] read.kept read.pictures = kept-in-order es packets pictures.units.cuts read.kept read.pictures pictures.at_end pictures.kept_are in
    let state : IsState read.first.seq =
    pictures-state read.kept read.first read.pictures es packets pictures.later pictures.first_is in_order in
    let vbv : program.vbv ≡ read.first.seq.vbv = read.vbv_is in
    let least : 1 ≤ read.first.seq.vbv = state.vbv.0 in
    let most : read.first.seq.vbv ≤ 112 = state.vbv.1 in
    let climb : Climb 0 (dues_of program.units) =
    dues-climb start read.earliest es packets [] 0 read.kept read.pictures program.units (λ ticks due later is. omega arith) read.units_are in_order in
    let rises : IsStrictlyIncreasing (dues_of program.units) = climb-rises 0 (dues_of program.units) climb in
    let short : All IsShortUnit program.units = program-short start program was in
    let as_many : length program.audios ≡ length demuxed.audios = sources-as-many start read.earliest demuxed.audios read.frames program.audios read.audios_are in
    let its : HasItsStreams demuxed = was.within.its_streams in
    let audios : length (map audio_row program.audios) ≡ length program.audios = length-map program.audios audio_row in
    let count : length (flat_map (λ packets. packets) (map audio_row program.audios)) ≡ audio_packets program.audios = rows-packets program.audios in
    let eight : length program.audios ≤ 8 = omega (arith, as_many, its.few) in
    let units : All (IsValidUnit slot) (unit_rows weight drift program.units versions) =
    rows-valid places slot weight drift program.video coarser None program.units versions few_ratios was.bytes tt short within.units is near in
    record {
      valid = record {
        some_vbv = omega (arith, vbv, least);
        vbv = omega (arith, vbv, most);
        units = units;
        dues = subst IsStrictlyIncreasing (sym (row-dues weight drift program.video coarser None program.units versions is)) rises;
        few_audios = omega (arith, audios, eight);
        audios = streams-valid slot start read.earliest read.first.stated demuxed.audios read.frames program.audios read.have_frames read.audios_are within.audio_gones;
      };
      few = omega (arith, count, room.packets);
      together = together-of slot weight coarser program versions drift room.distortions units is;
    }

-- a row has a place in a table: it keeps the limits, and its units and audio packets aren't too many
pub row-valid : HavePlaces → (slot start weight : ℕ) (coarser : List ℕ) (program : Program) (row : ProgramRow) → weight ≤ 100 → length coarser ≤ 7
    → IsReadProgram start program → IsWithinTime slot program → KeepsShare weight 0 coarser program → IsRowOf program coarser weight 0 row
    → IsValidProgram slot row × (length row.units ≤ 4194304) × (length (flat_map (λ packets. packets) row.audios) < 4294967296)
    × (sum_by greatest_distortion row.units < 9223372036854775808)
row-valid places slot start weight coarser program row light few_ratios was within room is =
    let fine : IsFine slot row =
    subst (IsFine slot) (sym is.row_is) (program-fine places slot start weight 0 coarser program is.versions few_ratios was within is.are_versions room
    (all-near places weight program.video coarser None program.units is.versions light was.bytes tt (program-short start program was) is.are_versions)) in
    let rows : length row.units ≡ length (unit_rows weight 0 program.units is.versions) = ap (λ (r : ProgramRow). length r.units) is.row_is in
    let read : IsProgram start was.demuxed program = was.program_is in
    let count : length program.units ≡ length read.kept = sources-many start read.earliest read.kept read.pictures program.units read.units_are in
    let most : length read.kept ≤ 4194304 = read.few in
    let few : length row.units ≤ 4194304 = omega (arith, rows, rows-few weight 0 program.units is.versions, count, most) in
    (fine.valid, few, omega (arith, fine.few), omega (arith, fine.together))

-- ---- all programs

one-fine : HavePlaces → (slot start : ℕ) (job : ProgramJob) (program : Program) (versions : List (List UnitVersion))
    → IsValidProgramJob job → IsReadFor slot start job program → AreVideoVersions program.video job.coarser.items None program.units versions
    → IsFine slot (program_row job.weight job.drift program versions)
one-fine places slot start job program versions valid was is =
    program-fine places slot start job.weight job.drift job.coarser.items program versions valid.few_coarser was.read was.within is was.share (by-drift job.drift was.share.distortions)
  where
    by-drift : (drift : ℕ) → KeepsDistortions job.weight drift job.coarser.items program → AreAllNear job.weight drift program.units versions
    by-drift zero keeps =
        all-near places job.weight program.video job.coarser.items None program.units versions valid.weight was.read.bytes tt (program-short start program was.read) is
    by-drift (suc less) keeps =
        let near = keeps (inl (omega arith)) in
        told-near job.weight (suc less) program.video job.coarser.items None program.units versions near.sizes is near.are_sizes near.near

programs-fine : HavePlaces → (slot start : ℕ) (programs : List Program) (jobs : List ProgramJob) (versions : List (List (List UnitVersion)))
    → All IsValidProgramJob jobs → AreReadEach slot start jobs programs → AreAllVersions programs (ratios_of jobs) versions → All (IsFine slot) (program_rows jobs programs versions)
programs-fine places slot start [] [] [] valid read is = All-nil (IsFine slot)
programs-fine places slot start [] [] (v ∷ vs) valid read is = absurd is
programs-fine places slot start [] (j ∷ js) versions valid read is = absurd read
programs-fine places slot start (p ∷ ps) [] versions valid read is = absurd read
programs-fine places slot start (p ∷ ps) (j ∷ js) [] valid read is = absurd is
programs-fine places slot start (program ∷ programs) (job ∷ jobs) (own ∷ more) valid read is =
    All-cons (IsFine slot) (program_row job.weight job.drift program own) (program_rows jobs programs more)
    (one-fine places slot start job program own (All-head IsValidProgramJob job jobs valid) read.0 is.0)
    (programs-fine places slot start programs jobs more (All-tail IsValidProgramJob job jobs valid) read.1 is.1)

all-valid : (slot : ℕ) (rows : List ProgramRow) → All (IsFine slot) rows → All (IsValidProgram slot) rows
all-valid slot rows fine = λ k d within. (fine k d within).valid

packets-few : (slot : ℕ) (rows : List ProgramRow) → All (IsFine slot) rows → length (flat_map audio_packets_in rows) ≤ 536870911 * length rows
packets-few slot [] fine = omega arith
packets-few slot (r ∷ rs) fine =
    let here : IsFine slot r = All-head (IsFine slot) r rs fine in
    let rest : length (flat_map audio_packets_in rs) ≤ 536870911 * length rs = packets-few slot rs (All-tail (IsFine slot) r rs fine) in
    let both : length (audio_packets_in r ++ flat_map audio_packets_in rs) ≡ length (audio_packets_in r) + length (flat_map audio_packets_in rs) =
    length-append (audio_packets_in r) (flat_map audio_packets_in rs) in
    sum (length (audio_packets_in r)) (length (flat_map audio_packets_in rs)) (length (audio_packets_in r ++ flat_map audio_packets_in rs)) (length rs) here.few rest both
  where
    sum : (own rest both count : ℕ) → own ≤ 536870911 → rest ≤ 536870911 * count → both ≡ own + rest → both ≤ 536870911 * suc count
    sum own rest both count few more is = omega (arith, few, more, is)

together-few : (slot : ℕ) (rows : List ProgramRow) → All (IsFine slot) rows → sum_by greatest_distortion (flat_map (λ row. row.units) rows) ≤ 1152921504606846975 * length rows
together-few slot [] fine = omega arith
together-few slot (r ∷ rs) fine =
    let here : IsFine slot r = All-head (IsFine slot) r rs fine in
    let rest : sum_by greatest_distortion (flat_map (λ (row : ProgramRow). row.units) rs) ≤ 1152921504606846975 * length rs = together-few slot rs (All-tail (IsFine slot) r rs fine) in
    sum (sum_by greatest_distortion r.units) (sum_by greatest_distortion (flat_map (λ (row : ProgramRow). row.units) rs))
    (sum_by greatest_distortion (r.units ++ flat_map (λ (row : ProgramRow). row.units) rs)) (length rs) here.together rest
    (sum_by-append greatest_distortion r.units (flat_map (λ (row : ProgramRow). row.units) rs))
  where
    sum : (own rest both count : ℕ) → own < 1152921504606846976 → rest ≤ 1152921504606846975 * count → both ≡ own + rest → both ≤ 1152921504606846975 * suc count
    sum own rest both count few more is = omega (arith, few, more, is)

rows-fewer : (jobs : List ProgramJob) (programs : List Program) (versions : List (List (List UnitVersion))) → length (program_rows jobs programs versions) ≤ length jobs
rows-fewer [] [] [] = omega arith
rows-fewer [] [] (v ∷ vs) = omega arith
rows-fewer [] (p ∷ ps) versions = omega arith
rows-fewer (j ∷ js) [] versions = omega arith
rows-fewer (j ∷ js) (p ∷ ps) [] = omega arith
rows-fewer (j ∷ js) (p ∷ ps) (v ∷ vs) = let rest : length (program_rows js ps vs) ≤ length js = rows-fewer js ps vs in omega (arith, rest)

-- ---- units of all programs

units-fewer : (jobs : List ProgramJob) (programs : List Program) (versions : List (List (List UnitVersion)))
    → length (flat_map (λ row. row.units) (program_rows jobs programs versions)) ≤ units_of_programs programs
units-fewer [] [] [] = omega arith
units-fewer [] [] (v ∷ vs) = omega arith
units-fewer [] (p ∷ ps) versions = omega arith
units-fewer (j ∷ js) [] versions = omega arith
units-fewer (j ∷ js) (p ∷ ps) [] = omega arith
units-fewer (j ∷ js) (p ∷ ps) (v ∷ vs) =
    let rest : length (flat_map (λ (row : ProgramRow). row.units) (program_rows js ps vs)) ≤ units_of_programs ps = units-fewer js ps vs in
    let here : length (unit_rows j.weight j.drift p.units v) ≤ length p.units = rows-few j.weight j.drift p.units v in
    omega (
      arith,
      here,
      rest,
      length-append (unit_rows j.weight j.drift p.units v) (flat_map (λ (row : ProgramRow). row.units) (program_rows js ps vs)),
      sum_by-cons (λ (program : Program). length program.units) p ps,
    )

-- ---- the table

pub table-valid : HavePlaces → (job : Job) (programs : List Program) (table : Table) → IsValidJob job → AreReadPrograms job programs → IsTableOf job programs table
    → IsValidTable table
table-valid places job programs table valid read is =
    let rows : List ProgramRow = program_rows job.programs programs is.versions in
    let fine : All (IsFine job.slot) rows = programs-fine places job.slot job.start programs job.programs is.versions valid.programs read.each is.are_versions in
    let fine_table : All (IsFine table.slot) table.programs =
    subst (λ (slot : ℕ). All (IsFine slot) table.programs) (sym is.slot) (subst (λ (rs : List ProgramRow). All (IsFine job.slot) rs) (sym is.rows) fine) in
    let count : length table.programs ≡ length rows = ap (λ (rs : List ProgramRow). length rs) is.rows in
    let fewer : length rows ≤ length job.programs = rows-fewer job.programs programs is.versions in
    let units : length (units_of table) ≡ length (flat_map (λ (row : ProgramRow). row.units) rows) =
    ap (λ (rs : List ProgramRow). length (flat_map (λ (row : ProgramRow). row.units) rs)) is.rows in
    let some : length (flat_map (λ (row : ProgramRow). row.units) rows) ≤ units_of_programs programs = units-fewer job.programs programs is.versions in
    let most : units_of_programs programs ≤ 4194304 = read.few_units in
    let packets : length (audio_packets_of table) ≤ 536870911 * length table.programs = packets-few table.slot table.programs fine_table in
    let slot : table.slot ≡ job.slot = is.slot in
    let nodes : table.nodes ≡ job.nodes = is.nodes in
    let evaluations : table.evaluations ≡ job.evaluations = is.evaluations in
    let eight : length job.programs ≤ 8 = valid.few_programs in
    let together : sum_by greatest_distortion (units_of table) ≤ 1152921504606846975 * length table.programs = together-few table.slot table.programs fine_table in
    record {
      slot_least = omega (arith, slot, valid.slot_least);
      slot_most = omega (arith, slot, valid.slot_most);
      some_nodes = omega (arith, nodes, valid.some_nodes);
      nodes = omega (arith, nodes, valid.nodes);
      evaluations = omega (arith, evaluations, valid.evaluations);
      few_programs = omega (arith, count, fewer, eight);
      programs = all-valid table.slot table.programs fine_table;
      units = omega (arith, units, some, most);
      distortions = omega (arith, together, count, fewer, eight);
      audio_packets = omega (arith, packets, count, fewer, eight);
    }
