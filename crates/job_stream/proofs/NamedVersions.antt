-- A choice that fits the table of programs names versions of their units.
use Rattle.std.proofs.Common.{◌≡◌, ℕ, suc, ◌≤◌, List, [], ◌∷◌, ◌++◌, All, length, map, Option, Some, None, refl, sym, ap, subst, ◌∙◌, arith}
use Rattle.std.specs.List.{AllZip, flat_map}
use Rattle.std.proofs.lemmas.List.{length-map}
use Rattle.std.proofs.lemmas.List.Elements.{All-cons, All-nil}
use Rattle.syntax_types.specs.declared.picture.SeqState.{SeqState}
use Rattle.job_report.specs.declared.job.Job.{Job}
use Rattle.job_report.specs.declared.job.ProgramJob.{ProgramJob}
use Rattle.version_table.specs.declared.table.ProgramRow.{ProgramRow}
use Rattle.version_table.specs.declared.table.Table.{Table}
use Rattle.version_table.specs.declared.table.Unit.{Unit as CodedUnit}
use Rattle.version_table.specs.Choice.{Fits, HasVersion}
use Rattle.program_reader.specs.Carry.{unit_weight}
use Rattle.program_reader.specs.declared.program.Program.{Program}
use Rattle.program_reader.specs.declared.program.UnitSource.{UnitSource}
use Rattle.version_maker.specs.declared.version.UnitVersion.{UnitVersion}
use Rattle.version_maker.specs.Versions.{AreVersions}
use Rattle.version_source.specs.Sendable.{bytes_of_unit}
use Rattle.version_source.specs.Versions.{AreAllVersions, AreVideoVersions, NamesVersions, ratios_of}
use Rattle.program_table.specs.Table.{IsTableOf, program_rows, row_version, unit_rows}

-- ---- lists side by side

pub zip-length : {A B : Type 0} (R : A → B → Type 0) (xs : List A) (ys : List B) → AllZip R xs ys → length xs ≡ length ys
zip-length R [] [] all = refl
zip-length R [] (y ∷ ys) all = absurd all
zip-length R (x ∷ xs) [] all = absurd all
zip-length R (x ∷ xs) (y ∷ ys) all = ap suc (zip-length R xs ys all.1)

-- a list beside two others, one behind the other, in its two parts
pub record IsSplit {A B : Type 0} (R : A → B → Type 0) (xs more : List A) (ys : List B) : Type 0 where
  pub own : List B
  pub rest : List B
  pub parts : ys ≡ own ++ rest
  pub first : AllZip R xs own
  pub second : AllZip R more rest

pub zip-split : {A B : Type 0} (R : A → B → Type 0) (xs more : List A) (ys : List B) → AllZip R (xs ++ more) ys → IsSplit R xs more ys
zip-split R [] more ys all = record { own = []; rest = ys; parts = refl; first = tt; second = all }
zip-split R (x ∷ xs) more [] all = absurd all
zip-split R (x ∷ xs) more (y ∷ ys) all =
    let split : IsSplit R xs more ys = zip-split R xs more ys all.1 in record {
      own = y ∷ split.own;
      rest = split.rest;
      parts = ap (λ (zs : List _). y ∷ zs) split.parts;
      first = (all.0, split.first);
      second = split.second;
    }

-- ---- the units of a program

-- a unit has itself and one version at each ratio
versions-count : (before : Option SeqState) (unit coarser : List ℕ) (versions : List UnitVersion) → AreVersions before unit coarser versions → length versions ≡ suc (length coarser)
versions-count before unit coarser versions are =
    let of = are.of_picture in ap length of.in_order ∙ ap suc (sym (zip-length _ coarser of.others of.coarser_ones))

-- the rows of the units of a program are as many as these
pub unit_rows-count : (weight drift : ℕ) (es coarser : List ℕ) (before : Option SeqState) (units : List UnitSource) (versions : List (List UnitVersion))
    → AreVideoVersions es coarser before units versions → length (unit_rows weight drift units versions) ≡ length units
unit_rows-count weight drift es coarser before [] [] are = refl
unit_rows-count weight drift es coarser before [] (v ∷ vs) are = absurd are
unit_rows-count weight drift es coarser before (u ∷ us) [] are = absurd are
unit_rows-count weight drift es coarser before (u ∷ us) (v ∷ vs) (after, leaves, here, rest) = ap suc (unit_rows-count weight drift es coarser (Some after) us vs rest)

own-named : (weight drift : ℕ) (es coarser : List ℕ) (before : Option SeqState) (units : List UnitSource) (versions : List (List UnitVersion)) (own : List ℕ)
    → AreVideoVersions es coarser before units versions → AllZip HasVersion (unit_rows weight drift units versions) own → All (λ index. index ≤ length coarser) own
own-named weight drift es coarser before [] [] [] are fits = All-nil (λ index. index ≤ length coarser)
own-named weight drift es coarser before [] [] (o ∷ os) are fits = absurd fits
own-named weight drift es coarser before [] (v ∷ vs) own are fits = absurd are
own-named weight drift es coarser before (u ∷ us) [] own are fits = absurd are
own-named weight drift es coarser before (u ∷ us) (v ∷ vs) [] are fits = absurd fits
own-named weight drift es coarser before (u ∷ us) (v ∷ vs) (o ∷ os) (after, leaves, here, rest) (has, more) =
    let count : length v ≡ suc (length coarser) = versions-count before (bytes_of_unit es u) coarser v here in
    let same : length (map (row_version (unit_weight weight drift u us) u) v) ≡ length v = length-map v (row_version (unit_weight weight drift u us) u) in
    let within : o ≤ length coarser = omega (arith, has, same, count) in
    All-cons (λ index. index ≤ length coarser) o os within (own-named weight drift es coarser (Some after) us vs os rest more)

-- ---- all programs

-- the units of some rows, in order
abbrev pub all_units : List ProgramRow → List CodedUnit
all_units rows = flat_map (λ row. row.units) rows

all-named : (jobs : List ProgramJob) (programs : List Program) (versions : List (List (List UnitVersion))) (choice : List ℕ) → AreAllVersions programs (ratios_of jobs) versions
    → AllZip HasVersion (all_units (program_rows jobs programs versions)) choice → NamesVersions programs (ratios_of jobs) choice
all-named [] [] [] [] are fits = refl
all-named [] [] [] (c ∷ cs) are fits = absurd fits
all-named [] [] (v ∷ vs) choice are fits = absurd are
all-named [] (p ∷ ps) versions choice are fits = absurd are
all-named (j ∷ js) [] versions choice are fits = absurd are
all-named (j ∷ js) (p ∷ ps) [] choice are fits = absurd are
all-named (j ∷ js) (p ∷ ps) (v ∷ vs) choice (here, rest) fits =
    let split : IsSplit HasVersion (unit_rows j.weight j.drift p.units v) (all_units (program_rows js ps vs)) choice =
    zip-split HasVersion (unit_rows j.weight j.drift p.units v) (all_units (program_rows js ps vs)) choice fits in
    let count : length split.own ≡ length p.units =
    sym (zip-length HasVersion (unit_rows j.weight j.drift p.units v) split.own split.first) ∙ unit_rows-count j.weight j.drift p.video j.coarser.items None p.units v here in
    (split.own, split.rest, split.parts, count, own-named j.weight j.drift p.video j.coarser.items None p.units v split.own here split.first, all-named js ps vs split.rest rest split.second)

-- a choice that fits the table of the programs of a job names versions of their units
pub choice-names : (job : Job) (programs : List Program) (table : Table) (choice : List ℕ) → IsTableOf job programs table → Fits table choice
    → NamesVersions programs (ratios_of job.programs) choice
choice-names job programs table choice of fits =
    all-named job.programs programs of.versions choice of.are_versions (subst (λ (rows : List ProgramRow). AllZip HasVersion (all_units rows) choice) of.rows fits)
