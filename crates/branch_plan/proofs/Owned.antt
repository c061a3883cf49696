-- Units with their programs, numbered over all programs in order.
use Rattle.std.proofs.Common.{◌≡◌, ℕ, ◌+◌, ◌-◌, ◌*◌, ◌<◌, ◌≤◌, nat_le, List, [], ◌∷◌, ◌++◌, length, map, drop, get_or, refl, sym, ap, ◌∙◌, arith}
use Rattle.std.specs.List.{list_all}
use Rattle.std.proofs.lemmas.List.{drop_more, get_or-map, get_or_append_left, get_or-append_right, length-map}
use Rattle.stream_constants.specs.declared.decoder.TheConstants.{EB_UNIT_BYTES}
use Rattle.version_table.specs.declared.table.ProgramRow.{ProgramRow}
use Rattle.version_table.specs.declared.table.Table.{Table}
use Rattle.version_table.specs.declared.table.Unit.{Unit as CodedUnit}
use Rattle.version_table.specs.declared.table.Version.{Version}
use Rattle.version_table.specs.Table.{units_of}
use Rattle.version_table.proofs.TableLines.{units_in}
use Rattle.buffer_windows.specs.Charges.{OwnedUnit, owned_from, owned_units}
use Rattle.certificate_checker.proofs.Units.{no_unit}
use Rattle.certificate_checker.specs.Shown.{versions_of}
use Rattle.branch_plan.specs.Bound.{owned_at, unit_fits}

abbrev pub no_owned : OwnedUnit
no_owned = record { program = 0; vbv = 0; unit = no_unit }

-- a unit of a program
abbrev pub own : (program vbv : ℕ) → CodedUnit → OwnedUnit
own program vbv unit = record { program = program; vbv = vbv; unit = unit }

-- ---- their units are the table's
row_units : (program vbv : ℕ) (units : List CodedUnit) (others : List OwnedUnit)
    → map (λ (owned : OwnedUnit). owned.unit) (map (own program vbv) units ++ others) ≡ units ++ map (λ (owned : OwnedUnit). owned.unit) others
row_units program vbv [] others = refl
row_units program vbv (unit ∷ units) others = ap (λ (rest : List CodedUnit). unit ∷ rest) (row_units program vbv units others)

units_are : (program : ℕ) (rows : List ProgramRow) → map (λ (owned : OwnedUnit). owned.unit) (owned_from program rows) ≡ units_in rows
units_are program [] = refl
units_are program (row ∷ rows) =
    row_units program row.vbv row.units (owned_from (program + 1) rows) ∙ ap (λ (rest : List CodedUnit). row.units ++ rest) (units_are (program + 1) rows)

pub owned_count : (table : Table) → length (owned_units table) ≡ length (units_of table)
owned_count table = sym (length-map (owned_units table) (λ (owned : OwnedUnit). owned.unit)) ∙ ap (λ (us : List CodedUnit). length us) (units_are 0 table.programs)

pub owned_unit : (table : Table) (unit : ℕ) → unit < length (units_of table) → (owned_at table unit).unit ≡ get_or (units_of table) unit no_unit
owned_unit table unit within =
    let at : get_or (map (λ (owned : OwnedUnit). owned.unit) (owned_units table)) unit no_unit ≡ (get_or (owned_units table) unit no_owned).unit =
    get_or-map (λ (owned : OwnedUnit). owned.unit) (owned_units table) unit no_owned no_unit (omega (arith, within, owned_count table)) in
    sym at ∙ ap (λ (us : List CodedUnit). get_or us unit no_unit) (units_are 0 table.programs)

pub versions_are : (table : Table) (unit : ℕ) → unit < length (units_of table) → length (owned_at table unit).unit.versions.items ≡ versions_of table unit
versions_are table unit within = ap (λ (u : CodedUnit). length u.versions.items) (owned_unit table unit within)

-- its program's, beside the unit itself
pub owned_by : (table : Table) (unit program vbv : ℕ) (own_unit : CodedUnit) → unit < length (units_of table) → owned_at table unit ≡ own program vbv own_unit
    → owned_at table unit ≡ own program vbv (get_or (units_of table) unit no_unit)
owned_by table unit program vbv own_unit within is =
    let same : own_unit ≡ get_or (units_of table) unit no_unit = sym (ap (λ (o : OwnedUnit). o.unit) is) ∙ owned_unit table unit within in
    is ∙ ap (own program vbv) same

-- ---- all programs
pub whole : (rows : List ProgramRow) → rows ≡ drop 0 rows
whole [] = refl
whole (row ∷ rows) = refl

pub from_first : (table : Table) (rows : List ProgramRow) → rows ≡ table.programs → owned_from 0 (drop 0 rows) ≡ owned_units table
from_first table rows same = ap (owned_from 0) (sym (whole rows) ∙ same)

-- ---- one more program
pub rest_more : (rows : List ProgramRow) (i : ℕ) (row : ProgramRow) → i < length rows → row ≡ get_or rows i row
    → owned_from i (drop i rows) ≡ map (own i row.vbv) row.units ++ owned_from (i + 1) (drop (i + 1) rows)
rest_more rows i row within is =
    ap (owned_from i) (drop_more rows i row within)
    ∙ ap (λ (r : ProgramRow). map (own i r.vbv) r.units ++ owned_from (i + 1) (drop (i + 1) rows)) (sym is)

pub in_row : (table : Table) (rows : List ProgramRow) (i rest unit : ℕ) (row : ProgramRow) → i < length rows → row ≡ get_or rows i row
    → get_or (owned_from i (drop i rows)) rest no_owned ≡ owned_at table unit → rest < length row.units
    → owned_at table unit ≡ own i row.vbv (get_or row.units rest no_unit)
in_row table rows i rest unit row within is at low =
    let units = map (own i row.vbv) row.units in
    let long : rest < length units = omega (arith, low, length-map row.units (own i row.vbv)) in
    sym at ∙ ap (λ (os : List OwnedUnit). get_or os rest no_owned) (rest_more rows i row within is)
    ∙ get_or_append_left units (owned_from (i + 1) (drop (i + 1) rows)) no_owned rest long
    ∙ get_or-map (own i row.vbv) row.units rest no_unit no_owned low

pub behind_row : (table : Table) (rows : List ProgramRow) (i rest unit : ℕ) (row : ProgramRow) → i < length rows → row ≡ get_or rows i row
    → get_or (owned_from i (drop i rows)) rest no_owned ≡ owned_at table unit → length row.units ≤ rest
    → get_or (owned_from (i + 1) (drop (i + 1) rows)) (rest - length row.units) no_owned ≡ owned_at table unit
behind_row table rows i rest unit row within is at high =
    let units = map (own i row.vbv) row.units in
    sym (get_or-append_right units (owned_from (i + 1) (drop (i + 1) rows)) (length row.units) rest no_owned (length-map row.units (own i row.vbv)) high)
    ∙ sym (ap (λ (os : List OwnedUnit). get_or os rest no_owned) (rest_more rows i row within is)) ∙ at

pub fits_is : (table : Table) (unit : ℕ) (owned : OwnedUnit) → owned_at table unit ≡ owned
    → unit_fits table unit ≡ list_all (λ version. nat_le version.bytes (EB_UNIT_BYTES * owned.vbv)) owned.unit.versions.items
unfolding unit_fits
fits_is table unit owned is = ap (λ (o : OwnedUnit). list_all (λ (version : Version). nat_le version.bytes (EB_UNIT_BYTES * o.vbv)) o.unit.versions.items) is
