-- What units cost at least, and which have a version left: one more window, version, unit and program.
use Rattle.std.proofs.Common.{◌≡◌, ℕ, suc, ◌+◌, ◌*◌, ◌<◌, ◌≤◌, Bool, true, false, cond, if◌then◌else◌, ◌&&◌, ◌||◌, nat_le, nat_lt, List, [], ◌∷◌, ◌++◌, length, map, take, drop, filter, get_or, sum_by, fold, min, Option, Some, None, ℤ, pos, ◌+ℤ◌, ◌*ℤ◌, refl, sym, ap, ap₂, subst, ◌∙◌, inl, inr, lt-ltb, arith}
use Rattle.std.specs.List.{AllZip, list_all, list_any, zip}
use Rattle.std.specs.Option.{unwrap_or}
use Rattle.std.proofs.lemmas.Bool.{cases_Bool, le-ltb}
use Rattle.std.proofs.lemmas.List.{drop_all, drop_more, length-append, length-map, map_more}
use Rattle.std.proofs.lemmas.List.Elements.{filter_more}
use Rattle.std.proofs.lemmas.List.Concat.{length-flat_map}
use Rattle.std.proofs.lemmas.List.Sums.{fold_push, get_or-le-sum_by, sum_by-cons, sum_by-append, sum_by_more}
use Rattle.stream_constants.specs.declared.decoder.TheConstants.{EB_UNIT_BYTES}
use Rattle.version_table.specs.declared.table.ProgramRow.{ProgramRow}
use Rattle.version_table.specs.declared.table.Table.{Table}
use Rattle.version_table.specs.declared.table.Unit.{Unit as CodedUnit}
use Rattle.version_table.specs.declared.table.Version.{Version}
use Rattle.version_table.specs.Choice.{least}
use Rattle.version_table.specs.Table.{units_of}
use Rattle.version_table.proofs.Chosen.{units_from, units_from_more}
use Rattle.dual_bounds.specs.Fixed.{NamesVersion}
use Rattle.dual_bounds.proofs.LeastCosts.{names_first, names_length, names_others}
use Rattle.buffer_windows.specs.declared.prices.Prices.{Prices}
use Rattle.buffer_windows.specs.declared.windows.BufferWindow.{BufferWindow}
use Rattle.buffer_windows.specs.Charges.{OwnedUnit, charged_bytes as charge, owned_from, owned_units}
use Rattle.buffer_windows.specs.Bounds.{bound_of_byte_value as bound_of_value, bound_of_buffer_windows as bound_of_windows, each_has_left}
use Rattle.buffer_windows.specs.Charged.{in_packets}
use Rattle.buffer_windows.specs.Private.Prices.{all_have_left, charged_by, cost_at, lesser, owned}
use Rattle.buffer_windows.specs.Room.{buffer_room as room}
use Rattle.buffer_windows.specs.Values.{version_cost as cost, least_owned_cost as least_cost, least_owned_costs as least_costs, version_price as price, value_of_buffer_windows as value_of_windows, versions_left, buffer_worth as worth}
use Rattle.buffer_windows.proofs.Weights.{own}

-- ---- one more window
pub charged_none : (slot program due bytes : ℕ) → charged_by slot [] program due bytes ≡ 0
unfolding charged_by
charged_none slot program due bytes = refl

pub charged_next : (slot : ℕ) (windows : List BufferWindow) (program due bytes i : ℕ) (d : BufferWindow) → i < length windows
    → charged_by slot (take (i + 1) windows) program due bytes
    ≡ charged_by slot (take i windows) program due bytes + (get_or windows i d).lambda * charge slot (get_or windows i d) program due bytes
unfolding charged_by
charged_next slot windows program due bytes i d within = sum_by_more (λ (w : BufferWindow). w.lambda * charge slot w program due bytes) windows i d within

pub worth_next : (table : Table) (windows : List BufferWindow) (i : ℕ) (d : BufferWindow) → i < length windows
    → worth table (take (i + 1) windows) ≡ worth table (take i windows) +ℤ pos (get_or windows i d).lambda *ℤ room table (get_or windows i d)
unfolding worth
worth_next table windows i d within =
    let each : BufferWindow → ℤ = λ w. pos w.lambda *ℤ room table w in
    ap (fold ◌+ℤ◌ (pos 0)) (map_more each windows i d within) ∙ fold_push ◌+ℤ◌ (pos 0) (map each (take i windows)) (each (get_or windows i d))

-- ---- one more version
-- the least of some numbers; none where there is none
pub least_or_none : List ℕ → Option ℕ
least_or_none [] = None
least_or_none (n ∷ numbers) = Some (fold min n numbers)

pub least_push : (numbers : List ℕ) (n : ℕ) → least_or_none (numbers ++ n ∷ []) ≡ Some (lesser (least_or_none numbers) n)
unfolding least_or_none
least_push [] n = refl
least_push (m ∷ numbers) n = ap Some (fold_push min m numbers n)

-- a number, where there is one, else 0
abbrev pub or_nothing : Option ℕ → ℕ
or_nothing None = 0
or_nothing (Some n) = n

pub least_is : (numbers : List ℕ) → least numbers ≡ or_nothing (least_or_none numbers)
unfolding least_or_none
least_is [] = refl
least_is (n ∷ numbers) = refl

pub filter_next : (test : Version → Bool) (f : Version → ℕ) (xs : List Version) (i : ℕ) (d : Version) → i < length xs → test (get_or xs i d) ≡ true
    → map f (filter test (take (i + 1) xs)) ≡ map f (filter test (take i xs)) ++ f (get_or xs i d) ∷ []
filter_next test f xs i d within passes =
    ap (map f) (filter_more test xs i d within ∙ ap (λ b. filter test (take i xs) ++ cond b (get_or xs i d ∷ []) []) passes) ∙ map_push (filter test (take i xs)) (get_or xs i d)
  where
    map_push : (xs : List Version) (x : Version) → map f (xs ++ x ∷ []) ≡ map f xs ++ f x ∷ []
    map_push [] x = refl
    map_push (y ∷ xs) x = ap (λ (rest : List ℕ). f y ∷ rest) (map_push xs x)

pub filter_same : (test : Version → Bool) (f : Version → ℕ) (xs : List Version) (i : ℕ) (d : Version) → i < length xs → test (get_or xs i d) ≡ false
    → map f (filter test (take (i + 1) xs)) ≡ map f (filter test (take i xs))
filter_same test f xs i d within fails =
    ap (map f) (filter_more test xs i d within ∙ ap (λ b. filter test (take i xs) ++ cond b (get_or xs i d ∷ []) []) fails ∙ append_none (filter test (take i xs)))
  where
    append_none : (xs : List Version) → xs ++ [] ≡ xs
    append_none [] = refl
    append_none (y ∷ xs) = ap (λ (rest : List Version). y ∷ rest) (append_none xs)

-- ---- a version left
pub any_left : (test : Version → Bool) (xs : List Version) → nat_lt 0 (length (filter test xs)) ≡ list_any test xs
any_left test [] = le-ltb 0 0 (omega arith)
any_left test (x ∷ xs) = elim (cases_Bool (test x)) as (λ _. nat_lt 0 (length (filter test (x ∷ xs))) ≡ list_any test (x ∷ xs)) [
  | inl yes_is ↦ rw yes_is (lt-ltb 0 (suc (length (filter test xs))) (omega arith))
  | inr no_is ↦ rw no_is (any_left test xs)
]

-- what those of these versions cost that an elementary buffer holds
pub costs_held : Prices → (vbv : ℕ) → List Version → List ℕ
costs_held prices vbv versions = map (cost_at prices) (filter (λ version. nat_le version.bytes (EB_UNIT_BYTES * vbv)) versions)

pub costs_held-is : (prices : Prices) (vbv : ℕ) (versions : List Version)
    → costs_held prices vbv versions ≡ map (cost_at prices) (filter (λ version. nat_le version.bytes (EB_UNIT_BYTES * vbv)) versions)
unfolding costs_held
costs_held-is prices vbv versions = refl

pub costs_held-none : (prices : Prices) (vbv : ℕ) → costs_held prices vbv [] ≡ []
unfolding costs_held
costs_held-none prices vbv = refl

pub costs_held-yes : (prices : Prices) (vbv : ℕ) (xs : List Version) (i : ℕ) (d : Version) → i < length xs → nat_le (get_or xs i d).bytes (EB_UNIT_BYTES * vbv) ≡ true
    → costs_held prices vbv (take (i + 1) xs) ≡ costs_held prices vbv (take i xs) ++ cost_at prices (get_or xs i d) ∷ []
unfolding costs_held
costs_held-yes prices vbv xs i d within passes = filter_next (λ version. nat_le version.bytes (EB_UNIT_BYTES * vbv)) (cost_at prices) xs i d within passes

pub costs_held-no : (prices : Prices) (vbv : ℕ) (xs : List Version) (i : ℕ) (d : Version) → i < length xs → nat_le (get_or xs i d).bytes (EB_UNIT_BYTES * vbv) ≡ false
    → costs_held prices vbv (take (i + 1) xs) ≡ costs_held prices vbv (take i xs)
unfolding costs_held
costs_held-no prices vbv xs i d within fails = filter_same (λ version. nat_le version.bytes (EB_UNIT_BYTES * vbv)) (cost_at prices) xs i d within fails

-- one of these versions is held
pub one_held : (vbv : ℕ) → List Version → Bool
one_held vbv versions = list_any (λ version. nat_le version.bytes (EB_UNIT_BYTES * vbv)) versions

pub one_held-is : (vbv : ℕ) (versions : List Version) → one_held vbv versions ≡ list_any (λ version. nat_le version.bytes (EB_UNIT_BYTES * vbv)) versions
unfolding one_held
one_held-is vbv versions = refl

pub one_held-none : (vbv : ℕ) → one_held vbv [] ≡ false
unfolding one_held
one_held-none vbv = refl

pub one_held-more : (vbv : ℕ) (xs : List Version) (i : ℕ) (d : Version) → i < length xs
    → one_held vbv (drop i xs) ≡ (nat_le (get_or xs i d).bytes (EB_UNIT_BYTES * vbv) || one_held vbv (drop (i + 1) xs))
unfolding one_held
one_held-more vbv xs i d within = ap (list_any (λ (version : Version). nat_le version.bytes (EB_UNIT_BYTES * vbv))) (drop_more xs i d within)

pub left_is : (program vbv : ℕ) (unit : CodedUnit)
    → nat_lt 0 (length (versions_left (record { program = program; vbv = vbv; unit = unit }) None)) ≡ list_any (λ version. nat_le version.bytes (EB_UNIT_BYTES * vbv)) unit.versions.items
left_is program vbv unit = any_left (λ version. nat_le version.bytes (EB_UNIT_BYTES * vbv)) unit.versions.items

-- ---- one more unit
owned_drop : (program vbv : ℕ) (units : List CodedUnit) (i : ℕ) (d : CodedUnit) → i < length units
    → owned program vbv (drop i units) ≡ own program vbv (get_or units i d) ∷ owned program vbv (drop (i + 1) units)
owned_drop program vbv units i d within = ap (owned program vbv) (drop_more units i d within)

pub costs_more : (slot : ℕ) (windows : List BufferWindow) (program vbv : ℕ) (units : List CodedUnit) (fixed : List (Option ℕ)) (i : ℕ) (d : CodedUnit) (e : Option ℕ) → i < length units
    → i < length fixed
    → least_costs slot windows (owned program vbv (drop i units)) (drop i fixed)
    ≡ least_cost slot windows (record { program = program; vbv = vbv; unit = get_or units i d }) (get_or fixed i e)
    + least_costs slot windows (owned program vbv (drop (i + 1) units)) (drop (i + 1) fixed)
unfolding least_costs
costs_more slot windows program vbv units fixed i d e within within' =
    let cost_of : OwnedUnit × Option ℕ → ℕ = λ (unit, entry). least_cost slot windows unit entry in
    ap₂ (λ (us : List OwnedUnit) (es : List (Option ℕ)). sum_by cost_of (zip us es)) (owned_drop program vbv units i d within) (drop_more fixed i e within')
    ∙ sum_by-cons cost_of (own program vbv (get_or units i d), get_or fixed i e) (zip (owned program vbv (drop (i + 1) units)) (drop (i + 1) fixed))

pub costs_none : (slot : ℕ) (windows : List BufferWindow) (fixed : List (Option ℕ)) → least_costs slot windows [] fixed ≡ 0
unfolding least_costs
costs_none slot windows fixed = refl

abbrev has_left : OwnedUnit × Option ℕ → Bool
has_left (unit, entry) = nat_lt 0 (length (versions_left unit entry))

pub left_more : (program vbv : ℕ) (units : List CodedUnit) (fixed : List (Option ℕ)) (i : ℕ) (d : CodedUnit) (e : Option ℕ) → i < length units → i < length fixed
    → all_have_left (owned program vbv (drop i units)) (drop i fixed)
    ≡ (nat_lt 0 (length (versions_left (record { program = program; vbv = vbv; unit = get_or units i d }) (get_or fixed i e)))
    && all_have_left (owned program vbv (drop (i + 1) units)) (drop (i + 1) fixed))
unfolding all_have_left
left_more program vbv units fixed i d e within within' =
    ap₂ (λ (us : List OwnedUnit) (es : List (Option ℕ)). list_all (λ (owned, entry). nat_lt 0 (length (versions_left owned entry))) (zip us es))
    (owned_drop program vbv units i d within) (drop_more fixed i e within')

pub left_none : (fixed : List (Option ℕ)) → all_have_left [] fixed ≡ true
unfolding all_have_left
left_none fixed = refl

-- ---- one more program
-- the units of the programs from one on
abbrev pub owned_rest : List ProgramRow → ℕ → List OwnedUnit
owned_rest programs i = owned_from i (drop i programs)

owned_rest-more : (programs : List ProgramRow) (i : ℕ) (program : ProgramRow) → i < length programs → program ≡ get_or programs i program
    → owned_from i (drop i programs) ≡ owned i program.vbv program.units ++ owned_from (i + 1) (drop (i + 1) programs)
owned_rest-more programs i program within is =
    ap (owned_from i) (drop_more programs i program within)
    ∙ ap (λ (row : ProgramRow). owned i row.vbv row.units ++ owned_from (i + 1) (drop (i + 1) programs)) (sym is)

zip_in_parts : {X Y : Type 0} (xs more : List X) (ys : List Y) → zip (xs ++ more) ys ≡ zip xs (take (length xs) ys) ++ zip more (drop (length xs) ys)
zip_in_parts [] more ys = refl
zip_in_parts (x ∷ xs) [] [] = refl
zip_in_parts (x ∷ xs) (other ∷ more) [] = refl
zip_in_parts {X} {Y} (x ∷ xs) more (y ∷ ys) = ap (λ (rest : List (X × Y)). (x, y) ∷ rest) (zip_in_parts xs more ys)

all_in_parts : {X : Type 0} (test : X → Bool) (xs ys : List X) → list_all test (xs ++ ys) ≡ (list_all test xs && list_all test ys)
all_in_parts test [] ys = refl
all_in_parts test (x ∷ xs) ys = elim (cases_Bool (test x)) as (λ _. list_all test ((x ∷ xs) ++ ys) ≡ (list_all test (x ∷ xs) && list_all test ys)) [
  | inl yes_is ↦ rw yes_is (all_in_parts test xs ys)
  | inr no_is ↦ rw no_is refl
]

-- the entries for a program's units, and those for the units after them
pub record OwnedInParts (slot : ℕ) (windows : List BufferWindow) (programs : List ProgramRow) (i : ℕ) (units : List CodedUnit) (vbv : ℕ) (fixed front back : List (Option ℕ)) : Type 0 where
  pub enough : length units ≤ length fixed
  pub of_units : AllZip NamesVersion units front
  pub of_others : AllZip NamesVersion (units_from programs (i + 1)) back
  pub total : least_costs slot windows (owned_from i (drop i programs)) fixed
      ≡ least_costs slot windows (owned i vbv units) front + least_costs slot windows (owned_from (i + 1) (drop (i + 1) programs)) back
  pub left : all_have_left (owned_from i (drop i programs)) fixed ≡ (all_have_left (owned i vbv units) front && all_have_left (owned_from (i + 1) (drop (i + 1) programs)) back)

pub owned_in : (slot : ℕ) (windows : List BufferWindow) (programs : List ProgramRow) (i : ℕ) (program : ProgramRow) (fixed : List (Option ℕ)) → i < length programs
    → program ≡ get_or programs i program → AllZip NamesVersion (units_from programs i) fixed → (units : List CodedUnit) (n : ℕ) (front back : List (Option ℕ)) → units ≡ program.units
    → n ≡ length program.units → front ≡ take n fixed → back ≡ drop n fixed → OwnedInParts slot windows programs i units program.vbv fixed front back
unfolding least_costs all_have_left
owned_in slot windows programs i program fixed within is names units n front back units-is long front-is back-is =
    let others = units_from programs (i + 1) in
    let split : units_from programs i ≡ program.units ++ others = units_from_more programs i program within is in
    let names' : AllZip NamesVersion (program.units ++ others) fixed = subst (λ (whole : List CodedUnit). AllZip NamesVersion whole fixed) split names in
    let first : front ≡ take (length program.units) fixed = front-is ∙ ap (λ k. take k fixed) long in
    let second : back ≡ drop (length program.units) fixed = back-is ∙ ap (λ k. drop k fixed) long in
    let ours = owned i program.vbv program.units in
    let rest = owned_from (i + 1) (drop (i + 1) programs) in
    let size : length (owned i program.vbv program.units) ≡ length program.units = length-map program.units (own i program.vbv) in
    let cost : OwnedUnit × Option ℕ → ℕ = λ (unit, entry). least_cost slot windows unit entry in
    let pairs : zip (owned_from i (drop i programs)) fixed ≡ zip ours (take (length program.units) fixed) ++ zip rest (drop (length program.units) fixed) =
    ap (λ (us : List OwnedUnit). zip us fixed) (owned_rest-more programs i program within is) ∙ zip_in_parts ours rest fixed
    ∙ ap (λ k. zip ours (take k fixed) ++ zip rest (drop k fixed)) size in
    rw (units-is, first, second)
    (record {
      enough = omega (arith, names_length (program.units ++ others) fixed names', length-append program.units others);
      of_units = names_first program.units others fixed names';
      of_others = names_others program.units others fixed names';
      total = ap (sum_by cost) pairs ∙ sum_by-append cost (zip ours (take (length program.units) fixed)) (zip rest (drop (length program.units) fixed));
      left = ap (list_all has_left) pairs ∙ all_in_parts has_left (zip ours (take (length program.units) fixed)) (zip rest (drop (length program.units) fixed));
    })

pub owned_units-is : (table : Table) → owned_units table ≡ owned_from 0 (drop 0 table.programs)
owned_units-is table = ap (owned_from 0) (whole table.programs)
  where
    whole : (rows : List ProgramRow) → rows ≡ drop 0 rows
    whole [] = refl
    whole (row ∷ rows) = refl

pub owned_rest-none : (programs : List ProgramRow) (i : ℕ) → length programs ≤ i → owned_from i (drop i programs) ≡ []
owned_rest-none programs i past = ap (owned_from i) (drop_all i programs past)

pub each_has_left-is : (table : Table) (fixed : List (Option ℕ)) → each_has_left table fixed ≡ all_have_left (owned_units table) fixed
unfolding all_have_left
each_has_left-is table fixed = refl

pub least_or_none-nil : least_or_none [] ≡ None
unfolding least_or_none
least_or_none-nil = refl

pub lesser-le : (least : Option ℕ) (n most : ℕ) → n ≤ most → lesser least n ≤ most
lesser-le None n most small = small
lesser-le (Some m) n most small = omega arith

pub unwrap-is : (least : Option ℕ) → unwrap_or least 0 ≡ or_nothing least
unwrap-is None = refl
unwrap-is (Some n) = refl

-- ---- a unit's costs at its prices
cost-is : (slot : ℕ) (windows : List BufferWindow) (unit : OwnedUnit) (prices : Prices)
    → ((bytes : ℕ) → charged_by slot windows unit.program unit.unit.due bytes ≡ prices.bytes * bytes + prices.packets * in_packets bytes) → (version : Version)
    → cost slot windows unit version ≡ cost_at prices version
unfolding price charged_by
cost-is slot windows unit prices charged version = omega (arith, charged version.bytes)

map_same : (f g : Version → ℕ) → ((version : Version) → f version ≡ g version) → (xs : List Version) → map f xs ≡ map g xs
map_same f g same [] = refl
map_same f g same (x ∷ xs) = ap₂ (λ n (rest : List ℕ). n ∷ rest) (same x) (map_same f g same xs)

pub least_cost-is : (slot : ℕ) (windows : List BufferWindow) (unit : OwnedUnit) (prices : Prices)
    → ((bytes : ℕ) → charged_by slot windows unit.program unit.unit.due bytes ≡ prices.bytes * bytes + prices.packets * in_packets bytes) → (fixed : Option ℕ)
    → least_cost slot windows unit fixed ≡ least (map (cost_at prices) (versions_left unit fixed))
unfolding least_cost
least_cost-is slot windows unit prices charged fixed = ap least (map_same (cost slot windows unit) (cost_at prices) (cost-is slot windows unit prices charged) (versions_left unit fixed))

-- ---- bounds
pub bound-left : (table : Table) (fixed : List (Option ℕ)) (windows : List BufferWindow) → each_has_left table fixed ≡ true
    → bound_of_windows table fixed windows ≡ Some (bound_of_value (value_of_windows table fixed windows))
unfolding bound_of_windows
bound-left table fixed windows left = ap (λ b. if b then Some (bound_of_value (value_of_windows table fixed windows)) else None) left

pub bound-none : (table : Table) (fixed : List (Option ℕ)) (windows : List BufferWindow) → each_has_left table fixed ≡ false → bound_of_windows table fixed windows ≡ None
unfolding bound_of_windows
bound-none table fixed windows none = ap (λ b. if b then Some (bound_of_value (value_of_windows table fixed windows)) else None) none

-- a program has no more units than the table
pub program_units-le : (table : Table) (programs : List ProgramRow) (i : ℕ) (program : ProgramRow) → programs ≡ table.programs → i < length programs → program ≡ get_or programs i program
    → length program.units ≤ length (units_of table)
program_units-le table programs i program are within is =
    omega (
      arith,
      length-flat_map (λ (p : ProgramRow). p.units) table.programs,
      ap (λ (rows : List ProgramRow). sum_by (λ p. length p.units) rows) are,
      get_or-le-sum_by (λ (p : ProgramRow). length p.units) programs i program within,
      ap (λ (p : ProgramRow). length p.units) is,
    )
