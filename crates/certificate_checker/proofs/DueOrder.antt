-- The units of a table in the order of their due times: how they are listed, and that each stands there once.
use Rattle.std.proofs.Common.{◌≡◌, ℕ, suc, ◌+◌, ◌<◌, List, [], ◌∷◌, ◌++◌, length, map, drop, get_or, sum_by, refl, sym, ap, subst, ◌∙◌, arith}
use Rattle.std.specs.List.{range_with_len}
use Rattle.std.specs.List.Sorted.{IsNonDecreasingBy, IsPermutation}
use Rattle.std.proofs.lemmas.List.{drop_more, get_or_default, length-append, length-drop, length-map}
use Rattle.std.proofs.lemmas.List.Elements.{All-push}
use Rattle.std.proofs.lemmas.List.FromFn.{length-range_with_len, map-range_with_len_more}
use Rattle.std.proofs.lemmas.List.Sorted.{All-permutation, IsPermutation-map, length_permutation, sum_by-IsPermutation}
use Rattle.std.proofs.lemmas.List.Sums.{sum_by-cons}
use Rattle.version_table.specs.declared.table.Unit.{Unit as CodedUnit}
use Rattle.version_table.specs.declared.table.ProgramRow.{ProgramRow}
use Rattle.version_table.specs.declared.table.Table.{Table}
use Rattle.version_table.specs.Table.{units_of}
use Rattle.certificate_checker.specs.declared.order.DueUnit.{DueUnit}
use Rattle.certificate_checker.specs.Private.Order.{IsDueOrder, IsFilled, IsPlaced, no_unit, program_of, unit_of, units_behind}

-- ---- one more unit
-- the rest of a list begins with its item at that place
drop_at : {A : Type 0} (xs : List A) (n : ℕ) (x d : A) (others : List A) → drop n xs ≡ x ∷ others → n < length xs → get_or xs n d ≡ x
drop_at {A} xs n x d others are within = sym (ap (λ (ys : List A). get_or ys 0 d) (drop_more xs n d within)) ∙ ap (λ (ys : List A). get_or ys 0 d) are

pub filled_more : (table : Table) (unit : CodedUnit) (others : List CodedUnit) (order : List DueUnit) (at : DueUnit) → IsFilled table (unit ∷ others) order → at.unit ≡ length order
    → at.due ≡ unit.due → at.program < length table.programs → at.place < length (program_of table at.program).units → get_or (program_of table at.program).units at.place no_unit ≡ unit
    → IsFilled table others (order ++ at ∷ [])
filled_more table unit others order at filled number due program place same =
    let units = units_of table in
    let n = length order in
    let left : length (drop n units) ≡ suc (length others) = ap (length {A = CodedUnit}) filled.others_are in
    let within : n < length units = omega (arith, left, length-drop n units) in
    let own : get_or units n no_unit ≡ unit = drop_at units n unit no_unit others filled.others_are within in
    let own_at : unit_of table at.unit ≡ unit = ap (λ (k : ℕ). get_or units k no_unit) number ∙ own in
    let size : length (order ++ at ∷ []) ≡ n + 1 = length-append order (at ∷ []) in
    let split : drop n units ≡ get_or units n no_unit ∷ drop (n + 1) units = drop_more units n no_unit within in
    let rest : drop (n + 1) units ≡ others = ap (λ (xs : List CodedUnit). drop 1 xs) (sym split ∙ filled.others_are) in
    record {
      others_are = ap (λ (k : ℕ). drop k units) size ∙ rest;
      within = omega (arith, size, within);
      placed = All-push (IsPlaced table) order at filled.placed (record {
        number = omega (arith, number, within);
        due = due ∙ ap (λ (u : CodedUnit). u.due) (sym own_at);
        program = program;
        place = place;
        same = same ∙ sym own_at;
      });
      numbers = map_push order at ∙ ap (λ (xs : List ℕ). xs ++ at.unit ∷ []) filled.numbers ∙ ap (λ (k : ℕ). range_with_len 0 n ++ k ∷ []) number ∙ sym (range_more n)
          ∙ ap (range_with_len 0) (sym size);
    }
  where
    map_push : (xs : List DueUnit) (x : DueUnit) → map (λ (a : DueUnit). a.unit) (xs ++ x ∷ []) ≡ map (λ (a : DueUnit). a.unit) xs ++ x.unit ∷ []
    map_push [] x = refl
    map_push (y ∷ xs) x = ap (λ (ns : List ℕ). y.unit ∷ ns) (map_push xs x)

    map_same : (xs : List ℕ) → map (λ (k : ℕ). k) xs ≡ xs
    map_same [] = refl
    map_same (x ∷ xs) = ap (λ (ns : List ℕ). x ∷ ns) (map_same xs)

    range_more : (m : ℕ) → range_with_len 0 (m + 1) ≡ range_with_len 0 m ++ m ∷ []
    range_more m = sym (map_same (range_with_len 0 (m + 1))) ∙ map-range_with_len_more (λ (k : ℕ). k) 0 m m (omega arith) ∙ ap (λ (xs : List ℕ). xs ++ m ∷ []) (map_same (range_with_len 0 m))

-- the unit at a place of a program
pub listed_more : (table : Table) (i k number : ℕ) (program : ProgramRow) (units : List CodedUnit) (unit : CodedUnit) (old new : List DueUnit) → i < length table.programs
    → program ≡ get_or table.programs i program → units ≡ program.units → k < length units → unit ≡ get_or units k unit → number ≡ length old
    → IsFilled table (drop k units ++ units_behind table (i + 1)) old → new ≡ old ++ record { due = unit.due; unit = number; program = i; place = k } ∷ []
    → IsFilled table (drop (k + 1) units ++ units_behind table (i + 1)) new
listed_more table i k number program units unit old new within is units_are here unit_is size filled pushed =
    let none : ProgramRow = record { vbv = 0; units = []; audios = [] } in
    let rest : List CodedUnit = units_behind table (i + 1) in
    let split : drop k units ++ rest ≡ unit ∷ (drop (k + 1) units ++ rest) =
    ap (λ (us : List CodedUnit). us ++ rest) (drop_more units k unit here ∙ ap (λ (u : CodedUnit). u ∷ drop (k + 1) units) (sym unit_is)) in
    let row : program ≡ program_of table i = is ∙ get_or_default table.programs i program none within in
    let row_units : units ≡ (program_of table i).units = units_are ∙ ap (λ (p : ProgramRow). p.units) row in
    let place : k < length (program_of table i).units = omega (arith, here, ap (length {A = CodedUnit}) row_units) in
    let same : get_or (program_of table i).units k no_unit ≡ unit =
    sym (ap (λ (us : List CodedUnit). get_or us k no_unit) row_units) ∙ get_or_default units k no_unit unit here ∙ sym unit_is in
    subst (λ (us : List DueUnit). IsFilled table (drop (k + 1) units ++ rest) us) (sym pushed)
    (filled_more table unit (drop (k + 1) units ++ rest) old (record { due = unit.due; unit = number; program = i; place = k })
    (subst (λ (us : List CodedUnit). IsFilled table us old) split filled) size refl within place same)

-- ---- the order
pub due_order : (table : Table) (listed order : List DueUnit) → IsFilled table [] listed → IsPermutation listed order → IsNonDecreasingBy (λ at. at.due) order → IsDueOrder table order
due_order table listed order filled moved rising =
    let units = units_of table in
    let left : length (drop (length listed) units) ≡ 0 = ap (length {A = CodedUnit}) filled.others_are in
    let size : length listed ≡ length units = omega (arith, left, length-drop (length listed) units, filled.within) in
    record {
      rising = rising;
      placed = All-permutation (IsPlaced table) listed order moved filled.placed;
      each = subst (λ (ns : List ℕ). IsPermutation ns (map (λ (a : DueUnit). a.unit) order)) (filled.numbers ∙ ap (range_with_len 0) size)
          (IsPermutation-map (λ (a : DueUnit). a.unit) listed order moved);
    }

pub order_size : (table : Table) (order : List DueUnit) → IsDueOrder table order → length order ≡ length (units_of table)
order_size table order is =
    let n = length (units_of table) in
    sym (length-map order (λ (a : DueUnit). a.unit)) ∙ length_permutation (range_with_len 0 n) (map (λ (a : DueUnit). a.unit) order) is.each ∙ length-range_with_len 0 n

-- ---- sums over the order
sum_by_numbers : (f : ℕ → ℕ) (order : List DueUnit) → sum_by f (map (λ (a : DueUnit). a.unit) order) ≡ sum_by (λ (a : DueUnit). f a.unit) order
sum_by_numbers f [] = refl
sum_by_numbers f (at ∷ order) =
    sum_by-cons f at.unit (map (λ (a : DueUnit). a.unit) order) ∙ ap (λ (n : ℕ). f at.unit + n) (sum_by_numbers f order) ∙ sym (sum_by-cons (λ (a : DueUnit). f a.unit) at order)

-- what is summed over the order is summed over the numbers of the units
pub sum_in_order : (table : Table) (order : List DueUnit) (f : ℕ → ℕ) → IsDueOrder table order → sum_by (λ at. f at.unit) order ≡ sum_by f (range_with_len 0 (length (units_of table)))
sum_in_order table order f is =
    sym (sum_by_numbers f order) ∙ sum_by-IsPermutation f (range_with_len 0 (length (units_of table))) (map (λ (a : DueUnit). a.unit) order) is.each
