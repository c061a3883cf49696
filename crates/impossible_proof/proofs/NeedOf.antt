-- What the units of a table need, and that it is the list's.
use Rattle.std.proofs.Common.{◌≡◌, ℕ, ◌*◌, ◌<◌, ◌≤◌, ◌^◌, cond, List, [], ◌∷◌, length, map, get_or, sum_by, refl, sym, ap, subst, ◌∙◌, arith}
use Rattle.std.specs.List.{Contains}
use Rattle.std.specs.List.Sorted.{IsNonDecreasingBy, IsPermutation}
use Rattle.std.proofs.lemmas.List.{get_or-map, length-map}
use Rattle.std.proofs.lemmas.List.Elements.{All-map, All-weaker, Contains-get_or}
use Rattle.std.proofs.lemmas.List.Sorted.{All-permutation, Contains-permutation, IsPermutation-sym, IsPermutation-map, length_permutation, sum_by-IsPermutation}
use Rattle.std.proofs.lemmas.List.Sums.{sum_by-cons}
use Rattle.version_table.specs.declared.limits.TheConstants.{TIME_SLOTS_MOST}
use Rattle.version_table.specs.declared.table.Table.{Table}
use Rattle.version_table.specs.declared.table.Unit.{Unit as CodedUnit}
use Rattle.version_table.specs.declared.table.Version.{Version}
use Rattle.version_table.specs.Choice.{HasVersion, version_at}
use Rattle.version_table.specs.Table.{IsValidTable, IsValidUnit, units_of}
use Rattle.version_table.proofs.Least.{least-le}
use Rattle.version_table.proofs.ValidUnits.{valid_units}
use Rattle.dual_bounds.specs.Room.{is_within}
use Rattle.dual_bounds.specs.Values.{packet_count}
use Rattle.impossible_proof.specs.declared.needs.UnitNeed.{UnitNeed}
use Rattle.impossible_proof.specs.NoRoom.{IsUnitDue, fewest_packets, need}
use Rattle.impossible_proof.specs.Private.Needs.{AreNeeds, need_in, need_of, packets_in}
use Rattle.impossible_proof.specs.Private.Scan.{due_at, nothing}

-- ---- the fewest packets of a unit are no more than those of any version
pub fewest-le : (unit : CodedUnit) (k : ℕ) → HasVersion unit k → fewest_packets unit ≤ packet_count (version_at unit k)
fewest-le unit k has =
    let versions = unit.versions.items in
    let at : get_or (map packet_count versions) k 0 ≡ packet_count (version_at unit k) = get_or-map packet_count versions k (record { bytes = 0; distortion = 0 }) 0 has in
    omega (arith, at, least-le (map packet_count versions) k (omega (arith, length-map versions packet_count)))

fewest_small : (slot : ℕ) (unit : CodedUnit) → IsValidUnit slot unit → fewest_packets unit ≤ 2 ^ 15
fewest_small slot unit valid =
    let none : Version = record { bytes = 0; distortion = 0 } in
    let some = valid.versions 0 none (omega (arith, valid.some_version)) in
    omega (arith, fewest-le unit 0 (omega (arith, valid.some_version)), some.bytes)

-- ---- the list that is made of the units, in the order of due times
pub in_order : (table : Table) (listed needs : List UnitNeed) → IsValidTable table → listed ≡ map need_of (units_of table) → IsPermutation listed needs
    → IsNonDecreasingBy (λ one. one.due) needs → AreNeeds table needs
in_order table listed needs valid listed_is moved rising =
    let units = units_of table in
    let each : IsPermutation (map need_of units) needs = subst (λ (xs : List UnitNeed). IsPermutation xs needs) listed_is moved in
    let size : length needs ≡ length (map need_of units) = length_permutation (map need_of units) needs each in
    let valid_each = valid_units table valid in
    record {
      rising = rising;
      each = each;
      few = record {
        few = omega (arith, size, length-map units need_of, valid.units);
        small = All-permutation (λ (one : UnitNeed). one.packets ≤ 2 ^ 15) (map need_of units) needs each
            (All-map (λ (one : UnitNeed). one.packets ≤ 2 ^ 15) need_of units
            (All-weaker (IsValidUnit table.slot) (λ unit. fewest_packets unit ≤ 2 ^ 15) (λ unit is. fewest_small table.slot unit is) units valid_each));
      };
      dues = All-permutation (λ (one : UnitNeed). one.due ≤ TIME_SLOTS_MOST * table.slot) (map need_of units) needs each
          (All-map (λ (one : UnitNeed). one.due ≤ TIME_SLOTS_MOST * table.slot) need_of units
          (All-weaker (IsValidUnit table.slot) (λ unit. unit.due ≤ TIME_SLOTS_MOST * table.slot) (λ unit is. is.due) units valid_each));
    }

-- ---- what a window needs is what the list needs in it
need_of_units : (from due : ℕ) (units : List CodedUnit) → sum_by (λ unit. cond (is_within from due unit.due) (fewest_packets unit) 0) units ≡ need_in from due (map need_of units)
unfolding need_in
need_of_units from due [] = refl
need_of_units from due (unit ∷ units) =
    omega (
      arith,
      sum_by-cons (λ (u : CodedUnit). cond (is_within from due u.due) (fewest_packets u) 0) unit units,
      sum_by-cons (packets_in from due) (need_of unit) (map need_of units),
      need_of_units from due units,
    )

need_in-moved : (from due : ℕ) (listed needs : List UnitNeed) → IsPermutation listed needs → need_in from due needs ≡ need_in from due listed
unfolding need_in
need_in-moved from due listed needs moved = sum_by-IsPermutation (packets_in from due) listed needs moved

pub need-is : (table : Table) (needs : List UnitNeed) (from due : ℕ) → AreNeeds table needs → need table from due ≡ need_in from due needs
unfolding need
need-is table needs from due are =
    need_of_units from due (units_of table) ∙ sym (need_in-moved from due (map need_of (units_of table)) needs are.each)

-- ---- the times at which units are due
dues_are : (units : List CodedUnit) → map (λ (one : UnitNeed). one.due) (map need_of units) ≡ map (λ (unit : CodedUnit). unit.due) units
dues_are [] = refl
dues_are (unit ∷ units) = ap (λ (dues : List ℕ). unit.due ∷ dues) (dues_are units)

pub due_of_unit : (table : Table) (needs : List UnitNeed) (k : ℕ) → AreNeeds table needs → k < length needs → IsUnitDue table (due_at needs k)
due_of_unit table needs k are within =
    let dues = map (λ (one : UnitNeed). one.due) needs in
    let listed = map need_of (units_of table) in
    let at : get_or dues k 0 ≡ due_at needs k = get_or-map (λ (one : UnitNeed). one.due) needs k nothing 0 within in
    let own : Contains dues (due_at needs k) =
    subst (λ (d : ℕ). Contains dues d) at (Contains-get_or dues k 0 (omega (arith, length-map needs (λ (one : UnitNeed). one.due)))) in
    subst (λ (xs : List ℕ). Contains xs (due_at needs k)) (dues_are (units_of table))
    (Contains-permutation dues (map (λ (one : UnitNeed). one.due) listed) (due_at needs k)
    (IsPermutation-sym (map (λ (one : UnitNeed). one.due) listed) dues (IsPermutation-map (λ (one : UnitNeed). one.due) listed needs are.each)) own)

-- a place at which a unit's due time stands
pub record StandsAt (needs : List UnitNeed) (due : ℕ) : Type 0 where
  pub place : ℕ
  pub within : place < length needs
  pub due_is : due_at needs place ≡ due

pub unit_stands : (table : Table) (needs : List UnitNeed) (due : ℕ) → AreNeeds table needs → IsUnitDue table due → StandsAt needs due
unit_stands table needs due are is =
    let listed = map need_of (units_of table) in
    let dues = map (λ (one : UnitNeed). one.due) needs in
    let moved : Contains dues due =
    Contains-permutation (map (λ (one : UnitNeed). one.due) listed) dues due (IsPermutation-map (λ (one : UnitNeed). one.due) listed needs are.each)
    (subst (λ (xs : List ℕ). Contains xs due) (sym (dues_are (units_of table))) is) in
    let within : moved.0 < length needs = omega (arith, moved.1, length-map needs (λ (one : UnitNeed). one.due)) in
    record {
      place = moved.0;
      within = within;
      due_is = sym (get_or-map (λ (one : UnitNeed). one.due) needs moved.0 nothing due within) ∙ moved.2;
    }
