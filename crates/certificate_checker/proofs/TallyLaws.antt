-- What is told of a path, where a unit is fixed, fixed to another version, and fixed no more.
use Rattle.std.proofs.Common.{◌≡◌, ℕ, zero, suc, ◌+◌, ◌^◌, ◌<◌, ◌≤◌, ◌&&◌, Bool, true, false, nat_lt, is_some, ◌⊎◌, eqb, List}
use Rattle.std.proofs.Common.{[], ◌∷◌, length, map, get_or, set, All, Option, Some, None, refl, sym, ap, subst, ◌∙◌, inl, inr, arith}
use Rattle.std.specs.List.{Contains, IsDistinct, range_with_len}
use Rattle.std.proofs.lemmas.Bool.{and_left, and_right, cases_eq, cases_lt, eq-eqb, eqb-false, ne_eqb, lt-ltb, le-ltb}
use Rattle.std.proofs.lemmas.List.{get_or-set_other, get_or-set_same, length-map}
use Rattle.std.proofs.lemmas.List.FromFn.{get_or-range_with_len, length-range_with_len}
use Rattle.std.proofs.lemmas.List.Sorted.{Contains-permutation}
use Rattle.std.proofs.lemmas.Map.Keys.{apart_from_distinct, IsDistinct-from_apart, IsDistinct-IsPermutation}
use Rattle.version_table.specs.declared.table.Unit.{Unit as CodedUnit}
use Rattle.version_table.specs.declared.table.Version.{Version}
use Rattle.version_table.specs.declared.table.Table.{Table}
use Rattle.version_table.specs.Table.{units_of}
use Rattle.certificate_checker.specs.declared.order.DueUnit.{DueUnit}
use Rattle.dual_bounds.specs.Values.{packet_count}
use Rattle.certificate_checker.specs.declared.links.Links.{Links}
use Rattle.certificate_checker.specs.declared.sums.PlaceSums.{PlaceSums}
use Rattle.certificate_checker.specs.declared.tally.Tally.{Tally}
use Rattle.certificate_checker.specs.Faults.{IsFree}
use Rattle.certificate_checker.specs.Shown.{fix, unfixed}
use Rattle.certificate_checker.specs.Private.Neighbours.{AreLinked, IsRow}
use Rattle.certificate_checker.specs.Private.Order.{IsDueOrder, unit_of}
use Rattle.certificate_checker.specs.Private.PlaceSums.{AreSums, number_at}
use Rattle.certificate_checker.specs.Private.Tallies.{AreApart, ArePlaces, HasAmounts, IsChain, IsNumberPut, IsTally, IsVersionPut, fixed_of, free_sum, is_out, unit_at, version_fixed}
use Rattle.certificate_checker.proofs.DueOrder.{order_size}
use Rattle.certificate_checker.proofs.LinkLaws.{IsOneMore, IsPutBack, linked_row, linked_same, linked_without, puts_back}
use Rattle.certificate_checker.proofs.Paths.{unfix-fix, unfix-free}

-- ---- each unit has one place
range_distinct : (n : ℕ) → IsDistinct eqb (range_with_len 0 n)
range_distinct n = IsDistinct-from_apart eqb (range_with_len 0 n) (λ i j d less within.
    (let size = length-range_with_len 0 n in
    let low : get_or (range_with_len 0 n) i d ≡ 0 + i = get_or-range_with_len 0 n i d (omega (arith, less, within, size)) in
    let high : get_or (range_with_len 0 n) j d ≡ 0 + j = get_or-range_with_len 0 n j d (omega (arith, within, size)) in
    ne_eqb (get_or (range_with_len 0 n) i d) (get_or (range_with_len 0 n) j d) (λ e. omega (arith, e, low, high, less))))

abbrev numbers : List DueUnit → List ℕ
numbers order = map (λ (at : DueUnit). at.unit) order

number-at : (order : List DueUnit) (place : ℕ) → place < length order → get_or (numbers order) place 0 ≡ unit_at order place
number-at [] place within = absurd (omega (arith, within))
number-at (at ∷ order) zero within = refl
number-at (at ∷ order) (suc place) within = number-at order place (omega (arith, within))

pub order_apart : (table : Table) (order : List DueUnit) → IsDueOrder table order → AreApart order
order_apart table order is j k less within same =
    let n = length (units_of table) in
    let flips : (x y : ℕ) → eqb x y ≡ eqb y x = λ x y. flipped x y in
    let distinct = IsDistinct-IsPermutation eqb flips (range_with_len 0 n) (numbers order) is.each (range_distinct n) in
    let apart = apart_from_distinct eqb (numbers order) j k 0 distinct less (omega (arith, within, length-map order (λ (at : DueUnit). at.unit))) in
    eqb-false (get_or (numbers order) j 0) (get_or (numbers order) k 0) apart
    (number-at order j (omega (arith, less, within)) ∙ same ∙ sym (number-at order k within))
  where
    flipped : (x y : ℕ) → eqb x y ≡ eqb y x
    flipped x y = elim (cases_eq x y) as (λ _. eqb x y ≡ eqb y x) [
      | inl same ↦ eq-eqb x y same ∙ sym (eq-eqb y x (sym same))
      | inr apart ↦ ne_eqb x y apart ∙ sym (ne_eqb y x (λ e. apart (sym e)))
    ]

pub numbers_low : (table : Table) (order : List DueUnit) → IsDueOrder table order → All (λ at. at.unit < length order) order
numbers_low table order is k d within = omega (arith, (is.placed k d within).number, order_size table order is)

-- the place of a unit
pub record IsAt (order : List DueUnit) (places : List ℕ) (unit : ℕ) : Type 0 where
  pub within : get_or places unit 0 < length order
  pub own : unit_at order (get_or places unit 0) ≡ unit

at_number : (order : List DueUnit) (places : List ℕ) (unit k : ℕ) → ArePlaces order places (length order) → k < length order → unit_at order k ≡ unit → IsAt order places unit
at_number order places unit k are within is =
    let place : get_or places unit 0 ≡ k = ap (λ (u : ℕ). get_or places u 0) (sym is) ∙ are k within in
    record { within = omega (arith, place, within); own = ap (unit_at order) place ∙ is }

pub has_place : (table : Table) (order : List DueUnit) (places : List ℕ) (unit : ℕ) → IsDueOrder table order → ArePlaces order places (length order) → unit < length (units_of table)
    → IsAt order places unit
has_place table order places unit is are within =
    let n = length (units_of table) in
    let own : get_or (range_with_len 0 n) unit unit ≡ unit = omega (arith, get_or-range_with_len 0 n unit unit within) in
    let listed : Contains (range_with_len 0 n) unit = (unit, omega (arith, length-range_with_len 0 n, within), own) in
    let found = Contains-permutation (range_with_len 0 n) (numbers order) unit is.each listed in
    let below : found.0 < length order = omega (arith, found.1, length-map order (λ (at : DueUnit). at.unit)) in
    at_number order places unit found.0 are below (sym (number-at order found.0 below) ∙ same_at (numbers order) found.0 unit found.1 found.2)
  where
    same_at : (xs : List ℕ) (k x : ℕ) → k < length xs → get_or xs k x ≡ x → get_or xs k 0 ≡ x
    same_at [] k x low is = absurd (omega (arith, low))
    same_at (y ∷ xs) zero x low is = is
    same_at (y ∷ xs) (suc k) x low is = same_at xs k x (omega (arith, low)) is

-- ---- amounts
pub amounts_put : (table : Table) (order : List DueUnit) (places : List ℕ) (fixed : List (Option ℕ)) (unit : ℕ) (entry : Option ℕ) (amount : Version → ℕ) (old new : PlaceSums)
    → HasAmounts table order fixed amount old → ArePlaces order places (length order) → IsAt order places unit → unit < length fixed
    → IsNumberPut (get_or places unit 0) (amount (version_fixed (unit_of table unit) entry)) old new → HasAmounts table order (set fixed unit entry) amount new
amounts_put table order places fixed unit entry amount old new has are at within put = record {
  are = put.sums;
  count = put.count ∙ has.count;
  each = λ k below. elim (cases_eq k (get_or places unit 0)) as (λ _. number_at new k ≡ amount (fixed_of table (set fixed unit entry) (unit_at order k))) [
    | inl here ↦
        (let is : unit_at order k ≡ unit = ap (unit_at order) here ∙ at.own in
        let value : fixed_of table (set fixed unit entry) unit ≡ version_fixed (unit_of table unit) entry =
        ap (version_fixed (unit_of table unit)) (get_or-set_same fixed unit entry None within) in
        ap (number_at new) here ∙ put.own ∙ ap amount (sym value) ∙ ap (λ (u : ℕ). amount (fixed_of table (set fixed unit entry) u)) (sym is))
    | inr apart ↦
        (let other : unit_at order k ≡ unit → ⊥ = λ e. apart (sym (are k below) ∙ ap (λ (u : ℕ). get_or places u 0) e) in
        let same : get_or (set fixed unit entry) (unit_at order k) None ≡ get_or fixed (unit_at order k) None = get_or-set_other fixed unit (unit_at order k) entry None other in
        put.others k apart ∙ has.each k below ∙ ap (λ (e : Option ℕ). amount (version_fixed (unit_of table (unit_at order k)) e)) (sym same))
  ];
}

-- ---- the chain
pub chain_linked : (order : List DueUnit) (places : List ℕ) (fixed : List (Option ℕ)) (innermost next previous : List ℕ) → IsChain order places fixed innermost next previous
    → AreLinked (is_out order fixed) (length order) next previous
chain_linked order places fixed [] next previous chain = chain
chain_linked order places fixed (unit ∷ outer) next previous chain = chain.0

out_same : (order : List DueUnit) (fixed other : List (Option ℕ)) (at : ℕ)
    → ((place : ℕ) → suc place ≡ at → is_some (get_or other (unit_at order place) None) ≡ is_some (get_or fixed (unit_at order place) None))
    → is_out order other at ≡ is_out order fixed at
out_same order fixed other zero same = refl
out_same order fixed other (suc place) same = ap (λ (b : Bool). nat_lt place (length order) && b) (same place refl)

-- one more unit is out
out_more : (order : List DueUnit) (places : List ℕ) (fixed : List (Option ℕ)) (unit k : ℕ) → ArePlaces order places (length order) → IsAt order places unit → unit < length fixed
    → IsOneMore (is_out order fixed) (is_out order (fix unit k fixed)) (get_or places unit 0 + 1)
out_more order places fixed unit k are at within = record {
  own = own_out (get_or places unit 0 + 1) (get_or places unit 0) (omega arith) at.own (lt-ltb (get_or places unit 0) (length order) at.within);
  others = λ r apart. others r apart;
}
  where
    own_out : (r place : ℕ) → r ≡ suc place → unit_at order place ≡ unit → nat_lt place (length order) ≡ true → is_out order (fix unit k fixed) r ≡ true
    own_out r place is own low =
        let some : is_some (get_or (fix unit k fixed) (unit_at order place) None) ≡ true =
        ap (λ (u : ℕ). is_some (get_or (fix unit k fixed) u None)) own ∙ ap is_some (get_or-set_same fixed unit (Some k) None within) in
        ap (is_out order (fix unit k fixed)) is ∙ ap (λ (b : Bool). b && is_some (get_or (fix unit k fixed) (unit_at order place) None)) low ∙ some

    others : (r : ℕ) → (r ≡ get_or places unit 0 + 1 → ⊥) → is_out order (fix unit k fixed) r ≡ is_out order fixed r
    others zero apart = refl
    others (suc place) apart = elim (cases_lt_bool place) as (λ _. is_out order (fix unit k fixed) (suc place) ≡ is_out order fixed (suc place)) [
      | inl low ↦
          (let other : unit_at order place ≡ unit → ⊥ = λ e. apart (let same : place ≡ get_or places unit 0 = sym (are place low) ∙ ap (λ (u : ℕ). get_or places u 0) e in omega (arith, same)) in
          ap (λ (e : Option ℕ). nat_lt place (length order) && is_some e) (get_or-set_other fixed unit (unit_at order place) (Some k) None other))
      | inr past ↦
          and_left (nat_lt place (length order)) (is_some (get_or (fix unit k fixed) (unit_at order place) None)) (le-ltb place (length order) past)
          ∙ sym (and_left (nat_lt place (length order)) (is_some (get_or fixed (unit_at order place) None)) (le-ltb place (length order) past))
    ]
      where
        cases_lt_bool : (p : ℕ) → (p < length order) ⊎ (length order ≤ p)
        cases_lt_bool p = cases_lt p (length order)

-- a free unit is in its row
free_in : (order : List DueUnit) (places : List ℕ) (fixed : List (Option ℕ)) (unit : ℕ) → IsAt order places unit → IsFree fixed unit → is_out order fixed (get_or places unit 0 + 1) ≡ false
free_in order places fixed unit at free = in_row (get_or places unit 0 + 1) (get_or places unit 0) (omega arith) at.own
  where
    in_row : (r place : ℕ) → r ≡ suc place → unit_at order place ≡ unit → is_out order fixed r ≡ false
    in_row r place is own =
        ap (is_out order fixed) is
        ∙ and_right (nat_lt place (length order)) (is_some (get_or fixed (unit_at order place) None)) (ap (λ (u : ℕ). is_some (get_or fixed u None)) own ∙ ap is_some free)

pub chain_entered : (order : List DueUnit) (places : List ℕ) (fixed : List (Option ℕ)) (innermost next previous : List ℕ) (unit at : ℕ) → at ≡ get_or places unit 0 + 1
    → ArePlaces order places (length order) → IsAt order places unit → unit < length fixed → IsFree fixed unit → IsChain order places fixed innermost next previous
    → IsChain order places (fix unit 0 fixed) (unit ∷ innermost) (set next (get_or previous at 0) (get_or next at 0)) (set previous (get_or next at 0) (get_or previous at 0))
chain_entered order places fixed innermost next previous unit at at_is are placed within free chain =
    subst (λ (a : ℕ).
    IsChain order places (fix unit 0 fixed) (unit ∷ innermost) (set next (get_or previous a 0) (get_or next a 0)) (set previous (get_or next a 0) (get_or previous a 0))) (sym at_is) (
      linked_without (is_out order fixed) (is_out order (fix unit 0 fixed)) (length order) own next previous linked (out_more order places fixed unit 0 are placed within) some low in_row,
      back.before,
      back.behind,
      rw (unfix-free unit 0 fixed free, back.nexts, back.previouses) chain,
    )
  where
    own : ℕ
    own = get_or places unit 0 + 1

    linked : AreLinked (is_out order fixed) (length order) next previous
    linked = chain_linked order places fixed innermost next previous chain

    some : 1 ≤ own
    some = omega arith

    low : own ≤ length order
    low = omega (arith, placed.within)

    in_row : is_out order fixed own ≡ false
    in_row = free_in order places fixed unit placed free

    back : IsPutBack next previous own (set next (get_or previous own 0) (get_or next own 0)) (set previous (get_or next own 0) (get_or previous own 0))
    back = puts_back (is_out order fixed) (length order) own next previous linked some low in_row

-- the same units are out where one that was is fixed to another version
pub chain_fixed : (order : List DueUnit) (places : List ℕ) (fixed : List (Option ℕ)) (outer next previous : List ℕ) (unit k : ℕ) → unit < length fixed → is_some (get_or fixed unit None) ≡ true
    → IsChain order places fixed (unit ∷ outer) next previous → IsChain order places (fix unit k fixed) (unit ∷ outer) next previous
chain_fixed order places fixed outer next previous unit k within some chain = (
  linked_same (is_out order fixed) (is_out order (fix unit k fixed)) (length order) next previous (λ r. out_same order fixed (fix unit k fixed) r (λ place is. same place)) chain.0,
  chain.1,
  chain.2,
  rw (unfix-fix unit k fixed) chain.3,
)
  where
    same : (place : ℕ) → is_some (get_or (fix unit k fixed) (unit_at order place) None) ≡ is_some (get_or fixed (unit_at order place) None)
    same place = elim (cases_eq (unit_at order place) unit) as (λ _. is_some (get_or (fix unit k fixed) (unit_at order place) None) ≡ is_some (get_or fixed (unit_at order place) None)) [
      | inl here ↦
          ap (λ (u : ℕ). is_some (get_or (fix unit k fixed) u None)) here ∙ ap is_some (get_or-set_same fixed unit (Some k) None within) ∙ sym some
          ∙ ap (λ (u : ℕ). is_some (get_or fixed u None)) (sym here)
      | inr other ↦ ap is_some (get_or-set_other fixed unit (unit_at order place) (Some k) None other)
    ]

-- ---- the unit in hand
-- the unit can be taken out of its row, or be put back
pub record IsReady (tally : Tally) (unit : ℕ) : Type 0 where
  pub unit_within : unit < length tally.places.items
  pub at : IsAt tally.order.items tally.places.items unit
  pub few : get_or tally.places.items unit 0 + 1 < 2 ^ 64
  pub next : get_or tally.places.items unit 0 + 1 < length tally.links.next.items
  pub previous : get_or tally.places.items unit 0 + 1 < length tally.links.previous.items
  pub before : get_or tally.links.previous.items (get_or tally.places.items unit 0 + 1) 0 < length tally.links.next.items
  pub behind : get_or tally.links.next.items (get_or tally.places.items unit 0 + 1) 0 < length tally.links.previous.items

ready : (table : Table) (fixed : List (Option ℕ)) (innermost : List ℕ) (tally : Tally) (unit : ℕ) → IsTally table fixed innermost tally → unit < length (units_of table)
    → get_or tally.links.previous.items (get_or tally.places.items unit 0 + 1) 0 < length tally.links.next.items
    → get_or tally.links.next.items (get_or tally.places.items unit 0 + 1) 0 < length tally.links.previous.items → IsReady tally unit
ready table fixed innermost tally unit is within before behind =
    let order = tally.order.items in
    let at = has_place table order tally.places.items unit is.order is.places within in
    let linked = chain_linked order tally.places.items fixed innermost tally.links.next.items tally.links.previous.items is.chain in
    record {
      unit_within = omega (arith, is.size, order_size table order is.order, within);
      at = at;
      few = omega (arith, at.within, is.packets.count, is.packets.are.few);
      next = omega (arith, at.within, linked.next_size);
      previous = omega (arith, at.within, linked.previous_size);
      before = before;
      behind = behind;
    }

pub ready_to_enter : (table : Table) (fixed : List (Option ℕ)) (innermost : List ℕ) (tally : Tally) (unit : ℕ) → IsTally table fixed innermost tally
    → unit < length (units_of table) → IsFree fixed unit → IsReady tally unit
ready_to_enter table fixed innermost tally unit is within free =
    let order = tally.order.items in
    let places = tally.places.items in
    let own = get_or places unit 0 + 1 in
    let at = has_place table order places unit is.order is.places within in
    let linked = chain_linked order places fixed innermost tally.links.next.items tally.links.previous.items is.chain in
    let in_row = free_in order places fixed unit at free in
    let left = linked.previouses own (omega arith) (omega (arith, at.within)) in_row in
    let right = linked.nexts own (omega (arith, at.within)) in_row in
    ready table fixed innermost tally unit is within (omega (arith, left.goes, at.within, linked.next_size)) (omega (arith, right.within, linked.previous_size))

pub ready_to_leave : (table : Table) (fixed : List (Option ℕ)) (outer : List ℕ) (tally : Tally) (unit : ℕ) → IsTally table fixed (unit ∷ outer) tally
    → unit < length (units_of table) → IsReady tally unit
ready_to_leave table fixed outer tally unit is within = ready table fixed (unit ∷ outer) tally unit is within is.chain.1 is.chain.2

-- the same links otherwise
abbrev pub with_links : Tally → Links → Tally
with_links tally links =
    record { order = tally.order; places = tally.places; links = links; packets = tally.packets; distortions = tally.distortions; free_least = tally.free_least }

-- the same with another sum
abbrev pub with_least : Tally → ℕ → Tally
with_least tally least =
    record { order = tally.order; places = tally.places; links = tally.links; packets = tally.packets; distortions = tally.distortions; free_least = least }

pub told : (table : Table) (fixed : List (Option ℕ)) (before after : List ℕ) (unit place : ℕ) (entry : Option ℕ) (version : Version) (old : Tally) (links : Links) (new : Tally)
    (least : ℕ)
    → IsTally table fixed before old → unit < length (units_of table) → unit < length fixed → place ≡ get_or old.places.items unit 0 → version ≡ version_fixed (unit_of table unit) entry
    → IsVersionPut place version (with_links old links) new
    → IsChain old.order.items old.places.items (set fixed unit entry) after links.next.items links.previous.items
    → least ≡ free_sum table old.order.items (set fixed unit entry) → IsTally table (set fixed unit entry) after (with_least new least)
told table fixed before after unit place entry version old links new least is within fixed_within place_is version_is put chain least_is =
    let order = old.order.items in
    let places = old.places.items in
    let at = has_place table order places unit is.order is.places within in
    let order_is : new.order.items ≡ order = ap (λ v. v.items) put.order in
    let places_are : new.places.items ≡ places = ap (λ v. v.items) put.places in
    let packets : HasAmounts table order (set fixed unit entry) packet_count new.packets =
    amounts_put table order places fixed unit entry packet_count old.packets new.packets is.packets is.places at fixed_within
    (subst (λ (p : ℕ). IsNumberPut p (packet_count (version_fixed (unit_of table unit) entry)) old.packets new.packets) place_is
    (subst (λ (v : Version). IsNumberPut place (packet_count v) old.packets new.packets) version_is put.packets)) in
    let distortions : HasAmounts table order (set fixed unit entry) (λ v. v.distortion) new.distortions =
    amounts_put table order places fixed unit entry (λ (v : Version). v.distortion) old.distortions new.distortions is.distortions is.places at fixed_within
    (subst (λ (p : ℕ). IsNumberPut p (version_fixed (unit_of table unit) entry).distortion old.distortions new.distortions) place_is
    (subst (λ (v : Version). IsNumberPut place v.distortion old.distortions new.distortions) version_is put.distortions)) in
    let chained : IsChain order places (set fixed unit entry) after new.links.next.items new.links.previous.items =
    subst (λ (l : Links). IsChain order places (set fixed unit entry) after l.next.items l.previous.items) (sym put.links) chain in
    record {
      order = rw order_is is.order;
      size = ap (length {A = ℕ}) places_are ∙ is.size ∙ sym (ap (length {A = DueUnit}) order_is);
      places = rw (order_is, places_are) is.places;
      chain = rw (order_is, places_are) chained;
      packets = rw order_is packets;
      distortions = rw order_is distortions;
      least = rw order_is least_is;
    }

-- ---- nothing is fixed
pub unfixed_at : (units : List CodedUnit) (k : ℕ) → get_or {A = Option ℕ} (map (λ (unit : CodedUnit). None) units) k None ≡ None
unfixed_at [] k = refl
unfixed_at (unit ∷ units) zero = refl
unfixed_at (unit ∷ units) (suc k) = unfixed_at units k

none_out : (table : Table) (order : List DueUnit) (r : ℕ) → is_out order (unfixed table) r ≡ false
none_out table order zero = refl
none_out table order (suc place) =
    and_right (nat_lt place (length order)) (is_some (get_or (unfixed table) (unit_at order place) None)) (ap is_some (unfixed_at (units_of table) (unit_at order place)))

no_amounts : (table : Table) (order : List DueUnit) (amount : Version → ℕ) (sums : PlaceSums) → amount (record { bytes = 0; distortion = 0 }) ≡ 0 → AreSums sums → sums.count ≡ length order
    → ((place : ℕ) → number_at sums place ≡ 0) → HasAmounts table order (unfixed table) amount sums
no_amounts table order amount sums nothing are count zeros = record {
  are = are;
  count = count;
  each = λ place within. zeros place ∙ sym nothing
      ∙ ap (λ (e : Option ℕ). amount (version_fixed (unit_of table (unit_at order place)) e)) (sym (unfixed_at (units_of table) (unit_at order place)));
}

pub started : (table : Table) (tally : Tally) (count : ℕ) → IsDueOrder table tally.order.items → count ≡ length tally.order.items → length tally.places.items ≡ length tally.order.items
    → ArePlaces tally.order.items tally.places.items (length tally.order.items) → IsRow (count + 2) tally.links → AreSums tally.packets → tally.packets.count ≡ count
    → ((place : ℕ) → number_at tally.packets place ≡ 0) → AreSums tally.distortions → tally.distortions.count ≡ count → ((place : ℕ) → number_at tally.distortions place ≡ 0)
    → tally.free_least ≡ free_sum table tally.order.items (unfixed table) → IsTally table (unfixed table) [] tally
started table tally count order count_is size places row packets packets_count no_packets distortions distortions_count no_distortions least = record {
  order = order;
  size = size;
  places = places;
  chain = linked_row (is_out tally.order.items (unfixed table)) (length tally.order.items) tally.links (none_out table tally.order.items)
      (subst (λ (n : ℕ). IsRow (n + 2) tally.links) count_is row);
  packets = no_amounts table tally.order.items packet_count tally.packets refl packets (packets_count ∙ count_is) no_packets;
  distortions = no_amounts table tally.order.items (λ (v : Version). v.distortion) tally.distortions refl distortions (distortions_count ∙ count_is) no_distortions;
  least = least;
}
