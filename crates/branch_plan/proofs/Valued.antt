-- What windows come to: with one version more fixed, and beside the nodes of a tree.
use Rattle.std.proofs.Common.{◌≡◌, ◌≢◌, ℕ, zero, suc, ◌+◌, ◌-◌, ◌<◌, ◌⊎◌, inl, inr, Bool, true, false, List, [], ◌∷◌, ◌++◌, length, get_or, set, Option, Some, None, map, if◌then◌else◌, refl, sym, ap, subst, ◌∙◌, arith, ℤ, pos, ◌+ℤ◌}
use Rattle.std.specs.List.{zip}
use Rattle.std.proofs.lemmas.Bool.{cases_eq, cases_lt}
use Rattle.std.proofs.lemmas.Int.{ints}
use Rattle.std.proofs.lemmas.List.{get_or-append-add, get_or_append_left, length-append}
use Rattle.std.proofs.lemmas.List.Sums.{sum_by-cons}
use Rattle.version_table.specs.declared.table.Table.{Table}
use Rattle.version_table.specs.declared.table.Unit.{Unit as CodedUnit}
use Rattle.version_table.specs.Choice.{least}
use Rattle.version_table.specs.Table.{IsValidTable, IsValidUnit, units_of}
use Rattle.dual_bounds.specs.Fixed.{allowed}
use Rattle.dual_bounds.specs.declared.windows.Window.{Window as PricedWindow}
use Rattle.dual_bounds.specs.Values.{cost, least_cost, least_costs, price, value_of_windows}
use Rattle.buffer_windows.specs.declared.windows.BufferWindow.{BufferWindow as SeeingWindow}
use Rattle.buffer_windows.specs.Bounds.{bound_of_buffer_windows, bound_of_byte_value, each_has_left}
use Rattle.buffer_windows.specs.Charges.{OwnedUnit, owned_units}
use Rattle.buffer_windows.specs.Values.{least_owned_cost, least_owned_costs, value_of_buffer_windows}
use Rattle.bound_certificate.specs.declared.cert.Node.{Node}
use Rattle.bound_certificate.specs.declared.cert.Node.TheVariants.{Branch, Dual, Run, Open, Window, BufferWindow}
use Rattle.certificate_checker.specs.Faults.{IsFree}
use Rattle.certificate_checker.specs.Shown.{fix}
use Rattle.certificate_checker.proofs.OrderCosts.{valid_at}
use Rattle.certificate_checker.proofs.Units.{no_unit}
use Rattle.branch_plan.specs.declared.values.TheConstants.{UNKNOWN}
use Rattle.branch_plan.specs.declared.values.KeptValue.{KeptValue}
use Rattle.branch_plan.specs.declared.values.Values.{Values}
use Rattle.branch_plan.specs.Bound.{owned_at}
use Rattle.branch_plan.specs.Private.Found.{buffers_of, time_of}
use Rattle.branch_plan.specs.Private.Growth.{node_of}
use Rattle.branch_plan.specs.Private.Leaves.{HasWindows}
use Rattle.branch_plan.specs.Private.Valued.{AreKept, AreValued, AreValuedBelow, IsSeenKept, IsTimeKept, IsValuedBy, values_of}
use Rattle.branch_plan.proofs.Branched.{branch_node, long_with, new_node, new_path, old_node, old_path, paths_with}
use Rattle.branch_plan.proofs.Owned.{no_owned, owned_count}
use Rattle.branch_plan.proofs.Reaching.{fixed_left}

-- ---- one version more
costs_fixed : (windows : List PricedWindow) (units : List CodedUnit) (fixed : List (Option ℕ)) (u k : ℕ) → IsFree fixed u → u < length units → length fixed ≡ length units
    → least_costs windows units (fix u k fixed) + least_cost windows (get_or units u no_unit) None ≡ least_costs windows units fixed + least_cost windows (get_or units u no_unit) (Some k)
unfolding least_costs
costs_fixed windows [] fixed u k free within size = absurd (omega (arith, within))
costs_fixed windows (unit ∷ units) [] u k free within size = absurd (omega (arith, size))
costs_fixed windows (unit ∷ units) (None ∷ fixed) zero k free within size =
    let own : CodedUnit × Option ℕ → ℕ = λ (other, entry). least_cost windows other entry in
    omega (arith, sum_by-cons own (unit, None) (zip units fixed), sum_by-cons own (unit, Some k) (zip units fixed))
costs_fixed windows (unit ∷ units) (Some n ∷ fixed) zero k free within size = absurd (grind (arith, free))
costs_fixed windows (unit ∷ units) (entry ∷ fixed) (suc u) k free within size =
    let own : CodedUnit × Option ℕ → ℕ = λ (other, e). least_cost windows other e in
    omega (
      arith,
      sum_by-cons own (unit, entry) (zip units fixed),
      sum_by-cons own (unit, entry) (zip units (fix u k fixed)),
      costs_fixed windows units fixed u k free (omega (arith, within)) (omega (arith, size)),
    )

owned_costs_fixed : (slot : ℕ) (windows : List SeeingWindow) (units : List OwnedUnit) (fixed : List (Option ℕ)) (u k : ℕ) → IsFree fixed u → u < length units → length fixed ≡ length units
    → least_owned_costs slot windows units (fix u k fixed) + least_owned_cost slot windows (get_or units u no_owned) None
    ≡ least_owned_costs slot windows units fixed + least_owned_cost slot windows (get_or units u no_owned) (Some k)
unfolding least_owned_costs
owned_costs_fixed slot windows [] fixed u k free within size = absurd (omega (arith, within))
owned_costs_fixed slot windows (owned ∷ units) [] u k free within size = absurd (omega (arith, size))
owned_costs_fixed slot windows (owned ∷ units) (None ∷ fixed) zero k free within size =
    let own : OwnedUnit × Option ℕ → ℕ = λ (other, entry). least_owned_cost slot windows other entry in
    omega (arith, sum_by-cons own (owned, None) (zip units fixed), sum_by-cons own (owned, Some k) (zip units fixed))
owned_costs_fixed slot windows (owned ∷ units) (Some n ∷ fixed) zero k free within size = absurd (grind (arith, free))
owned_costs_fixed slot windows (owned ∷ units) (entry ∷ fixed) (suc u) k free within size =
    let own : OwnedUnit × Option ℕ → ℕ = λ (other, e). least_owned_cost slot windows other e in
    omega (
      arith,
      sum_by-cons own (owned, entry) (zip units fixed),
      sum_by-cons own (owned, entry) (zip units (fix u k fixed)),
      owned_costs_fixed slot windows units fixed u k free (omega (arith, within)) (omega (arith, size)),
    )

time_value_fixed : (table : Table) (fixed : List (Option ℕ)) (windows : List PricedWindow) (u k least own : ℕ) (before now : ℤ) → IsFree fixed u → u < length (units_of table)
    → length fixed ≡ length (units_of table) → least ≡ least_cost windows (get_or (units_of table) u no_unit) None → own ≡ least_cost windows (get_or (units_of table) u no_unit) (Some k)
    → (now +ℤ pos least) ≡ (before +ℤ pos own) → before ≡ value_of_windows table fixed windows → now ≡ value_of_windows table (fix u k fixed) windows
unfolding value_of_windows
time_value_fixed table fixed windows u k least own before now free within size least_is own_is moved is =
    omega (arith, ints, costs_fixed windows (units_of table) fixed u k free within size, least_is, own_is, moved, is)

pub time_fixed : (table : Table) (fixed : List (Option ℕ)) (windows : List PricedWindow) (u k least own : ℕ) (kept now : KeptValue) → IsFree fixed u
    → u < length (units_of table) → length fixed ≡ length (units_of table) → least ≡ least_cost windows (get_or (units_of table) u no_unit) None
    → own ≡ least_cost windows (get_or (units_of table) u no_unit) (Some k) → (now.parts ≢ UNKNOWN → kept.parts ≢ UNKNOWN)
    → (now.parts ≢ UNKNOWN → (now.parts +ℤ pos least) ≡ (kept.parts +ℤ pos own)) → IsTimeKept table fixed windows kept → IsTimeKept table (fix u k fixed) windows now
time_fixed table fixed windows u k least own kept now free within size least_is own_is known moved is =
    λ some. time_value_fixed table fixed windows u k least own kept.parts now.parts free within size least_is own_is (moved some) (is (known some))

seen_value_fixed : (table : Table) (fixed : List (Option ℕ)) (windows : List SeeingWindow) (u k least own : ℕ) (before now : ℤ) → IsFree fixed u → u < length (units_of table)
    → length fixed ≡ length (units_of table) → least ≡ least_owned_cost table.slot windows (owned_at table u) None → own ≡ least_owned_cost table.slot windows (owned_at table u) (Some k)
    → (now +ℤ pos least) ≡ (before +ℤ pos own) → before ≡ value_of_buffer_windows table fixed windows → now ≡ value_of_buffer_windows table (fix u k fixed) windows
unfolding value_of_buffer_windows
seen_value_fixed table fixed windows u k least own before now free within size least_is own_is moved is =
    let count = owned_count table in
    let costs = owned_costs_fixed table.slot windows (owned_units table) fixed u k free (omega (arith, within, count)) (omega (arith, size, count)) in
    omega (arith, ints, costs, least_is, own_is, moved, is)

pub seen_fixed : (table : Table) (fixed : List (Option ℕ)) (windows : List SeeingWindow) (u k least own : ℕ) (kept now : KeptValue) → IsFree fixed u
    → u < length (units_of table) → length fixed ≡ length (units_of table) → least ≡ least_owned_cost table.slot windows (owned_at table u) None
    → own ≡ least_owned_cost table.slot windows (owned_at table u) (Some k) → (now.parts ≢ UNKNOWN → kept.parts ≢ UNKNOWN)
    → (now.parts ≢ UNKNOWN → (now.parts +ℤ pos least) ≡ (kept.parts +ℤ pos own)) → IsSeenKept table fixed windows kept → IsSeenKept table (fix u k fixed) windows now
seen_fixed table fixed windows u k least own kept now free within size least_is own_is known moved is = λ some. (
  fixed_left (owned_units table) fixed u k (is (known some)).0,
  seen_value_fixed table fixed windows u k least own kept.parts now.parts free within size least_is own_is (moved some) (is (known some)).1,
)

-- ---- what a unit costs
pub valid_read : (table : Table) (unit : ℕ) (own : CodedUnit) → IsValidTable table → unit < length (units_of table) → own ≡ get_or (units_of table) unit no_unit → IsValidUnit table.slot own
valid_read table unit own valid within is = subst (λ (u : CodedUnit). IsValidUnit table.slot u) (sym is) (valid_at table unit valid within)

pub cost_is : (windows : List PricedWindow) (unit : CodedUnit) (entry : Option ℕ) (charged cost_of : ℕ) → charged ≡ price windows unit.due
    → cost_of ≡ least (map (cost charged) (allowed unit entry)) → cost_of ≡ least_cost windows unit entry
unfolding least_cost
cost_is windows unit entry charged cost_of priced is = is ∙ ap (λ (n : ℕ). least (map (cost n) (allowed unit entry))) priced

pub owned_cost_is : (slot : ℕ) (windows seeing : List SeeingWindow) (own other : OwnedUnit) (entry : Option ℕ) (cost_of : ℕ) → windows ≡ seeing → own ≡ other
    → cost_of ≡ least_owned_cost slot windows other entry → cost_of ≡ least_owned_cost slot seeing own entry
owned_cost_is slot windows seeing own other entry cost_of same own_is is =
    is ∙ ap (λ (ws : List SeeingWindow). least_owned_cost slot ws other entry) same ∙ ap (λ (o : OwnedUnit). least_owned_cost slot seeing o entry) (sym own_is)

-- ---- the bound of what is known
pub seen_known : (table : Table) (fixed : List (Option ℕ)) (seeing : List SeeingWindow) (value : ℤ) (bound : ℕ) → each_has_left table fixed ≡ true → value ≡ value_of_buffer_windows table fixed seeing
    → bound ≡ bound_of_byte_value value → bound_of_buffer_windows table fixed seeing ≡ Some bound
unfolding bound_of_buffer_windows
seen_known table fixed seeing value bound has value_is bound_is =
    ap (λ (b : Bool). if b then Some (bound_of_byte_value (value_of_buffer_windows table fixed seeing)) else None) has ∙ ap Some (sym (bound_is ∙ ap bound_of_byte_value value_is))

pub none_known : (table : Table) (fixed : List (Option ℕ)) (seeing : List SeeingWindow) → each_has_left table fixed ≡ false → bound_of_buffer_windows table fixed seeing ≡ None
unfolding bound_of_buffer_windows
none_known table fixed seeing has = ap (λ (b : Bool). if b then Some (bound_of_byte_value (value_of_buffer_windows table fixed seeing)) else None) has

-- ---- a child's own windows
pub values_own : (table : Table) (fixed : List (Option ℕ)) (windows own : List PricedWindow) (seeing : List SeeingWindow) (values result : Values) (relaxed : Bool) → (relaxed ≡ false → own ≡ windows)
    → result.seen ≡ values.seen → (relaxed ≡ false → result.time ≡ values.time) → (relaxed ≡ true → result.time.parts ≡ UNKNOWN) → AreKept table fixed windows seeing values
    → AreKept table fixed own seeing result
values_own table fixed windows own seeing values result true same seen kept none are = record {
  time = λ some. absurd (some (none refl));
  seen = subst (λ (v : KeptValue). IsSeenKept table fixed seeing v) (sym seen) are.seen;
}
values_own table fixed windows own seeing values result false same seen kept none are = record {
  time =
      subst (λ (v : KeptValue). IsTimeKept table fixed own v) (sym (kept refl))
      (subst (λ (ws : List PricedWindow). IsTimeKept table fixed ws values.time) (sym (same refl)) are.time);
  seen = subst (λ (v : KeptValue). IsSeenKept table fixed seeing v) (sym seen) are.seen;
}

-- ---- beside the nodes
pub valued_as : (table : Table) (seeing : List SeeingWindow) (f g : List (Option ℕ)) (n m : Node) (v w : Values) → f ≡ g → n ≡ m → v ≡ w → IsValuedBy table seeing g m w → IsValuedBy table seeing f n v
valued_as table seeing f g n m v w path_is node_is value_is is =
    subst (λ (p : List (Option ℕ)). IsValuedBy table seeing p n v) (sym path_is)
    (subst (λ (x : Node). IsValuedBy table seeing g x v) (sym node_is) (subst (λ (x : Values). IsValuedBy table seeing g m x) (sym value_is) is))

-- a leaf that sees the buffers
pub seen_leaf_valued : (table : Table) (seeing : List SeeingWindow) (fixed : List (Option ℕ)) (node : Node) (values : Values) (kept : KeptValue) → node ≡ BufferWindow seeing
    → values.time.parts ≡ UNKNOWN → values.seen ≡ kept → IsSeenKept table fixed seeing kept → IsValuedBy table seeing fixed node values
seen_leaf_valued table seeing fixed node values kept node_is time seen is =
    subst (λ (n : Node). IsValuedBy table seeing fixed n values) (sym node_is) (refl, time, subst (λ (v : KeptValue). IsSeenKept table fixed seeing v) (sym seen) is)

-- what is kept with a leaf, for its children
pub kept_for : (table : Table) (seeing : List SeeingWindow) (others : List PricedWindow) (fixed : List (Option ℕ)) (node : Node) (values : Values) → HasWindows node
    → IsValuedBy table seeing fixed node values → AreKept table fixed (time_of node others) seeing values
kept_for table seeing others fixed (Branch unit) values has is = absurd has
kept_for table seeing others fixed (Dual priced) values has is = absurd has
kept_for table seeing others fixed (Run scheduled) values has is = absurd has
kept_for table seeing others fixed Open values has is = absurd has
kept_for table seeing others fixed (Window priced) values has is = is
kept_for table seeing others fixed (BufferWindow priced) values has is = record { time = λ some. absurd (some is.1); seen = is.2 }

-- the windows that see the buffers of a leaf are the root's
pub buffers_same : (table : Table) (seeing : List SeeingWindow) (fixed : List (Option ℕ)) (node : Node) (values : Values) → IsValuedBy table seeing fixed node values → buffers_of node seeing ≡ seeing
buffers_same table seeing fixed (Branch unit) values is = refl
buffers_same table seeing fixed (Dual priced) values is = refl
buffers_same table seeing fixed (Run scheduled) values is = refl
buffers_same table seeing fixed Open values is = refl
buffers_same table seeing fixed (Window priced) values is = refl
buffers_same table seeing fixed (BufferWindow priced) values is = is.0

abbrev pub no_value : Values
no_value = record { time = record { parts = UNKNOWN }; seen = record { parts = UNKNOWN } }

-- the first children of a branch, and one more
pub one_more_value : (table : Table) (seeing : List SeeingWindow) (fixed now : List (Option ℕ)) (unit k : ℕ) (made more : List Node) (values more_values : List Values) (node : Node) (value : Values) → length made ≡ k
    → AreValuedBelow table seeing fixed unit k made values → now ≡ fix unit k fixed → more ≡ made ++ node ∷ [] → more_values ≡ values ++ value ∷ [] → IsValuedBy table seeing now node value
    → AreValuedBelow table seeing fixed unit (k + 1) more more_values
one_more_value table seeing fixed now unit k made more values more_values node value size are now_is more_is values_is is = record {
  as_many = ap length values_is ∙ omega (arith, length-append values (value ∷ []), are.as_many);
  each = λ j low. elim (cases_lt j k) as (λ _. IsValuedBy table seeing (fix unit j fixed) (node_of more j) (values_of more_values j)) [
    | inl old ↦
        valued_as table seeing (fix unit j fixed) (fix unit j fixed) (node_of more j) (node_of made j) (values_of more_values j) (values_of values j) refl
        (ap (λ (ns : List Node). node_of ns j) more_is ∙ get_or_append_left made (node ∷ []) Open j (omega (arith, old, size)))
        (ap (λ (vs : List Values). values_of vs j) values_is ∙ get_or_append_left values (value ∷ []) no_value j (omega (arith, old, are.as_many)))
        (are.each j old)
    | inr new ↦
        let same : j ≡ k = omega (arith, low, new) in
        let at_node : j ≡ length made + 0 = omega (arith, same, size) in
        let at_value : j ≡ length values + 0 = omega (arith, same, are.as_many) in
        valued_as table seeing (fix unit j fixed) now (node_of more j) node (values_of more_values j) value (ap (λ (n : ℕ). fix unit n fixed) same ∙ sym now_is)
        (ap (λ (ns : List Node). node_of ns j) more_is ∙ ap (node_of (made ++ node ∷ [])) at_node ∙ get_or-append-add made (node ∷ []) 0 Open)
        (ap (λ (vs : List Values). values_of vs j) values_is ∙ ap (values_of (values ++ value ∷ [])) at_value ∙ get_or-append-add values (value ∷ []) 0 no_value) is
  ];
}

pub none_valued : (table : Table) (seeing : List SeeingWindow) (fixed : List (Option ℕ)) (unit : ℕ) (made : List Node) (values : List Values) → values ≡ [] → AreValuedBelow table seeing fixed unit 0 made values
none_valued table seeing fixed unit made values none = record { as_many = ap length none; each = λ j low. absurd (omega (arith, low)) }

-- the tree of one node
pub root_valued : (table : Table) (seeing : List SeeingWindow) (fixed : List (Option ℕ)) (node : Node) (value : Values) → IsValuedBy table seeing fixed node value
    → AreValued table seeing (node ∷ []) (λ j. fixed) (value ∷ [])
root_valued table seeing fixed node value is = record { as_many = refl; each = λ j low. each_in j (omega (arith, low)) }
  where
    each_in : (j : ℕ) → j ≡ 0 → IsValuedBy table seeing fixed (node_of (node ∷ []) j) (values_of (value ∷ []) j)
    each_in j same = subst (λ (i : ℕ). IsValuedBy table seeing fixed (node_of (node ∷ []) i) (values_of (value ∷ []) i)) (sym same) is

-- one more branch
old_valued : (table : Table) (seeing : List SeeingWindow) (nodes made : List Node) (path : ℕ → List (Option ℕ)) (values made_values : List Values) (i unit j : ℕ) → i < length nodes → AreValued table seeing nodes path values
    → j < length nodes → (j ≡ i) ⊎ (j ≢ i)
    → IsValuedBy table seeing (paths_with (length nodes) unit (path i) path j) (node_of (set nodes i (Branch unit) ++ made) j) (values_of (values ++ made_values) j)
old_valued table seeing nodes made path values made_values i unit j within are low (inl same) =
    subst (λ (n : Node). IsValuedBy table seeing (paths_with (length nodes) unit (path i) path j) n (values_of (values ++ made_values) j))
    (sym (ap (node_of (set nodes i (Branch unit) ++ made)) same ∙ branch_node nodes made i (Branch unit) within)) tt
old_valued table seeing nodes made path values made_values i unit j within are low (inr differs) =
    valued_as table seeing (paths_with (length nodes) unit (path i) path j) (path j) (node_of (set nodes i (Branch unit) ++ made) j) (node_of nodes j) (values_of (values ++ made_values) j) (values_of values j)
    (old_path (length nodes) unit (path i) path j low) (old_node nodes made i j (Branch unit) low differs)
    (get_or_append_left values made_values no_value j (omega (arith, low, are.as_many))) (are.each j low)

new_valued : (table : Table) (seeing : List SeeingWindow) (nodes made : List Node) (path : ℕ → List (Option ℕ)) (values made_values : List Values) (i unit count j k : ℕ) → length values ≡ length nodes
    → AreValuedBelow table seeing (path i) unit count made made_values → j ≡ length nodes + k → k < count
    → IsValuedBy table seeing (paths_with (length nodes) unit (path i) path j) (node_of (set nodes i (Branch unit) ++ made) j) (values_of (values ++ made_values) j)
new_valued table seeing nodes made path values made_values i unit count j k size below place low =
    let at : j ≡ length values + k = omega (arith, place, size) in
    valued_as table seeing (paths_with (length nodes) unit (path i) path j) (fix unit k (path i)) (node_of (set nodes i (Branch unit) ++ made) j) (node_of made k) (values_of (values ++ made_values) j)
    (values_of made_values k) (new_path (length nodes) unit (path i) path j k place) (new_node nodes made i j k (Branch unit) place)
    (ap (values_of (values ++ made_values)) at ∙ get_or-append-add values made_values k no_value) (below.each k low)

pub branched_valued : (table : Table) (seeing : List SeeingWindow) (nodes made : List Node) (path : ℕ → List (Option ℕ)) (values made_values : List Values) (i unit count : ℕ) → i < length nodes → length made ≡ count
    → AreValued table seeing nodes path values → AreValuedBelow table seeing (path i) unit count made made_values
    → AreValued table seeing (set nodes i (Branch unit) ++ made) (paths_with (length nodes) unit (path i) path) (values ++ made_values)
branched_valued table seeing nodes made path values made_values i unit count within size are below =
    let long = long_with nodes made i (Branch unit) in
    record {
      as_many = omega (arith, length-append values made_values, are.as_many, below.as_many, size, long);
      each = λ j low. elim (cases_lt j (length nodes)) as
          (λ _. IsValuedBy table seeing (paths_with (length nodes) unit (path i) path j) (node_of (set nodes i (Branch unit) ++ made) j) (values_of (values ++ made_values) j)) [
            | inl old ↦ old_valued table seeing nodes made path values made_values i unit j within are old (cases_eq j i)
            | inr new ↦
                new_valued table seeing nodes made path values made_values i unit count j (j - length nodes) are.as_many below (omega (arith, new)) (omega (arith, low, new, long, size))
          ];
    }
