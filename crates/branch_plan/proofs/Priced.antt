-- The leaves that have windows, of either kind.
use Rattle.std.proofs.Common.{◌≡◌, ℕ, ◌<◌, ◌≤◌, inl, inr, MatchOption, List, [], length, Option, Some, None, refl, sym, ap, subst, ◌∙◌, arith}
use Rattle.arrayvec.specs.ArrayVec.{ArrayVec}
use Rattle.version_table.specs.declared.table.Table.{Table}
use Rattle.dual_bounds.specs.declared.constants.TheConstants.{WINDOWS_MOST}
use Rattle.dual_bounds.specs.declared.windows.Window.{Window as PricedWindow}
use Rattle.dual_bounds.specs.Bounds.{bound_of_value}
use Rattle.dual_bounds.specs.Values.{value_of_windows}
use Rattle.buffer_windows.specs.declared.windows.BufferWindow.{BufferWindow as SeeingWindow}
use Rattle.buffer_windows.specs.Bounds.{bound_of_buffer_windows}
use Rattle.multiplier_search.specs.Buffered.{AreSearchedBuffered}
use Rattle.multiplier_search.specs.Windows.{AreSearched}
use Rattle.bound_certificate.specs.declared.cert.Node.{Node}
use Rattle.bound_certificate.specs.declared.cert.Node.TheVariants.{Window, BufferWindow}
use Rattle.certificate_checker.specs.Checked.{IsAtMost}
use Rattle.certificate_checker.specs.Faults.{AreRight, IsRight}
use Rattle.certificate_checker.specs.Shown.{bound_of_leaf}
use Rattle.certificate_checker.specs.Walk.{IsLeaf}
use Rattle.branch_plan.specs.declared.known.Known.{Known}
use Rattle.branch_plan.specs.declared.leaves.Leaf.{Leaf}
use Rattle.branch_plan.specs.declared.values.Values.{Values}
use Rattle.branch_plan.specs.Private.Found.{AreSearchedIn, AreShared, IsNoLower, IsReached}
use Rattle.branch_plan.specs.Private.Known.{IsKnown}
use Rattle.branch_plan.specs.Private.Leaves.{IsFreeUnit, IsLeafOn, IsSettledBy, MayBranch, MayStand}
use Rattle.branch_plan.proofs.Roots.{right_buffered}

-- ---- no windows
none_searched : AreSearched []
none_searched = record { sound = λ k d low. absurd (omega (arith, low)); rise = λ k d low. absurd (omega (arith, low)) }

none_buffered : (table : Table) → AreSearchedBuffered table []
none_buffered table = record { sound = λ k d low. absurd (omega (arith, low)); rise = λ k d low. absurd (omega (arith, low)) }

-- ---- a bound below a distortion
settled : (table : Table) (fixed : List (Option ℕ)) (node : Node) (distortion bound unit : ℕ) (below : Option ℕ) → bound_of_leaf table fixed node ≡ Some bound
    → (MayBranch table fixed node bound) → MatchOption below (distortion ≤ bound) (λ b. (b ≡ bound) × (bound < distortion)) → IsSettledBy table fixed distortion node below
settled table fixed node distortion bound unit None is may high = subst (λ (b : Option ℕ). IsAtMost distortion b) (sym is) high
settled table fixed node distortion bound unit (Some b) is may same = subst (λ (n : ℕ). MayBranch table fixed node n) (sym same.0) may

pub no_lower : (floor bound distortion : ℕ) (below : Option ℕ) → floor ≤ bound → MatchOption below (distortion ≤ bound) (λ b. (b ≡ bound) × (bound < distortion)) → IsNoLower floor below
no_lower floor bound distortion None least is = tt
no_lower floor bound distortion (Some b) least is = omega (arith, least, is.0)

-- ---- windows that see the buffers
pub seen_leaf_is : (table : Table) (most : ℕ) (fixed : List (Option ℕ)) (windows : List SeeingWindow) (bound : ℕ) (leaf : Leaf) (known : Known) (unit : ℕ) → IsKnown table known
    → AreSearchedBuffered table windows → bound_of_buffer_windows table fixed windows ≡ Some bound → IsFreeUnit table fixed unit → leaf.node ≡ BufferWindow windows → leaf.known ≡ known
    → MatchOption leaf.bound (known.distortion ≤ bound) (λ b. (b ≡ bound) × (bound < known.distortion)) → IsLeafOn table most fixed known.distortion leaf
seen_leaf_is table most fixed windows bound leaf known unit known_is searched is free node_is same below =
    let node = BufferWindow windows in
    let may : MayBranch table fixed node bound = record { bound_is = is; has = tt; unit = unit; free = free } in
    let stands : MayStand table most node = record {
      many = tt;
      version = refl;
      windows = omega arith;
      few = λ enough. omega arith;
    } in
    let searched_in : AreSearchedIn table node = (none_searched, searched) in
    let bound_is : IsSettledBy table fixed known.distortion node leaf.bound = settled table fixed node known.distortion bound unit leaf.bound is may below in
    record {
      known = subst (λ (k : Known). IsKnown table k) (sym same) known_is;
      kept = omega (arith, ap (λ (k : Known). k.distortion) same);
      is = subst (λ (n : Node). IsLeaf n) (sym node_is) tt;
      right = subst (λ (n : Node). IsRight table fixed n) (sym node_is) (right_buffered table windows searched);
      stands = subst (λ (n : Node). MayStand table most n) (sym node_is) stands;
      searched = subst (λ (n : Node). AreSearchedIn table n) (sym node_is) searched_in;
      bound =
          subst (λ (k : Known). IsSettledBy table fixed k.distortion leaf.node leaf.bound) (sym same)
          (subst (λ (n : Node). IsSettledBy table fixed known.distortion n leaf.bound) (sym node_is) bound_is);
    }

-- ---- windows of time
pub time_leaf_is : (table : Table) (most : ℕ) (fixed : List (Option ℕ)) (priced : ArrayVec PricedWindow) (below : Option ℕ) (values : Values) (known : Known) (unit : ℕ) → IsKnown table known
    → AreSearched priced.items → length priced.items ≤ WINDOWS_MOST → AreShared table most (length priced.items) → IsFreeUnit table fixed unit
    → MatchOption below (known.distortion ≤ bound_of_value (value_of_windows table fixed priced.items))
    (λ b. (b ≡ bound_of_value (value_of_windows table fixed priced.items)) × (bound_of_value (value_of_windows table fixed priced.items) < known.distortion))
    → IsLeafOn table most fixed known.distortion (record { node = Window priced; bound = below; values = values; known = known })
time_leaf_is table most fixed priced below values known unit known_is searched short few free is =
    let bound = bound_of_value (value_of_windows table fixed priced.items) in
    let node = Window priced in
    let may : MayBranch table fixed node bound = record { bound_is = refl; has = tt; unit = unit; free = free } in
    let right : AreRight priced.items = (searched.rise, (λ k d low. (searched.sound k d low).order), (λ k d low. (searched.sound k d low).lambda)) in
    record {
      known = known_is;
      kept = omega arith;
      is = tt;
      right = right;
      stands = record { many = tt; version = inr refl; windows = short; few = few };
      searched = (searched, none_buffered table);
      bound = settled table fixed node known.distortion bound unit below refl may is;
    }

-- whichever kind bounds closer reaches what one of both does
pub closer_reached : (table : Table) (fixed : List (Option ℕ)) (windows : List PricedWindow) (buffers : List SeeingWindow) (floor bound : ℕ)
    → bound_of_buffer_windows table fixed buffers ≡ Some bound → bound_of_value (value_of_windows table fixed windows) < bound → IsReached table fixed windows buffers floor → floor ≤ bound
closer_reached table fixed windows buffers floor bound is more (inl least) = omega (arith, more, least)
closer_reached table fixed windows buffers floor bound is more (inr (other, other_is, least)) = omega (arith, least, some_same other bound (sym other_is ∙ is))
  where
    some_same : (a b : ℕ) → Some a ≡ Some b → a ≡ b
    some_same a b e = grind (arith, e)

pub time_reached : (table : Table) (fixed : List (Option ℕ)) (windows : List PricedWindow) (buffers : List SeeingWindow) (floor bound : ℕ)
    → bound_of_buffer_windows table fixed buffers ≡ Some bound → bound ≤ bound_of_value (value_of_windows table fixed windows) → IsReached table fixed windows buffers floor
    → floor ≤ bound_of_value (value_of_windows table fixed windows)
time_reached table fixed windows buffers floor bound is less (inl least) = least
time_reached table fixed windows buffers floor bound is less (inr (other, other_is, least)) = omega (arith, least, less, some_same other bound (sym other_is ∙ is))
  where
    some_same : (a b : ℕ) → Some a ≡ Some b → a ≡ b
    some_same a b e = grind (arith, e)

pub none_reached : (table : Table) (fixed : List (Option ℕ)) (windows : List PricedWindow) (buffers : List SeeingWindow) (floor : ℕ)
    → bound_of_buffer_windows table fixed buffers ≡ None → IsReached table fixed windows buffers floor → floor ≤ bound_of_value (value_of_windows table fixed windows)
none_reached table fixed windows buffers floor is (inl least) = least
none_reached table fixed windows buffers floor is (inr (other, other_is, least)) = absurd (never other (sym other_is ∙ is))
  where
    never : (n : ℕ) → ◌≡◌ {A = Option ℕ} (Some n) None → ⊥
    never n e = grind (arith, e)

pub lower_floor : (floor more : ℕ) (bound : Option ℕ) → floor ≤ more → IsNoLower more bound → IsNoLower floor bound
lower_floor floor more None less is = tt
lower_floor floor more (Some b) less is = omega (arith, less, is)
