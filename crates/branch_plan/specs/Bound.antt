-- How strong the bound of a plan is: what it is at least, with no version fixed.
use Rattle.std.specs.Prelude.{◌≡◌, ◌≢◌, ℕ, ◌*◌, ◌<◌, ◌≤◌, nat_le, Bool, true, List, [], ◌∷◌, length, All, slice_index_or, Some}
use Rattle.std.specs.List.{list_all}
use Rattle.stream_constants.specs.declared.decoder.TheConstants.{EB_UNIT_BYTES}
use Rattle.version_table.specs.declared.table.Table.{Table}
use Rattle.version_table.specs.Table.{units_of}
use Rattle.dual_bounds.specs.declared.windows.Multiplier.{Multiplier}
use Rattle.dual_bounds.specs.declared.windows.Window.{Window as PricedWindow}
use Rattle.dual_bounds.specs.Bounds.{bound_of_value}
use Rattle.dual_bounds.specs.Values.{value_of_multipliers, value_of_windows}
use Rattle.buffer_windows.specs.Bounds.{bound_of_buffer_windows}
use Rattle.buffer_windows.specs.Charges.{OwnedUnit, owned_units}
use Rattle.multiplier_search.specs.Single.{IsCandidate, IsFirstBest, dues_of}
use Rattle.multiplier_search.specs.Windows.{IsTried}
use Rattle.bound_certificate.specs.declared.cert.Cert.{Cert}
use Rattle.bound_certificate.specs.declared.cert.Node.{Node}
use Rattle.bound_certificate.specs.declared.cert.Node.TheVariants.{Branch}
use Rattle.certificate_checker.specs.Shown.{unfixed}
use Rattle.branch_plan.specs.declared.found.Found.{Found}

-- the due times of a table's units
abbrev pub unit_dues : Table → List ℕ
unit_dues table = dues_of (units_of table)

-- a number is at least the bound of each window alone that ends at a unit's due time, with any lambda up to 2^40, and begins at the
-- start, at that time, or half a second or two seconds before it
abbrev pub IsAtLeastEachTried : Table → (bound : ℕ) → Type 0
IsAtLeastEachTried table bound =
    (tried : PricedWindow) → IsTried (unit_dues table) tried → bound_of_value (value_of_windows table (unfixed table) (tried ∷ [])) ≤ bound

-- a number is at least the bound of the first best multiplier with any other one beside it, at another unit's due time
abbrev pub IsAtLeastEachPair : Table → (bound : ℕ) → Type 0
IsAtLeastEachPair table bound =
    (first other : Multiplier) → IsFirstBest table (unfixed table) (unit_dues table) first → IsCandidate (unit_dues table) other → other.due ≢ first.due
    → bound_of_value (value_of_multipliers table (unfixed table) (other ∷ first ∷ [])) ≤ bound

-- a unit with its program's number and buffer, numbered over all programs in order; one that there isn't has no version
abbrev pub owned_at : Table → (unit : ℕ) → OwnedUnit
owned_at table unit = slice_index_or (owned_units table) unit (record { program = 0; vbv = 0; unit = record { due = 0; versions = record { items = [] } } })

-- each version of a unit fits its program's elementary buffer
unfoldable pub unit_fits : Table → (unit : ℕ) → Bool
unit_fits table unit = list_all (λ version. nat_le version.bytes (EB_UNIT_BYTES * (owned_at table unit).vbv)) (owned_at table unit).unit.versions.items

-- a branch is on a unit of which each version fits its program's elementary buffer
abbrev pub BranchesOnFitting : Table → Node → Type 0
BranchesOnFitting table (Branch unit) = unit_fits table unit ≡ true
BranchesOnFitting table node = Unit {0}

-- The bound is at least that of the windows of time that the search found for the root, with no version fixed. It is at least that of
-- the windows that see the buffers too, where the tree branches only on units whose versions all fit: one that doesn't fit is never
-- sent, but a leaf where it is fixed has a bound of its own.
pub record ReachesFound (table : Table) (found : Found) (cert : Cert) : Type 0 where
  pub time : bound_of_value (value_of_windows table (unfixed table) found.time.items) ≤ cert.bound
  pub buffers : All (BranchesOnFitting table) cert.nodes → (bound : ℕ) → bound_of_buffer_windows table (unfixed table) found.buffers ≡ Some bound → bound ≤ cert.bound
