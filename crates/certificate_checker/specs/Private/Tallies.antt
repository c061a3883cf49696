-- What a path fixes and what it leaves free, by the places of the units in the order of their due times.
use Rattle.std.specs.Prelude.{◌≡◌, ℕ, zero, suc, ◌+◌, ◌*◌, ◌<◌, ◌≤◌, Bool, false, ◌&&◌, nat_lt}
use Rattle.std.specs.Prelude.{is_some, List, [], ◌∷◌, length, map, reverse, slice_index, slice_index_or, slice_set, Option, Some, None, vec_capacity}
use Rattle.version_table.specs.declared.table.Unit.{Unit as CodedUnit}
use Rattle.version_table.specs.declared.table.Version.{Version}
use Rattle.version_table.specs.declared.table.Table.{Table}
use Rattle.version_table.specs.Choice.{version_at}
use Rattle.dual_bounds.specs.declared.windows.Window.{Window as PricedWindow}
use Rattle.dual_bounds.specs.Values.{least_cost, packet_count}
use Rattle.certificate_checker.specs.declared.order.DueUnit.{DueUnit}
use Rattle.certificate_checker.specs.declared.path.OpenBranch.{OpenBranch}
use Rattle.certificate_checker.specs.declared.path.Path.{Path}
use Rattle.certificate_checker.specs.declared.sums.PlaceSums.{PlaceSums}
use Rattle.certificate_checker.specs.declared.tally.Tally.{Tally}
use Rattle.certificate_checker.specs.Private.Neighbours.{AreLinked, HasLinkRoom, KeepsLinkRoom}
use Rattle.certificate_checker.specs.Private.Order.{IsDueOrder, unit_of}
use Rattle.certificate_checker.specs.Private.Paths.{unfix}
use Rattle.certificate_checker.specs.Private.PlaceSums.{AreSums, number_at}
use Rattle.sum_tree.specs.Nodes.{sum_from}

-- the number of the unit at a place
abbrev pub unit_at : List DueUnit → (place : ℕ) → ℕ
unit_at order place = (slice_index_or order place (record { due = 0; unit = 0; program = 0; place = 0 })).unit

-- no two places have one unit
abbrev pub AreApart : List DueUnit → Type 0
AreApart order = (j k : ℕ) → j < k → k < length order → unit_at order j ≡ unit_at order k → ⊥

-- each unit has its place
abbrev pub ArePlaces : List DueUnit → List ℕ → (count : ℕ) → Type 0
ArePlaces order places count = (place : ℕ) → place < count → slice_index places (unit_at order place) ≡ place

-- a version is fixed of the unit at a place; places count from 1 here, between two ends
abbrev pub is_out : List DueUnit → List (Option ℕ) → (at : ℕ) → Bool
is_out order fixed zero = false
is_out order fixed (suc place) = nat_lt place (length order) && is_some (slice_index_or fixed (unit_at order place) None)

-- the places of units of which nothing is fixed are linked; with the innermost unit put back they are linked as before it was fixed
abbrev pub IsChain : List DueUnit → List ℕ → List (Option ℕ) → (innermost : List ℕ) → (next previous : List ℕ) → Type 0
IsChain order places fixed [] next previous = AreLinked (is_out order fixed) (length order) next previous
IsChain order places fixed (unit ∷ outer) next previous =
    AreLinked (is_out order fixed) (length order) next previous × (slice_index previous (slice_index places unit + 1) < length next)
    × (slice_index next (slice_index places unit + 1) < length previous)
    × IsChain order places (unfix unit fixed) outer (slice_set next (slice_index previous (slice_index places unit + 1)) (slice_index places unit + 1))
    (slice_set previous (slice_index next (slice_index places unit + 1)) (slice_index places unit + 1))

-- the version that is fixed; where none is, no bytes without distortion
abbrev pub version_fixed : CodedUnit → Option ℕ → Version
version_fixed unit None = record { bytes = 0; distortion = 0 }
version_fixed unit (Some k) = version_at unit k

-- the version that is fixed of the unit of this number
abbrev pub fixed_of : Table → List (Option ℕ) → (unit : ℕ) → Version
fixed_of table fixed unit = version_fixed (unit_of table unit) (slice_index_or fixed unit None)

-- each place has an amount of the version that is fixed of its unit
pub record HasAmounts (table : Table) (order : List DueUnit) (fixed : List (Option ℕ)) (amount : Version → ℕ) (sums : PlaceSums) : Type 0 where
  pub are : AreSums sums
  pub count : sums.count ≡ length order
  pub each : (place : ℕ) → place < length order → number_at sums place ≡ amount (fixed_of table fixed (unit_at order place))

-- a cost that counts where nothing is fixed
abbrev pub where_free : Option ℕ → (amount : ℕ) → ℕ
where_free None amount = amount
where_free (Some k) amount = 0

-- what the unit at a place costs at least, where nothing is fixed of it
abbrev pub free_cost : Table → List DueUnit → List (Option ℕ) → List PricedWindow → (place : ℕ) → ℕ
free_cost table order fixed windows place =
    where_free (slice_index_or fixed (unit_at order place) None) (least_cost windows (unit_of table (unit_at order place)) None)

-- what the units cost at least together of which nothing is fixed, where no packet is charged
abbrev pub free_sum : Table → List DueUnit → List (Option ℕ) → ℕ
free_sum table order fixed = sum_from (free_cost table order fixed []) 0 (length order)

-- what is told of these fixed versions, where the units were fixed one after the other, the innermost first
pub record IsTally (table : Table) (fixed : List (Option ℕ)) (innermost : List ℕ) (tally : Tally) : Type 0 where
  pub order : IsDueOrder table tally.order.items
  pub size : length tally.places.items ≡ length tally.order.items
  pub places : ArePlaces tally.order.items tally.places.items (length tally.order.items)
  pub chain : IsChain tally.order.items tally.places.items fixed innermost tally.links.next.items tally.links.previous.items
  pub packets : HasAmounts table tally.order.items fixed packet_count tally.packets
  pub distortions : HasAmounts table tally.order.items fixed (λ version. version.distortion) tally.distortions
  pub least : tally.free_least ≡ free_sum table tally.order.items fixed

-- what is told of a path
abbrev pub IsTold : Table → Path → Tally → Type 0
IsTold table path tally = IsTally table path.fixed.items (map (λ (branch : OpenBranch). branch.unit) (reverse path.branches.items)) tally

-- a number is put at a place
pub record IsNumberPut (place number : ℕ) (old new : PlaceSums) : Type 0 where
  pub sums : AreSums new
  pub count : new.count ≡ old.count
  pub own : number_at new place ≡ number
  pub others : (k : ℕ) → (k ≡ place → ⊥) → number_at new k ≡ number_at old k

-- the amounts of a version are put at a place
pub record IsVersionPut (place : ℕ) (version : Version) (old new : Tally) : Type 0 where
  pub order : new.order ≡ old.order
  pub places : new.places ≡ old.places
  pub links : new.links ≡ old.links
  pub least : new.free_least ≡ old.free_least
  pub packets : IsNumberPut place (packet_count version) old.packets new.packets
  pub distortions : IsNumberPut place version.distortion old.distortions new.distortions

-- room for so many units
pub record HasTallyRoom (units : ℕ) (tally : Tally) : Type 0 where
  pub order : units ≤ vec_capacity tally.order
  pub places : units ≤ vec_capacity tally.places
  pub links : HasLinkRoom units tally.links
  pub packets : 2 * units ≤ vec_capacity tally.packets.nodes
  pub distortions : 2 * units ≤ vec_capacity tally.distortions.nodes

-- no room is given away
pub record KeepsTallyRoom (old new : Tally) : Type 0 where
  pub order : vec_capacity new.order ≡ vec_capacity old.order
  pub places : vec_capacity new.places ≡ vec_capacity old.places
  pub links : KeepsLinkRoom old.links new.links
  pub packets : vec_capacity new.packets.nodes ≡ vec_capacity old.packets.nodes
  pub distortions : vec_capacity new.distortions.nodes ≡ vec_capacity old.distortions.nodes
