-- What is looked for along the needs of units, in the order of due times: a place whose beginning lies below the end of one at it or behind it.
use Rattle.std.specs.Prelude.{◌≡◌, ℕ, ◌+◌, ◌<◌, ◌≤◌, ◌^◌, ◌⊎◌, List, length, take, sum_by, slice_index_or, Option, Some, None, ℤ, pos, neg_ℤ, ◌-ℤ◌, ◌≤ℤ◌, ◌<ℤ◌}
use Rattle.version_table.specs.declared.table.Table.{Table}
use Rattle.dual_bounds.specs.Room.{room}
use Rattle.impossible_proof.specs.declared.needs.UnitNeed.{UnitNeed}
use Rattle.impossible_proof.specs.declared.edges.Balance.{Balance}
use Rattle.impossible_proof.specs.Private.Needs.{need_in}

-- what a place has at the least is no need
abbrev pub nothing : UnitNeed
nothing = record { due = 0; packets = 0 }

-- when the unit at a place is due
abbrev pub due_at : List UnitNeed → (place : ℕ) → ℕ
due_at needs place = (slice_index_or needs place nothing).due

-- what the units before a place need
unfoldable pub before : List UnitNeed → (place : ℕ) → ℕ
before needs place = sum_by (λ one. one.packets) (take place needs)

-- the room before a time: what a window that begins there can't use
unfoldable pub room_before : Table → (time : ℕ) → ℤ
room_before table time = room table 0 time -ℤ room table time time

-- what is needed before a place, less the room before it
unfoldable pub beginning : Table → List UnitNeed → (place : ℕ) → ℤ
beginning table needs place = pos (before needs place) -ℤ room_before table (due_at needs place)

-- what is needed up to a place, less the room up to it
unfoldable pub ending : Table → List UnitNeed → (place : ℕ) → ℤ
ending table needs place = pos (before needs (place + 1)) -ℤ room table 0 (due_at needs place)

-- what is needed up to a time, less the room up to it
unfoldable pub ending_by : Table → List UnitNeed → (due : ℕ) → ℤ
ending_by table needs due = pos (need_in 0 due needs) -ℤ room table 0 due

-- up to this place no beginning lies below an end at it or behind it
abbrev pub AllHaveRoom : Table → List UnitNeed → (place : ℕ) → Type 0
AllHaveRoom table needs place = (j k : ℕ) → j ≤ k → k < place → ending table needs k ≤ℤ beginning table needs j

-- the first end that lies above a beginning
pub record IsFirstEnd (table : Table) (needs : List UnitNeed) (due : ℕ) : Type 0 where
  pub place : ℕ
  pub within : place < length needs
  pub due_is : due ≡ due_at needs place
  pub first : AllHaveRoom table needs place
  pub start : ℕ
  pub order : start ≤ place
  pub above : beginning table needs start <ℤ ending table needs place

-- the due time of the first end that lies above a beginning, or none
abbrev pub EndsFirst : Table → List UnitNeed → Option ℕ → Type 0
EndsFirst table needs (Some due) = IsFirstEnd table needs due
EndsFirst table needs None = AllHaveRoom table needs (length needs)

-- before this place no beginning of a unit that is due by a time lies below the end there
abbrev pub NoneBegins : Table → List UnitNeed → (due place : ℕ) → Type 0
NoneBegins table needs due place = (j : ℕ) → j < place → due_at needs j ≤ due → ending_by table needs due ≤ℤ beginning table needs j

-- the first beginning that lies below the end at a time
pub record IsFirstBeginning (table : Table) (needs : List UnitNeed) (due from : ℕ) : Type 0 where
  pub place : ℕ
  pub within : place < length needs
  pub from_is : from ≡ due_at needs place
  pub order : from ≤ due
  pub first : NoneBegins table needs due place
  pub above : beginning table needs place <ℤ ending_by table needs due

-- the due time of that, or none
abbrev pub BeginsFirst : Table → List UnitNeed → (due : ℕ) → Option ℕ → Type 0
BeginsFirst table needs due (Some from) = IsFirstBeginning table needs due from
BeginsFirst table needs due None = NoneBegins table needs due (length needs)

-- the least beginning up to a place, and before the first one a number above all
pub record IsLowest (table : Table) (needs : List UnitNeed) (place : ℕ) (lowest : ℤ) : Type 0 where
  pub least : (j : ℕ) → j < place → lowest ≤ℤ beginning table needs j
  pub own : ((place ≡ 0) × (pos (2 ^ 62) ≤ℤ lowest)) ⊎ ((j : ℕ) × (j < place) × (lowest ≡ beginning table needs j))

-- the balance of the units up to a place
pub record IsBalance (table : Table) (needs : List UnitNeed) (place : ℕ) (balance : Balance) : Type 0 where
  pub total : balance.total ≡ before needs place
  pub lowest : IsLowest table needs place balance.lowest

-- a number of so few bits that sums of it have room
abbrev pub IsSmall : ℤ → Type 0
IsSmall n = (neg_ℤ (pos (2 ^ 40)) ≤ℤ n) × (n ≤ℤ pos (2 ^ 40))
