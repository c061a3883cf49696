-- Windows that see the buffers, as the search gives them.
use Rattle.std.specs.Prelude.{◌≡◌, ℕ, ◌+◌, ◌^◌, ◌<◌, ◌≤◌, ◌⊎◌, List, length, All, slice_index_or}
use Rattle.version_table.specs.declared.table.Table.{Table}
use Rattle.dual_bounds.specs.declared.constants.TheConstants.{LAMBDA_MOST}
use Rattle.buffer_windows.specs.declared.windows.BufferWindow.{BufferWindow}
use Rattle.buffer_windows.specs.Windows.{IsBufferWindow}

-- a window that is allowed, counts the buffers of programs that there are, and has a lambda within its limit
pub record IsSoundBuffered (table : Table) (window : BufferWindow) : Type 0 where
  pub allowed : IsBufferWindow table.slot window
  pub programs : window.programs < 2 ^ length table.programs
  pub lambda : window.lambda ≤ LAMBDA_MOST

-- one stands before another: by its due time, then its first slot, then its tail, then its programs
abbrev pub PrecedesBuffered : BufferWindow → (other : BufferWindow) → Type 0
PrecedesBuffered window other =
    (window.due < other.due)
    ⊎ ((window.due ≡ other.due) × ((window.first < other.first)
    ⊎ ((window.first ≡ other.first) × ((window.tail < other.tail) ⊎ ((window.tail ≡ other.tail) × (window.programs < other.programs))))))

-- what the search gives: sound windows in order
pub record AreSearchedBuffered (table : Table) (windows : List BufferWindow) : Type 0 where
  pub sound : All (IsSoundBuffered table) windows
  pub rise : (k : ℕ) (d : BufferWindow) → k + 1 < length windows → PrecedesBuffered (slice_index_or windows k d) (slice_index_or windows (k + 1) d)
