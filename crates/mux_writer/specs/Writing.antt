-- An output stream that is written slot by slot.
use Rattle.std.specs.Prelude.{◌≡◌, ℕ, ◌+◌, List}
use Rattle.slot_rule.specs.declared.sent.Sent.{Sent}
use Rattle.mux_writer.specs.declared.layout.Layout.{Layout}

-- What is written, as `output_stream` takes it, and the number of the slot whose packet comes next.
pub record Writing : Type 0 where
  pub layout : Layout
  pub slot : ℕ
  pub rows : List Sent
  pub at : ℕ

-- one slot further
abbrev pub further : Writing → Writing
further writing = record { layout = writing.layout; slot = writing.slot; rows = writing.rows; at = writing.at + 1 }

-- these rows are written, and none of them is yet
abbrev pub IsAtFront : Layout → (slot : ℕ) → List Sent → Writing → Type 0
IsAtFront layout slot rows writing = writing ≡ record { layout = layout; slot = slot; rows = rows; at = 0 }
