-- What the buffers of the programs from one on give a window.
use Rattle.std.proofs.Common.{◌≡◌, ℕ, ◌+◌, ◌<◌, ◌≤◌, List, length, drop, get_or, sum_by, refl, sym, ap, ◌∙◌}
use Rattle.std.specs.List.{enumerate_from}
use Rattle.std.proofs.lemmas.List.{drop_all, drop_more}
use Rattle.std.proofs.lemmas.List.Sums.{sum_by-cons}
use Rattle.version_table.specs.declared.table.ProgramRow.{ProgramRow}
use Rattle.version_table.specs.declared.table.Table.{Table}
use Rattle.buffer_windows.specs.declared.windows.BufferWindow.{BufferWindow}
use Rattle.buffer_windows.specs.Room.{buffer_bytes, counted_eb_bytes as eb_bytes, mb_bytes}

pub buffers_from : (slot : ℕ) → BufferWindow → List ProgramRow → ℕ → ℕ
buffers_from slot window rows k = sum_by (λ (number, row). eb_bytes window number row + mb_bytes slot window row) (enumerate_from k (drop k rows))

pub buffers-more : (slot : ℕ) (window : BufferWindow) (rows : List ProgramRow) (k : ℕ) (row : ProgramRow) → k < length rows → row ≡ get_or rows k row
    → buffers_from slot window rows k ≡ (eb_bytes window k row + mb_bytes slot window row) + buffers_from slot window rows (k + 1)
unfolding buffers_from
buffers-more slot window rows k row within is =
    ap (λ (rest : List ProgramRow). sum_by (λ (number, row). eb_bytes window number row + mb_bytes slot window row) (enumerate_from k rest)) (drop_more rows k row within)
    ∙ sum_by-cons (λ (number, row). eb_bytes window number row + mb_bytes slot window row) (k, get_or rows k row) (enumerate_from (k + 1) (drop (k + 1) rows))
    ∙ ap (λ (row : ProgramRow). (eb_bytes window k row + mb_bytes slot window row) + buffers_from slot window rows (k + 1)) (sym is)

pub buffers-none : (slot : ℕ) (window : BufferWindow) (rows : List ProgramRow) (k : ℕ) → length rows ≤ k → buffers_from slot window rows k ≡ 0
unfolding buffers_from
buffers-none slot window rows k past =
    ap (λ (rest : List ProgramRow). sum_by (λ (number, row). eb_bytes window number row + mb_bytes slot window row) (enumerate_from k rest)) (drop_all k rows past)

pub buffer_bytes-is : (table : Table) (window : BufferWindow) → buffer_bytes table window ≡ buffers_from table.slot window table.programs 0
unfolding buffer_bytes buffers_from
buffer_bytes-is table window = refl
