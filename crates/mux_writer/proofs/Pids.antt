-- The PIDs of streams, given one after another.
use Rattle.std.proofs.Common.{◌≡◌, ℕ, zero, suc, ◌+◌, ◌<◌, ◌≤◌, List, [], ◌∷◌, ◌++◌, All, length, get_or, take, drop, set, sym, ap, ◌∙◌, arith, add-one}
use Rattle.std.specs.List.{range_with_len}
use Rattle.std.specs.Prelude.{slice_get, Some}
use Rattle.std.proofs.lemmas.List.Elements.{All-from_get_or, All-same}
use Rattle.std.proofs.lemmas.List.FromFn.{get_or-range_with_len, length-range_with_len}
use Rattle.std.proofs.lemmas.Option.{slice_get-get_or}
use Rattle.psi_tables.specs.declared.program_map.ProgramMap.{ProgramMap}
use Rattle.psi_tables.specs.declared.stream.Stream.{Stream}
use Rattle.psi_tables.specs.Pmt.{pids_of}
use Rattle.slot_rule.proofs.Places.{slice_get_read_as}
use Rattle.version_table.proofs.ValidUnits.{All-flat_map}
use Rattle.mux_writer.specs.declared.counters.TheConstants.{PIDS}
use Rattle.mux_writer.specs.declared.layout.Layout.{Layout}
use Rattle.mux_writer.specs.Layout.{video_pid, with_pids_from, stream_pids, IsOutputMap, IsLayout}

-- one more stream gets its PID
with_pids-next : (first : ℕ) (streams : List Stream) (i pid : ℕ) (d : Stream) → i < length streams → pid ≡ first + i
    → set (with_pids_from first (take i streams) ++ drop i streams) i (record (get_or (with_pids_from first (take i streams) ++ drop i streams) i d) { pid = pid })
    ≡ with_pids_from first (take (suc i) streams) ++ drop (suc i) streams
with_pids-next first [] i pid d within is = grind (arith, within)
with_pids-next first (stream ∷ streams) zero pid d within is = ap (λ (p : ℕ). record stream { pid = p } ∷ streams) (omega (arith, is))
with_pids-next first (stream ∷ streams) (suc i) pid d within is =
    ap (λ (rest : List Stream). record stream { pid = first } ∷ rest) (with_pids-next (first + 1) streams i pid d (omega (arith, within)) (omega (arith, is)))

pub with_pids-more : (first : ℕ) (streams now : List Stream) (i pid : ℕ) (d : Stream) → i < length streams → pid ≡ first + i
    → now ≡ with_pids_from first (take i streams) ++ drop i streams
    → set now i (record (get_or now i d) { pid = pid }) ≡ with_pids_from first (take (i + 1) streams) ++ drop (i + 1) streams
with_pids-more first streams now i pid d within is before =
    ap (λ (list : List Stream). set list i (record (get_or list i d) { pid = pid })) before
    ∙ with_pids-next first streams i pid d within is
    ∙ ap (λ (n : ℕ). with_pids_from first (take n streams) ++ drop n streams) (sym (add-one i))

-- ---- all PIDs are counted

range-below : (first n limit : ℕ) → first + n ≤ limit → All (λ (pid : ℕ). pid < limit) (range_with_len first n)
range-below first n limit fits =
    All-from_get_or (λ (pid : ℕ). pid < limit) (range_with_len first n) 0
    (λ i within. let inside : i < n = omega (arith, within, length-range_with_len first n) in
    omega (arith, inside, fits, get_or-range_with_len first n i 0 inside))

pub map-counted : (program : ℕ) (program_map : ProgramMap) → program < 8 → IsOutputMap program program_map → All (λ (pid : ℕ). pid < PIDS) (pids_of program_map)
map-counted program program_map few is =
    All-same (λ (pid : ℕ). pid < PIDS) (pids_of program_map) _ is.pids
    (range-below (video_pid program) (length program_map.streams.items) PIDS (omega (arith, few, is.few)))

-- the map of a program of a layout goes out
pub map-of : (layout : Layout) (program : ℕ) (d : ProgramMap) → IsLayout layout → program < length layout.maps.items → IsOutputMap program (get_or layout.maps.items program d)
map-of layout program d is within = is.maps program (get_or layout.maps.items program d) (slice_get-get_or layout.maps.items program d within)

pub no_map : ProgramMap
no_map = record { number = 0; pcr_pid = 0; streams = record { items = [] }; dropped = 0 }

pub layout-counted : (layout : Layout) → IsLayout layout → length layout.maps.items ≤ 8 → All (λ (pid : ℕ). pid < PIDS) (stream_pids layout)
layout-counted layout is few =
    All-flat_map (λ (pid : ℕ). pid < PIDS) pids_of layout.maps.items
    (All-from_get_or (λ (m : ProgramMap). All (λ (pid : ℕ). pid < PIDS) (pids_of m)) layout.maps.items no_map
    (λ program within. map-counted program (get_or layout.maps.items program no_map) (omega (arith, within, few)) (map-of layout program no_map is within)))

-- what a loop over the maps reads goes out
pub map-read : (layout : Layout) (maps : List ProgramMap) (program : ℕ) (program_map : ProgramMap) → IsLayout layout → maps ≡ layout.maps.items → program < length maps
    → program_map ≡ get_or maps program program_map → IsOutputMap program program_map
map-read layout maps program program_map is same within read =
    let found : slice_get layout.maps.items program ≡ Some program_map = slice_get_read_as maps layout.maps.items program program_map same within read in
    is.maps program program_map found
