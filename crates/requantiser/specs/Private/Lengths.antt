-- How many bits the codes of coefficients have, by table, run and size.
use Rattle.std.specs.Prelude.{◌≡◌, ◌<◌, ◌≤◌, ◌+◌, ◌*◌, ◌==◌, ℕ, zero, suc, List, length, slice_index, if◌then◌else◌}
use Rattle.std.specs.Option.{option_map_or}
use Rattle.prefix_codes.specs.declared.symbol.TheConstants.{ESCAPE}
use Rattle.prefix_codes.specs.declared.table_name.TableName.{TableName}
use Rattle.prefix_codes.specs.declared.table_name.TableName.TheVariants.{CoeffZero, CoeffFirst, CoeffOne}
use Rattle.prefix_codes.specs.TableName.{coefficient_code, code_for}
use Rattle.syntax_types.specs.declared.block.BlockWay.{BlockWay}
use Rattle.picture_grammar.specs.declared.escape.TheConstants.{RUN_BITS, LEVEL_BITS}

-- the bits of a coefficient: the table's code and a sign bit where there is such a code, else an escape
abbrev pub length_by : TableName → ℕ → ℕ → ℕ
length_by table run size =
    option_map_or (λ code. length code + 1) (coefficient_code table run size) (length (code_for table ESCAPE) + (RUN_BITS + LEVEL_BITS))

-- the tables of coefficients by number
abbrev pub table_numbered : ℕ → TableName
table_numbered zero = CoeffZero
table_numbered (suc zero) = CoeffFirst
table_numbered (suc (suc n)) = CoeffOne

-- the number of the table of a coefficient at a place, behind the others (ISO/IEC 13818-2, 7.2.2.1)
abbrev pub table_number : BlockWay → ℕ → ℕ
table_number way place = if way.intra then (if way.vlc_one then 2 else 0) else (if place == 0 then 1 else 0)

-- where the lengths of a size stand in a table of 16 sizes by 64 runs; 0 may stand for any
abbrev pub IsRow : ℕ → ℕ → Type 0
IsRow row size = (row < 1024) × (0 < row → row ≡ 64 * size)

-- the lengths of coefficients by table, size and run, those that are known
abbrev pub AreLengths : List ℕ → Type 0
AreLengths lengths = (number run size : ℕ) → run < 64 → size < 16 → 0 < slice_index lengths (1024 * number + 64 * size + run) →
    (slice_index lengths (1024 * number + 64 * size + run) ≡ length_by (table_numbered number) run size) × (slice_index lengths (1024 * number + 64 * size + run) ≤ 42) × (0 < size)
