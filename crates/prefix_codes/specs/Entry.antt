-- The entries of a code table.
use Prim.Native.String.{String}
use Rattle.std.specs.Prelude.{ℕ, ◌+◌, ◌-◌, ◌*◌, ◌==◌, not, List, map, codes}
use Rattle.std.specs.List.{filter}
use Rattle.prefix_codes.specs.declared.symbol.TheConstants.{LEVELS_PER_RUN}

-- a symbol and the bits of its code
abbrev pub Entry : Type 0
Entry = ℕ × List ℕ

-- the bits of a code as the standard prints it, in groups of four: a space is the character 32, and a 0 is 48
abbrev pub printed_bits : String → List ℕ
printed_bits text = map (λ c. c - 48) (filter (λ c. not (c == 32)) (codes text))

-- an entry, its code as the standard prints it
abbrev pub entry : ℕ → String → Entry
entry symbol text = (symbol, printed_bits text)

-- the symbol of a run and the size of a level
abbrev pub coefficient_symbol : ℕ → ℕ → ℕ
coefficient_symbol run level = LEVELS_PER_RUN * run + level

-- the entry of a run of zeros and the size of a level (Tables B-14 and B-15)
abbrev pub coefficient_entry : ℕ → ℕ → String → Entry
coefficient_entry run level text = entry (coefficient_symbol run level) text
