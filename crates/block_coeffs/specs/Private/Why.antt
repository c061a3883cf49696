-- Why no coefficient and no end of block stands at some bits (ISO/IEC 13818-2, 6.2.6 and 7.2.2).
use Rattle.std.specs.Prelude.{ℕ, List, [], ◌∷◌}
use Rattle.prefix_codes.specs.declared.table_name.TableName.{TableName}
use Rattle.picture_grammar.specs.Refusal.{Refusal}
use Rattle.picture_grammar.specs.Element.{Rule, rule, IsRefused}
use Rattle.picture_grammar.specs.Block.{Coefficient, CoefficientCode, fits_in_block, is_level}
use Rattle.block_coeffs.specs.declared.fault.BlockFault.{BlockFault}
use Rattle.block_coeffs.specs.declared.fault.BlockFault.TheVariants as fault
use Rattle.block_coeffs.specs.declared.why.Why.{Why}
use Rattle.block_coeffs.specs.declared.why.Why.TheVariants as why

-- the kind of refusal in the grammar
abbrev pub refusal_of : Why → Refusal
refusal_of why.NoCode = Refusal.NoCode
refusal_of why.TooMany = Refusal.TooMany
refusal_of why.BadEscape = Refusal.BadEscape
refusal_of why.End = Refusal.End

-- the fault that names it, at a place in bits
abbrev pub fault_at : Why → ℕ → BlockFault
fault_at why.NoCode at = fault.NoCode at
fault_at why.TooMany at = fault.TooMany at
fault_at why.BadEscape at = fault.BadEscape at
fault_at why.End at = fault.End at

-- the rules of a coefficient at a place: it stands within the block, and its level isn't forbidden
abbrev pub rules_at : ℕ → List (Rule Coefficient)
rules_at place = rule Refusal.TooMany (fits_in_block place) ∷ rule Refusal.BadEscape is_level ∷ []

-- for this reason the bits begin with no coefficient and no end of block
abbrev pub IsWhy : TableName → ℕ → Why → List ℕ → Type 0
IsWhy table place reason bits = IsRefused (CoefficientCode table) Refusal.NoCode (rules_at place) bits (refusal_of reason)
