-- Bytes of a unit inside its slices.
use Rattle.std.specs.Prelude.{◌⊎◌, ◌+◌, ◌*◌, ◌<◌, ◌≤◌, ℕ, List, [], ◌∷◌, ◌++◌, drop, length}
use Rattle.bit_lists.specs.Bits.{IsPrefix}
use Rattle.bit_lists.specs.Fields.{bit_list}
use Rattle.syntax_types.specs.declared.picture.Picture.{Picture}
use Rattle.syntax_types.specs.declared.slice.Slice.{Slice}
use Rattle.stream_constants.specs.declared.start_codes.TheConstants.{FIRST_SLICE}
use Rattle.picture_grammar.specs.StartCode.{start_code_bits}
use Rattle.picture_laws.specs.SliceStands.{SliceStands}

-- no three bytes 00 00 01 begin inside a slice that stands in the unit, behind its start code and before the zero bits that
-- close it (6.2.4)
abbrev pub NoCodeInside : (picture : Picture) (s : Slice) (unit : List ℕ) → SliceStands picture s (bit_list unit) → Type 0
NoCodeInside picture s unit stands =
    (place : ℕ) → IsPrefix (0 ∷ 0 ∷ 1 ∷ []) (drop place unit)
    → (8 * place < length (stands.front ++ start_code_bits (s.row + FIRST_SLICE)))
    ⊎ (length (stands.front ++ start_code_bits (s.row + FIRST_SLICE) ++ stands.inner) ≤ 8 * place)
