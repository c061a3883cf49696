-- Where a slice stands in the bits of its unit.
use Rattle.std.specs.Prelude.{◌≡◌, ◌⊎◌, ◌+◌, ◌%◌, ◌<◌, ◌≤◌, ℕ, List, ◌++◌, length}
use Rattle.syntax_types.specs.declared.picture.Picture.{Picture}
use Rattle.syntax_types.specs.declared.slice.Slice.{Slice}
use Rattle.stream_constants.specs.declared.start_codes.TheConstants.{FIRST_SLICE}
use Rattle.picture_grammar.specs.Slice.{slice}
use Rattle.picture_grammar.specs.StartCode.{start_code_prefix, start_code_bits}

-- The slice stands in these bits, behind its start code at a whole byte; and no start code prefix begins inside it, behind
-- its start code and before the zero bits that close it (6.2.3.6, 6.2.4).
pub record SliceStands (picture : Picture) (s : Slice) (bits : List ℕ) : Type 0 where
  pub front : List ℕ
  pub inner : List ℕ
  pub rest : List ℕ
  pub aligned : length front % 8 ≡ 0
  pub split : bits ≡ front ++ start_code_bits (s.row + FIRST_SLICE) ++ inner ++ rest
  pub spelled : (slice picture.seq picture.coding s.row).Spells s (inner ++ rest) rest
  pub no_code : (before after : List ℕ) → bits ≡ before ++ start_code_prefix ++ after
      → (length before < length (front ++ start_code_bits (s.row + FIRST_SLICE))) ⊎ (length (front ++ start_code_bits (s.row + FIRST_SLICE) ++ inner) ≤ length before)
