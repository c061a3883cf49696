-- A slice as it is written in a picture.
use Rattle.std.specs.Prelude.{◌+◌, ℕ, List, ◌++◌}
use Rattle.syntax_types.specs.declared.picture.PicCoding.{PicCoding}
use Rattle.syntax_types.specs.declared.slice.Slice.{Slice}
use Rattle.stream_constants.specs.declared.start_codes.TheConstants.{FIRST_SLICE}
use Rattle.picture_grammar.specs.StartCode.{start_code_bits}
use Rattle.picture_grammar.specs.Written.{to_whole_bytes, written_slice}

-- a slice behind its start code, up to a whole byte
abbrev pub written_whole_slice : PicCoding → Slice → List ℕ
written_whole_slice coding s = to_whole_bytes (start_code_bits (s.row + FIRST_SLICE) ++ written_slice coding s)
