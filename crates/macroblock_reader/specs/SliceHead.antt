-- The header of a slice (ISO/IEC 13818-2, 6.2.4).
use Rattle.picture_grammar.specs.Grammar.{Grammar, done, ◌>>=◌}
use Rattle.picture_grammar.specs.Macroblock.{quantiser_scale_code}
use Rattle.picture_grammar.specs.Slice.{slice_info}
use Rattle.macroblock_reader.specs.declared.head.SliceHead.{SliceHead}

-- what stands in a slice from behind its start code to its first macroblock
abbrev pub slice_head : Grammar SliceHead
slice_head = do
  code ← quantiser_scale_code
  info ← slice_info
  done (record { code = code; info = info })
