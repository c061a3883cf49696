-- The macroblocks of a generated picture, as they are drawn (for their syntax see ISO/IEC 13818-2, 6.2.5 and 6.2.6).
use Rattle.std.specs.Prelude.{ℕ, pos, ◌+◌, ◌==◌, ◌||◌, Bool, true, false, is_some, Option, Some, None, List, [], ◌∷◌, if◌then◌else◌}
use Rattle.std.specs.List.{range_with_len}
use Rattle.syntax_types.specs.declared.block.Block.{Block}
use Rattle.syntax_types.specs.declared.block.RunLevel.{RunLevel}
use Rattle.syntax_types.specs.declared.macroblock.TheConstants.{BLOCKS, FRAME_BASED}
use Rattle.syntax_types.specs.declared.macroblock.Kind.{Kind}
use Rattle.syntax_types.specs.declared.macroblock.Macroblock.{Macroblock}
use Rattle.syntax_types.specs.declared.macroblock.Vector.{Vector}
use Rattle.picture_grammar.specs.Block.{signed}
use Rattle.picture_grammar.specs.Macroblock.{is_coded, no_block}
use Rattle.program_maker.specs.Draws.{Drawn, nothing_drawn, ◌>>=◌, pick, draw_each}

-- ---- blocks

-- a run from 0 to 3 and a level from -6 to 6 that isn't 0
unfoldable pub run_level : Drawn RunLevel
run_level = do
  run ← pick 4
  size ← pick 6
  negative ← pick 2
  nothing_drawn (record { run = run; level = signed (1 + size) (negative == 1) })

-- how many: up to 7, and in a non-intra block at least one
abbrev pub number_of_pairs : Bool → Drawn ℕ
number_of_pairs true = pick 8
number_of_pairs false = do
  more ← pick 7
  nothing_drawn (1 + more)

-- a coded block; the DC coefficient of an intra block has size 0
unfoldable pub coded_block : Bool → Drawn Block
coded_block intra = do
  number ← number_of_pairs intra
  pairs ← draw_each (range_with_len 0 number) (λ _. run_level)
  nothing_drawn (record { dc = if intra then Some (record { size = 0; bits = 0 }) else None; pairs = record { items = pairs } })

-- block i, where it is coded
unfoldable pub block_at : Kind → ℕ → ℕ → Drawn Block
block_at kind pattern i = if is_coded kind pattern i then coded_block kind.intra else nothing_drawn no_block

-- ---- macroblocks

-- intra, with no quantiser_scale_code
abbrev pub intra_kind : Kind
intra_kind = record { quant = false; forward = false; backward = false; pattern = false; intra = true }

-- forward motion or none, a pattern or none, with no quantiser_scale_code
abbrev pub predicted : Bool → Bool → Kind
predicted forward pattern = record { quant = false; forward = forward; backward = false; pattern = pattern; intra = false }

-- the four types of a P-picture's macroblocks
abbrev pub p_kind : ℕ → Kind
p_kind choice =
    if choice == 0 then predicted true false
    else if choice == 1 then predicted false true
    else if choice == 2 then predicted true true
    else intra_kind

-- drawn in P-pictures, always intra in I-pictures
unfoldable pub drawn_kind : Bool → Drawn Kind
drawn_kind true = do
  choice ← pick 4
  nothing_drawn (p_kind choice)
drawn_kind false = nothing_drawn intra_kind

-- one in eight has a quantiser_scale_code, from 1 to 31
abbrev pub code_by_chance : ℕ → Drawn (Option ℕ)
code_by_chance chance = if chance == 0 then (do
  code ← pick 31
  nothing_drawn (Some (1 + code))) else nothing_drawn None

-- drawn only where there are coefficients
unfoldable pub quantiser_code : Kind → Drawn (Option ℕ)
quantiser_code kind = if kind.intra || kind.pattern then pick 8 >>= code_by_chance else nothing_drawn None

-- coded_block_pattern, from 1 to 63, where it stands
unfoldable pub coded_pattern : Bool → Drawn ℕ
coded_pattern true = do
  pattern ← pick 63
  nothing_drawn (1 + pattern)
coded_pattern false = nothing_drawn 0

-- the six blocks in order
abbrev pub drawn_blocks : Kind → ℕ → Drawn (List Block)
drawn_blocks kind pattern = draw_each (range_with_len 0 BLOCKS) (block_at kind pattern)

-- the vector of motion codes 0
abbrev pub still : Vector
still = record { select = None; code = pos 0 ∷ pos 0 ∷ []; residual = 0 ∷ 0 ∷ []; dual = None }

-- a macroblock of these parts, not skipped, predicted as a frame
abbrev pub macroblock_of : Kind → Option ℕ → ℕ → List Block → Macroblock
macroblock_of kind code pattern blocks = record {
  skipped_before = 0;
  kind = record kind { quant = is_some code };
  motion_type = FRAME_BASED;
  field_dct = false;
  code = code;
  forward = record { items = if kind.forward then still ∷ [] else [] };
  backward = record { items = [] };
  pattern = pattern;
  blocks = blocks;
}

-- a macroblock of a P-picture, or of an I-picture
unfoldable pub drawn_macroblock : Bool → Drawn Macroblock
drawn_macroblock predicted = do
  kind ← drawn_kind predicted
  code ← quantiser_code kind
  pattern ← coded_pattern kind.pattern
  blocks ← drawn_blocks kind pattern
  nothing_drawn (macroblock_of kind code pattern blocks)
