-- Values that the worked examples share.
use Rattle.std.proofs.Common.{ℕ, ℤ, pos, Option, Some, None, List, [], ◌∷◌, replicate, is_some, Bool, true, false}
use Rattle.syntax_types.specs.declared.block.Block.{Block}
use Rattle.syntax_types.specs.declared.block.Dc.{Dc}
use Rattle.syntax_types.specs.declared.block.RunLevel.{RunLevel}
use Rattle.syntax_types.specs.declared.macroblock.Kind.{Kind}
use Rattle.syntax_types.specs.declared.macroblock.Macroblock.{Macroblock}
use Rattle.syntax_types.specs.declared.macroblock.Vector.{Vector}
use Rattle.syntax_types.specs.declared.picture.PicCoding.{PicCoding}
use Rattle.syntax_types.specs.declared.picture.SeqState.{SeqState}
use Rattle.picture_grammar.specs.Macroblock.{no_block}

-- ---- how pictures are coded: the type, the structure and frame_pred_frame_dct, with forward f_codes 1
abbrev pub coded : ℕ → ℕ → Bool → PicCoding
coded kind structure frame_pred_frame_dct = record {
  kind = kind;
  vbv_delay = 0;
  f_code = (1 ∷ 1 ∷ []) ∷ (15 ∷ 15 ∷ []) ∷ [];
  dc_precision = 0;
  structure = structure;
  top_field_first = false;
  frame_pred_frame_dct = frame_pred_frame_dct;
  concealment = false;
  q_scale_type = false;
  intra_vlc_format = false;
  alternate_scan = false;
  repeat_first_field = false;
  progressive_frame = false;
}

-- a frame of 64 columns and 16 rows of samples
abbrev pub small : SeqState
small = record {
  width = 64;
  height = 16;
  rate_code = 3;
  vbv = 112;
  progressive = true;
  intra = replicate 64 16;
  non_intra = replicate 64 16;
}

-- ---- vectors

-- a vector of codes 0, with a field select or none, and with dmvectors 0 or none
abbrev pub still : Option Bool → Option (List ℤ) → Vector
still select dual = record { select = select; code = pos 0 ∷ pos 0 ∷ []; residual = 0 ∷ 0 ∷ []; dual = dual }

-- ---- blocks

abbrev pub block_of : Option Dc → List RunLevel → Block
block_of dc pairs = record { dc = dc; pairs = record { items = pairs } }

abbrev pub one_pair : ℤ → Block
one_pair level = block_of None (record { run = 0; level = level } ∷ [])

-- DC size 0, and no pairs
abbrev pub flat : Block
flat = block_of (Some (record { size = 0; bits = 0 })) []

abbrev pub no_blocks : List Block
no_blocks = replicate 6 no_block

-- a coefficient in the first block alone
abbrev pub first_block : ℤ → List Block
first_block level = one_pair level ∷ replicate 5 no_block

-- ---- macroblocks

abbrev pub quant_forward_pattern : Bool → Bool → Bool → Kind
quant_forward_pattern quant forward pattern = record { quant = quant; forward = forward; backward = false; pattern = pattern; intra = false }

abbrev pub intra_kind : Kind
intra_kind = record { quant = false; forward = false; backward = false; pattern = false; intra = true }

-- a macroblock with forward vectors alone
abbrev pub moved : ℕ → ℕ → List Vector → Macroblock
moved skipped motion_type vectors = record {
  skipped_before = skipped;
  kind = quant_forward_pattern false true false;
  motion_type = motion_type;
  field_dct = false;
  code = None;
  forward = record { items = vectors };
  backward = record { items = [] };
  pattern = 0;
  blocks = no_blocks;
}

-- one in a frame that is predicted as a frame, with coefficients in its first block
abbrev pub patterned : ℕ → Option ℕ → ℤ → Macroblock
patterned skipped code level = record {
  skipped_before = skipped;
  kind = quant_forward_pattern (is_some code) false true;
  motion_type = 2;
  field_dct = false;
  code = code;
  forward = record { items = [] };
  backward = record { items = [] };
  pattern = 32;
  blocks = first_block level;
}
