-- Worked examples: slices and their versions.
use Rattle.std.proofs.Common.{◌≡◌, ℕ, ℤ, pos, negsuc, Option, Some, None, List, [], ◌∷◌, Bool, true, false, refl, subst, arith}
use Rattle.std.specs.Prelude.{replicate, slice_set}
use Rattle.std.specs.List.{AllByRecursion, list_all}
use Rattle.std.proofs.lemmas.Bool.{and_parts}
use Rattle.bit_lists.specs.Bits.{number_of}
use Rattle.quant_math.specs.Matrices.{default_weights}
use Rattle.syntax_types.specs.declared.block.RunLevel.{RunLevel}
use Rattle.syntax_types.specs.declared.macroblock.Kind.{Kind}
use Rattle.syntax_types.specs.declared.macroblock.Macroblock.{Macroblock}
use Rattle.syntax_types.specs.declared.macroblock.Vector.{Vector}
use Rattle.syntax_types.specs.declared.picture.PicCoding.{PicCoding}
use Rattle.syntax_types.specs.declared.picture.Picture.{Picture}
use Rattle.syntax_types.specs.declared.picture.SeqState.{SeqState}
use Rattle.syntax_types.specs.declared.slice.Slice.{Slice}
use Rattle.requantiser.specs.Blocks.{IsCoarserBlock, no_blocks}
use Rattle.requantiser.specs.Distortion.{coefficient_of_macroblock, difference_of, distortion_between}
use Rattle.requantiser.specs.declared.version_state.VersionState.{VersionState}
use Rattle.requantiser.specs.Macroblocks.{IsCoarserAt}
use Rattle.requantiser.specs.Slices.{IsCoarserSlice}
use Rattle.requantiser.specs.Steps.{Step, IsStep, MakeSlice}
use Rattle.requantiser.specs.VersionState.{IsStateBehind}
use Rattle.requantiser.specs.Private.Walk.{mapped_code, coarsened_slice}
use Rattle.requantiser.proofs.Blocks.{coarsened_block-is}
use Rattle.requantiser.proofs.ShapeTest.{shape_test, shape_by_test}
use Rattle.requantiser.specs.Private.Shapes.{HasShape}
use Rattle.requantiser.proofs.Slices.{coarsened_slice-is}

-- ---- pictures of one row

abbrev default_seq : SeqState
default_seq = record {
  width = 64;
  height = 16;
  rate_code = 3;
  vbv = 112;
  progressive = true;
  intra = default_weights true;
  non_intra = default_weights false;
}

-- with frame_pred_frame_dct 1, linear scales and the zigzag scan
abbrev coding_of : ℕ → PicCoding
coding_of kind = record {
  kind = kind;
  vbv_delay = 0;
  f_code = (1 ∷ 1 ∷ []) ∷ (1 ∷ 1 ∷ []) ∷ [];
  dc_precision = 0;
  structure = 3;
  top_field_first = false;
  frame_pred_frame_dct = true;
  concealment = false;
  q_scale_type = false;
  intra_vlc_format = false;
  alternate_scan = false;
  repeat_first_field = false;
  progressive_frame = true;
}

abbrev slice_of : ℕ → List Macroblock → Slice
slice_of code macroblocks = record { row = 0; code = code; info = None; macroblocks = macroblocks }

abbrev picture_of : PicCoding → Slice → Picture
picture_of coding slice = record { seq = default_seq; coding = coding; head = []; slices = slice ∷ []; sequence_end = false }

abbrev zero_vector : Vector
zero_vector = record { select = None; code = pos 0 ∷ pos 0 ∷ []; residual = 0 ∷ 0 ∷ []; dual = None }

abbrev kind_of : Bool → Bool → Bool → Bool → Kind
kind_of quant forward backward pattern = record { quant = quant; forward = forward; backward = backward; pattern = pattern; intra = false }

-- with the motion vector 0 and no coefficients
abbrev moved : ℕ → Macroblock
moved skipped = record {
  skipped_before = skipped;
  kind = kind_of false true false false;
  motion_type = 2;
  field_dct = false;
  code = None;
  forward = record { items = zero_vector ∷ [] };
  backward = record { items = [] };
  pattern = 0;
  blocks = no_blocks;
}

-- without motion, with one coefficient in block 0, at the first place
abbrev with_level : ℕ → Option ℕ → ℕ → Macroblock
with_level skipped code level = record {
  skipped_before = skipped;
  kind = kind_of (elim code [ None ↦ false | Some c ↦ true ]) false false true;
  motion_type = 2;
  field_dct = false;
  code = code;
  forward = record { items = [] };
  backward = record { items = [] };
  pattern = 32;
  blocks = slice_set no_blocks 0 (record { dc = None; pairs = record { items = record { run = 0; level = pos level } ∷ [] } });
}

-- a slice and its version, which the walk makes of it
version_by_walk : (coding : PicCoding) (m : ℕ) (from to : Slice) → list_all shape_test from.macroblocks ≡ true → coarsened_slice default_seq coding m from ≡ to
    → IsCoarserSlice default_seq coding m from to
version_by_walk coding m from to shapes is = subst (IsCoarserSlice default_seq coding m from) is (coarsened_slice-is default_seq coding m from (all from.macroblocks shapes))
  where
    all : (ms : List Macroblock) → list_all shape_test ms ≡ true → AllByRecursion HasShape ms
    all [] shapes = tt
    all (m ∷ ms) shapes = let parts = and_parts (shape_test m) (list_all shape_test ms) shapes in (shape_by_test m parts.0, all ms parts.1)

-- ---- P-pictures

-- code 1, m = 32: the middle one of three macroblocks is emptied and skipped. Its coefficient was 3.
middle_is_skipped : IsCoarserSlice default_seq (coding_of 2) 32 (slice_of 1 (moved 0 ∷ with_level 0 None 1 ∷ moved 0 ∷ [])) (slice_of 2 (moved 0 ∷ moved 1 ∷ []))
unfolding coarsened_slice number_of
middle_is_skipped = version_by_walk (coding_of 2) 32 _ _ refl refl

middle_distortion : distortion_between (picture_of (coding_of 2) (slice_of 1 (moved 0 ∷ with_level 0 None 1 ∷ moved 0 ∷ []))) (picture_of (coding_of 2) (slice_of 2 (moved 0 ∷ moved 1 ∷ []))) ≡ 9
unfolding distortion_between difference_of
middle_distortion = refl

-- the same by steps: the second one leaves a macroblock that waits, and its coefficient is the distortion of all
abbrev waiting : ℕ → VersionState
waiting skipped = record {
  m = 32;
  source_code = 1;
  version_code = 2;
  skipped = skipped;
  source_is_code = (omega arith, omega arith);
  version_is_code = (omega arith, omega arith);
}

abbrev middle_steps : List Step
middle_steps =
    record { from = moved 0; made = Some (moved 0); behind = waiting 0; distortion = 0 }
    ∷ record { from = with_level 0 None 1; made = None; behind = waiting 1; distortion = 9 }
    ∷ record { from = moved 0; made = Some (moved 1); behind = waiting 0; distortion = 0 }
    ∷ []

step_by : (inner : Bool) (before : VersionState) (step : Step) → IsCoarserAt default_seq (coding_of 2) before.m inner before.source_code before.version_code (Some step.from) step.made
    → IsStateBehind step.from step.made before step.behind
    → step.distortion ≡ difference_of (coefficient_of_macroblock default_seq (coding_of 2) step.behind.source_code (Some step.from))
    (coefficient_of_macroblock default_seq (coding_of 2) step.behind.version_code step.made)
    → IsStep default_seq (coding_of 2) inner before step
step_by inner before step at state difference = record { at = at; state = state; difference = difference }

middle_by_steps : MakeSlice default_seq (coding_of 2) 32 (slice_of 1 (moved 0 ∷ with_level 0 None 1 ∷ moved 0 ∷ [])) (slice_of 2 (moved 0 ∷ moved 1 ∷ [])) middle_steps
unfolding difference_of
middle_by_steps = record {
  start = waiting 0;
  ratio = refl;
  source_code = refl;
  version_code = middle_is_skipped.code;
  skipped = refl;
  in_order = (
    step_by false (waiting 0) _ (middle_is_skipped.macroblocks 0) (record { ratio = refl; source_code = refl; version_code = refl; skipped = refl; placed = refl }) refl,
    (
      step_by true (waiting 0) _ (middle_is_skipped.macroblocks 1) (record { ratio = refl; source_code = refl; version_code = refl; skipped = refl; placed = tt }) refl,
      (step_by false (waiting 1) _ (middle_is_skipped.macroblocks 2) (record { ratio = refl; source_code = refl; version_code = refl; skipped = refl; placed = refl }) refl, tt),
    ),
  );
  taken = refl;
  row = refl;
  code = refl;
  info = refl;
  macroblocks = refl;
}

-- the last one stays with the level 1: its coefficient goes from 3 to 6
last_stays : IsCoarserSlice default_seq (coding_of 2) 32 (slice_of 1 (moved 0 ∷ with_level 0 None 1 ∷ [])) (slice_of 2 (moved 0 ∷ with_level 0 None 1 ∷ []))
unfolding coarsened_slice number_of
last_stays = version_by_walk (coding_of 2) 32 _ _ refl refl

last_distortion : distortion_between (picture_of (coding_of 2) (slice_of 1 (moved 0 ∷ with_level 0 None 1 ∷ []))) (picture_of (coding_of 2) (slice_of 2 (moved 0 ∷ with_level 0 None 1 ∷ []))) ≡ 9
unfolding distortion_between difference_of
last_distortion = refl

-- so does the first one, and one that is first and last; of a greater level 1 is left where it would be emptied, at m = 96
first_stays : IsCoarserSlice default_seq (coding_of 2) 96 (slice_of 1 (with_level 5 None 2 ∷ moved 0 ∷ [])) (slice_of 6 (with_level 5 None 1 ∷ moved 0 ∷ []))
unfolding coarsened_slice number_of
first_stays = version_by_walk (coding_of 2) 96 _ _ refl refl

only_one_stays : IsCoarserSlice default_seq (coding_of 2) 32 (slice_of 1 (with_level 0 None 1 ∷ [])) (slice_of 2 (with_level 0 None 1 ∷ []))
unfolding coarsened_slice number_of
only_one_stays = version_by_walk (coding_of 2) 32 _ _ refl refl

-- the second one has code 4, which stays in force in the third one: where the second one is skipped, the third one needs
-- the code 8. Levels 9 and 4: the coefficients 12 and 76 become 0 and 72.
code_comes_in : IsCoarserSlice default_seq (coding_of 2) 32 (slice_of 1 (moved 0 ∷ with_level 0 (Some 4) 1 ∷ with_level 0 None 9 ∷ moved 0 ∷ []))
    (slice_of 2 (moved 0 ∷ with_level 1 (Some 8) 4 ∷ moved 0 ∷ []))
unfolding coarsened_slice number_of
code_comes_in = version_by_walk (coding_of 2) 32 _ _ refl refl

code_distortion : distortion_between (picture_of (coding_of 2) (slice_of 1 (moved 0 ∷ with_level 0 (Some 4) 1 ∷ with_level 0 None 9 ∷ moved 0 ∷ [])))
    (picture_of (coding_of 2) (slice_of 2 (moved 0 ∷ with_level 1 (Some 8) 4 ∷ moved 0 ∷ []))) ≡ 160
unfolding distortion_between difference_of
code_distortion = refl

-- codes 20 and 25 are both mapped to 31, so the second one falls away
code_falls_away : IsCoarserSlice default_seq (coding_of 2) 32 (slice_of 20 (with_level 0 None 40 ∷ with_level 0 (Some 25) 40 ∷ [])) (slice_of 31 (with_level 0 None 26 ∷ with_level 0 None 32 ∷ []))
unfolding coarsened_slice number_of
code_falls_away = version_by_walk (coding_of 2) 32 _ _ refl refl

-- ---- B-pictures

-- with both vectors, and these coefficients in block 5
with_both : Bool → List RunLevel → Macroblock
with_both dct pairs = record {
  skipped_before = 0;
  kind = kind_of false true true (elim pairs [ [] ↦ false | pair ∷ pairs ↦ true ]);
  motion_type = 1;
  field_dct = dct;
  code = None;
  forward = record { items = zero_vector ∷ zero_vector ∷ [] };
  backward = record { items = zero_vector ∷ zero_vector ∷ [] };
  pattern = elim pairs [ [] ↦ 0 | pair ∷ pairs ↦ 1 ];
  blocks = slice_set no_blocks 5 (record { dc = None; pairs = record { items = pairs } });
}

-- interlaced, with dct_type
abbrev interlaced : ℕ → PicCoding
interlaced kind = record (coding_of kind) { frame_pred_frame_dct = false }

abbrev pair_of : ℕ → ℤ → RunLevel
pair_of run level = record { run = run; level = level }

-- an emptied one keeps its vectors, and has neither coefficients nor dct_type; a kept one keeps its dct_type
emptied_with_motion : IsCoarserSlice default_seq (interlaced 3) 32 (slice_of 1 (with_both true (pair_of 3 (negsuc 0) ∷ []) ∷ with_both true (pair_of 3 (negsuc 8) ∷ []) ∷ []))
    (slice_of 2 (with_both false [] ∷ with_both true (pair_of 3 (negsuc 3) ∷ []) ∷ []))
unfolding coarsened_slice number_of with_both
emptied_with_motion = version_by_walk (interlaced 3) 32 _ _ refl refl

-- ---- intra macroblocks

-- with a concealment vector, DC coefficients, and these other coefficients in block 2
with_dc : List RunLevel → Macroblock
with_dc pairs = record {
  skipped_before = 0;
  kind = record { quant = false; forward = false; backward = false; pattern = false; intra = true };
  motion_type = 2;
  field_dct = false;
  code = None;
  forward = record { items = zero_vector ∷ [] };
  backward = record { items = [] };
  pattern = 0;
  blocks = slice_set (replicate 6 (record { dc = Some (record { size = 3; bits = 5 }); pairs = record { items = [] } })) 2
      (record { dc = Some (record { size = 1; bits = 0 }); pairs = record { items = pairs } });
}

-- DC coefficients and the vector stay; a level is rounded to nearest. Codes 4 and 12 are the scales 8 and 24, and the
-- weights 16, 16 and 19: -2 becomes -(256 + 192) / 384 = -1, and 4 becomes (608 + 228) / 456 = 1. Between them 1 becomes
-- (128 + 192) / 384 = 0, and leaves its place to the run.
intra_with_concealment : IsCoarserSlice default_seq (record (coding_of 1) { concealment = true }) 48 (slice_of 4 (with_dc (pair_of 0 (negsuc 1) ∷ pair_of 0 (pos 1) ∷ pair_of 0 (pos 4) ∷ []) ∷ []))
    (slice_of 12 (with_dc (pair_of 0 (negsuc 0) ∷ pair_of 1 (pos 1) ∷ []) ∷ []))
unfolding coarsened_slice number_of with_dc
intra_with_concealment = version_by_walk (record (coding_of 1) { concealment = true }) 48 _ _ refl refl

-- ---- pictures under two scans

-- an I-picture of one macroblock, under code 1 and this scan, with the level 1 behind the first DC coefficient
abbrev scanned : Bool → Picture
scanned alternate = record (picture_of (record (coding_of 1) { alternate_scan = alternate }) (slice_of 1 (record (with_dc []) {
  forward = record { items = [] };
  blocks = slice_set (replicate 6 (record { dc = Some (record { size = 0; bits = 0 }); pairs = record { items = [] } })) 0
      (record { dc = Some (record { size = 0; bits = 0 }); pairs = record { items = pair_of 0 (pos 1) ∷ [] } });
} ∷ []))) { seq = record default_seq { width = 16 } }

-- the first place behind the DC coefficient is the raster index 1 in the zigzag scan, and 8 in the alternate one: both
-- coefficients are 2 * 1 * 16 * 2 / 32 = 2, and neither stands where the other does
two_scans_distortion : distortion_between (scanned false) (scanned true) ≡ 8
unfolding distortion_between difference_of with_dc
two_scans_distortion = refl

same_scan_distortion : distortion_between (scanned true) (scanned true) ≡ 0
unfolding distortion_between difference_of with_dc
same_scan_distortion = refl

-- ---- a block

-- weights 17 and 16, code 2, m = 24: (0, 1) and (31, 1) become (32, 1), which is longer
a_longer_version : IsCoarserBlock (record default_seq { non_intra = slice_set (default_weights false) 0 17 }) (coding_of 2) (record { intra = false; luma = true; vlc_one = false }) 2 3
    (record { dc = None; pairs = record { items = pair_of 0 (pos 1) ∷ pair_of 31 (pos 1) ∷ [] } }) (record { dc = None; pairs = record { items = pair_of 32 (pos 1) ∷ [] } })
a_longer_version = subst (IsCoarserBlock (record default_seq { non_intra = slice_set (default_weights false) 0 17 }) (coding_of 2) (record { intra = false; luma = true; vlc_one = false }) 2 3
    (record { dc = None; pairs = record { items = pair_of 0 (pos 1) ∷ pair_of 31 (pos 1) ∷ [] } }))
    refl (coarsened_block-is _ _ _ _ _ _)

mapped_2_24 : mapped_code false 24 2 ≡ 3
mapped_2_24 = refl
