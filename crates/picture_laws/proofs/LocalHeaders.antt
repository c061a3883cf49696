-- Headers, blocks and macroblocks don't look ahead.
use Rattle.std.proofs.Common.{◌==◌, ℕ, zero, suc, pos, not, ◌-◌, List, [], ◌∷◌, Option, Bool, true, false}
use Rattle.std.specs.List.{range_with_len}
use Rattle.syntax_types.specs.declared.block.TheConstants.{BLOCK_PLACES}
use Rattle.syntax_types.specs.declared.macroblock.TheConstants.{BLOCKS}
use Rattle.syntax_types.specs.declared.macroblock.Kind.{Kind}
use Rattle.syntax_types.specs.declared.picture.PicCoding.{PicCoding}
use Rattle.syntax_types.specs.declared.picture.SeqState.{SeqState}
use Rattle.prefix_codes.specs.declared.table_name.TableName.TheVariants.{Pattern}
use Rattle.picture_grammar.specs.Refusal.Refusal.{BadHeader, BadType, BadPattern}
use Rattle.picture_grammar.specs.Grammar.{Grammar, done, ◌>>=◌, ◌>>◌, optional, when, repeated, each}
use Rattle.picture_grammar.specs.Element.{Rule, uimsbf, vlclbf, one_flag, marker_bit, rule}
use Rattle.picture_grammar.specs.Exact.{IsLocal}
use Rattle.picture_grammar.specs.Block.{block}
use Rattle.picture_grammar.specs.Motion.{MotionFormat, dmvector, has_residual, vector_part, motion_vector, motion_vectors}
use Rattle.picture_grammar.specs.Macroblock.{
  address_code,
  address_increment,
  most_increment,
  has_motion_type,
  usual_motion_type,
  has_dct_type,
  quantiser_scale_code,
  has_forward,
  has_concealment,
  f_codes,
  motion_format,
  block_way,
  is_coded,
  no_block,
  blocks,
  macroblock,
}
use Rattle.picture_grammar.specs.Slice.{extra_information}
use Rattle.picture_grammar.specs.Headers.{
  is_not_zero,
  matrix_if_loaded,
  sequence_header,
  sequence_extension,
  group_header,
  old_f_code,
  picture_header,
  picture_coding_extension,
  quant_matrix_extension,
}
use Rattle.picture_grammar.proofs.LocalLaws.{local-done, local-element, local-bind, local-optional, local-many, local-block}

-- ---- headers don't look ahead

pub local-then : {A B : Type 0} (first : Grammar A) (next : Grammar B) → IsLocal first → IsLocal next → IsLocal (first >> next)
local-then first next local then = local-bind first (λ _. next) local (λ _. then)

pub local-when : {A : Type 0} (test : Bool) (grammar : Grammar A) (absent : A) → IsLocal grammar → IsLocal (when test grammar absent)
local-when true grammar absent local = local
local-when false grammar absent local = local-done absent

pub local-repeated : {A : Type 0} (n : ℕ) (grammar : Grammar A) → IsLocal grammar → IsLocal (repeated n grammar)
local-repeated zero grammar local = local-done []
local-repeated (suc n) grammar local = local-bind grammar (λ value. repeated n grammar >>= λ values. done (value ∷ values)) local
    (λ value. local-bind (repeated n grammar) (λ values. done (value ∷ values)) (local-repeated n grammar local)
    (λ values. local-done (value ∷ values)))

pub local-uimsbf : (n : ℕ) (rules : List (Rule ℕ)) → IsLocal (uimsbf n rules)
local-uimsbf n rules = local-element _ _ rules

pub local-matrix : IsLocal matrix_if_loaded
local-matrix =
    let weight = uimsbf 8 (rule BadHeader is_not_zero ∷ []) in
    local-bind one_flag (λ load. optional load (repeated BLOCK_PLACES weight)) (local-element _ _ _)
    (λ load. local-optional load (repeated BLOCK_PLACES weight) (local-repeated BLOCK_PLACES weight (local-uimsbf 8 _)))

pub local-sequence_header : (before : Option SeqState) → IsLocal (sequence_header before)
local-sequence_header before =
    local-bind _ _ (local-element _ _ _)
    (λ width. local-bind _ _ (local-element _ _ _)
    (λ height. local-then _ _ (local-element _ _ _)
    (local-bind _ _ (local-element _ _ _)
    (λ rate_code. local-then _ _ (local-element _ _ _)
    (local-then _ _ (local-element _ _ _)
    (local-bind _ _ (local-element _ _ _)
    (λ vbv. local-then _ _ (local-element _ _ _)
    (local-bind _ _ local-matrix
    (λ intra. local-bind _ _ local-matrix
    (λ non_intra. local-done _))))))))))

pub local-sequence_extension : (before : Option SeqState) → IsLocal (sequence_extension before)
local-sequence_extension before =
    local-then _ _ (local-element _ _ _)
    (local-bind _ _ (local-element _ _ _)
    (λ progressive. local-then _ _ (local-element _ _ _)
    (local-then _ _ (local-element _ _ _)
    (local-then _ _ (local-element _ _ _)
    (local-then _ _ (local-element _ _ _)
    (local-then _ _ (local-element _ _ _)
    (local-then _ _ (local-element _ _ _)
    (local-then _ _ (local-element _ _ _)
    (local-then _ _ (local-element _ _ _)
    (local-then _ _ (local-element _ _ _) (local-done progressive)))))))))))

pub local-group_header : IsLocal group_header
local-group_header = local-then _ _ (local-element _ _ _) (local-then _ _ (local-element _ _ _) (local-element _ _ _))

pub local-old_f_code : IsLocal old_f_code
local-old_f_code = local-then _ _ (local-element _ _ _) (local-element _ _ _)

pub local-extra : (before : List ℕ) → IsLocal (extra_information before)
local-extra before = local-bind _ _ (local-element _ _ _) (λ another. local-bind _ _ (local-optional another _ (local-uimsbf 8 [])) (λ byte. local-done _))

pub local-picture_header : IsLocal picture_header
local-picture_header =
    local-then _ _ (local-element _ _ _)
    (local-bind _ _ (local-element _ _ _)
    (λ kind. local-bind _ _ (local-element _ _ _)
    (λ vbv_delay. local-then _ _ (local-optional _ _ local-old_f_code)
    (local-then _ _ (local-optional _ _ local-old_f_code)
    (local-then _ _ (local-many _ local-extra) (local-done _))))))

pub local-picture_coding_extension : (progressive : Bool) (kind vbv_delay : ℕ) → IsLocal (picture_coding_extension progressive kind vbv_delay)
local-picture_coding_extension progressive kind vbv_delay =
    local-bind _ _ (local-element _ _ _)
    (λ forward_horizontal. local-bind _ _ (local-element _ _ _)
    (λ forward_vertical. local-bind _ _ (local-element _ _ _)
    (λ backward_horizontal. local-bind _ _ (local-element _ _ _)
    (λ backward_vertical. local-bind _ _ (local-element _ _ _)
    (λ dc_precision. local-bind _ _ (local-element _ _ _)
    (λ structure. local-bind _ _ (local-element _ _ _)
    (λ top_field_first. local-bind _ _ (local-element _ _ _)
    (λ frame_pred_frame_dct. local-bind _ _ (local-element _ _ _)
    (λ concealment. local-bind _ _ (local-element _ _ _)
    (λ q_scale_type. local-bind _ _ (local-element _ _ _)
    (λ intra_vlc_format. local-bind _ _ (local-element _ _ _)
    (λ alternate_scan. local-bind _ _ (local-element _ _ _)
    (λ repeat_first_field. local-then _ _ (local-element _ _ _)
    (local-bind _ _ (local-element _ _ _)
    (λ progressive_frame. local-bind _ _ (local-element _ _ _)
    (λ composite. local-then _ _ (local-optional _ _ (local-uimsbf 20 [])) (local-done _)))))))))))))))))

pub local-quant_matrix_extension : IsLocal quant_matrix_extension
local-quant_matrix_extension =
    local-bind _ _ local-matrix
    (λ intra. local-bind _ _ local-matrix
    (λ non_intra. local-then _ _ (local-element _ _ _) (local-then _ _ (local-element _ _ _) (local-done _))))

-- ---- macroblocks don't look ahead

local-each : {I A : Type 0} (is : List I) (grammar : I → Grammar A) → ((i : I) → IsLocal (grammar i)) → IsLocal (each is grammar)
local-each [] grammar local = local-done []
local-each (i ∷ is) grammar local =
    local-bind (grammar i) (λ value. each is grammar >>= λ values. done (value ∷ values)) (local i)
    (λ value. local-bind (each is grammar) (λ values. done (value ∷ values)) (local-each is grammar local) (λ values. local-done (value ∷ values)))

pub local-address : (most : ℕ) → IsLocal (address_increment most)
local-address most = local-bind _ _ (local-many (address_code most) (λ escapes. local-bind _ _ (local-element _ _ _) (λ symbol. local-done _))) (λ codes. local-done _)

local-part : (f_code : ℕ) (dual : Bool) → IsLocal (vector_part f_code dual)
local-part f_code dual =
    local-bind _ _ (local-element _ _ _)
    (λ size. local-bind _ _ (local-when (not (size == 0)) one_flag false (local-element _ _ _))
    (λ negative. local-bind _ _ (local-when (has_residual f_code size) _ 0 (local-uimsbf (f_code - 1) []))
    (λ residual. local-bind _ _ (local-when dual dmvector (pos 0) (local-element _ _ _))
    (λ difference. local-done _))))

local-vectors : (codes : List ℕ) (format : MotionFormat) → IsLocal (motion_vectors codes format)
local-vectors codes format = local-repeated format.count (motion_vector codes format)
    (local-bind _ _ (local-optional format.select one_flag (local-element _ _ _))
    (λ select. local-bind _ _ (local-part _ _) (λ horizontal. local-bind _ _ (local-part _ _) (λ vertical. local-done _))))

local-blocks : (coding : PicCoding) (kind : Kind) (pattern : ℕ) → IsLocal (blocks coding kind pattern)
local-blocks coding kind pattern =
    local-each (range_with_len 0 BLOCKS) (λ i. when (is_coded kind pattern i) (block (block_way coding kind i)) no_block)
    (λ i. local-when (is_coded kind pattern i) (block (block_way coding kind i)) no_block (local-block (block_way coding kind i)))

pub local-macroblock : (coding : PicCoding) (first : Bool) (columns_left : ℕ) → IsLocal (macroblock coding first columns_left)
unfolding macroblock
local-macroblock coding first columns_left =
    local-bind _ _ (local-address (most_increment coding first columns_left))
    (λ increment. local-bind _ _ (local-element _ _ _)
    (λ kind. local-bind _ _ (local-when (has_motion_type coding kind) (uimsbf 2 (rule BadType (λ number. not (number == 0)) ∷ [])) (usual_motion_type coding) (local-uimsbf 2 _))
    (λ motion. local-bind _ _ (local-when (has_dct_type coding kind) one_flag false (local-element _ _ _))
    (λ field_dct. local-bind _ _ (local-optional kind.quant quantiser_scale_code (local-uimsbf 5 _))
    (λ code. local-bind _ _ (local-when (has_forward coding kind) (motion_vectors (f_codes coding 0) (motion_format coding motion)) [] (local-vectors (f_codes coding 0) (motion_format coding motion)))
    (λ forward. local-bind _ _ (local-when kind.backward (motion_vectors (f_codes coding 1) (motion_format coding motion)) [] (local-vectors (f_codes coding 1) (motion_format coding motion)))
    (λ backward. local-bind _ _ (local-optional (has_concealment coding kind) (marker_bit BadType) (local-uimsbf 1 _))
    (λ marker. local-bind _ _ (local-when kind.pattern (vlclbf Pattern BadPattern []) 0 (local-element _ _ _))
    (λ pattern. local-bind _ _ (local-blocks coding kind pattern) (λ blocks. local-done _))))))))))
