-- Heads and units decide by their bits.
use Rattle.std.proofs.Common.{ℕ, List, [], ◌∷◌, Option, Some, None, Bool, false}
use Rattle.syntax_types.specs.declared.block.TheConstants.{BLOCK_PLACES}
use Rattle.syntax_types.specs.declared.picture.PicCoding.{PicCoding}
use Rattle.syntax_types.specs.declared.picture.SeqState.{SeqState}
use Rattle.syntax_types.specs.declared.slice.Slice.{Slice}
use Rattle.picture_grammar.specs.Refusal.{Refusal}
use Rattle.picture_grammar.specs.Refusal.Refusal.{BadHeader}
use Rattle.picture_grammar.specs.Grammar.{optional, repeated}
use Rattle.picture_grammar.specs.Element.{uimsbf, one_flag, rule}
use Rattle.picture_grammar.specs.Exact.{IsExact}
use Rattle.picture_grammar.specs.StartCode.{zero_bits, zero_bytes, start_code, only_zero_bytes}
use Rattle.picture_grammar.specs.Headers.{
  Loaded,
  is_not_zero,
  old_f_code,
  matrix_if_loaded,
  sequence_header,
  sequence_extension,
  group_header,
  picture_header,
  picture_coding_extension,
  quant_matrix_extension,
}
use Rattle.picture_grammar.specs.Head.{unread, extension, extension_or_user_data, user_data_only, sequence_headers, sequence_part, group_part, picture_part, head}
use Rattle.picture_grammar.specs.Picture.{whole_slice, next_slice, picture_unit}
use Rattle.picture_grammar.proofs.GrammarLaws.{
  exact-done,
  exact-bind,
  exact-then,
  exact-optional,
  exact-when,
  exact-if_next,
  exact-at_bits,
  exact-ahead,
  exact-repeated,
  exact-one_more,
  exact-many,
  exact-with_bytes,
}
use Rattle.picture_grammar.proofs.ElementLaws.{exact-element}
use Rattle.picture_grammar.proofs.Codes.{free-behind}
use Rattle.picture_grammar.proofs.PictureLaws.{exact-uimsbf, exact-flag_where}
use Rattle.picture_grammar.proofs.MacroblockLaws.{exact-extra_information, exact-slice}

-- ---- start codes

pub exact-zero_bits : (refusal : Refusal) → IsExact (zero_bits refusal)
exact-zero_bits refusal = exact-at_bits _ (λ bits. exact-uimsbf _ _)

pub exact-zero_bytes : (refusal : Refusal) → IsExact (zero_bytes refusal)
exact-zero_bytes refusal = exact-many _ (λ before. exact-if_next _ _ _ (exact-done _) (exact-bind _ _ (exact-uimsbf 8 _) (λ byte. exact-done _)))

pub exact-start_code : (refusal : Refusal) (may_come : ℕ → Bool) → IsExact (start_code refusal may_come)
exact-start_code refusal may_come = exact-then _ _ (exact-zero_bytes refusal) (exact-element _ _ _ (free-behind _ 8))

pub exact-only_zero_bytes : IsExact only_zero_bytes
exact-only_zero_bytes =
    exact-many _ (λ before. exact-if_next _ _ _ (exact-done _) (exact-if_next _ _ _
    (exact-then _ _ (exact-start_code _ _) (exact-done _)) (exact-bind _ _ (exact-uimsbf 8 _) (λ byte. exact-done _))))

-- ---- headers

pub exact-matrix_if_loaded : IsExact matrix_if_loaded
exact-matrix_if_loaded =
    let weight = uimsbf 8 (rule BadHeader is_not_zero ∷ []) in
    exact-bind one_flag (λ load. optional load (repeated BLOCK_PLACES weight)) (exact-flag_where [])
    (λ load. exact-optional load (repeated BLOCK_PLACES weight) (exact-repeated BLOCK_PLACES weight (exact-uimsbf 8 _)))

pub exact-sequence_header : (before : Option SeqState) → IsExact (sequence_header before)
exact-sequence_header before =
    exact-bind _ _ (exact-uimsbf 12 _)
    (λ width. exact-bind _ _ (exact-uimsbf 12 _)
    (λ height. exact-then _ _ (exact-uimsbf 4 [])
    (exact-bind _ _ (exact-uimsbf 4 _)
    (λ rate_code. exact-then _ _ (exact-uimsbf 18 [])
    (exact-then _ _ (exact-uimsbf 1 _)
    (exact-bind _ _ (exact-uimsbf 10 _)
    (λ vbv. exact-then _ _ (exact-flag_where [])
    (exact-bind _ _ exact-matrix_if_loaded
    (λ intra. exact-bind _ _ exact-matrix_if_loaded
    (λ non_intra. exact-done _))))))))))

pub exact-sequence_extension : (before : Option SeqState) → IsExact (sequence_extension before)
exact-sequence_extension before =
    exact-then _ _ (exact-uimsbf 8 _)
    (exact-bind _ _ (exact-flag_where _)
    (λ progressive. exact-then _ _ (exact-uimsbf 2 _)
    (exact-then _ _ (exact-uimsbf 2 _)
    (exact-then _ _ (exact-uimsbf 2 _)
    (exact-then _ _ (exact-uimsbf 12 [])
    (exact-then _ _ (exact-uimsbf 1 _)
    (exact-then _ _ (exact-uimsbf 8 _)
    (exact-then _ _ (exact-flag_where _)
    (exact-then _ _ (exact-uimsbf 2 [])
    (exact-then _ _ (exact-uimsbf 5 []) (exact-done progressive)))))))))))

pub exact-group_header : IsExact group_header
exact-group_header = exact-then _ _ (exact-uimsbf 25 []) (exact-then _ _ (exact-flag_where []) (exact-flag_where []))

pub exact-old_f_code : IsExact old_f_code
exact-old_f_code = exact-then _ _ (exact-flag_where []) (exact-uimsbf 3 [])

pub exact-picture_header : IsExact picture_header
exact-picture_header =
    exact-then _ _ (exact-uimsbf 10 [])
    (exact-bind _ _ (exact-uimsbf 3 _)
    (λ kind. exact-bind _ _ (exact-uimsbf 16 [])
    (λ vbv_delay. exact-then _ _ (exact-optional _ _ exact-old_f_code)
    (exact-then _ _ (exact-optional _ _ exact-old_f_code)
    (exact-then _ _ (exact-many _ exact-extra_information) (exact-done _))))))

pub exact-picture_coding_extension : (progressive : Bool) (kind vbv_delay : ℕ) → IsExact (picture_coding_extension progressive kind vbv_delay)
exact-picture_coding_extension progressive kind vbv_delay =
    exact-bind _ _ (exact-uimsbf 4 _)
    (λ forward_horizontal. exact-bind _ _ (exact-uimsbf 4 _)
    (λ forward_vertical. exact-bind _ _ (exact-uimsbf 4 _)
    (λ backward_horizontal. exact-bind _ _ (exact-uimsbf 4 _)
    (λ backward_vertical. exact-bind _ _ (exact-uimsbf 2 [])
    (λ dc_precision. exact-bind _ _ (exact-uimsbf 2 _)
    (λ structure. exact-bind _ _ (exact-flag_where [])
    (λ top_field_first. exact-bind _ _ (exact-flag_where _)
    (λ frame_pred_frame_dct. exact-bind _ _ (exact-flag_where _)
    (λ concealment. exact-bind _ _ (exact-flag_where [])
    (λ q_scale_type. exact-bind _ _ (exact-flag_where [])
    (λ intra_vlc_format. exact-bind _ _ (exact-flag_where [])
    (λ alternate_scan. exact-bind _ _ (exact-flag_where [])
    (λ repeat_first_field. exact-then _ _ (exact-flag_where [])
    (exact-bind _ _ (exact-flag_where [])
    (λ progressive_frame. exact-bind _ _ (exact-flag_where [])
    (λ composite. exact-then _ _ (exact-optional _ _ (exact-uimsbf 20 [])) (exact-done _)))))))))))))))))

pub exact-quant_matrix_extension : IsExact quant_matrix_extension
exact-quant_matrix_extension =
    exact-bind _ _ exact-matrix_if_loaded
    (λ intra. exact-bind _ _ exact-matrix_if_loaded
    (λ non_intra. exact-then _ _ (exact-flag_where _) (exact-then _ _ (exact-flag_where _) (exact-done _))))

-- ---- heads

pub exact-unread : IsExact unread
exact-unread = exact-then _ _ (exact-at_bits _ (λ bits. exact-uimsbf _ [])) (exact-many _ (λ before. exact-if_next _ _ _ (exact-done _) (exact-one_more _ (exact-uimsbf 8 []))))

pub exact-extension : (identifiers : ℕ → Bool) → IsExact (extension identifiers)
exact-extension identifiers =
    exact-bind _ _ (exact-uimsbf 4 _)
    (λ identifier. exact-bind _ _ (exact-when _ _ _ exact-quant_matrix_extension)
    (λ loaded. exact-then _ _ (exact-optional _ _ (exact-zero_bits _)) (exact-then _ _ (exact-optional _ _ exact-unread) (exact-done loaded))))

pub exact-extension_or_user_data : (start_codes identifiers : ℕ → Bool) (before : List Loaded) → IsExact (extension_or_user_data start_codes identifiers before)
exact-extension_or_user_data start_codes identifiers before =
    exact-if_next _ _ _ (exact-bind _ _ (exact-start_code _ _)
    (λ byte. exact-bind _ _ (exact-when _ _ _ (exact-extension identifiers))
    (λ loaded. exact-then _ _ (exact-optional _ _ exact-unread) (exact-done _)))) (exact-done _)

pub exact-user_data_only : IsExact user_data_only
exact-user_data_only = exact-many _ (exact-extension_or_user_data _ (λ identifier. false))

pub exact-sequence_headers : (before : Option SeqState) → IsExact (sequence_headers before)
exact-sequence_headers before =
    exact-then _ _ (exact-start_code _ _)
    (exact-bind _ _ (exact-sequence_header before)
    (λ seq. exact-then _ _ (exact-zero_bits _)
    (exact-then _ _ (exact-start_code _ _)
    (exact-then _ _ (exact-uimsbf 4 _)
    (exact-bind _ _ (exact-sequence_extension before)
    (λ progressive. exact-then _ _ (exact-zero_bits _)
    (exact-then _ _ (exact-many _ (exact-extension_or_user_data _ _)) (exact-done _))))))))

pub exact-sequence_part : (before : Option SeqState) → IsExact (sequence_part before)
exact-sequence_part None = exact-sequence_headers None
exact-sequence_part (Some before) = exact-if_next _ _ _ (exact-sequence_headers (Some before)) (exact-done before)

pub exact-group_part : IsExact group_part
exact-group_part =
    exact-if_next _ _ _ (exact-then _ _ (exact-start_code _ _)
    (exact-then _ _ exact-group_header
    (exact-then _ _ (exact-zero_bits _)
    (exact-then _ _ exact-user_data_only (exact-done tt))))) (exact-done tt)

pub exact-picture_part : (seq : SeqState) → IsExact (picture_part seq)
exact-picture_part seq =
    exact-then _ _ (exact-start_code _ _)
    (exact-bind _ _ exact-picture_header
    (λ header. exact-then _ _ (exact-zero_bits _)
    (exact-then _ _ (exact-start_code _ _)
    (exact-then _ _ (exact-uimsbf 4 _)
    (exact-bind _ _ (exact-picture_coding_extension _ _ _)
    (λ coding. exact-then _ _ (exact-zero_bits _)
    (exact-bind _ _ (exact-many _ (exact-extension_or_user_data _ _))
    (λ loaded. exact-done _))))))))

pub exact-head : (before : Option SeqState) → IsExact (head before)
unfolding head
exact-head before =
    exact-bind _ _ (exact-sequence_part before)
    (λ seq. exact-then _ _ exact-group_part
    (exact-bind _ _ (exact-picture_part seq)
    (λ headers. exact-then _ _ (exact-ahead _ (exact-start_code _ _)) (exact-done headers))))

-- ---- units

pub exact-whole_slice : (seq : SeqState) (coding : PicCoding) (byte : ℕ) → IsExact (whole_slice seq coding byte)
exact-whole_slice seq coding byte = exact-bind _ _ (exact-slice seq coding _) (λ slice. exact-then _ _ (exact-zero_bits _) (exact-done slice))

pub exact-next_slice : (seq : SeqState) (coding : PicCoding) (before : List Slice) → IsExact (next_slice seq coding before)
exact-next_slice seq coding [] = exact-bind _ _ (exact-start_code _ _) (λ byte. exact-bind _ _ (exact-whole_slice seq coding byte) (λ slice. exact-done _))
exact-next_slice seq coding (s ∷ ss) =
    exact-if_next _ _ _ (exact-then _ _ exact-only_zero_bytes (exact-done _))
    (exact-bind _ _ (exact-start_code _ _)
    (λ byte. exact-bind _ _ (exact-optional _ _ (exact-whole_slice seq coding byte))
    (λ slice. exact-then _ _ (exact-optional _ _ exact-only_zero_bytes) (exact-done _))))

pub exact-picture_unit : (before : Option SeqState) → IsExact (picture_unit before)
unfolding picture_unit
exact-picture_unit before =
    exact-bind _ _ (exact-with_bytes (head before) (exact-head before))
    (λ headers. exact-bind _ _ (exact-many _ (exact-next_slice _ _)) (λ slices. exact-done _))
