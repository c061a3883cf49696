-- Start codes, headers and heads decide all bits.
use Rattle.std.proofs.Common.{ℕ, List, [], ◌∷◌, Option, Some, None, Bool, false}
use Rattle.syntax_types.specs.declared.block.TheConstants.{BLOCK_PLACES}
use Rattle.syntax_types.specs.declared.picture.SeqState.{SeqState}
use Rattle.picture_grammar.specs.Refusal.{Refusal}
use Rattle.picture_grammar.specs.Refusal.Refusal.{BadHeader}
use Rattle.picture_grammar.specs.Grammar.{optional, repeated}
use Rattle.picture_grammar.specs.Element.{uimsbf, one_flag, rule}
use Rattle.picture_grammar.specs.StartCode.{start_code_prefix, zero_bits, zero_bytes, start_code, only_zero_bytes}
use Rattle.picture_grammar.specs.Headers.{
  Loaded,
  is_not_zero,
  old_f_code,
  matrix_if_loaded,
  sequence_header,
  sequence_extension,
  group_header,
  picture_header,
  picture_coding_extension,
  quant_matrix_extension,
}
use Rattle.picture_grammar.specs.Head.{unread, extension, extension_or_user_data, user_data_only, sequence_headers, sequence_part, group_part, picture_part, head}
use Rattle.picture_laws.proofs.Answers.{IsDecided}
use Rattle.picture_laws.proofs.Decided.{
  decided-done,
  decided-bind,
  decided-then,
  decided-optional,
  decided-when,
  decided-if_next,
  decided-at_bits,
  decided-ahead,
  decided-repeated,
  decided-one_more,
  decided-many,
}
use Rattle.picture_laws.proofs.DecidedElements.{decided-uimsbf, decided-flag_where, decided-behind}
use Rattle.picture_laws.proofs.DecidedPictures.{decided-extra_information}
use Rattle.picture_laws.proofs.Takes.{takes-extra_information}
use Rattle.picture_laws.proofs.TakesHeads.{takes-zero_bytes, takes-only_zero_bytes, takes-unread, takes-extensions}
use Rattle.picture_laws.proofs.Tested.{tested-front, tested-empty, tested-comes}

-- ---- start codes

abbrev pub decided-zero_bits : (refusal : Refusal) → IsDecided (zero_bits refusal)
decided-zero_bits refusal = decided-at_bits _ (λ bits. decided-uimsbf _ _)

abbrev pub decided-zero_bytes : (refusal : Refusal) → IsDecided (zero_bytes refusal)
decided-zero_bytes refusal =
    decided-many _ (λ before. decided-if_next _ _ _ (tested-front start_code_prefix) (decided-done _) (decided-bind _ _ (decided-uimsbf 8 _) (λ byte. decided-done _))) (takes-zero_bytes refusal)

abbrev pub decided-start_code : (refusal : Refusal) (may_come : ℕ → Bool) → IsDecided (start_code refusal may_come)
decided-start_code refusal may_come = decided-then _ _ (decided-zero_bytes refusal) (decided-behind start_code_prefix 8 _ _)

abbrev pub decided-only_zero_bytes : IsDecided only_zero_bytes
decided-only_zero_bytes =
    decided-many _ (λ before. decided-if_next _ _ _ tested-empty (decided-done _) (decided-if_next _ _ _ (tested-front start_code_prefix)
    (decided-then _ _ (decided-start_code _ _) (decided-done _)) (decided-bind _ _ (decided-uimsbf 8 _) (λ byte. decided-done _)))) takes-only_zero_bytes

-- ---- headers

abbrev pub decided-matrix_if_loaded : IsDecided matrix_if_loaded
decided-matrix_if_loaded =
    let weight = uimsbf 8 (rule BadHeader is_not_zero ∷ []) in
    decided-bind one_flag (λ load. optional load (repeated BLOCK_PLACES weight)) (decided-flag_where [])
    (λ load. decided-optional load (repeated BLOCK_PLACES weight) (decided-repeated BLOCK_PLACES weight (decided-uimsbf 8 _)))

abbrev pub decided-sequence_header : (before : Option SeqState) → IsDecided (sequence_header before)
decided-sequence_header before =
    decided-bind _ _ (decided-uimsbf 12 _)
    (λ width. decided-bind _ _ (decided-uimsbf 12 _)
    (λ height. decided-then _ _ (decided-uimsbf 4 [])
    (decided-bind _ _ (decided-uimsbf 4 _)
    (λ rate_code. decided-then _ _ (decided-uimsbf 18 [])
    (decided-then _ _ (decided-uimsbf 1 _)
    (decided-bind _ _ (decided-uimsbf 10 _)
    (λ vbv. decided-then _ _ (decided-flag_where [])
    (decided-bind _ _ decided-matrix_if_loaded
    (λ intra. decided-bind _ _ decided-matrix_if_loaded
    (λ non_intra. decided-done _))))))))))

abbrev pub decided-sequence_extension : (before : Option SeqState) → IsDecided (sequence_extension before)
decided-sequence_extension before =
    decided-then _ _ (decided-uimsbf 8 _)
    (decided-bind _ _ (decided-flag_where _)
    (λ progressive. decided-then _ _ (decided-uimsbf 2 _)
    (decided-then _ _ (decided-uimsbf 2 _)
    (decided-then _ _ (decided-uimsbf 2 _)
    (decided-then _ _ (decided-uimsbf 12 [])
    (decided-then _ _ (decided-uimsbf 1 _)
    (decided-then _ _ (decided-uimsbf 8 _)
    (decided-then _ _ (decided-flag_where _)
    (decided-then _ _ (decided-uimsbf 2 [])
    (decided-then _ _ (decided-uimsbf 5 []) (decided-done progressive)))))))))))

abbrev pub decided-group_header : IsDecided group_header
decided-group_header = decided-then _ _ (decided-uimsbf 25 []) (decided-then _ _ (decided-flag_where []) (decided-flag_where []))

abbrev pub decided-old_f_code : IsDecided old_f_code
decided-old_f_code = decided-then _ _ (decided-flag_where []) (decided-uimsbf 3 [])

abbrev pub decided-picture_header : IsDecided picture_header
decided-picture_header =
    decided-then _ _ (decided-uimsbf 10 [])
    (decided-bind _ _ (decided-uimsbf 3 _)
    (λ kind. decided-bind _ _ (decided-uimsbf 16 [])
    (λ vbv_delay. decided-then _ _ (decided-optional _ _ decided-old_f_code)
    (decided-then _ _ (decided-optional _ _ decided-old_f_code)
    (decided-then _ _ (decided-many _ decided-extra_information takes-extra_information) (decided-done _))))))

abbrev pub decided-picture_coding_extension : (progressive : Bool) (kind vbv_delay : ℕ) → IsDecided (picture_coding_extension progressive kind vbv_delay)
decided-picture_coding_extension progressive kind vbv_delay =
    decided-bind _ _ (decided-uimsbf 4 _)
    (λ forward_horizontal. decided-bind _ _ (decided-uimsbf 4 _)
    (λ forward_vertical. decided-bind _ _ (decided-uimsbf 4 _)
    (λ backward_horizontal. decided-bind _ _ (decided-uimsbf 4 _)
    (λ backward_vertical. decided-bind _ _ (decided-uimsbf 2 [])
    (λ dc_precision. decided-bind _ _ (decided-uimsbf 2 _)
    (λ structure. decided-bind _ _ (decided-flag_where [])
    (λ top_field_first. decided-bind _ _ (decided-flag_where _)
    (λ frame_pred_frame_dct. decided-bind _ _ (decided-flag_where _)
    (λ concealment. decided-bind _ _ (decided-flag_where [])
    (λ q_scale_type. decided-bind _ _ (decided-flag_where [])
    (λ intra_vlc_format. decided-bind _ _ (decided-flag_where [])
    (λ alternate_scan. decided-bind _ _ (decided-flag_where [])
    (λ repeat_first_field. decided-then _ _ (decided-flag_where [])
    (decided-bind _ _ (decided-flag_where [])
    (λ progressive_frame. decided-bind _ _ (decided-flag_where [])
    (λ composite. decided-then _ _ (decided-optional _ _ (decided-uimsbf 20 [])) (decided-done _)))))))))))))))))

abbrev pub decided-quant_matrix_extension : IsDecided quant_matrix_extension
decided-quant_matrix_extension =
    decided-bind _ _ decided-matrix_if_loaded
    (λ intra. decided-bind _ _ decided-matrix_if_loaded
    (λ non_intra. decided-then _ _ (decided-flag_where _) (decided-then _ _ (decided-flag_where _) (decided-done _))))

-- ---- heads

abbrev pub decided-unread : IsDecided unread
decided-unread =
    decided-then _ _ (decided-at_bits _ (λ bits. decided-uimsbf _ []))
    (decided-many _ (λ before. decided-if_next _ _ _ (tested-front start_code_prefix) (decided-done _) (decided-one_more _ (decided-uimsbf 8 []))) takes-unread)

abbrev pub decided-extension : (identifiers : ℕ → Bool) → IsDecided (extension identifiers)
decided-extension identifiers =
    decided-bind _ _ (decided-uimsbf 4 _)
    (λ identifier. decided-bind _ _ (decided-when _ _ _ decided-quant_matrix_extension)
    (λ loaded. decided-then _ _ (decided-optional _ _ (decided-zero_bits _)) (decided-then _ _ (decided-optional _ _ decided-unread) (decided-done loaded))))

abbrev pub decided-extension_or_user_data : (start_codes identifiers : ℕ → Bool) (before : List Loaded) → IsDecided (extension_or_user_data start_codes identifiers before)
decided-extension_or_user_data start_codes identifiers before =
    decided-if_next _ _ _ (tested-comes start_codes) (decided-bind _ _ (decided-start_code _ _)
    (λ byte. decided-bind _ _ (decided-when _ _ _ (decided-extension identifiers))
    (λ loaded. decided-then _ _ (decided-optional _ _ decided-unread) (decided-done _)))) (decided-done _)

abbrev pub decided-user_data_only : IsDecided user_data_only
decided-user_data_only = decided-many _ (decided-extension_or_user_data _ (λ identifier. false)) (takes-extensions _ (λ identifier. false))

abbrev pub decided-sequence_headers : (before : Option SeqState) → IsDecided (sequence_headers before)
decided-sequence_headers before =
    decided-then _ _ (decided-start_code _ _)
    (decided-bind _ _ (decided-sequence_header before)
    (λ seq. decided-then _ _ (decided-zero_bits _)
    (decided-then _ _ (decided-start_code _ _)
    (decided-then _ _ (decided-uimsbf 4 _)
    (decided-bind _ _ (decided-sequence_extension before)
    (λ progressive. decided-then _ _ (decided-zero_bits _)
    (decided-then _ _ (decided-many _ (decided-extension_or_user_data _ _) (takes-extensions _ _)) (decided-done _))))))))

abbrev pub decided-sequence_part : (before : Option SeqState) → IsDecided (sequence_part before)
decided-sequence_part None = decided-sequence_headers None
decided-sequence_part (Some before) = decided-if_next _ _ _ (tested-comes _) (decided-sequence_headers (Some before)) (decided-done before)

abbrev pub decided-group_part : IsDecided group_part
decided-group_part =
    decided-if_next _ _ _ (tested-comes _) (decided-then _ _ (decided-start_code _ _)
    (decided-then _ _ decided-group_header
    (decided-then _ _ (decided-zero_bits _)
    (decided-then _ _ decided-user_data_only (decided-done tt))))) (decided-done tt)

abbrev pub decided-picture_part : (seq : SeqState) → IsDecided (picture_part seq)
decided-picture_part seq =
    decided-then _ _ (decided-start_code _ _)
    (decided-bind _ _ decided-picture_header
    (λ header. decided-then _ _ (decided-zero_bits _)
    (decided-then _ _ (decided-start_code _ _)
    (decided-then _ _ (decided-uimsbf 4 _)
    (decided-bind _ _ (decided-picture_coding_extension _ _ _)
    (λ coding. decided-then _ _ (decided-zero_bits _)
    (decided-bind _ _ (decided-many _ (decided-extension_or_user_data _ _) (takes-extensions _ _))
    (λ loaded. decided-done _))))))))

unfoldable pub decided-head : (before : Option SeqState) → IsDecided (head before)
unfolding head
decided-head before =
    decided-bind _ _ (decided-sequence_part before)
    (λ seq. decided-then _ _ decided-group_part
    (decided-bind _ _ (decided-picture_part seq)
    (λ headers. decided-then _ _ (decided-ahead _ (decided-start_code _ _)) (decided-done headers))))
