-- The head of a unit: the headers of one coded picture in their order (ISO/IEC 13818-2, 6.2.2).
use Rattle.std.specs.Prelude.{◌%◌, ◌==◌, ◌||◌, ℕ, not, fold, Option, Some, None, List, [], ◌∷◌, length, Bool, false}
use Rattle.bit_lists.specs.Bits.{IsPrefix}
use Rattle.syntax_types.specs.declared.picture.PicCoding.{PicCoding}
use Rattle.syntax_types.specs.declared.picture.SeqState.{SeqState}
use Rattle.stream_constants.specs.declared.start_codes.TheConstants.{
  PICTURE,
  USER_DATA,
  SEQUENCE_HEADER,
  EXTENSION,
  GROUP,
  SEQUENCE_EXTENSION,
  SEQUENCE_DISPLAY,
  QUANT_MATRIX,
  COPYRIGHT,
  SEQUENCE_SCALABLE,
  PICTURE_DISPLAY,
  PICTURE_CODING,
  SPATIAL_SCALABLE,
  TEMPORAL_SCALABLE,
}
use Rattle.picture_grammar.specs.Refusal.Refusal.{BadHeader, NotMpeg2, Profile}
use Rattle.picture_grammar.specs.Grammar.{Grammar, done, ◌>>=◌, ◌>>◌, optional, when, if_next, at_bits, ahead, many, Next, one_item_more}
use Rattle.picture_grammar.specs.Grammar.Next.{more, last}
use Rattle.picture_grammar.specs.Element.{uimsbf, rule}
use Rattle.picture_grammar.specs.StartCode.{start_code_prefix, start_code, zero_bits, StartCodeComes}
use Rattle.stream_constants.specs.SliceCodes.{is_slice}
use Rattle.picture_grammar.specs.Headers.{Loaded, sequence_header, sequence_extension, group_header, picture_header, picture_coding_extension, quant_matrix_extension, with_loaded}

-- ---- extension_and_user_data() (6.2.2.2)

-- bits up to the next start code, which nobody reads
abbrev pub unread : Grammar (List ℕ × Unit {0})
unread = do
  at_bits (λ bits. uimsbf (length bits % 8) [])
  many (λ _. if_next (IsPrefix start_code_prefix) (done (last tt)) (one_item_more (uimsbf 8 [])))

-- extensions of other profiles (Table 6-2)
abbrev pub is_scalable : ℕ → Bool
is_scalable identifier = identifier == SEQUENCE_SCALABLE || identifier == SPATIAL_SCALABLE || identifier == TEMPORAL_SCALABLE

-- no matrix is loaded
abbrev pub no_matrix : Loaded
no_matrix = record { intra = None; non_intra = None }

-- extension_data() behind its start code, with one of these identifiers
abbrev pub extension : (ℕ → Bool) → Grammar Loaded
extension may_come = do
  identifier ← uimsbf 4 (rule Profile (λ identifier. not (is_scalable identifier)) ∷ rule BadHeader may_come ∷ [])
  loaded ← when (identifier == QUANT_MATRIX) quant_matrix_extension no_matrix
  optional (identifier == QUANT_MATRIX) (zero_bits BadHeader)
  optional (not (identifier == QUANT_MATRIX)) unread
  done loaded

-- extension_data() with one of these identifiers, or user_data(), by these start codes; or neither comes
abbrev pub extension_or_user_data : (ℕ → Bool) → (ℕ → Bool) → List Loaded → Grammar (Next Loaded (Unit {0}))
extension_or_user_data start_codes identifiers before = if_next (StartCodeComes start_codes) (do
  byte ← start_code BadHeader start_codes
  loaded ← when (byte == EXTENSION) (extension identifiers) no_matrix
  optional (byte == USER_DATA) unread
  done (more loaded)) (done (last tt))

-- any number of extensions with such identifiers and of user data, in any order
abbrev pub extensions_and_user_data : (ℕ → Bool) → Grammar (List Loaded × Unit {0})
extensions_and_user_data identifiers = many (extension_or_user_data (λ byte. byte == EXTENSION || byte == USER_DATA) identifiers)

-- behind a group of pictures header no extension may stand
abbrev pub user_data_only : Grammar (List Loaded × Unit {0})
user_data_only = many (extension_or_user_data (λ byte. byte == USER_DATA) (λ identifier. false))

-- ---- the parts of a head

-- a sequence header, its extension, and what may follow them: in MPEG-1 the extension is missing
abbrev pub sequence_headers : Option SeqState → Grammar SeqState
sequence_headers before = do
  start_code BadHeader (λ byte. byte == SEQUENCE_HEADER)
  seq ← sequence_header before
  zero_bits BadHeader
  start_code NotMpeg2 (λ byte. byte == EXTENSION)
  uimsbf 4 (rule NotMpeg2 (λ identifier. identifier == SEQUENCE_EXTENSION) ∷ [])
  progressive ← sequence_extension before
  zero_bits BadHeader
  extensions_and_user_data (λ identifier. identifier == SEQUENCE_DISPLAY)
  done (record seq { progressive = progressive })

-- the state in force before the picture: that of a sequence header, which the first unit has, or the one before
abbrev pub sequence_part : Option SeqState → Grammar SeqState
sequence_part None = sequence_headers None
sequence_part (Some before) = if_next (StartCodeComes (λ byte. byte == SEQUENCE_HEADER)) (sequence_headers (Some before)) (done before)

-- a group of pictures header and user data, where such a header comes
abbrev pub group_part : Grammar (Unit {0})
group_part = if_next (StartCodeComes (λ byte. byte == GROUP)) (do
  start_code BadHeader (λ byte. byte == GROUP)
  group_header
  zero_bits BadHeader
  user_data_only
  done tt) (done tt)

-- a picture header, its extension, and what may follow them, which may load matrices
abbrev pub picture_part : SeqState → Grammar (SeqState × PicCoding)
picture_part seq = do
  start_code BadHeader (λ byte. byte == PICTURE)
  header ← picture_header
  zero_bits BadHeader
  start_code NotMpeg2 (λ byte. byte == EXTENSION)
  uimsbf 4 (rule NotMpeg2 (λ identifier. identifier == PICTURE_CODING) ∷ [])
  coding ← picture_coding_extension seq.progressive header.0 header.1
  zero_bits BadHeader
  loaded ← extensions_and_user_data (λ identifier. identifier == QUANT_MATRIX || identifier == COPYRIGHT || identifier == PICTURE_DISPLAY)
  done (fold with_loaded seq loaded.0, coding)

-- All headers of a unit, from its first bit to the end of what stands before the first slice: the state in force, and
-- how the picture is coded.
unfoldable pub head : Option SeqState → Grammar (SeqState × PicCoding)
head before = do
  seq ← sequence_part before
  group_part
  headers ← picture_part seq
  ahead (start_code BadHeader is_slice)
  done headers
