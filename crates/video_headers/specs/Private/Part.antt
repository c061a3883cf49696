-- What may stand behind a header, and its identifiers.
use Rattle.std.specs.Prelude.{◌≡◌, ◌<◌, ◌^◌, ◌==◌, ◌||◌, ℕ, not, Bool, true, false, Option, Some, None, Result, Ok, Err, List, [], ◌∷◌, ◌++◌}
use Rattle.shelf_io.specs.declared.source.Source.{Ghosts}
use Rattle.bit_lists.specs.Bits.{bits_of}
use Rattle.bit_cursor.specs.declared.bit_reader.BitReader.{BitReader}
use Rattle.stream_constants.specs.declared.start_codes.TheConstants.{USER_DATA, EXTENSION, SEQUENCE_DISPLAY, QUANT_MATRIX, COPYRIGHT, PICTURE_DISPLAY}
use Rattle.picture_grammar.specs.Refusal.Refusal.{BadHeader, Profile}
use Rattle.picture_grammar.specs.Grammar.{Grammar}
use Rattle.picture_grammar.specs.Element.{uimsbf, rule}
use Rattle.picture_grammar.specs.Head.{is_scalable}
use Rattle.video_headers.specs.declared.fault.HeadFault.{HeadFault}
use Rattle.video_headers.specs.declared.fault.HeadFault.TheVariants as fault
use Rattle.video_headers.specs.declared.part.Part.{Part}
use Rattle.video_headers.specs.declared.part.Part.TheVariants.{Sequence, Group, Picture}
use Rattle.video_headers.specs.Private.Reading.{Rests}
use Rattle.video_headers.specs.Private.Wholes.{Wholes}

-- the start codes that may come
abbrev pub codes_of : Part → ℕ → Bool
codes_of Sequence = λ byte. byte == EXTENSION || byte == USER_DATA
codes_of Group = λ byte. byte == USER_DATA
codes_of Picture = λ byte. byte == EXTENSION || byte == USER_DATA

-- the identifiers of its extensions
abbrev pub identifiers_of : Part → ℕ → Bool
identifiers_of Sequence = λ identifier. identifier == SEQUENCE_DISPLAY
identifiers_of Group = λ identifier. false
identifiers_of Picture = λ identifier. identifier == QUANT_MATRIX || identifier == COPYRIGHT || identifier == PICTURE_DISPLAY

-- it has extensions
abbrev pub has_extensions : Part → Bool
has_extensions Sequence = true
has_extensions Group = false
has_extensions Picture = true

-- the identifier of an extension
abbrev pub identifier : (ℕ → Bool) → Grammar ℕ
identifier may_come = uimsbf 4 (rule Profile (λ number. not (is_scalable number)) ∷ rule BadHeader may_come ∷ [])

-- four bits were taken, or none are left
abbrev pub FourTaken : {S : Type 0} {g : Ghosts S} → Option ℕ → BitReader S g → ℕ → List ℕ → Type 0
FourTaken None reader end bits = bits ≡ []
FourTaken (Some number) reader end bits = (behind : List ℕ) × (number < 2 ^ 4) × (bits ≡ bits_of 4 number ++ behind) × Rests reader end behind

-- an identifier that isn't of another profile and is allowed, or its refusal
abbrev pub checked_number : Bool → Bool → ℕ → ℕ → Result ℕ HeadFault
checked_number true allowed number at = Err (fault.Profile at)
checked_number false true number at = Ok number
checked_number false false number at = Err (fault.BadHeader at)

-- the same of four bits or of none
abbrev pub checked : Option ℕ → Part → ℕ → Result ℕ HeadFault
checked None part at = Err (fault.End at)
checked (Some number) part at = checked_number (is_scalable number) (identifiers_of part number) number at
