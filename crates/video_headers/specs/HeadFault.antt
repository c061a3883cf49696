-- What a fault tells of the bits that were refused.
use Rattle.std.specs.Prelude.{Option, Some, None}
use Rattle.picture_grammar.specs.Refusal.{Refusal}
use Rattle.grammar_reading.specs.BitsRead.{PlacedRefusal}
use Rattle.video_headers.specs.declared.fault.HeadFault.{HeadFault}
use Rattle.video_headers.specs.declared.fault.HeadFault.TheVariants.{BadHeader, NotMpeg2, Profile, LowDelay, Size, End, Outside}

-- the kind and the place of their refusal, and nothing where the source failed
abbrev pub refusal_told : HeadFault → Option PlacedRefusal
refusal_told (BadHeader at) = Some (record { refusal = Refusal.BadHeader; at = at })
refusal_told (NotMpeg2 at) = Some (record { refusal = Refusal.NotMpeg2; at = at })
refusal_told (Profile at) = Some (record { refusal = Refusal.Profile; at = at })
refusal_told (LowDelay at) = Some (record { refusal = Refusal.LowDelay; at = at })
refusal_told (Size at) = Some (record { refusal = Refusal.Size; at = at })
refusal_told (End at) = Some (record { refusal = Refusal.End; at = at })
refusal_told (Outside fault) = None
