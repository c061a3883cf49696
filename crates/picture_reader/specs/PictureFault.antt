-- What a fault tells of the bits that were refused.
use Rattle.std.specs.Prelude.{Option, Some, None}
use Rattle.picture_grammar.specs.Refusal.{Refusal}
use Rattle.grammar_reading.specs.BitsRead.{PlacedRefusal}
use Rattle.picture_reader.specs.declared.fault.PictureFault.{PictureFault}
use Rattle.picture_reader.specs.declared.fault.PictureFault.TheVariants.{
  NoCode,
  TooMany,
  BadEscape,
  BadType,
  BadAddress,
  BadPattern,
  End,
  Uncovered,
  BadHeader,
  NotMpeg2,
  Profile,
  LowDelay,
  Size,
  OutOfMemory,
}

-- the kind and the place of their refusal, and nothing where memory was wanted
abbrev pub refusal_told : PictureFault → Option PlacedRefusal
refusal_told (NoCode at) = Some (record { refusal = Refusal.NoCode; at = at })
refusal_told (TooMany at) = Some (record { refusal = Refusal.TooMany; at = at })
refusal_told (BadEscape at) = Some (record { refusal = Refusal.BadEscape; at = at })
refusal_told (BadType at) = Some (record { refusal = Refusal.BadType; at = at })
refusal_told (BadAddress at) = Some (record { refusal = Refusal.BadAddress; at = at })
refusal_told (BadPattern at) = Some (record { refusal = Refusal.BadPattern; at = at })
refusal_told (End at) = Some (record { refusal = Refusal.End; at = at })
refusal_told (Uncovered at) = Some (record { refusal = Refusal.Uncovered; at = at })
refusal_told (BadHeader at) = Some (record { refusal = Refusal.BadHeader; at = at })
refusal_told (NotMpeg2 at) = Some (record { refusal = Refusal.NotMpeg2; at = at })
refusal_told (Profile at) = Some (record { refusal = Refusal.Profile; at = at })
refusal_told (LowDelay at) = Some (record { refusal = Refusal.LowDelay; at = at })
refusal_told (Size at) = Some (record { refusal = Refusal.Size; at = at })
refusal_told OutOfMemory = None
