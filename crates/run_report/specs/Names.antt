-- The names of what refuses a program, of what an audit finds, and of what is wrong with a certificate.
use Rattle.std.specs.Prelude.{ℕ, List, codes}
use Rattle.program_reader.specs.declared.program_fault.SourceKind.{SourceKind}
use Rattle.program_reader.specs.declared.program_fault.SourceKind.TheVariants as kinds
use Rattle.certificate_checker.specs.declared.why.Why.{Why}
use Rattle.certificate_checker.specs.declared.why.Why.TheVariants as whys
use Rattle.stream_audit.specs.declared.finding.FaultName.{FaultName}
use Rattle.stream_audit.specs.declared.finding.FaultName.TheVariants as findings

-- the name of a kind of refusal
abbrev pub name_of_kind : SourceKind → List ℕ
name_of_kind kinds.ShortFile = codes "ShortFile"
name_of_kind kinds.Sync = codes "Sync"
name_of_kind kinds.ErrorFlag = codes "ErrorFlag"
name_of_kind kinds.Scrambled = codes "Scrambled"
name_of_kind kinds.BadField = codes "BadField"
name_of_kind kinds.Discontinuity = codes "Discontinuity"
name_of_kind kinds.Gap = codes "Gap"
name_of_kind kinds.BadSection = codes "BadSection"
name_of_kind kinds.BadCrc = codes "BadCrc"
name_of_kind kinds.NoPat = codes "NoPat"
name_of_kind kinds.NoProgram = codes "NoProgram"
name_of_kind kinds.NoPmt = codes "NoPmt"
name_of_kind kinds.NoVideo = codes "NoVideo"
name_of_kind kinds.PmtTooLong = codes "PmtTooLong"
name_of_kind kinds.BadStart = codes "BadStart"
name_of_kind kinds.BadPack = codes "BadPack"
name_of_kind kinds.BadPrefix = codes "BadPrefix"
name_of_kind kinds.Short = codes "Short"
name_of_kind kinds.BadMarker = codes "BadMarker"
name_of_kind kinds.BadLength = codes "BadLength"
name_of_kind kinds.NoSequence = codes "NoSequence"
name_of_kind kinds.NotMpeg2 = codes "NotMpeg2"
name_of_kind kinds.Profile = codes "Profile"
name_of_kind kinds.LowDelay = codes "LowDelay"
name_of_kind kinds.Size = codes "Size"
name_of_kind kinds.BadHeader = codes "BadHeader"
name_of_kind kinds.NoCode = codes "NoCode"
name_of_kind kinds.TooMany = codes "TooMany"
name_of_kind kinds.BadEscape = codes "BadEscape"
name_of_kind kinds.BadType = codes "BadType"
name_of_kind kinds.BadAddress = codes "BadAddress"
name_of_kind kinds.BadPattern = codes "BadPattern"
name_of_kind kinds.End = codes "End"
name_of_kind kinds.Uncovered = codes "Uncovered"
name_of_kind kinds.FieldPair = codes "FieldPair"
name_of_kind kinds.NoTime = codes "NoTime"
name_of_kind kinds.TimeOrder = codes "TimeOrder"
name_of_kind kinds.NotLayer2 = codes "NotLayer2"
name_of_kind kinds.AudioSync = codes "AudioSync"
name_of_kind kinds.NoAudioTime = codes "NoAudioTime"
name_of_kind kinds.NoPcr = codes "NoPcr"
name_of_kind kinds.ProgramLimit = codes "ProgramLimit"

-- the name of what an audit finds
abbrev pub name_of_finding : FaultName → List ℕ
name_of_finding findings.Pcr = codes "pcr"
name_of_finding findings.Overflow = codes "overflow"
name_of_finding findings.Old = codes "old"
name_of_finding findings.Late = codes "late"
name_of_finding findings.Full = codes "full"

-- the name of what is wrong with a certificate
abbrev pub name_of_why : Why → List ℕ
name_of_why whys.ChoiceLength = codes "ChoiceLength"
name_of_why whys.ChoiceVersion = codes "ChoiceVersion"
name_of_why whys.ChoiceMissed = codes "ChoiceMissed"
name_of_why whys.WrongDistortion = codes "WrongDistortion"
name_of_why whys.NoNode = codes "NoNode"
name_of_why whys.UnitRange = codes "UnitRange"
name_of_why whys.UnitFixed = codes "UnitFixed"
name_of_why whys.DueOrder = codes "DueOrder"
name_of_why whys.WindowEmpty = codes "WindowEmpty"
name_of_why whys.ProgramRange = codes "ProgramRange"
name_of_why whys.LambdaLimit = codes "LambdaLimit"
name_of_why whys.RunOpen = codes "RunOpen"
name_of_why whys.RunWrong = codes "RunWrong"
name_of_why whys.ExtraNode = codes "ExtraNode"
name_of_why whys.BoundHigh = codes "BoundHigh"
