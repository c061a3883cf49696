-- Report lines: one compact JSON object, its keys in the order of their bytes, and a line end.
use Rattle.std.specs.Prelude.{ℕ, Bool, true, false, if◌then◌else◌, List, [], ◌∷◌, ◌++◌, map, codes, ℤ, Option, Some, None}
use Rattle.serde_json.specs.Data.{Data, number, unsigned, string, array, object, Members, no_members, member}
use Rattle.serde_json.specs.Find.{of_integer}
use Rattle.serde_json.specs.View.{items_of}
use Rattle.serde_json.specs.Written.{compact_text}
use Rattle.job_report.specs.declared.report.ProgramReport.{ProgramReport}
use Rattle.job_report.specs.declared.report.Report.{Report}
use Rattle.job_report.specs.declared.report.SlotMiss.{SlotMiss}
use Rattle.job_report.specs.declared.report.SlotVerdict.{SlotVerdict}
use Rattle.job_report.specs.declared.report.Report.TheVariants.{
  Plan,
  Run,
  Probe,
  Check,
  Gen,
  ScheduledVerdict,
  NoRoomVerdict,
  OpenVerdict,
  AuditClean,
  Fit,
  Usage,
  TableSyntax,
  TableLimit,
  JobSyntax,
  JobField,
  JobLimit,
  ListSyntax,
  Source,
  Unschedulable,
  ReadFault,
  WriteFault,
  CertSyntax,
  CertFault,
  Missing,
  AuditFault,
  NoFit,
}

-- ---- values

-- a number, of decimal digits
abbrev pub json_number : ℕ → Data
json_number n = number (unsigned n)

-- a whole number, with a sign where it is negative
abbrev pub json_integer : ℤ → Data
json_integer n = number (of_integer n)

-- an array of numbers
abbrev pub json_numbers : List ℕ → Data
json_numbers numbers = array (items_of (map json_number numbers))

-- a text in quotes
abbrev pub text_of : List ℕ → Data
text_of text = string text

-- ---- objects

-- a key with its value
pub record JsonEntry : Type 0 where
  pub key : List ℕ
  pub value : Data

-- this value under this key
abbrev pub json_entry : List ℕ → Data → JsonEntry
json_entry key value = record { key = key; value = value }

-- entries as the members of an object
abbrev pub members_of : List JsonEntry → Members
members_of [] = no_members
members_of (first ∷ entries) = member first.key first.value (members_of entries)

-- the object that has these entries
abbrev pub object_of : List JsonEntry → Data
object_of entries = object (members_of entries)

-- ---- reports

-- what is said of a search: nothing better is scheduled, or its budget ended it
abbrev pub search_of : Bool → Data
search_of optimal = text_of (if optimal then codes "optimal" else codes "budget")

-- what is reported of one program of a run
abbrev pub program_object : ProgramReport → Data
program_object program = object_of (
    json_entry (codes "audio_bytes") (json_numbers program.audio_bytes)
    ∷ json_entry (codes "choice") (json_numbers program.choice)
    ∷ json_entry (codes "descriptors_dropped") (json_number program.descriptors_dropped)
    ∷ json_entry (codes "not_carried") (json_numbers program.not_carried)
    ∷ json_entry (codes "number") (json_number program.number)
    ∷ json_entry (codes "pes_dropped") (json_number program.pes_dropped)
    ∷ json_entry (codes "rest") (json_number program.rest)
    ∷ json_entry (codes "units_dropped") (json_number program.units_dropped)
    ∷ [])

-- a slot with its first miss
abbrev pub missed_object : (slot : ℕ) → SlotMiss → Data
missed_object slot miss = object_of (
    json_entry (codes "due") (json_number miss.due)
    ∷ json_entry (codes "packet_slot") (json_number miss.packet_slot)
    ∷ json_entry (codes "slot") (json_number slot)
    ∷ json_entry (codes "stream") (json_number miss.stream)
    ∷ json_entry (codes "unit") (json_number miss.unit)
    ∷ json_entry (codes "verdict") (text_of (codes "missed"))
    ∷ [])

-- a slot with its verdict alone
abbrev pub said_object : (slot : ℕ) → (verdict : List ℕ) → Data
said_object slot verdict = object_of (
    json_entry (codes "slot") (json_number slot)
    ∷ json_entry (codes "verdict") (text_of verdict)
    ∷ [])

-- what is said of a slot: that a time passes its limit; else its first miss; else that the smallest choice is scheduled
abbrev pub verdict_object : (slot : ℕ) → (limit : Bool) → (miss : Option SlotMiss) → Data
verdict_object slot true miss = said_object slot (codes "limit")
verdict_object slot false (Some miss) = missed_object slot miss
verdict_object slot false None = said_object slot (codes "scheduled")

-- the same, of its verdict
abbrev pub slot_object : SlotVerdict → Data
slot_object said = verdict_object said.slot said.limit said.miss

-- the object of a report
abbrev pub report_object : Report → Data
report_object (Plan bound choice distortion nodes optimal) = object_of (
    json_entry (codes "bound") (json_number bound)
    ∷ json_entry (codes "choice") (json_numbers choice)
    ∷ json_entry (codes "distortion") (json_number distortion)
    ∷ json_entry (codes "nodes") (json_number nodes)
    ∷ json_entry (codes "search") (search_of optimal)
    ∷ [])
report_object (Run bound distortion nodes programs optimal slots) = object_of (
    json_entry (codes "bound") (json_number bound)
    ∷ json_entry (codes "distortion") (json_number distortion)
    ∷ json_entry (codes "nodes") (json_number nodes)
    ∷ json_entry (codes "programs") (array (items_of (map program_object programs)))
    ∷ json_entry (codes "search") (search_of optimal)
    ∷ json_entry (codes "slots") (json_number slots)
    ∷ [])
report_object (Probe audio_packets units) = object_of (
    json_entry (codes "audio_packets") (json_numbers audio_packets)
    ∷ json_entry (codes "units") (json_number units)
    ∷ [])
report_object (Check bound) = object_of (
    json_entry (codes "bound") (json_number bound)
    ∷ json_entry (codes "verdict") (text_of (codes "yes"))
    ∷ [])
report_object (Gen bytes pictures) = object_of (
    json_entry (codes "bytes") (json_number bytes)
    ∷ json_entry (codes "pictures") (json_number pictures)
    ∷ [])
report_object ScheduledVerdict = object_of (
    json_entry (codes "verdict") (text_of (codes "scheduled"))
    ∷ [])
report_object (NoRoomVerdict due from needed room) = object_of (
    json_entry (codes "due") (json_number due)
    ∷ json_entry (codes "from") (json_number from)
    ∷ json_entry (codes "needed") (json_number needed)
    ∷ json_entry (codes "room") (json_integer room)
    ∷ json_entry (codes "verdict") (text_of (codes "none"))
    ∷ [])
report_object OpenVerdict = object_of (
    json_entry (codes "verdict") (text_of (codes "open"))
    ∷ [])
report_object AuditClean = object_of (
    json_entry (codes "audit") (text_of (codes "clean"))
    ∷ [])
report_object (Fit fit slots) = object_of (
    json_entry (codes "fit") (json_number fit)
    ∷ json_entry (codes "slots") (array (items_of (map slot_object slots)))
    ∷ [])
report_object Usage = object_of (
    json_entry (codes "reason") (text_of (codes "usage"))
    ∷ json_entry (codes "status") (json_number 2)
    ∷ [])
report_object (TableSyntax line) = object_of (
    json_entry (codes "line") (json_number line)
    ∷ json_entry (codes "reason") (text_of (codes "table syntax"))
    ∷ json_entry (codes "status") (json_number 3)
    ∷ [])
report_object (TableLimit name) = object_of (
    json_entry (codes "name") (text_of name.bytes)
    ∷ json_entry (codes "reason") (text_of (codes "table limit"))
    ∷ json_entry (codes "status") (json_number 3)
    ∷ [])
report_object JobSyntax = object_of (
    json_entry (codes "reason") (text_of (codes "job syntax"))
    ∷ json_entry (codes "status") (json_number 3)
    ∷ [])
report_object (JobField name) = object_of (
    json_entry (codes "name") (text_of name.bytes)
    ∷ json_entry (codes "reason") (text_of (codes "job field"))
    ∷ json_entry (codes "status") (json_number 3)
    ∷ [])
report_object (JobLimit name) = object_of (
    json_entry (codes "name") (text_of name.bytes)
    ∷ json_entry (codes "reason") (text_of (codes "job limit"))
    ∷ json_entry (codes "status") (json_number 3)
    ∷ [])
report_object (ListSyntax line) = object_of (
    json_entry (codes "line") (json_number line)
    ∷ json_entry (codes "reason") (text_of (codes "list"))
    ∷ json_entry (codes "status") (json_number 3)
    ∷ [])
report_object (Source at kind program) = object_of (
    json_entry (codes "at") (json_number at)
    ∷ json_entry (codes "kind") (text_of kind.bytes)
    ∷ json_entry (codes "program") (json_number program)
    ∷ json_entry (codes "reason") (text_of (codes "source"))
    ∷ json_entry (codes "status") (json_number 4)
    ∷ [])
report_object (Unschedulable due slot stream unit) = object_of (
    json_entry (codes "due") (json_number due)
    ∷ json_entry (codes "reason") (text_of (codes "unschedulable"))
    ∷ json_entry (codes "slot") (json_number slot)
    ∷ json_entry (codes "status") (json_number 5)
    ∷ json_entry (codes "stream") (json_number stream)
    ∷ json_entry (codes "unit") (json_number unit)
    ∷ [])
report_object (ReadFault name) = object_of (
    json_entry (codes "name") (text_of name)
    ∷ json_entry (codes "reason") (text_of (codes "read"))
    ∷ json_entry (codes "status") (json_number 6)
    ∷ [])
report_object (WriteFault name) = object_of (
    json_entry (codes "name") (text_of name)
    ∷ json_entry (codes "reason") (text_of (codes "write"))
    ∷ json_entry (codes "status") (json_number 7)
    ∷ [])
report_object (CertSyntax byte) = object_of (
    json_entry (codes "byte") (json_number byte)
    ∷ json_entry (codes "reason") (text_of (codes "certificate"))
    ∷ json_entry (codes "status") (json_number 8)
    ∷ [])
report_object (CertFault node why) = object_of (
    json_entry (codes "node") (json_number node)
    ∷ json_entry (codes "reason") (text_of (codes "certificate"))
    ∷ json_entry (codes "status") (json_number 8)
    ∷ json_entry (codes "why") (text_of why.bytes)
    ∷ [])
report_object (Missing name) = object_of (
    json_entry (codes "name") (text_of name)
    ∷ json_entry (codes "reason") (text_of (codes "missing"))
    ∷ json_entry (codes "status") (json_number 9)
    ∷ [])
report_object (AuditFault at fault pid) = object_of (
    json_entry (codes "at") (json_number at)
    ∷ json_entry (codes "fault") (text_of fault.bytes)
    ∷ json_entry (codes "pid") (json_number pid)
    ∷ json_entry (codes "reason") (text_of (codes "audit"))
    ∷ json_entry (codes "status") (json_number 11)
    ∷ [])
report_object (NoFit slots) = object_of (
    json_entry (codes "reason") (text_of (codes "no fit"))
    ∷ json_entry (codes "slots") (array (items_of (map slot_object slots)))
    ∷ json_entry (codes "status") (json_number 12)
    ∷ [])

-- the line of a report: its object as compact JSON, and a line end
abbrev pub report_line : Report → List ℕ
report_line report = compact_text (report_object report) ++ codes "\n"
