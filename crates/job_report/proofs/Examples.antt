-- Worked examples of job texts, computed from the definitions.
use Rattle.std.proofs.Common.{◌≡◌, ◌≤◌, ℕ, List, [], ◌∷◌, ◌++◌, length, Option, Some, None, option_map, codes, false, refl, sym, ◌∙◌, inl, lit≤, arith, pos}
use Rattle.std.specs.Fmt.{digits}
use Rattle.std.specs.Char.{encode_utf8}
use Rattle.std.specs.Str.{is_utf8, chars}
use Rattle.std.proofs.lemmas.Bool.{false≢true}
use Rattle.std.proofs.lemmas.Str.{is_utf8-from_IsUtf8}
use Rattle.toml.specs.Data.{string, integer, array, table, no_items, item, Members, no_members, member}
use Rattle.toml.specs.Parse.{parse_document}
use Rattle.toml.proofs.OnLiterals.{toml_on_literals}
use Rattle.job_report.specs.declared.job.Form.TheVariants.{Ts}
use Rattle.job_report.specs.declared.job.ProgramJob.{ProgramJob}
use Rattle.job_report.specs.Job.{IsJobOf}
use Rattle.job_report.specs.JobText.{HasAnswer, NoDocument, Refused}
use Rattle.job_report.specs.SharedFile.{refusals_of_files}
use Rattle.job_report.specs.Refusal.{FieldRefusal, OfField, OfLimit, refusals_of, refusals_of_field, refusals_of_names, place_of_program, first_refusal}

-- what refuses the document that a text is, if it is one
abbrev first_of : List ℕ → Option (Option FieldRefusal)
first_of text = option_map (λ document. first_refusal (refusals_of document)) (parse_document text)

-- what stands before the fields of a program that has what is required
abbrev job : List ℕ
job = codes "slot = 4000\n[[program]]\nfile = \"a.ts\"\nprogram = 1\nnumber = 1\n"

-- a second program
abbrev second : List ℕ
second = codes "[[program]]\nfile = \"b.ts\"\nprogram = 1\nnumber = 2\n"

-- an empty text is a document, and has no slot
empty : first_of [] ≡ Some (Some (OfField (codes "slot")))
unfolding toml_on_literals refusals_of_field refusals_of_names place_of_program digits
empty = refl

-- a slot alone
slot_alone : first_of (codes "slot = 4000\n") ≡ Some (Some (OfField (codes "program")))
unfolding toml_on_literals refusals_of_field refusals_of_names place_of_program digits
slot_alone = refl

-- what is required
least : first_of job ≡ Some None
unfolding toml_on_literals refusals_of_field refusals_of_names place_of_program digits
least = refl

-- two programs
two_programs : first_of (job ++ second) ≡ Some None
unfolding toml_on_literals refusals_of_field refusals_of_names place_of_program digits
two_programs = refl

-- a slot of text type
text_slot : first_of (codes "slot = \"4000\"\n") ≡ Some (Some (OfField (codes "slot")))
unfolding toml_on_literals refusals_of_field refusals_of_names place_of_program digits
text_slot = refl

-- a float is of another type
float_slot : first_of (codes "slot = 4000.0\n") ≡ Some (Some (OfField (codes "slot")))
unfolding toml_on_literals refusals_of_field refusals_of_names place_of_program digits
float_slot = refl

-- a negative number is a number, out of range
negative_slot : first_of (codes "slot = -4000\n") ≡ Some (Some (OfLimit (codes "slot")))
unfolding toml_on_literals refusals_of_field refusals_of_names place_of_program digits
negative_slot = refl

-- the least slot is 1016 ticks
short_slot : first_of (codes "slot = 1015\n") ≡ Some (Some (OfLimit (codes "slot")))
unfolding toml_on_literals refusals_of_field refusals_of_names place_of_program digits
short_slot = refl

-- a start past two seconds
late_start : first_of (codes "slot = 4000\nstart = 54000001\n") ≡ Some (Some (OfLimit (codes "start")))
unfolding toml_on_literals refusals_of_field refusals_of_names place_of_program digits
late_start = refl

-- a date
date_start : first_of (codes "slot = 4000\nstart = 2026-11-27\n") ≡ Some (Some (OfField (codes "start")))
unfolding toml_on_literals refusals_of_field refusals_of_names place_of_program digits
date_start = refl

-- no node at all, which goes before what is wrong with evaluations
no_nodes : first_of (codes "slot = 4000\nevaluations = \"many\"\nnodes = 0\n") ≡ Some (Some (OfLimit (codes "nodes")))
unfolding toml_on_literals refusals_of_field refusals_of_names place_of_program digits
no_nodes = refl

-- a table in place of an array
program_table : first_of (codes "slot = 4000\n[program]\nfile = \"a.ts\"\n") ≡ Some (Some (OfField (codes "program")))
unfolding toml_on_literals refusals_of_field refusals_of_names place_of_program digits
program_table = refl

-- an array of no programs
no_programs : first_of (codes "slot = 4000\nprogram = []\n") ≡ Some (Some (OfLimit (codes "program")))
unfolding toml_on_literals refusals_of_field refusals_of_names place_of_program digits
no_programs = refl

-- an array with one item that is no table
numbers_for_programs : first_of (codes "slot = 4000\nprogram = [{}, 1]\n") ≡ Some (Some (OfField (codes "program")))
unfolding toml_on_literals refusals_of_field refusals_of_names place_of_program digits
numbers_for_programs = refl

-- an unknown field of the job goes before those of its programs
unknown_top : first_of (codes "slot = 4000\nslots = 1\n[[program]]\n") ≡ Some (Some (OfField (codes "unknown")))
unfolding toml_on_literals refusals_of_field refusals_of_names place_of_program digits
unknown_top = refl

-- a program without a file
no_file : first_of (codes "slot = 4000\n[[program]]\n") ≡ Some (Some (OfField (codes "program[0].file")))
unfolding toml_on_literals refusals_of_field refusals_of_names place_of_program digits
no_file = refl

-- an empty name
empty_file : first_of (codes "slot = 4000\n[[program]]\nfile = \"\"\n") ≡ Some (Some (OfLimit (codes "program[0].file")))
unfolding toml_on_literals refusals_of_field refusals_of_names place_of_program digits
empty_file = refl

-- an unknown field of a program goes behind its known ones
unknown_in_program : first_of (job ++ codes "weigth = 2\nweight = 1.5\n") ≡ Some (Some (OfField (codes "program[0].weight")))
unfolding toml_on_literals refusals_of_field refusals_of_names place_of_program digits
unknown_in_program = refl

-- an unknown field of the second program
unknown_in_second : first_of (job ++ second ++ codes "weigth = 2\n") ≡ Some (Some (OfField (codes "program[1].unknown")))
unfolding toml_on_literals refusals_of_field refusals_of_names place_of_program digits
unknown_in_second = refl

-- a weight of 101
heavy : first_of (job ++ codes "weight = 101\n") ≡ Some (Some (OfLimit (codes "program[0].weight")))
unfolding toml_on_literals refusals_of_field refusals_of_names place_of_program digits
heavy = refl

-- a list with one item of another type, whatever the others are
wrong_item : first_of (job ++ codes "coarser = [1, \"32\"]\n") ≡ Some (Some (OfField (codes "program[0].coarser")))
unfolding toml_on_literals refusals_of_field refusals_of_names place_of_program digits
wrong_item = refl

-- a list that does not rise strictly
level_coarser : first_of (job ++ codes "coarser = [24, 24]\n") ≡ Some (Some (OfLimit (codes "program[0].coarser")))
unfolding toml_on_literals refusals_of_field refusals_of_names place_of_program digits
level_coarser = refl

-- a list of eight numbers
eight_coarser : first_of (job ++ codes "coarser = [17, 18, 19, 20, 21, 22, 23, 24]\n") ≡ Some (Some (OfLimit (codes "program[0].coarser")))
unfolding toml_on_literals refusals_of_field refusals_of_names place_of_program digits
eight_coarser = refl

-- an empty list is one
empty_coarser : first_of (job ++ codes "coarser = []\n") ≡ Some None
unfolding toml_on_literals refusals_of_field refusals_of_names place_of_program digits
empty_coarser = refl

-- a drift of 16, and of 17
most_drift : first_of (job ++ codes "drift = 16\n") ≡ Some None
unfolding toml_on_literals refusals_of_field refusals_of_names place_of_program digits
most_drift = refl

far_drift : first_of (job ++ codes "drift = 17\n") ≡ Some (Some (OfLimit (codes "program[0].drift")))
unfolding toml_on_literals refusals_of_field refusals_of_names place_of_program digits
far_drift = refl

-- it goes before what is wrong with `drop`, and behind what is wrong with `coarser`
drift_in_order : first_of (job ++ codes "drop = [-1]\ndrift = \"6\"\n") ≡ Some (Some (OfField (codes "program[0].drift")))
unfolding toml_on_literals refusals_of_field refusals_of_names place_of_program digits
drift_in_order = refl

coarser_before_drift : first_of (job ++ codes "drift = \"6\"\ncoarser = [16]\n") ≡ Some (Some (OfLimit (codes "program[0].coarser")))
unfolding toml_on_literals refusals_of_field refusals_of_names place_of_program digits
coarser_before_drift = refl

-- PIDs in any order
falling_pids : first_of (job ++ codes "drop = [8191, 0, 0]\n") ≡ Some None
unfolding toml_on_literals refusals_of_field refusals_of_names place_of_program digits
falling_pids = refl

-- a negative PID
negative_pid : first_of (job ++ codes "drop = [-1]\n") ≡ Some (Some (OfLimit (codes "program[0].drop")))
unfolding toml_on_literals refusals_of_field refusals_of_names place_of_program digits
negative_pid = refl

-- a program stream
program_stream : first_of (job ++ codes "form = \"ps\"\n") ≡ Some None
unfolding toml_on_literals refusals_of_field refusals_of_names place_of_program digits
program_stream = refl

-- another text is out of range, as is one in capitals
other_form : first_of (job ++ codes "form = \"PS\"\n") ≡ Some (Some (OfLimit (codes "program[0].form")))
unfolding toml_on_literals refusals_of_field refusals_of_names place_of_program digits
other_form = refl

-- a number is of another type, and goes behind what is wrong with `drop`
number_for_form : first_of (job ++ codes "form = 1\n") ≡ Some (Some (OfField (codes "program[0].form")))
unfolding toml_on_literals refusals_of_field refusals_of_names place_of_program digits
number_for_form = refl

drop_before_form : first_of (job ++ codes "form = 1\ndrop = [-1]\n") ≡ Some (Some (OfLimit (codes "program[0].drop")))
unfolding toml_on_literals refusals_of_field refusals_of_names place_of_program digits
drop_before_form = refl

-- two programs of one number
same_numbers : first_of (job ++ codes "[[program]]\nfile = \"b.ts\"\nprogram = 2\nnumber = 1\n") ≡ Some (Some (OfLimit (codes "program[1].number")))
unfolding toml_on_literals refusals_of_field refusals_of_names place_of_program digits
same_numbers = refl

-- line ends of two bytes
line_ends : first_of (codes "slot = 4000\r\nslots = 1\r\nprogram = [{}]\r\n") ≡ Some (Some (OfField (codes "unknown")))
unfolding toml_on_literals refusals_of_field refusals_of_names place_of_program digits
line_ends = refl

-- a carriage return that ends no line
bare_carriage_return : first_of (codes "slot = 4000\r") ≡ None
unfolding toml_on_literals refusals_of_field refusals_of_names place_of_program digits
bare_carriage_return = refl

-- a byte order mark is passed over
byte_order_mark : first_of (0xEF ∷ 0xBB ∷ 0xBF ∷ codes "slot = 4000\n") ≡ Some (Some (OfField (codes "program")))
unfolding toml_on_literals refusals_of_field refusals_of_names place_of_program digits
byte_order_mark = refl

-- a field that stands twice makes no document
twice : first_of (codes "slot = 4000\nslot = 4000\n") ≡ None
unfolding toml_on_literals refusals_of_field refusals_of_names place_of_program digits
twice = refl

-- no value behind a name
not_toml : first_of (codes "slot =\n") ≡ None
unfolding toml_on_literals refusals_of_field refusals_of_names place_of_program digits
not_toml = refl

-- ---- texts that no document of fields refuses

-- bytes that aren't UTF-8
not_utf8 : HasAnswer (115 ∷ 0xFF ∷ []) NoDocument
unfolding is_utf8 chars encode_utf8
not_utf8 = record {
  short = lit≤ tt;
  none = λ document spelled.
      let fails : is_utf8 (115 ∷ 0xFF ∷ []) ≡ false = refl in
      false≢true (sym fails ∙ is_utf8-from_IsUtf8 (115 ∷ 0xFF ∷ []) spelled.utf8);
}

-- one byte too many, whatever the text is
too_long : (text : List ℕ) → 1048577 ≤ length text → HasAnswer text (Refused (OfLimit (codes "bytes")))
too_long text long = inl (omega arith, refl)

-- ---- what is stated

abbrev program : Members
program = member (codes "coarser") (array (item (integer (pos 17)) no_items))
    (member (codes "file") (string (codes "a.ts")) (member (codes "number") (integer (pos 7))
    (member (codes "program") (integer (pos 1)) no_members)))

abbrev document : Members
document = member (codes "program") (array (item (table program) no_items)) (member (codes "slot") (integer (pos 4000)) no_members)

-- a text with what is required and one field more
stated_text : parse_document (codes "slot = 4000\n[[program]]\nfile = \"a.ts\"\nprogram = 1\nnumber = 7\ncoarser = [17]\n") ≡ Some document
unfolding toml_on_literals
stated_text = refl

abbrev stated_program : ProgramJob
stated_program = record { file = codes "a.ts"; program = 1; number = 7; weight = 1; coarser = record { items = 17 ∷ [] }; drift = 0; drop = record { items = [] }; form = Ts }

-- and the job that it states
stated_job : IsJobOf document (record { slot = 4000; start = 13500000; stream_id = 1; nodes = 1000; evaluations = 1000; programs = stated_program ∷ [] })
stated_job = record {
  slot = refl;
  start = refl;
  stream_id = refl;
  nodes = refl;
  evaluations = refl;
  programs = (record { file = refl; program = refl; number = refl; weight = refl; coarser = refl; drift = refl; drop = refl; form = refl }, tt);
}

-- the file of the second program is the third one that the command names
shared_file : refusals_of_files (codes "job.toml" ∷ codes "out.ts" ∷ codes "cert" ∷ []) 0
    (record stated_program { file = codes "outs.ts" } ∷ record stated_program { file = codes "cert" } ∷ []) ≡ OfField (codes "program[1].file") ∷ []
unfolding place_of_program digits
shared_file = refl
