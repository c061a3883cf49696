-- Worked examples, computed from the definitions.
use Rattle.std.proofs.Common.{◌≡◌, List, [], ◌∷◌, Some, None, codes, refl}
use Rattle.std.specs.Fmt.{digits}
use Rattle.version_table.specs.declared.fault.Limit.TheVariants as limits
use Rattle.version_table.specs.declared.line.Line.{Line}
use Rattle.version_table.specs.declared.line.Line.TheVariants.{Title, Slot, Nodes, Evaluations, Program, Unit as UnitLine, Audio, Packet}
use Rattle.version_table.specs.declared.table.Table.{Table}
use Rattle.version_table.specs.Lines.{text_of_line}
use Rattle.version_table.specs.Limits.{first_limit, tests_of}
use Rattle.version_table.specs.Text.{table_spelling}

example : Table
example = record {
  slot = 4000;
  nodes = 1;
  evaluations = 0;
  programs = record {
    vbv = 112;
    units = record { due = 27200; versions = record { items = record { bytes = 552; distortion = 0 } ∷ record { bytes = 368; distortion = 10 } ∷ [] } } ∷ [];
    audios = (record { due = 71352; gone = 71353; bytes = 184 } ∷ []) ∷ [] ∷ [];
  } ∷ [];
}

spelling_example : table_spelling example ≡ codes "remux table 1\nslot 4000\nnodes 1\nevaluations 0\nprogram 112\nunit 27200 552:0 368:10\naudio\npacket 71352 71353 184\naudio\n"
unfolding text_of_line digits example
spelling_example = refl

-- a slot of 1015 ticks is too short, one of 1016 isn't
short_slot : first_limit (Title ∷ []) (Slot 1015) ≡ Some limits.Slot
unfolding tests_of
short_slot = refl

least_slot : first_limit (Title ∷ []) (Slot 1016) ≡ None
unfolding tests_of
least_slot = refl

-- a ninth program is one too many, whatever its buffer is
ninth_program : first_limit (Title ∷ Slot 4000 ∷ Nodes 1 ∷ Evaluations 0 ∷ Program 1 ∷ Program 1 ∷ Program 1 ∷ Program 1 ∷ Program 1 ∷ Program 1
    ∷ Program 1 ∷ Program 1 ∷ []) (Program 0) ≡ Some limits.Programs
unfolding tests_of
ninth_program = refl

-- a packet that leaves before it is due
early_packet : first_limit (Title ∷ Slot 4000 ∷ Nodes 1 ∷ Evaluations 0 ∷ Program 112 ∷ Audio ∷ []) (Packet 10 9 185) ≡ Some limits.Gone
unfolding tests_of
early_packet = refl

-- equal due times of units
equal_dues : first_limit (Title ∷ Slot 4000 ∷ Nodes 1 ∷ Evaluations 0 ∷ Program 112
    ∷ UnitLine 10 (record { items = record { bytes = 1; distortion = 0 } ∷ [] }) ∷ [])
    (UnitLine 10 (record { items = record { bytes = 1; distortion = 0 } ∷ [] })) ≡ Some limits.Due
unfolding tests_of
equal_dues = refl

-- the greatest distortion of a unit counts, whichever of its versions has it: with those of the units before it, it stays below 2^63
behind_large : List Line
behind_large =
    Title ∷ Slot 4000 ∷ Nodes 1 ∷ Evaluations 0 ∷ Program 112
    ∷ UnitLine 10 (record { items = record { bytes = 9; distortion = 0 } ∷ record { bytes = 5; distortion = 9223372036854775798 } ∷ record { bytes = 4; distortion = 7 } ∷ [] }) ∷ []

most_distortions : first_limit behind_large (UnitLine 11 (record { items = record { bytes = 2; distortion = 9 } ∷ record { bytes = 1; distortion = 1 } ∷ [] })) ≡ None
unfolding tests_of behind_large
most_distortions = refl

distortions_too_many : first_limit behind_large (UnitLine 11 (record { items = record { bytes = 2; distortion = 1 } ∷ record { bytes = 1; distortion = 10 } ∷ [] })) ≡ Some limits.Distortions
unfolding tests_of behind_large
distortions_too_many = refl

-- the limits of the unit's versions come first
distortion_before_distortions : first_limit behind_large (UnitLine 11 (record { items = record { bytes = 1; distortion = 281474976710656 } ∷ [] })) ≡ Some limits.Distortion
unfolding tests_of behind_large
distortion_before_distortions = refl

-- a due time is at most 2,147,483,648 slots
latest_due : first_limit (Title ∷ Slot 4000 ∷ Nodes 1 ∷ Evaluations 0 ∷ Program 112 ∷ []) (UnitLine 8589934592000 (record { items = record { bytes = 1; distortion = 0 } ∷ [] })) ≡ None
unfolding tests_of
latest_due = refl

later_due : first_limit (Title ∷ Slot 4000 ∷ Nodes 1 ∷ Evaluations 0 ∷ Program 112 ∷ []) (UnitLine 8589934592001 (record { items = record { bytes = 1; distortion = 0 } ∷ [] })) ≡ Some limits.Due
unfolding tests_of
later_due = refl
