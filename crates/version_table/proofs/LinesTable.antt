-- A table whose lines stand in order and keep all limits is one that a text may hold.
use Rattle.std.proofs.Common.{◌≡◌, ℕ, ◌+◌, ◌<◌, ◌≤◌, true, List, [], ◌∷◌, ◌++◌, length, map, count_by, sum_by, All, Option, Some, refl, sym, ap, ◌∙◌, arith}
use Rattle.std.specs.List.{flat_map}
use Rattle.std.proofs.lemmas.Bool.{ltb-true}
use Rattle.std.proofs.lemmas.List.{length-append, length-map}
use Rattle.std.proofs.lemmas.List.Sums.{sum_by-cons, sum_by-append, sum_by_push}
use Rattle.std.proofs.lemmas.List.Elements.{All-nil, All-cons, All-head, All-tail, All-weaker}
use Rattle.version_table.specs.declared.limits.TheConstants.{PROGRAMS_MOST, AUDIOS_MOST, UNITS_MOST, DISTORTIONS_LIMIT, TABLE_TEXT_MOST, TEXT_AUDIO_PACKETS_MOST}
use Rattle.version_table.specs.declared.line.Line.{Line}
use Rattle.version_table.specs.declared.line.Line.TheVariants.{Nodes, Evaluations, Program, Audio}
use Rattle.version_table.specs.declared.table.Unit.{Unit as CodedUnit}
use Rattle.version_table.specs.declared.table.AudioPacket.{AudioPacket}
use Rattle.version_table.specs.declared.table.ProgramRow.{ProgramRow}
use Rattle.version_table.specs.declared.table.Table.{Table}
use Rattle.version_table.specs.Table.{greatest_distortion, IsValidVersion, IsValidUnit, IsValidPacket, IsValidAudio, IsValidProgram}
use Rattle.version_table.specs.Lines.{stated, line_of_unit, line_of_packet, lines_of_audio, lines_of_program, lines_of_table}
use Rattle.version_table.specs.Order.{last_line, HasSyntax, IsForm}
use Rattle.version_table.specs.Limits.{is_program, is_unit, begins_audio, is_packet, audios_here, is_due_later, packet_due, packet_gone, greatest_stated, KeepLimits}
use Rattle.version_table.specs.Text.{IsTextTable, table_spelling}
use Rattle.version_table.proofs.Greatest.{greatest_of_unit}
use Rattle.version_table.proofs.Kept.{KeepsVersion, keeps_from}
use Rattle.version_table.proofs.Counts.{last_line_push, count-append, count_push, count_none, audios_here-append, audios_here_push}
use Rattle.version_table.proofs.Openings.{Walk, walk_from, walk_parts}
use Rattle.version_table.proofs.Rising.{Adjacent, adjacent_rising, adjacent_steady}
use Rattle.version_table.proofs.TableLines.{Good, behind, RisesTo, ComesTo, packets_of, packets_in_stream, audios_in_stream, program_adds, units_in, packets_in}

All-from_map : {X Y : Type 0} (P : Y → Type 0) (f : X → Y) (xs : List X) → All P (map f xs) → All (λ x. P (f x)) xs
All-from_map P f [] each = All-nil (λ x. P (f x))
All-from_map P f (x ∷ xs) each = All-cons (λ x. P (f x)) x xs (All-head P (f x) (map f xs) each) (All-from_map P f xs (All-tail P (f x) (map f xs) each))

-- ---- units

record UnitsKept (slot : ℕ) (before : List Line) (units : List CodedUnit) : Type 0 where
  each : All (IsValidUnit slot) units
  first : RisesTo (last_line before) units
  rising : Adjacent ◌<◌ (map (λ unit. unit.due) units)
  few : count_by is_unit before + length units ≤ UNITS_MOST
  room : sum_by greatest_stated before + sum_by greatest_distortion units < DISTORTIONS_LIMIT

one_unit_kept : (slot : ℕ) (more : List Line) (unit : CodedUnit) → Good (behind slot more) (line_of_unit unit) → IsValidUnit slot unit
unfolding HasSyntax
one_unit_kept slot more unit good =
    let versions = unit.versions.items in
    let len = length-map versions stated in
    let keeps = good.1 in
    record {
      due = keeps.time;
      some_version = omega (arith, good.0.1.1);
      few_versions = omega (arith, good.0.1.2);
      versions = All-weaker (λ v. KeepsVersion (stated v)) IsValidVersion
          (λ v h. record { some_bytes = h.some; bytes = h.bytes; distortion = h.distortion }) versions
          (All-from_map KeepsVersion stated versions keeps.each);
    }

units_kept : (slot : ℕ) (more : List Line) (units : List CodedUnit) → Walk Good (behind slot more) (map line_of_unit units)
    → count_by is_unit (behind slot more) ≤ UNITS_MOST → sum_by greatest_stated (behind slot more) < DISTORTIONS_LIMIT → UnitsKept slot (behind slot more) units
units_kept slot more [] walk few room = record { each = All-nil (IsValidUnit slot); first = tt; rising = tt; few = omega arith; room = omega (arith, room) }
units_kept slot more (unit ∷ units) walk few room =
    let before = behind slot more in
    let line = line_of_unit unit in
    let here = one_unit_kept slot more unit walk.0 in
    let count = count_push is_unit before line in
    let keeps = walk.0.1 in
    let own = greatest_of_unit unit in
    let more_sum = sum_by_push greatest_stated before line in
    let rest = units_kept slot (more ++ line ∷ []) units walk.1 (omega (arith, keeps.units)) (omega (arith, more_sum, keeps.distortions)) in
    record {
      each = All-cons (IsValidUnit slot) unit units here rest.each;
      first = keeps.rising;
      rising = risen units rest.first rest.rising;
      few = omega (arith, rest.few);
      room = omega (arith, rest.room, own, more_sum, sum_by-cons greatest_distortion unit units);
    }
  where
    risen : (units : List CodedUnit) → RisesTo (last_line (behind slot (more ++ line_of_unit unit ∷ []))) units
        → Adjacent ◌<◌ (map (λ c. c.due) units) → Adjacent ◌<◌ (unit.due ∷ map (λ c. c.due) units)
    risen [] first rising = tt
    risen (other ∷ units) first rising =
        let after : is_due_later (Some (line_of_unit unit)) other.due ≡ true = sym (ap (λ (last : Option Line). is_due_later last other.due) (last_line_push (behind slot more) (line_of_unit unit))) ∙ first in
        (ltb-true unit.due other.due after, rising)

-- ---- packets

record PacketsKept (slot : ℕ) (before : List Line) (packets : List AudioPacket) : Type 0 where
  each : All (IsValidPacket slot) packets
  first : ComesTo (last_line before) packets
  dues : Adjacent ◌≤◌ (map (λ packet. packet.due) packets)
  gones : Adjacent ◌≤◌ (map (λ packet. packet.gone) packets)
  few : count_by is_packet before + length packets ≤ TEXT_AUDIO_PACKETS_MOST

packets_kept : (slot : ℕ) (more : List Line) (packets : List AudioPacket) → Walk Good (behind slot more) (map line_of_packet packets)
    → count_by is_packet (behind slot more) ≤ TEXT_AUDIO_PACKETS_MOST → PacketsKept slot (behind slot more) packets
packets_kept slot more [] walk few = record { each = All-nil (IsValidPacket slot); first = tt; dues = tt; gones = tt; few = omega arith }
packets_kept slot more (packet ∷ packets) walk few =
    let before = behind slot more in
    let line = line_of_packet packet in
    let keeps = walk.0.1 in
    let count = count_push is_packet before line in
    let rest = packets_kept slot (more ++ line ∷ []) packets walk.1 (omega (arith, keeps.packets)) in
    let here : IsValidPacket slot packet = record { due = keeps.gone_least; gone = keeps.gone_most; some_bytes = keeps.some; bytes = keeps.bytes_most } in
    record {
      each = All-cons (IsValidPacket slot) packet packets here rest.each;
      first = (keeps.dues, keeps.gones);
      dues = dues_go_on packets rest.first rest.dues;
      gones = gones_go_on packets rest.first rest.gones;
      few = omega (arith, rest.few);
    }
  where
    dues_go_on : (packets : List AudioPacket) → ComesTo (last_line (behind slot (more ++ line_of_packet packet ∷ []))) packets
        → Adjacent ◌≤◌ (map (λ p. p.due) packets) → Adjacent ◌≤◌ (packet.due ∷ map (λ p. p.due) packets)
    dues_go_on [] first dues = tt
    dues_go_on (other ∷ packets) first dues =
        let last = last_line_push (behind slot more) (line_of_packet packet) in
        (omega (arith, ap packet_due last, first.0), dues)

    gones_go_on : (packets : List AudioPacket) → ComesTo (last_line (behind slot (more ++ line_of_packet packet ∷ []))) packets
        → Adjacent ◌≤◌ (map (λ p. p.gone) packets) → Adjacent ◌≤◌ (packet.gone ∷ map (λ p. p.gone) packets)
    gones_go_on [] first gones = tt
    gones_go_on (other ∷ packets) first gones =
        let last = last_line_push (behind slot more) (line_of_packet packet) in
        (omega (arith, ap packet_gone last, first.1), gones)

-- ---- audio streams

record AudiosKept (slot : ℕ) (before : List Line) (audios : List (List AudioPacket)) : Type 0 where
  each : All (IsValidAudio slot) audios
  few : audios_here before + length audios ≤ AUDIOS_MOST
  few_packets : count_by is_packet before + length (packets_of audios) ≤ TEXT_AUDIO_PACKETS_MOST

audios_kept : (slot : ℕ) (more : List Line) (audios : List (List AudioPacket)) → Walk Good (behind slot more) (flat_map lines_of_audio audios) → audios_here (behind slot more) ≤ AUDIOS_MOST
    → count_by is_packet (behind slot more) ≤ TEXT_AUDIO_PACKETS_MOST → AudiosKept slot (behind slot more) audios
audios_kept slot more [] walk few few_packets = record { each = All-nil (IsValidAudio slot); few = omega arith; few_packets = omega arith }
audios_kept slot more (packets ∷ audios) walk few few_packets =
    let before = behind slot more in
    let stream = lines_of_audio packets in
    let (front, others) = walk_parts Good before stream (flat_map lines_of_audio audios) walk in
    let audio = front.0.1 in
    let count = count_push is_packet before Audio in
    let here = packets_kept slot (more ++ Audio ∷ []) packets front.1 (omega arith) in
    let counted = count-append is_packet before stream in
    let one = packets_in_stream packets in
    let more_audios = audios_in_stream before packets in
    let rest = audios_kept slot (more ++ stream) audios others (omega (arith, audio)) (omega (arith, here.few)) in
    let valid : IsValidAudio slot packets = record { each = here.each; dues = adjacent_steady (map (λ p. p.due) packets) here.dues; gones = adjacent_steady (map (λ p. p.gone) packets) here.gones } in
    record {
      each = All-cons (IsValidAudio slot) packets audios valid rest.each;
      few = omega (arith, rest.few);
      few_packets = omega (arith, rest.few_packets, length-append packets (packets_of audios));
    }

-- ---- programs

record ProgramKept (slot : ℕ) (before : List Line) (program : ProgramRow) : Type 0 where
  valid : IsValidProgram slot program
  few : count_by is_program before < PROGRAMS_MOST
  few_units : count_by is_unit before + length program.units ≤ UNITS_MOST
  room : sum_by greatest_stated before + sum_by greatest_distortion program.units < DISTORTIONS_LIMIT
  few_packets : count_by is_packet before + length (packets_of program.audios) ≤ TEXT_AUDIO_PACKETS_MOST

program_kept : (slot : ℕ) (more : List Line) (program : ProgramRow) → Walk Good (behind slot more) (lines_of_program program) → count_by is_unit (behind slot more) ≤ UNITS_MOST
    → count_by is_packet (behind slot more) ≤ TEXT_AUDIO_PACKETS_MOST → sum_by greatest_stated (behind slot more) < DISTORTIONS_LIMIT → ProgramKept slot (behind slot more) program
program_kept slot more program walk few_units few_packets room =
    let before = behind slot more in
    let line = Program program.vbv in
    let units = map line_of_unit program.units in
    let begun = behind slot (more ++ line ∷ []) in
    let (front, others) = walk_parts Good begun units (flat_map lines_of_audio program.audios) walk.1 in
    let keeps = walk.0.1 in
    let no_audios : audios_here begun ≡ 0 = audios_here_push before line in
    let no_program : count_by is_program units ≡ 0 = count_none is_program line_of_unit (λ _. refl) program.units in
    let none_yet : audios_here (begun ++ units) ≡ 0 = audios_here-append begun units no_program ∙ omega (arith, no_audios, count_none begins_audio line_of_unit (λ _. refl) program.units) in
    let unit_count = count_push is_unit before line in
    let packet_count = count_push is_packet before line in
    let more_sum = sum_by_push greatest_stated before line in
    let packets_behind : count_by is_packet (begun ++ units)
    ≡ count_by is_packet before = omega (arith, count-append is_packet begun units, count_none is_packet line_of_unit (λ _. refl) program.units)
    in
    let unit_facts = units_kept slot (more ++ line ∷ []) program.units front (omega arith) (omega (arith, more_sum, room)) in
    let audio_facts = audios_kept slot (more ++ line ∷ [] ++ units) program.audios others (omega arith) (omega arith) in
    record {
      valid = record {
        some_vbv = keeps.some;
        vbv = keeps.vbv_most;
        units = unit_facts.each;
        dues = adjacent_rising (map (λ c. c.due) program.units) unit_facts.rising;
        few_audios = omega (arith, audio_facts.few);
        audios = audio_facts.each;
      };
      few = keeps.programs;
      few_units = omega (arith, unit_facts.few);
      room = omega (arith, unit_facts.room, more_sum);
      few_packets = omega (arith, audio_facts.few_packets);
    }

record ProgramsKept (slot : ℕ) (before : List Line) (programs : List ProgramRow) : Type 0 where
  each : All (IsValidProgram slot) programs
  few : count_by is_program before + length programs ≤ PROGRAMS_MOST
  few_units : count_by is_unit before + length (units_in programs) ≤ UNITS_MOST
  room : sum_by greatest_stated before + sum_by greatest_distortion (units_in programs) < DISTORTIONS_LIMIT
  few_packets : count_by is_packet before + length (packets_in programs) ≤ TEXT_AUDIO_PACKETS_MOST

programs_kept : (slot : ℕ) (more : List Line) (programs : List ProgramRow) → Walk Good (behind slot more) (flat_map lines_of_program programs) → count_by is_program (behind slot more) ≤ PROGRAMS_MOST
    → count_by is_unit (behind slot more) ≤ UNITS_MOST → count_by is_packet (behind slot more) ≤ TEXT_AUDIO_PACKETS_MOST
    → sum_by greatest_stated (behind slot more) < DISTORTIONS_LIMIT → ProgramsKept slot (behind slot more) programs
programs_kept slot more [] walk few few_units few_packets room = record {
  each = All-nil (IsValidProgram slot);
  few = omega arith;
  few_units = omega arith;
  room = omega (arith, room);
  few_packets = omega arith;
}
programs_kept slot more (program ∷ programs) walk few few_units few_packets room =
    let before = behind slot more in
    let lines = lines_of_program program in
    let (front, others) = walk_parts Good before lines (flat_map lines_of_program programs) walk in
    let here = program_kept slot more program front few_units few_packets room in
    let adds = program_adds before program in
    let rest = programs_kept slot (more ++ lines) programs others (omega (arith, adds.programs, here.few)) (omega (arith, adds.units, here.few_units))
    (omega (arith, adds.packets, here.few_packets)) (omega (arith, adds.distortions, here.room)) in
    record {
      each = All-cons (IsValidProgram slot) program programs here.valid rest.each;
      few = omega (arith, rest.few, adds.programs);
      few_units = omega (arith, rest.few_units, adds.units, length-append program.units (units_in programs));
      room = omega (arith, rest.room, adds.distortions, sum_by-append greatest_distortion program.units (units_in programs));
      few_packets = omega (arith, rest.few_packets, adds.packets, length-append (packets_of program.audios) (packets_in programs));
    }

-- ---- the table

pub kept_table : (table : Table) → length (table_spelling table) ≤ TABLE_TEXT_MOST → IsForm (lines_of_table table) → KeepLimits (lines_of_table table) → IsTextTable table
kept_table table short form kept =
    let walk = walk_from Good [] (lines_of_table table) (λ front line rest e. (form.0 front line rest e, keeps_from front line (kept front line rest e))) in
    let slot = walk.1.0.1 in
    let nodes = walk.1.1.0.1 in
    let evaluations = walk.1.1.1.0.1 in
    let programs = programs_kept table.slot (Nodes table.nodes ∷ Evaluations table.evaluations ∷ []) table.programs walk.1.1.1.1 (omega arith) (omega arith) (omega arith) (omega arith) in
    record {
      valid = record {
        slot_least = slot.0;
        slot_most = slot.1;
        some_nodes = nodes.0;
        nodes = nodes.1;
        evaluations = evaluations;
        few_programs = omega (arith, programs.few);
        programs = programs.each;
        units = omega (arith, programs.few_units);
        audio_packets = omega (arith, programs.few_packets);
        distortions = omega (arith, programs.room);
      };
      few_packets = omega (arith, programs.few_packets);
      short = short;
    }
