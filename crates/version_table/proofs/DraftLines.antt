-- What the limits ask of a draft's lines, in terms of the draft.
use Rattle.std.proofs.Common.{◌≡◌, ℕ, ◌+◌, ◌-◌, true, nat_lt, List, [], ◌∷◌, ◌++◌, length, map, count_by, Option, Some, None, refl, ap, ◌∙◌, append_assoc, arith}
use Rattle.std.specs.Prelude.{slice_get}
use Rattle.std.specs.List.{flat_map}
use Rattle.std.proofs.lemmas.List.{append-nil, map-append}
use Rattle.version_table.specs.declared.draft.Draft.{Draft}
use Rattle.version_table.specs.declared.line.Line.{Line}
use Rattle.version_table.specs.declared.line.Line.TheVariants.{Program, Audio}
use Rattle.version_table.specs.declared.line.Stage.{Stage}
use Rattle.version_table.specs.declared.line.Stage.TheVariants as stages
use Rattle.version_table.specs.declared.table.Unit.{Unit as CodedUnit}
use Rattle.version_table.specs.declared.table.AudioPacket.{AudioPacket}
use Rattle.version_table.specs.Lines.{line_of_unit, line_of_packet, lines_of_audio, lines_of_program}
use Rattle.version_table.specs.Order.{last_line}
use Rattle.version_table.specs.Limits.{is_program, begins_audio, audios_here, slot_of, is_due_later}
use Rattle.version_table.specs.Private.Draft.{Allows, head_of, open_program, lines_of_draft, IsTidy, IsDraft}
use Rattle.version_table.proofs.Counts.{
  last_line-append,
  last_line_push,
  last_parts,
  last_none,
  count-append,
  count-cons,
  count_none,
  programs_in_audios,
  programs_in_programs,
  audios_in_audios,
  audios_here_program,
}

pub slot_of_units : (draft : Draft) → slot_of (lines_of_draft stages.Units draft) ≡ draft.slot
unfolding lines_of_draft
slot_of_units draft = refl

pub slot_of_packets : (draft : Draft) → slot_of (lines_of_draft stages.Packets draft) ≡ draft.slot
unfolding lines_of_draft
slot_of_packets draft = refl

-- ---- the last line

-- the last line of a unit list behind a program's line
last_unit_line : (draft : Draft) → draft.audios ≡ [] → last_line (lines_of_draft stages.Units draft) ≡ last_line (Program draft.vbv ∷ map line_of_unit draft.units)
unfolding lines_of_draft
last_unit_line draft no_audios =
    let front = head_of draft ++ flat_map lines_of_program draft.programs in
    last_line-append front (Program draft.vbv) (map line_of_unit draft.units ++ flat_map lines_of_audio draft.audios)
    ∙ ap (λ (audios : List (List AudioPacket)). last_line (Program draft.vbv ∷ (map line_of_unit draft.units ++ flat_map lines_of_audio audios))) no_audios
    ∙ ap (λ (lines : List Line). last_line (Program draft.vbv ∷ lines)) (append-nil (map line_of_unit draft.units))

last_of_map : {X : Type 0} (f : X → Line) (line : Line) (xs : List X) (x : X) → slice_get xs (length xs - 1) ≡ Some x → last_line (line ∷ map f xs) ≡ Some (f x)
last_of_map {X} f line xs x e =
    let (front, is) = last_parts xs x e in
    ap (λ (ys : List X). last_line (line ∷ map f ys)) is ∙ ap (λ (ls : List Line). last_line (line ∷ ls)) (map-append f front (x ∷ [])) ∙ last_line_push (line ∷ map f front) (f x)

pub rises_some : (draft : Draft) (unit : CodedUnit) (due : ℕ) → draft.audios ≡ [] → slice_get draft.units (length draft.units - 1) ≡ Some unit
    → is_due_later (last_line (lines_of_draft stages.Units draft)) due ≡ nat_lt unit.due due
rises_some draft unit due no_audios last = ap (λ (line : Option Line). is_due_later line due) (last_unit_line draft no_audios ∙ last_of_map line_of_unit (Program draft.vbv) draft.units unit last)

pub rises_none : (draft : Draft) (due : ℕ) → draft.audios ≡ [] → slice_get draft.units (length draft.units - 1) ≡ None
    → is_due_later (last_line (lines_of_draft stages.Units draft)) due ≡ true
rises_none draft due no_audios last =
    ap (λ (line : Option Line). is_due_later line due) (last_unit_line draft no_audios ∙ ap (λ (units : List CodedUnit). last_line (Program draft.vbv ∷ map line_of_unit units)) (last_none draft.units last))

last_packet_line : (draft : Draft) → last_line (lines_of_draft stages.Packets draft) ≡ last_line (Audio ∷ map line_of_packet draft.packets)
unfolding lines_of_draft
last_packet_line draft = last_line-append (head_of draft ++ flat_map lines_of_program draft.programs ++ open_program draft) Audio (map line_of_packet draft.packets)

pub last_packet_some : (draft : Draft) (packet : AudioPacket) → slice_get draft.packets (length draft.packets - 1) ≡ Some packet
    → last_line (lines_of_draft stages.Packets draft) ≡ Some (line_of_packet packet)
last_packet_some draft packet last = last_packet_line draft ∙ last_of_map line_of_packet Audio draft.packets packet last

pub last_packet_none : (draft : Draft) → slice_get draft.packets (length draft.packets - 1) ≡ None → last_line (lines_of_draft stages.Packets draft) ≡ Some Audio
last_packet_none draft last = last_packet_line draft ∙ ap (λ (packets : List AudioPacket). last_line (Audio ∷ map line_of_packet packets)) (last_none draft.packets last)

-- ---- counts

programs_in_head : (draft : Draft) → count_by is_program (head_of draft ++ flat_map lines_of_program draft.programs) ≡ length draft.programs
programs_in_head draft = omega (arith, count-append is_program (head_of draft) (flat_map lines_of_program draft.programs), programs_in_programs draft.programs)

programs_in_open : (draft : Draft) → count_by is_program (open_program draft) ≡ 1
programs_in_open draft =
    omega (
      arith,
      count-append is_program (Program draft.vbv ∷ map line_of_unit draft.units) (flat_map lines_of_audio draft.audios),
      count-cons is_program (Program draft.vbv) (map line_of_unit draft.units),
      count_none is_program line_of_unit (λ _. refl) draft.units,
      programs_in_audios draft.audios,
    )

programs_in_stream : (draft : Draft) → count_by is_program (lines_of_audio draft.packets) ≡ 0
programs_in_stream draft = omega (arith, count-cons is_program Audio (map line_of_packet draft.packets), count_none is_program line_of_packet (λ _. refl) draft.packets)

pub program_count_programs : (draft : Draft) → count_by is_program (lines_of_draft stages.Programs draft) ≡ length draft.programs
unfolding lines_of_draft
program_count_programs draft = programs_in_head draft

pub program_count_open : (stage : Stage) (draft : Draft) → Allows stage (Program 0) → (stage ≡ stages.Programs → ⊥) → count_by is_program (lines_of_draft stage draft) ≡ length draft.programs + 1
unfolding lines_of_draft
program_count_open stages.Title draft allows open_now = absurd allows
program_count_open stages.Slot draft allows open_now = absurd allows
program_count_open stages.Nodes draft allows open_now = absurd allows
program_count_open stages.Evaluations draft allows open_now = absurd allows
program_count_open stages.Programs draft allows open_now = absurd (open_now refl)
program_count_open stages.Units draft allows open_now =
    let front = head_of draft ++ flat_map lines_of_program draft.programs in
    omega (arith, count-append is_program front (open_program draft), programs_in_head draft, programs_in_open draft)
program_count_open stages.Packets draft allows open_now =
    let front = head_of draft ++ flat_map lines_of_program draft.programs in
    omega (
      arith,
      count-append is_program (front ++ open_program draft) (lines_of_audio draft.packets),
      count-append is_program front (open_program draft),
      programs_in_head draft,
      programs_in_open draft,
      programs_in_stream draft,
    )

audios_in_units : (draft : Draft) → audios_here (lines_of_draft stages.Units draft) ≡ length draft.audios
unfolding lines_of_draft
audios_in_units draft =
    let front = head_of draft ++ flat_map lines_of_program draft.programs in
    let behind = map line_of_unit draft.units ++ flat_map lines_of_audio draft.audios in
    let none = count-append is_program (map line_of_unit draft.units) (flat_map lines_of_audio draft.audios) in
    let units = count_none is_program line_of_unit (λ _. refl) draft.units in
    let no_programs : count_by is_program behind ≡ 0 = omega (arith, programs_in_audios draft.audios) in
    audios_here_program front draft.vbv behind no_programs
    ∙ omega (
      arith,
      count-append begins_audio (map line_of_unit draft.units) (flat_map lines_of_audio draft.audios),
      count_none begins_audio line_of_unit (λ _. refl) draft.units,
      audios_in_audios draft.audios,
    )

pub audio_count_packets : (draft : Draft) → audios_here (lines_of_draft stages.Packets draft) ≡ length draft.audios + 1
unfolding lines_of_draft
audio_count_packets draft =
    let front = head_of draft ++ flat_map lines_of_program draft.programs in
    let units = map line_of_unit draft.units in
    let audios = flat_map lines_of_audio draft.audios in
    let stream = lines_of_audio draft.packets in
    let behind = units ++ audios ++ stream in
    let no_programs : count_by is_program behind ≡ 0 =
    omega (
      arith,
      count-append is_program (units ++ audios) stream,
      count-append is_program units audios,
      count_none is_program line_of_unit (λ _. refl) draft.units,
      programs_in_audios draft.audios,
      programs_in_stream draft,
    ) in
    ap audios_here (append_assoc front (open_program draft) stream) ∙ audios_here_program front draft.vbv behind no_programs
    ∙ omega (
      arith,
      count-append begins_audio (units ++ audios) stream,
      count-append begins_audio units audios,
      count_none begins_audio line_of_unit (λ _. refl) draft.units,
      audios_in_audios draft.audios,
      count-cons begins_audio Audio (map line_of_packet draft.packets),
      count_none begins_audio line_of_packet (λ _. refl) draft.packets,
    )

pub no_audios : (draft : Draft) → IsDraft stages.Units draft → draft.audios ≡ []
unfolding IsTidy
no_audios draft was = was.tidy.0

pub audio_count_units : (stage : Stage) (draft : Draft) → Allows stage Audio → (stage ≡ stages.Packets → ⊥) → audios_here (lines_of_draft stage draft) ≡ length draft.audios
audio_count_units stages.Title draft allows other = absurd allows
audio_count_units stages.Slot draft allows other = absurd allows
audio_count_units stages.Nodes draft allows other = absurd allows
audio_count_units stages.Evaluations draft allows other = absurd allows
audio_count_units stages.Programs draft allows other = absurd allows
audio_count_units stages.Units draft allows other = audios_in_units draft
audio_count_units stages.Packets draft allows other = absurd (other refl)
