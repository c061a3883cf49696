-- What a draft holds after one more line.
use Rattle.std.proofs.Common.{◌≡◌, ℕ, ◌+◌, ◌<◌, cond, List, [], ◌∷◌, ◌++◌, map, count_by, sum_by, refl, sym, ap, ◌∙◌, append_assoc, arith}
use Rattle.std.specs.List.{flat_map}
use Rattle.arrayvec.specs.ArrayVec.{ArrayVec}
use Rattle.std.proofs.lemmas.List.{append-nil, map_push}
use Rattle.std.proofs.lemmas.List.Concat.{flat_map-append}
use Rattle.std.proofs.lemmas.List.Sums.{sum_by_push}
use Rattle.version_table.specs.declared.draft.Draft.{Draft}
use Rattle.version_table.specs.declared.line.Line.{Line}
use Rattle.version_table.specs.declared.line.Line.TheVariants.{Title, Slot, Nodes, Evaluations, Program, Unit as UnitLine, Audio, Packet}
use Rattle.version_table.specs.declared.line.Stage.{Stage}
use Rattle.version_table.specs.declared.line.Stage.TheVariants as stages
use Rattle.version_table.specs.declared.line.StatedVersion.{StatedVersion}
use Rattle.version_table.specs.declared.table.Unit.{Unit as CodedUnit}
use Rattle.version_table.specs.declared.table.AudioPacket.{AudioPacket}
use Rattle.version_table.specs.declared.table.ProgramRow.{ProgramRow}
use Rattle.version_table.specs.Lines.{stated, line_of_unit, line_of_packet, lines_of_audio, lines_of_program, lines_of_table}
use Rattle.version_table.specs.Limits.{is_unit, is_packet, greatest_stated}
use Rattle.version_table.specs.Table.{greatest}
use Rattle.version_table.specs.declared.limits.TheConstants.{DISTORTIONS_LIMIT}
use Rattle.version_table.specs.Private.Draft.{
  Allows,
  stage_after,
  head_of,
  open_program,
  lines_of_draft,
  IsTidy,
  IsDraft,
  AddsLine,
  with_audio_closed,
  with_program_closed,
  kept,
  with_unit,
  with_packet,
}

-- the counts of a line more
adds_line : (stage : Stage) (old : Draft) (line : Line) (new : Draft) → IsDraft stage old → IsTidy (stage_after line) new
    → lines_of_draft (stage_after line) new ≡ lines_of_draft stage old ++ line ∷ []
    → new.unit_count ≡ old.unit_count + cond (is_unit line) 1 0 → new.packet_count ≡ old.packet_count + cond (is_packet line) 1 0
    → new.distortions ≡ old.distortions + greatest_stated line → new.distortions < DISTORTIONS_LIMIT → AddsLine stage old line new
adds_line stage old line new was tidy lines units packets distortions few = record {
  draft = record {
    tidy = tidy;
    unit_count = units ∙ ap (λ (n : ℕ). n + cond (is_unit line) 1 0) was.unit_count
        ∙ sym (ap (count_by is_unit) lines ∙ sum_by_push (λ (l : Line). cond (is_unit l) 1 0) (lines_of_draft stage old) line);
    packet_count = packets ∙ ap (λ (n : ℕ). n + cond (is_packet line) 1 0) was.packet_count
        ∙ sym (ap (count_by is_packet) lines ∙ sum_by_push (λ (l : Line). cond (is_packet l) 1 0) (lines_of_draft stage old) line);
    distortions = distortions ∙ ap (λ (n : ℕ). n + greatest_stated line) was.distortions
        ∙ sym (ap (sum_by greatest_stated) lines ∙ sum_by_push greatest_stated (lines_of_draft stage old) line);
    few_distortions = few;
  };
  lines = lines;
}

-- ---- the lines of a head

pub adds_title : (stage : Stage) (draft : Draft) → Allows stage Title → IsDraft stage draft → AddsLine stage draft Title draft
unfolding lines_of_draft IsTidy
adds_title stages.Title draft allows was = adds_line stages.Title draft Title draft was was.tidy refl (omega arith) (omega arith) (omega arith) was.few_distortions
adds_title stage draft allows was = absurd allows

pub adds_slot : (stage : Stage) (draft : Draft) (ticks : ℕ) → Allows stage (Slot ticks) → IsDraft stage draft → AddsLine stage draft (Slot ticks) (record draft { slot = ticks })
unfolding lines_of_draft IsTidy
adds_slot stages.Slot draft ticks allows was = adds_line stages.Slot draft (Slot ticks) (record draft { slot = ticks }) was was.tidy refl (omega arith) (omega arith) (omega arith) was.few_distortions
adds_slot stage draft ticks allows was = absurd allows

pub adds_nodes : (stage : Stage) (draft : Draft) (n : ℕ) → Allows stage (Nodes n) → IsDraft stage draft → AddsLine stage draft (Nodes n) (record draft { nodes = n })
unfolding lines_of_draft IsTidy
adds_nodes stages.Nodes draft n allows was = adds_line stages.Nodes draft (Nodes n) (record draft { nodes = n }) was was.tidy refl (omega arith) (omega arith) (omega arith) was.few_distortions
adds_nodes stage draft n allows was = absurd allows

pub adds_evaluations : (stage : Stage) (draft : Draft) (n : ℕ) → Allows stage (Evaluations n) → IsDraft stage draft → AddsLine stage draft (Evaluations n) (record draft { evaluations = n })
unfolding lines_of_draft IsTidy
adds_evaluations stages.Evaluations draft n allows was =
    let empty = was.tidy.0 in
    adds_line stages.Evaluations draft (Evaluations n) (record draft { evaluations = n }) was (was.tidy.1, was.tidy.2, was.tidy.3) (rw empty refl) (omega arith) (omega arith) (omega arith) was.few_distortions
adds_evaluations stage draft n allows was = absurd allows

-- ---- programs

-- a program that is closed is whole
one_program_more : (programs : List ProgramRow) (program : ProgramRow) → flat_map lines_of_program (programs ++ program ∷ []) ≡ flat_map lines_of_program programs ++ lines_of_program program
one_program_more programs program =
    flat_map-append lines_of_program programs (program ∷ []) ∙ ap (λ (lines : List Line). flat_map lines_of_program programs ++ lines) (append-nil (lines_of_program program))

one_audio_more : (audios : List (List AudioPacket)) (packets : List AudioPacket) → flat_map lines_of_audio (audios ++ packets ∷ []) ≡ flat_map lines_of_audio audios ++ lines_of_audio packets
one_audio_more audios packets =
    flat_map-append lines_of_audio audios (packets ∷ []) ∙ ap (λ (lines : List Line). flat_map lines_of_audio audios ++ lines) (append-nil (lines_of_audio packets))

-- the lines of a draft are those of its whole programs once the open one is closed
pub program_closed_lines : (draft : Draft) (stage : Stage) → Allows stage (Program 0) → IsTidy stage draft
    → lines_of_draft stages.Programs (with_program_closed stage draft) ≡ lines_of_draft stage draft
unfolding lines_of_draft IsTidy
program_closed_lines draft stages.Programs allows tidy = refl
program_closed_lines draft stages.Units allows tidy =
    let row : ProgramRow = record { vbv = draft.vbv; units = draft.units; audios = draft.audios } in
    ap (λ (lines : List Line). head_of draft ++ lines) (one_program_more draft.programs row) ∙ sym (append_assoc (head_of draft) (flat_map lines_of_program draft.programs) (open_program draft))
program_closed_lines draft stages.Packets allows tidy =
    let row : ProgramRow = record { vbv = draft.vbv; units = draft.units; audios = draft.audios ++ draft.packets ∷ [] } in
    let front = Program draft.vbv ∷ map line_of_unit draft.units in
    let whole : lines_of_program row ≡ open_program draft ++ lines_of_audio draft.packets =
    ap (λ (lines : List Line). front ++ lines) (one_audio_more draft.audios draft.packets) ∙ sym (append_assoc front (flat_map lines_of_audio draft.audios) (lines_of_audio draft.packets)) in
    ap (λ (lines : List Line). head_of draft ++ lines) (one_program_more draft.programs row ∙ ap (λ (lines : List Line). flat_map lines_of_program draft.programs ++ lines) whole)
    ∙ simp append_assoc
program_closed_lines draft stage allows tidy = absurd allows

-- a program behind the whole ones
program_lines : (draft : Draft) (vbv : ℕ) → (draft.units ≡ []) → (draft.audios ≡ [])
    → lines_of_draft stages.Units (record draft { vbv = vbv }) ≡ lines_of_draft stages.Programs draft ++ Program vbv ∷ []
unfolding lines_of_draft
program_lines draft vbv no_units no_audios = rw (no_units, no_audios) refl

adds_program_closed : (stage : Stage) (draft closed : Draft) (vbv : ℕ) → IsDraft stage draft → lines_of_draft stages.Programs closed ≡ lines_of_draft stage draft
    → (closed.units ≡ []) → (closed.audios ≡ []) → (closed.packets ≡ []) → closed.unit_count ≡ draft.unit_count → closed.packet_count ≡ draft.packet_count
    → closed.distortions ≡ draft.distortions → AddsLine stage draft (Program vbv) (record closed { vbv = vbv })
unfolding IsTidy
adds_program_closed stage draft closed vbv was lines no_units no_audios no_packets units packets distortions =
    adds_line stage draft (Program vbv) (record closed { vbv = vbv }) was (no_audios, no_packets)
    (program_lines closed vbv no_units no_audios ∙ ap (λ (ls : List Line). ls ++ Program vbv ∷ []) lines) (omega (arith, units)) (omega (arith, packets)) (omega (arith, distortions)) (omega (arith, distortions, was.few_distortions))

pub adds_program : (draft : Draft) (stage : Stage) (vbv : ℕ) → Allows stage (Program vbv) → IsDraft stage draft
    → AddsLine stage draft (Program vbv) (record (with_program_closed stage draft) { vbv = vbv })
unfolding IsTidy
adds_program draft stages.Programs vbv allows was =
    adds_program_closed stages.Programs draft draft vbv was refl was.tidy.0 was.tidy.1 was.tidy.2 refl refl refl
adds_program draft stages.Units vbv allows was =
    adds_program_closed stages.Units draft (with_program_closed stages.Units draft) vbv was (program_closed_lines draft stages.Units tt was.tidy) refl refl was.tidy.1 refl refl refl
adds_program draft stages.Packets vbv allows was =
    adds_program_closed stages.Packets draft (with_program_closed stages.Packets draft) vbv was (program_closed_lines draft stages.Packets tt was.tidy) refl refl refl refl refl refl
adds_program draft stage vbv allows was = absurd allows

-- ---- units

-- the numbers of a version are those that a table keeps
pub stated_kept : (versions : List StatedVersion) → map stated (map kept versions) ≡ versions
stated_kept [] = refl
stated_kept (version ∷ versions) = ap (λ (rest : List StatedVersion). version ∷ rest) (stated_kept versions)

pub adds_unit : (draft : Draft) (stage : Stage) (due : ℕ) (versions : ArrayVec StatedVersion) → Allows stage (UnitLine due versions)
    → IsDraft stage draft → draft.distortions + greatest (map (λ version. version.distortion) versions.items) < DISTORTIONS_LIMIT → AddsLine stage draft (UnitLine due versions) (with_unit draft due versions.items)
unfolding IsTidy lines_of_draft
adds_unit draft stages.Units due versions allows was room =
    let unit : CodedUnit = record { due = due; versions = record { items = map kept versions.items } } in
    let same : line_of_unit unit ≡ UnitLine due versions = ap (λ (items : List StatedVersion). UnitLine due (record { items = items })) (stated_kept versions.items) in
    let more : map line_of_unit (draft.units ++ unit ∷ []) ≡ map line_of_unit draft.units
    ++ UnitLine due versions ∷ [] = map_push line_of_unit draft.units unit ∙ ap (λ (l : Line). map line_of_unit draft.units ++ l ∷ []) same in
    let units = map line_of_unit draft.units in
    let behind = λ (audios : List (List AudioPacket)). flat_map lines_of_audio audios in
    let open_now : open_program (with_unit draft due versions.items) ≡ open_program draft ++ UnitLine due versions ∷ [] =
    ap (λ (audios : List (List AudioPacket)). Program draft.vbv ∷ map line_of_unit (draft.units ++ unit ∷ []) ++ behind audios) was.tidy.0
    ∙ append-nil (Program draft.vbv ∷ map line_of_unit (draft.units ++ unit ∷ []))
    ∙ ap (λ (lines : List Line). Program draft.vbv ∷ lines) more
    ∙ sym (ap (λ (audios : List (List AudioPacket)). (Program draft.vbv ∷ units ++ behind audios) ++ UnitLine due versions ∷ []) was.tidy.0
    ∙ ap (λ (lines : List Line). lines ++ UnitLine due versions ∷ []) (append-nil (Program draft.vbv ∷ units))) in
    let front = head_of draft ++ flat_map lines_of_program draft.programs in
    adds_line stages.Units draft (UnitLine due versions) (with_unit draft due versions.items) was was.tidy
    (ap (λ (lines : List Line). front ++ lines) open_now ∙ sym (append_assoc front (open_program draft) (UnitLine due versions ∷ []))) refl (omega arith) refl room
adds_unit draft stage due versions allows was room = absurd allows

-- ---- audio streams and packets

pub adds_audio : (draft : Draft) (stage : Stage) → Allows stage Audio → IsDraft stage draft → AddsLine stage draft Audio (with_audio_closed stage draft)
unfolding IsTidy lines_of_draft
adds_audio draft stages.Units allows was =
    adds_line stages.Units draft Audio draft was tt
    (ap (λ (packets : List AudioPacket). head_of draft ++ flat_map lines_of_program draft.programs ++ open_program draft ++ lines_of_audio packets) was.tidy.1) (omega arith) (omega arith) (omega arith) was.few_distortions
adds_audio draft stages.Packets allows was =
    let front = head_of draft ++ flat_map lines_of_program draft.programs in
    let units = Program draft.vbv ∷ map line_of_unit draft.units in
    let closed : open_program (with_audio_closed stages.Packets draft) ≡ open_program draft ++ lines_of_audio draft.packets =
    ap (λ (lines : List Line). units ++ lines) (one_audio_more draft.audios draft.packets) ∙ sym (append_assoc units (flat_map lines_of_audio draft.audios) (lines_of_audio draft.packets)) in
    adds_line stages.Packets draft Audio (with_audio_closed stages.Packets draft) was tt
    (ap (λ (lines : List Line). front ++ lines ++ Audio ∷ []) closed
    ∙ ap (λ (lines : List Line). lines ++ Audio ∷ []) (sym (append_assoc front (open_program draft) (lines_of_audio draft.packets))))
    (omega arith) (omega arith) (omega arith) was.few_distortions
adds_audio draft stage allows was = absurd allows

pub adds_packet : (draft : Draft) (stage : Stage) (due gone bytes : ℕ) → Allows stage (Packet due gone bytes) → IsDraft stage draft
    → AddsLine stage draft (Packet due gone bytes) (with_packet draft due gone bytes)
unfolding IsTidy lines_of_draft
adds_packet draft stages.Packets due gone bytes allows was =
    let packet : AudioPacket = record { due = due; gone = gone; bytes = bytes } in
    let front = head_of draft ++ flat_map lines_of_program draft.programs ++ open_program draft in
    adds_line stages.Packets draft (Packet due gone bytes) (with_packet draft due gone bytes) was tt
    (ap (λ (lines : List Line). front ++ Audio ∷ lines) (map_push line_of_packet draft.packets packet)
    ∙ sym (append_assoc front (lines_of_audio draft.packets) (Packet due gone bytes ∷ []))) (omega arith) refl (omega arith) was.few_distortions
adds_packet draft stage due gone bytes allows was = absurd allows

-- a draft without lines
pub no_lines : (draft : Draft) → (draft.programs ≡ []) → (draft.units ≡ []) → (draft.audios ≡ []) → (draft.packets ≡ []) → draft.unit_count ≡ 0 → draft.packet_count ≡ 0
    → draft.distortions ≡ 0 → IsDraft stages.Title draft
unfolding lines_of_draft IsTidy
no_lines draft programs units audios packets no_units no_packets none = record {
  tidy = (programs, units, audios, packets);
  unit_count = no_units;
  packet_count = no_packets;
  distortions = none;
  few_distortions = omega (arith, none);
}

-- the table of the whole programs
pub finished_lines : (draft closed : Draft) (stage : Stage) → Allows stage (Program 0) → IsDraft stage draft → closed ≡ with_program_closed stage draft
    → lines_of_table (record { slot = closed.slot; nodes = closed.nodes; evaluations = closed.evaluations; programs = closed.programs }) ≡ lines_of_draft stage draft
unfolding lines_of_draft
finished_lines draft closed stage allows was is = ap (lines_of_draft stages.Programs) is ∙ program_closed_lines draft stage allows was.tidy
