-- The lines of a table that a text may hold stand in order and keep all limits.
use Rattle.std.proofs.Common.{◌≡◌, ℕ, ◌+◌, ◌<◌, ◌≤◌, true, List, [], ◌∷◌, ◌++◌, length, map, count_by, sum_by, All, Option, refl, sym, ap, subst, ◌∙◌, append_assoc, arith, lt-ltb}
use Rattle.std.specs.List.{flat_map}
use Rattle.std.proofs.lemmas.List.{append-nil, length-append, length-map}
use Rattle.std.proofs.lemmas.List.Sums.{sum_by-cons, sum_by-append, sum_by_push}
use Rattle.std.proofs.lemmas.List.Elements.{All-head, All-tail, All-map, All-weaker}
use Rattle.version_table.specs.declared.limits.TheConstants.{SLOT_MOST, PROGRAMS_MOST, AUDIOS_MOST, UNITS_MOST, DISTORTIONS_LIMIT, TEXT_AUDIO_PACKETS_MOST}
use Rattle.version_table.specs.declared.line.Line.{Line}
use Rattle.version_table.specs.declared.line.Line.TheVariants.{Title, Slot, Nodes, Evaluations, Program, Audio}
use Rattle.version_table.specs.declared.line.Stage.{Stage}
use Rattle.version_table.specs.declared.line.Stage.TheVariants as stages
use Rattle.version_table.specs.declared.table.Unit.{Unit as CodedUnit}
use Rattle.version_table.specs.declared.table.AudioPacket.{AudioPacket}
use Rattle.version_table.specs.declared.table.ProgramRow.{ProgramRow}
use Rattle.version_table.specs.declared.table.Table.{Table}
use Rattle.version_table.specs.Table.{greatest_distortion, IsValidVersion, IsValidUnit, IsValidPacket, IsValidAudio, IsValidProgram}
use Rattle.version_table.specs.Lines.{stated, line_of_unit, line_of_packet, lines_of_audio, lines_of_program, lines_of_table}
use Rattle.version_table.specs.Order.{last_line, IsStatedVersion, HasSyntax, MayFollow, LineMayStand, IsForm}
use Rattle.version_table.specs.Limits.{is_program, is_unit, begins_audio, is_packet, audios_here, is_due_later, packet_due, packet_gone, greatest_stated, KeepLimits}
use Rattle.version_table.specs.Text.{IsTextTable}
use Rattle.version_table.specs.Private.Draft.{stage_after, Allows}
use Rattle.version_table.proofs.Greatest.{greatest_of_program, greatest_of_unit}
use Rattle.version_table.proofs.Kept.{KeepsVersion, Keeps, keeps_to}
use Rattle.version_table.proofs.Counts.{last_line_push, count-append, count-cons, count_push, count_none, count_each, programs_in_audios, audios_here-append, audios_here_push}
use Rattle.version_table.proofs.LineTexts.{any_program}
use Rattle.version_table.proofs.Openings.{stage_of, stage_of_push, allows_follows, Walk, walk_to, walk_append, walk_opening, Kept}
use Rattle.version_table.proofs.Rising.{Adjacent, rising_adjacent, steady_adjacent}

-- a line may stand behind others and keeps all limits there
abbrev pub Good : List Line → Line → Type 0
Good before line = LineMayStand before line × Keeps before line

-- lines behind a title and a slot line
abbrev pub behind : ℕ → List Line → List Line
behind slot more = Title ∷ Slot slot ∷ more

may_stand : (before : List Line) (line : Line) (stage : Stage) → stage_of before ≡ stage → Allows stage line → HasSyntax line → LineMayStand before line
may_stand before line stage at allows syntax = (allows_follows (last_line before) line (subst (λ (s : Stage). Allows s line) (sym at) allows), syntax)

-- the stage behind lines of one kind
stage_all : {X : Type 0} (f : X → Line) (stage : Stage) → ((x : X) → stage_after (f x) ≡ stage) → (before : List Line) (xs : List X) → stage_of before ≡ stage → stage_of (before ++ map f xs) ≡ stage
stage_all f stage same before [] at = ap stage_of (append-nil before) ∙ at
stage_all f stage same before (x ∷ xs) at =
    ap stage_of (sym (append_assoc before (f x ∷ []) (map f xs))) ∙ stage_all f stage same (before ++ f x ∷ []) xs (stage_of_push before (f x) ∙ same x)

-- ---- units

abbrev pub RisesTo : Option Line → List CodedUnit → Type 0
RisesTo last [] = Unit {0}
RisesTo last (unit ∷ units) = is_due_later last unit.due ≡ true

unit_syntax : (slot : ℕ) (unit : CodedUnit) → slot ≤ SLOT_MOST → IsValidUnit slot unit → HasSyntax (line_of_unit unit)
unfolding HasSyntax
unit_syntax slot unit small valid =
    let versions = unit.versions.items in
    let len = length-map versions stated in (
      omega (arith, valid.due),
      omega (arith, valid.some_version),
      omega (arith, valid.few_versions),
      All-map IsStatedVersion stated versions (All-weaker IsValidVersion (λ v. IsStatedVersion (stated v)) (λ v h. (omega (arith, h.bytes), omega (arith, h.distortion))) versions valid.versions),
    )

unit_versions : (slot : ℕ) (unit : CodedUnit) → IsValidUnit slot unit → All KeepsVersion (map stated unit.versions.items)
unit_versions slot unit valid =
    All-map KeepsVersion stated unit.versions.items (All-weaker IsValidVersion (λ v. KeepsVersion (stated v))
    (λ v h. record { some = h.some_bytes; bytes = h.bytes; distortion = h.distortion }) unit.versions.items valid.versions)

units_good : (slot : ℕ) (more : List Line) (units : List CodedUnit) → slot ≤ SLOT_MOST → stage_of (behind slot more) ≡ stages.Units → All (IsValidUnit slot) units
    → RisesTo (last_line (behind slot more)) units → Adjacent ◌<◌ (map (λ unit. unit.due) units) → count_by is_unit (behind slot more) + length units ≤ UNITS_MOST
    → sum_by greatest_stated (behind slot more) + sum_by greatest_distortion units < DISTORTIONS_LIMIT → Walk Good (behind slot more) (map line_of_unit units)
units_good slot more [] small at valid first rising few room = tt
units_good slot more (unit ∷ units) small at valid first rising few room =
    let before = behind slot more in
    let here = All-head (IsValidUnit slot) unit units valid in
    let line = line_of_unit unit in
    let own = greatest_of_unit unit in
    let sum = sum_by-cons greatest_distortion unit units in
    let keeps : Keeps before line = record {
      units = omega arith;
      time = here.due;
      rising = first;
      each = unit_versions slot unit here;
      distortions = omega (arith, own, sum, room);
    } in
    let more_sum = sum_by_push greatest_stated before line in
    let count = count_push is_unit before line in (
      (may_stand before line stages.Units at tt (unit_syntax slot unit small here), keeps),
      units_good slot (more ++ line ∷ []) units small (stage_of_push before line) (All-tail (IsValidUnit slot) unit units valid) (next units rising) (rest units rising) (omega arith)
          (omega (arith, own, sum, more_sum, room)),
    )
  where
    next : (units : List CodedUnit) → Adjacent ◌<◌ (unit.due ∷ map (λ c. c.due) units) → RisesTo (last_line (behind slot (more ++ line_of_unit unit ∷ []))) units
    next [] rising = tt
    next (other ∷ units) rising = ap (λ (last : Option Line). is_due_later last other.due) (last_line_push (behind slot more) (line_of_unit unit)) ∙ lt-ltb unit.due other.due rising.0

    rest : (units : List CodedUnit) → Adjacent ◌<◌ (unit.due ∷ map (λ c. c.due) units) → Adjacent ◌<◌ (map (λ c. c.due) units)
    rest [] rising = tt
    rest (other ∷ units) rising = rising.1

-- ---- packets

abbrev pub ComesTo : Option Line → List AudioPacket → Type 0
ComesTo last [] = Unit {0}
ComesTo last (packet ∷ packets) = (packet_due last ≤ packet.due) × (packet_gone last ≤ packet.gone)

tail_of : (R : ℕ → ℕ → Type 0) (x : ℕ) (xs : List ℕ) → Adjacent R (x ∷ xs) → Adjacent R xs
tail_of R x [] h = tt
tail_of R x (y ∷ xs) h = h.1

packets_good : (slot : ℕ) (more : List Line) (packets : List AudioPacket) → slot ≤ SLOT_MOST → stage_of (behind slot more) ≡ stages.Packets → All (IsValidPacket slot) packets
    → ComesTo (last_line (behind slot more)) packets → Adjacent ◌≤◌ (map (λ packet. packet.due) packets) → Adjacent ◌≤◌ (map (λ packet. packet.gone) packets)
    → count_by is_packet (behind slot more) + length packets ≤ TEXT_AUDIO_PACKETS_MOST → Walk Good (behind slot more) (map line_of_packet packets)
unfolding HasSyntax
packets_good slot more [] small at valid first dues gones few = tt
packets_good slot more (packet ∷ packets) small at valid first dues gones few =
    let before = behind slot more in
    let here = All-head (IsValidPacket slot) packet packets valid in
    let line = line_of_packet packet in
    let keeps : Keeps before line = record {
      packets = omega arith;
      dues = first.0;
      due_most = omega (arith, here.due, here.gone);
      gone_least = here.due;
      gone_most = here.gone;
      gones = first.1;
      some = here.some_bytes;
      bytes_most = here.bytes;
    } in
    let count = count_push is_packet before line in (
      (may_stand before line stages.Packets at tt (omega (arith, here.due, here.gone), omega (arith, here.gone), omega (arith, here.bytes)), keeps),
      packets_good slot (more ++ line ∷ []) packets small (stage_of_push before line) (All-tail (IsValidPacket slot) packet packets valid) (next packets dues gones)
          (tail_of ◌≤◌ packet.due (map (λ p. p.due) packets) dues) (tail_of ◌≤◌ packet.gone (map (λ p. p.gone) packets) gones) (omega arith),
    )
  where
    next : (packets : List AudioPacket) → Adjacent ◌≤◌ (packet.due ∷ map (λ p. p.due) packets)
        → Adjacent ◌≤◌ (packet.gone ∷ map (λ p. p.gone) packets) → ComesTo (last_line (behind slot (more ++ line_of_packet packet ∷ []))) packets
    next [] dues gones = tt
    next (other ∷ packets) dues gones =
        let last = last_line_push (behind slot more) (line_of_packet packet) in
        (omega (arith, ap packet_due last, dues.0), omega (arith, ap packet_gone last, gones.0))

-- ---- audio streams

pub packets_in_stream : (packets : List AudioPacket) → count_by is_packet (lines_of_audio packets) ≡ length packets
packets_in_stream packets = omega (arith, count-cons is_packet Audio (map line_of_packet packets), count_each is_packet line_of_packet (λ _. refl) packets)

pub audios_in_stream : (before : List Line) (packets : List AudioPacket) → audios_here (before ++ lines_of_audio packets) ≡ audios_here before + 1
audios_in_stream before packets =
    let none : count_by is_program (lines_of_audio packets) ≡ 0 = omega (arith, count-cons is_program Audio (map line_of_packet packets), count_none is_program line_of_packet (λ _. refl) packets) in
    audios_here-append before (lines_of_audio packets) none
    ∙ omega (arith, count-cons begins_audio Audio (map line_of_packet packets), count_none begins_audio line_of_packet (λ _. refl) packets)

stage_stream : (before : List Line) (packets : List AudioPacket) → stage_of (before ++ lines_of_audio packets) ≡ stages.Packets
stage_stream before packets =
    ap stage_of (sym (append_assoc before (Audio ∷ []) (map line_of_packet packets)))
    ∙ stage_all line_of_packet stages.Packets (λ _. refl) (before ++ Audio ∷ []) packets (stage_of_push before Audio)

abbrev pub packets_of : List (List AudioPacket) → List AudioPacket
packets_of audios = flat_map (λ packets. packets) audios

stream_good : (slot : ℕ) (more : List Line) (packets : List AudioPacket) → slot ≤ SLOT_MOST → Allows (stage_of (behind slot more)) Audio → IsValidAudio slot packets
    → audios_here (behind slot more) < AUDIOS_MOST → count_by is_packet (behind slot more) + length packets ≤ TEXT_AUDIO_PACKETS_MOST → Walk Good (behind slot more) (lines_of_audio packets)
unfolding HasSyntax
stream_good slot more packets small allows valid audios few =
    let before = behind slot more in
    let count = count_push is_packet before Audio in
    let first : ComesTo (last_line (behind slot (more ++ Audio ∷ []))) packets = begins packets in (
      ((allows_follows (last_line before) Audio allows, tt), audios),
      packets_good slot (more ++ Audio ∷ []) packets small (stage_of_push before Audio) valid.each first
          (steady_adjacent (map (λ p. p.due) packets) valid.dues) (steady_adjacent (map (λ p. p.gone) packets) valid.gones) (omega arith),
    )
  where
    begins : (packets : List AudioPacket) → ComesTo (last_line (behind slot (more ++ Audio ∷ []))) packets
    begins [] = tt
    begins (packet ∷ packets) =
        let last = last_line_push (behind slot more) Audio in
        (omega (arith, ap packet_due last), omega (arith, ap packet_gone last))

audios_good : (slot : ℕ) (more : List Line) (audios : List (List AudioPacket)) → slot ≤ SLOT_MOST → Allows (stage_of (behind slot more)) Audio → All (IsValidAudio slot) audios
    → audios_here (behind slot more) + length audios ≤ AUDIOS_MOST
    → count_by is_packet (behind slot more) + length (packets_of audios) ≤ TEXT_AUDIO_PACKETS_MOST
    → Walk Good (behind slot more) (flat_map lines_of_audio audios)
audios_good slot more [] small allows valid few few_packets = tt
audios_good slot more (packets ∷ audios) small allows valid few few_packets =
    let before = behind slot more in
    let stream = lines_of_audio packets in
    let here = All-head (IsValidAudio slot) packets audios valid in
    let len = length-append packets (packets_of audios) in
    let counted = count-append is_packet before stream in
    let one = packets_in_stream packets in
    let more_audios = audios_in_stream before packets in
    walk_append Good before stream (flat_map lines_of_audio audios)
    (stream_good slot more packets small allows here (omega arith) (omega arith))
    (audios_good slot (more ++ stream) audios small (subst (λ (s : Stage). Allows s Audio) (sym (stage_stream before packets)) tt)
    (All-tail (IsValidAudio slot) packets audios valid) (omega arith) (omega arith))

-- ---- programs

packets_in_audios : (audios : List (List AudioPacket)) → count_by is_packet (flat_map lines_of_audio audios) ≡ length (packets_of audios)
packets_in_audios [] = refl
packets_in_audios (packets ∷ audios) =
    omega (arith, count-append is_packet (lines_of_audio packets) (flat_map lines_of_audio audios), packets_in_stream packets, packets_in_audios audios, length-append packets (packets_of audios))

units_in_audios : (audios : List (List AudioPacket)) → count_by is_unit (flat_map lines_of_audio audios) ≡ 0
units_in_audios [] = refl
units_in_audios (packets ∷ audios) =
    omega (
      arith,
      count-append is_unit (lines_of_audio packets) (flat_map lines_of_audio audios),
      count-cons is_unit Audio (map line_of_packet packets),
      count_none is_unit line_of_packet (λ _. refl) packets,
      units_in_audios audios,
    )

-- a program may come behind streams
stage_audios : (before : List Line) (audios : List (List AudioPacket)) → Allows (stage_of before) Audio → Allows (stage_of (before ++ flat_map lines_of_audio audios)) Audio
stage_audios before [] allows = subst (λ (ls : List Line). Allows (stage_of ls) Audio) (sym (append-nil before)) allows
stage_audios before (packets ∷ audios) allows =
    subst (λ (ls : List Line). Allows (stage_of ls) Audio) (append_assoc before (lines_of_audio packets) (flat_map lines_of_audio audios))
    (stage_audios (before ++ lines_of_audio packets) audios (subst (λ (s : Stage). Allows s Audio) (sym (stage_stream before packets)) tt))

-- where a stream may come, so may a program
audio_program : (stage : Stage) → Allows stage Audio → Allows stage (Program 0)
audio_program stages.Title h = h
audio_program stages.Units h = h
audio_program stages.Packets h = h
audio_program stage h = absurd h

-- what one program adds to the counts
pub record ProgramAdds (before : List Line) (program : ProgramRow) : Type 0 where
  pub units : count_by is_unit (before ++ lines_of_program program) ≡ count_by is_unit before + length program.units
  pub packets : count_by is_packet (before ++ lines_of_program program) ≡ count_by is_packet before + length (packets_of program.audios)
  pub programs : count_by is_program (before ++ lines_of_program program) ≡ count_by is_program before + 1
  pub distortions : sum_by greatest_stated (before ++ lines_of_program program) ≡ sum_by greatest_stated before + sum_by greatest_distortion program.units

pub program_adds : (before : List Line) (program : ProgramRow) → ProgramAdds before program
program_adds before program =
    let front = Program program.vbv ∷ map line_of_unit program.units in
    let audios = flat_map lines_of_audio program.audios in
    record {
      units = omega (
        arith,
        count-append is_unit before (front ++ audios),
        count-append is_unit front audios,
        count-cons is_unit (Program program.vbv) (map line_of_unit program.units),
        count_each is_unit line_of_unit (λ _. refl) program.units,
        units_in_audios program.audios,
      );
      packets = omega (
        arith,
        count-append is_packet before (front ++ audios),
        count-append is_packet front audios,
        count-cons is_packet (Program program.vbv) (map line_of_unit program.units),
        count_none is_packet line_of_unit (λ _. refl) program.units,
        packets_in_audios program.audios,
      );
      programs = omega (
        arith,
        count-append is_program before (front ++ audios),
        count-append is_program front audios,
        count-cons is_program (Program program.vbv) (map line_of_unit program.units),
        count_none is_program line_of_unit (λ _. refl) program.units,
        programs_in_audios program.audios,
      );
      distortions = greatest_of_program before program;
    }

program_good : (slot : ℕ) (more : List Line) (program : ProgramRow) → slot ≤ SLOT_MOST → Allows (stage_of (behind slot more)) (Program 0) → IsValidProgram slot program
    → count_by is_program (behind slot more) < PROGRAMS_MOST → count_by is_unit (behind slot more) + length program.units ≤ UNITS_MOST
    → count_by is_packet (behind slot more) + length (packets_of program.audios) ≤ TEXT_AUDIO_PACKETS_MOST
    → sum_by greatest_stated (behind slot more) + sum_by greatest_distortion program.units < DISTORTIONS_LIMIT → Walk Good (behind slot more) (lines_of_program program)
unfolding HasSyntax
program_good slot more program small allows valid few few_units few_packets room =
    let before = behind slot more in
    let line = Program program.vbv in
    let units = map line_of_unit program.units in
    let begun = behind slot (more ++ line ∷ []) in
    let at : stage_of begun ≡ stages.Units = stage_of_push before line in
    let with_units : stage_of (begun ++ units) ≡ stages.Units = stage_all line_of_unit stages.Units (λ _. refl) begun program.units at in
    let no_audios : audios_here begun ≡ 0 = audios_here_push before line in
    let no_program : count_by is_program units ≡ 0 = count_none is_program line_of_unit (λ _. refl) program.units in
    let none_yet : audios_here (begun ++ units) ≡ 0 = audios_here-append begun units no_program ∙ omega (arith, no_audios, count_none begins_audio line_of_unit (λ _. refl) program.units) in
    let unit_count = count_push is_unit before line in
    let packet_count = count_push is_packet before line in
    let packets_behind : count_by is_packet (begun ++ units)
    ≡ count_by is_packet before = omega (arith, count-append is_packet begun units, count_none is_packet line_of_unit (λ _. refl) program.units)
    in
    let keeps : Keeps before line = record { programs = few; some = valid.some_vbv; vbv_most = valid.vbv } in (
      ((allows_follows (last_line before) line (any_program (stage_of before) program.vbv allows), omega (arith, valid.vbv)), keeps),
      walk_append Good begun units (flat_map lines_of_audio program.audios)
          (units_good slot (more ++ line ∷ []) program.units small at valid.units (begins program.units) (rising_adjacent (map (λ c. c.due) program.units) valid.dues) (omega arith)
          (omega (arith, room, sum_by_push greatest_stated before line)))
          (audios_good slot (more ++ line ∷ [] ++ units) program.audios small (subst (λ (s : Stage). Allows s Audio) (sym with_units) tt) valid.audios (omega (arith, valid.few_audios)) (omega arith)),
    )
  where
    begins : (units : List CodedUnit) → RisesTo (last_line (behind slot (more ++ Program program.vbv ∷ []))) units
    begins [] = tt
    begins (unit ∷ units) = ap (λ (last : Option Line). is_due_later last unit.due) (last_line_push (behind slot more) (Program program.vbv))

-- a program may come behind a program
pub stage_program : (before : List Line) (program : ProgramRow) → Allows (stage_of (before ++ lines_of_program program)) (Program 0)
stage_program before program =
    let line = Program program.vbv in
    let units = map line_of_unit program.units in
    let audios = flat_map lines_of_audio program.audios in
    let begun = before ++ line ∷ [] in
    let with_units : stage_of (begun ++ units) ≡ stages.Units = stage_all line_of_unit stages.Units (λ _. refl) begun program.units (stage_of_push before line) in
    let whole : begun ++ units ++ audios ≡ before ++ lines_of_program program = append_assoc begun units audios ∙ append_assoc before (line ∷ []) (units ++ audios) in
    audio_program (stage_of (before ++ lines_of_program program))
    (subst (λ (ls : List Line). Allows (stage_of ls) Audio) whole (stage_audios (begun ++ units) program.audios (subst (λ (s : Stage). Allows s Audio) (sym with_units) tt)))

abbrev pub units_in : List ProgramRow → List CodedUnit
units_in programs = flat_map (λ program. program.units) programs

abbrev pub packets_in : List ProgramRow → List AudioPacket
packets_in programs = flat_map (λ program. packets_of program.audios) programs

programs_good : (slot : ℕ) (more : List Line) (programs : List ProgramRow) → slot ≤ SLOT_MOST → Allows (stage_of (behind slot more)) (Program 0) → All (IsValidProgram slot) programs
    → count_by is_program (behind slot more) + length programs ≤ PROGRAMS_MOST → count_by is_unit (behind slot more) + length (units_in programs) ≤ UNITS_MOST
    → count_by is_packet (behind slot more) + length (packets_in programs) ≤ TEXT_AUDIO_PACKETS_MOST
    → sum_by greatest_stated (behind slot more) + sum_by greatest_distortion (units_in programs) < DISTORTIONS_LIMIT → Walk Good (behind slot more) (flat_map lines_of_program programs)
programs_good slot more [] small allows valid few few_units few_packets room = tt
programs_good slot more (program ∷ programs) small allows valid few few_units few_packets room =
    let before = behind slot more in
    let lines = lines_of_program program in
    let adds = program_adds before program in
    let units = length-append program.units (units_in programs) in
    let packets = length-append (packets_of program.audios) (packets_in programs) in
    let sum = sum_by-append greatest_distortion program.units (units_in programs) in
    walk_append Good before lines (flat_map lines_of_program programs)
    (program_good slot more program small allows (All-head (IsValidProgram slot) program programs valid) (omega arith) (omega arith) (omega arith) (omega (arith, sum, room)))
    (programs_good slot (more ++ lines) programs small (stage_program before program) (All-tail (IsValidProgram slot) program programs valid)
    (omega (arith, adds.programs)) (omega (arith, adds.units)) (omega (arith, adds.packets)) (omega (arith, adds.distortions, sum, room)))

table_good : (table : Table) → IsTextTable table → Walk Good [] (lines_of_table table)
unfolding HasSyntax MayFollow
table_good table h =
    let valid = h.valid in
    let head = Nodes table.nodes ∷ Evaluations table.evaluations ∷ [] in
    let programs = programs_good table.slot head table.programs valid.slot_most tt valid.programs (omega (arith, valid.few_programs)) (omega (arith, valid.units)) (omega (arith, h.few_packets)) (omega (arith, valid.distortions)) in (
      ((tt, tt), tt),
      (
        ((tt, omega (arith, valid.slot_most)), (valid.slot_least, valid.slot_most)),
        (((tt, omega (arith, valid.nodes)), (valid.some_nodes, valid.nodes)), (((tt, omega (arith, valid.evaluations)), valid.evaluations), programs)),
      ),
    )

walk_weaker : (R Q : List Line → Line → Type 0) → ((before : List Line) (line : Line) → R before line → Q before line) → (before lines : List Line) → Walk R before lines → Walk Q before lines
walk_weaker R Q leads before [] walk = tt
walk_weaker R Q leads before (line ∷ lines) walk = (leads before line walk.0, walk_weaker R Q leads (before ++ line ∷ []) lines walk.1)

-- the lines of a table have the form of a text
pub table_form : (table : Table) → IsTextTable table → IsForm (lines_of_table table)
table_form table h =
    (walk_opening (lines_of_table table) (walk_weaker Good LineMayStand (λ before line good. good.0) [] (lines_of_table table) (table_good table h)), omega arith)

-- and keep all limits
pub table_kept : (table : Table) → IsTextTable table → KeepLimits (lines_of_table table)
table_kept table h =
    walk_to Kept (lines_of_table table) (walk_weaker Good Kept (λ before line good. keeps_to before line good.1) [] (lines_of_table table) (table_good table h))
