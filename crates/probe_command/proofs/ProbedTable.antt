-- The table of a program that is probed.
use Rattle.std.proofs.Common.{◌≡◌, ◌+◌, ◌<◌, ◌≤◌, ℕ, List, [], ◌∷◌, ◌++◌, length, map, sum_by, get_or, refl, sym, ap, subst, ◌∙◌, arith, append-nil}
use Rattle.std.specs.List.{flat_map}
use Rattle.std.proofs.lemmas.List.{length-append, length-map}
use Rattle.std.proofs.lemmas.List.Elements.{All-cons, All-nil}
use Rattle.std.proofs.lemmas.List.Sums.{get_or-le-sum_by, sum_by-cons}
use Rattle.program_reader.specs.ReadProgram.{IsReadProgram}
use Rattle.job_programs.specs.Read.{IsReadProbed}
use Rattle.job_programs.specs.Share.{KeepsShare, audio_packets}
use Rattle.job_programs.specs.declared.limits.TheConstants.{PROBED_AUDIO_PACKETS_MOST}
use Rattle.job_programs.specs.Programs.{IsWithinTime}
use Rattle.job_report.specs.declared.limits.TheConstants.{COARSER_DEFAULT, COARSER_MOST, DRIFT_DEFAULT, EVALUATIONS_DEFAULT, NODES_DEFAULT, PROBE_SLOT, START_DEFAULT, WEIGHT_DEFAULT, WEIGHT_MOST}
use Rattle.job_report.specs.declared.report.Report.{Report}
use Rattle.job_report.specs.declared.report.Report.TheVariants as reports
use Rattle.passed_programs.specs.declared.passed_program.PassedProgram.{PassedProgram}
use Rattle.passed_programs.specs.PassedProgram.{IsReadOff}
use Rattle.program_reader.specs.declared.program.AudioPiece.{AudioPiece}
use Rattle.program_reader.specs.declared.program.AudioSource.{AudioSource}
use Rattle.program_reader.specs.declared.program.Program.{Program}
use Rattle.program_reader.specs.declared.program.UnitSource.{UnitSource}
use Rattle.program_reader.specs.declared.limits.TheConstants.{UNITS_MOST}
use Rattle.program_table.specs.Table.{IsRowOf, audio_row}
use Rattle.version_table.specs.declared.limits.TheConstants.{AUDIO_PACKETS_LIMIT, DISTORTIONS_LIMIT, TEXT_AUDIO_PACKETS_MOST}
use Rattle.version_table.specs.declared.table.AudioPacket.{AudioPacket}
use Rattle.version_table.specs.declared.table.ProgramRow.{ProgramRow}
use Rattle.version_table.specs.declared.table.Table.{Table}
use Rattle.version_table.specs.Table.{IsValidProgram, IsValidTable, greatest_distortion}
use Rattle.version_table.specs.Text.{IsTextTable}
use Rattle.version_table.proofs.Sizes.{spelling_size}
use Rattle.probe_command.specs.Report.{probe_report}

-- the packets of a row's audio streams are as many as those of its program
row_packets : (audios : List AudioSource) → length (flat_map (λ (packets : List AudioPacket). packets) (map audio_row audios)) ≡ audio_packets audios
row_packets [] = refl
row_packets (audio ∷ audios) =
    let here : length (audio_row audio) ≡ length audio.pieces = length-map audio.pieces (λ piece. piece.packet) in
    let both = length-append (audio_row audio) (flat_map (λ (packets : List AudioPacket). packets) (map audio_row audios)) in
    let rest = row_packets audios in
    let all : audio_packets (audio ∷ audios) ≡ length audio.pieces + audio_packets audios = sum_by-cons (λ (a : AudioSource). length a.pieces) audio audios in
    omega (arith, here, both, rest, all)

-- the law that the row of a program has a place in a table
abbrev pub RowsArePlaced : Type 0
RowsArePlaced = (slot start weight : ℕ) (coarser : List ℕ) (program : Program) (row : ProgramRow) → weight ≤ WEIGHT_MOST → length coarser ≤ COARSER_MOST
    → IsReadProgram start program → IsWithinTime slot program → KeepsShare weight DRIFT_DEFAULT coarser program → IsRowOf program coarser weight DRIFT_DEFAULT row
    → IsValidProgram slot row × (length row.units ≤ UNITS_MOST) × (length (flat_map (λ packets. packets) row.audios) < AUDIO_PACKETS_LIMIT)
    × (sum_by greatest_distortion row.units < DISTORTIONS_LIMIT)

-- the table of a program that is probed
abbrev pub table_of_row : ProgramRow → Table
table_of_row row = record { slot = PROBE_SLOT; nodes = NODES_DEFAULT; evaluations = EVALUATIONS_DEFAULT; programs = row ∷ [] }

-- a text may hold it
row_is_text : RowsArePlaced → (number : ℕ) (program : Program) (row : ProgramRow) → IsReadProbed PROBE_SLOT START_DEFAULT number [] program
    → IsRowOf program COARSER_DEFAULT WEIGHT_DEFAULT DRIFT_DEFAULT row → IsTextTable (table_of_row row)
row_is_text law number program row probed is =
    let placed = law PROBE_SLOT START_DEFAULT WEIGHT_DEFAULT COARSER_DEFAULT program row (omega arith) (omega arith) probed.read_for.read probed.read_for.within probed.read_for.share is in
    let same : length (flat_map (λ (packets : List AudioPacket). packets) row.audios) ≡ audio_packets program.audios =
    ap (λ (r : ProgramRow). length (flat_map (λ (packets : List AudioPacket). packets) r.audios)) is.row_is ∙ row_packets program.audios in
    let units : length (row.units ++ []) ≡ length row.units = ap length (append-nil row.units) in
    let packets : length (flat_map (λ (p : List AudioPacket). p) row.audios ++ []) ≡ length (flat_map (λ (p : List AudioPacket). p) row.audios) =
    ap length (append-nil (flat_map (λ (p : List AudioPacket). p) row.audios)) in
    let few : length row.units ≤ UNITS_MOST = placed.1 in
    let sum : sum_by greatest_distortion (row.units ++ []) ≡ sum_by greatest_distortion row.units = ap (sum_by greatest_distortion) (append-nil row.units) in
    let valid : IsValidTable (table_of_row row) = record {
      slot_least = omega arith;
      slot_most = omega arith;
      some_nodes = omega arith;
      nodes = omega arith;
      evaluations = omega arith;
      few_programs = omega arith;
      programs = All-cons (IsValidProgram PROBE_SLOT) row [] placed.0 (All-nil (IsValidProgram PROBE_SLOT));
      units = omega (arith, units, few);
      audio_packets = omega (arith, packets, placed.2);
      distortions = omega (arith, sum, placed.3);
    } in
    let few_packets : length (flat_map (λ (p : List AudioPacket). p) row.audios ++ []) ≤ PROBED_AUDIO_PACKETS_MOST = omega (arith, packets, same, probed.few_packets) in
    let text_packets : length (flat_map (λ (p : List AudioPacket). p) row.audios ++ []) ≤ TEXT_AUDIO_PACKETS_MOST = omega (arith, few_packets) in
    record {
      valid = valid;
      few_packets = text_packets;
      short = omega (arith, spelling_size (table_of_row row) valid, units, few, few_packets);
    }

pub is_text_table : RowsArePlaced → (number : ℕ) (program : Program) (row : ProgramRow) (programs : List ProgramRow)
    → IsReadProbed PROBE_SLOT START_DEFAULT number [] program → IsRowOf program COARSER_DEFAULT WEIGHT_DEFAULT DRIFT_DEFAULT row → programs ≡ row ∷ []
    → IsTextTable (record { slot = PROBE_SLOT; nodes = NODES_DEFAULT; evaluations = EVALUATIONS_DEFAULT; programs = programs })
is_text_table law number program row programs probed is alone =
    subst (λ (rows : List ProgramRow). IsTextTable (record { slot = PROBE_SLOT; nodes = NODES_DEFAULT; evaluations = EVALUATIONS_DEFAULT; programs = rows })) (sym alone)
    (row_is_text law number program row probed is)

-- no audio stream has more packets than all together
pub few_of_all : (audios : List (List AudioPiece)) (i : ℕ) (pieces : List AudioPiece) (most : ℕ) → i < length audios → pieces ≡ get_or audios i pieces → sum_by length audios ≤ most
    → length pieces ≤ most
few_of_all audios i pieces most within is few =
    let one : length (get_or audios i pieces) ≤ sum_by length audios = get_or-le-sum_by length audios i pieces within in
    let same : length pieces ≡ length (get_or audios i pieces) = ap length is in
    omega (arith, one, same, few)

-- ---- what is reported

counts_off : (audios : List AudioSource) → map length (map (λ (audio : AudioSource). audio.pieces) audios) ≡ map (λ (audio : AudioSource). length audio.pieces) audios
counts_off [] = refl
counts_off (audio ∷ audios) = ap (λ (counts : List ℕ). length audio.pieces ∷ counts) (counts_off audios)

abbrev report_with : List ℕ → ℕ → Report
report_with counts units = reports.Probe counts units

-- what is counted of what is read off a program
pub report_off : (program : Program) (passed : PassedProgram) (audios : List (List AudioPiece)) (counts : List ℕ) (units : ℕ) → IsReadOff program passed → audios ≡ passed.audios
    → counts ≡ map length audios → units ≡ length passed.units → report_with counts units ≡ probe_report program
report_off program passed audios counts units off audios_are counts_are units_are =
    ap (λ (n : ℕ). report_with counts n) (units_are ∙ ap (λ (us : List UnitSource). length us) off.units_are)
    ∙ ap (λ (those : List ℕ). report_with those (length program.units))
    (counts_are ∙ ap (λ (those : List (List AudioPiece)). map length those) (audios_are ∙ off.audios_are) ∙ counts_off program.audios)
