-- The streams of a program among those of all programs: their items.
use Rattle.std.proofs.Common.{◌≡◌, ℕ, zero, suc, ◌+◌, List, [], ◌∷◌, ◌++◌, All, length, map, drop, Some, None, refl, sym, ap, ◌∙◌, arith}
use Rattle.std.specs.Prelude.{slice_get, slice_index_or}
use Rattle.std.proofs.lemmas.List.{get_or-append-add, length-map}
use Rattle.std.proofs.lemmas.List.Elements.{All-head, All-tail}
use Rattle.std.proofs.lemmas.Option.{none-some, same_Some}
use Rattle.bit_lists.specs.Payload.{Payload}
use Rattle.version_table.specs.declared.table.AudioPacket.{AudioPacket}
use Rattle.version_table.specs.declared.table.ProgramRow.{ProgramRow}
use Rattle.slot_rule.specs.Sent.{choice_from, video_number}
use Rattle.job_report.specs.declared.job.ProgramJob.{ProgramJob}
use Rattle.program_reader.specs.declared.program.AudioSource.{AudioSource}
use Rattle.program_reader.specs.declared.program.Program.{Program}
use Rattle.version_maker.specs.declared.version.UnitVersion.{UnitVersion}
use Rattle.version_source.specs.Pieces.{audio_items, stream_items, video_items}
use Rattle.version_source.specs.Sendable.{IsSendable}
use Rattle.version_source.specs.Versions.{AreAllVersions, AreVideoVersions, ratios_of}
use Rattle.program_table.specs.Table.{audio_row, program_row, program_rows}
use Rattle.job_stream.proofs.NamedVersions.{unit_rows-count}
use Rattle.clean_laws.proofs.Numbers.{choice-behind, number-behind}

-- a program of the table, and the items of its streams
pub record ProgramAt (programs : List Program) (versions : List (List (List UnitVersion))) (choice : List ℕ) (rows : List ProgramRow) (program : ℕ) (row : ProgramRow) : Type 0 where
  pub source : Program
  pub own : List (List UnitVersion)
  pub weight : ℕ
  pub drift : ℕ
  pub coarser : List ℕ
  pub row_is : program_row weight drift source own ≡ row
  pub versions_are : AreVideoVersions source.video coarser None source.units own
  pub sendable : IsSendable source
  pub video : slice_index_or (stream_items programs versions choice) (video_number rows program) [] ≡ video_items source.units own (choice_from rows program choice)
  pub audio : (k : ℕ) (a : AudioSource) → slice_get source.audios k ≡ Some a
      → slice_index_or (stream_items programs versions choice) (video_number rows program + 1 + k) [] ≡ audio_items a

item-of : (audios : List AudioSource) (more : List (List (List Payload))) (k : ℕ) (a : AudioSource) → slice_get audios k ≡ Some a
    → slice_index_or (map audio_items audios ++ more) k [] ≡ audio_items a
item-of [] more k a there = absurd (none-some a there)
item-of (b ∷ bs) more zero a there = ap audio_items (same_Some b a there)
item-of (b ∷ bs) more (suc k) a there = item-of bs more k a there

item-behind : (block more : List (List (List Payload))) (k n : ℕ) → k ≡ length block + n → slice_index_or (block ++ more) k [] ≡ slice_index_or more n []
item-behind block more k n is = ap (λ (m : ℕ). slice_index_or (block ++ more) m []) is ∙ get_or-append-add block more n []

pub program-at : (jobs : List ProgramJob) (programs : List Program) (versions : List (List (List UnitVersion))) (choice : List ℕ) (program : ℕ) (row : ProgramRow)
    → AreAllVersions programs (ratios_of jobs) versions → All IsSendable programs → slice_get (program_rows jobs programs versions) program ≡ Some row
    → ProgramAt programs versions choice (program_rows jobs programs versions) program row
program-at [] programs versions choice program row are sendable there = absurd (none-some row there)
program-at (j ∷ js) [] versions choice program row are sendable there = absurd (none-some row there)
program-at (j ∷ js) (p ∷ ps) [] choice program row are sendable there = absurd (none-some row there)
program-at (j ∷ js) (p ∷ ps) (v ∷ vs) choice zero row are sendable there = record {
  source = p;
  own = v;
  weight = j.weight;
  drift = j.drift;
  coarser = j.coarser.items;
  row_is = same_Some (program_row j.weight j.drift p v) row there;
  versions_are = are.0;
  sendable = All-head IsSendable p ps sendable;
  video = refl;
  audio = λ k a of.
      ap (λ (n : ℕ). slice_index_or (stream_items (p ∷ ps) (v ∷ vs) choice) n []) (let e : 0 + 1 + k ≡ suc k = omega arith in e)
      ∙ item-of p.audios (stream_items ps vs (drop (length p.units) choice)) k a of;
}
program-at (j ∷ js) (p ∷ ps) (v ∷ vs) choice (suc program) row are sendable there =
    let later : List ℕ = drop (length p.units) choice in
    let first : ProgramRow = program_row j.weight j.drift p v in
    let rows : List ProgramRow = program_rows js ps vs in
    let block : List (List (List Payload)) = video_items p.units v choice ∷ map audio_items p.audios in
    let rest : ProgramAt ps vs later rows program row = program-at js ps vs later program row are.1 (All-tail IsSendable p ps sendable) there in
    let size : length block ≡ suc (length p.audios) = ap suc (length-map p.audios audio_items) in
    let audios : length first.audios ≡ length p.audios = length-map p.audios audio_row in
    let number : video_number (first ∷ rows) (suc program) ≡ length block + video_number rows program = omega (arith, number-behind first rows program, size, audios) in
    let part : choice_from rows program later ≡ choice_from (first ∷ rows) (suc program) choice =
    ap (λ (n : ℕ). choice_from rows program (drop n choice)) (sym (unit_rows-count j.weight j.drift p.video j.coarser.items None p.units v are.0)) ∙ choice-behind first rows program choice in
    record {
      source = rest.source;
      own = rest.own;
      weight = rest.weight;
      drift = rest.drift;
      coarser = rest.coarser;
      row_is = rest.row_is;
      versions_are = rest.versions_are;
      sendable = rest.sendable;
      video = item-behind block (stream_items ps vs later) (video_number (first ∷ rows) (suc program)) (video_number rows program) number ∙ rest.video
          ∙ ap (video_items rest.source.units rest.own) part;
      audio = λ k a of.
          item-behind block (stream_items ps vs later) (video_number (first ∷ rows) (suc program) + 1 + k) (video_number rows program + 1 + k) (omega (arith, number)) ∙ rest.audio k a of;
    }

-- the audio source of a row's audio stream
pub audio-source : (audios : List AudioSource) (k : ℕ) (packets : List AudioPacket) → slice_get (map audio_row audios) k ≡ Some packets
    → (a : AudioSource) × (slice_get audios k ≡ Some a) × (audio_row a ≡ packets)
audio-source [] k packets there = absurd (none-some packets there)
audio-source (a ∷ others) zero packets there = (a, refl, same_Some (audio_row a) packets there)
audio-source (a ∷ others) (suc k) packets there = audio-source others k packets there
