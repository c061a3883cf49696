-- The lanes of all programs of a job: that they can be sent, and what they send.
use Rattle.std.proofs.Common.{◌≡◌, ℕ, zero, suc, ◌<◌, ◌≤◌, Bool, true, false, if◌then◌else◌, List, [], ◌∷◌, ◌++◌, All, length, map, take, drop, unwrap_or}
use Rattle.std.proofs.Common.{Option, Some, None, IfSome, refl, ap, ap₂, subst, sym, ◌∙◌, arith, length-append}
use Rattle.std.specs.FinMap.{get}
use Rattle.std.specs.List.{AllZip, flat_map, sum_by}
use Rattle.std.proofs.lemmas.List.{drop_at, take_at}
use Rattle.std.proofs.lemmas.List.Elements.{All-cons, All-head, All-nil, All-tail}
use Rattle.std.proofs.lemmas.List.Sums.{sum_by-cons}
use Rattle.shelf_io.specs.Files.{Files, content_of}
use Rattle.bit_lists.specs.Payload.{Payload}
use Rattle.pes_units.specs.PesPackets.{is_dropped}
use Rattle.pes_units.specs.PesPieces.{pes_pieces}
use Rattle.ts_demux.specs.declared.demuxed.AudioStream.{AudioStream}
use Rattle.ts_demux.specs.declared.demuxed.PesUnit.{PesUnit}
use Rattle.audio_frames.specs.declared.frame.Frame.{Frame}
use Rattle.elementary_streams.specs.Packets.{taken}
use Rattle.job_report.specs.declared.job.Form.{Form}
use Rattle.job_report.specs.declared.job.Form.TheVariants.{Ts}
use Rattle.job_report.specs.declared.job.Job.{Job}
use Rattle.job_report.specs.declared.job.ProgramJob.{ProgramJob}
use Rattle.version_table.specs.declared.table.ProgramRow.{ProgramRow}
use Rattle.version_table.specs.declared.table.Table.{Table}
use Rattle.version_table.specs.Choice.{Fits, HasVersion}
use Rattle.program_reader.specs.Audio.{AreAudioSources}
use Rattle.program_reader.specs.declared.limits.TheConstants.{FILE_BYTES_MOST}
use Rattle.program_reader.specs.declared.program.AudioSource.{AudioSource}
use Rattle.program_reader.specs.declared.program.Program.{Program}
use Rattle.program_reader.specs.declared.program.UnitSource.{UnitSource}
use Rattle.program_reader.specs.Programs.{IsProgramOfFile}
use Rattle.program_reader.specs.ReadProgram.{IsReadProgram, IsSmall}
use Rattle.job_programs.specs.Programs.{AreNextPrograms}
use Rattle.job_programs.specs.Read.{AreReadEach}
use Rattle.job_programs.specs.Told.{AreProgramsOn, HoldContents}
use Rattle.version_maker.specs.declared.version.UnitVersion.{UnitVersion}
use Rattle.version_source.specs.Pieces.{HasPiece, audio_items, pes_packet, stream_items, video_items}
use Rattle.version_source.specs.Sendable.{IsSendable}
use Rattle.version_source.specs.Versions.{AreAllVersions, NamesVersions, chosen_bytes, ratios_of}
use Rattle.program_table.specs.Table.{IsTableOf, program_row, program_rows, unit_rows}
use Rattle.job_stream.specs.Private.Outgoing.{CanGoOut}
use Rattle.job_stream.proofs.NamedVersions.{IsSplit, all_units, choice-names, unit_rows-count, zip-length, zip-split}
use Rattle.file_pieces.specs.declared.lane.Lane.{Lane}
use Rattle.file_pieces.specs.FilePieces.{AreHeld, AreLanesVersions, LanesHave, lane_items, lanes_items}
use Rattle.job_pieces.specs.JobLanes.{AreJobLanes, HasPidsApart, IsSentProgram}
use Rattle.job_pieces.proofs.OneProgram.{HaveItems, HoldAudios, HoldVideos, IsReady, IsSentOf, SendAudios, SendVideos, items_are, lanes_have, lanes_held}
use Rattle.job_pieces.proofs.OneProgram.{versions_are, versions_of}

-- ---- the audio streams of a program that was read are small

raw_bytes : (packets : List PesUnit) → length (flat_map (λ (p : PesUnit). p.bytes) (taken false packets)) ≤ sum_by (λ (p : PesUnit). length p.bytes) packets
raw_bytes [] = omega arith
raw_bytes (p ∷ []) = by_test (is_dropped false p.bytes)
  where
    by_test : (dropped : Bool) → length (flat_map (λ (q : PesUnit). q.bytes) (if dropped then [] else p ∷ [])) ≤ sum_by (λ (q : PesUnit). length q.bytes) (p ∷ [])
    by_test true = omega arith
    by_test false = omega (arith, sum_by-cons (λ (q : PesUnit). length q.bytes) p [], length-append p.bytes [])
raw_bytes (p ∷ q ∷ ps) =
    let rest : length (flat_map (λ (x : PesUnit). x.bytes) (taken false (q ∷ ps))) ≤ sum_by (λ (x : PesUnit). length x.bytes) (q ∷ ps) = raw_bytes (q ∷ ps) in
    omega (arith, rest, sum_by-cons (λ (x : PesUnit). length x.bytes) p (q ∷ ps), length-append p.bytes (flat_map (λ (x : PesUnit). x.bytes) (taken false (q ∷ ps))))

abbrev IsFew : AudioSource → Type 0
IsFew audio = length audio.bytes ≤ FILE_BYTES_MOST

sources_small : (start : ℕ) (earliest : _) (streams : List AudioStream) (frames : List (List Frame)) (sources : List AudioSource) → AreAudioSources start earliest streams frames sources
    → All (λ (stream : AudioStream). IsSmall stream.units) streams → All IsFew sources
sources_small start earliest [] [] [] are small = All-nil IsFew
sources_small start earliest [] [] (s ∷ ss) are small = absurd are
sources_small start earliest [] (f ∷ fs) sources are small = absurd are
sources_small start earliest (x ∷ xs) [] sources are small = absurd are
sources_small start earliest (x ∷ xs) (f ∷ fs) [] are small = absurd are
sources_small start earliest (x ∷ xs) (f ∷ fs) (s ∷ ss) are small =
    let here : IsSmall x.units = All-head (λ (stream : AudioStream). IsSmall stream.units) x xs small in
    All-cons IsFew s ss (let size = ap length are.0.bytes in let fits = raw_bytes x.units in omega (arith, here, size, fits))
    (sources_small start earliest xs fs ss are.1 (All-tail (λ (stream : AudioStream). IsSmall stream.units) x xs small))

audios_small : (start : ℕ) (program : Program) → IsReadProgram start program → All IsFew program.audios
audios_small start program read =
    sources_small start read.program_is.earliest read.demuxed.audios read.program_is.frames program.audios read.program_is.audios_are read.within.audios_small

-- ---- what is known of all programs

abbrev pub AreReadyAll : Option Files → (start : ℕ) → List ProgramJob → List Program → List (List (List UnitVersion)) → (choice : List ℕ) → Type 0
AreReadyAll told start [] [] [] choice = Unit {0}
AreReadyAll told start (job ∷ jobs) (program ∷ programs) (versions ∷ more) choice =
    IsReady told start job program versions (take (length program.units) choice) × AreReadyAll told start jobs programs more (drop (length program.units) choice)
AreReadyAll told start jobs programs versions choice = ⊥

-- where files are told, each of them holds its program
abbrev AreHeldPrograms : Option Files → (start : ℕ) → List ProgramJob → List Program → Type 0
AreHeldPrograms told start [] [] = Unit {0}
AreHeldPrograms told start (job ∷ jobs) (program ∷ programs) =
    IfSome told (λ files. IsProgramOfFile Ts (content_of files job.file) job.program job.drop.items start program) × AreHeldPrograms told start jobs programs
AreHeldPrograms told start jobs programs = ⊥

in_file : (files : Files) (start : ℕ) (job : ProgramJob) (content : List ℕ) (program : Program) → job.form ≡ Ts → get files job.file ≡ Some content
    → IsProgramOfFile job.form content job.program job.drop.items start program → IsProgramOfFile Ts (content_of files job.file) job.program job.drop.items start program
in_file files start job content program form held of =
    subst (λ (c : List ℕ). IsProgramOfFile Ts c job.program job.drop.items start program) (sym (ap (λ (o : Option (List ℕ)). unwrap_or o []) held))
    (subst (λ (f : Form). IsProgramOfFile f content job.program job.drop.items start program) form of)

abbrev pub IsTs : ProgramJob → Type 0
IsTs job = job.form ≡ Ts

held_by : (files : Files) (slot start : ℕ) (before : List (List ℕ)) (earlier : List Program) (jobs : List ProgramJob) (contents : List (List ℕ)) (programs : List Program)
    → All IsTs jobs → HoldContents files jobs contents → AreNextPrograms slot start before earlier jobs contents programs → AreHeldPrograms (Some files) start jobs programs
held_by files slot start before earlier [] [] [] forms held are = tt
held_by files slot start before earlier [] [] (p ∷ ps) forms held are = absurd are
held_by files slot start before earlier [] (c ∷ cs) programs forms held are = absurd are
held_by files slot start before earlier (j ∷ js) [] programs forms held are = absurd are
held_by files slot start before earlier (j ∷ js) (c ∷ cs) [] forms held are = absurd are
held_by files slot start before earlier (j ∷ js) (c ∷ cs) (p ∷ ps) forms held are = (
  in_file files start j c p (All-head IsTs j js forms) held.0 are.0.holds,
  held_by files slot start (before ++ c ∷ []) (earlier ++ p ∷ []) js cs ps (All-tail IsTs j js forms) held.1 are.1,
)

untold : (start : ℕ) (slot : ℕ) (jobs : List ProgramJob) (programs : List Program) → AreReadEach slot start jobs programs → AreHeldPrograms None start jobs programs
untold start slot [] [] each = tt
untold start slot [] (p ∷ ps) each = absurd each
untold start slot (j ∷ js) [] each = absurd each
untold start slot (j ∷ js) (p ∷ ps) each = (tt, untold start slot js ps each.1)

held_programs : (told : Option Files) (job : Job) (programs : List Program) → All IsTs job.programs → AreProgramsOn told job programs → AreHeldPrograms told job.start job.programs programs
held_programs None job programs forms on = untold job.start job.slot job.programs programs on.read.each
held_programs (Some files) job programs forms on = held_by files job.slot job.start [] [] job.programs on.held.contents programs forms on.held.held on.held.are

ready_from : (told : Option Files) (slot start : ℕ) (jobs : List ProgramJob) (programs : List Program) (versions : List (List (List UnitVersion))) (choice : List ℕ)
    → AreReadEach slot start jobs programs → All IsSendable programs → All CanGoOut programs → All HasPidsApart programs → AreHeldPrograms told start jobs programs
    → AreAllVersions programs (ratios_of jobs) versions → AllZip HasVersion (all_units (program_rows jobs programs versions)) choice → NamesVersions programs (ratios_of jobs) choice
    → AreReadyAll told start jobs programs versions choice
ready_from told slot start [] [] [] choice each sendable out apart held are fits names = tt
ready_from told slot start [] [] (v ∷ vs) choice each sendable out apart held are fits names = absurd are
ready_from told slot start [] (p ∷ ps) versions choice each sendable out apart held are fits names = absurd each
ready_from told slot start (j ∷ js) [] versions choice each sendable out apart held are fits names = absurd each
ready_from told slot start (j ∷ js) (p ∷ ps) [] choice each sendable out apart held are fits names = absurd are
ready_from told slot start (j ∷ js) (p ∷ ps) (v ∷ vs) choice each sendable out apart held are fits (own, rest, parts, count, named, names) =
    let rows = unit_rows j.weight j.drift p.units v in
    let split : IsSplit HasVersion rows (all_units (program_rows js ps vs)) choice = zip-split HasVersion rows (all_units (program_rows js ps vs)) choice fits in
    let split_count : length split.own ≡ length p.units = sym (zip-length HasVersion rows split.own split.first) ∙ unit_rows-count j.weight j.drift p.video j.coarser.items None p.units v are.0 in
    let own_is : take (length p.units) choice ≡ own = ap (take (length p.units)) parts ∙ take_at own rest (length p.units) count in
    let rest_is : drop (length p.units) choice ≡ rest = ap (drop (length p.units)) parts ∙ drop_at own rest (length p.units) count in
    let split_own : take (length p.units) choice ≡ split.own = ap (take (length p.units)) split.parts ∙ take_at split.own split.rest (length p.units) split_count in
    let split_rest : drop (length p.units) choice ≡ split.rest = ap (drop (length p.units)) split.parts ∙ drop_at split.own split.rest (length p.units) split_count in
    let goes : CanGoOut p = All-head CanGoOut p ps out in (
      record {
        sendable = All-head IsSendable p ps sendable;
        distinct = All-head HasPidsApart p ps apart;
        count = let n = goes.streams in omega (arith, n);
        small = audios_small start p each.0.read;
        are = are.0;
        enough = ap length own_is ∙ count;
        fits = subst (AllZip HasVersion rows) (sym split_own) split.first;
        named = subst (All (λ index. index ≤ length j.coarser.items)) (sym own_is) named;
        held = held.0;
      },
      ready_from told slot start js ps vs (drop (length p.units) choice) each.1 (All-tail IsSendable p ps sendable) (All-tail CanGoOut p ps out) (All-tail HasPidsApart p ps apart) held.1 are.1
          (subst (AllZip HasVersion (all_units (program_rows js ps vs))) (sym split_rest) split.second) (subst (NamesVersions ps (ratios_of js)) (sym rest_is) names),
    )

pub ready_all : (told : Option Files) (job : Job) (programs : List Program) (table : Table) (choice : List ℕ) → AreProgramsOn told job programs → All IsSendable programs → All CanGoOut programs
    → All HasPidsApart programs → All IsTs job.programs → (of : IsTableOf job programs table) → Fits table choice → AreReadyAll told job.start job.programs programs of.versions choice
ready_all told job programs table choice on sendable out apart forms of fits =
    ready_from told job.slot job.start job.programs programs of.versions choice on.read.each sendable out apart (held_programs told job programs forms on) of.are_versions
    (subst (λ (rows : List ProgramRow). AllZip HasVersion (all_units rows) choice) of.rows fits) (choice-names job programs table choice of fits)

-- ---- what follows of their lanes

sent_of : (job : ProgramJob) (program : Program) (versions : List (List UnitVersion)) (own : List ℕ) (sent : _) → IsSentProgram job program (program_row job.weight job.drift program versions) own sent
    → IsSentOf job program versions own sent
sent_of job program versions own sent is = record {
  name_is = is.name_is;
  streams_are = is.streams_are;
  units_are = is.units_are;
  rows_are = is.rows_are;
  coarser_are = is.coarser_are;
  choice_is = is.choice_is;
  audios_are = is.audios_are;
}

held_both : (told : Option Files) (some more : List Lane) → AreHeld told some → AreHeld told more → AreHeld told (some ++ more)
held_both told [] more first second = second
held_both told (l ∷ ls) more first second = (first.0, held_both told ls more first.1 second)

pub all_held : HoldVideos → HoldAudios → (told : Option Files) (start : ℕ) (jobs : List ProgramJob) (programs : List Program) (versions : List (List (List UnitVersion))) (choice : List ℕ)
    (lanes : List Lane) → AreReadyAll told start jobs programs versions choice → AreJobLanes jobs programs (program_rows jobs programs versions) choice lanes → AreHeld told lanes
all_held videos audios told start [] [] [] choice lanes ready are = rw are tt
all_held videos audios told start [] [] (v ∷ vs) choice lanes ready are = absurd ready
all_held videos audios told start [] (p ∷ ps) versions choice lanes ready are = absurd ready
all_held videos audios told start (j ∷ js) [] versions choice lanes ready are = absurd ready
all_held videos audios told start (j ∷ js) (p ∷ ps) [] choice lanes ready are = absurd ready
all_held videos audios told start (j ∷ js) (p ∷ ps) (v ∷ vs) choice lanes ready (own, rest, parts, (sent, is, from), more) =
    subst (AreHeld told) (sym parts)
    (held_both told own rest
    (lanes_held told start j p v (take (length p.units) choice) sent ready.0 (sent_of j p v (take (length p.units) choice) sent is) videos audios own 0 from)
    (all_held videos audios told start js ps vs (drop (length p.units) choice) rest ready.1 more))

-- ---- their pieces

have_both : (some more : List Lane) (items others : List (List (List Payload))) → HaveItems some items → HaveItems more others → HaveItems (some ++ more) (items ++ others)
have_both [] more [] others first second = second
have_both [] more (i ∷ is) others first second = absurd first
have_both (l ∷ ls) more [] others first second = absurd first
have_both (l ∷ ls) more (i ∷ is) others first second = (first.0, have_both ls more is others first.1 second)

video_take : (units : List UnitSource) (versions : List (List UnitVersion)) (choice : List ℕ) → video_items units versions (take (length units) choice) ≡ video_items units versions choice
video_take [] versions choice = refl
video_take (u ∷ us) [] choice = refl
video_take (u ∷ us) (v ∷ vs) [] = refl
video_take (u ∷ us) (v ∷ vs) (c ∷ cs) = ap (λ (rest : List (List Payload)). pes_pieces (pes_packet u (chosen_bytes v c)) ∷ rest) (video_take us vs cs)

pub all_have : (told : Option Files) (start : ℕ) (jobs : List ProgramJob) (programs : List Program) (versions : List (List (List UnitVersion))) (choice : List ℕ) (lanes : List Lane)
    → AreReadyAll told start jobs programs versions choice → AreJobLanes jobs programs (program_rows jobs programs versions) choice lanes
    → HaveItems lanes (stream_items programs versions choice)
all_have told start [] [] [] choice lanes ready are = rw are tt
all_have told start [] [] (v ∷ vs) choice lanes ready are = absurd ready
all_have told start [] (p ∷ ps) versions choice lanes ready are = absurd ready
all_have told start (j ∷ js) [] versions choice lanes ready are = absurd ready
all_have told start (j ∷ js) (p ∷ ps) [] choice lanes ready are = absurd ready
all_have told start (j ∷ js) (p ∷ ps) (v ∷ vs) choice lanes ready (own, rest, parts, (sent, is, from), more) =
    let later = drop (length p.units) choice in
    let block : HaveItems own (video_items p.units v (take (length p.units) choice) ∷ map audio_items p.audios) =
    lanes_have told start j p v (take (length p.units) choice) sent ready.0 (sent_of j p v (take (length p.units) choice) sent is) own 0 from in
    subst (λ (ls : List Lane). HaveItems ls (stream_items (p ∷ ps) (v ∷ vs) choice)) (sym parts)
    (have_both own rest (video_items p.units v choice ∷ map audio_items p.audios) (stream_items ps vs later)
    (subst (λ (items : List (List Payload)). HaveItems own (items ∷ map audio_items p.audios)) (video_take p.units v choice) block)
    (all_have told start js ps vs later rest ready.1 more))

-- a piece of the streams is one of the lanes'
pub have_piece : (lanes : List Lane) (streams : List (List (List Payload))) → HaveItems lanes streams → (stream item piece : ℕ) → HasPiece streams stream item piece
    → LanesHave lanes stream item piece
have_piece [] [] have stream item piece has = absurd (let e : piece < 0 = has in omega (arith, e))
have_piece [] (s ∷ ss) have stream item piece has = absurd have
have_piece (l ∷ ls) [] have stream item piece has = absurd (let e : piece < 0 = has in omega (arith, e))
have_piece (l ∷ ls) (s ∷ ss) have zero item piece has = have.0 item piece has
have_piece (l ∷ ls) (s ∷ ss) have (suc stream) item piece has = have_piece ls ss have.1 stream item piece has

-- ---- what they send

versions_both : (files : Files) (some more : List Lane) (versions others : List (List (List UnitVersion))) → AreLanesVersions files some versions → AreLanesVersions files more others
    → AreLanesVersions files (some ++ more) (versions ++ others)
versions_both files [] more [] others first second = second
versions_both files [] more (v ∷ vs) others first second = absurd first
versions_both files (l ∷ ls) more [] others first second = absurd first
versions_both files (l ∷ ls) more (v ∷ vs) others first second = (first.0, versions_both files ls more vs others first.1 second)

items_both : (files : Files) (some more : List Lane) (versions others : List (List (List UnitVersion))) → AreLanesVersions files some versions
    → lanes_items files (some ++ more) (versions ++ others) ≡ lanes_items files some versions ++ lanes_items files more others
items_both files [] more [] others first = refl
items_both files [] more (v ∷ vs) others first = absurd first
items_both files (l ∷ ls) more [] others first = absurd first
items_both files (l ∷ ls) more (v ∷ vs) others first = ap (λ (rest : List (List (List Payload))). lane_items files l v ∷ rest) (items_both files ls more vs others first.1)

-- the versions of the lanes, and their items: those of the streams
pub record Sends (files : Files) (lanes : List Lane) (streams : List (List (List Payload))) : Type 0 where
  pub versions : List (List (List UnitVersion))
  pub are : AreLanesVersions files lanes versions
  pub items : lanes_items files lanes versions ≡ streams

pub all_send : SendVideos → SendAudios → (files : Files) (start : ℕ) (jobs : List ProgramJob) (programs : List Program) (versions : List (List (List UnitVersion))) (choice : List ℕ)
    (lanes : List Lane) → AreReadyAll (Some files) start jobs programs versions choice → AreJobLanes jobs programs (program_rows jobs programs versions) choice lanes
    → Sends files lanes (stream_items programs versions choice)
all_send videos audios files start [] [] [] choice lanes ready are = record { versions = []; are = rw are tt; items = rw are refl }
all_send videos audios files start [] [] (v ∷ vs) choice lanes ready are = absurd ready
all_send videos audios files start [] (p ∷ ps) versions choice lanes ready are = absurd ready
all_send videos audios files start (j ∷ js) [] versions choice lanes ready are = absurd ready
all_send videos audios files start (j ∷ js) (p ∷ ps) [] choice lanes ready are = absurd ready
all_send videos audios files start (j ∷ js) (p ∷ ps) (v ∷ vs) choice lanes ready (own, rest, parts, (sent, is, from), more) =
    let own_choice = take (length p.units) choice in
    let sent_is = sent_of j p v own_choice sent is in
    let later = all_send videos audios files start js ps vs (drop (length p.units) choice) rest ready.1 more in
    let here : AreLanesVersions files own (versions_of v own) = versions_are (Some files) start j p v own_choice sent ready.0 sent_is videos audios files ready.0.held own 0 from in
    let block : lanes_items files own (versions_of v own) ≡ video_items p.units v own_choice ∷ map audio_items p.audios =
    items_are (Some files) start j p v own_choice sent ready.0 sent_is videos audios files ready.0.held own 0 from in
    record {
      versions = versions_of v own ++ later.versions;
      are = subst (λ (ls : List Lane). AreLanesVersions files ls (versions_of v own ++ later.versions)) (sym parts) (versions_both files own rest (versions_of v own) later.versions here later.are);
      items = ap (λ (ls : List Lane). lanes_items files ls (versions_of v own ++ later.versions)) parts
          ∙ items_both files own rest (versions_of v own) later.versions here
          ∙ ap₂ (λ (a b : List (List (List Payload))). a ++ b)
          (block ∙ ap (λ (items : List (List Payload)). items ∷ map audio_items p.audios) (video_take p.units v choice)) later.items;
    }
