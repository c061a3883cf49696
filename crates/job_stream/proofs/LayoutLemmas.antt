-- The layout of a job's stream, program by program.
use Rattle.std.proofs.Common.{◌≡◌, ℕ, zero, suc, ◌+◌, ◌<◌, ◌≤◌, List, [], ◌∷◌, ◌++◌, All, length, map, drop, get_or, refl, sym, ap, ◌∙◌, arith, append_assoc, length-append}
use Rattle.std.specs.List.{flat_map}
use Rattle.std.proofs.lemmas.List.{append-nil, drop_more, length-map}
use Rattle.std.proofs.lemmas.List.Elements.{All-head, All-tail}
use Rattle.psi_tables.specs.declared.program_map.ProgramMap.{ProgramMap}
use Rattle.psi_tables.specs.declared.stream.Stream.{Stream}
use Rattle.psi_tables.specs.Pmt.{pids_of}
use Rattle.job_report.specs.declared.job.ProgramJob.{ProgramJob}
use Rattle.program_reader.specs.declared.program.Program.{Program}
use Rattle.version_maker.specs.declared.version.UnitVersion.{UnitVersion}
use Rattle.version_source.specs.Pieces.{audio_items, stream_items, video_items}
use Rattle.version_source.specs.Versions.{AreAllVersions, ratios_of}
use Rattle.mux_writer.specs.declared.layout.Layout.{Layout}
use Rattle.mux_writer.specs.Layout.{video_pid, with_output_pids, with_pids_from}
use Rattle.job_stream.specs.Private.Outgoing.{CanGoOut}
use Rattle.job_stream.specs.Stream.{output_maps}

-- ---- a layout by its parts

pub layout-is : (layout other : Layout) → layout.stream_id ≡ other.stream_id → layout.maps.items ≡ other.maps.items → layout.bases.items ≡ other.bases.items → layout ≡ other
layout-is layout other id maps bases =
    by_id (λ n. record { stream_id = n; maps = record { items = layout.maps.items }; bases = record { items = layout.bases.items } }) id
    ∙ (by_maps (λ items. record { stream_id = other.stream_id; maps = record { items = items }; bases = record { items = layout.bases.items } }) maps
    ∙ by_bases (λ items. record { stream_id = other.stream_id; maps = record { items = other.maps.items }; bases = record { items = items } }) bases)
  where
    by_id : (f : ℕ → Layout) → layout.stream_id ≡ other.stream_id → f layout.stream_id ≡ f other.stream_id
    by_id f e = ap f e

    by_maps : (f : List ProgramMap → Layout) → layout.maps.items ≡ other.maps.items → f layout.maps.items ≡ f other.maps.items
    by_maps f e = ap f e

    by_bases : (f : List ℕ → Layout) → layout.bases.items ≡ other.bases.items → f layout.bases.items ≡ f other.bases.items
    by_bases f e = ap f e

-- ---- one program more

-- the maps of the programs from one on, the first of which goes out next
pub maps-more : (jobs : List ProgramJob) (programs : List Program) (i : ℕ) (job : ProgramJob) (program : Program) (done : List ProgramMap) → length jobs ≡ length programs → i < length programs
    → job ≡ get_or jobs i job → program ≡ get_or programs i program → done ++ output_maps i (drop i jobs) (drop i programs) ≡ output_maps 0 jobs programs
    → (done ++ with_output_pids i job.number program.map ∷ []) ++ output_maps (i + 1) (drop (i + 1) jobs) (drop (i + 1) programs) ≡ output_maps 0 jobs programs
maps-more jobs programs i job program done same within job-is program-is all =
    let job-rest : drop i jobs ≡ job ∷ drop (i + 1) jobs =
    drop_more jobs i job (omega (arith, same, within)) ∙ ap (λ (j : ProgramJob). j ∷ drop (i + 1) jobs) (sym job-is) in
    let program-rest : drop i programs ≡ program ∷ drop (i + 1) programs =
    drop_more programs i program within ∙ ap (λ (p : Program). p ∷ drop (i + 1) programs) (sym program-is) in
    append_assoc done (with_output_pids i job.number program.map ∷ []) (output_maps (i + 1) (drop (i + 1) jobs) (drop (i + 1) programs))
    ∙ ap (λ (maps : List ProgramMap). done ++ maps)
    (sym (ap (λ (js : List ProgramJob). output_maps i js (drop i programs)) job-rest ∙ ap (output_maps i (job ∷ drop (i + 1) jobs)) program-rest))
    ∙ all

pub bases-more : (programs : List Program) (i : ℕ) (program : Program) (done : List ℕ) → i < length programs → program ≡ get_or programs i program
    → done ++ map (λ (p : Program). p.base) (drop i programs) ≡ map (λ (p : Program). p.base) programs
    → (done ++ program.base ∷ []) ++ map (λ (p : Program). p.base) (drop (i + 1) programs) ≡ map (λ (p : Program). p.base) programs
bases-more programs i program done within program-is all =
    let program-rest : drop i programs ≡ program ∷ drop (i + 1) programs =
    drop_more programs i program within ∙ ap (λ (p : Program). p ∷ drop (i + 1) programs) (sym program-is) in
    append_assoc done (program.base ∷ []) (map (λ (p : Program). p.base) (drop (i + 1) programs))
    ∙ ap (λ (bases : List ℕ). done ++ bases) (sym (ap (map (λ (p : Program). p.base)) program-rest)) ∙ all

no-maps : (first : ℕ) (jobs : List ProgramJob) (programs : List Program) → length jobs ≡ 0 → output_maps first jobs programs ≡ []
no-maps first [] programs none = refl
no-maps first (j ∷ js) programs none = absurd (omega (arith, none))

dropped-all : {A : Type 0} (xs : List A) (i : ℕ) → length xs ≤ i → drop i xs ≡ []
dropped-all [] zero past = refl
dropped-all [] (suc i) past = refl
dropped-all (x ∷ xs) zero past = absurd (omega (arith, past))
dropped-all (x ∷ xs) (suc i) past = dropped-all xs i (omega (arith, past))

-- behind the last program no map is left
pub maps-all : (jobs : List ProgramJob) (programs : List Program) (i : ℕ) (done : List ProgramMap) → length jobs ≤ i
    → done ++ output_maps i (drop i jobs) (drop i programs) ≡ output_maps 0 jobs programs → done ≡ output_maps 0 jobs programs
maps-all jobs programs i done past all =
    sym (append-nil done) ∙ ap (λ (maps : List ProgramMap). done ++ maps) (sym (ap (λ (js : List ProgramJob). output_maps i js (drop i programs)) (dropped-all jobs i past))) ∙ all

pub bases-all : (programs : List Program) (i : ℕ) (done : List ℕ) → length programs ≤ i
    → done ++ map (λ (p : Program). p.base) (drop i programs) ≡ map (λ (p : Program). p.base) programs → done ≡ map (λ (p : Program). p.base) programs
bases-all programs i done past all =
    sym (append-nil done) ∙ ap (λ (bases : List ℕ). done ++ bases) (sym (ap (map (λ (p : Program). p.base)) (dropped-all programs i past))) ∙ all

-- ---- how many maps and streams there are

pub maps-count : (first : ℕ) (jobs : List ProgramJob) (programs : List Program) → length jobs ≡ length programs → length (output_maps first jobs programs) ≡ length programs
maps-count first [] [] same = refl
maps-count first [] (p ∷ ps) same = absurd (omega (arith, same))
maps-count first (j ∷ js) [] same = absurd (omega (arith, same))
maps-count first (j ∷ js) (p ∷ ps) same = ap suc (maps-count (first + 1) js ps (omega (arith, same)))

pub pids-count : (pid : ℕ) (streams : List Stream) → length (map (λ (stream : Stream). stream.pid) (with_pids_from pid streams)) ≡ length streams
pids-count pid [] = refl
pids-count pid (s ∷ ss) = ap suc (pids-count (pid + 1) ss)

-- there are as many PIDs as streams of the programs
pub streams-count : (first : ℕ) (jobs : List ProgramJob) (programs : List Program) (versions : List (List (List UnitVersion))) (choice : List ℕ)
    → AreAllVersions programs (ratios_of jobs) versions → All CanGoOut programs
    → length (stream_items programs versions choice) ≡ length (flat_map pids_of (output_maps first jobs programs))
streams-count first [] [] versions choice are out = refl
streams-count first [] (p ∷ ps) versions choice are out = absurd are
streams-count first (j ∷ js) [] versions choice are out = absurd are
streams-count first (j ∷ js) (p ∷ ps) [] choice are out = absurd are
streams-count first (j ∷ js) (p ∷ ps) (v ∷ vs) choice are out =
    let goes : CanGoOut p = All-head CanGoOut p ps out in
    let later = drop (length p.units) choice in
    let own : length (pids_of (with_output_pids first j.number p.map)) ≡ length p.map.streams.items = pids-count (video_pid first) p.map.streams.items in
    let block : length (video_items p.units v choice ∷ map audio_items p.audios) ≡ suc (length p.audios) = ap suc (length-map p.audios audio_items) in
    omega (
      arith,
      own,
      block,
      goes.streams,
      length-append (video_items p.units v choice ∷ map audio_items p.audios) (stream_items ps vs later),
      length-append (pids_of (with_output_pids first j.number p.map)) (flat_map pids_of (output_maps (first + 1) js ps)),
      streams-count (first + 1) js ps vs later are.1 (All-tail CanGoOut p ps out),
    )
