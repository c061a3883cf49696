-- The programs of a job are read back from its stream, one behind the other.
use Rattle.std.proofs.Common.{◌≡◌, ◌≢◌, ℕ, zero, suc, ◌+◌, ◌<◌, ◌≤◌, List, [], ◌∷◌, ◌++◌, All, length, map, drop, None, Some, refl, sym, ap, ◌∙◌, subst, arith, append_assoc, length-append}
use Rattle.std.specs.Prelude.{slice_get}
use Rattle.std.specs.List.{AllZip, flat_map}
use Rattle.std.proofs.lemmas.List.{length-map}
use Rattle.std.proofs.lemmas.List.Elements.{All-append, All-cons, All-from_get_or, All-head, All-nil, All-tail, All-weaker}
use Rattle.bit_lists.specs.Payload.{CarriedPayload}
use Rattle.bit_lists.specs.Fields.{AreBytes}
use Rattle.ts_packets.specs.TransportStream.{piece_count, pid_pieces as packets_on}
use Rattle.ts_packets.specs.Carried.{carried}
use Rattle.psi_tables.specs.declared.program_map.ProgramMap.{ProgramMap}
use Rattle.psi_tables.specs.declared.stream.Stream.{Stream}
use Rattle.psi_tables.specs.Pmt.{pids_of}
use Rattle.version_table.specs.declared.table.ProgramRow.{ProgramRow}
use Rattle.version_table.specs.declared.table.Unit.{Unit as CodedUnit}
use Rattle.version_table.specs.Choice.{HasVersion}
use Rattle.slot_rule.specs.declared.sent.Sent.{Sent}
use Rattle.ts_demux.specs.declared.demuxed.AudioStream.{AudioStream}
use Rattle.ts_demux.specs.Demux.{IsDemuxed}
use Rattle.job_report.specs.declared.job.ProgramJob.{ProgramJob}
use Rattle.job_report.specs.ValidJob.{HaveNumbersApart, IsValidProgramJob}
use Rattle.program_reader.specs.declared.program.Program.{Program}
use Rattle.elementary_streams.specs.Audio.{taken_of}
use Rattle.program_reader.specs.Programs.{IsProgramOfFile}
use Rattle.version_maker.specs.declared.version.UnitVersion.{UnitVersion}
use Rattle.version_source.specs.Pieces.{audio_items, stream_items, video_items}
use Rattle.version_source.specs.Versions.{AreAllVersions, AreVideoVersions, ratios_of}
use Rattle.program_table.specs.Table.{program_row, program_rows, unit_rows}
use Rattle.mux_writer.specs.declared.layout.Layout.{Layout}
use Rattle.mux_writer.specs.Layout.{video_pid, with_output_pids}
use Rattle.mux_writer.specs.Output.{output_stream}
use Rattle.mux_writer.specs.Pieces.{Pieces}
use Rattle.job_programs.specs.Programs.{AreNextPrograms}
use Rattle.job_stream.proofs.ReadPrograms.{ReadIsSendable}
use Rattle.job_stream.specs.Stream.{output_maps}
use Rattle.job_stream.proofs.NamedVersions.{unit_rows-count}
use Rattle.job_stream.proofs.LayoutLemmas.{pids-count}
use Rattle.output_laws.specs.SentOn.{AreRowsOf}
use Rattle.parsing_laws.specs.Parsed.{AreReadAs, CarriesPackets, bytes_of_packets, sent_packet}
use Rattle.parsing_laws.specs.TakenOut.{BeginWithTables, HasStreams, IsNumberedIn, taken_out}
use Rattle.parsing_laws.proofs.ProgramParts.{GatheredAgain, VideoAsWritten, audio-packets, stream-packets, units-read}
use Rattle.job_laws.specs.ParsesTo.{ParsesTo, ParsesToProgram, sent_units}
use Rattle.job_laws.proofs.CarriedShape.{GoesOutAs, output-kinds}
use Rattle.job_laws.proofs.SentStreams.{fits-behind}
use Rattle.job_laws.proofs.SentVideos.{AllCarry, PiecesCarry, carry-parts, items-carry, units-said}
use Rattle.job_laws.proofs.SentUnits.{UnitsCutAgain, VersionsAreLed, VersionsAreWhole, sent-led, sent-slices, sent-whole}
use Rattle.job_laws.proofs.AudioStreams.{audios-carry}
use Rattle.job_laws.proofs.ReadyPrograms.{IsReady, ready-one}
use Rattle.version_source.proofs.VersionBytes.{video-versions-some}

-- ---- numbers

-- maps that stand before the programs of some jobs have other numbers than these
abbrev pub IsOtherNumber : List ProgramJob → ProgramMap → Type 0
IsOtherNumber jobs earlier = All (λ (job : ProgramJob). earlier.number ≢ job.number) jobs

at-middle : (before rest : List ProgramMap) (program_map : ProgramMap) (n : ℕ) → length before ≡ n → slice_get (before ++ program_map ∷ rest) n ≡ Some program_map
at-middle [] rest program_map zero same = refl
at-middle [] rest program_map (suc n) same = absurd (omega (arith, same))
at-middle (m ∷ ms) rest program_map zero same = absurd (omega (arith, same))
at-middle (m ∷ ms) rest program_map (suc n) same = at-middle ms rest program_map n (omega (arith, same))

earlier-at : (P : ProgramMap → Type 0) (before rest : List ProgramMap) (n : ℕ) (earlier : ProgramMap) → n < length before → slice_get (before ++ rest) n ≡ Some earlier → All P before → P earlier
earlier-at P [] rest n earlier within found all = absurd (omega (arith, within))
earlier-at P (m ∷ ms) rest zero earlier within found all = let same : m ≡ earlier = same_of found in subst P same (All-head P m ms all)
  where
    same_of : Some m ≡ Some earlier → m ≡ earlier
    same_of e = cc
earlier-at P (m ∷ ms) rest (suc n) earlier within found all = earlier-at P ms rest n earlier (omega (arith, within)) found (All-tail P m ms all)

pub numbered : (maps before rest : List ProgramMap) (program_map : ProgramMap) (n : ℕ) (job : ProgramJob) (jobs : List ProgramJob) → maps ≡ before ++ program_map ∷ rest → length before ≡ n
    → program_map.number ≡ job.number → 1 ≤ job.number → All (IsOtherNumber (job ∷ jobs)) before → IsNumberedIn maps n program_map
numbered maps before rest program_map n job jobs split size number some apart = record {
  there = ap (λ (ms : List ProgramMap). slice_get ms n) split ∙ at-middle before rest program_map n size;
  number = λ same. omega (arith, same, number, some);
  first = λ other earlier less found same.
      let found_there : slice_get (before ++ program_map ∷ rest) other ≡ Some earlier = sym (ap (λ (ms : List ProgramMap). slice_get ms other) split) ∙ found in
      let differs : IsOtherNumber (job ∷ jobs) earlier = earlier-at (IsOtherNumber (job ∷ jobs)) before (program_map ∷ rest) other earlier (omega (arith, less, size)) found_there apart in
      All-head (λ (j : ProgramJob). earlier.number ≢ j.number) job jobs differs (same ∙ number);
}

apart-head : (job : ProgramJob) (jobs : List ProgramJob) → HaveNumbersApart (job ∷ jobs) → All (λ (other : ProgramJob). job.number ≢ other.number) jobs
apart-head job jobs apart = All-from_get_or (λ (other : ProgramJob). job.number ≢ other.number) jobs job (λ i within. apart 0 (suc i) job (omega arith) (omega (arith, within)))

pub apart-tail : (job : ProgramJob) (jobs : List ProgramJob) → HaveNumbersApart (job ∷ jobs) → HaveNumbersApart jobs
apart-tail job jobs apart i j d less within = apart (suc i) (suc j) d (omega (arith, less)) (omega (arith, within))

pub apart-next : (before : List ProgramMap) (job : ProgramJob) (jobs : List ProgramJob) (program_map : ProgramMap) → program_map.number ≡ job.number → All (IsOtherNumber (job ∷ jobs)) before
    → HaveNumbersApart (job ∷ jobs) → All (IsOtherNumber jobs) (before ++ program_map ∷ [])
apart-next before job jobs program_map number apart pairs =
    All-append (IsOtherNumber jobs) before (program_map ∷ [])
    (All-weaker (IsOtherNumber (job ∷ jobs)) (IsOtherNumber jobs) (λ earlier differs. All-tail (λ (j : ProgramJob). earlier.number ≢ j.number) job jobs differs) before apart)
    (All-cons (IsOtherNumber jobs) program_map [] (subst (λ (n : ℕ). All (λ (j : ProgramJob). n ≢ j.number) jobs) (sym number) (apart-head job jobs pairs)) (All-nil (IsOtherNumber jobs)))

-- ---- streams

-- ---- the laws below, as this proof calls them

abbrev pub TakenOutLaw : Type 0
TakenOutLaw =
    (layout : Layout) (slot : ℕ) (pieces : Pieces) (rows : List Sent) (program : ℕ) (program_map : ProgramMap) (video : Stream) (audios : List Stream)
    → AreRowsOf layout pieces rows → BeginWithTables (length layout.maps.items) rows → IsNumberedIn layout.maps.items program program_map → HasStreams program_map video audios
    → IsDemuxed (output_stream layout slot pieces rows) program_map.number [] (taken_out (output_stream layout slot pieces rows) program_map video audios)

module _ (law : ReadIsSendable) (taken : TakenOutLaw) (gathered : GatheredAgain) (written : VideoAsWritten) (cut : PiecesCarry)
    (whole : VersionsAreWhole) (led : VersionsAreLed) (again : UnitsCutAgain)
    (layout : Layout) (slot : ℕ) (pieces : Pieces) (rows : List Sent) (are : AreRowsOf layout pieces rows) (begin : BeginWithTables (length layout.maps.items) rows)
    (count : piece_count (output_stream layout slot pieces rows) ≡ length rows) where
  abbrev file : List ℕ
  file = output_stream layout slot pieces rows

  one-read : (n : ℕ) (job : ProgramJob) (jobs : List ProgramJob) (p : Program) (coarser : List ℕ) (v : List (List UnitVersion)) (choice : List ℕ) (before rest : List ProgramMap)
      (more : List CodedUnit)
      → layout.maps.items ≡ before ++ with_output_pids n job.number p.map ∷ rest → length before ≡ n → 1 ≤ job.number → All (IsOtherNumber (job ∷ jobs)) before → (content : List ℕ) (start : ℕ)
      → IsProgramOfFile job.form content job.program job.drop.items start p → AreBytes p.video
      → AreVideoVersions p.video coarser None p.units v → AllZip HasVersion (unit_rows job.weight job.drift p.units v ++ more) choice
      → AllCarry file (length rows) (pids_of (with_output_pids n job.number p.map)) (video_items p.units v choice ∷ map audio_items p.audios)
      → ParsesToProgram file content job (with_output_pids n job.number p.map) (sent_units p.units v choice)
  one-read n job jobs p coarser v choice before rest more split size some apart content start of bytes versions fits carry =
      let ready : IsReady p = ready-one law job.form content job.program job.drop.items start p of in
      let is = of.program_is in
      let program_map : ProgramMap = with_output_pids n job.number p.map in
      let goes : GoesOutAs program_map (video_pid n) = output-kinds n job.number p.map ready.kinds in
      let carry_streams = subst (λ (streams : List Stream). AllCarry file (length rows) (map (λ (stream : Stream). stream.pid) streams) (video_items p.units v choice ∷ map audio_items p.audios))
      goes.has.streams carry in
      let carries : CarriesPackets file goes.video.pid (map sent_packet (sent_units p.units v choice)) = record {
        cuts = video_items p.units v choice;
        each = items-carry cut p.units v choice;
        carried_are = ap (λ (k : ℕ). map (λ (c : CarriedPayload). c.payload) (carried (packets_on file goes.video.pid 0 k))) count ∙ carry_streams.0;
      } in
      let read : AreReadAs (sent_units p.units v choice) (bytes_of_packets (taken_out file program_map goes.video goes.audios).video) =
      subst (λ (bytes : List (List ℕ)). AreReadAs (sent_units p.units v choice) bytes) (sym (stream-packets gathered file goes.video (map sent_packet (sent_units p.units v choice)) carries))
      (units-read written (sent_units p.units v choice)
      (units-said job.weight job.drift p.video p.units v choice more ready.sendable.units (video-versions-some p.video coarser None p.units v versions) fits)) in
      record {
        demuxed = taken_out file program_map goes.video goes.audios;
        taken_out = taken layout slot pieces rows n program_map goes.video goes.audios are begin
            (numbered layout.maps.items before rest program_map n job jobs split size refl some apart) goes.has;
        map_is = refl;
        whole = refl;
        video = read;
        units =
            again (sent_units p.units v choice) (bytes_of_packets (taken_out file program_map goes.video goes.audios).video) read
            (sent-led job.weight job.drift p.video coarser None p.units v choice more versions (led job.form content job.program job.drop.items start p coarser v bytes of versions) fits)
            (sent-whole job.weight job.drift None p.units v choice more (whole job.form content job.program job.drop.items start p coarser v bytes of versions) fits);
        slices = sent-slices job.weight job.drift None p.units v choice more (whole job.form content job.program job.drop.items start p coarser v bytes of versions) fits;
        source = of.demuxed;
        source_is = of.demuxed_is;
        audio = audio-packets gathered file goes.audios (map (λ (stream : AudioStream). bytes_of_packets (taken_of stream)) of.demuxed.audios)
            (audios-carry cut file (length rows) count start is.earliest is.first.stated of.demuxed.audios is.frames p.audios goes.audios is.have_frames is.audios_are carry_streams.1);
      }

  pub read-back : (n : ℕ) (jobs : List ProgramJob) (programs : List Program) (versions : List (List (List UnitVersion))) (choice : List ℕ) (before : List ProgramMap)
      → layout.maps.items ≡ before ++ output_maps n jobs programs → length before ≡ n → All (IsOtherNumber jobs) before → HaveNumbersApart jobs → All IsValidProgramJob jobs
      → (slots start : ℕ) (read : List (List ℕ)) (done : List Program) (further : List (List ℕ)) → AreNextPrograms slots start read done jobs further programs
      → AreAllVersions programs (ratios_of jobs) versions → All (λ (p : Program). AreBytes p.video) programs
      → AllZip HasVersion (flat_map (λ (row : ProgramRow). row.units) (program_rows jobs programs versions)) choice
      → AllCarry file (length rows) (flat_map pids_of (output_maps n jobs programs)) (stream_items programs versions choice)
      → ParsesTo file n jobs further programs versions choice
  read-back n [] [] [] choice before split size apart pairs valid slots start read done [] next are_versions bytes fits carry = tt
  read-back n [] [] [] choice before split size apart pairs valid slots start read done (c ∷ cs) next are_versions bytes fits carry = absurd next
  read-back n [] [] (v ∷ vs) choice before split size apart pairs valid slots start read done further next are_versions bytes fits carry = absurd are_versions
  read-back n [] (p ∷ ps) versions choice before split size apart pairs valid slots start read done further next are_versions bytes fits carry = absurd are_versions
  read-back n (j ∷ js) [] versions choice before split size apart pairs valid slots start read done further next are_versions bytes fits carry = absurd are_versions
  read-back n (j ∷ js) (p ∷ ps) [] choice before split size apart pairs valid slots start read done further next are_versions bytes fits carry = absurd are_versions
  read-back n (j ∷ js) (p ∷ ps) (v ∷ vs) choice before split size apart pairs valid slots start read done [] next are_versions bytes fits carry = absurd next
  read-back n (j ∷ js) (p ∷ ps) (v ∷ vs) choice before split size apart pairs valid slots start read done (c ∷ cs) next are_versions bytes fits carry =
      let program_map : ProgramMap = with_output_pids n j.number p.map in
      let is : IsReady p = ready-one law j.form c j.program j.drop.items start p next.0.holds in
      let row : ProgramRow = program_row j.weight j.drift p v in
      let later : List CodedUnit = flat_map (λ (row : ProgramRow). row.units) (program_rows js ps vs) in
      let many : length row.units ≡ length p.units = unit_rows-count j.weight j.drift p.video j.coarser.items _ p.units v are_versions.0 in
      let own : length (pids_of program_map) ≡ length (video_items p.units v choice ∷ map audio_items p.audios) =
      omega (arith, pids-count (video_pid n) p.map.streams.items, is.out.streams, length-map p.audios audio_items) in
      let parts = carry-parts file (length rows) (pids_of program_map) (flat_map pids_of (output_maps (n + 1) js ps)) (video_items p.units v choice ∷ map audio_items p.audios)
      (stream_items ps vs (drop (length p.units) choice)) own carry in
      let behind : AllZip HasVersion later (drop (length p.units) choice) = subst (λ (k : ℕ). AllZip HasVersion later (drop k choice)) many (fits-behind row.units later choice fits) in (
        one-read n j js p j.coarser.items v choice before (output_maps (n + 1) js ps) later split size (All-head IsValidProgramJob j js valid).some_number apart c start next.0.holds
            (All-head (λ (p : Program). AreBytes p.video) p ps bytes) are_versions.0 fits parts.0,
        read-back (n + 1) js ps vs (drop (length p.units) choice) (before ++ program_map ∷ [])
            (split ∙ sym (append_assoc before (program_map ∷ []) (output_maps (n + 1) js ps))) (omega (arith, size, length-append before (program_map ∷ [])))
            (apart-next before j js program_map refl apart pairs) (apart-tail j js pairs) (All-tail IsValidProgramJob j js valid)
            slots start (read ++ c ∷ []) (done ++ p ∷ []) cs next.1 are_versions.1 (All-tail (λ (p : Program). AreBytes p.video) p ps bytes) behind parts.1,
      )
