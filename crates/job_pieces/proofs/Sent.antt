-- What is sent of a stream, some slots further.
use Rattle.std.proofs.Common.{◌≡◌, inl, inr, ℕ, ◌<◌, ◌≤◌, max, List, [], ◌++◌, All, length, map, Option, Some, None, Result, Err, IfSome}
use Rattle.std.proofs.Common.{refl, ap, subst, sym, ◌∙◌, arith, append-nil}
use Rattle.std.specs.Prelude.{IsErrOf}
use Rattle.std.proofs.lemmas.Option.{none-some}
use Rattle.shelf_io.specs.declared.fault.Fault.{Fault}
use Rattle.shelf_io.specs.declared.fault.Fault.TheVariants as faults
use Rattle.shelf_io.specs.Asked.{AsksNothing}
use Rattle.shelf_io.specs.Causes.{WriteCauses}
use Rattle.shelf_io.specs.Counts.{Rose, ShelfCounts}
use Rattle.shelf_io.specs.Files.{Files}
use Rattle.shelf_io.specs.Sink.{Told, with_bytes}
use Rattle.shelf_io.specs.Writing.{others, written_to}
use Rattle.shelf_io.proofs.Written.{with_bytes-none, with_bytes-twice}
use Rattle.bit_lists.specs.Payload.{Payload}
use Rattle.slot_rule.specs.declared.sent.Sent.{Sent}
use Rattle.mux_writer.specs.declared.layout.Layout.{Layout}
use Rattle.mux_writer.specs.Output.{IsOfLayout, output_stream}
use Rattle.mux_writer.specs.Pieces.{Pieces}
use Rattle.mux_writer.specs.Private.Writer.{HoldsRest, IsWriting}
use Rattle.mux_writer.specs.Writing.{IsAtFront, Writing}
use Rattle.mux_writer.proofs.Fronts.{holds-none, prefix-behind, prefix-within, stream-whole}
use Rattle.version_maker.specs.declared.version.UnitVersion.{UnitVersion}
use Rattle.version_source.specs.Pieces.{pieces_of}
use Rattle.file_pass.specs.FilePass.{Raises, SameReads, StopsAs}
use Rattle.file_pieces.specs.declared.kept_pieces.PiecesStop.{PiecesStop}
use Rattle.file_pieces.specs.declared.lane.Lane.{Lane}
use Rattle.file_pieces.specs.declared.limits.TheConstants.{READ_MOST}
use Rattle.file_pieces.specs.FilePieces.{AreLanesVersions, AreServed, HasServed, HaveLanesVersions, LanesHave, lane_name, lanes_items, name_at}
use Rattle.job_pieces.specs.declared.lanes_stop.LanesStop.{LanesStop}
use Rattle.job_pieces.specs.declared.lanes_stop.LanesStop.TheVariants.{Unwritten, OutOfMemory}
use Rattle.job_pieces.specs.declared.sending.Sending.{Sending}
use Rattle.job_pieces.specs.Private.Filled.{HoldsMore, front_bytes}
use Rattle.shelf_io.specs.Facts.{ShelfFacts}
use Rattle.job_pieces.specs.Appended.{AsksFor, ChangesAlone, HasEnded, HasGained, HasGainedFront, HasStopped, SameCounts, StandApartFrom}
use Rattle.job_pieces.specs.Appended.{StopsAt}
use Rattle.job_pieces.specs.Private.Sending.{CanGoOn, HasFilled, HasSent, stop_of}
use Rattle.job_pieces.proofs.Filling.{rows_still}
use Rattle.job_pieces.proofs.OtherFiles.{have_still, items_still, served_still, versions_still}

-- ---- files that change one behind the other

alone_on : (out : List ℕ) (first mid last : Option Files) → ChangesAlone out first mid → ChangesAlone out mid last → ChangesAlone out first last
alone_on out first mid last before then = record {
  same_others = then.same_others ∙ before.same_others;
  still_held = λ held. then.still_held (before.still_held held);
}

pub alone_same : (out : List ℕ) (first old mid : Option Files) → ChangesAlone out first old → mid ≡ old → ChangesAlone out first mid
alone_same out first old mid before same = subst (ChangesAlone out first) (sym same) before

asks_on : (names : List (List ℕ)) (first mid last : List ℕ → ℕ) → AsksFor names first mid → AsksFor names mid last → AsksFor names first last
asks_on names first mid last before then name =
    elim (then name) [
      | inl few ↦ elim (before name) [ inl less ↦ inl (omega (arith, few, less)) | inr (stands, most) ↦ inr (stands, omega (arith, few, most)) ]
      | inr (stands, most) ↦ inr (stands, both name most)
    ]
  where
    bound_by : (l m f : ℕ) → l ≤ max m READ_MOST → m ≤ f → l ≤ max f READ_MOST
    bound_by l m f most less = omega (arith, most, less)

    bound_on : (l m f : ℕ) → l ≤ max m READ_MOST → m ≤ max f READ_MOST → l ≤ max f READ_MOST
    bound_on l m f most other = omega (arith, most, other)

    both : (name : List ℕ) → last name ≤ max (mid name) READ_MOST → last name ≤ max (first name) READ_MOST
    both name most =
        elim (before name) [
          | inl less ↦ bound_by (last name) (mid name) (first name) most less
          | inr other ↦ bound_on (last name) (mid name) (first name) most other.1
        ]

asks_nothing : (names : List (List ℕ)) (first last : List ℕ → ℕ) → AsksNothing first last → AsksFor names first last
asks_nothing names first last asks = λ name. inl (asks name)

reads_on : (first mid last : ShelfCounts) → SameReads first mid → SameReads mid last → SameReads first last
reads_on first mid last before then = record { same_faults = then.same_faults ∙ before.same_faults; same_absences = then.same_absences ∙ before.same_absences }

-- ---- what a file holds of the stream

emptied : (was mid now : Told) (held bytes : List ℕ) → HoldsRest was mid held bytes → now ≡ with_bytes mid held → HoldsRest was now [] bytes
emptied was mid now held bytes is added = record {
  front = is.front ++ held;
  added = added ∙ ap (λ (t : Told). with_bytes t held) is.added ∙ with_bytes-twice was is.front held;
  whole = append-nil (is.front ++ held) ∙ is.whole;
}

-- the next packets can be sent
pub can_more : (lanes : List Lane) (out : List ℕ) → StandApartFrom out lanes → (old mid last : Option Files) (before after final : Sending) → CanGoOn lanes old before
    → HasFilled lanes old before after → after.writer.rows ≡ before.writer.rows → mid ≡ old
    → ChangesAlone out mid last → after.pieces.stop ≡ None → final.pieces ≡ after.pieces → final.writer ≡ after.writer → final.room ≡ [] → CanGoOn lanes last final
can_more lanes out apart old mid last before after final can filled same_rows same alone going pieces writer empty =
    let changed : others last out ≡ others old out = alone.same_others ∙ ap (λ (t : Option Files). others t out) same in record {
      going = ap (λ p. p.stop) pieces ∙ going;
      served = rw pieces (served_still old last out lanes after.pieces.states.items changed apart filled.served);
      versions = have_still old last out lanes changed apart can.versions;
      rows = rw writer (rows_still before.writer after.writer (LanesHave lanes) (LanesHave lanes) filled.same_layout same_rows (λ s i p has. has) can.rows);
      empty = empty;
    }

-- a call of which pieces aren't stopped
pub served_going : (lanes : List Lane) (stop : Option PiecesStop) (old mid : ShelfFacts) → stop ≡ None
    → HasServed lanes stop old.files mid.files old.counts mid.counts mid.since_fault old.asked mid.asked
    → HasServed lanes None old.files mid.files old.counts mid.counts mid.since_fault old.asked mid.asked
served_going lanes stop old mid going served =
    subst (λ (s : Option PiecesStop). HasServed lanes s old.files mid.files old.counts mid.counts mid.since_fault old.asked mid.asked) going served

-- a call that answered no fault
pub written_counts : (failed missing : Type 0) (mid last : ShelfCounts) → (failed → ⊥) → WriteCauses failed missing mid last → SameCounts mid last
written_counts failed missing mid last never causes = record {
  same_reads = record { same_faults = causes.same_faults; same_absences = causes.same_absences };
  same_writes = same mid.write_faults last.write_faults causes.write_faults_grow (λ rise. never (causes.only_failed rise));
}
  where
    same : (n m : ℕ) → n ≤ m → (n < m → ⊥) → m ≡ n
    same n m grows stays = omega (arith, grows, stays)

-- the pieces that are told while another file grows
module _ (lanes : List Lane) (layout : Layout) (slot : ℕ) (rows : List Sent) (out : List ℕ) (apart : StandApartFrom out lanes) where
  -- of the stream that is told in some files this holds
  abbrev pub Says : Option Files → (Pieces → Type 0) → Type 0
  Says told P = IfSome told (λ files. (versions : List (List (List UnitVersion))) → AreLanesVersions files lanes versions → P (pieces_of (lanes_items files lanes versions)))

  -- what is said of the files at first and of those now gives what is said of those at first
  pub say_more : (first old : Option Files) (P Q R : Pieces → Type 0) → others old out ≡ others first out → Says first P → Says old Q → ((pieces : Pieces) → P pieces → Q pieces → R pieces)
      → Says first R
  say_more None old P Q R same before here on = tt
  say_more (Some files) None P Q R same before here on = absurd (none-some _ same)
  say_more (Some files) (Some now) P Q R same before here on = λ versions are.
      on (pieces_of (lanes_items files lanes versions)) (before versions are)
      (subst (λ (items : List (List (List Payload))). Q (pieces_of items)) (sym (items_still files now out lanes versions same apart))
      (here versions (versions_still files now out lanes versions same apart are)))

  pub say : (first : Option Files) (P R : Pieces → Type 0) → Says first P → ((pieces : Pieces) → P pieces → R pieces) → Says first R
  say None P R before on = tt
  say (Some files) P R before on = λ versions are. on (pieces_of (lanes_items files lanes versions)) (before versions are)

  -- ---- before the first slot

  pub sent_none : (first : ShelfFacts) (writing : Writing) → IsAtFront layout slot rows writing → HasSent lanes layout slot rows out first first writing
  sent_none first writing at = record {
    is_writing = subst (IsWriting layout slot rows) (sym at) (record { layout_is = refl; slot_is = refl; rows_are = refl; within = omega arith });
    alone = record { same_others = refl; still_held = λ held. held };
    gained = none first.files;
    counts = record { same_reads = record { same_faults = refl; same_absences = refl }; same_writes = refl };
    asks = λ name. inl (omega arith);
  }
    where
      none : (told : Option Files) → Says told (λ pieces. HoldsRest (written_to first.files out) (written_to first.files out) [] (front_bytes layout slot pieces rows writing.at))
      none None = tt
      none (Some files) = λ versions are.
          subst (λ (n : ℕ). HoldsRest (written_to first.files out) (written_to first.files out) [] (front_bytes layout slot (pieces_of (lanes_items files lanes versions)) rows n))
          (sym (ap (λ (w : Writing). w.at) at)) (holds-none (written_to first.files out))

  -- ---- the next slots

  -- what is held behind the slots before
  pub holds_next : (first old mid : ShelfFacts) (before after : Sending) → HasSent lanes layout slot rows out first old before.writer → HasFilled lanes old.files before after → mid.files ≡ old.files
      → Says first.files (λ pieces. HoldsRest (written_to first.files out) (written_to mid.files out) after.room (front_bytes layout slot pieces rows after.writer.at))
  holds_next first old mid before after sent filled same =
      subst (λ (told : Option Files). Says first.files (λ pieces.
      HoldsRest (written_to first.files out) (written_to told out) after.room (front_bytes layout slot pieces rows after.writer.at))) (sym same)
      (say_more first.files old.files
      (λ pieces. HoldsRest (written_to first.files out) (written_to old.files out) [] (front_bytes layout slot pieces rows before.writer.at))
      (λ pieces. HoldsMore pieces before.writer after.writer after.room)
      (λ pieces. HoldsRest (written_to first.files out) (written_to old.files out) after.room (front_bytes layout slot pieces rows after.writer.at)) sent.alone.same_others sent.gained filled.held
      (λ pieces holds more. more layout slot rows (written_to first.files out) (written_to old.files out) sent.is_writing holds))

  pub sent_more : (first old mid last : ShelfFacts) (before after : Sending) → HasSent lanes layout slot rows out first old before.writer → HasFilled lanes old.files before after
      → HasServed lanes None old.files mid.files old.counts mid.counts mid.since_fault old.asked mid.asked
      → ChangesAlone out mid.files last.files → HasGained out after.room mid.files last.files → SameCounts mid.counts last.counts → AsksNothing mid.asked last.asked
      → HasSent lanes layout slot rows out first last after.writer
  sent_more first old mid last before after sent filled served alone gained counts asks = record {
    is_writing = filled.writes layout slot rows sent.is_writing;
    alone = alone_on out first.files mid.files last.files (alone_same out first.files old.files mid.files sent.alone served.same_files) alone;
    gained = say first.files (λ pieces. HoldsRest (written_to first.files out) (written_to mid.files out) after.room (front_bytes layout slot pieces rows after.writer.at))
        (λ pieces. HoldsRest (written_to first.files out) (written_to last.files out) [] (front_bytes layout slot pieces rows after.writer.at))
        (holds_next first old mid before after sent filled served.same_files)
        (λ pieces holds. emptied (written_to first.files out) (written_to mid.files out) (written_to last.files out) after.room (front_bytes layout slot pieces rows after.writer.at) holds gained);
    counts = record {
      same_reads = reads_on first.counts mid.counts last.counts (reads_on first.counts old.counts mid.counts sent.counts.same_reads served.stops) counts.same_reads;
      same_writes = counts.same_writes ∙ served.same_write_faults ∙ sent.counts.same_writes;
    };
    asks = asks_on (map lane_name lanes) first.asked mid.asked last.asked (asks_on (map lane_name lanes) first.asked old.asked mid.asked sent.asks served.asks)
        (asks_nothing (map lane_name lanes) mid.asked last.asked asks);
  }

  -- ---- behind the last slot

  pub sent_all : (first last : ShelfFacts) (writing : Writing) → HasSent lanes layout slot rows out first last writing → length writing.rows ≤ writing.at
      → HasEnded lanes layout slot rows out first last
  sent_all first last writing sent past = record {
    alone = sent.alone;
    gained = say first.files (λ pieces. HoldsRest (written_to first.files out) (written_to last.files out) [] (front_bytes layout slot pieces rows writing.at))
        (λ pieces. HasGained out (output_stream layout slot pieces rows) first.files last.files) sent.gained (λ pieces holds.
        stream-whole layout slot pieces rows writing.at (written_to first.files out) (written_to last.files out) (written_to last.files out) []
        (let same = ap length sent.is_writing.rows_are in let within = sent.is_writing.within in omega (arith, past, same, within)) holds (with_bytes-none (written_to last.files out)));
    counts = sent.counts;
    asks = sent.asks;
  }

  -- ---- what stops it

  raises_from : (a b c other other_b other_c since : ℕ) → b ≡ a → other_b ≡ other → Raises b c other_b other_c since → Raises a c other other_c since
  raises_from a b c other other_b other_c since same same_other raises =
      subst (λ (n : ℕ). Raises n c other other_c since) same (subst (λ (n : ℕ). Raises b c n other_c since) same_other raises)

  stops_from : (stop : Option Fault) (told : Option Files) (name : List ℕ) (first old new : ShelfCounts) (since : ℕ) → SameReads first old → StopsAs stop told name old new since
      → StopsAs stop told name first new since
  stops_from None told name first old new since same stops = reads_on first old new same stops
  stops_from (Some faults.Failed) told name first old new since same stops =
      raises_from first.faults old.faults new.faults first.absences old.absences new.absences since same.same_faults same.same_absences stops
  stops_from (Some faults.Missing) told name first old new since same stops =
      (stops.0, raises_from first.absences old.absences new.absences first.faults old.faults new.faults since same.same_absences same.same_faults stops.1)
  stops_from (Some faults.OutOfMemory) told name first old new since same stops = reads_on first old new same stops

  stops_here : (stop : Option PiecesStop) (first old mid : ShelfFacts) → SameCounts first.counts old.counts
      → HasServed lanes stop old.files mid.files old.counts mid.counts mid.since_fault old.asked mid.asked → StopsAt (stop_of stop) lanes first mid
  stops_here None first old mid counts served = record {
    same_reads = reads_on first.counts old.counts mid.counts counts.same_reads served.stops;
    same_writes = served.same_write_faults ∙ counts.same_writes;
  }
  stops_here (Some stop) first old mid counts served = (
    subst (λ (told : Option Files). StopsAs (Some stop.fault) told (name_at lanes stop.stream) first.counts mid.counts mid.since_fault) (sym served.same_files)
        (stops_from (Some stop.fault) old.files (name_at lanes stop.stream) first.counts old.counts mid.counts mid.since_fault counts.same_reads served.stops),
    served.same_write_faults ∙ counts.same_writes,
  )

  -- the pieces, or want of memory
  pub stopped_filling : (first old mid : ShelfFacts) (writing : Writing) (stop : Option PiecesStop) → HasSent lanes layout slot rows out first old writing
      → HasServed lanes stop old.files mid.files old.counts mid.counts mid.since_fault old.asked mid.asked → HasStopped lanes layout slot rows out first mid (stop_of stop)
  stopped_filling first old mid writing stop sent served = record {
    alone = alone_same out first.files old.files mid.files sent.alone served.same_files;
    gained = subst (λ (told : Option Files). Says first.files (λ pieces. HasGainedFront out (output_stream layout slot pieces rows) first.files told)) (sym served.same_files)
        (say first.files (λ pieces. HoldsRest (written_to first.files out) (written_to old.files out) [] (front_bytes layout slot pieces rows writing.at))
        (λ pieces. HasGainedFront out (output_stream layout slot pieces rows) first.files old.files) sent.gained (λ pieces holds.
        prefix-behind layout slot pieces rows writing.at (written_to first.files out) (written_to old.files out) [] sent.is_writing.within holds));
    stops = stops_here stop first old mid sent.counts served;
    asks = asks_on (map lane_name lanes) first.asked old.asked mid.asked sent.asks served.asks;
  }

  write_stops : {T : Type 0} (result : Result T Fault) (fault : Fault) (stop : LanesStop) (first mid last : ShelfFacts) → SameCounts first.counts mid.counts → result ≡ Err fault
      → WriteCauses (IsErrOf result faults.Failed) (IsErrOf result faults.Missing) mid.counts last.counts → last.since_fault ≡ 0
      → (fault ≡ faults.Failed → stop ≡ Unwritten) → (fault ≡ faults.OutOfMemory → stop ≡ OutOfMemory) → StopsAt stop lanes first last
  write_stops result faults.Failed stop first mid last counts is causes since failed memory = rw (failed refl) (record {
    rose = subst (λ (n : ℕ). Rose n last.counts.write_faults) counts.same_writes (causes.failed_rose is);
    grows = let more = causes.write_faults_grow in let same = counts.same_writes in omega (arith, more, same);
    same_reads = reads_on first.counts mid.counts last.counts counts.same_reads (record { same_faults = causes.same_faults; same_absences = causes.same_absences });
    last = since;
  })
  write_stops result faults.Missing stop first mid last counts is causes since failed memory = absurd (causes.never_missing is)
  write_stops result faults.OutOfMemory stop first mid last counts is causes since failed memory =
      let none = written_counts (IsErrOf result faults.Failed) (IsErrOf result faults.Missing) mid.counts last.counts (λ bad. never_both result is bad) causes in
      rw (memory refl) (record {
        same_reads = reads_on first.counts mid.counts last.counts counts.same_reads none.same_reads;
        same_writes = none.same_writes ∙ counts.same_writes;
      })
    where
      never_both : {U : Type 0} (r : Result U Fault) → r ≡ Err faults.OutOfMemory → r ≡ Err faults.Failed → ⊥
      never_both r one other = cc

  -- the writing of the file
  pub stopped_writing : {T : Type 0} (result : Result T Fault) (first old mid last : ShelfFacts) (before after : Sending) (fault : Fault) (stop : LanesStop)
      → HasSent lanes layout slot rows out first old before.writer
      → HasFilled lanes old.files before after → HasServed lanes None old.files mid.files old.counts mid.counts mid.since_fault old.asked mid.asked
      → ChangesAlone out mid.files last.files → HasGainedFront out after.room mid.files last.files
      → result ≡ Err fault → WriteCauses (IsErrOf result faults.Failed) (IsErrOf result faults.Missing) mid.counts last.counts → last.since_fault ≡ 0 → AsksNothing mid.asked last.asked
      → (fault ≡ faults.Failed → stop ≡ Unwritten) → (fault ≡ faults.OutOfMemory → stop ≡ OutOfMemory) → HasStopped lanes layout slot rows out first last stop
  stopped_writing result first old mid last before after fault stop sent filled served alone gained is causes since asks failed memory = record {
    alone = alone_on out first.files mid.files last.files (alone_same out first.files old.files mid.files sent.alone served.same_files) alone;
    gained = say first.files (λ pieces. HoldsRest (written_to first.files out) (written_to mid.files out) after.room (front_bytes layout slot pieces rows after.writer.at))
        (λ pieces. HasGainedFront out (output_stream layout slot pieces rows) first.files last.files)
        (holds_next first old mid before after sent filled served.same_files) (λ pieces holds.
        prefix-within layout slot pieces rows after.writer.at (written_to first.files out) (written_to mid.files out) (written_to last.files out) after.room
        (filled.writes layout slot rows sent.is_writing).within holds gained);
    stops = write_stops result fault stop first mid last
        (record {
          same_reads = reads_on first.counts old.counts mid.counts sent.counts.same_reads served.stops;
          same_writes = served.same_write_faults ∙ sent.counts.same_writes;
        })
        is causes since failed memory;
    asks = asks_on (map lane_name lanes) first.asked mid.asked last.asked (asks_on (map lane_name lanes) first.asked old.asked mid.asked sent.asks served.asks)
        (asks_nothing (map lane_name lanes) mid.asked last.asked asks);
  }

-- before the first slot
pub begins : (lanes : List Lane) (layout : Layout) (slot : ℕ) (rows : List Sent) (told : Option Files) (sending : Sending) → IsAtFront layout slot rows sending.writer
    → All (IsOfLayout layout (LanesHave lanes)) rows → sending.pieces.stop ≡ None → AreServed told lanes sending.pieces.states.items → HaveLanesVersions told lanes → sending.room ≡ []
    → CanGoOn lanes told sending
begins lanes layout slot rows told sending at all going served versions empty = record {
  going = going;
  served = served;
  versions = versions;
  rows = rw at all;
  empty = empty;
}
