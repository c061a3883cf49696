-- What it does to a shelf that a stream made of some of its files is added to another one.
use Rattle.std.specs.Prelude.{◌≡◌, ◌≢◌, ◌⊎◌, ℕ, ◌≤◌, max, List, map, All, Contains, Option, Some, IfSome}
use Rattle.shelf_io.specs.Counts.{Rose, ShelfCounts}
use Rattle.shelf_io.specs.Facts.{ShelfFacts}
use Rattle.shelf_io.specs.Files.{Files}
use Rattle.shelf_io.specs.Sink.{AddsPrefix, with_bytes}
use Rattle.shelf_io.specs.Writing.{FileIsHeld, others, written_to}
use Rattle.slot_rule.specs.declared.sent.Sent.{Sent}
use Rattle.mux_writer.specs.declared.layout.Layout.{Layout}
use Rattle.mux_writer.specs.Output.{output_stream}
use Rattle.version_maker.specs.declared.version.UnitVersion.{UnitVersion}
use Rattle.version_source.specs.Pieces.{pieces_of}
use Rattle.file_pass.specs.FilePass.{SameReads, StopsAs}
use Rattle.file_pieces.specs.declared.lane.Lane.{Lane}
use Rattle.file_pieces.specs.declared.limits.TheConstants.{READ_MOST}
use Rattle.file_pieces.specs.FilePieces.{AreLanesVersions, lane_name, lanes_items, name_at}
use Rattle.job_pieces.specs.declared.lanes_stop.LanesStop.{LanesStop}
use Rattle.job_pieces.specs.declared.lanes_stop.LanesStop.TheVariants.{Unread, Unwritten, OutOfMemory}

-- ---- a shelf

-- no file but this one changed, and where it was held it is still
pub record ChangesAlone (name : List ℕ) (told after : Option Files) : Type 0 where
  pub same_others : others after name ≡ others told name
  pub still_held : FileIsHeld told name → FileIsHeld after name

-- where files are told, these bytes were added to the end of the file
abbrev pub HasGained : (name bytes : List ℕ) → (told after : Option Files) → Type 0
HasGained name bytes told after = written_to after name ≡ with_bytes (written_to told name) bytes

-- where files are told, a front of these bytes was
abbrev pub HasGainedFront : (name bytes : List ℕ) → (told after : Option Files) → Type 0
HasGainedFront name bytes told after = AddsPrefix (written_to told name) (written_to after name) bytes

-- no file but some was asked for bytes, and these for none behind the limit
abbrev pub AsksFor : (names : List (List ℕ)) → (asked asked_after : List ℕ → ℕ) → Type 0
AsksFor names asked asked_after = (name : List ℕ) → (asked_after name ≤ asked name) ⊎ (Contains names name × (asked_after name ≤ max (asked name) READ_MOST))

-- no count of a shelf rose
pub record SameCounts (old new : ShelfCounts) : Type 0 where
  pub same_reads : SameReads old new
  pub same_writes : new.write_faults ≡ old.write_faults

-- the count of failed writes rose alone, and no call followed
pub record RaisesWrites (old new : ShelfCounts) (since_fault : ℕ) : Type 0 where
  pub rose : Rose old.write_faults new.write_faults
  pub grows : old.write_faults ≤ new.write_faults
  pub same_reads : SameReads old new
  pub last : since_fault ≡ 0

-- ---- a stream

-- no stream is read out of this file
abbrev pub StandApartFrom : (out : List ℕ) → List Lane → Type 0
StandApartFrom out lanes = All (λ lane. lane_name lane ≢ out) lanes

-- how the counts of a shelf tell what stopped the writing
abbrev pub StopsAt : LanesStop → List Lane → (first now : ShelfFacts) → Type 0
StopsAt (Unread stop) lanes first now =
    StopsAs (Some stop.fault) now.files (name_at lanes stop.stream) first.counts now.counts now.since_fault × (now.counts.write_faults ≡ first.counts.write_faults)
StopsAt Unwritten lanes first now = RaisesWrites first.counts now.counts now.since_fault
StopsAt OutOfMemory lanes first now = SameCounts first.counts now.counts

-- A front of the stream was added to a file, this stopped it, and nothing else happened.
pub record HasStopped (lanes : List Lane) (layout : Layout) (slot : ℕ) (rows : List Sent) (out : List ℕ) (first now : ShelfFacts) (stop : LanesStop) : Type 0 where
  pub alone : ChangesAlone out first.files now.files
  pub gained : IfSome first.files (λ files. (versions : List (List (List UnitVersion))) → AreLanesVersions files lanes versions →
      HasGainedFront out (output_stream layout slot (pieces_of (lanes_items files lanes versions)) rows) first.files now.files)
  pub stops : StopsAt stop lanes first now
  pub asks : AsksFor (map lane_name lanes) first.asked now.asked

-- The stream was added to a file, and nothing else happened.
pub record HasEnded (lanes : List Lane) (layout : Layout) (slot : ℕ) (rows : List Sent) (out : List ℕ) (first now : ShelfFacts) : Type 0 where
  pub alone : ChangesAlone out first.files now.files
  pub gained : IfSome first.files (λ files. (versions : List (List (List UnitVersion))) → AreLanesVersions files lanes versions →
      HasGained out (output_stream layout slot (pieces_of (lanes_items files lanes versions)) rows) first.files now.files)
  pub counts : SameCounts first.counts now.counts
  pub asks : AsksFor (map lane_name lanes) first.asked now.asked
