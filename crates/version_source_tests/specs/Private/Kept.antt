-- Programs with every version of their pictures kept, and what a source of their pieces has.
use Rattle.std.specs.Prelude.{◌≡◌, ℕ, List, ◌++◌, All, length, Option, None}
use Rattle.bit_lists.specs.Payload.{Payload}
use Rattle.syntax_types.specs.declared.picture.SeqState.{SeqState}
use Rattle.picture_grammar.specs.Picture.{MayPrecede}
use Rattle.job_report.specs.declared.job.ProgramJob.{ProgramJob}
use Rattle.program_reader.specs.declared.program.Program.{Program}
use Rattle.program_reader.specs.declared.program.UnitSource.{UnitSource}
use Rattle.version_maker.specs.declared.version.UnitVersion.{UnitVersion}
use Rattle.version_source.specs.Pieces.{HasPiece}
use Rattle.version_source.specs.Sendable.{IsSendable, SpellInOrder}
use Rattle.version_source.specs.Source.{HasIt}
use Rattle.version_source.specs.Versions.{AreAllVersions, AreVideoVersions, NamesVersions, ratios_of}

-- programs that can be sent, all their versions at the ratios of these jobs, and a version chosen for each of their units
pub record AreKept (programs : List Program) (jobs : List ProgramJob) (versions : List (List (List UnitVersion))) (choice : List ℕ) : Type 0 where
  pub as_many : length jobs ≡ length programs
  pub sendable : All IsSendable programs
  pub names : NamesVersions programs (ratios_of jobs) choice
  pub are_versions : AreAllVersions programs (ratios_of jobs) versions

-- a source has all pieces of these items
abbrev pub HasAll : (items of_source : List (List (List Payload))) → Type 0
HasAll items of_source = (stream item piece : ℕ) → HasPiece items stream item piece → HasIt of_source stream item piece

-- All versions of the units of a video before those that are left, behind which this state is in force: with the versions of these they are all.
pub record AreVersionsSoFar (es coarser : List ℕ) (units left : List UnitSource) (before : Option SeqState) (kept : List (List UnitVersion)) : Type 0 where
  pub may_precede : MayPrecede before
  pub spelled : SpellInOrder es before left
  pub all : (more : List (List UnitVersion)) → AreVideoVersions es coarser before left more → AreVideoVersions es coarser None units (kept ++ more)
