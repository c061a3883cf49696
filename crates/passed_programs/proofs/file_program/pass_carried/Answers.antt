use Rattle.std.proofs.Common.{◌+◌, List, Option, None, length, sym, ap, subst, ◌∙◌, ℤ}
use Rattle.psi_tables.specs.declared.stream.Stream.{Stream}
use Rattle.shelf_io.specs.declared.fault.Fault.{Fault}
use Rattle.ts_demux.specs.CarriedPackets.{AreDistinct}
use Rattle.elementary_streams.specs.declared.audio_stream.ReadStream.{ReadStream}
use Rattle.elementary_streams.specs.NearTimes.{IsNear}
use Rattle.file_pass.specs.FilePass.{ReadsUpTo}
use Rattle.file_pass.proofs.Later.{reads_twice}
use Rattle.passed_programs.specs.Private.Passes.{AreAudiosPassed, IsAudiosFault, IsOfTold, front_of}
use Rattle.passed_programs.proofs.Carried.{are_passed, audios_step, pids, video_step}
use Rattle.passed_programs.proofs.file_program.pass_carried.Goals as goal

pub video_of_file-requires-clause-distinct : goal.video_of_file-requires-clause-distinct
video_of_file-requires-clause-distinct g c =
    subst (λ (all : List Stream). AreDistinct (pids all)) (sym c.as_slice-streams.ensures.value)
    (c.carried_pids_differ.ensures c.args.wanted.now.drop.now c.requires.map.holds.tables.whole c.args.carried.map c.args.carried.others c.requires.map.holds.tables.carried_is)

pub audios_of_file-requires-clause-distinct : goal.audios_of_file-requires-clause-distinct
audios_of_file-requires-clause-distinct g c =
    subst (λ (all : List Stream). AreDistinct (pids all)) (sym c.as_slice-streams.ensures.value)
    (c.carried_pids_differ.ensures c.args.wanted.now.drop.now c.requires.map.holds.tables.whole c.args.carried.map c.args.carried.others c.requires.map.holds.tables.carried_is)

pub audios_of_file-requires-clause-first : goal.audios_of_file-requires-clause-first
audios_of_file-requires-clause-first g c =
    subst (λ (time : ℤ). IsNear 0 time) (sym c.begins_at-first.ensures)
    (c.near_times.ensures.read c.in-Ok.ensures.video.file (pids c.as_slice-streams.result.now) c.args.sizes c.in-Ok.passed.video c.in-Ok.ensures.video.holds.1).0

pub returns-in-Err-clause-refused : goal.returns-in-Err-clause-refused
returns-in-Err-clause-refused g c =
    video_step (g.K.Shelf.files c.args.shelf.now) c.args.file.now.name.now c.args.file.now.limit c.args.wanted.now.number c.args.wanted.now.drop.now c.args.carried c.as_slice-streams.result.now
    c.in-Err.fault c.requires.limit c.as_slice-streams.ensures.value c.requires.map c.in-Err.ensures.refused

pub returns-in-Err-audios_of_file-clause-refused : goal.returns-in-Err-audios_of_file-clause-refused
returns-in-Err-audios_of_file-clause-refused g c =
    audios_step (g.K.Shelf.files c.args.shelf.now) c.args.file.now.name.now c.args.file.now.limit (g.K.Shelf.files c.video_of_file.new.shelf) c.args.wanted.now.number c.args.wanted.now.drop.now c.args.sizes
    c.args.carried c.in-Ok.passed c.as_slice-streams.result.now c.in-Err-audios_of_file.fault c.in-Ok.ensures.reads.same_files c.requires.limit c.as_slice-streams.ensures.value c.requires.map
    c.in-Ok.ensures.video
    (subst (λ (time : ℤ). IsOfTold (front_of (g.K.Shelf.files c.video_of_file.new.shelf) c.args.file.now.name.now c.args.file.now.limit) (IsAudiosFault (pids c.as_slice-streams.result.now) time)
    c.in-Err-audios_of_file.fault) c.begins_at-first.ensures c.in-Err-audios_of_file.ensures.refused)

pub due_streams-requires-clause-passed : goal.due_streams-requires-clause-passed
due_streams-requires-clause-passed g c = (
  front_of (g.K.Shelf.files c.args.shelf.now) c.args.file.now.name.now c.args.file.now.limit,
  c.args.file.now.limit,
  c.args.wanted.now.number,
  c.args.wanted.now.drop.now,
  c.args.sizes,
  are_passed (g.K.Shelf.files c.args.shelf.now) c.args.file.now.name.now c.args.file.now.limit (g.K.Shelf.files c.video_of_file.new.shelf) c.args.wanted.now.number c.args.wanted.now.drop.now c.args.sizes
      c.args.carried c.in-Ok.passed c.as_slice.result.now c.as_slice-streams.result.now c.in-Ok.ensures.reads.same_files c.as_slice-streams.ensures.value c.requires.map c.in-Ok.ensures.video c.in-Ok.ensures.within
      (subst (AreAudiosPassed (front_of (g.K.Shelf.files c.video_of_file.new.shelf) c.args.file.now.name.now c.args.file.now.limit) (pids c.as_slice-streams.result.now) c.in-Ok.passed.video.first.stated 1)
      (sym c.as_slice.ensures)
      (subst (λ (time : ℤ). AreAudiosPassed (front_of (g.K.Shelf.files c.video_of_file.new.shelf) c.args.file.now.name.now c.args.file.now.limit) (pids c.as_slice-streams.result.now) time 1
      c.in-Ok-audios_of_file.audios) c.begins_at-first.ensures c.in-Ok-audios_of_file.ensures.read))
      (ap (λ (xs : List ReadStream). 1 + length xs) c.as_slice.ensures ∙ c.in-Ok-audios_of_file.ensures.all),
)

pub returns-clause-program : goal.returns-clause-program
returns-clause-program g c =
    c.due_streams.ensures.program (front_of (g.K.Shelf.files c.args.shelf.now) c.args.file.now.name.now c.args.file.now.limit) c.args.file.now.limit c.args.wanted.now.number c.args.wanted.now.drop.now c.args.sizes
    (are_passed (g.K.Shelf.files c.args.shelf.now) c.args.file.now.name.now c.args.file.now.limit (g.K.Shelf.files c.video_of_file.new.shelf) c.args.wanted.now.number c.args.wanted.now.drop.now c.args.sizes
    c.args.carried c.in-Ok.passed c.as_slice.result.now c.as_slice-streams.result.now c.in-Ok.ensures.reads.same_files c.as_slice-streams.ensures.value c.requires.map c.in-Ok.ensures.video c.in-Ok.ensures.within
    (subst (AreAudiosPassed (front_of (g.K.Shelf.files c.video_of_file.new.shelf) c.args.file.now.name.now c.args.file.now.limit) (pids c.as_slice-streams.result.now) c.in-Ok.passed.video.first.stated 1)
    (sym c.as_slice.ensures)
    (subst (λ (time : ℤ). AreAudiosPassed (front_of (g.K.Shelf.files c.video_of_file.new.shelf) c.args.file.now.name.now c.args.file.now.limit) (pids c.as_slice-streams.result.now) time 1
    c.in-Ok-audios_of_file.audios) c.begins_at-first.ensures c.in-Ok-audios_of_file.ensures.read))
    (ap (λ (xs : List ReadStream). 1 + length xs) c.as_slice.ensures ∙ c.in-Ok-audios_of_file.ensures.all))

pub returns-clause-refused : goal.returns-clause-refused
returns-clause-refused g c =
    c.due_streams.ensures.refused (front_of (g.K.Shelf.files c.args.shelf.now) c.args.file.now.name.now c.args.file.now.limit) c.args.file.now.limit c.args.wanted.now.number c.args.wanted.now.drop.now c.args.sizes
    (are_passed (g.K.Shelf.files c.args.shelf.now) c.args.file.now.name.now c.args.file.now.limit (g.K.Shelf.files c.video_of_file.new.shelf) c.args.wanted.now.number c.args.wanted.now.drop.now c.args.sizes
    c.args.carried c.in-Ok.passed c.as_slice.result.now c.as_slice-streams.result.now c.in-Ok.ensures.reads.same_files c.as_slice-streams.ensures.value c.requires.map c.in-Ok.ensures.video c.in-Ok.ensures.within
    (subst (AreAudiosPassed (front_of (g.K.Shelf.files c.video_of_file.new.shelf) c.args.file.now.name.now c.args.file.now.limit) (pids c.as_slice-streams.result.now) c.in-Ok.passed.video.first.stated 1)
    (sym c.as_slice.ensures)
    (subst (λ (time : ℤ). AreAudiosPassed (front_of (g.K.Shelf.files c.video_of_file.new.shelf) c.args.file.now.name.now c.args.file.now.limit) (pids c.as_slice-streams.result.now) time 1
    c.in-Ok-audios_of_file.audios) c.begins_at-first.ensures c.in-Ok-audios_of_file.ensures.read))
    (ap (λ (xs : List ReadStream). 1 + length xs) c.as_slice.ensures ∙ c.in-Ok-audios_of_file.ensures.all))

pub returns-clause-reads : goal.returns-clause-reads
returns-clause-reads g c =
    subst (λ (stop : Option Fault). ReadsUpTo g.K.Shelf.files g.K.Shelf.counts g.K.Shelf.asked g.K.Shelf.since_fault c.args.file.now.name.now c.args.file.now.limit stop c.args.shelf.now c.audios_of_file.new.shelf)
    (sym c.due_streams.ensures.never)
    (reads_twice g.K.Shelf.files g.K.Shelf.counts g.K.Shelf.asked g.K.Shelf.since_fault c.args.file.now.name.now c.args.file.now.limit None c.args.shelf.now c.video_of_file.new.shelf c.audios_of_file.new.shelf
    c.in-Ok.ensures.reads c.in-Ok-audios_of_file.ensures.reads)
