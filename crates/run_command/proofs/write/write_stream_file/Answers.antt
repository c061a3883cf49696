use Rattle.std.proofs.Common.{List, rules, subst, ap, ◌∙◌}
use Rattle.std.proofs.lemmas.Result.{on_err_weaker, on_ok_weaker}
use Rattle.shelf_io.proofs.Started.{wrote_whole, wrote_part}
use Rattle.program_reader.specs.declared.program.Program.{Program}
use Rattle.job_stream.specs.Stream.{IsStreamIn}
use Rattle.run_command.proofs.Streams.{holds_part, holds_stream, is_stream_on}
use Rattle.run_command.proofs.write.write_stream_file.Goals as goal

pub returns-clause-ok : goal.returns-clause-ok
returns-clause-ok g c =
    let told = g.K.Shelf.files c.args.shelf.now in
    let made = c.args.made.now in
    let choice = c.args.choice.now in
    let slots = c.args.slots.now in
    let (stream, is) = c.write_job_stream.ensures.one in
    let whole = is_stream_on c.stream_has_slots.ensures c.stream_is_clean.ensures c.stream_carries_its_times.ensures c.stream_is_clean_by_its_times.ensures
    c.programs_are_read_back.ensures told made choice slots stream c.requires.job
    c.requires.programs c.requires.table c.requires.valid c.requires.fits c.requires.slots
    (subst (λ (ps : List Program). IsStreamIn made.job ps choice slots stream) c.as_slice.ensures is) in
    holds_stream c.write_job_stream.result told _ c.args.name.now made choice slots stream whole
    (wrote_whole g.K.Shelf.files g.K.Shelf.counts g.K.Shelf.asked c.new.result c.write_job_stream.new.to told _ c.args.name.now c.new.ensures.name
    (ap g.K.Shelf.files c.new.ensures.shelf ∙ c.in_ok-start.ensures.ok) c.write_job_stream.ensures.keeps (search rules) c.write_job_stream.result stream
    (on_ok_weaker c.write_job_stream.result (λ said. said stream is) c.write_job_stream.ensures.ok))

pub returns-clause-err : goal.returns-clause-err
returns-clause-err g c =
    let told = g.K.Shelf.files c.args.shelf.now in
    let made = c.args.made.now in
    let choice = c.args.choice.now in
    let slots = c.args.slots.now in
    let (stream, is) = c.write_job_stream.ensures.one in
    let whole = is_stream_on c.stream_has_slots.ensures c.stream_is_clean.ensures c.stream_carries_its_times.ensures c.stream_is_clean_by_its_times.ensures
    c.programs_are_read_back.ensures told made choice slots stream c.requires.job
    c.requires.programs c.requires.table c.requires.valid c.requires.fits c.requires.slots
    (subst (λ (ps : List Program). IsStreamIn made.job ps choice slots stream) c.as_slice.ensures is) in
    holds_part c.write_job_stream.result told _ c.args.name.now made choice slots stream whole
    (wrote_part g.K.Shelf.files g.K.Shelf.counts g.K.Shelf.asked c.new.result c.write_job_stream.new.to told _ c.args.name.now c.new.ensures.name
    (ap g.K.Shelf.files c.new.ensures.shelf ∙ c.in_ok-start.ensures.ok) c.write_job_stream.ensures.keeps (search rules) c.write_job_stream.result stream
    (on_err_weaker c.write_job_stream.result (λ said. said stream is) c.write_job_stream.ensures.err))
