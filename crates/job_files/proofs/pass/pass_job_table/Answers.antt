use Rattle.std.proofs.Common.{map}
use Rattle.job_programs.proofs.Ends.{ends_behind}
use Rattle.job_files.proofs.Asked.{asks_programs, asks_text, held_apart}
use Rattle.job_files.proofs.Steps.{file_stops, is_job_passed, stops_later}
use Rattle.job_files.proofs.pass.pass_job_table.Goals as goal

pub returns-in-Ok-clause-table : goal.returns-in-Ok-clause-table
returns-in-Ok-clause-table g c =
    is_job_passed (g.K.Shelf.files c.args.shelf.now) (g.K.Shelf.files c.read_job_file.new.shelf) c.args.name.now (map (λ file. file.now) c.args.named.now) c.in-Ok.job
    c.pass_table_of_job.result c.in-Ok.ensures.files c.in-Ok.ensures.job c.pass_table_of_job.ensures.table

pub returns-in-Ok-clause-stop : goal.returns-in-Ok-clause-stop
returns-in-Ok-clause-stop g c =
    stops_later (g.K.Shelf.files c.args.shelf.now) (g.K.Shelf.files c.read_job_file.new.shelf) c.args.name.now (map (λ file. file.now) c.args.named.now) c.in-Ok.job
    (g.K.Shelf.counts c.args.shelf.now) (g.K.Shelf.counts c.read_job_file.new.shelf) (g.K.Shelf.counts c.pass_table_of_job.new.shelf)
    (g.K.Shelf.since_fault c.pass_table_of_job.new.shelf) c.pass_table_of_job.result c.in-Ok.ensures.files c.in-Ok.ensures.job c.in-Ok.ensures.counts
    c.pass_table_of_job.ensures.counts c.pass_table_of_job.ensures.stop

pub returns-in-Ok-clause-asked : goal.returns-in-Ok-clause-asked
returns-in-Ok-clause-asked g c =
    let told = g.K.Shelf.files c.args.shelf.now in
    let named = map (λ file. file.now) c.args.named.now in
    asks_programs told c.args.name.now named c.in-Ok.job (g.K.Shelf.asked c.args.shelf.now) (g.K.Shelf.asked c.read_job_file.new.shelf)
    (g.K.Shelf.asked c.pass_table_of_job.new.shelf) c.in-Ok.ensures.job (held_apart told c.args.name.now named c.args.name.now c.requires) c.in-Ok.ensures.asked
    c.pass_table_of_job.ensures.asked

pub returns-in-Ok-clause-ends : goal.returns-in-Ok-clause-ends
returns-in-Ok-clause-ends g c = ends_behind (λ no. no) (λ no. no) c.in-Ok.ensures.ends c.pass_table_of_job.ensures.ends

pub returns-in-Err-clause-stop : goal.returns-in-Err-clause-stop
returns-in-Err-clause-stop g c =
    file_stops (g.K.Shelf.files c.args.shelf.now) c.args.name.now (map (λ file. file.now) c.args.named.now) (g.K.Shelf.counts c.args.shelf.now)
    (g.K.Shelf.counts c.read_job_file.new.shelf) (g.K.Shelf.since_fault c.read_job_file.new.shelf) c.in-Err.stop c.in-Err.ensures.stop

pub returns-in-Err-clause-asked : goal.returns-in-Err-clause-asked
returns-in-Err-clause-asked g c =
    let told = g.K.Shelf.files c.args.shelf.now in
    let named = map (λ file. file.now) c.args.named.now in
    asks_text told c.args.name.now named (g.K.Shelf.asked c.args.shelf.now) (g.K.Shelf.asked c.read_job_file.new.shelf)
    (held_apart told c.args.name.now named c.args.name.now c.requires) c.in-Err.ensures.asked
