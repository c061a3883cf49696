use Rattle.version_table.specs.Text.{Holds}
use Rattle.shelf_io.specs.Facts.{shelf_facts}
use Rattle.plan_command.proofs.Held.{read_whole, refused_ends}
use Rattle.plan_command.proofs.steps.plan_text.Goals as goal

pub plan_table-requires-clause-held : goal.plan_table-requires-clause-held
plan_table-requires-clause-held g c =
    let front = c.requires in
    record { text = front.text; held = front.held; read = read_whole front.text c.args.text (Holds c.in-Ok.table) front.front_is c.in-Ok.ensures.table }

pub returns-in-Err : goal.returns-in-Err
returns-in-Err g c =
    let files = c.args.files.now in
    refused_ends files.table.now files.certificate.now (shelf_facts g.K.Shelf.files g.K.Shelf.counts g.K.Shelf.asked g.K.Shelf.since_fault c.args.shelf.now)
    c.args.text c.end_refused_table.result c.in-Err.fault c.requires c.in-Err.ensures.refusal c.end_refused_table.ensures
