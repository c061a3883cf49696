use Rattle.version_table.specs.Text.{Holds}
use Rattle.shelf_io.specs.Facts.{shelf_facts}
use Rattle.plan_command.proofs.Held.{read_whole}
use Rattle.impossible_command.proofs.Judged.{judged_ends, refused_ends}
use Rattle.impossible_command.proofs.steps.judge_text.Goals as goal

pub returns-in-Ok : goal.returns-in-Ok
returns-in-Ok g c =
    let front = c.requires in
    judged_ends c.args.files.now.table.now (shelf_facts g.K.Shelf.files g.K.Shelf.counts g.K.Shelf.asked g.K.Shelf.since_fault c.args.shelf.now) c.in-Ok.table
    c.judge_table.result
    (record { text = front.text; held = front.held; read = read_whole front.text c.args.text.now (Holds c.in-Ok.table) front.front_is c.in-Ok.ensures.table })
    c.judge_table.ensures

pub returns-in-Err : goal.returns-in-Err
returns-in-Err g c =
    refused_ends c.args.files.now.table.now (shelf_facts g.K.Shelf.files g.K.Shelf.counts g.K.Shelf.asked g.K.Shelf.since_fault c.args.shelf.now)
    c.args.text.now c.end_refused_table.result c.in-Err.fault c.requires c.in-Err.ensures.refusal c.end_refused_table.ensures
