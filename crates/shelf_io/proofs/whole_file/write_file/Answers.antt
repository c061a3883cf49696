use Rattle.std.proofs.Common.{rules, ap, ◌∙◌}
use Rattle.shelf_io.proofs.Started.{wrote_whole, wrote_part}
use Rattle.shelf_io.proofs.whole_file.write_file.Goals as goal

pub returns-clause-ok : goal.returns-clause-ok
returns-clause-ok g c = wrote_whole g.K.Shelf.files g.K.Shelf.counts g.K.Shelf.asked c.new.result c.put_all.new.sink (g.K.Shelf.files c.args.shelf.now) _ c.args.name.now c.new.ensures.name
    (ap g.K.Shelf.files c.new.ensures.shelf ∙ c.in_ok-start.ensures.ok) c.put_all.ensures.keeps (search rules) c.put_all.result c.args.bytes.now c.put_all.ensures.ok

pub returns-clause-err : goal.returns-clause-err
returns-clause-err g c = wrote_part g.K.Shelf.files g.K.Shelf.counts g.K.Shelf.asked c.new.result c.put_all.new.sink (g.K.Shelf.files c.args.shelf.now) _ c.args.name.now c.new.ensures.name
    (ap g.K.Shelf.files c.new.ensures.shelf ∙ c.in_ok-start.ensures.ok) c.put_all.ensures.keeps (search rules) c.put_all.result c.args.bytes.now c.put_all.ensures.err
