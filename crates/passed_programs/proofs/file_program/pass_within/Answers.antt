use Rattle.passed_programs.proofs.Carried.{programs_within, refusals_within}
use Rattle.passed_programs.proofs.Within.{yes_within}
use Rattle.passed_programs.proofs.file_program.pass_within.Goals as goal

pub returns-clause-program : goal.returns-clause-program
returns-clause-program g c =
    programs_within (g.K.Shelf.files c.args.shelf.now) c.args.file.now.name.now c.args.file.now.limit c.pass_streams.result (g.K.Shelf.files c.is_within.new.shelf) c.args.wanted.now.number
    c.args.wanted.now.start c.args.wanted.now.drop.now c.args.sizes c.in-Ok.ensures.reads.same_files
    (yes_within (g.K.Shelf.files c.args.shelf.now) c.args.file.now.name.now c.args.file.now.limit c.in-Ok.within c.if-not-within.false c.in-Ok.ensures.told) c.pass_streams.ensures.program

pub returns-clause-refused : goal.returns-clause-refused
returns-clause-refused g c =
    refusals_within (g.K.Shelf.files c.args.shelf.now) c.args.file.now.name.now c.args.file.now.limit c.pass_streams.result (g.K.Shelf.files c.is_within.new.shelf) c.args.wanted.now.number
    c.args.wanted.now.drop.now c.in-Ok.ensures.reads.same_files
    (yes_within (g.K.Shelf.files c.args.shelf.now) c.args.file.now.name.now c.args.file.now.limit c.in-Ok.within c.if-not-within.false c.in-Ok.ensures.told) c.pass_streams.ensures.refused
