use Rattle.std.proofs.Common.{◌≡◌, ◌+◌, ℕ, List, take, sym, subst}
use Rattle.shelf_io.specs.Files.{IfTold}
use Rattle.passed_programs.proofs.Carried.{programs_held, refusals_held}
use Rattle.passed_programs.proofs.held_program.read_held.Goals as goal

pub returns-in-Ok-clause-program : goal.returns-in-Ok-clause-program
returns-in-Ok-clause-program g c =
    programs_held c.held_program.result (g.K.Shelf.files c.args.shelf.now) c.args.file.now.name.now c.as_slice.result.now c.args.wanted.now.form c.args.file.now.limit c.args.wanted.now.number
    c.args.wanted.now.start c.args.wanted.now.drop.now c.args.sizes
    (subst (λ (bytes : List ℕ). IfTold (g.K.Shelf.files c.args.shelf.now) c.args.file.now.name.now (λ content. bytes ≡ take (c.args.file.now.limit + 1) content)) (sym c.as_slice.ensures) c.in-Ok.ensures.told)
    c.held_program.ensures.program

pub returns-in-Ok-clause-refused : goal.returns-in-Ok-clause-refused
returns-in-Ok-clause-refused g c =
    refusals_held c.held_program.result (g.K.Shelf.files c.args.shelf.now) c.args.file.now.name.now c.as_slice.result.now c.args.wanted.now.form c.args.file.now.limit c.args.wanted.now.number
    c.args.wanted.now.drop.now
    (subst (λ (bytes : List ℕ). IfTold (g.K.Shelf.files c.args.shelf.now) c.args.file.now.name.now (λ content. bytes ≡ take (c.args.file.now.limit + 1) content)) (sym c.as_slice.ensures) c.in-Ok.ensures.told)
    c.held_program.ensures.refused
