use Rattle.std.proofs.Common.{Some, ap, sym, ◌∙◌}
use Rattle.std.specs.Option.{option_map}
use Rattle.std.specs.FinMap.{get}
use Rattle.shelf_kinds.proofs.Held.{get-files_of}
use Rattle.shelf_kinds.proofs.file_table.FileTable.content.Goals as goal

pub returns-in-Some : goal.returns-in-Some
returns-in-Some c = ap Some c.as_slice.ensures.value ∙ ap (option_map (λ v. v.items)) c.in-Some.ensures.value
    ∙ sym (get-files_of c.self.inside.held c.args.name.now) ∙ ap (λ files. get files c.args.name.now) c.self.view_is

pub returns-in-None : goal.returns-in-None
returns-in-None c = ap (option_map (λ v. v.items)) c.in-None.ensures.value ∙ sym (get-files_of c.self.inside.held c.args.name.now) ∙ ap (λ files. get files c.args.name.now) c.self.view_is
