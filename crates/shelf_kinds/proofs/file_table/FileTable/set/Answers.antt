use Rattle.std.proofs.Common.{ap, ◌∙◌}
use Rattle.std.specs.String.{string_bytes}
use Rattle.std.specs.FinMap.{insert}
use Rattle.shelf_kinds.specs.Private.FileTable.{files_of}
use Rattle.shelf_kinds.proofs.Held.{files_of_updated}
use Rattle.shelf_kinds.proofs.file_table.FileTable.set.Goals as goal

pub returns-clause-ok : goal.returns-clause-ok
returns-clause-ok c =
    files_of_updated (string_bytes c.in_ok-key.key) c.self.inside.held c.insert.new.self c.args.content c.in_ok-insert.ensures.updates
    ∙ ap (λ name. insert (files_of c.self.inside.held) name c.args.content.items) c.in_ok-key.ensures.ok
    ∙ ap (λ files. insert files c.args.name.now c.args.content.items) c.self.view_is
