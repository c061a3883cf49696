use Rattle.std.proofs.Common.{refl}
use Rattle.version_table.specs.Private.Draft.{lines_of_draft}
use Rattle.version_table.proofs.Drafts.{no_lines}
use Rattle.version_table.proofs.draft.Draft.new.Goals as goal

pub returns-clause-empty : goal.returns-clause-empty
unfolding lines_of_draft
returns-clause-empty c = refl

pub returns-clause-draft : goal.returns-clause-draft
returns-clause-draft c = no_lines _ c.new.ensures c.new-2.ensures c.new-3.ensures c.new-4.ensures refl refl refl
