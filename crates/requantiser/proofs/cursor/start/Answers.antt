use Rattle.std.proofs.Common.{List, [], sym, subst}
use Rattle.syntax_types.specs.declared.slice.Slice.{Slice}
use Rattle.requantiser.specs.Private.Cursor.{StandsAt}
use Rattle.requantiser.proofs.CursorSteps.{start_stands}
use Rattle.requantiser.proofs.cursor.start.Goals as goal

pub returns : goal.returns
returns c = subst (λ (ss : List Slice). StandsAt c.args.picture.now 0 1 0 [] ss) (sym c.as_slice.ensures) (start_stands c.args.picture.now c.requires.lawful c.requires.few)
