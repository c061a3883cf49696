use Rattle.std.proofs.Common.{refl}
use Rattle.shelf_kinds.proofs.mem_shelf.MemShelfShelf.append.Goals as goal

pub returns-then-next_fails-clause-failed : goal.returns-then-next_fails-clause-failed
returns-then-next_fails-clause-failed c = (λ _. rw (← c.self.view_is) (c.if-next_fails.ensures.fails.0 refl), λ _. refl)
