use Rattle.std.proofs.Common.{sym, ◌∙◌, arith}
use Rattle.macroblock_reader.proofs.Emptied.{no-item, both-taken}
use Rattle.macroblock_reader.proofs.motion.empty.Goals as goal

pub returns-then-count-eq0 : goal.returns-then-count-eq0
returns-then-count-eq0 c = no-item c.args.list.now.items (sym c.len-count.ensures.value ∙ c.if-count-eq0.true)

pub returns : goal.returns
returns c = both-taken c.args.list.now.items c.pop.new.self.items c.pop-2.new.self.items (omega (arith, c.len-count.ensures.value, c.len-count.ensures.fits)) c.pop.ensures.rest c.pop-2.ensures.rest
