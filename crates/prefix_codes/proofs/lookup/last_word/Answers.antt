use Rattle.prefix_codes.proofs.WholeLemmas.{word_answers}
use Rattle.prefix_codes.proofs.lookup.last_word.Goals as goal

pub returns-then-word-lt-LINK : goal.returns-then-word-lt-LINK
returns-then-word-lt-LINK c = word_answers c.args.table c.args.window c.args.word c.requires c.if-word-lt-LINK.true
