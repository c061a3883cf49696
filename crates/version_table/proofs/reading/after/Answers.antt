use Rattle.version_table.proofs.Words.{after_from_strip}
use Rattle.version_table.proofs.reading.after.Goals as goal

pub returns : goal.returns
returns c = after_from_strip c.args.word.now c.args.text.now c.strip_prefix.result c.strip_prefix.ensures.cases
