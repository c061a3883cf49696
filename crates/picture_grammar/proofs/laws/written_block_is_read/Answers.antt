use Rattle.picture_grammar.proofs.WrittenBlock.{block_written}
use Rattle.picture_grammar.proofs.laws.written_block_is_read.Goals as goal

pub returns : goal.returns
returns c = block_written
