use Rattle.video_headers.proofs.Heads.{head-read, head-refused}
use Rattle.video_headers.proofs.head.read_head.Goals as goal

pub returns-clause-read : goal.returns-clause-read
returns-clause-read g c = head-read _ c.args.reader.now c.read_whole_head.new.reader c.requires c.read_whole_head.result c.read_whole_head.ensures

pub returns-clause-refused : goal.returns-clause-refused
returns-clause-refused g c = head-refused _ c.args.reader.now c.read_whole_head.new.reader c.requires c.read_whole_head.result c.read_whole_head.ensures
