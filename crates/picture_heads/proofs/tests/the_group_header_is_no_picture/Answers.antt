use Rattle.picture_heads.proofs.Examples.{behind_group}
use Rattle.picture_heads.proofs.tests.the_group_header_is_no_picture.Goals as goal

pub without_delay-requires : goal.without_delay-requires
without_delay-requires g c = (behind_group.front, behind_group.delay, behind_group.back, behind_group.source)
