use Rattle.std.proofs.Common.{ℕ, None, subst}
use Rattle.version_source.specs.Private.Sending.{LeaveBehind}
use Rattle.program_reader.proofs.Missing.{no_unit}
use Rattle.version_source.proofs.StateLemmas.{may-precede, next-behind}
use Rattle.version_source.proofs.sent_video.SentVideo.hold.Goals as goal

pub unit_packet-requires-clause-before : goal.unit_packet-requires-clause-before
unit_packet-requires-clause-before c =
    may-precede c.args.video.now.es.now c.args.video.now.units.now c.go_to.new.self.unit c.go_to.new.self.before _ c.as_ref.ensures.value c.in_ok-go_to.ensures.kept.before_is

pub unit_packet-requires-clause-picture : goal.unit_packet-requires-clause-picture
unit_packet-requires-clause-picture c =
    next-behind c.args.video.now.es.now c.args.video.now.units.now c.args.number c.go_to.new.self.before _ no_unit c.as_ref.ensures.value c.requires.video.pictures
    (subst (λ (n : ℕ). LeaveBehind c.args.video.now.es.now None c.args.video.now.units.now n c.go_to.new.self.before) c.in_ok-go_to.ensures.there c.in_ok-go_to.ensures.kept.before_is)
    c.requires.number
