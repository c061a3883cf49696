-- Sections of other tables are passed over up to one that is read, or that isn't whole.
use Rattle.std.proofs.Common.{sym, ◌∙◌}
use Rattle.psi_tables.specs.Private.SectionFront.{front_bytes}
use Rattle.psi_tables.proofs.Steps.{begins-read, begins-passed}
use Rattle.psi_tables.proofs.section_front.SectionFront.begin.Goals as goal

pub returns-then-not-is_passed_over : goal.returns-then-not-is_passed_over
returns-then-not-is_passed_over c =
    begins-read c.args.bytes.now c.loop-at.at c.take_in-at.result c.loop-at.self c.take_in-at.new.self c.loop-at.invariant c.loop-at-test.true
    c.if-bytes-at.true c.take_in-at.ensures.taken c.take_in-at.ensures.sound (sym c.is_passed_over.ensures ∙ c.if-not-is_passed_over.true)

pub loop-at-preserved : goal.loop-at-preserved
loop-at-preserved c =
    begins-passed c.args.bytes.now c.loop-at.at c.take_in-at.result c.loop-at.self
    (front_bytes c.take_in-at.new.self) c.clear.new.self c.loop-at.invariant c.loop-at-test.true c.if-bytes-at.true c.take_in-at.ensures.taken
    (sym c.is_passed_over.ensures ∙ c.if-not-is_passed_over.false) c.clear.ensures.held c.clear.ensures.bytes
