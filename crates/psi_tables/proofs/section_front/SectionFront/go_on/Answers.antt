-- What goes on with a section gives the same, and nothing where it is passed over.
use Rattle.std.proofs.Common.{◌≢◌, ℕ, ◌<◌, List, length, sym, ap, ◌∙◌, arith}
use Rattle.std.proofs.lemmas.Bool.{eqb-false}
use Rattle.psi_tables.specs.Sections.{is_read, found_from}
use Rattle.psi_tables.specs.Private.SectionFront.{front_bytes, is_settled}
use Rattle.psi_tables.proofs.Bytes.{length-front}
use Rattle.psi_tables.proofs.Steps.{taken-front, taken-same, taken-passed, passed-over, not-passed-over}
use Rattle.psi_tables.proofs.section_front.SectionFront.go_on.Goals as goal

pub returns-then-is_passed_over : goal.returns-then-is_passed_over
returns-then-is_passed_over c =
    let front = c.args.self.now in
    let now = front_bytes c.take_in-taken.new.self in
    let some : length front.section.items ≢ 0 = eqb-false (length front.section.items) 0 (sym c.is_empty.ensures ∙ c.if-is_empty.false) in
    let held : 0 < length (front_bytes front) = omega (arith, some, length-front front) in
    let passed = passed-over (is_settled now) (is_read now) (sym c.is_passed_over.ensures ∙ c.if-is_passed_over.true) in
    record {
      held = c.clear.ensures.held;
      same = λ (next : List ℕ). taken-passed (front_bytes front) c.args.bytes.now c.take_in-taken.result now held c.requires.held.front_is
          c.take_in-taken.ensures.taken passed.0 passed.1 next ∙ sym (ap (λ (bytes : List ℕ). found_from 0 bytes next) c.clear.ensures.bytes);
    }

pub returns-else-is_passed_over : goal.returns-else-is_passed_over
returns-else-is_passed_over c =
    let front = c.args.self.now in
    let now = front_bytes c.take_in-taken.new.self in
    let some : length front.section.items ≢ 0 = eqb-false (length front.section.items) 0 (sym c.is_empty.ensures ∙ c.if-is_empty.false) in
    let held : 0 < length (front_bytes front) = omega (arith, some, length-front front) in
    record {
      held = record {
        sound = c.take_in-taken.ensures.sound;
        front_is = taken-front (front_bytes front) c.args.bytes.now c.take_in-taken.result now held c.requires.held.front_is c.take_in-taken.ensures.taken;
        read = λ settled. not-passed-over (is_settled now) (is_read now) (sym c.is_passed_over.ensures ∙ c.if-is_passed_over.false) settled;
      };
      same = taken-same (front_bytes front) c.args.bytes.now c.take_in-taken.result now held c.requires.held.front_is c.take_in-taken.ensures.taken;
    }
