-- A section that is read is extended, which fits since its length is good; of another one the bytes are counted.
use Rattle.std.proofs.Common.{◌≡◌, true, ◌+◌, ◌≤◌, length, ◌++◌, refl, sym, ap, ◌∙◌, arith, length-append}
use Rattle.std.proofs.lemmas.Grind.{common_steps}
use Rattle.psi_tables.specs.Sections.{is_read, section_size}
use Rattle.psi_tables.specs.Private.SectionFront.{front_bytes}
use Rattle.psi_tables.proofs.Fronts.{good-size}
use Rattle.psi_tables.proofs.Bytes.{length-front, header-front, is_read-front, sound-extended, sound-passed, like-passed}
use Rattle.psi_tables.proofs.Headers.{section_length-below}
use Rattle.psi_tables.proofs.section_front.SectionFront.add.Goals as goal

pub returns-then-is_read-clause-sound : goal.returns-then-is_read-clause-sound
returns-then-is_read-clause-sound c =
    let front = c.args.self.now in
    let header = header-front front c.requires.sound c.requires.header in
    let read : is_read front.section.items ≡ true = ap is_read (sym c.deref.ensures.0) ∙ sym c.is_read.ensures ∙ c.if-is_read.true in
    let size : section_size (front_bytes front) ≤ 1024 = good-size (front_bytes front) c.requires.good (is_read-front front header ∙ read) in
    let fits : length front.section.items + length c.args.bytes.now ≤ 1024 = omega (arith, c.requires.room, size, length-front front) in
    let is : c.try_extend_from_slice-fits.new.self.items ≡ front.section.items ++ c.args.bytes.now = grind (arith, common_steps) in
    sound-extended front c.args.bytes.now c.try_extend_from_slice-fits.new.self c.requires.sound header read is (omega (arith, fits, ap length is, length-append front.section.items c.args.bytes.now))

pub returns-else-is_read-clause-like : goal.returns-else-is_read-clause-like
returns-else-is_read-clause-like c =
    let front = c.args.self.now in
    like-passed front c.args.bytes.now (length c.args.bytes.now) refl (header-front front c.requires.sound c.requires.header)
    (ap is_read (sym c.deref.ensures.0) ∙ sym c.is_read.ensures ∙ c.if-is_read.false)

pub returns-else-is_read-clause-sound : goal.returns-else-is_read-clause-sound
returns-else-is_read-clause-sound c =
    let front = c.args.self.now in
    let header = header-front front c.requires.sound c.requires.header in
    sound-passed front (length c.args.bytes.now) c.requires.sound header
    (ap is_read (sym c.deref.ensures.0) ∙ sym c.is_read.ensures ∙ c.if-is_read.false)
    (omega (arith, c.requires.room, length-front front, section_length-below (front_bytes front)))
