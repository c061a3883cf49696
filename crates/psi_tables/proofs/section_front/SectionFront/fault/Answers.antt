-- A section whose length isn't bad is whole, and its CRC is that of the long division.
use Rattle.std.proofs.Common.{◌≡◌, ◌≢◌, ℕ, Bool, false, cond, List, [], ◌∷◌, Ok, Err, sym, ap, ◌∙◌}
use Rattle.std.proofs.lemmas.Bool.{ne_eqb, eq-eqb}
use Rattle.psi_tables.specs.declared.section.SectionFault.TheVariants.{BadCrc}
use Rattle.psi_tables.specs.Sections.{crc_over}
use Rattle.psi_tables.specs.Private.SectionFront.{front_bytes, is_bad}
use Rattle.psi_tables.proofs.Bytes.{header-front, is_read-front, kept-front}
use Rattle.psi_tables.proofs.CrcDivision.{crc_over-is}
use Rattle.psi_tables.proofs.Fronts.{settled-header, found_at-whole}
use Rattle.psi_tables.proofs.section_front.SectionFront.fault.Goals as goal

pub returns-then-crc32-ne0 : goal.returns-then-crc32-ne0
returns-then-crc32-ne0 c =
    let front = c.args.self.now in
    let read = c.requires.held.read c.requires.settled in
    let header = header-front front c.requires.held.sound (settled-header (front_bytes front) c.requires.settled) in
    let kept : front_bytes front ≡ front.section.items = kept-front front c.requires.held.sound (sym (is_read-front front header) ∙ read) in
    let crc : crc_over (front_bytes front) ≡ c.crc32.result = ap crc_over (kept ∙ sym c.deref.ensures.0) ∙ c.crc32.ensures.only (crc_over c.deref.result.now) (crc_over-is c.deref.result.now) in
    let wrong : crc_over (front_bytes front) ≢ 0 = λ is. c.if-crc32-ne0.true (sym crc ∙ is) in
    let good : is_bad (front_bytes front) ≡ false = sym c.is_bad.ensures ∙ c.if-is_bad.false in
    found_at-whole (front_bytes front) c.requires.settled good read c.requires.held.front_is.within
    ∙ ap (λ (right : Bool). cond right (Ok (front_bytes front)) (Err BadCrc) ∷ []) (ne_eqb (crc_over (front_bytes front)) 0 wrong)

pub returns : goal.returns
returns c =
    let front = c.args.self.now in
    let read = c.requires.held.read c.requires.settled in
    let header = header-front front c.requires.held.sound (settled-header (front_bytes front) c.requires.settled) in
    let kept : front_bytes front ≡ front.section.items = kept-front front c.requires.held.sound (sym (is_read-front front header) ∙ read) in
    let crc : crc_over (front_bytes front) ≡ c.crc32.result = ap crc_over (kept ∙ sym c.deref.ensures.0) ∙ c.crc32.ensures.only (crc_over c.deref.result.now) (crc_over-is c.deref.result.now) in
    let good : is_bad (front_bytes front) ≡ false = sym c.is_bad.ensures ∙ c.if-is_bad.false in
    found_at-whole (front_bytes front) c.requires.settled good read c.requires.held.front_is.within
    ∙ ap (λ (right : Bool). cond right (Ok (front_bytes front)) (Err BadCrc) ∷ [])
    (eq-eqb (crc_over (front_bytes front)) 0 (crc ∙ c.if-crc32-ne0.false)) ∙ ap (λ (section : List ℕ). Ok section ∷ []) kept
