-- Each answer is the head of what the builder holds.
use Rattle.std.proofs.Common.{◌≡◌, ℕ, ◌+◌, Result, List, [], ◌∷◌, ◌++◌, Ok, Err, refl, sym, ap, ◌∙◌}
use Rattle.arrayvec.specs.ArrayVec.{ArrayVec}
use Rattle.psi_tables.specs.declared.section.SectionFault.{SectionFault}
use Rattle.psi_tables.specs.SectionBuilder.{found_of}
use Rattle.psi_tables.specs.declared.section.SectionFault.TheVariants.{BadSection}
use Rattle.psi_tables.specs.declared.section_front.SectionFront.{SectionFront}
use Rattle.bit_lists.specs.Payload.{Payload}
use Rattle.psi_tables.specs.Sections.{found_at, sections_of}
use Rattle.psi_tables.specs.Private.SectionFront.{front_bytes}
use Rattle.psi_tables.proofs.Building.{pulls-past, pulls-none, pulls-error, pulls-section, no-fault}
use Rattle.psi_tables.proofs.section_builder.SectionBuilder.pull.Goals as goal

-- a fault is given first, and then nothing is held
failed : (result : Result (ArrayVec ℕ) SectionFault) (fault : SectionFault) (now later : List Payload) → result ≡ Err fault → now ≡ []
    → Err fault ∷ sections_of later ≡ found_of result ∷ sections_of (now ++ later)
failed result fault now later is anew =
    sym (ap (λ (r : Result (ArrayVec ℕ) SectionFault). found_of r ∷ sections_of (now ++ later)) is ∙ ap (λ (held : List Payload). Err fault ∷ sections_of (held ++ later)) anew)

pub returns-then-self-clause-found : goal.returns-then-self-clause-found
returns-then-self-clause-found c = λ later.
    ap (λ (held : List Payload). sections_of (held ++ later)) (sym c.self.view_is) ∙ pulls-past c.self.inside c.if-self.true later
    ∙ failed c.fail.result BadSection c.fail.new.self later c.fail.ensures.fault c.fail.ensures.anew

pub returns-then-not-is_settled-clause-none : goal.returns-then-not-is_settled-clause-none
returns-then-not-is_settled-clause-none c =
    ap sections_of (sym c.self.view_is) ∙ pulls-none c.self.inside c.self.invariant c.if-self.false (sym c.is_settled.ensures ∙ c.if-not-is_settled.true)

pub returns-in-Some-clause-found : goal.returns-in-Some-clause-found
returns-in-Some-clause-found c = λ later.
    ap (λ (held : List Payload). sections_of (held ++ later)) (sym c.self.view_is)
    ∙ pulls-error c.self.inside c.in-Some.fault c.self.invariant c.if-self.false
    (sym c.is_settled.ensures ∙ c.if-not-is_settled.false) c.in-Some.ensures later
    ∙ failed c.fail-in-Some.result c.in-Some.fault c.fail-in-Some.new.self later c.fail-in-Some.ensures.fault c.fail-in-Some.ensures.anew

pub returns-clause-found : goal.returns-clause-found
returns-clause-found c = λ later.
    let front = c.self.inside.front in
    let found : found_at (front_bytes front) ≡ Ok c.replace-front.result.section.items
    ∷ [] = no-fault c.fault.result (found_at (front_bytes front) ≡ Ok front.section.items ∷ []) _ c.fault.ensures c.in_default.not-Some
    ∙ ap (λ (kept : SectionFront). Ok kept.section.items ∷ []) (sym c.replace-front.ensures.value) in
    ap (λ (held : List Payload). sections_of (held ++ later)) (sym c.self.view_is)
    ∙ pulls-section c.self.inside (record c.self.inside { front = c.begin.new.self; at = c.self.inside.at + c.begin.result }) c.begin.result
    c.replace-front.result.section.items c.self.invariant c.if-self.false
    (sym c.is_settled.ensures ∙ c.if-not-is_settled.false) found c.begin.ensures refl refl refl refl later
