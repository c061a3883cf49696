use Rattle.std.proofs.Common.{◌∙◌, refl, sym, ap, subst, Err}
use Rattle.bit_cursor.specs.BitReader.{bits_left, place}
use Rattle.picture_grammar.specs.Refusal.Refusal.{BadType}
use Rattle.picture_grammar.specs.Element.{marker_bit}
use Rattle.grammar_reading.proofs.ReadElements.{explains-marker_cut}
use Rattle.macroblock_reader.specs.declared.fault.SliceFault.TheVariants as fault
use Rattle.macroblock_reader.specs.Private.Answers.{Answers}
use Rattle.macroblock_reader.specs.Private.Why.{fault_of_bits}
use Rattle.macroblock_reader.proofs.Courses.{advances-kept}
use Rattle.macroblock_reader.proofs.Codes.{answers-bit_fault, marker-read, marker-broken}
use Rattle.macroblock_reader.proofs.elements.read_marker.Goals as goal

pub returns-then-bit-eq0 : goal.returns-then-bit-eq0
returns-then-bit-eq0 g c =
    let e = c.in-Ok.ensures in
    subst (λ at. Answers ⊥ (marker_bit BadType) (Err (fault.BadType at)) c.args.from.now c.bits.new.self) (sym c.place-at.ensures)
    (marker-broken 1 c.in-Ok.bit c.args.from.now c.bits.new.self e.value e.below e.left e.place e.keeps c.if-bit-eq0.true)

pub returns-else-bit-eq0 : goal.returns-else-bit-eq0
returns-else-bit-eq0 g c =
    let e = c.in-Ok.ensures in
    marker-read 1 c.in-Ok.bit c.args.from.now c.bits.new.self e.value e.below e.left e.place e.keeps refl c.if-bit-eq0.false

pub returns-in-Err : goal.returns-in-Err
returns-in-Err g c =
    let e = c.in-Err.ensures in
    let old = c.args.from.now in
    let is = c.fault_at_place.ensures ∙ ap (fault_of_bits c.in-Err.fault) c.place-at.ensures in
    subst (λ f. Answers ⊥ (marker_bit BadType) (Err f) old c.bits.new.self) (sym is)
    (answers-bit_fault (marker_bit BadType) c.in-Err.fault old c.bits.new.self
    (λ end. explains-marker_cut (bits_left old) (place old) BadType (e.end (ap Err end)))
    (advances-kept (bits_left old) (bits_left c.bits.new.self) (place old) (place c.bits.new.self) e.kept e.kept_place)
    (λ f. e.failed (ap Err f)) (λ f. e.missing (ap Err f)) e.keeps)
