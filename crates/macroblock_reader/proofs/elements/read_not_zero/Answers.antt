use Rattle.std.proofs.Common.{◌==◌, ◌∙◌, not, [], ◌∷◌, sym, ap, subst, Err}
use Rattle.bit_cursor.specs.BitReader.{bits_left, place}
use Rattle.picture_grammar.specs.Refusal.Refusal.{BadType}
use Rattle.picture_grammar.specs.Element.{uimsbf, rule}
use Rattle.grammar_reading.proofs.ReadElements.{left-bits}
use Rattle.macroblock_reader.specs.declared.fault.SliceFault.TheVariants as fault
use Rattle.macroblock_reader.specs.Private.Answers.{Answers}
use Rattle.macroblock_reader.specs.Private.Why.{fault_of_bits}
use Rattle.macroblock_reader.proofs.Courses.{advances-kept}
use Rattle.macroblock_reader.proofs.Codes.{answers-bit_fault, not_zero-read, not_zero-broken, explains-not_zero_cut}
use Rattle.macroblock_reader.proofs.elements.read_not_zero.Goals as goal

pub returns-then-number-eq0 : goal.returns-then-number-eq0
returns-then-number-eq0 g c =
    let e = c.in-Ok.ensures in
    subst (λ at. Answers ⊥ (uimsbf c.args.n (rule BadType (λ number. not (number == 0)) ∷ [])) (Err (fault.BadType at)) c.args.from.now c.bits.new.self) (sym c.place-at.ensures)
    (not_zero-broken c.args.n c.in-Ok.number c.args.from.now c.bits.new.self e.value e.below e.left e.place e.keeps c.if-number-eq0.true)

pub returns-else-number-eq0 : goal.returns-else-number-eq0
returns-else-number-eq0 g c =
    let e = c.in-Ok.ensures in
    not_zero-read c.args.n c.in-Ok.number c.args.from.now c.bits.new.self e.value e.below e.left e.place e.keeps c.if-number-eq0.false

pub returns-in-Err : goal.returns-in-Err
returns-in-Err g c =
    let e = c.in-Err.ensures in
    let old = c.args.from.now in
    let is = c.fault_at_place.ensures ∙ ap (fault_of_bits c.in-Err.fault) c.place-at.ensures in
    subst (λ f. Answers ⊥ (uimsbf c.args.n (rule BadType (λ number. not (number == 0)) ∷ [])) (Err f) old c.bits.new.self) (sym is)
    (answers-bit_fault (uimsbf c.args.n (rule BadType (λ number. not (number == 0)) ∷ [])) c.in-Err.fault old c.bits.new.self
    (λ end. explains-not_zero_cut c.args.n (bits_left old) (place old) c.requires.some (left-bits old) (e.end (ap Err end)))
    (advances-kept (bits_left old) (bits_left c.bits.new.self) (place old) (place c.bits.new.self) e.kept e.kept_place)
    (λ f. e.failed (ap Err f)) (λ f. e.missing (ap Err f)) e.keeps)
