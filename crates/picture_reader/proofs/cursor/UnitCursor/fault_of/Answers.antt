use Rattle.std.proofs.Common.{◌≡◌, ◌+◌, ◌-◌, ◌*◌, ◌<◌, ◌^◌, ℕ, Option, IfSome, length, sym, ap, subst, ◌∙◌, arith}
use Rattle.stream_constants.specs.declared.start_codes.TheConstants.{FIRST_SLICE}
use Rattle.picture_grammar.specs.Slice.{slice}
use Rattle.grammar_reading.specs.BitsRead.{PlacedRefusal}
use Rattle.macroblock_reader.specs.SliceFault.{refusal_told as slice_told}
use Rattle.picture_reader.specs.Told.{RefusesTold}
use Rattle.picture_reader.specs.UnitCursor.{bits_from}
use Rattle.picture_reader.specs.Private.Faults.{moved}
use Rattle.picture_reader.proofs.Parts.{are-bytes}
use Rattle.picture_reader.proofs.Cursors.{slice-refused}
use Rattle.picture_reader.proofs.Units.{RefusesUnit}
use Rattle.picture_reader.proofs.Wholes.{whole-few}
use Rattle.picture_reader.proofs.cursor.UnitCursor.fault_of.Goals as goal

pub fault_of_slice-requires-clause-few : goal.fault_of_slice-requires-clause-few
fault_of_slice-requires-clause-few c =
    let told = slice_told c.args.fault in
    let seq = c.args.self.now.headers.seq in
    let coding = c.args.self.now.headers.coding in
    let bits = bits_from c.args.unit.now c.args.at in
    let code : ℕ = c.args.row + 1 in
    let same : c.args.row ≡ (c.args.row + 1) - FIRST_SLICE = omega arith in
    let refused : RefusesTold (slice seq coding ((c.args.row + 1) - FIRST_SLICE)) told (length bits) bits =
    subst (λ (k : ℕ). RefusesTold (slice seq coding k) told (length bits) bits) same c.requires.refused in
    subst (λ (k : ℕ). IfSome told (λ said. k + said.at < 2 ^ 64)) (sym c.bit_place.ensures)
    (whole-few seq coding (c.args.row + 1) c.args.unit.now c.args.at c.requires.at c.requires.length told refused)

pub returns : goal.returns
returns c = λ before slices stands begins.
    let unit = c.args.unit.now in
    let told = slice_told c.args.fault in
    subst (λ (o : Option PlacedRefusal). RefusesUnit before unit o) (ap (λ (k : ℕ). moved k told) (sym c.bit_place.ensures) ∙ sym c.fault_of_slice.ensures)
    (slice-refused before unit (are-bytes unit (λ i. omega (arith, c.type_inv.unit i))) slices c.args.self.now stands c.args.row c.args.at begins told c.requires.refused)
