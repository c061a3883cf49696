use Rattle.std.proofs.Common.{◌≡◌, ◌+◌, ◌/◌, ap, refl, arith, length}
use Rattle.std.proofs.lemmas.List.{length-drop}
use Rattle.bit_lists.proofs.ByteLemmas.{length-bit_list}
use Rattle.std.proofs.Common.{drop}
use Rattle.picture_reader.proofs.Parts.{are-bytes}
use Rattle.picture_reader.proofs.Cursors.{stands-more}
use Rattle.picture_reader.proofs.cursor.UnitCursor.past.Goals as goal

pub whole_bytes-requires : goal.whole_bytes-requires
whole_bytes-requires c =
    omega (arith, c.requires.bits, c.requires.length, length-bit_list (drop c.args.at c.args.unit.now), length-drop c.args.at c.args.unit.now)

pub returns-clause-stands : goal.returns-clause-stands
returns-clause-stands c = λ before slices found stands begins s.
    let unit = c.args.unit.now in
    let covers = c.with.ensures c.args.self.headers.seq slices found stands.covers c.columns.ensures.value s.in_row s.spans in
    stands-more before unit (are-bytes unit (λ i. omega (arith, c.type_inv.unit i))) slices c.args.self stands c.args.row c.args.at begins c.args.bits c.args.span found
    c.with.result (c.args.at + c.whole_bytes.result) s covers (ap (λ k. c.args.at + k) c.whole_bytes.ensures)
