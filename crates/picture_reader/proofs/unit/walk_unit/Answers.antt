use Rattle.std.proofs.Common.{◌≡◌, ◌++◌, ◌∷◌, ℕ, List, [], ap₂, subst, ◌∙◌, arith}
use Rattle.std.specs.Option.{option_copied}
use Rattle.bit_lists.specs.Fields.{bit_list}
use Rattle.syntax_types.specs.declared.slice.Slice.{Slice}
use Rattle.picture_reader.specs.declared.cursor.UnitPart.{UnitPart}
use Rattle.picture_reader.specs.UnitCursor.{IsNextPart, bits_from}
use Rattle.picture_reader.specs.Private.Reading.{SliceRead}
use Rattle.picture_reader.proofs.Parts.{are-bytes}
use Rattle.picture_reader.proofs.Units.{head-coding}
use Rattle.picture_reader.proofs.unit.walk_unit.Goals as goal

pub walk_slice-requires-clause-coding : goal.walk_slice-requires-clause-coding
walk_slice-requires-clause-coding c =
    let unit = c.args.unit.now in
    head-coding (option_copied c.args.before) unit (are-bytes unit (λ i. omega (arith, c.type_inv.unit i))) c.slices.cursor.headers c.slices.invariant.stands.headed

pub slices-preserved : goal.slices-preserved
slices-preserved c =
    let before = option_copied c.args.before in
    let unit = c.args.unit.now in
    let inv = c.slices.invariant in
    let cursor = c.slices.cursor in
    let walked = c.in-Ok-walk_slice.walked in
    let w : SliceRead cursor.headers.seq cursor.headers.coding c.in-Slice.row c.args.keep walked (bits_from unit c.in-Slice.at) =
    subst (λ (b : List ℕ). SliceRead cursor.headers.seq cursor.headers.coding c.in-Slice.row c.args.keep walked (bit_list b)) c.bytes_from-bytes.ensures c.in-Ok-walk_slice.ensures.gives in
    let begins = subst (λ (p : UnitPart). IsNextPart before unit inv.slices cursor p) c.in-Slice.is (c.in-Ok-next.ensures before inv.slices inv.stands) in
    record {
      slices = inv.slices ++ w.found ∷ [];
      stands = c.past-cursor.ensures.stands before inv.slices w.found inv.stands begins (record { spelled = w.spelled; within = w.within; in_row = w.in_row; spans = w.spans });
      kept = λ k. c.in_ok-keep_slice-in-Slice.ensures k ∙ ap₂ (λ (l : List Slice) (s : Slice). l ++ s ∷ []) (inv.kept k) (w.kept k);
    }
