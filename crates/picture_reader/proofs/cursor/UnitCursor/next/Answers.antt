use Rattle.std.proofs.Common.{◌≡◌, ◌↔◌, ◌*◌, ℕ, true, false, refl, ap₂, subst, arith}
use Rattle.std.proofs.lemmas.Bool.{both_ways}
use Rattle.std.specs.List.{flat_map, range_with_len}
use Rattle.picture_grammar.specs.Picture.{addresses, rows}
use Rattle.picture_grammar.specs.Slice.{columns}
use Rattle.picture_reader.specs.PictureFault.{refusal_told}
use Rattle.picture_reader.specs.declared.part.Part.{Part}
use Rattle.picture_reader.specs.Private.Parts.{IsWithin, PartRead}
use Rattle.picture_reader.proofs.Parts.{are-bytes}
use Rattle.picture_reader.proofs.Cursors.{end-uncovered, end-whole, part-refused}
use Rattle.picture_reader.proofs.cursor.UnitCursor.next.Goals as goal

pub returns-in-Err : goal.returns-in-Err
returns-in-Err c = λ before slices stands.
    let unit = c.args.unit.now in
    let self = c.args.self.now in
    part-refused before unit (are-bytes unit (λ i. omega (arith, c.type_inv.unit i))) slices self stands (refusal_told c.in-Err.fault)
    (c.in-Err.ensures.gives self.headers.seq self.headers.coding slices stands.first)

pub returns-in-Slice : goal.returns-in-Slice
returns-in-Slice c = λ before slices stands.
    let unit = c.args.unit.now in
    let self = c.args.self.now in
    let within = subst (λ (p : Part). IsWithin p unit self.at) c.in-Slice.is c.in-Ok.ensures.within in
    record {
      code = c.in-Slice.code;
      in_row = refl;
      comes = subst (λ (p : Part). PartRead self.headers.seq self.headers.coding slices p unit self.at) c.in-Slice.is
          (c.in-Ok.ensures.gives self.headers.seq self.headers.coding slices stands.first);
      onward = within.0;
      within = within.1;
    }

pub returns-then-is_whole : goal.returns-then-is_whole
returns-then-is_whole c = λ before slices stands.
    let unit = c.args.unit.now in
    let self = c.args.self.now in
    let seq = self.headers.seq in
    let coding = self.headers.coding in
    let ended = subst (λ (p : Part). PartRead seq coding slices p unit self.at) c.in-End.is (c.in-Ok.ensures.gives seq coding slices stands.first) in
    let count : c.rows.result * c.columns.result ≡ rows seq coding * columns seq = ap₂ (λ (a b : ℕ). a * b) c.rows.ensures.value c.columns.ensures.value in
    let covered = subst (λ (n : ℕ). (c.is_whole-is_whole.result ≡ true) ↔ (flat_map (addresses seq) slices ≡ range_with_len 0 n)) count
    (c.is_whole-is_whole.ensures seq slices stands.covers) in
    end-whole before unit (are-bytes unit (λ i. omega (arith, c.type_inv.unit i))) slices self stands c.in-End.sequence_end ended (covered.0 c.if-is_whole.true)

pub returns-else-is_whole : goal.returns-else-is_whole
returns-else-is_whole c = λ before slices stands.
    let unit = c.args.unit.now in
    let self = c.args.self.now in
    let seq = self.headers.seq in
    let coding = self.headers.coding in
    let ended = subst (λ (p : Part). PartRead seq coding slices p unit self.at) c.in-End.is (c.in-Ok.ensures.gives seq coding slices stands.first) in
    let count : c.rows.result * c.columns.result ≡ rows seq coding * columns seq = ap₂ (λ (a b : ℕ). a * b) c.rows.ensures.value c.columns.ensures.value in
    let covered = subst (λ (n : ℕ). (c.is_whole-is_whole.result ≡ true) ↔ (flat_map (addresses seq) slices ≡ range_with_len 0 n)) count
    (c.is_whole-is_whole.ensures seq slices stands.covers) in
    end-uncovered before unit (are-bytes unit (λ i. omega (arith, c.type_inv.unit i))) slices self stands c.in-End.sequence_end ended
    (λ all. both_ways c.is_whole-is_whole.result c.if-is_whole.false (covered.1 all))
