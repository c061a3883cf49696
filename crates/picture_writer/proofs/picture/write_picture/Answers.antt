use Rattle.std.proofs.Common.{◌≡◌, ◌++◌, [], List, ℕ, Option, sym, subst, ap, append_assoc, ◌∙◌, arith}
use Rattle.std.proofs.lemmas.Result.{on_ok_weaker, on_err_weaker}
use Rattle.std.specs.List.{flat_map}
use Rattle.bit_lists.specs.Fields.{bit_list}
use Rattle.bit_lists.proofs.ByteLemmas.{length-bit_list}
use Rattle.shelf_io.specs.Sink.{with_bytes, AddsPrefix}
use Rattle.bit_cursor.specs.BitWriter.{AddsBits}
use Rattle.syntax_types.specs.declared.picture.Picture.{Picture}
use Rattle.syntax_types.specs.declared.picture.SeqState.{SeqState}
use Rattle.picture_grammar.specs.Picture.{SpellsPicture}
use Rattle.picture_grammar.specs.Written.{IsWritten, written_picture}
use Rattle.picture_laws.proofs.WrittenPicture.{slices-of_picture, picture-read}
use Rattle.macroblock_writer.specs.Private.WholeSlices.{written_whole_slice}
use Rattle.picture_writer.specs.WrittenPicture.{AddsFront, written_end}
use Rattle.picture_writer.proofs.Finished.{no_ok, same_fault, same_causes, causes_behind, adds_behind, front_behind, front_within}
use Rattle.picture_writer.proofs.Writable.{lawful_fits}
use Rattle.picture_writer.proofs.picture.write_picture.Goals as goal

abbrev behind : Picture → List ℕ
behind picture = flat_map (written_whole_slice picture.coding) picture.slices ++ written_end picture.sequence_end

in_parts : (picture : Picture) → bit_list picture.head ++ behind picture ≡ written_picture picture
unfolding written_picture
in_parts picture = sym (append_assoc (bit_list picture.head) (flat_map (written_whole_slice picture.coding) picture.slices) (written_end picture.sequence_end))

pub write_behind_head-requires : goal.write_behind_head-requires
write_behind_head-requires g c =
    let fits = lawful_fits c.args.picture.now c.requires.lawful in
    record { coding = fits.coding; spelled = fits.slices }

-- what was written is read back
read_again : (picture : Picture) (before : Option SeqState) (bytes written : List ℕ) → SpellsPicture before picture bytes → IsWritten picture written → SpellsPicture before picture written
read_again picture before bytes written s is =
    picture-read before picture written (slices-of_picture before picture (bit_list bytes) [] (omega (arith, length-bit_list bytes)) s) is

pub returns-in_err-put_all : goal.returns-in_err-put_all
returns-in_err-put_all g c =
    let picture = c.args.picture.now in
    let r = c.from_residual.result in
    let told = g.K.Sink.written c.args.to.now in
    let after = g.K.Sink.written c.put_all.new.sink in
    let adds : AddsPrefix told after picture.head = subst (AddsPrefix told after) c.as_slice.ensures c.in_err-put_all.ensures.err in
    record {
      ok = no_ok _ r c.from_residual.ensures.0;
      err = same_fault _ r c.from_residual.ensures.1
          (subst (AddsFront told after) (in_parts picture) (front_within told after picture.head (behind picture) (lawful_fits picture c.requires.lawful).head adds));
      read_back = read_again picture;
      causes = same_causes _ c.put_all.result r c.in_err-put_all.was c.from_residual.ensures.1 c.put_all.ensures.causes;
      keeps = c.in_err-put_all.ensures.keeps;
    }

pub returns : goal.returns
returns g c =
    let picture = c.args.picture.now in
    let r = c.write_behind_head.result in
    let told = g.K.Sink.written c.args.to.now in
    let mid = g.K.Sink.written c.put_all.new.sink in
    let after = g.K.Sink.written c.write_behind_head.new.to in
    let head : mid ≡ with_bytes told picture.head = c.in_ok-put_all.ensures.ok ∙ ap (with_bytes told) c.as_slice.ensures in
    let are = (lawful_fits picture c.requires.lawful).head in
    record {
      ok = on_ok_weaker r (λ (adds : AddsBits mid after (behind picture)). subst (AddsBits told after) (in_parts picture)
          (adds_behind told mid after picture.head (behind picture) are head adds)) c.write_behind_head.ensures.ok;
      err = on_err_weaker r
          (λ (adds : AddsFront mid after (behind picture)). subst (AddsFront told after) (in_parts picture)
          (front_behind told mid after picture.head (behind picture) are head adds)) c.write_behind_head.ensures.err;
      read_back = read_again picture;
      causes = causes_behind c.in_ok-put_all.ensures.causes c.write_behind_head.ensures.causes;
      keeps = g.met.K.Sink.keeps_on _ _ _ c.in_ok-put_all.ensures.keeps c.write_behind_head.ensures.keeps;
    }
