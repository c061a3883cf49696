use Rattle.std.proofs.Common.{◌≡◌, ℕ, List, Option, Some, IfSome, length, sym, ap, subst, ◌∙◌, arith}
use Rattle.std.specs.Option.{option_copied}
use Rattle.bit_lists.specs.Fields.{bit_list}
use Rattle.bit_lists.proofs.ByteLemmas.{length-bit_list}
use Rattle.bit_cursor.specs.BitReader.{bits_left}
use Rattle.picture_grammar.specs.Head.{head}
use Rattle.grammar_reading.specs.BitsRead.{PlacedRefusal}
use Rattle.video_headers.specs.HeadFault.{refusal_told as head_told}
use Rattle.video_headers.specs.HeadRead.{HeadRead}
use Rattle.video_headers.specs.Private.Reading.{Rests}
use Rattle.picture_reader.specs.PictureFault.{refusal_told}
use Rattle.picture_reader.specs.Told.{RefusesTold}
use Rattle.picture_reader.proofs.Told.{explains-told}
use Rattle.picture_reader.proofs.Units.{head-stands}
use Rattle.picture_reader.proofs.head.head_of.Goals as goal

pub returns-in-Ok : goal.returns-in-Ok
returns-in-Ok c =
    let unit = c.args.unit.now in
    let before = option_copied c.args.before in
    let told : bits_left c.new-reader.result ≡ Some (bit_list unit) = c.new-reader.ensures.left ∙ ap (λ b. Some (bit_list b)) c.new-source.ensures in
    let read : HeadRead before c.in-Ok.found (bit_list unit) c.read_head.new.reader =
    subst (λ (o : Option (List ℕ)). IfSome o (λ bits. HeadRead before c.in-Ok.found bits c.read_head.new.reader)) told c.in-Ok.ensures.read in
    head-stands before unit c.in-Ok.found.headers read.begins.rest read.begins.spelled read.begins.size

pub returns-in-Err : goal.returns-in-Err
returns-in-Err c =
    let bits = bit_list c.args.unit.now in
    let grammar = head (option_copied c.args.before) in
    let has : Rests c.new-reader.result (length bits) bits = record
    { told = c.new-reader.ensures.left ∙ ap (λ b. Some (bit_list b)) c.new-source.ensures; ends = omega (arith, c.new-reader.ensures.place) } in
    let told = head_told c.in-Err.fault in
    let refused = explains-told grammar c.new-reader.result (length bits) bits told c.in-Err.ensures.refused has in
    subst (λ (n : ℕ). RefusesTold grammar (refusal_told c.fault_of_head.result) n bits) (length-bit_list c.args.unit.now)
    (subst (λ (o : Option PlacedRefusal). RefusesTold grammar o (length bits) bits) (sym c.fault_of_head.ensures) refused)
