use Rattle.std.proofs.Common.{◌∙◌, List, ℕ, Err, ap, subst}
use Rattle.shelf_io.specs.Files.{with_content}
use Rattle.shelf_io.specs.WholeFile.{HoldsPrefix}
use Rattle.shelf_io.proofs.Counted.{never_failed}
use Rattle.shelf_io.specs.Facts.{shelf_facts}
use Rattle.run_command.proofs.Certified.{certifies_broken, certifies_wanting, certifies_whole}
use Rattle.run_command.proofs.steps.write_certificate.Goals as goal

pub returns-in-Ok : goal.returns-in-Ok
returns-in-Ok g c =
    let facts = shelf_facts g.K.Shelf.files g.K.Shelf.counts g.K.Shelf.asked g.K.Shelf.since_fault in
    let name = c.args.files.now.certificate.now in
    certifies_whole (facts c.args.shelf.now) (facts c.write_file.new.shelf) name c.args.prepared
    (c.in-Ok.ensures.ok ∙ ap (λ (bytes : List ℕ). with_content (g.K.Shelf.files c.args.shelf.now) name bytes) c.as_slice.ensures)
    c.in-Ok.ensures.causes (never_failed tt) c.in-Ok.ensures.asked

pub returns-in-Err-Failed : goal.returns-in-Err-Failed
returns-in-Err-Failed g c =
    let facts = shelf_facts g.K.Shelf.files g.K.Shelf.counts g.K.Shelf.asked g.K.Shelf.since_fault in
    let old = g.K.Shelf.files c.args.shelf.now in
    let new = g.K.Shelf.files c.write_file.new.shelf in
    let name = c.args.files.now.certificate.now in
    let is = c.in-Err-Failed.ensures in
    certifies_broken (facts c.args.shelf.now) (facts c.write_file.new.shelf) name c.args.prepared c.end_unwritten.result c.end_unwritten.ensures
    (subst (λ (bytes : List ℕ). HoldsPrefix old new name bytes) c.as_slice.ensures is.err) is.causes (ap Err c.in-Err-Failed.field-0-is) is.fault_last is.asked

pub returns-in-Err-OutOfMemory : goal.returns-in-Err-OutOfMemory
returns-in-Err-OutOfMemory g c =
    let facts = shelf_facts g.K.Shelf.files g.K.Shelf.counts g.K.Shelf.asked g.K.Shelf.since_fault in
    let old = g.K.Shelf.files c.args.shelf.now in
    let new = g.K.Shelf.files c.write_file.new.shelf in
    let name = c.args.files.now.certificate.now in
    let is = c.in-Err-OutOfMemory.ensures in
    certifies_wanting (facts c.args.shelf.now) (facts c.write_file.new.shelf) name c.args.prepared
    (subst (λ (bytes : List ℕ). HoldsPrefix old new name bytes) c.as_slice.ensures is.err) is.causes (λ it. is.fault_last) is.asked
