use Rattle.std.proofs.Common.{◌≡◌, ◌-◌, ℕ, List, Option, ap, sym, subst₂, arith}
use Rattle.es_window.specs.PassingBytes.{HasRead, part_read, read_index, read_pids}
use Rattle.file_pass.specs.FilePass.{left_to}
use Rattle.file_pieces.specs.declared.limits.TheConstants.{READ_MOST}
use Rattle.file_pieces.specs.FileStream.{file_of}
use Rattle.file_pieces.proofs.Misfits.{left_same, untold}
use Rattle.file_pieces.proofs.file_stream.OpenStream.read_on.Goals as goal

pub returns-clause-changed : goal.returns-clause-changed
returns-clause-changed g c = λ changed.
    let told = g.K.Shelf.files c.args.shelf.now in
    let place = c.args.place.now in
    let stream = c.args.self.now in
    let source = c.from_place-source.result in
    let after = c.read_to-read.new.source in
    let left_is : left_to (g.K.Shelf.files source.shelf.now) source.name.now source.limit source.place ≡ left_to told place.name.now READ_MOST stream.place =
    left_same (g.K.Shelf.files source.shelf.now) told source.name.now place.name.now source.limit source.place stream.place (ap g.K.Shelf.files c.from_place-source.ensures.shelf)
    c.from_place-source.ensures.name c.from_place-source.ensures.limit c.from_place-source.ensures.place in
    let most_is : source.limit - source.place ≡ READ_MOST - stream.place = omega (arith, c.from_place-source.ensures.limit, c.from_place-source.ensures.place) in
    let has : HasRead (file_of told place) (left_to (g.K.Shelf.files source.shelf.now) source.name.now source.limit source.place) (READ_MOST - 0) (source.limit - source.place) stream.buffer stream.bytes =
    subst₂ (λ (left : Option (List ℕ)) (most : ℕ). HasRead (file_of told place) left (READ_MOST - 0) most stream.buffer stream.bytes) (sym left_is) (sym most_is) c.requires.stands.read in
    untold told place (left_to (g.K.Shelf.files after.shelf.now) after.name.now after.limit after.place) (READ_MOST - 0) (after.limit - after.place) c.read_to-read.new.buffer
    (read_pids stream.bytes) (read_index stream.bytes) (part_read stream.bytes) c.args.to c.read_to-read.result c.requires.place c.requires.stands.pids_are c.requires.stands.index_is
    c.requires.stands.part_is c.requires.has
    (record {
      short = λ ends. c.read_to-read.ensures.short ends (file_of told place) (READ_MOST - 0) has;
      refused = c.read_to-read.ensures.refused (file_of told place) (READ_MOST - 0) has;
    }) (c.answer_of.ensures.changed changed)
