use Rattle.std.proofs.Common.{Bool, ℕ, List, [], ◌∷◌, ap, sym, subst, if◌then◌else◌}
use Rattle.std.specs.List.{flat_map, AllByRecursion}
use Rattle.bit_cursor.proofs.Composed.{writes_then, writes_exit}
use Rattle.block_coeffs.proofs.Writing.{writes_as}
use Rattle.syntax_types.specs.declared.macroblock.Macroblock.{Macroblock}
use Rattle.syntax_types.specs.declared.picture.PicCoding.{PicCoding}
use Rattle.picture_grammar.specs.Macroblock.{has_concealment, f_codes}
use Rattle.picture_grammar.specs.Written.{written_vector}
use Rattle.macroblock_writer.specs.Private.Writing.{CanStand}
use Rattle.macroblock_writer.proofs.Writing.{writes_beyond}
use Rattle.macroblock_writer.proofs.macroblock.write_motion.Goals as goal

abbrev backward_part : PicCoding → Macroblock → List ℕ
backward_part coding m = flat_map (written_vector (f_codes coding 1)) m.backward.items

abbrev marker_part : PicCoding → Macroblock → List ℕ
marker_part coding m = if has_concealment coding m.kind then 1 ∷ [] else []

pub write_vectors-requires-clause-stand : goal.write_vectors-requires-clause-stand
write_vectors-requires-clause-stand g c = subst (AllByRecursion (CanStand (f_codes c.args.coding.now 0))) (sym c.as_slice.ensures.value) c.requires.fits.forward

pub write_vectors-requires-2-clause-stand : goal.write_vectors-requires-2-clause-stand
write_vectors-requires-2-clause-stand g c = subst (AllByRecursion (CanStand (f_codes c.args.coding.now 1))) (sym c.as_slice-2.ensures.value) c.requires.fits.backward

pub returns-in_err-write_vectors : goal.returns-in_err-write_vectors
returns-in_err-write_vectors g c =
    let coding = c.args.coding.now in
    let m = c.args.macroblock.now in
    writes_beyond c.from_residual.result (marker_part coding m) c.from_residual.ensures.0
    (writes_exit c.from_residual.result (backward_part coding m) c.from_residual.ensures.1
    (writes_as c.in_err-write_vectors.ensures (ap (flat_map (written_vector (f_codes coding 0))) c.as_slice.ensures.value)))

pub returns-in_err-write_vectors-2 : goal.returns-in_err-write_vectors-2
returns-in_err-write_vectors-2 g c =
    let coding = c.args.coding.now in
    let m = c.args.macroblock.now in
    writes_exit c.from_residual-in_err-write_vectors-2.result (marker_part coding m) c.from_residual-in_err-write_vectors-2.ensures.1
    (writes_then g.met.K.Sink.keeps_on (writes_as c.in_ok-write_vectors.ensures (ap (flat_map (written_vector (f_codes coding 0))) c.as_slice.ensures.value))
    (writes_as c.in_err-write_vectors-2.ensures (ap (flat_map (written_vector (f_codes coding 1))) c.as_slice-2.ensures.value)))

pub returns : goal.returns
returns g c =
    let coding = c.args.coding.now in
    writes_then g.met.K.Sink.keeps_on
    (writes_then g.met.K.Sink.keeps_on (writes_as c.in_ok-write_vectors.ensures (ap (flat_map (written_vector (f_codes coding 0))) c.as_slice.ensures.value))
    (writes_as c.in_ok-write_vectors-2.ensures (ap (flat_map (written_vector (f_codes coding 1))) c.as_slice-2.ensures.value)))
    (writes_as c.put_flag_where.ensures (ap (λ (b : Bool). if b then 1 ∷ [] else []) c.has_concealment.ensures))
