use Rattle.std.proofs.Common.{◌≡◌, arith, ap, ◌∙◌, sym, refl}
use Rattle.pes_units.proofs.TimeFields.{word_at, time_in, markers_in, time_at-word, has_markers-word, time_in-read, word-read, markers_in-mask, markers_in-mask_not}
use Rattle.pes_units.proofs.times.read_time.Goals as goal
use Rattle.pes_units.proofs.times.read_time.Goals.{After-from_be_bytes-word}

-- the code's word is the field
word_is : (c : After-from_be_bytes-word) → c.from_be_bytes-word.result ≡ word_at c.args.bytes.now c.args.place
word_is c = c.from_be_bytes-word.ensures ∙ word-read c.args.bytes.now c.args.place (λ i. omega (arith, c.type_inv.bytes i))

pub returns-then-word-ne-MARKER_BITS-clause-err : goal.returns-then-word-ne-MARKER_BITS-clause-err
returns-then-word-ne-MARKER_BITS-clause-err c =
    let d : After-from_be_bytes-word = (goal.at.returns-then-word-ne-MARKER_BITS-clause-err c).After-from_be_bytes-word in
    (refl, has_markers-word c.args.bytes.now c.args.place ∙ ap markers_in (sym (word_is d)) ∙ markers_in-mask_not c.from_be_bytes-word.result c.if-word-ne-MARKER_BITS.true)

pub returns-clause-ok : goal.returns-clause-ok
returns-clause-ok c =
    let d : After-from_be_bytes-word = (goal.at.returns-clause-ok c).After-from_be_bytes-word in (
      has_markers-word c.args.bytes.now c.args.place ∙ ap markers_in (sym (word_is d)) ∙ markers_in-mask c.from_be_bytes-word.result c.if-word-ne-MARKER_BITS.false,
      time_in-read c.from_be_bytes-word.result ∙ ap time_in (word_is d) ∙ sym (time_at-word c.args.bytes.now c.args.place),
    )
