use Rattle.std.specs.Option.{option_map}
use Rattle.std.proofs.Common.{rules, ◌+◌, Ok, false, drop, IfSome, sym, ap, subst, ◌∙◌}
use Rattle.bit_cursor.specs.BitReader.{bits_left, place, KeepsSource}
use Rattle.picture_grammar.specs.Motion.{vector_part}
use Rattle.grammar_reading.specs.Window.{ShowsFront}
use Rattle.block_coeffs.proofs.Steps.{reads-found}
use Rattle.macroblock_reader.specs.Private.Answers.{Answers, answer_as}
use Rattle.macroblock_reader.specs.Private.Parts.{part_of}
use Rattle.macroblock_reader.proofs.Ahead.{answers-ahead}
use Rattle.macroblock_reader.proofs.Courses.{answers-read}
use Rattle.macroblock_reader.proofs.Vectors.{local-part}
use Rattle.macroblock_reader.proofs.motion.read_part.Goals as goal

pub returns-then-not-branch : goal.returns-then-not-branch
returns-then-not-branch g c =
    let held = c.in_ok-hold_ahead.ensures in
    answers-ahead g.met.S.Source.keeps_on (answer_as part_of c.read_part_by_elements-then-not-branch.result) held.left held.place held.keeps c.read_part_by_elements-then-not-branch.ensures

pub returns-in_default : goal.returns-in_default
returns-in_default g c =
    let held = c.in_ok-hold_ahead.ensures in
    answers-ahead g.met.S.Source.keeps_on (answer_as part_of c.read_part_by_elements-in_default.result) held.left held.place held.keeps c.read_part_by_elements-in_default.ensures

pub returns : goal.returns
returns g c =
    let f = c.args.f_code in
    let old = c.args.from.now in
    let new = c.skip.new.self in
    let part = part_of c.in-Some.part in
    let window = c.whole_window.result in
    let len = c.in-Some.len in
    let shows : IfSome (bits_left old) (ShowsFront window) = subst (λ told. IfSome told (ShowsFront window)) c.in_ok-hold_ahead.ensures.left c.whole_window.ensures.shows in
    let held = c.in_ok-hold_ahead.ensures.keeps in
    let keeps : KeepsSource old new = search rules in
    subst (λ dual. Answers ⊥ (vector_part f dual) (Ok part) old new) (sym c.if-dual.false)
    (answers-read (vector_part f false) part old new
    (reads-found (vector_part f false) (local-part f false) part (bits_left old) (bits_left new) window len (place old) (place new) shows c.in-Some.ensures.0 c.in-Some.ensures.1
    (c.skip.ensures.left ∙ ap (λ told. option_map (drop len) told) c.in_ok-hold_ahead.ensures.left) (c.skip.ensures.place ∙ ap (λ n. n + len) c.in_ok-hold_ahead.ensures.place)) keeps)
