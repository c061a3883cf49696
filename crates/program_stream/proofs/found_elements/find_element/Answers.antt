use Rattle.std.proofs.Common.{◌∷◌, [], ◌++◌, ap, ◌∙◌, refl, Ok}
use Rattle.program_stream.specs.declared.front.Front.TheVariants.{Zeros, Cut, Whole}
use Rattle.program_stream.proofs.Standing.{reads_as, all_here, before_next}
use Rattle.program_stream.proofs.found_elements.find_element.Goals as goal

pub returns-in-Zeros-clause-finds : goal.returns-in-Zeros-clause-finds
returns-in-Zeros-clause-finds c = (
  c.requires.before.0,
  all_here c.args.file.now c.requires.before.0 c.args.at 0 c.requires.before.1
      (reads_as c.args.file.now c.args.at _ _ c.zeros_before-zeros.result c.read_front.result (Ok Zeros) refl refl c.zeros_before-zeros.ensures.zeros c.read_front.ensures.reads (c.in-Ok.is ∙ ap Ok c.in-Zeros.is)),
)

pub returns-in-Cut-clause-finds : goal.returns-in-Cut-clause-finds
returns-in-Cut-clause-finds c = (
  c.requires.before.0,
  all_here c.args.file.now c.requires.before.0 c.args.at 1 c.requires.before.1
      (reads_as c.args.file.now c.args.at _ _ c.zeros_before-zeros.result c.read_front.result (Ok Cut) refl refl c.zeros_before-zeros.ensures.zeros c.read_front.ensures.reads (c.in-Ok.is ∙ ap Ok c.in-Cut.is)),
)

pub returns-in-Whole-clause-finds : goal.returns-in-Whole-clause-finds
returns-in-Whole-clause-finds c =
    let zeros = c.zeros_before-zeros.result in
    let len = c.in-Whole.len in
    let begins = reads_as c.args.file.now c.args.at _ _ zeros c.read_front.result (Ok (Whole len)) refl refl c.zeros_before-zeros.ensures.zeros c.read_front.ensures.reads (c.in-Ok.is ∙ ap Ok c.in-Whole.is) in
    (c.requires.before.0 ++ begins.element ∷ [], before_next c.args.file.now c.requires.before.0 c.args.at zeros len c.requires.before.1 begins)
