use Rattle.std.specs.Option.{option_map}
use Rattle.std.proofs.Common.{rules, ◌+◌, drop, IfSome, sym, ap, subst, ◌∙◌, Err}
use Rattle.bit_cursor.specs.BitReader.{bits_left, place, KeepsSource}
use Rattle.picture_grammar.proofs.LocalLaws.{local-element}
use Rattle.grammar_reading.specs.Window.{ShowsFront}
use Rattle.grammar_reading.specs.Symbol.{symbol_up_to}
use Rattle.block_coeffs.proofs.Steps.{held-shown, reads-found}
use Rattle.macroblock_reader.specs.declared.why.Why.TheVariants as why
use Rattle.macroblock_reader.specs.Private.Answers.{Answers}
use Rattle.macroblock_reader.specs.Private.Why.{refusal_of}
use Rattle.macroblock_reader.proofs.Courses.{answers-read}
use Rattle.macroblock_reader.proofs.Codes.{answers-none}
use Rattle.macroblock_reader.proofs.elements.find_rare_symbol.Goals as goal

pub returns-in-Symbol : goal.returns-in-Symbol
returns-in-Symbol g c =
    let old = c.args.from.now in
    let new = c.skip.new.self in
    let kind = refusal_of c.args.why in
    let grammar = symbol_up_to c.args.table c.args.most kind kind in
    let window = c.held_window.result in
    let len = c.in-Symbol.len in
    let shows : IfSome (bits_left old) (ShowsFront window) = held-shown (bits_left old)
    (bits_left c.hold_ahead.new.self) c.hold_ahead.new.self.held window c.in_ok-hold_ahead.ensures.left c.in_ok-hold_ahead.ensures.few c.held_window.ensures.shows in
    let held = c.in_ok-hold_ahead.ensures.keeps in
    let keeps : KeepsSource old new = search rules in
    answers-read grammar c.in-Symbol.symbol old new
    (reads-found grammar (local-element _ _ _) c.in-Symbol.symbol (bits_left old) (bits_left new) window len (place old) (place new) shows c.in-Symbol.ensures.0 (c.in-Symbol.ensures.1 kind kind)
    (c.skip.ensures.left ∙ ap (λ told. option_map (drop len) told) c.in_ok-hold_ahead.ensures.left) (c.skip.ensures.place ∙ ap (λ n. n + len) c.in_ok-hold_ahead.ensures.place)) keeps

pub returns-in-NoCode : goal.returns-in-NoCode
returns-in-NoCode g c =
    let old = c.args.from.now in
    let kind = refusal_of c.args.why in
    let grammar = symbol_up_to c.args.table c.args.most kind kind in
    let window = c.held_window.result in
    let shows : IfSome (bits_left old) (ShowsFront window) = held-shown (bits_left old)
    (bits_left c.hold_ahead.new.self) c.hold_ahead.new.self.held window c.in_ok-hold_ahead.ensures.left c.in_ok-hold_ahead.ensures.few c.held_window.ensures.shows in
    subst (λ f. Answers ⊥ grammar (Err f) old c.hold_ahead.new.self) (sym c.at.ensures)
    (answers-none grammar c.args.why window _ old c.hold_ahead.new.self shows (c.in-NoCode.ensures kind kind) c.in_ok-hold_ahead.ensures.left c.in_ok-hold_ahead.ensures.place c.place.ensures c.in_ok-hold_ahead.ensures.keeps)

pub returns-in-PastMost : goal.returns-in-PastMost
returns-in-PastMost g c =
    let old = c.args.from.now in
    let kind = refusal_of c.args.why in
    let grammar = symbol_up_to c.args.table c.args.most kind kind in
    let window = c.held_window.result in
    let shows : IfSome (bits_left old) (ShowsFront window) = held-shown (bits_left old)
    (bits_left c.hold_ahead.new.self) c.hold_ahead.new.self.held window c.in_ok-hold_ahead.ensures.left c.in_ok-hold_ahead.ensures.few c.held_window.ensures.shows in
    subst (λ f. Answers ⊥ grammar (Err f) old c.hold_ahead.new.self) (sym c.at-in-PastMost.ensures)
    (answers-none grammar c.args.why window _ old c.hold_ahead.new.self shows
    (c.in-PastMost.ensures kind kind) c.in_ok-hold_ahead.ensures.left c.in_ok-hold_ahead.ensures.place c.place-in-PastMost.ensures c.in_ok-hold_ahead.ensures.keeps)

pub returns-in-Cut : goal.returns-in-Cut
returns-in-Cut g c =
    let old = c.args.from.now in
    let kind = refusal_of c.args.why in
    let grammar = symbol_up_to c.args.table c.args.most kind kind in
    let window = c.held_window.result in
    let shows : IfSome (bits_left old) (ShowsFront window) = held-shown (bits_left old)
    (bits_left c.hold_ahead.new.self) c.hold_ahead.new.self.held window c.in_ok-hold_ahead.ensures.left c.in_ok-hold_ahead.ensures.few c.held_window.ensures.shows in
    subst (λ f. Answers ⊥ grammar (Err f) old c.hold_ahead.new.self) (sym c.at-in-Cut.ensures)
    (answers-none grammar why.End window _ old c.hold_ahead.new.self shows
    (c.in-Cut.ensures kind kind) c.in_ok-hold_ahead.ensures.left c.in_ok-hold_ahead.ensures.place c.place-in-Cut.ensures c.in_ok-hold_ahead.ensures.keeps)
