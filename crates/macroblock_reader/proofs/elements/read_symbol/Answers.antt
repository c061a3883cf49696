use Rattle.std.specs.Option.{option_map}
use Rattle.std.proofs.Common.{rules, ◌+◌, drop, IfSome, ap, subst, ◌∙◌}
use Rattle.bit_cursor.specs.BitReader.{bits_left, place, KeepsSource}
use Rattle.picture_grammar.proofs.LocalLaws.{local-element}
use Rattle.grammar_reading.specs.Window.{ShowsFront}
use Rattle.grammar_reading.specs.Symbol.{symbol_up_to}
use Rattle.block_coeffs.proofs.Steps.{reads-found}
use Rattle.macroblock_reader.specs.Private.Why.{refusal_of}
use Rattle.macroblock_reader.proofs.Ahead.{answers-ahead}
use Rattle.macroblock_reader.proofs.Courses.{answers-read}
use Rattle.macroblock_reader.proofs.elements.read_symbol.Goals as goal

pub returns-then-not-branch : goal.returns-then-not-branch
returns-then-not-branch g c =
    let held = c.in_ok-hold_ahead.ensures in
    answers-ahead g.met.S.Source.keeps_on c.read_rare_symbol.result held.left held.place held.keeps c.read_rare_symbol.ensures

pub returns-in_default : goal.returns-in_default
returns-in_default g c =
    let held = c.in_ok-hold_ahead.ensures in
    answers-ahead g.met.S.Source.keeps_on c.read_rare_symbol-in_default.result held.left held.place held.keeps c.read_rare_symbol-in_default.ensures

pub returns : goal.returns
returns g c =
    let old = c.args.from.now in
    let new = c.skip.new.self in
    let kind = refusal_of c.args.why in
    let grammar = symbol_up_to c.args.table c.args.most kind kind in
    let window = c.whole_window.result in
    let len = c.in-Some.len in
    let shows : IfSome (bits_left old) (ShowsFront window) = subst (λ told. IfSome told (ShowsFront window)) c.in_ok-hold_ahead.ensures.left c.whole_window.ensures.shows in
    let held = c.in_ok-hold_ahead.ensures.keeps in
    let keeps : KeepsSource old new = search rules in
    answers-read grammar c.in-Some.symbol old new
    (reads-found grammar (local-element _ _ _) c.in-Some.symbol (bits_left old) (bits_left new) window len (place old) (place new) shows c.in-Some.ensures.0 (c.in-Some.ensures.1 kind kind)
    (c.skip.ensures.left ∙ ap (λ told. option_map (drop len) told) c.in_ok-hold_ahead.ensures.left) (c.skip.ensures.place ∙ ap (λ n. n + len) c.in_ok-hold_ahead.ensures.place)) keeps
