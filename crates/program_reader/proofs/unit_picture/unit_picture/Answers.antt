use Rattle.std.proofs.Common.{ℕ, List, Option, MatchResult, sym, subst, inr}
use Rattle.std.specs.Option.{option_copied}
use Rattle.syntax_types.specs.declared.picture.SeqState.{SeqState}
use Rattle.picture_grammar.specs.Picture.{MayPrecede}
use Rattle.picture_reader.specs.Picture.{IsRefusedAs, SpellsHeaders}
use Rattle.picture_reader.specs.PictureFault.{refusal_told}
use Rattle.program_reader.specs.Private.TimedPictures.{IsFound, IsNotFound}
use Rattle.program_reader.specs.Units.{state_behind}
use Rattle.program_reader.specs.Private.SizedUnits.{IsSizedBehind}
use Rattle.program_reader.proofs.SizedLemmas.{broken_sizes}
use Rattle.program_reader.proofs.UnitLemmas.{rate_of, coded_of, broken_is, may_precede}
use Rattle.program_reader.proofs.unit_picture.unit_picture.Goals as goal

pub returns-in-Err-clause-found : goal.returns-in-Err-clause-found
returns-in-Err-clause-found c = λ es packets earlier own same tells are.
    let before = option_copied c.args.before in
    let unit = c.args.unit.now in
    let told = subst (λ (state : Option SeqState). IsRefusedAs state c.args.bytes.now c.in-Err.fault) c.state_behind.ensures c.in-Err.ensures.refused in
    let refused = subst (λ (xs : List ℕ). IsRefusedAs (state_behind before) xs c.in-Err.fault) own told in
    subst (λ result. MatchResult result (IsFound es packets earlier before unit) (IsNotFound es packets before unit)) (sym c.broken.ensures)
    (broken_is es packets earlier before unit (refusal_told c.in-Err.fault) refused)

pub timed_picture-requires-clause-rate : goal.timed_picture-requires-clause-rate
timed_picture-requires-clause-rate c =
    rate_of (option_copied c.args.before) (option_copied c.state_behind.result) c.args.bytes.now c.in-Ok.headers c.state_behind.ensures c.requires.before c.in-Ok.ensures.ok

pub returns-in-Err-timed_picture-clause-found : goal.returns-in-Err-timed_picture-clause-found
returns-in-Err-timed_picture-clause-found c = λ es packets earlier own same tells are.
    let state = option_copied c.state_behind.result in
    inr (c.in-Err-timed_picture.ensures es packets earlier same tells
    (coded_of es (option_copied c.args.before) state (c.args.unit.now.begin, c.args.unit.now.end) c.in-Ok.headers c.state_behind.ensures
    (subst (λ (xs : List ℕ). SpellsHeaders state xs c.in-Ok.headers) own c.in-Ok.ensures.ok))
    are c.args.unit.now.is_last)

pub check_unit-requires-clause-before : goal.check_unit-requires-clause-before
check_unit-requires-clause-before c = subst MayPrecede (sym c.state_behind.ensures) (may_precede (option_copied c.args.before) c.requires.before)

pub returns-in-Err-clause-sizes : goal.returns-in-Err-clause-sizes
returns-in-Err-clause-sizes c =
    let unit = c.args.unit.now in
    let asked = c.args.wanted.now in
    rw c.broken.ensures (broken_sizes (state_behind (option_copied c.args.before)) c.args.bytes.now asked.coarser.now asked.are_wanted c.args.sizes.now.items
    c.check_unit.new.sizes.items unit (refusal_told c.in-Err.fault) c.in-Err.ensures.same)

pub returns-in-Ok-timed_picture-clause-sizes : goal.returns-in-Ok-timed_picture-clause-sizes
returns-in-Ok-timed_picture-clause-sizes c =
    let asked = c.args.wanted.now in
    subst (λ (state : Option SeqState). IsSizedBehind state c.args.bytes.now asked.coarser.now asked.are_wanted c.args.sizes.now.items c.check_unit.new.sizes.items)
    c.state_behind.ensures c.in-Ok.ensures.sizes

pub returns-in-Ok-timed_picture-clause-found : goal.returns-in-Ok-timed_picture-clause-found
returns-in-Ok-timed_picture-clause-found c = λ es packets earlier own same tells are.
    let state = option_copied c.state_behind.result in
    c.in-Ok-timed_picture.ensures es packets earlier same tells
    (coded_of es (option_copied c.args.before) state (c.args.unit.now.begin, c.args.unit.now.end) c.in-Ok.headers c.state_behind.ensures
    (subst (λ (xs : List ℕ). SpellsHeaders state xs c.in-Ok.headers) own c.in-Ok.ensures.ok))
    are
