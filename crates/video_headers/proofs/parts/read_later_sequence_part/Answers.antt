use Rattle.std.proofs.Common.{ℕ, nat_eq, Err, refl, sym, ◌∙◌, subst, arith}
use Rattle.syntax_types.specs.declared.picture.SeqState.{SeqState}
use Rattle.picture_grammar.specs.Grammar.{done}
use Rattle.video_headers.specs.declared.why.Why.TheVariants as why
use Rattle.video_headers.specs.Private.NextCode.{NextRests}
use Rattle.video_headers.specs.Private.Reading.{Goes}
use Rattle.video_headers.proofs.Looks.{after-look, look-exit, answers-from, answers-to}
use Rattle.video_headers.proofs.NextCodes.{code-expected, code-unexpected, code-comes, none-comes, answers-such, answers-other}
use Rattle.video_headers.proofs.Reading.{answers-bind, answers-exit, answers-done, answers-mapped, answers-made_exit, follows-none, goes-done}
use Rattle.video_headers.proofs.Rules.{only-range}
use Rattle.video_headers.proofs.parts.read_later_sequence_part.Goals as goal

pub returns-then-not-has_header : goal.returns-then-not-has_header
returns-then-not-has_header g c =
    let itself = g.met.S.Source.keeps_itself in
    answers-to _ (answers-other (none-comes (λ byte. nat_eq byte 179) c.args.next c.args.reader.now itself (sym c.is-has_header.ensures ∙ c.if-not-has_header.true))
    (answers-done _ _ {from = NextRests c.args.next c.args.reader.now} c.args.reader.now itself refl)) (λ end bits n. n)

pub returns : goal.returns
returns g c =
    answers-such (code-comes (λ byte. nat_eq byte 179) c.args.next c.args.reader.now g.met.S.Source.keeps_itself
    (sym c.is-has_header.ensures ∙ c.if-not-has_header.false)) c.read_sequence_headers.ensures
