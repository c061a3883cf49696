use Rattle.std.proofs.Common.{Ok, subst}
use Rattle.std.proofs.lemmas.Result.{err_from_is_err_and}
use Rattle.picture_grammar.specs.Grammar.{more_of}
use Rattle.picture_grammar.specs.Grammar.Next.{more, last}
use Rattle.picture_grammar.specs.Slice.{extra_information}
use Rattle.macroblock_reader.specs.Private.Answers.{Answers}
use Rattle.macroblock_reader.proofs.Lists.{listed-more, listed-end, listed-err}
use Rattle.macroblock_reader.proofs.Slices.{answers-may, listed-memory, information-stands}
use Rattle.macroblock_reader.proofs.head.read_information.Goals as goal

pub returns-in_err-next : goal.returns-in_err-next
returns-in_err-next g c =
    let p = err_from_is_err_and c.from_residual.result c.from_residual.ensures.1 in
    rw (p.1, p.2) (listed-err extra_information g.met.S.Source.keeps_on c.bytes.bytes c.bytes.invariant (answers-may (c.in_err-next.ensures.answers c.bytes.bytes)))

pub returns-in-None : goal.returns-in-None
returns-in-None g c =
    let a = subst (λ n. Answers ⊥ (extra_information c.bytes.bytes) (Ok (more_of n)) c.bytes.from c.read_information_byte.new.from) c.in-None.is (c.in_ok-next.ensures.answers c.bytes.bytes) in
    answers-may (listed-end extra_information g.met.S.Source.keeps_on c.bytes.bytes c.bytes.invariant tt (information-stands c.bytes.bytes (last tt)) a)

pub bytes-preserved : goal.bytes-preserved
bytes-preserved g c =
    let a = subst (λ n. Answers ⊥ (extra_information c.bytes.bytes) (Ok (more_of n)) c.bytes.from c.read_information_byte.new.from) c.in-Some.is (c.in_ok-next.ensures.answers c.bytes.bytes) in
    rw c.in_ok-push-in-Some.ensures.ok (listed-more extra_information g.met.S.Source.keeps_on c.bytes.bytes c.bytes.invariant c.in-Some.byte (information-stands c.bytes.bytes (more c.in-Some.byte)) a)

pub returns-in_err-push-in-Some : goal.returns-in_err-push-in-Some
returns-in_err-push-in-Some g c =
    let a = subst (λ n. Answers ⊥ (extra_information c.bytes.bytes) (Ok (more_of n)) c.bytes.from c.read_information_byte.new.from) c.in-Some.is (c.in_ok-next.ensures.answers c.bytes.bytes) in
    let l = listed-more extra_information g.met.S.Source.keeps_on c.bytes.bytes c.bytes.invariant c.in-Some.byte (information-stands c.bytes.bytes (more c.in-Some.byte)) a in
    let p = err_from_is_err_and c.from_residual-in_err-push-in-Some.result c.from_residual-in_err-push-in-Some.ensures.1 in
    rw (p.1, p.2) (listed-memory extra_information _ c.args.from.now c.read_information_byte.new.from l)
