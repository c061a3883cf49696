use Rattle.std.proofs.Common.{refl, arith}
use Rattle.prefix_codes.proofs.LevelLemmas.{known_answer, none_known, unknown_answer}
use Rattle.prefix_codes.proofs.lookup.find.Goals as goal

pub returns-then-len-eq0-clause-front : goal.returns-then-len-eq0-clause-front
returns-then-len-eq0-clause-front c =
    none_known c.args.table c.args.window c.args.known c.word_at-word.result _ c.length-len.result c.word_at-word.ensures refl c.length-len.ensures c.if-len-eq0.true

pub returns-then-from-known-clause-front : goal.returns-then-from-known-clause-front
returns-then-from-known-clause-front c =
    unknown_answer c.args.table c.args.window c.args.known c.word_at-word.result _ c.length-len.result c.word_at-word.ensures refl c.length-len.ensures (omega arith) (omega arith)

pub returns-clause-front : goal.returns-clause-front
returns-clause-front c =
    known_answer c.args.table c.args.window c.args.known c.word_at-word.result c.number.result c.length-len.result c.word_at-word.ensures
    c.number.ensures c.length-len.ensures (omega arith) (omega arith)
