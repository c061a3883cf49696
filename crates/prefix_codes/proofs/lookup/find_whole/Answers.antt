use Rattle.std.proofs.Common.{refl, arith}
use Rattle.prefix_codes.proofs.LevelLemmas.{none_known}
use Rattle.prefix_codes.proofs.WholeLemmas.{Stands, stands_first, stands_last, answer_is, answer_len}
use Rattle.prefix_codes.proofs.lookup.find_whole.Goals as goal
use Rattle.prefix_codes.proofs.lookup.find_whole.Goals.{then-first-gt0+then-first-lt-RARE_WORDS, else-first-gt0+else-len-eq0+else-last-ge-RARE_WORDS}

pub returns-then-len-eq0-clause-front : goal.returns-then-len-eq0-clause-front
returns-then-len-eq0-clause-front c =
    none_known c.args.table c.args.window 24 c.last_word-last.result _ c.length-len.result c.last_word-last.ensures refl c.length-len.ensures c.if-len-eq0.true

pub returns-then-last-ge-RARE_WORDS-clause-front : goal.returns-then-last-ge-RARE_WORDS-clause-front
returns-then-last-ge-RARE_WORDS-clause-front c =
    let last = c.last_word-last.result in
    let len = c.length-len.result in
    let stands = stands_last c.args.table c.args.window last len last c.last_word-last.ensures c.length-len.ensures (let other = c.if-len-eq0.false in omega arith) refl in
    answer_is c.args.table c.args.window last c.number.result len stands c.number.ensures c.length-len.ensures

pub returns-then-last-ge-RARE_WORDS-clause-len : goal.returns-then-last-ge-RARE_WORDS-clause-len
returns-then-last-ge-RARE_WORDS-clause-len c =
    let last = c.last_word-last.result in
    let len = c.length-len.result in
    let stands = stands_last c.args.table c.args.window last len last c.last_word-last.ensures c.length-len.ensures (let other = c.if-len-eq0.false in omega arith) refl in
    answer_len c.args.table c.args.window last c.number.result len stands c.number.ensures c.length-len.ensures

pub returns-clause-front : goal.returns-clause-front
returns-clause-front c =
    let word = c.if-first-gt0.word in
    let stands : Stands c.args.table c.args.window word = elim c.if-first-gt0.branch [
      | then-first-gt0+then-first-lt-RARE_WORDS w ↦
          stands_first c.args.table c.args.window c.first_word-first.result word c.first_word-first.ensures w.if-first-gt0.true (omega (arith, w.if-first-lt-RARE_WORDS.true)) w.word-is
      | else-first-gt0+else-len-eq0+else-last-ge-RARE_WORDS w ↦
          stands_last c.args.table c.args.window w.last_word-last.result w.length-len.result word w.last_word-last.ensures w.length-len.ensures
          (let other = w.if-len-eq0.false in omega arith) w.word-is
    ] in
    answer_is c.args.table c.args.window word c.number-2.result c.length.result stands c.number-2.ensures c.length.ensures

pub returns-clause-len : goal.returns-clause-len
returns-clause-len c =
    let word = c.if-first-gt0.word in
    let stands : Stands c.args.table c.args.window word = elim c.if-first-gt0.branch [
      | then-first-gt0+then-first-lt-RARE_WORDS w ↦
          stands_first c.args.table c.args.window c.first_word-first.result word c.first_word-first.ensures w.if-first-gt0.true (omega (arith, w.if-first-lt-RARE_WORDS.true)) w.word-is
      | else-first-gt0+else-len-eq0+else-last-ge-RARE_WORDS w ↦
          stands_last c.args.table c.args.window w.last_word-last.result w.length-len.result word w.last_word-last.ensures w.length-len.ensures
          (let other = w.if-len-eq0.false in omega arith) w.word-is
    ] in
    answer_len c.args.table c.args.window word c.number-2.result c.length.result stands c.number-2.ensures c.length.ensures
