use Rattle.std.proofs.Common.{◌≡◌, ◌≢◌, ◌+◌, ◌<◌, ◌∙◌, ap, inl, inr, length, drop, get_or, Some, arith}
use Rattle.std.proofs.lemmas.Option.{slice_get-get_or}
use Rattle.program_stream.proofs.Starts.{at_most_two, next_byte, no_start_behind, prefix_there, zeros_behind}
use Rattle.program_stream.proofs.front.read_front.Goals.{then-ones-lt2-via-then-ones-lt2, then-ones-lt2-via-else-ones-lt2+then-rest-ones-ne1}
use Rattle.program_stream.proofs.front.read_front.Goals as goal

pub returns-then-ones-rest-clause-reads : goal.returns-then-ones-rest-clause-reads
returns-then-ones-rest-clause-reads c = zeros_behind c.args.zeros c.count_zeros-ones.result c.args.rest.now c.if-ones-rest.true c.count_zeros-ones.ensures.zeros

pub returns-then-ones-rest-clause-few : goal.returns-then-ones-rest-clause-few
returns-then-ones-rest-clause-few c more =
    let two = at_most_two c.args.rest.now c.count_zeros-ones.result c.requires.behind.no_third c.count_zeros-ones.ensures.zeros in
    omega (arith, two, c.if-ones-rest.true)

pub returns-then-ones-lt2-clause-reads : goal.returns-then-ones-lt2-clause-reads
returns-then-ones-lt2-clause-reads c =
    let rest = c.args.rest.now in
    let n = c.count_zeros-ones.result in
    let within : n < length rest = omega (arith, c.count_zeros-ones.ensures.within, c.if-ones-rest.false) in
    let some : get_or rest n 0 ≢ 0 = λ zero_is. c.count_zeros-ones.ensures.end (slice_get-get_or rest n 0 within ∙ ap Some zero_is) in
    no_start_behind c.args.zeros n (get_or rest n 0) c.args.at rest (drop (n + 1) rest) c.requires.behind.two (next_byte rest n 0 within c.count_zeros-ones.ensures.zeros) some
    (elim c.then-ones-lt2.branch [
      | then-ones-lt2-via-then-ones-lt2 w ↦ inl w.if-ones-lt2.true
      | then-ones-lt2-via-else-ones-lt2+then-rest-ones-ne1 w ↦ inr w.if-rest-ones-ne1.true
    ])

pub read_element-requires-clause-prefix : goal.read_element-requires-clause-prefix
read_element-requires-clause-prefix c =
    let rest = c.args.rest.now in
    let n = c.count_zeros-ones.result in
    let within : n < length rest = omega (arith, c.count_zeros-ones.ensures.within, c.if-ones-rest.false) in
    let few = at_most_two rest n c.requires.behind.no_third c.count_zeros-ones.ensures.zeros in
    let two : n ≡ 0 + 2 = omega (arith, c.if-ones-lt2.false, few) in
    (drop (n + 1) rest, prefix_there rest n 0 (get_or rest n 0) (drop (n + 1) rest) (next_byte rest n 0 within c.count_zeros-ones.ensures.zeros) (omega (arith, c.if-rest-ones-ne1.false)) two)
