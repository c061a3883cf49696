use Rattle.std.proofs.Common.{arith}
use Rattle.std.proofs.lemmas.Result.{err_from_is_err_and}
use Rattle.bound_certificate.proofs.TextParts.{HasHead, cert_in, stop_mark, stop_version, stop_numbers, stop_choice, stop_tree}
use Rattle.bound_certificate.proofs.read.read_text.Goals as goal

pub returns-in_err-read_mark-clause-stop : goal.returns-in_err-read_mark-clause-stop
returns-in_err-read_mark-clause-stop c =
    let p = err_from_is_err_and c.from_residual.result c.from_residual.ensures.1 in
    rw (p.1, p.2) (stop_mark c.args.cursor.now c.in_err-read_mark.field-0.0 c.in_err-read_mark.ensures.stop)

pub returns-in_err-version-clause-stop : goal.returns-in_err-version-clause-stop
returns-in_err-version-clause-stop c =
    let p = err_from_is_err_and c.from_residual-in_err-version.result c.from_residual-in_err-version.ensures.1 in
    rw (p.1, p.2) (stop_version c.args.cursor.now c.read_mark.new.cursor c.in_err-version.field-0.0 c.in_ok-read_mark.ensures.next c.in_err-version.ensures.stop)

pub returns-in_err-numbers-clause-stop : goal.returns-in_err-numbers-clause-stop
returns-in_err-numbers-clause-stop c =
    let p = err_from_is_err_and c.from_residual-in_err-numbers.result c.from_residual-in_err-numbers.ensures.1 in
    let version = c.in_ok-version.version in
    let head : HasHead c.args.cursor.now c.byte.new.self version = record {
      behind = c.read_mark.new.cursor;
      mark_is = c.in_ok-read_mark.ensures.next;
      version_is =
          c.in_ok-version.ensures.next;
      least = c.in_ok-version.ensures.least;
      most = c.in_ok-version.ensures.most;
    } in
    rw (p.1, p.2) (stop_numbers c.args.cursor.now c.byte.new.self version c.in_err-numbers.field-0.0 head c.in_err-numbers.ensures.stop)

pub returns-in_err-choice-clause-stop : goal.returns-in_err-choice-clause-stop
returns-in_err-choice-clause-stop c =
    let p = err_from_is_err_and c.from_residual-in_err-choice.result c.from_residual-in_err-choice.ensures.1 in
    let version = c.in_ok-version.version in
    let head : HasHead c.args.cursor.now c.byte.new.self version = record {
      behind = c.read_mark.new.cursor;
      mark_is = c.in_ok-read_mark.ensures.next;
      version_is =
          c.in_ok-version.ensures.next;
      least = c.in_ok-version.ensures.least;
      most = c.in_ok-version.ensures.most;
    } in
    rw (p.1, p.2) (stop_choice c.args.cursor.now c.byte.new.self c.in_ok-numbers.numbers.now c.block.new.self version c.in_err-choice.field-0.0 head c.in_ok-numbers.ensures.size
    c.in_ok-numbers.ensures.next c.in_err-choice.ensures.stop)

pub returns-in_err-nodes-clause-stop : goal.returns-in_err-nodes-clause-stop
returns-in_err-nodes-clause-stop c =
    let p = err_from_is_err_and c.from_residual-in_err-nodes.result c.from_residual-in_err-nodes.ensures.1 in
    let version = c.in_ok-version.version in
    let head : HasHead c.args.cursor.now c.byte.new.self version = record {
      behind = c.read_mark.new.cursor;
      mark_is = c.in_ok-read_mark.ensures.next;
      version_is =
          c.in_ok-version.ensures.next;
      least = c.in_ok-version.ensures.least;
      most = c.in_ok-version.ensures.most;
    } in
    rw (p.1, p.2) (stop_tree c.args.cursor.now c.byte.new.self c.in_ok-numbers.numbers.now c.block.new.self c.in_ok-choice.choice c.read_choice.new.cursor version c.in_err-nodes.field-0.0
    head c.in_ok-numbers.ensures.size c.in_ok-numbers.ensures.next c.in_ok-choice.ensures.few c.in_ok-choice.ensures.next c.in_err-nodes.ensures.stop)

pub returns-clause-cert : goal.returns-clause-cert
returns-clause-cert c =
    let version = c.in_ok-version.version in
    let head : HasHead c.args.cursor.now c.byte.new.self version = record {
      behind = c.read_mark.new.cursor;
      mark_is = c.in_ok-read_mark.ensures.next;
      version_is =
          c.in_ok-version.ensures.next;
      least = c.in_ok-version.ensures.least;
      most = c.in_ok-version.ensures.most;
    } in
    λ are. cert_in c.args.cursor.now c.byte.new.self c.in_ok-numbers.numbers.now c.block.new.self c.read_choice.new.cursor _ head (omega (arith, c.number_at.type_inv))
    (omega (arith, c.number_at-2.type_inv))
    c.in_ok-numbers.ensures.next c.in_ok-choice.ensures.few c.in_ok-choice.ensures.next c.in_ok-nodes.ensures.some c.in_ok-nodes.ensures.few c.in_ok-nodes.ensures.stand are
