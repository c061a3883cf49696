use Rattle.std.proofs.Common.{rules, true, false}
use Rattle.std.proofs.lemmas.Result.{err_from_is_err_and}
use Rattle.picture_grammar.specs.Grammar.Next.{more, last}
use Rattle.picture_grammar.specs.Slice.{next_macroblock}
use Rattle.macroblock_reader.proofs.Lists.{listed-none, listed-more, listed-end, listed-err}
use Rattle.macroblock_reader.proofs.Slices.{next-answer, next-fault, answers-may, listed-memory, macroblocks-stand}
use Rattle.macroblock_reader.proofs.slice.read_macroblocks.Goals as goal

pub macroblocks-init : goal.macroblocks-init
macroblocks-init g c = record {
  listed = rw c.new-macroblocks.ensures
      (listed-none (next_macroblock c.args.picture.seq.now c.args.picture.coding.now) c.args.from.now (search rules));
  stands = rw c.new-macroblocks.ensures
      c.new-cursor.ensures;
}

pub returns-in_err-is_more : goal.returns-in_err-is_more
returns-in_err-is_more g c =
    let next = next_macroblock c.args.picture.seq.now c.args.picture.coding.now in
    let inv = c.macroblocks.invariant in
    let e = c.in_err-is_more.ensures in
    let p = err_from_is_err_and c.from_residual.result c.from_residual.ensures.1 in
    rw (p.1, p.2) (listed-err next g.met.S.Source.keeps_on c.macroblocks.macroblocks inv.listed
    (answers-may (next-fault (next c.macroblocks.macroblocks) c.in_err-is_more.field-0.0 c.macroblocks.from c.next.new.from
    (e.refused c.args.picture.seq.now c.macroblocks.macroblocks inv.stands) e.advances e.failed e.missing e.memory e.keeps)))

pub returns-then-not-is_more : goal.returns-then-not-is_more
returns-then-not-is_more g c =
    let next = next_macroblock c.args.picture.seq.now c.args.picture.coding.now in
    let inv = c.macroblocks.invariant in
    let e = c.in_ok-is_more.ensures in
    answers-may (listed-end next g.met.S.Source.keeps_on c.macroblocks.macroblocks inv.listed tt (macroblocks-stand c.args.picture.seq.now c.args.picture.coding.now c.macroblocks.macroblocks (last tt))
    (next-answer (next c.macroblocks.macroblocks) c.next.new.into c.in_ok-is_more.is_more false c.if-not-is_more.true c.macroblocks.from
    c.next.new.from (e.ok c.args.picture.seq.now c.macroblocks.macroblocks inv.stands) e.keeps))

pub macroblocks-preserved : goal.macroblocks-preserved
macroblocks-preserved g c =
    let next = next_macroblock c.args.picture.seq.now c.args.picture.coding.now in
    let inv = c.macroblocks.invariant in
    let e = c.in_ok-is_more.ensures in
    record {
      listed = rw c.in_ok-push.ensures.ok (listed-more next g.met.S.Source.keeps_on c.macroblocks.macroblocks inv.listed c.next.new.into
          (macroblocks-stand c.args.picture.seq.now c.args.picture.coding.now c.macroblocks.macroblocks (more c.next.new.into))
          (next-answer (next c.macroblocks.macroblocks) c.next.new.into c.in_ok-is_more.is_more true c.if-not-is_more.false c.macroblocks.from
          c.next.new.from (e.ok c.args.picture.seq.now c.macroblocks.macroblocks inv.stands) e.keeps));
      stands = rw c.in_ok-push.ensures.ok (e.behind c.args.picture.seq.now c.macroblocks.macroblocks inv.stands c.if-not-is_more.false);
    }

pub returns-in_err-push : goal.returns-in_err-push
returns-in_err-push g c =
    let next = next_macroblock c.args.picture.seq.now c.args.picture.coding.now in
    let inv = c.macroblocks.invariant in
    let e = c.in_ok-is_more.ensures in
    let l = listed-more next g.met.S.Source.keeps_on c.macroblocks.macroblocks inv.listed c.next.new.into
    (macroblocks-stand c.args.picture.seq.now c.args.picture.coding.now c.macroblocks.macroblocks (more c.next.new.into))
    (next-answer (next c.macroblocks.macroblocks) c.next.new.into c.in_ok-is_more.is_more true c.if-not-is_more.false c.macroblocks.from
    c.next.new.from (e.ok c.args.picture.seq.now c.macroblocks.macroblocks inv.stands) e.keeps) in
    let p = err_from_is_err_and c.from_residual-in_err-push.result c.from_residual-in_err-push.ensures.1 in
    rw (p.1, p.2) (listed-memory next _ c.args.from.now c.next.new.from l)

pub macroblocks-smaller : goal.macroblocks-smaller
macroblocks-smaller g c = c.in_ok-is_more.ensures.fewer c.if-not-is_more.false
