use Rattle.std.proofs.Common.{rules, ◌+◌, ◌∙◌, Ok, Err, refl, subst, arith}
use Rattle.std.proofs.lemmas.Grind.{take-set_at}
use Rattle.std.proofs.lemmas.List.{length-set}
use Rattle.std.proofs.lemmas.Result.{err_from_is_err_and}
use Rattle.picture_grammar.specs.Grammar.{when}
use Rattle.picture_grammar.specs.Block.{block}
use Rattle.picture_grammar.specs.Macroblock.{block_way, no_block}
use Rattle.macroblock_reader.specs.Private.Answers.{Answers}
use Rattle.macroblock_reader.proofs.Sixes.{blocks-none, blocks-more, blocks-err, blocks-all}
use Rattle.macroblock_reader.proofs.blocks.read_each.Goals as goal

pub loop-i-init : goal.loop-i-init
loop-i-init g c = blocks-none c.args.coding.now c.args.kind c.args.pattern c.args.into.now c.args.from.now c.told-into (search rules)

pub returns-in_err-read_block_where : goal.returns-in_err-read_block_where
returns-in_err-read_block_where g c =
    let coding = c.args.coding.now in
    let i = c.loop-i.i in
    let p = err_from_is_err_and c.from_residual.result c.from_residual.ensures.1 in
    let fault = Err c.in_err-read_block_where.field-0.0 in
    let here = subst (λ way. Answers ⊥ (when c.is_coded.result (block way) no_block) fault c.loop-i.from c.read_block_where.new.from) c.block_way-way.ensures c.in_err-read_block_where.ensures in
    let there = subst (λ stands. Answers ⊥ (when stands (block (block_way coding c.args.kind i)) no_block) fault c.loop-i.from c.read_block_where.new.from) c.is_coded.ensures here in
    rw (p.1, p.2) (blocks-err coding c.args.kind c.args.pattern g.met.S.Source.keeps_on i c.loop-i.into c.loop-i.invariant c.loop-i-test.true c.in_err-read_block_where.field-0.0 there)

pub loop-i-preserved : goal.loop-i-preserved
loop-i-preserved g c =
    let coding = c.args.coding.now in
    let i = c.loop-i.i in
    let six = c.loop-i.invariant.six in
    let within = c.loop-i-test.true in
    let b = c.read_block_where.new.into in
    let here = subst (λ way. Answers ⊥ (when c.is_coded.result (block way) no_block) (Ok b) c.loop-i.from c.read_block_where.new.from) c.block_way-way.ensures c.in_ok-read_block_where.ensures in
    let there = subst (λ stands. Answers ⊥ (when stands (block (block_way coding c.args.kind i)) no_block) (Ok b) c.loop-i.from c.read_block_where.new.from) c.is_coded.ensures here in
    blocks-more coding c.args.kind c.args.pattern g.met.S.Source.keeps_on i c.loop-i.into c.loop-i.invariant c.loop-i-test.true _ b _ refl
    (take-set_at c.loop-i.into i (i + 1) b refl (omega arith)) (length-set c.loop-i.into i b ∙ six) there

pub returns : goal.returns
returns g c = blocks-all c.args.coding.now c.args.kind c.args.pattern c.loop-i.i c.loop-i.into c.args.from.now c.loop-i.from c.loop-i.invariant
    (let most = c.loop-i.auto.i-end in omega (arith, c.loop-i-test.false))
