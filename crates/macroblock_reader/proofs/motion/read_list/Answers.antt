use Rattle.std.proofs.Common.{rules, ◌≡◌, ◌++◌, ◌∷◌, [], ◌∙◌, Ok, Err, sym, ap, subst}
use Rattle.std.proofs.lemmas.Result.{err_from_is_err_and}
use Rattle.bit_cursor.specs.BitReader.{KeepsSource}
use Rattle.picture_grammar.specs.Motion.{motion_vector, motion_vectors}
use Rattle.macroblock_reader.specs.Private.Answers.{Answers}
use Rattle.macroblock_reader.specs.Private.Parts.{format_of}
use Rattle.macroblock_reader.proofs.Vectors.{local-vector, one-read, none-read, two-read}
use Rattle.macroblock_reader.proofs.motion.read_list.Goals as goal

pub returns-in_err-first : goal.returns-in_err-first
returns-in_err-first g c =
    let p = err_from_is_err_and c.from_residual.result c.from_residual.ensures.1 in
    rw (p.1, p.2) (none-read (motion_vector c.args.codes (format_of c.args.format)) c.args.from.now c.args.format.two c.in_err-first.field-0.0 c.read_vector.new.from c.in_err-first.ensures)

pub returns-in_err-second : goal.returns-in_err-second
returns-in_err-second g c =
    let grammar = motion_vector c.args.codes (format_of c.args.format) in
    let keeps : KeepsSource c.args.from.now c.args.from.now = search rules in
    let p = err_from_is_err_and c.from_residual-in_err-second.result c.from_residual-in_err-second.ensures.1 in
    rw (p.1, p.2) (two-read grammar c.args.from.now g.met.S.Source.keeps_on
    (local-vector c.args.codes (format_of c.args.format)) keeps c.args.format.two c.in_ok-first.first c.read_vector.new.from
    c.read_vector-then-format.new.from
    c.if-format.true (Err c.in_err-second.field-0.0) c.in_ok-first.ensures c.in_err-second.ensures)

pub returns-then-format : goal.returns-then-format
returns-then-format g c =
    let grammar = motion_vector c.args.codes (format_of c.args.format) in
    let keeps : KeepsSource c.args.from.now c.args.from.now = search rules in
    let items : c.push-then-format.new.self.items ≡ c.in_ok-first.first ∷ c.in_ok-second.second ∷ [] = c.push-then-format.ensures.items
    ∙ ap (λ xs. xs ++ c.in_ok-second.second ∷ []) (c.push.ensures.items ∙ ap (λ xs. xs ++ c.in_ok-first.first ∷ []) c.requires.empty) in
    subst (λ xs. Answers ⊥ (motion_vectors c.args.codes (format_of c.args.format)) (Ok xs) c.args.from.now c.read_vector-then-format.new.from) (sym items)
    (two-read grammar c.args.from.now g.met.S.Source.keeps_on
    (local-vector c.args.codes (format_of c.args.format)) keeps c.args.format.two c.in_ok-first.first c.read_vector.new.from
    c.read_vector-then-format.new.from
    c.if-format.true (Ok c.in_ok-second.second) c.in_ok-first.ensures c.in_ok-second.ensures)

pub returns : goal.returns
returns g c =
    let items : c.push.new.self.items ≡ c.in_ok-first.first ∷ [] = c.push.ensures.items ∙ ap (λ xs. xs ++ c.in_ok-first.first ∷ []) c.requires.empty in
    subst (λ xs. Answers ⊥ (motion_vectors c.args.codes (format_of c.args.format)) (Ok xs) c.args.from.now c.read_vector.new.from) (sym items)
    (one-read (motion_vector c.args.codes (format_of c.args.format)) c.args.from.now c.args.format.two c.in_ok-first.first c.read_vector.new.from c.if-format.false c.in_ok-first.ensures)
