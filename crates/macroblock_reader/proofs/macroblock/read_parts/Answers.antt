use Rattle.std.proofs.Common.{rules, [], Ok, Err, false, refl, subst}
use Rattle.std.proofs.lemmas.Result.{err_from_is_err_and}
use Rattle.bit_cursor.specs.BitReader.{KeepsSource}
use Rattle.prefix_codes.specs.declared.table_name.TableName.TheVariants.{Pattern}
use Rattle.picture_grammar.specs.Refusal.Refusal.{BadType, BadPattern}
use Rattle.picture_grammar.specs.Grammar.{optional, when}
use Rattle.picture_grammar.specs.Element.{vlclbf, one_flag, marker_bit}
use Rattle.picture_grammar.specs.Motion.{motion_vectors}
use Rattle.picture_grammar.specs.Macroblock.{
  address_increment,
  most_increment,
  macroblock_type,
  motion_type,
  dct_type,
  quantiser_scale_code,
  has_forward,
  has_concealment,
  f_codes,
  motion_format,
  blocks,
  macroblock,
}
use Rattle.macroblock_reader.specs.Private.Answers.{Answers}
use Rattle.macroblock_reader.proofs.Courses.{course-on, course-err, course-end}
use Rattle.macroblock_reader.proofs.Sixes.{local-blocks}
use Rattle.macroblock_reader.proofs.Macroblocks.{from_1, from_2, from_3, from_4, from_5, from_6, from_7, from_8, from_9, from_10, macroblock-start, local-kind, local-motion_type, local-dct_type, local-code, local-vectors, local-marker, local-pattern, vectors-as, marker-as}
use Rattle.picture_laws.proofs.LocalHeaders.{local-address}
use Rattle.macroblock_reader.proofs.macroblock.read_parts.Goals as goal

pub returns-in_err-increment-clause-answers : goal.returns-in_err-increment-clause-answers
returns-in_err-increment-clause-answers g c =
    let on = g.met.S.Source.keeps_on in
    let coding = c.args.coding.now in
    let first = c.args.first in
    let left = c.args.columns_left in
    let keeps : KeepsSource c.args.from.now c.args.from.now = search rules in
    let start = macroblock-start coding first left c.args.from.now keeps in
    let p = err_from_is_err_and c.from_residual.result c.from_residual.ensures.1 in
    rw (p.1, p.2) (course-err on (address_increment (most_increment coding first left)) (from_1 coding) start
    (subst (λ n. Answers ⊥ (address_increment n) (Err c.in_err-increment.field-0.0) c.args.from.now c.read_increment.new.from)
    c.most_increment.ensures.value c.in_err-increment.ensures.answers))

pub returns-in_err-kind-clause-answers : goal.returns-in_err-kind-clause-answers
returns-in_err-kind-clause-answers g c =
    let on = g.met.S.Source.keeps_on in
    let coding = c.args.coding.now in
    let first = c.args.first in
    let left = c.args.columns_left in
    let keeps : KeepsSource c.args.from.now c.args.from.now = search rules in
    let start = macroblock-start coding first left c.args.from.now keeps in
    let increment = c.in_ok-increment.increment in
    let course_1 = course-on on (address_increment (most_increment coding first left)) (from_1 coding)
    (local-address (most_increment coding first left)) start
    (subst (λ n. Answers ⊥ (address_increment n) (Ok c.in_ok-increment.increment) c.args.from.now c.read_increment.new.from)
    c.most_increment.ensures.value c.in_ok-increment.ensures.answers) in
    let p = err_from_is_err_and c.from_residual-in_err-kind.result c.from_residual-in_err-kind.ensures.1 in
    rw (p.1, p.2) (course-err on (macroblock_type coding) (from_2 coding increment) course_1 (c.in_err-kind.ensures))

pub returns-in_err-motion_type-clause-answers : goal.returns-in_err-motion_type-clause-answers
returns-in_err-motion_type-clause-answers g c =
    let on = g.met.S.Source.keeps_on in
    let coding = c.args.coding.now in
    let first = c.args.first in
    let left = c.args.columns_left in
    let keeps : KeepsSource c.args.from.now c.args.from.now = search rules in
    let start = macroblock-start coding first left c.args.from.now keeps in
    let increment = c.in_ok-increment.increment in
    let course_1 = course-on on (address_increment (most_increment coding first left)) (from_1 coding)
    (local-address (most_increment coding first left)) start
    (subst (λ n. Answers ⊥ (address_increment n) (Ok c.in_ok-increment.increment) c.args.from.now c.read_increment.new.from)
    c.most_increment.ensures.value c.in_ok-increment.ensures.answers) in
    let kind = c.in_ok-kind.kind in
    let course_2 = course-on on (macroblock_type coding) (from_2 coding increment) (local-kind coding) course_1 (c.in_ok-kind.ensures) in
    let p = err_from_is_err_and c.from_residual-in_err-motion_type.result c.from_residual-in_err-motion_type.ensures.1 in
    rw (p.1, p.2) (course-err on (motion_type coding kind) (from_3 coding increment kind) course_2 (c.in_err-motion_type.ensures))

pub returns-in_err-field_dct-clause-answers : goal.returns-in_err-field_dct-clause-answers
returns-in_err-field_dct-clause-answers g c =
    let on = g.met.S.Source.keeps_on in
    let coding = c.args.coding.now in
    let first = c.args.first in
    let left = c.args.columns_left in
    let keeps : KeepsSource c.args.from.now c.args.from.now = search rules in
    let start = macroblock-start coding first left c.args.from.now keeps in
    let increment = c.in_ok-increment.increment in
    let course_1 = course-on on (address_increment (most_increment coding first left)) (from_1 coding)
    (local-address (most_increment coding first left)) start
    (subst (λ n. Answers ⊥ (address_increment n) (Ok c.in_ok-increment.increment) c.args.from.now c.read_increment.new.from)
    c.most_increment.ensures.value c.in_ok-increment.ensures.answers) in
    let kind = c.in_ok-kind.kind in
    let course_2 = course-on on (macroblock_type coding) (from_2 coding increment) (local-kind coding) course_1 (c.in_ok-kind.ensures) in
    let motion = c.in_ok-motion_type.motion_type in
    let course_3 = course-on on (motion_type coding kind) (from_3 coding increment kind) (local-motion_type coding kind) course_2 (c.in_ok-motion_type.ensures) in
    let p = err_from_is_err_and c.from_residual-in_err-field_dct.result c.from_residual-in_err-field_dct.ensures.1 in
    rw (p.1, p.2) (course-err on (dct_type coding kind) (from_4 coding increment kind motion) course_3
    (subst (λ b. Answers ⊥ (when b one_flag false) (Err c.in_err-field_dct.field-0.0) c.read_motion_type.new.from c.read_bit_where.new.from)
    c.has_dct_type.ensures c.in_err-field_dct.ensures))

pub returns-in_err-code-clause-answers : goal.returns-in_err-code-clause-answers
returns-in_err-code-clause-answers g c =
    let on = g.met.S.Source.keeps_on in
    let coding = c.args.coding.now in
    let first = c.args.first in
    let left = c.args.columns_left in
    let keeps : KeepsSource c.args.from.now c.args.from.now = search rules in
    let start = macroblock-start coding first left c.args.from.now keeps in
    let increment = c.in_ok-increment.increment in
    let course_1 = course-on on (address_increment (most_increment coding first left)) (from_1 coding)
    (local-address (most_increment coding first left)) start
    (subst (λ n. Answers ⊥ (address_increment n) (Ok c.in_ok-increment.increment) c.args.from.now c.read_increment.new.from)
    c.most_increment.ensures.value c.in_ok-increment.ensures.answers) in
    let kind = c.in_ok-kind.kind in
    let course_2 = course-on on (macroblock_type coding) (from_2 coding increment) (local-kind coding) course_1 (c.in_ok-kind.ensures) in
    let motion = c.in_ok-motion_type.motion_type in
    let course_3 = course-on on (motion_type coding kind) (from_3 coding increment kind) (local-motion_type coding kind) course_2 (c.in_ok-motion_type.ensures) in
    let field_dct = c.in_ok-field_dct.field_dct in
    let course_4 = course-on on (dct_type coding kind) (from_4 coding increment kind motion) (local-dct_type coding kind) course_3
    (subst (λ b. Answers ⊥ (when b one_flag false) (Ok c.in_ok-field_dct.field_dct) c.read_motion_type.new.from c.read_bit_where.new.from)
    c.has_dct_type.ensures c.in_ok-field_dct.ensures) in
    let p = err_from_is_err_and c.from_residual-in_err-code.result c.from_residual-in_err-code.ensures.1 in
    rw (p.1, p.2) (course-err on (optional kind.quant quantiser_scale_code) (from_5 coding increment kind motion field_dct) course_4 (c.in_err-code.ensures))

pub returns-in_err-read_vectors_where-clause-answers : goal.returns-in_err-read_vectors_where-clause-answers
returns-in_err-read_vectors_where-clause-answers g c =
    let on = g.met.S.Source.keeps_on in
    let coding = c.args.coding.now in
    let first = c.args.first in
    let left = c.args.columns_left in
    let keeps : KeepsSource c.args.from.now c.args.from.now = search rules in
    let start = macroblock-start coding first left c.args.from.now keeps in
    let increment = c.in_ok-increment.increment in
    let course_1 = course-on on (address_increment (most_increment coding first left)) (from_1 coding)
    (local-address (most_increment coding first left)) start
    (subst (λ n. Answers ⊥ (address_increment n) (Ok c.in_ok-increment.increment) c.args.from.now c.read_increment.new.from)
    c.most_increment.ensures.value c.in_ok-increment.ensures.answers) in
    let kind = c.in_ok-kind.kind in
    let course_2 = course-on on (macroblock_type coding) (from_2 coding increment) (local-kind coding) course_1 (c.in_ok-kind.ensures) in
    let motion = c.in_ok-motion_type.motion_type in
    let course_3 = course-on on (motion_type coding kind) (from_3 coding increment kind) (local-motion_type coding kind) course_2 (c.in_ok-motion_type.ensures) in
    let field_dct = c.in_ok-field_dct.field_dct in
    let course_4 = course-on on (dct_type coding kind) (from_4 coding increment kind motion) (local-dct_type coding kind) course_3
    (subst (λ b. Answers ⊥ (when b one_flag false) (Ok c.in_ok-field_dct.field_dct) c.read_motion_type.new.from c.read_bit_where.new.from)
    c.has_dct_type.ensures c.in_ok-field_dct.ensures) in
    let code = c.in_ok-code.code in
    let course_5 = course-on on (optional kind.quant quantiser_scale_code) (from_5 coding increment kind motion field_dct) (local-code kind.quant) course_4 (c.in_ok-code.ensures) in
    let p = err_from_is_err_and c.from_residual-in_err-read_vectors_where.result c.from_residual-in_err-read_vectors_where.ensures.1 in
    rw (p.1, p.2) (course-err on (when (has_forward coding kind) (motion_vectors (f_codes coding 0) (motion_format coding motion)) [])
    (from_6 coding increment kind motion field_dct code) course_5
    (vectors-as {result = Err c.in_err-read_vectors_where.field-0.0} c.has_forward-forward.ensures c.codes_of-forward_codes.ensures.value
    c.vector_format-format.ensures c.in_err-read_vectors_where.ensures))

pub returns-in_err-read_vectors_where-2-clause-answers : goal.returns-in_err-read_vectors_where-2-clause-answers
returns-in_err-read_vectors_where-2-clause-answers g c =
    let on = g.met.S.Source.keeps_on in
    let coding = c.args.coding.now in
    let first = c.args.first in
    let left = c.args.columns_left in
    let keeps : KeepsSource c.args.from.now c.args.from.now = search rules in
    let start = macroblock-start coding first left c.args.from.now keeps in
    let increment = c.in_ok-increment.increment in
    let course_1 = course-on on (address_increment (most_increment coding first left)) (from_1 coding)
    (local-address (most_increment coding first left)) start
    (subst (λ n. Answers ⊥ (address_increment n) (Ok c.in_ok-increment.increment) c.args.from.now c.read_increment.new.from)
    c.most_increment.ensures.value c.in_ok-increment.ensures.answers) in
    let kind = c.in_ok-kind.kind in
    let course_2 = course-on on (macroblock_type coding) (from_2 coding increment) (local-kind coding) course_1 (c.in_ok-kind.ensures) in
    let motion = c.in_ok-motion_type.motion_type in
    let course_3 = course-on on (motion_type coding kind) (from_3 coding increment kind) (local-motion_type coding kind) course_2 (c.in_ok-motion_type.ensures) in
    let field_dct = c.in_ok-field_dct.field_dct in
    let course_4 = course-on on (dct_type coding kind) (from_4 coding increment kind motion) (local-dct_type coding kind) course_3
    (subst (λ b. Answers ⊥ (when b one_flag false) (Ok c.in_ok-field_dct.field_dct) c.read_motion_type.new.from c.read_bit_where.new.from)
    c.has_dct_type.ensures c.in_ok-field_dct.ensures) in
    let code = c.in_ok-code.code in
    let course_5 = course-on on (optional kind.quant quantiser_scale_code) (from_5 coding increment kind motion field_dct) (local-code kind.quant) course_4 (c.in_ok-code.ensures) in
    let forward = c.read_vectors_where.new.into.items in
    let course_6 = course-on on (when (has_forward coding kind) (motion_vectors (f_codes coding 0) (motion_format coding motion)) [])
    (from_6 coding increment kind motion field_dct code)
    (local-vectors (has_forward coding kind) (f_codes coding 0) (motion_format coding motion)) course_5
    (vectors-as {result = Ok c.read_vectors_where.new.into.items} c.has_forward-forward.ensures c.codes_of-forward_codes.ensures.value
    c.vector_format-format.ensures c.in_ok-read_vectors_where.ensures) in
    let p = err_from_is_err_and c.from_residual-in_err-read_vectors_where-2.result c.from_residual-in_err-read_vectors_where-2.ensures.1 in
    rw (p.1, p.2) (course-err on (when kind.backward (motion_vectors (f_codes coding 1) (motion_format coding motion)) [])
    (from_7 coding increment kind motion field_dct code forward) course_6
    (vectors-as {result = Err c.in_err-read_vectors_where-2.field-0.0} refl c.codes_of-backward_codes.ensures.value c.vector_format-format.ensures
    c.in_err-read_vectors_where-2.ensures))

pub returns-in_err-read_marker_where-clause-answers : goal.returns-in_err-read_marker_where-clause-answers
returns-in_err-read_marker_where-clause-answers g c =
    let on = g.met.S.Source.keeps_on in
    let coding = c.args.coding.now in
    let first = c.args.first in
    let left = c.args.columns_left in
    let keeps : KeepsSource c.args.from.now c.args.from.now = search rules in
    let start = macroblock-start coding first left c.args.from.now keeps in
    let increment = c.in_ok-increment.increment in
    let course_1 = course-on on (address_increment (most_increment coding first left)) (from_1 coding)
    (local-address (most_increment coding first left)) start
    (subst (λ n. Answers ⊥ (address_increment n) (Ok c.in_ok-increment.increment) c.args.from.now c.read_increment.new.from)
    c.most_increment.ensures.value c.in_ok-increment.ensures.answers) in
    let kind = c.in_ok-kind.kind in
    let course_2 = course-on on (macroblock_type coding) (from_2 coding increment) (local-kind coding) course_1 (c.in_ok-kind.ensures) in
    let motion = c.in_ok-motion_type.motion_type in
    let course_3 = course-on on (motion_type coding kind) (from_3 coding increment kind) (local-motion_type coding kind) course_2 (c.in_ok-motion_type.ensures) in
    let field_dct = c.in_ok-field_dct.field_dct in
    let course_4 = course-on on (dct_type coding kind) (from_4 coding increment kind motion) (local-dct_type coding kind) course_3
    (subst (λ b. Answers ⊥ (when b one_flag false) (Ok c.in_ok-field_dct.field_dct) c.read_motion_type.new.from c.read_bit_where.new.from)
    c.has_dct_type.ensures c.in_ok-field_dct.ensures) in
    let code = c.in_ok-code.code in
    let course_5 = course-on on (optional kind.quant quantiser_scale_code) (from_5 coding increment kind motion field_dct) (local-code kind.quant) course_4 (c.in_ok-code.ensures) in
    let forward = c.read_vectors_where.new.into.items in
    let course_6 = course-on on (when (has_forward coding kind) (motion_vectors (f_codes coding 0) (motion_format coding motion)) [])
    (from_6 coding increment kind motion field_dct code)
    (local-vectors (has_forward coding kind) (f_codes coding 0) (motion_format coding motion)) course_5
    (vectors-as {result = Ok c.read_vectors_where.new.into.items} c.has_forward-forward.ensures c.codes_of-forward_codes.ensures.value
    c.vector_format-format.ensures c.in_ok-read_vectors_where.ensures) in
    let backward = c.read_vectors_where-2.new.into.items in
    let course_7 = course-on on (when kind.backward (motion_vectors (f_codes coding 1) (motion_format coding motion)) [])
    (from_7 coding increment kind motion field_dct code forward)
    (local-vectors kind.backward (f_codes coding 1) (motion_format coding motion)) course_6
    (vectors-as {result = Ok c.read_vectors_where-2.new.into.items} refl c.codes_of-backward_codes.ensures.value c.vector_format-format.ensures
    c.in_ok-read_vectors_where-2.ensures) in
    let p = err_from_is_err_and c.from_residual-in_err-read_marker_where.result c.from_residual-in_err-read_marker_where.ensures.1 in
    rw (p.1, p.2) (course-err on (optional (has_concealment coding kind) (marker_bit BadType))
    ((λ _. from_8 coding increment kind motion field_dct code forward backward)) course_7
    (marker-as (Err c.in_err-read_marker_where.field-0.0) c.has_concealment-concealed.ensures c.in_err-read_marker_where.ensures))

pub returns-in_err-pattern-clause-answers : goal.returns-in_err-pattern-clause-answers
returns-in_err-pattern-clause-answers g c =
    let on = g.met.S.Source.keeps_on in
    let coding = c.args.coding.now in
    let first = c.args.first in
    let left = c.args.columns_left in
    let keeps : KeepsSource c.args.from.now c.args.from.now = search rules in
    let start = macroblock-start coding first left c.args.from.now keeps in
    let increment = c.in_ok-increment.increment in
    let course_1 = course-on on (address_increment (most_increment coding first left)) (from_1 coding)
    (local-address (most_increment coding first left)) start
    (subst (λ n. Answers ⊥ (address_increment n) (Ok c.in_ok-increment.increment) c.args.from.now c.read_increment.new.from)
    c.most_increment.ensures.value c.in_ok-increment.ensures.answers) in
    let kind = c.in_ok-kind.kind in
    let course_2 = course-on on (macroblock_type coding) (from_2 coding increment) (local-kind coding) course_1 (c.in_ok-kind.ensures) in
    let motion = c.in_ok-motion_type.motion_type in
    let course_3 = course-on on (motion_type coding kind) (from_3 coding increment kind) (local-motion_type coding kind) course_2 (c.in_ok-motion_type.ensures) in
    let field_dct = c.in_ok-field_dct.field_dct in
    let course_4 = course-on on (dct_type coding kind) (from_4 coding increment kind motion) (local-dct_type coding kind) course_3
    (subst (λ b. Answers ⊥ (when b one_flag false) (Ok c.in_ok-field_dct.field_dct) c.read_motion_type.new.from c.read_bit_where.new.from)
    c.has_dct_type.ensures c.in_ok-field_dct.ensures) in
    let code = c.in_ok-code.code in
    let course_5 = course-on on (optional kind.quant quantiser_scale_code) (from_5 coding increment kind motion field_dct) (local-code kind.quant) course_4 (c.in_ok-code.ensures) in
    let forward = c.read_vectors_where.new.into.items in
    let course_6 = course-on on (when (has_forward coding kind) (motion_vectors (f_codes coding 0) (motion_format coding motion)) [])
    (from_6 coding increment kind motion field_dct code)
    (local-vectors (has_forward coding kind) (f_codes coding 0) (motion_format coding motion)) course_5
    (vectors-as {result = Ok c.read_vectors_where.new.into.items} c.has_forward-forward.ensures c.codes_of-forward_codes.ensures.value
    c.vector_format-format.ensures c.in_ok-read_vectors_where.ensures) in
    let backward = c.read_vectors_where-2.new.into.items in
    let course_7 = course-on on (when kind.backward (motion_vectors (f_codes coding 1) (motion_format coding motion)) [])
    (from_7 coding increment kind motion field_dct code forward)
    (local-vectors kind.backward (f_codes coding 1) (motion_format coding motion)) course_6
    (vectors-as {result = Ok c.read_vectors_where-2.new.into.items} refl c.codes_of-backward_codes.ensures.value c.vector_format-format.ensures
    c.in_ok-read_vectors_where-2.ensures) in
    let course_8 = course-on on (optional (has_concealment coding kind) (marker_bit BadType))
    ((λ _. from_8 coding increment kind motion field_dct code forward backward)) (local-marker (has_concealment coding kind)) course_7
    (marker-as (Ok tt) c.has_concealment-concealed.ensures c.in_ok-read_marker_where.ensures) in
    let p = err_from_is_err_and c.from_residual-in_err-pattern.result c.from_residual-in_err-pattern.ensures.1 in
    rw (p.1, p.2) (course-err on (when kind.pattern (vlclbf Pattern BadPattern []) 0) (from_9 coding increment kind motion field_dct code forward backward) course_8 (c.in_err-pattern.ensures))

pub returns-in_err-read_blocks-clause-answers : goal.returns-in_err-read_blocks-clause-answers
returns-in_err-read_blocks-clause-answers g c =
    let on = g.met.S.Source.keeps_on in
    let coding = c.args.coding.now in
    let first = c.args.first in
    let left = c.args.columns_left in
    let keeps : KeepsSource c.args.from.now c.args.from.now = search rules in
    let start = macroblock-start coding first left c.args.from.now keeps in
    let increment = c.in_ok-increment.increment in
    let course_1 = course-on on (address_increment (most_increment coding first left)) (from_1 coding)
    (local-address (most_increment coding first left)) start
    (subst (λ n. Answers ⊥ (address_increment n) (Ok c.in_ok-increment.increment) c.args.from.now c.read_increment.new.from)
    c.most_increment.ensures.value c.in_ok-increment.ensures.answers) in
    let kind = c.in_ok-kind.kind in
    let course_2 = course-on on (macroblock_type coding) (from_2 coding increment) (local-kind coding) course_1 (c.in_ok-kind.ensures) in
    let motion = c.in_ok-motion_type.motion_type in
    let course_3 = course-on on (motion_type coding kind) (from_3 coding increment kind) (local-motion_type coding kind) course_2 (c.in_ok-motion_type.ensures) in
    let field_dct = c.in_ok-field_dct.field_dct in
    let course_4 = course-on on (dct_type coding kind) (from_4 coding increment kind motion) (local-dct_type coding kind) course_3
    (subst (λ b. Answers ⊥ (when b one_flag false) (Ok c.in_ok-field_dct.field_dct) c.read_motion_type.new.from c.read_bit_where.new.from)
    c.has_dct_type.ensures c.in_ok-field_dct.ensures) in
    let code = c.in_ok-code.code in
    let course_5 = course-on on (optional kind.quant quantiser_scale_code) (from_5 coding increment kind motion field_dct) (local-code kind.quant) course_4 (c.in_ok-code.ensures) in
    let forward = c.read_vectors_where.new.into.items in
    let course_6 = course-on on (when (has_forward coding kind) (motion_vectors (f_codes coding 0) (motion_format coding motion)) [])
    (from_6 coding increment kind motion field_dct code)
    (local-vectors (has_forward coding kind) (f_codes coding 0) (motion_format coding motion)) course_5
    (vectors-as {result = Ok c.read_vectors_where.new.into.items} c.has_forward-forward.ensures c.codes_of-forward_codes.ensures.value
    c.vector_format-format.ensures c.in_ok-read_vectors_where.ensures) in
    let backward = c.read_vectors_where-2.new.into.items in
    let course_7 = course-on on (when kind.backward (motion_vectors (f_codes coding 1) (motion_format coding motion)) [])
    (from_7 coding increment kind motion field_dct code forward)
    (local-vectors kind.backward (f_codes coding 1) (motion_format coding motion)) course_6
    (vectors-as {result = Ok c.read_vectors_where-2.new.into.items} refl c.codes_of-backward_codes.ensures.value c.vector_format-format.ensures
    c.in_ok-read_vectors_where-2.ensures) in
    let course_8 = course-on on (optional (has_concealment coding kind) (marker_bit BadType))
    ((λ _. from_8 coding increment kind motion field_dct code forward backward)) (local-marker (has_concealment coding kind)) course_7
    (marker-as (Ok tt) c.has_concealment-concealed.ensures c.in_ok-read_marker_where.ensures) in
    let pattern = c.in_ok-pattern.pattern in
    let course_9 = course-on on (when kind.pattern (vlclbf Pattern BadPattern []) 0)
    (from_9 coding increment kind motion field_dct code forward backward) (local-pattern kind.pattern) course_8 (c.in_ok-pattern.ensures) in
    let p = err_from_is_err_and c.from_residual-in_err-read_blocks.result c.from_residual-in_err-read_blocks.ensures.1 in
    rw (p.1, p.2) (course-err on (blocks coding kind pattern) (from_10 increment kind motion field_dct code forward backward pattern) course_9 (c.in_err-read_blocks.ensures))

pub returns-clause-answers : goal.returns-clause-answers
returns-clause-answers g c =
    let on = g.met.S.Source.keeps_on in
    let coding = c.args.coding.now in
    let first = c.args.first in
    let left = c.args.columns_left in
    let keeps : KeepsSource c.args.from.now c.args.from.now = search rules in
    let start = macroblock-start coding first left c.args.from.now keeps in
    let increment = c.in_ok-increment.increment in
    let course_1 = course-on on (address_increment (most_increment coding first left)) (from_1 coding)
    (local-address (most_increment coding first left)) start
    (subst (λ n. Answers ⊥ (address_increment n) (Ok c.in_ok-increment.increment) c.args.from.now c.read_increment.new.from)
    c.most_increment.ensures.value c.in_ok-increment.ensures.answers) in
    let kind = c.in_ok-kind.kind in
    let course_2 = course-on on (macroblock_type coding) (from_2 coding increment) (local-kind coding) course_1 (c.in_ok-kind.ensures) in
    let motion = c.in_ok-motion_type.motion_type in
    let course_3 = course-on on (motion_type coding kind) (from_3 coding increment kind) (local-motion_type coding kind) course_2 (c.in_ok-motion_type.ensures) in
    let field_dct = c.in_ok-field_dct.field_dct in
    let course_4 = course-on on (dct_type coding kind) (from_4 coding increment kind motion) (local-dct_type coding kind) course_3
    (subst (λ b. Answers ⊥ (when b one_flag false) (Ok c.in_ok-field_dct.field_dct) c.read_motion_type.new.from c.read_bit_where.new.from)
    c.has_dct_type.ensures c.in_ok-field_dct.ensures) in
    let code = c.in_ok-code.code in
    let course_5 = course-on on (optional kind.quant quantiser_scale_code) (from_5 coding increment kind motion field_dct) (local-code kind.quant) course_4 (c.in_ok-code.ensures) in
    let forward = c.read_vectors_where.new.into.items in
    let course_6 = course-on on (when (has_forward coding kind) (motion_vectors (f_codes coding 0) (motion_format coding motion)) [])
    (from_6 coding increment kind motion field_dct code)
    (local-vectors (has_forward coding kind) (f_codes coding 0) (motion_format coding motion)) course_5
    (vectors-as {result = Ok c.read_vectors_where.new.into.items} c.has_forward-forward.ensures c.codes_of-forward_codes.ensures.value
    c.vector_format-format.ensures c.in_ok-read_vectors_where.ensures) in
    let backward = c.read_vectors_where-2.new.into.items in
    let course_7 = course-on on (when kind.backward (motion_vectors (f_codes coding 1) (motion_format coding motion)) [])
    (from_7 coding increment kind motion field_dct code forward)
    (local-vectors kind.backward (f_codes coding 1) (motion_format coding motion)) course_6
    (vectors-as {result = Ok c.read_vectors_where-2.new.into.items} refl c.codes_of-backward_codes.ensures.value c.vector_format-format.ensures
    c.in_ok-read_vectors_where-2.ensures) in
    let course_8 = course-on on (optional (has_concealment coding kind) (marker_bit BadType))
    ((λ _. from_8 coding increment kind motion field_dct code forward backward)) (local-marker (has_concealment coding kind)) course_7
    (marker-as (Ok tt) c.has_concealment-concealed.ensures c.in_ok-read_marker_where.ensures) in
    let pattern = c.in_ok-pattern.pattern in
    let course_9 = course-on on (when kind.pattern (vlclbf Pattern BadPattern []) 0)
    (from_9 coding increment kind motion field_dct code forward backward) (local-pattern kind.pattern) course_8 (c.in_ok-pattern.ensures) in
    let blocks_read = c.read_blocks.new.into in
    let course_10 = course-on on (blocks coding kind pattern) (from_10 increment kind motion field_dct code forward backward pattern)
    (local-blocks coding kind pattern) course_9 (c.in_ok-read_blocks.ensures) in
    course-end (macroblock coding first left) _ course_10
