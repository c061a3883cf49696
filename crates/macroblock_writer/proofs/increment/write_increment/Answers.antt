use Rattle.std.proofs.Common.{◌≡◌, ◌+◌, ◌-◌, ◌*◌, ◌/◌, ◌<◌, ◌≤◌, ℕ, zero, suc, List, [], ◌++◌, refl, ap, ap₂, sym, ◌∙◌, arith, append_assoc}
use Rattle.std.specs.List.{flat_map, range_with_len}
use Rattle.bit_cursor.proofs.Composed.{writes_none, writes_then, writes_exit}
use Rattle.block_coeffs.proofs.Writing.{writes_as}
use Rattle.prefix_codes.specs.declared.symbol.TheConstants.{ADDRESS_ESCAPE}
use Rattle.prefix_codes.specs.declared.table_name.TableName.TheVariants.{Address}
use Rattle.picture_grammar.specs.Written.{written_increment}
use Rattle.prefix_codes.specs.TableName.{code_for}
use Rattle.macroblock_writer.proofs.increment.write_increment.Goals as goal

-- the same code for each number of a range, wherever it begins
same_codes : (code : List ℕ) (a b n : ℕ) → flat_map (λ _. code) (range_with_len a n) ≡ flat_map (λ _. code) (range_with_len b n)
same_codes code a b zero = refl
same_codes code a b (suc n) = ap (λ bits. code ++ bits) (same_codes code (a + 1) (b + 1) n)

abbrev escapes : ℕ → List ℕ
escapes n = flat_map (λ _. code_for Address ADDRESS_ESCAPE) (range_with_len 0 n)

-- an escape, then what is left
escape_first : (left more : ℕ) → 1 ≤ left → more ≡ left + 33 → written_increment more ≡ code_for Address ADDRESS_ESCAPE ++ written_increment left
escape_first left more some is =
    let count : (more - 1) / 33 ≡ suc ((left - 1) / 33) = omega arith in
    let code : more - 33 * suc ((left - 1) / 33) ≡ left - 33 * ((left - 1) / 33) = omega arith in
    ap (λ (n : ℕ). escapes n ++ code_for Address (more - 33 * n)) count
    ∙ ap₂ (λ (bits : List ℕ) (n : ℕ). (code_for Address ADDRESS_ESCAPE ++ bits) ++ code_for Address n) (same_codes (code_for Address ADDRESS_ESCAPE) 1 0 ((left - 1) / 33)) code
    ∙ append_assoc (code_for Address ADDRESS_ESCAPE) (escapes ((left - 1) / 33)) (code_for Address (left - 33 * ((left - 1) / 33)))

-- a code of the table alone
no_escape : (left : ℕ) → left ≤ 33 → written_increment left ≡ code_for Address left
no_escape left few =
    let count : (left - 1) / 33 ≡ 0 = omega arith in
    let all : left - 33 * 0 ≡ left = omega arith in
    ap (λ (n : ℕ). escapes n ++ code_for Address (left - 33 * n)) count ∙ ap (code_for Address) all

another : (done all : List ℕ) (left less : ℕ) → done ++ written_increment left ≡ all → 33 < left → less ≡ left - 33 → (done ++ code_for Address ADDRESS_ESCAPE) ++ written_increment less ≡ all
another done all left less rest many is =
    append_assoc done (code_for Address ADDRESS_ESCAPE) (written_increment less) ∙ ap (λ bits. done ++ bits) (sym (escape_first less left (omega arith) (omega arith))) ∙ rest

pub loop-left-init : goal.loop-left-init
loop-left-init g c = record {
  some = c.requires.some;
  done = [];
  put = writes_none (tt {0}) c.args.to.now g.met.K.Sink.keeps_itself c.requires.goes;
  rest = refl;
}

pub returns-in_err-write_code : goal.returns-in_err-write_code
returns-in_err-write_code g c =
    writes_as (writes_exit c.from_residual.result (written_increment (c.loop-left.left - 33)) c.from_residual.ensures.1
    (writes_then g.met.K.Sink.keeps_on c.loop-left.invariant.put c.in_err-write_code.ensures))
    (another c.loop-left.invariant.done (written_increment c.args.increment) c.loop-left.left (c.loop-left.left - 33) c.loop-left.invariant.rest (omega (arith, c.loop-left-test.true)) refl)

pub loop-left-preserved : goal.loop-left-preserved
loop-left-preserved g c = record {
  some = omega (arith, c.loop-left-test.true);
  done = c.loop-left.invariant.done ++ code_for Address ADDRESS_ESCAPE;
  put = writes_then g.met.K.Sink.keeps_on c.loop-left.invariant.put c.in_ok-write_code.ensures;
  rest = another c.loop-left.invariant.done (written_increment c.args.increment) c.loop-left.left (c.loop-left.left - 33) c.loop-left.invariant.rest (omega (arith, c.loop-left-test.true)) refl;
}

pub returns : goal.returns
returns g c =
    writes_as (writes_then g.met.K.Sink.keeps_on c.loop-left.invariant.put c.write_code-2.ensures)
    (ap (λ bits. c.loop-left.invariant.done ++ bits) (sym (no_escape c.loop-left.left (omega (arith, c.loop-left-test.false)))) ∙ c.loop-left.invariant.rest)
