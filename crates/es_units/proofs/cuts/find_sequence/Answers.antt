use Rattle.std.proofs.Common.{◌∙◌, inl, inr, sym, arith}
use Rattle.std.proofs.lemmas.Bool.{cases_lt}
use Rattle.std.specs.Prelude.{length}
use Rattle.es_units.specs.StartCodes.{has_code, is_sequence_header}
use Rattle.es_units.proofs.Codes.{no_code, code_is}
use Rattle.es_units.proofs.Places.{find_place, no_place}
use Rattle.es_units.proofs.cuts.find_sequence.Goals as goal

pub returns-then-is_sequence_header : goal.returns-then-is_sequence_header
returns-then-is_sequence_header c = record {
  at = sym (find_place (has_code is_sequence_header c.args.es.now) (length c.args.es.now) c.in-Some.code.at (omega (arith, c.in-Some.ensures.found.1))
      (code_is is_sequence_header c.args.es.now c.in-Some.code.at c.in-Some.code.value c.in-Some.ensures.found.2 ∙ sym c.is_sequence_header.ensures ∙ c.if-is_sequence_header.true)
      (λ at before. elim (cases_lt at c.loop-code.from) [
        | inl passed ↦ c.loop-code.invariant.passed at passed
        | inr behind ↦ no_code is_sequence_header c.args.es.now at (c.in-Some.ensures.first at behind before)
      ]));
}

pub returns : goal.returns
returns c = record {
  at = sym (no_place (has_code is_sequence_header c.args.es.now) (length c.args.es.now)
      (λ at. elim (cases_lt at c.loop-code.from) [
        | inl passed ↦ c.loop-code.invariant.passed at passed
        | inr behind ↦ no_code is_sequence_header c.args.es.now at (c.in_default.ensures.first at behind)
      ]));
}
