use Rattle.std.proofs.Common.{◌+◌, drop, sym, ap₂, subst, arith, refl}
use Rattle.picture_grammar.specs.Refusal.Refusal.{End}
use Rattle.block_coeffs.specs.Private.DcStanding.{dc_by}
use Rattle.grammar_reading.specs.Window.{seen}
use Rattle.block_coeffs.proofs.Dcs.{begins-size, bits-fit, dc-cut, dc-found_at}
use Rattle.block_coeffs.proofs.dc_standing.what_dc.Goals as goal

pub why_no_size-requires-clause-none : goal.why_no_size-requires-clause-none
why_no_size-requires-clause-none c = λ s n b. c.in_default.not-Some (s, n) ((c.find.ensures.front s n).1 b)

pub returns-then-len-window : goal.returns-then-len-window
returns-then-len-window c =
    let b = (c.find.ensures.front c.in-Some.size c.in-Some.code_len).0 c.in-Some.is in
    let cut = dc-cut c.args.table c.requires c.args.window c.in-Some.size c.in-Some.code_len b (omega (arith, c.from-behind.ensures, c.from.ensures)) in (
      omega (arith, cut.0, c.from-behind.ensures),
      λ bits shows. subst (λ n. (dc_by c.args.table).Refuses bits End (drop n bits)) (sym c.from-behind.ensures) (cut.1 bits shows),
    )

pub overflow_cast-result-2 : goal.overflow_cast-result-2
overflow_cast-result-2 c =
    let b = (c.find.ensures.front c.in-Some.size c.in-Some.code_len).0 c.in-Some.is in
    record { fits = bits-fit c.in-Some.size _ (begins-size c.args.table (seen c.args.window c.args.window.known) c.in-Some.size c.in-Some.code_len c.requires b).0 }

pub returns : goal.returns
returns c =
    let b = (c.find.ensures.front c.in-Some.size c.in-Some.code_len).0 c.in-Some.is in
    let found = dc-found_at c.args.table c.args.window c.in-Some.size c.in-Some.code_len (c.from-behind.result + c.from.result) _ c.requires b
    (ap₂ (λ m n. m + n) c.from-behind.ensures c.from.ensures) c.if-len-window.false refl in
    (found.0, found.1)
