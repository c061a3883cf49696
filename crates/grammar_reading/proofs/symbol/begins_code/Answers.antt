use Rattle.std.proofs.Common.{◌≡◌, ◌-◌, ◌/◌, ◌^◌, sym, ap, ◌∙◌, arith, eq-eqb}
use Rattle.std.proofs.lemmas.Bool.{eqb-true, leb-true}
use Rattle.bit_lists.specs.Bits.{bits_of}
use Rattle.bit_lists.proofs.BitLemmas.{length-bits_of}
use Rattle.grammar_reading.proofs.Fronts.{length-front_of}
use Rattle.grammar_reading.proofs.Cuts.{begins-code, begun-length, BeginsCode-code}
use Rattle.grammar_reading.specs.Window.{seen}
use Rattle.grammar_reading.proofs.symbol.begins_code.Goals as goal

pub returns-then-window-len : goal.returns-then-window-len
returns-then-window-len c =
    let window = c.args.window in
    let code = c.in-Some.code in
    let size : 2 ^ (c.from-len.result - window.known) ≡ 2 ^ (code.len - window.known) = ap (λ n. 2 ^ (n - window.known)) c.from-len.ensures in
    let law = begins-code code.len code.bits window.bits window.known window.within (omega arith) c.in-Some.ensures.fits in (
      λ same. record {
        code = bits_of code.len code.bits;
        listed = c.in-Some.ensures.code;
        cut = law.1 (ap (λ n. code.bits / n) (sym size) ∙ eqb-true _ _ same);
      },
      λ b. eq-eqb _ _ (ap (λ n. code.bits / n) size ∙ law.0 (BeginsCode-code c.args.table c.args.symbol _ _ c.in-Some.ensures.code b)),
    )

pub returns-else-window-len : goal.returns-else-window-len
returns-else-window-len c =
    let window = c.args.window in
    let code = c.in-Some.code in (
      λ known. absurd (let le = leb-true _ _ known in omega arith),
      λ b. absurd (
          let begins = BeginsCode-code c.args.table c.args.symbol (seen window window.known) (bits_of code.len code.bits) c.in-Some.ensures.code b in
          omega (arith, begun-length (seen window window.known) (bits_of code.len code.bits) begins, length-bits_of code.len code.bits, length-front_of 24 window.bits window.known window.within)),
    )
