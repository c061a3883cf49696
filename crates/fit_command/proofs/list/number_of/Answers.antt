use Rattle.std.proofs.lemmas.Fmt.{IsAscii-from_digits, decimal_is_IsNumeral}
use Rattle.std.proofs.lemmas.Str.{IsUtf8-from_ascii}
use Rattle.std.specs.Str.{IsUtf8}
use Rattle.std.proofs.Common.{List, ℕ, decimal, sym, subst}
use Rattle.fit_command.proofs.list.number_of.Goals as goal

pub returns-in-Err : goal.returns-in-Err
returns-in-Err c = λ n small is.
    c.in-Err.ensures.cases.0
    (subst (λ (word : List ℕ). IsUtf8 word) (sym is) (IsUtf8-from_ascii (decimal n) (IsAscii-from_digits (decimal n) (decimal_is_IsNumeral n small).0.1)))
