use Rattle.std.proofs.Common.{ℕ, ◌+◌, ◌/◌, ◌%◌, List, [], ◌∷◌, ◌++◌, decimal, sym, ap, ◌∙◌, append_assoc}
use Rattle.std.proofs.lemmas.Fmt.{decimal_digit, decimal_step}
use Rattle.version_table.proofs.write.+push_number.Goals as goal

pub returns-then-n-lt10 : goal.returns-then-n-lt10
returns-then-n-lt10 t c = c.in_ok-push.ensures.items ∙ ap (λ (digits : List ℕ). c.args.out.now.items ++ digits) (sym (decimal_digit c.args.n c.if-n-lt10.true))

pub returns : goal.returns
returns t c =
    let last = (48 + c.args.n % 10) ∷ [] in
    c.in_ok-push-2.ensures.items ∙ ap (λ (front : List ℕ). front ++ last) c.in_ok-push_number.ensures
    ∙ append_assoc c.args.out.now.items (decimal (c.args.n / 10)) last
    ∙ ap (λ (digits : List ℕ). c.args.out.now.items ++ digits) (sym (decimal_step c.args.n c.if-n-lt10.false c.ranges.n.fits))
