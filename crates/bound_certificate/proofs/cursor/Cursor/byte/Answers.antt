use Rattle.std.proofs.Common.{◌≡◌, ◌∷◌, ◌≤◌, sym, ap, ◌∙◌, arith, rules, length, ⊎_elim}
use Rattle.std.proofs.lemmas.List.{nil_from_length}
use Rattle.bound_certificate.proofs.Parts.{no_byte, bad_byte}
use Rattle.bound_certificate.proofs.cursor.Cursor.byte.Goals as goal

pub returns-in_default-clause-stop : goal.returns-in_default-clause-stop
returns-in_default-clause-stop c = λ are.
    let view : c.args.self.now ≡ c.self.inside.rest.now = search rules in
    no_byte (λ byte. (c.args.least ≤ byte) × (byte ≤ c.args.most)) c.args.self.now c.args.least (omega arith, c.requires) c.ranges.least.fits
    (view ∙ nil_from_length c.self.inside.rest.now c.in_default.ensures.cases)

pub returns-then-byte-least-clause-stop : goal.returns-then-byte-least-clause-stop
returns-then-byte-least-clause-stop c = λ are.
    let view : c.args.self.now ≡ c.self.inside.rest.now = search rules in
    let same : c.self.inside.rest.now ≡ c.in-Some.byte.now ∷ c.in-Some.behind.now = c.in-Some.ensures.cases.0 in
    bad_byte (λ byte. (c.args.least ≤ byte) × (byte ≤ c.args.most)) c.args.self.now c.in-Some.byte.now c.in-Some.behind.now (length c.self.inside.rest.now) c.args.least
    (omega arith, c.requires) c.ranges.least.fits
    (view ∙ same) (ap length (sym view))
    (λ both. ⊎_elim (λ low. absurd (omega (arith, low, both.0))) (λ high. absurd (omega (arith, high, both.1))) c.then-byte-least.either)
