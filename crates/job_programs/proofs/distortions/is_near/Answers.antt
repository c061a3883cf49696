use Rattle.std.proofs.Common.{rules, ◌≡◌, ◌↔◌, Bool, true, false, IsTrue}
use Rattle.job_programs.proofs.distortions.is_near.Goals as goal

both : (near together : Bool) (P Q : Type 0) → (IsTrue near ↔ P) → near ≡ true → (IsTrue together ↔ Q) → IsTrue together ↔ (P × Q)
both near together P Q decides holds more = (λ is. (decides.0 holds, more.0 is), λ is. more.1 is.1)

one-fails : (near : Bool) (P Q : Type 0) → (IsTrue near ↔ P) → near ≡ false → IsTrue false ↔ (P × Q)
one-fails near P Q decides fails = (
  λ is. absurd (let e : false ≡ true = is in cc),
  λ is. absurd (let holds : near ≡ true = decides.1 is.0 in cc),
)

pub are_together_below-requires-clause-near : goal.are_together_below-requires-clause-near
are_together_below-requires-clause-near c = (let holds : c.are_near.result ≡ true = search rules in c.are_near.ensures.0 holds)

pub returns-then-not-are_near : goal.returns-then-not-are_near
returns-then-not-are_near c = (let fails : c.are_near.result ≡ false = search rules in one-fails c.are_near.result _ _ c.are_near.ensures fails)

pub returns : goal.returns
returns c = (let holds : c.are_near.result ≡ true = search rules in both c.are_near.result c.are_together_below.result _ _ c.are_near.ensures holds c.are_together_below.ensures)
