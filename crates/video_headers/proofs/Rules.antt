-- Rules of the grammar as limits.
use Rattle.std.proofs.Common.{◌≡◌, ℕ, ◌<◌, ◌≤◌, ◌^◌, ◌==◌, ◌||◌, nat_eq, nat_le, not, List, Bool, true, false, refl, sym, ap, ap₂, subst, inl, inr, arith, eq-eqb}
use Rattle.std.proofs.lemmas.Bool.{cases_Bool, and_parts, and_from, leb-true, le-leb, eqb-true, both_ways}
use Rattle.syntax_types.specs.declared.picture.SeqState.{SeqState}
use Rattle.picture_grammar.specs.Headers.{is_from_to}
use Rattle.bit_lists.specs.Fields.{flag}
use Rattle.picture_grammar.specs.Refusal.{Refusal}
use Rattle.picture_grammar.specs.Element.{rule}
use Rattle.video_headers.specs.declared.limit.Limit.{Limit}
use Rattle.video_headers.specs.declared.why.Why.TheVariants.{BadHeader}
use Rattle.video_headers.specs.Private.Limits.{limit, IsFlagRule}

same-answers : (a b : Bool) → (a ≡ true → b ≡ true) → (b ≡ true → a ≡ true) → a ≡ b
same-answers true b f g = sym (f refl)
same-answers false true f g = g refl
same-answers false false f g = refl

from-to : (least most v : ℕ) → is_from_to least most v ≡ true → (least ≤ v) × (v ≤ most)
from-to least most v is = let both = and_parts (nat_le least v) (nat_le v most) is in (leb-true least v both.0, leb-true v most both.1)

to-from : (least most v : ℕ) → least ≤ v → v ≤ most → is_from_to least most v ≡ true
to-from least most v a b = and_from (nat_le least v) (nat_le v most) (le-leb least v a) (le-leb v most b)

-- one number alone
pub only-range : (x v : ℕ) → (v == x) ≡ is_from_to x x v
only-range x v =
    same-answers (v == x) (is_from_to x x v) (λ is. let e = eqb-true v x is in to-from x x v (omega (arith, e)) (omega (arith, e)))
    (λ is. let range = from-to x x v is in eq-eqb v x (omega (arith, range.0, range.1)))

-- every number
pub any-range : (most v : ℕ) → v ≤ most → true ≡ is_from_to 0 most v
any-range most v le = sym (to-from 0 most v (omega arith) le)

-- no 0
pub some-range : (most v : ℕ) → v ≤ most → not (v == 0) ≡ is_from_to 1 most v
some-range most v le =
    same-answers (not (v == 0)) (is_from_to 1 most v)
    (λ is. let n : (v ≡ 0) → ⊥ = λ z. both_ways (not (nat_eq v 0)) (ap not (eq-eqb v 0 z)) is in to-from 1 most v (omega (arith, n)) le)
    (λ is. elim (cases_Bool (nat_eq v 0)) [
      | inl e ↦ absurd (let range = from-to 1 most v is in let z = eqb-true v 0 e in omega (arith, range.0, z))
      | inr n ↦ ap not n
    ])

-- ---- flags

pub unset-flag : (is_set : Bool) → not is_set ≡ is_from_to 0 0 (flag is_set)
unset-flag true = refl
unset-flag false = refl

-- a flag that may be set only where something is so
pub flag-if : (so is_set : Bool) → (not is_set || so) ≡ is_from_to 0 (flag so) (flag is_set)
flag-if true true = refl
flag-if true false = refl
flag-if false true = refl
flag-if false false = refl

pub flag-small : (is_set : Bool) → flag is_set < 2 ^ 32
flag-small true = omega arith
flag-small false = omega arith

-- a limit of a flag that may be set only where something is so
pub flag-rule : (l : Limit) (so : Bool) → l ≡ limit 0 (flag so) BadHeader → IsFlagRule l (rule Refusal.BadHeader (λ is_set. not is_set || so))
flag-rule l so is = subst (λ (k : Limit). IsFlagRule k (rule Refusal.BadHeader (λ is_set. not is_set || so))) (sym is) (refl, flag-if so)

-- ---- values by their parts

-- a state by its parts
abbrev pub state_of : ℕ → ℕ → ℕ → ℕ → Bool → List ℕ → List ℕ → SeqState
state_of width height rate_code vbv progressive intra non_intra =
    record { width = width; height = height; rate_code = rate_code; vbv = vbv; progressive = progressive; intra = intra; non_intra = non_intra }

pub header-value : (width height rate_code vbv : ℕ) (progressive : Bool) (a b c d : List ℕ) → a ≡ b → c ≡ d
    → state_of width height rate_code vbv progressive a c ≡ state_of width height rate_code vbv progressive b d
header-value width height rate_code vbv progressive a b c d e f = ap₂ (λ (x y : List ℕ). state_of width height rate_code vbv progressive x y) e f
