-- The search for a unit's picture start code.
use Rattle.std.proofs.Common.{◌≡◌, ◌+◌, ◌≤◌, ℕ, List, length, sym, subst, inl, inr, ◌∙◌, arith}
use Rattle.std.proofs.lemmas.Bool.{cases_lt}
use Rattle.stream_constants.specs.declared.start_codes.TheConstants.{GROUP, PICTURE}
use Rattle.picture_writer.specs.VbvDelay.{CodeStands, IsPictureCode}
use Rattle.picture_writer.specs.Private.Scan.{IsBehindGroup, IsScanned}

pub scanned_none : (unit : List ℕ) → IsScanned unit 0 0
scanned_none unit = record {
  groups = λ group lt stands. absurd (omega arith);
  last = inl (let none : 0 ≡ 0 = omega arith in none);
  none = λ earlier lt stands. absurd (omega arith);
}

one_code : (unit : List ℕ) (at : ℕ) → CodeStands GROUP unit at → CodeStands PICTURE unit at → ⊥
one_code unit at group picture = let e : GROUP ≡ PICTURE = sym group.last ∙ picture.last in omega arith

module _ (unit : List ℕ) (at before outside : ℕ) (scanned : IsScanned unit at before) where
  pub scanned_more : IsBehindGroup unit at before outside → (outside ≤ at → CodeStands PICTURE unit at → ⊥) → IsScanned unit (at + 1) outside
  scanned_more (inl (stands, is)) not_there = record {
    groups = λ group lt code. elim (cases_lt group at) [
      | inl less ↦ omega arith
      | inr same ↦ omega arith
    ];
    last = inr (at, (omega arith), stands, is);
    none = λ earlier lt code. elim (cases_lt earlier at) [
      | inl less ↦ scanned.none earlier less code
      | inr same ↦ let here : earlier ≡ at = omega arith in absurd (one_code unit at stands (subst (CodeStands PICTURE unit) here code))
    ];
  }
  scanned_more (inr (other, is)) not_there = record {
    groups = λ group lt code. elim (cases_lt group at) [
      | inl less ↦ let most = scanned.groups group less code in omega (arith, most, is)
      | inr same ↦ let here : group ≡ at = omega arith in absurd (other (subst (CodeStands GROUP unit) here code))
    ];
    last = elim scanned.last [
      | inl none ↦ inl (is ∙ none)
      | inr found ↦ inr (found.0, (let less = found.1 in omega (arith, less)), found.2, is ∙ found.3)
    ];
    none = λ earlier lt code. elim (cases_lt earlier at) [
      | inl less ↦ scanned.none earlier less code
      | inr same ↦
          let here : earlier ≡ at = omega arith in
          let stands : CodeStands PICTURE unit at = subst (CodeStands PICTURE unit) here code in
          elim scanned.last [
            | inl none ↦ absurd (not_there (omega (arith, none, is)) stands)
            | inr found ↦ elim (cases_lt at outside) [
              | inl inside ↦
                  let first = found.1 in
                  let end = found.3 in
                  record { group = found.0; stands = found.2; behind = omega (arith, first); within = omega (arith, end, is) }
              | inr past ↦ absurd (not_there past stands)
            ]
          ]
    ];
  }

  pub scanned_found : IsBehindGroup unit at before outside → outside ≤ at → CodeStands PICTURE unit at → IsPictureCode unit at
  scanned_found (inl (stands, is)) past code = absurd (one_code unit at stands code)
  scanned_found (inr (other, is)) past code = record {
    stands = code;
    outside = λ inside. elim (cases_lt inside.group at) [
      | inl less ↦ let most = scanned.groups inside.group less inside.stands in omega (arith, most, is, inside.within)
      | inr same ↦ let here : inside.group ≡ at = (let behind = inside.behind in omega arith) in other (subst (CodeStands GROUP unit) here inside.stands)
    ];
    none_before = scanned.none;
  }

pub scanned_all : (unit : List ℕ) (n outside at : ℕ) → IsScanned unit n outside → length unit ≤ n → IsPictureCode unit at → ⊥
scanned_all unit n outside at scanned all code = let within = code.stands.within in code.outside (scanned.none at (omega arith) code.stands)

-- there is one
pub one_picture : (unit : List ℕ) (a b : ℕ) → IsPictureCode unit a → IsPictureCode unit b → a ≡ b
one_picture unit a b one other = elim (cases_lt a b) [
  | inl less ↦ absurd (one.outside (other.none_before a less one.stands))
  | inr not_less ↦ elim (cases_lt b a) [
    | inl more ↦ absurd (other.outside (one.none_before b more other.stands))
    | inr not_more ↦ omega arith
  ]
]
