use Rattle.std.proofs.Common.{◌≡◌, ℕ, false, ◌+◌, ◌-◌, ◌≤◌, List, [], ◌∷◌, ◌++◌, length, take, subst, refl, inl, inr, arith, rules}
use Rattle.std.proofs.lemmas.Bool.{cases_lt}
use Rattle.es_units.specs.StartCodes.{is_start_code_at}
use Rattle.es_units.proofs.FrontCodes.{joint_front, joint_behind, joint_none}
use Rattle.es_units.proofs.joint_code.find_code.Goals as goal

-- no start code begins in the first bytes
before : (tail piece : List ℕ) (a b c x y z count : ℕ) → length tail ≡ 3 → take (3 + count) (a ∷ b ∷ c ∷ x ∷ y ∷ z ∷ []) ≡ take (3 + count) (tail ++ piece)
    → ((at : ℕ) → 0 ≤ at → is_start_code_at (take (3 + count) (a ∷ b ∷ c ∷ x ∷ y ∷ z ∷ [])) at ≡ false) → (at : ℕ) → is_start_code_at (take (3 + count) (tail ++ piece)) at ≡ false
before tail piece a b c x y z count long is none at = subst (λ (es : List ℕ). is_start_code_at es at ≡ false) is (none at (omega arith))

pub returns-in_default-next_start_code-clause-first : goal.returns-in_default-next_start_code-clause-first
returns-in_default-next_start_code-clause-first c at =
    let tail = c.args.tail in
    let piece = c.args.piece.now in
    let long : length tail ≡ 3 = search rules in
    elim (cases_lt at 3) [
      | inl low ↦ joint_none tail piece c.min-count.result at long (search rules) low
          (before tail piece _ _ _ c.byte_of.result c.byte_of-2.result c.byte_of-3.result c.min-count.result long
          (joint_front tail piece _ _ _ c.byte_of.result c.byte_of-2.result c.byte_of-3.result c.min-count.result long refl refl refl
          c.byte_of.ensures c.byte_of-2.ensures c.byte_of-3.ensures (search rules)) c.in_default.ensures.first at)
      | inr high ↦ rw (joint_behind tail piece at long high) (c.in_default-next_start_code.ensures.first (at - 3) (omega arith))
    ]

pub returns-clause-first : goal.returns-clause-first
returns-clause-first c at less =
    let tail = c.args.tail in
    let piece = c.args.piece.now in
    let long : length tail ≡ 3 = search rules in
    elim (cases_lt at 3) [
      | inl low ↦ joint_none tail piece c.min-count.result at long (search rules) low
          (before tail piece _ _ _ c.byte_of.result c.byte_of-2.result c.byte_of-3.result c.min-count.result long
          (joint_front tail piece _ _ _ c.byte_of.result c.byte_of-2.result c.byte_of-3.result c.min-count.result long refl refl refl
          c.byte_of.ensures c.byte_of-2.ensures c.byte_of-3.ensures (search rules)) c.in_default.ensures.first at)
      | inr high ↦ rw (joint_behind tail piece at long high) (c.in-Some-next_start_code.ensures.first (at - 3) (omega arith) (omega arith))
    ]
