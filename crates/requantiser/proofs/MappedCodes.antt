-- Each code has one mapped code.
use Rattle.std.proofs.Common.{◌≡◌, ℕ, ◌*◌, ◌<◌, ◌≤◌, Option, Some, None, Bool, refl, sym, ◌∙◌, ◌⊎◌, inl, inr, arith, unwrap_or}
use Rattle.std.specs.Prelude.{find, nat_le}
use Rattle.std.specs.List.{range_with_len}
use Rattle.std.proofs.lemmas.Bool.{leb-true, leb-false, cases_lt}
use Rattle.quant_math.specs.Scales.{quantiser_scale, IsCode, IsMappedCode, Reaches}
use Rattle.requantiser.specs.Private.Walk.{mapped_code}
use Rattle.requantiser.proofs.Ranges.{IsFirst, find-some, find-none}

abbrev pub reaches : Bool → ℕ → ℕ → ℕ → Bool
reaches q_scale_type m code candidate = nat_le (quantiser_scale q_scale_type code * m) (quantiser_scale q_scale_type candidate * 16)

by_search : (q_scale_type : Bool) (m code : ℕ) (found : Option ℕ) → found ≡ find (reaches q_scale_type m code) (range_with_len 1 30) → IsMappedCode q_scale_type code m (unwrap_or found 31)
by_search q_scale_type m code None is = record {
  is_code = (omega arith, omega arith);
  reaches = inr refl;
  least = λ other allowed high. last other allowed high (cases_lt other 31);
}
  where
    last : (other : ℕ) → IsCode other → Reaches q_scale_type code m other → (other < 31) ⊎ (31 ≤ other) → 31 ≤ other
    last other allowed high (inl below) =
        absurd (omega (arith, high, leb-false _ _ (find-none (reaches q_scale_type m code) 1 30 (sym is) other allowed.0 (omega arith))))
    last other allowed high (inr above) = above
by_search q_scale_type m code (Some k) is =
    let first : IsFirst (reaches q_scale_type m code) 1 31 k = find-some (reaches q_scale_type m code) 1 30 k (sym is) in
    record {
      is_code = (first.from, omega (arith, first.below));
      reaches = inl (leb-true _ _ first.passes);
      least = λ other allowed high. least first other allowed high (cases_lt other k);
    }
  where
    least : IsFirst (reaches q_scale_type m code) 1 31 k → (other : ℕ) → IsCode other → Reaches q_scale_type code m other → (other < k) ⊎ (k ≤ other) → k ≤ other
    least first other allowed high (inl below) = absurd (omega (arith, high, leb-false _ _ (first.none_before other allowed.0 below)))
    least first other allowed high (inr above) = above

-- the search finds the mapped code
pub mapped_code-is : (q_scale_type : Bool) (m code : ℕ) → IsMappedCode q_scale_type code m (mapped_code q_scale_type m code)
mapped_code-is q_scale_type m code = by_search q_scale_type m code (find (reaches q_scale_type m code) (range_with_len 1 30)) refl

-- no two codes are
pub one_mapped : (q_scale_type : Bool) (m code a b : ℕ) → IsMappedCode q_scale_type code m a → IsMappedCode q_scale_type code m b → a ≡ b
one_mapped q_scale_type m code a b p q = by_parts p.reaches q.reaches
  where
    by_parts : Reaches q_scale_type code m a ⊎ (a ≡ 31) → Reaches q_scale_type code m b ⊎ (b ≡ 31) → a ≡ b
    by_parts (inl x) (inl y) = omega (arith, p.least b q.is_code y, q.least a p.is_code x)
    by_parts (inl x) (inr y) = omega (arith, q.least a p.is_code x, p.is_code.1, y)
    by_parts (inr x) (inl y) = omega (arith, p.least b q.is_code y, q.is_code.1, x)
    by_parts (inr x) (inr y) = x ∙ sym y
