use Rattle.std.specs.Prelude.{◌≡◌, ℕ, ◌*◌, ◌-◌, ◌≤◌, ◌⊎◌, Bool, true, false, List, [], ◌∷◌, slice_index}
use Rattle.quant_math.specs.declared.scales.TheConstants.{LAST_CODE, WHOLE_RATIO}

-- a quantiser_scale_code (ISO/IEC 13818-2, 6.3.16; 0 is forbidden)
abbrev pub IsCode : ℕ → Type 0
IsCode code = (1 ≤ code) × (code ≤ LAST_CODE)

-- quantiser_scale of the codes 1 to 31 where q_scale_type is 1 (ISO/IEC 13818-2, Table 7-6)
abbrev pub nonlinear_scales : List ℕ
nonlinear_scales =
    1 ∷ 2 ∷ 3 ∷ 4 ∷ 5 ∷ 6 ∷ 7 ∷ 8
    ∷ 10 ∷ 12 ∷ 14 ∷ 16 ∷ 18 ∷ 20 ∷ 22 ∷ 24
    ∷ 28 ∷ 32 ∷ 36 ∷ 40 ∷ 44 ∷ 48 ∷ 52 ∷ 56
    ∷ 64 ∷ 72 ∷ 80 ∷ 88 ∷ 96 ∷ 104 ∷ 112 ∷ []

-- quantiser_scale by q_scale_type and code (ISO/IEC 13818-2, 7.4.2.2 and Table 7-6)
abbrev pub quantiser_scale : Bool → ℕ → ℕ
quantiser_scale false code = 2 * code
quantiser_scale true code = slice_index nonlinear_scales (code - 1)

-- the scale of a candidate is at least m sixteenths of the scale of the code
abbrev pub Reaches : Bool → ℕ → ℕ → ℕ → Type 0
Reaches q_scale_type code m candidate = quantiser_scale q_scale_type code * m ≤ quantiser_scale q_scale_type candidate * WHOLE_RATIO

-- the least code whose scale is at least m sixteenths of the scale of the code, or the last code where there is none
pub record IsMappedCode (q_scale_type : Bool) (code m mapped : ℕ) : Type 0 where
  pub is_code : IsCode mapped
  pub reaches : Reaches q_scale_type code m mapped ⊎ (mapped ≡ LAST_CODE)
  pub least : (other : ℕ) → IsCode other → Reaches q_scale_type code m other → mapped ≤ other
