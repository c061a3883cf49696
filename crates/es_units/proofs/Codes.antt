-- Kinds of start codes by their values.
use Rattle.std.proofs.Common.{◌≡◌, ℕ, Bool, true, false, List, Some, None, ◌+◌, ◌∙◌, sym, refl, slice_index}
use Rattle.es_units.specs.StartCodes.{is_start_code_at, start_code_at, has_code}

-- no start code, none of any kind
pub no_code : (test : ℕ → Bool) (es : List ℕ) (at : ℕ) → is_start_code_at es at ≡ false → has_code test es at ≡ false
no_code test es at none = rw none

-- a start code's kind is told by its value
pub code_is : (test : ℕ → Bool) (es : List ℕ) (at value : ℕ) → start_code_at es at ≡ Some value → has_code test es at ≡ test value
code_is test es at value is = rw is

-- what a start code says: it stands there, with this value
pub code_stands : (es : List ℕ) (at value : ℕ) → start_code_at es at ≡ Some value → (is_start_code_at es at ≡ true) × (value ≡ slice_index es (at + 3))
code_stands es at value is = by_test (is_start_code_at es at) refl where
  by_test : (b : Bool) → is_start_code_at es at ≡ b → (is_start_code_at es at ≡ true) × (value ≡ slice_index es (at + 3))
  by_test true stands = let e : start_code_at es at ≡ Some (slice_index es (at + 3)) = rw stands in let said : Some (slice_index es (at + 3)) ≡ Some value = sym e ∙ is in (stands, cc)
  by_test false stands = let e : start_code_at es at ≡ None = rw stands in let said : None ≡ Some value = sym e ∙ is in absurd cc
