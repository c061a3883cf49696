-- What is found at the front of the bytes that are left of a program stream.
use Rattle.std.specs.Prelude.{◌≡◌, ℕ, Bool, true, false, List, ◌∷◌, ◌++◌, length, Result, Ok, Err}
use Rattle.program_stream.specs.declared.front.Front.{Front}
use Rattle.program_stream.specs.declared.front.Front.TheVariants as fronts
use Rattle.program_stream.specs.declared.split_fault.SplitFault.{SplitFault}
use Rattle.program_stream.specs.Elements.{Element, element_bytes, element_spelling, IsSoundElement, IsEnd, IsRefusedAt}
use Rattle.program_stream.specs.PassingElements.{KeepsTwo}

-- a sound element stands first, behind so many zero bytes and with so many of its own
pub record BeginsWith (rest : List ℕ) (zeros len : ℕ) : Type 0 where
  pub element : Element
  pub more : List ℕ
  pub rest_is : rest ≡ element_spelling element ++ more
  pub sound : IsSoundElement element
  pub zeros_are : zeros ≡ element.zeros
  pub len_is : len ≡ length (element_bytes element)

-- the zero bytes that can be passed over were: no three stand first, and two do where some were
pub record IsBehind (zeros : ℕ) (rest : List ℕ) : Type 0 where
  pub two : KeepsTwo zeros rest
  pub no_third : (more : List ℕ) → rest ≡ 0 ∷ 0 ∷ 0 ∷ more → ⊥

-- no whole element is found
abbrev pub needs_more : Front → Bool
needs_more fronts.Zeros = true
needs_more fronts.Cut = true
needs_more (fronts.Whole len) = false

-- what comes of the bytes from a place on, of which so many zero bytes stand before a whole element
abbrev pub Reads : ℕ → ℕ → List ℕ → Result Front SplitFault → Type 0
Reads at count bytes (Ok fronts.Zeros) = IsEnd bytes 0
Reads at count bytes (Ok fronts.Cut) = IsEnd bytes 1
Reads at count bytes (Ok (fronts.Whole len)) = BeginsWith bytes count len
Reads at count bytes (Err fault) = IsRefusedAt at bytes fault
