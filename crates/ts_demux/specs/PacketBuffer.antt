-- Packets in the order in which a source gives their bytes.
use Rattle.std.specs.Prelude.{◌≡◌, ℕ, List, [], ◌++◌, length, take, Option, IfSome}
use Rattle.shelf_io.specs.Source.{Takes}

-- these bytes were taken from a source: where it tells what is left, they are its front
pub record IsTakenFrom (left left_after : Option (List ℕ)) (most most_after : ℕ) (bytes : List ℕ) : Type 0 where
  pub takes : Takes left left_after most most_after (length bytes)
  pub told : IfSome left (λ whole. take (length bytes) whole ≡ bytes)

-- Bytes were taken from a source behind those that were held. Of them all the first ones are passed, and the others held.
pub record Passes (left left_after : Option (List ℕ)) (most most_after : ℕ) (held passed held_after : List ℕ) : Type 0 where
  pub bytes : List ℕ
  pub taken : IsTakenFrom left left_after most most_after bytes
  pub in_order : held ++ bytes ≡ passed ++ held_after

-- no bytes are left, where a source tells them
abbrev pub IsAtEnd : Option (List ℕ) → Type 0
IsAtEnd left = IfSome left (λ whole. whole ≡ [])
