-- PES packets in the payloads of transport packets (ISO/IEC 13818-1, 2.4.3.3).
use Rattle.std.specs.Prelude.{◌≡◌, ℕ, ◌+◌, ◌<◌, true, List, [], ◌∷◌, ◌++◌, length, map}
use Rattle.std.specs.List.{concat}
use Rattle.bit_lists.specs.Payload.{Payload}
use Rattle.psi_tables.specs.Sections.{going}

-- payloads that carry one PES packet: the first one has bytes and the start flag, the others no flag
pub record Carries (packet : List ℕ) (payloads : List Payload) : Type 0 where
  pub first : List ℕ
  pub others : List (List ℕ)
  pub payloads_are : payloads ≡ record { start = true; bytes = first } ∷ map going others
  pub some : 0 < length first
  pub joined : packet ≡ first ++ concat others

-- each PES packet in payloads of its own
abbrev pub CarryAll : List (List ℕ) → List (List Payload) → Type 0
CarryAll [] [] = Unit {0}
CarryAll [] (_ ∷ _) = ⊥
CarryAll (_ ∷ _) [] = ⊥
CarryAll (packet ∷ packets) (payloads ∷ more) = Carries packet payloads × CarryAll packets more
