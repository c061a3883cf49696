-- Carries and weights computed at worked examples.
use Rattle.std.proofs.Common.{◌≡◌, ℕ, List, [], ◌∷◌, None, refl, arith}
use Rattle.program_reader.specs.declared.program.UnitSource.{UnitSource}
use Rattle.program_reader.specs.declared.timed_picture.Role.{Role}
use Rattle.program_reader.specs.declared.timed_picture.Role.TheVariants.{Frame, FirstField, SecondField}
use Rattle.program_reader.specs.Carry.{carry, p_frames, unit_weight}

abbrev unit : (kind : ℕ) → Role → UnitSource
unit kind role = record { begin = 0; end = 0; times = record { pts = None; dts = None }; due = 0; kind = kind; role = role }

abbrev i : UnitSource
i = unit 1 Frame

abbrev p : UnitSource
p = unit 2 Frame

abbrev b : UnitSource
b = unit 3 Frame

-- ---- groups of pictures in the order of the stream: I B B P B B P B B, then I B B P to the end

abbrev second_group : List UnitSource
second_group = i ∷ b ∷ b ∷ p ∷ []

abbrev groups : List UnitSource
groups = b ∷ b ∷ p ∷ b ∷ b ∷ p ∷ b ∷ b ∷ second_group

-- two P frames carry the first I on, one the first P, and none the second P: the P behind the next I isn't counted
in_group : (p_frames groups ≡ 2) × (p_frames (b ∷ b ∷ p ∷ b ∷ b ∷ second_group) ≡ 1) × (p_frames (b ∷ b ∷ second_group) ≡ 0)
in_group = (refl, refl, refl)

-- so with a drift of 6 they count 20, 14 and 8 fourths, a B picture 4 of them, and the last group, which has no I behind it, 14, 4 and 8
carries : (carry 6 i groups ≡ 20) × (carry 6 p (b ∷ b ∷ p ∷ b ∷ b ∷ second_group) ≡ 14) × (carry 6 p (b ∷ b ∷ second_group) ≡ 8)
    × (carry 6 b (p ∷ b ∷ b ∷ second_group) ≡ 4) × (carry 6 i (b ∷ b ∷ p ∷ []) ≡ 14) × (carry 6 b (p ∷ []) ≡ 4) × (carry 6 p [] ≡ 8)
carries = (refl, refl, refl, refl, refl, refl, refl)

not_b_too : p_frames groups ≡ 6 → ⊥
not_b_too same = let is : 2 ≡ 6 = same in omega (arith, is)

not_the_next_group : p_frames groups ≡ 3 → ⊥
not_the_next_group same = let is : 2 ≡ 3 = same in omega (arith, is)

-- ---- pairs of fields: a pair counts once, by its first field

abbrev first : (kind : ℕ) → UnitSource
first kind = unit kind FirstField

abbrev second : (kind : ℕ) → UnitSource
second kind = unit kind SecondField

-- an I field with a P field, which carries nothing of its own on, a pair of B fields, two pairs of P fields, and a pair that an I field begins
abbrev pairs : List UnitSource
pairs = second 2 ∷ first 3 ∷ second 3 ∷ first 2 ∷ second 2 ∷ first 2 ∷ second 2 ∷ first 1 ∷ second 2 ∷ first 2 ∷ second 2 ∷ []

-- both fields of the first pair have the two P pairs behind it
both_fields : (p_frames pairs ≡ 2) × (p_frames (first 3 ∷ second 3 ∷ first 2 ∷ second 2 ∷ first 2 ∷ second 2 ∷ first 1 ∷ second 2 ∷ []) ≡ 2)
    × (carry 6 (first 1) pairs ≡ 20) × (carry 6 (second 2) (first 3 ∷ second 3 ∷ first 2 ∷ second 2 ∷ first 2 ∷ second 2 ∷ first 1 ∷ second 2 ∷ []) ≡ 20)
both_fields = (refl, refl, refl, refl)

-- not three, as if the second field of the first pair counted by its own type
not_its_own_type : p_frames pairs ≡ 3 → ⊥
not_its_own_type same = let is : 2 ≡ 3 = same in omega (arith, is)

-- nor does a second field with an I picture end the group of its pair
second_i : p_frames (first 2 ∷ second 1 ∷ p ∷ []) ≡ 2
second_i = refl

-- a field whose pair isn't complete counts as its pair
open_pair : (p_frames (p ∷ first 2 ∷ []) ≡ 2) × (carry 1 (first 2) [] ≡ 8)
open_pair = (refl, refl)

-- ---- more than twelve

abbrev twelve : List UnitSource
twelve = p ∷ b ∷ p ∷ p ∷ p ∷ p ∷ p ∷ b ∷ p ∷ p ∷ p ∷ p ∷ p ∷ p ∷ []

no_more : (p_frames twelve ≡ 12) × (p_frames (p ∷ twelve) ≡ 13) × (carry 6 i twelve ≡ 80) × (carry 6 i (p ∷ twelve) ≡ 80) × (carry 16 p (p ∷ p ∷ twelve) ≡ 200)
no_more = (refl, refl, refl, refl, refl)

-- ---- weights

-- without drift the weight alone, whatever the picture; with it the weight times the carry
weights : (unit_weight 3 0 i groups ≡ 3) × (unit_weight 3 0 b groups ≡ 3) × (unit_weight 3 6 i groups ≡ 60) × (unit_weight 3 6 b groups ≡ 12)
    × (unit_weight 100 16 p twelve ≡ 20000)
weights = (refl, refl, refl, refl, refl)
