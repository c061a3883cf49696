-- The earliest of some times, and what is due behind it.
use Rattle.std.proofs.Common.{◌≡◌, ℕ, ◌+◌, ◌/◌, ◌<◌, List, [], ◌∷◌, ◌++◌, length, map, take, get_or, Contains, sym, ap, ◌∙◌, subst, inl, inr, arith, ℤ, pos, negsuc, neg_ℤ, ◌+ℤ◌, ◌-ℤ◌, ◌*ℤ◌, ◌≤ℤ◌, ◌<ℤ◌}
use Rattle.std.specs.Int.{int_rem_euclid}
use lib.IntN.{nat_abs}
use Rattle.std.proofs.lemmas.Int.{ints}
use Rattle.std.proofs.lemmas.List.{take_more, map-append}
use Rattle.std.proofs.lemmas.List.Elements.{All-append, Contains-append_left, Contains-append_right}
use Rattle.program_reader.specs.declared.kept_units.KeptUnit.{KeptUnit}
use Rattle.program_reader.specs.declared.program.UnitSource.{UnitSource}
use Rattle.program_reader.specs.Dues.{Lowers, IsDueUnit, AreDueUnits}
use Rattle.program_reader.specs.Programs.{IsBase}

le_trans : (a b c : ℤ) → a ≤ℤ b → b ≤ℤ c → a ≤ℤ c
le_trans a b c ab bc = omega (arith, ints)

pub lowers_both : (xs ys : List ℤ) (a b c : ℤ) → Lowers xs a b → Lowers ys b c → Lowers (xs ++ ys) a c
lowers_both xs ys a b c one two = record {
  least = All-append (λ (time : ℤ). c ≤ℤ time) xs ys (λ k d lt. le_trans c b _ two.below (one.least k d lt)) two.least;
  below = le_trans c b a two.below one.below;
  stands = elim two.stands [
    | inr there ↦ inr (Contains-append_right xs ys c there)
    | inl same ↦ elim one.stands [
      | inl first ↦ inl (same ∙ first)
      | inr here ↦ inr (Contains-append_left xs ys c (subst (Contains xs) (sym same) here))
    ]
  ];
}

pub lowers_more : {A : Type 0} (time : A → ℤ) (items : List A) (i : ℕ) (d : A) (first before after : ℤ) → i < length items →
    Lowers (map time (take i items)) first before → Lowers (time (get_or items i d) ∷ []) before after → Lowers (map time (take (i + 1) items)) first after
lowers_more time items i d first before after lt so_far step =
    let item = get_or items i d in
    let more : map time (take (i + 1) items) ≡ map time (take i items) ++ time item ∷ [] = ap (map time) (take_more items i d lt) ∙ map-append time (take i items) (item ∷ []) in
    subst (λ (times : List ℤ). Lowers times first after) (sym more) (lowers_both (map time (take i items)) (time item ∷ []) first before after so_far step)

dues_push : (start : ℕ) (earliest : ℤ) (units : List KeptUnit) (sources : List UnitSource) (unit : KeptUnit) (source : UnitSource) → AreDueUnits start earliest units sources →
    IsDueUnit start earliest unit source → AreDueUnits start earliest (units ++ unit ∷ []) (sources ++ source ∷ [])
dues_push start earliest [] [] unit source are is = (is, tt)
dues_push start earliest [] (s ∷ ss) unit source are is = absurd are
dues_push start earliest (u ∷ us) [] unit source are is = absurd are
dues_push start earliest (u ∷ us) (s ∷ ss) unit source are is = (are.0, dues_push start earliest us ss unit source are.1 is)

pub dues_more : (start : ℕ) (earliest : ℤ) (units : List KeptUnit) (i : ℕ) (d : KeptUnit) (old new : List UnitSource) (source : UnitSource) → i < length units →
    AreDueUnits start earliest (take i units) old → IsDueUnit start earliest (get_or units i d) source → new ≡ old ++ source ∷ [] →
    AreDueUnits start earliest (take (i + 1) units) new
dues_more start earliest units i d old new source lt are due pushed =
    let unit = get_or units i d in
    let more : take (i + 1) units ≡ take i units ++ unit ∷ [] = take_more units i d lt in
    subst (λ (ss : List UnitSource). AreDueUnits start earliest (take (i + 1) units) ss) (sym pushed)
    (subst (λ (us : List KeptUnit). AreDueUnits start earliest us (old ++ source ∷ [])) (sym more) (dues_push start earliest (take i units) old unit source are due))

-- the rest of a number behind whole rounds of the clock
pub base_is : (d earliest : ℤ) (start base : ℕ) → d ≡ earliest -ℤ pos start → pos base ≡ int_rem_euclid d (pos 2576980377600) → IsBase start earliest base
base_is (pos a) earliest start base d is = record {
  below = below_pos a base is;
  congruent = (neg_ℤ (pos (a / 2576980377600)), turned a earliest start base d is);
}
  where
    below_pos : (a base : ℕ) → pos base ≡ int_rem_euclid (pos a) (pos 2576980377600) → base < 2576980377600
    below_pos a base is = omega (arith, ints)

    turned : (a : ℕ) (earliest : ℤ) (start base : ℕ) → pos a ≡ earliest -ℤ pos start → pos base ≡ int_rem_euclid (pos a) (pos 2576980377600) →
        pos base ≡ ((earliest -ℤ pos start) +ℤ neg_ℤ (pos (a / 2576980377600)) *ℤ pos 2576980377600)
    turned a earliest start base d is = omega (arith, ints)
base_is (negsuc a) earliest start base d is = record {
  below = below_neg a base is;
  congruent = (pos (a / 2576980377600 + 1), turned a earliest start base d is);
}
  where
    below_neg : (a base : ℕ) → pos base ≡ int_rem_euclid (negsuc a) (pos 2576980377600) → base < 2576980377600
    below_neg a base is = omega (arith, ints)

    turned : (a : ℕ) (earliest : ℤ) (start base : ℕ) → negsuc a ≡ earliest -ℤ pos start → pos base ≡ int_rem_euclid (negsuc a) (pos 2576980377600) →
        pos base ≡ ((earliest -ℤ pos start) +ℤ pos (a / 2576980377600 + 1) *ℤ pos 2576980377600)
    turned a earliest start base d is = omega (arith, ints)

pub base_of : (d earliest rest : ℤ) (start : ℕ) → rest ≡ int_rem_euclid d (pos 2576980377600) → d ≡ earliest -ℤ pos start → IsBase start earliest (nat_abs rest)
base_of d earliest (pos b) start is same = base_is d earliest start b same is
base_of (pos a) earliest (negsuc b) start is same = absurd (never a b is)
  where
    never : (a b : ℕ) → negsuc b ≡ int_rem_euclid (pos a) (pos 2576980377600) → ⊥
    never a b is = omega (arith, ints)
base_of (negsuc a) earliest (negsuc b) start is same = absurd (never a b is)
  where
    never : (a b : ℕ) → negsuc b ≡ int_rem_euclid (negsuc a) (pos 2576980377600) → ⊥
    never a b is = omega (arith, ints)

pub rest_bounds : (d rest : ℤ) → rest ≡ int_rem_euclid d (pos 2576980377600) → (pos 0 ≤ℤ rest) × (rest <ℤ pos 2576980377600)
rest_bounds (pos a) rest is = (omega (arith, ints), omega (arith, ints))
rest_bounds (negsuc a) rest is = (omega (arith, ints), omega (arith, ints))
