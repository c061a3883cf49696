-- One more coefficient of a block.
use mir.Val.{bool_byte}
use Rattle.std.proofs.Common.{
  ◌≡◌,
  ℕ,
  ◌+◌,
  ◌<◌,
  ◌≤◌,
  Bool,
  ℤ,
  length-append,
  unsigned_abs,
  ◌^◌,
  ◌⊎◌,
  w16,
  to_z,
  of_z,
  List,
  [],
  ◌∷◌,
  ◌++◌,
  true,
  false,
  refl,
  sym,
  ◌∙◌,
  ap,
  subst,
  inl,
  inr,
  arith,
  length,
  drop,
  get_or,
  append_assoc,
  drop-cons,
  add-one,
  append-nil,
}
use Rattle.std.specs.Prelude.{◌==◌, if◌then◌else◌}
use Rattle.std.proofs.lemmas.Bool.{cases_Bool}
use Rattle.std.proofs.lemmas.Int.{to_z-of_z, fits_signed_from_abs}
use Rattle.std.proofs.lemmas.List.{drop_all}
use Rattle.syntax_types.specs.declared.block.RunLevel.{RunLevel}
use Rattle.requantiser.specs.Private.Shapes.{FitBlock}
use Rattle.requantiser.specs.Private.Walk.{coarsened_pairs, kept_pair, zeros_behind}

module _ (new : ℕ → ℤ → ℤ) where
  -- the first coefficient, then the others
  pub coarsened_pairs-cons : (place waiting : ℕ) (pair : RunLevel) (pairs : List RunLevel)
      → kept_pair (waiting + pair.run) (new (place + pair.run) pair.level)
      ++ coarsened_pairs new (place + pair.run + 1) (zeros_behind (waiting + pair.run) (new (place + pair.run) pair.level)) pairs
      ≡ coarsened_pairs new place waiting (pair ∷ pairs)
  coarsened_pairs-cons place waiting pair pairs = by_level (cases_Bool (unsigned_abs (new (place + pair.run) pair.level) == 0))
    where
      by_level : (unsigned_abs (new (place + pair.run) pair.level) == 0 ≡ true) ⊎ (unsigned_abs (new (place + pair.run) pair.level) == 0 ≡ false)
          → kept_pair (waiting + pair.run) (new (place + pair.run) pair.level)
          ++ coarsened_pairs new (place + pair.run + 1) (zeros_behind (waiting + pair.run) (new (place + pair.run) pair.level)) pairs
          ≡ coarsened_pairs new place waiting (pair ∷ pairs)
      by_level (inl gone) = rw (gone, kept_pair, zeros_behind, coarsened_pairs) (ap (λ zeros. coarsened_pairs new (place + pair.run + 1) zeros pairs) (omega arith))
      by_level (inr stays) = rw (stays, kept_pair, zeros_behind, coarsened_pairs) refl

  pub one_pair : (place waiting index : ℕ) (pairs done all : List RunLevel) (d : RunLevel) → index < length pairs
      → done ++ coarsened_pairs new place waiting (drop index pairs) ≡ all
      → let pair : RunLevel = get_or pairs index d in
      (done ++ kept_pair (waiting + pair.run) (new (place + pair.run) pair.level))
      ++ coarsened_pairs new (place + pair.run + 1) (zeros_behind (waiting + pair.run) (new (place + pair.run) pair.level)) (drop (index + 1) pairs)
      ≡ all
  one_pair place waiting index pairs done all d within rest =
      let pair : RunLevel = get_or pairs index d in
      let cut : drop index pairs ≡ pair ∷ drop (index + 1) pairs = rw (add-one, drop-cons pairs index d) refl in
      append_assoc done _ _
      ∙ ap (λ xs. done ++ xs) (coarsened_pairs-cons place waiting pair (drop (index + 1) pairs) ∙ ap (coarsened_pairs new place waiting) (sym cut))
      ∙ rest

pub one_fits : (place index : ℕ) (pairs : List RunLevel) (d : RunLevel) → index < length pairs → FitBlock place (drop index pairs)
    → let pair : RunLevel = get_or pairs index d in
    (place + pair.run < 64) × (unsigned_abs pair.level < 2 ^ 11) × FitBlock (place + pair.run + 1) (drop (index + 1) pairs)
one_fits place index pairs d within fit =
    let pair : RunLevel = get_or pairs index d in
    let cut : drop index pairs ≡ pair ∷ drop (index + 1) pairs = rw (add-one, drop-cons pairs index d) refl in
    subst (FitBlock place) cut fit

-- behind the last coefficient nothing more comes
pub only_done : (new : ℕ → ℤ → ℤ) (place waiting index : ℕ) (pairs done all : List RunLevel) → length pairs ≤ index
    → done ++ coarsened_pairs new place waiting (drop index pairs) ≡ all → done ≡ all
only_done new place waiting index pairs done all past rest =
    sym (append-nil done) ∙ ap (λ xs. done ++ coarsened_pairs new place waiting xs) (sym (drop_all index pairs past)) ∙ rest

-- at most one coefficient is kept
pub length-kept_pair : (done : List RunLevel) (zeros : ℕ) (level : ℤ) → length (done ++ kept_pair zeros level) ≤ length done + 1
length-kept_pair done zeros level = by_level (cases_Bool (unsigned_abs level == 0))
  where
    by_level : (unsigned_abs level == 0 ≡ true) ⊎ (unsigned_abs level == 0 ≡ false) → length (done ++ kept_pair zeros level) ≤ length done + 1
    by_level (inl gone) = rw (gone, kept_pair) (omega (arith, length-append done []))
    by_level (inr stays) = rw (stays, kept_pair) (omega (arith, length-append done (record { run = zeros; level = level } ∷ [])))

pub zeros_behind-most : (zeros : ℕ) (level : ℤ) → zeros_behind zeros level ≤ zeros + 1
zeros_behind-most zeros level = by_level (cases_Bool (unsigned_abs level == 0))
  where
    by_level : (unsigned_abs level == 0 ≡ true) ⊎ (unsigned_abs level == 0 ≡ false) → zeros_behind zeros level ≤ zeros + 1
    by_level (inl gone) = rw (gone, zeros_behind) (omega arith)
    by_level (inr stays) = rw (stays, zeros_behind) (omega arith)

-- the first place as the code has it
pub first_place-flag : (intra : Bool) → bool_byte intra ≡ (if intra then 1 else 0)
first_place-flag true = refl
first_place-flag false = refl

pub first_place-most : (intra : Bool) → (if intra then 1 else 0) ≤ 1
first_place-most true = omega arith
first_place-most false = omega arith

-- a level as the code has it
pub held_level : (level : ℤ) → unsigned_abs level < 2 ^ 11 → to_z w16 (of_z w16 level) ≡ level
held_level level small = to_z-of_z w16 level (fits_signed_from_abs w16 level (omega arith))
