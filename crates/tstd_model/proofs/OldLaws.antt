-- Which byte is held past the limit, found by walking over bytes and the instants at which they are taken.
use Rattle.std.proofs.Common.{◌≡◌, ℕ, zero, suc, ◌+◌, ◌<◌, ◌≤◌, List, [], ◌∷◌, drop, refl, sym, ◌∙◌, arith, inl, inr, true, false, Option, Some, None, slice_get}
use Rattle.std.proofs.lemmas.Bool.{cases_Bool, ltb-true, ltb-false, cond-true, cond-false}
use Rattle.std.proofs.lemmas.Option.{same_Some}
use Rattle.tstd_model.specs.PacketBytes.{PacketPart, Overhead, PesHeader, Data}
use Rattle.tstd_model.specs.Private.Scans.{is_held, first_old}
use Rattle.tstd_model.specs.Private.Server.{Spaced}

-- the byte of this place is data that is held past the limit
pub record IsHeld (limit : ℕ) (parts : List PacketPart) (comes removed : List ℕ) (byte arrival : ℕ) : Type 0 where
  pub is_data : slice_get parts byte ≡ Some Data
  pub arrives : slice_get comes byte ≡ Some arrival
  pub stays : (instant : ℕ) → slice_get removed byte ≡ Some instant → arrival + limit < instant

-- what is found is the first instant past the limit
abbrev pub IsFirstHeld : (limit : ℕ) → List PacketPart → (comes removed : List ℕ) → Option ℕ → Type 0
IsFirstHeld limit parts comes removed None = (byte arrival : ℕ) → IsHeld limit parts comes removed byte arrival → ⊥
IsFirstHeld limit parts comes removed (Some at) =
    ((byte : ℕ) × (arrival : ℕ) × IsHeld limit parts comes removed byte arrival × (at ≡ arrival + limit + 1))
    × ((byte arrival : ℕ) → IsHeld limit parts comes removed byte arrival → at ≤ arrival + limit + 1)

rest_get : (removed : List ℕ) (byte : ℕ) → slice_get (drop 1 removed) byte ≡ slice_get removed (suc byte)
rest_get [] byte = refl
rest_get (instant ∷ removed) byte = refl

held-later : (limit : ℕ) (part : PacketPart) (parts : List PacketPart) (come : ℕ) (comes removed : List ℕ) (byte arrival : ℕ)
    → IsHeld limit parts comes (drop 1 removed) byte arrival → IsHeld limit (part ∷ parts) (come ∷ comes) removed (suc byte) arrival
held-later limit part parts come comes removed byte arrival held = record {
  is_data = held.is_data;
  arrives = held.arrives;
  stays = λ instant there. held.stays instant (rest_get removed byte ∙ there);
}

held-rest : (limit : ℕ) (part : PacketPart) (parts : List PacketPart) (come : ℕ) (comes removed : List ℕ) (byte arrival : ℕ)
    → IsHeld limit (part ∷ parts) (come ∷ comes) removed (suc byte) arrival → IsHeld limit parts comes (drop 1 removed) byte arrival
held-rest limit part parts come comes removed byte arrival held = record {
  is_data = held.is_data;
  arrives = held.arrives;
  stays = λ instant there. held.stays instant (sym (rest_get removed byte) ∙ there);
}

held-here : (limit : ℕ) (part : PacketPart) (parts : List PacketPart) (arrival : ℕ) (comes removed : List ℕ)
    → is_held limit part arrival removed ≡ true → IsHeld limit (part ∷ parts) (arrival ∷ comes) removed zero arrival
unfolding is_held
held-here limit Data parts arrival comes [] holds = record { is_data = refl; arrives = refl; stays = λ instant there. cc }
held-here limit Data parts arrival comes (first ∷ removed) holds = record {
  is_data = refl;
  arrives = refl;
  stays = λ instant there. omega (arith, ltb-true (arrival + limit) first holds, same_Some first instant there);
}
held-here limit PesHeader parts arrival comes removed holds = cc
held-here limit Overhead parts arrival comes removed holds = cc

not_held-here : (limit : ℕ) (part : PacketPart) (parts : List PacketPart) (come : ℕ) (comes removed : List ℕ) (arrival : ℕ)
    → is_held limit part come removed ≡ false → IsHeld limit (part ∷ parts) (come ∷ comes) removed zero arrival → ⊥
unfolding is_held
not_held-here limit Data parts come comes [] arrival fails held = cc
not_held-here limit Data parts come comes (first ∷ removed) arrival fails held =
    omega (arith, ltb-false (come + limit) first fails, same_Some come arrival held.arrives, held.stays first refl)
not_held-here limit PesHeader parts come comes removed arrival fails held = let e = held.is_data in cc
not_held-here limit Overhead parts come comes removed arrival fails held = let e = held.is_data in cc

-- of instants that don't fall, each is at least the first
rises-get : (low : ℕ) (instants : List ℕ) (k instant : ℕ) → Spaced 0 low instants → slice_get instants k ≡ Some instant → low ≤ instant
rises-get low [] k instant rise there = absurd (let e : None ≡ Some instant = there in cc)
rises-get low (x ∷ instants) zero instant rise there = omega (arith, rise.0, same_Some x instant there)
rises-get low (x ∷ instants) (suc k) instant rise there = omega (arith, rise.0, rises-get x instants k instant rise.1 there)

held-passes : (limit : ℕ) (part : PacketPart) (parts : List PacketPart) (come : ℕ) (comes removed : List ℕ) (found : Option ℕ)
    → is_held limit part come removed ≡ false → IsFirstHeld limit parts comes (drop 1 removed) found → IsFirstHeld limit (part ∷ parts) (come ∷ comes) removed found
held-passes limit part parts come comes removed None fails is = held_none
  where
    held_none : (byte arrival : ℕ) → IsHeld limit (part ∷ parts) (come ∷ comes) removed byte arrival → ⊥
    held_none zero arrival held = not_held-here limit part parts come comes removed arrival fails held
    held_none (suc byte) arrival held = is byte arrival (held-rest limit part parts come comes removed byte arrival held)
held-passes limit part parts come comes removed (Some at) fails is =
    ((suc is.0.0, is.0.1, held-later limit part parts come comes removed is.0.0 is.0.1 is.0.2, is.0.3), held_least)
  where
    held_least : (byte arrival : ℕ) → IsHeld limit (part ∷ parts) (come ∷ comes) removed byte arrival → at ≤ arrival + limit + 1
    held_least zero arrival held = absurd (not_held-here limit part parts come comes removed arrival fails held)
    held_least (suc byte) arrival held = is.1 byte arrival (held-rest limit part parts come comes removed byte arrival held)

-- the walk finds the first instant past the limit
pub first_old-is : (limit before : ℕ) (parts : List PacketPart) (comes removed : List ℕ) → Spaced 0 before comes → IsFirstHeld limit parts comes removed (first_old limit parts comes removed)
unfolding first_old
first_old-is limit before [] comes removed rise = λ byte arrival held. let e = held.is_data in cc
first_old-is limit before (part ∷ parts) [] removed rise = λ byte arrival held. let e = held.arrives in cc
first_old-is limit before (part ∷ parts) (come ∷ comes) removed rise = elim (cases_Bool (is_held limit part come removed)) [
  | inl holds ↦
      rw (cond-true (is_held limit part come removed) (Some (come + limit + 1)) (first_old limit parts comes (drop 1 removed)) holds) (
        (zero, come, held-here limit part parts come comes removed holds, refl),
        λ byte arrival held. omega (arith, rises-get come (come ∷ comes) byte arrival (omega arith, rise.1) held.arrives),
      )
  | inr fails ↦
      rw (cond-false (is_held limit part come removed) (Some (come + limit + 1)) (first_old limit parts comes (drop 1 removed)) fails)
      (held-passes limit part parts come comes removed (first_old limit parts comes (drop 1 removed)) fails (first_old-is limit come parts comes (drop 1 removed) rise.1))
]
