-- The definitions computed at worked examples.
use Rattle.std.proofs.Common.{◌≡◌, ℕ, List, [], ◌∷◌, map, None, refl}
use Rattle.version_maker.specs.declared.version.VersionSize.{VersionSize}
use Rattle.program_reader.specs.declared.program.UnitSource.{UnitSource}
use Rattle.program_reader.specs.declared.timed_picture.Role.TheVariants.{Frame}
use Rattle.program_reader.specs.declared.unit_sizes.UnitSizes.{UnitSizes}
use Rattle.job_programs.specs.Distortions.{greatest_weighed, weighed_together}
use Rattle.job_programs.specs.Programs.{last_time}

-- ---- times: by the slots up to 1,199 ticks a slot, and from 1,200 on by the round of the clock

last_times : (last_time 1016 ≡ 2181843386368) × (last_time 1199 ≡ 2574832893952) × (last_time 1200 ≡ 2576980377599) × (last_time 40000 ≡ 2576980377599)
last_times = (refl, refl, refl, refl)

-- ---- distortions

-- a frame picture of this type: 1 of an I, 2 of a P, 3 of a B picture
abbrev frame_of : ℕ → UnitSource
frame_of kind = record { begin = 0; end = 0; times = record { pts = None; dts = None }; due = 0; kind = kind; role = Frame }

-- versions with these distortions
abbrev sizes_of : List ℕ → UnitSizes
sizes_of distortions = record { versions = record { items = map (λ (n : ℕ). let size : VersionSize = record { bytes = 1; distortion = n } in size) distortions } }

-- at weight 2 the greatest of 0, 9 and 5 counts 18, and with a unit of 7 behind it all count 32
together : (greatest_weighed 2 (sizes_of (0 ∷ 9 ∷ 5 ∷ [])) ≡ 18)
    × (weighed_together 2 0 (frame_of 1 ∷ frame_of 2 ∷ []) (sizes_of (0 ∷ 9 ∷ 5 ∷ []) ∷ sizes_of (7 ∷ []) ∷ []) ≡ 32)
together = (refl, refl)

-- with a drift of 6 the I picture before one P picture weighs 2 * 14, and the P picture 2 * 8
together_drifting : weighed_together 2 6 (frame_of 1 ∷ frame_of 2 ∷ []) (sizes_of (0 ∷ 9 ∷ 5 ∷ []) ∷ sizes_of (7 ∷ []) ∷ []) ≡ 364
together_drifting = refl
