-- Where no more bytes would have moved than EB has room for, MB never waits for EB.
use Rattle.std.proofs.Common.{◌≡◌, ℕ, zero, suc, ◌+◌, ◌≤◌, List, [], ◌∷◌, ◌++◌, replicate, max, refl, ap, inl, inr, arith}
use Rattle.std.proofs.lemmas.Bool.{cases_lt}
use Rattle.tstd_model.specs.Instants.{departures, departures_into, came}
use Rattle.tstd_model.specs.Private.Server.{Spaced}
use Rattle.tstd_model.proofs.Counts.{came-yes, came-no, came_none, came-one_more}

-- there is room for each byte when it moves
abbrev pub HaveRoom : (rooms moves : List ℕ) → Type 0
HaveRoom rooms [] = Unit {0}
HaveRoom [] (move ∷ moves) = ⊥
HaveRoom (room ∷ rooms) (move ∷ moves) = (room ≤ move) × HaveRoom rooms moves

pub departures_into-room : (s l : ℕ) (rooms comes : List ℕ) → HaveRoom rooms (departures s l comes) → departures_into rooms s l comes ≡ departures s l comes
unfolding departures departures_into
departures_into-room s l rooms [] room = refl
departures_into-room s l [] (come ∷ comes) room = absurd room
departures_into-room s l (r ∷ rooms) (come ∷ comes) room =
    let same : max (max come l + s) r ≡ max come l + s = omega (arith, room.0) in
    rw same (ap (λ (later : List ℕ). (max come l + s) ∷ later) (departures_into-room s (max come l + s) rooms comes room.1))

pub have_room : (size low low' : ℕ) (taken moves : List ℕ) → Spaced 0 low moves → Spaced 0 low' taken → ((x : ℕ) → came x moves ≤ size + came x taken)
    → HaveRoom (replicate size 0 ++ taken) moves
have_room size low low' taken [] rise rise' few = tt
have_room zero low low' [] (m ∷ moves) rise rise' few = absurd (omega (arith, few m, came-yes m m moves (omega arith)))
have_room zero low low' (t ∷ taken) (m ∷ moves) rise rise' few = (first, have_room zero m t taken moves rise.1 rise'.1 rest)
  where
    first : t ≤ m
    first = elim (cases_lt m t) as (λ _. t ≤ m) [
      | inl after ↦ absurd (omega (arith, few m, came-yes m m moves (omega arith), came-no m t taken after, came_none m t taken after rise'.1))
      | inr has ↦ has
    ]

    rest : (x : ℕ) → came x moves ≤ 0 + came x taken
    rest x = elim (cases_lt x m) as (λ _. came x moves ≤ 0 + came x taken) [
      | inl after ↦ omega (arith, came_none x m moves after rise.1)
      | inr has ↦ omega (arith, few x, came-yes x m moves has, came-one_more x t taken)
    ]
have_room (suc size) low low' taken (m ∷ moves) rise rise' few = (omega arith, have_room size m low' taken moves rise.1 rise' rest)
  where
    rest : (x : ℕ) → came x moves ≤ size + came x taken
    rest x = elim (cases_lt x m) as (λ _. came x moves ≤ size + came x taken) [
      | inl after ↦ omega (arith, came_none x m moves after rise.1)
      | inr has ↦ omega (arith, few x, came-yes x m moves has)
    ]
