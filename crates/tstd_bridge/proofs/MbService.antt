-- A packet's payload that passes a fast server on to a slower one: when the slower one is free again.
use Rattle.std.proofs.Common.{◌≡◌, ℕ, zero, suc, ◌+◌, ◌*◌, ◌<◌, ◌≤◌, ◌⊎◌, Bool, true, false, List, [], ◌∷◌, length, max, le_refl, refl, inl, inr, arith}
use Rattle.std.proofs.lemmas.Bool.{cases_Bool, cases_lt}
use Rattle.std.proofs.lemmas.Nat.{mul-le}
use Rattle.tstd_model.specs.declared.decoder_input.PacketPart.{PacketPart}
use Rattle.tstd_model.specs.Instants.{spaced, departures, came}
use Rattle.tstd_model.specs.PacketBytes.{kept}
use Rattle.tstd_model.specs.Private.Server.{last_departure, latest_work, EachAtMost}
use Rattle.tstd_model.proofs.Counts.{came-yes}
use Rattle.tstd_model.proofs.Server.{last_departure-is}

-- where the fast server stands: busy since before the packet, or free when the next byte comes
abbrev pub IsServed : (t l come step count busy end : ℕ) → Type 0
IsServed t l come step count busy end =
    ((l + t * count ≤ busy) ⊎ (l ≤ come)) × (step < t → come + t * count ≤ busy) × (come + step * count ≤ end)

served-next : (t l come step count busy end : ℕ) → IsServed t l come step (suc count) busy end → IsServed t (max come l + t) (come + step) step count busy end
served-next t l come step count busy end (where_l, fast, ends) = (next, λ quick. (let f : come + t * suc count ≤ busy = fast quick in omega arith), omega arith)
  where
    next : (max come l + t + t * count ≤ busy) ⊎ (max come l + t ≤ come + step)
    next = elim (cases_lt come l) as (λ _. (max come l + t + t * count ≤ busy) ⊎ (max come l + t ≤ come + step)) [
      | inl after ↦ elim where_l [
        | inl under ↦ inl (omega arith)
        | inr free ↦ absurd (omega arith)
      ]
      | inr waits ↦ elim (cases_lt step t) [
        | inl quick ↦ (let f : come + t * suc count ≤ busy = fast quick in inl (omega arith))
        | inr slow ↦ inr (omega arith)
      ]
    ]

-- the next byte leaves by the busy time, or soon after the end
served-here : (t l come step count busy end : ℕ) → IsServed t l come step (suc count) busy end → (max come l + t ≤ busy) ⊎ (max come l + t ≤ end + t)
served-here t l come step count busy end (where_l, fast, ends) = elim (cases_lt come l) as (λ _. (max come l + t ≤ busy) ⊎ (max come l + t ≤ end + t)) [
  | inl after ↦ elim where_l [
    | inl under ↦ inl (omega arith)
    | inr free ↦ absurd (omega arith)
  ]
  | inr waits ↦ inr (omega arith)
]

work_here : (q x rest payload t busy end most : ℕ) → suc rest ≤ payload → busy + q * payload ≤ most → end + t + q * payload ≤ most → (x ≤ busy) ⊎ (x ≤ end + t) → x + q * suc rest ≤ most
work_here q x rest payload t busy end most few under soon at =
    let work : q * suc rest ≤ q * payload = mul-le q (suc rest) q payload (le_refl q) few in
    elim at [
      | inl h ↦ omega (arith, work)
      | inr h ↦ omega (arith, work)
    ]

-- the work that the payload brings is done by an instant
pub latest_work-kept : (test : PacketPart → Bool) (parts : List PacketPart) (q t l come step count busy end payload most : ℕ) → IsServed t l come step count busy end
    → length (kept test parts (departures t l (spaced come step count))) ≤ payload → busy + q * payload ≤ most → end + t + q * payload ≤ most
    → latest_work q (kept test parts (departures t l (spaced come step count))) ≤ most
unfolding kept departures spaced latest_work
latest_work-kept test [] q t l come step count busy end payload most served few under soon = omega arith
latest_work-kept test (part ∷ parts) q t l come step zero busy end payload most served few under soon = omega arith
latest_work-kept test (part ∷ parts) q t l come step (suc count) busy end payload most served few under soon =
    let x = max come l + t in
    let later = kept test parts (departures t x (spaced (come + step) step count)) in
    let next : IsServed t (max come l + t) (come + step) step count busy end = served-next t l come step count busy end served in
    elim (cases_Bool (test part))
    as (λ _. latest_work q (kept test (part ∷ parts) (departures t l (spaced come step (suc count)))) ≤ most) [
      | inl passes ↦
          (let few' : suc (length (kept test parts (departures t (max come l + t) (spaced (come + step) step count)))) ≤ payload = few_kept passes few in
          rw passes
          (omega (
            arith,
            work_here q (max come l + t) (length (kept test parts (departures t (max come l + t) (spaced (come + step) step count)))) payload t busy
                end most few' under soon (served-here t l come step count busy end served),
            latest_work-kept test parts q t (max come l + t) (come + step) step count busy end payload most next (omega (arith, few')) under soon,
          )))
      | inr fails ↦ rw fails (latest_work-kept test parts q t (max come l + t) (come + step) step count busy end payload most next (few_dropped fails few) under soon)
    ]
  where
    few_kept : test part ≡ true → length (kept test (part ∷ parts) (departures t l (spaced come step (suc count)))) ≤ payload
        → suc (length (kept test parts (departures t (max come l + t) (spaced (come + step) step count)))) ≤ payload
    few_kept passes few = rw passes at few

    few_dropped : test part ≡ false → length (kept test (part ∷ parts) (departures t l (spaced come step (suc count)))) ≤ payload
        → length (kept test parts (departures t (max come l + t) (spaced (come + step) step count))) ≤ payload
    few_dropped fails few = rw fails at few

-- the slower server is free by an instant
pub last_departure-kept : (test : PacketPart → Bool) (parts : List PacketPart) (q free t l come step count busy end payload most : ℕ) → IsServed t l come step count busy end
    → length (kept test parts (departures t l (spaced come step count))) ≡ payload → free + q * payload ≤ most → busy + q * payload ≤ most → end + t + q * payload ≤ most
    → last_departure q free (kept test parts (departures t l (spaced come step count))) ≤ most
last_departure-kept test parts q free t l come step count busy end payload most served as_many own under soon =
    let closed : last_departure q free (kept test parts (departures t l (spaced come step count)))
    ≡ max (free + q * payload) (latest_work q (kept test parts (departures t l (spaced come step count)))) =
    rw (last_departure-is q free (kept test parts (departures t l (spaced come step count))), as_many) refl in
    omega (arith, closed, own, latest_work-kept test parts q t l come step count busy end payload most served (omega (arith, as_many)) under soon)

-- all have come by an instant that none is after
pub came-all : (x most : ℕ) (instants : List ℕ) → EachAtMost most instants → most ≤ x → came x instants ≡ length instants
came-all x most [] each le = refl
came-all x most (instant ∷ later) each le = omega (arith, came-yes x instant later (omega (arith, each.0)), came-all x most later each.1 le)
