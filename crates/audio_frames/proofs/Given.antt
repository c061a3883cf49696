-- Which packet a place is in, and the time that its frame is given.
use Rattle.std.proofs.Common.{
  ◌≡◌,
  ℕ,
  zero,
  suc,
  ◌+◌,
  ◌-◌,
  ◌<◌,
  ◌≤◌,
  ◌==◌,
  nat_lt,
  nat_le,
  true,
  false,
  List,
  [],
  ◌∷◌,
  length,
  map,
  filter,
  take,
  get_or,
  Option,
  Some,
  None,
  refl,
  sym,
  ap,
  subst,
  ◌∙◌,
  arith,
  inl,
  inr,
}
use Rattle.std.specs.Prelude.{slice_index}
use Rattle.std.specs.List.{last_or}
use Rattle.std.specs.List.Sorted.{IsStrictlyIncreasing}
use Rattle.std.proofs.lemmas.List.{get_or-map}
use Rattle.std.proofs.lemmas.Bool.{le-leb, lt-leb, lt-ltb, le-ltb, ne_eqb, cases_lt}
use Rattle.audio_frames.specs.declared.pes_start.PesStart.{PesStart}
use Rattle.audio_frames.specs.Times.{pes_packet_of, given_time}
use Rattle.audio_frames.specs.Private.Packets.{start_of, time_of, time_between, IsCountUpTo}

-- places that rise, from one to a later one
rises : (xs : List ℕ) → IsStrictlyIncreasing xs → (n k : ℕ) → k + n < length xs → slice_index xs k ≤ slice_index xs (k + n)
rises xs up zero k lt = (let same : k + 0 ≡ k = omega arith in subst (λ (j : ℕ). slice_index xs k ≤ slice_index xs j) (sym same) (omega arith))
rises xs up (suc n) k lt =
    let next : k + suc n ≡ (k + n) + 1 = omega arith in
    let step : slice_index xs (k + n) < slice_index xs ((k + n) + 1) = up (k + n) (omega arith) in
    subst (λ (j : ℕ). slice_index xs k ≤ slice_index xs j) (sym next) (omega (arith, step, rises xs up n k (omega arith)))

-- where one of the packets begins behind a place, so do all later ones
pub all_behind : (starts : List PesStart) (at count : ℕ) → IsStrictlyIncreasing (map (λ start. start.at) starts)
    → length (map (λ (start : PesStart). start.at) starts) ≡ length starts → at < start_of starts count → (k : ℕ) → count ≤ k → k < length starts
    → at < start_of starts k
all_behind starts at count up same behind k from lt =
    let sum : count + (k - count) ≡ k = omega arith in
    let le : start_of starts count ≤ start_of starts k = subst (λ (j : ℕ). start_of starts count ≤ start_of starts j) sum
    (rises (map (λ (start : PesStart). start.at) starts) up (k - count) count (omega (arith, same))) in
    omega (arith, le, behind)

-- the packets that begin at a place or before are the first ones
first_packets : (starts : List PesStart) (at count : ℕ) → count ≤ length starts → ((k : ℕ) → k < count → start_of starts k ≤ at)
    → ((k : ℕ) → count ≤ k → k < length starts → at < start_of starts k)
    → filter (λ (start : PesStart). nat_le start.at at) starts ≡ take count starts
first_packets [] at zero within before behind = refl
first_packets [] at (suc count) within before behind = absurd (omega arith)
first_packets (start ∷ starts) at zero within before behind =
    let late : nat_le start.at at ≡ false = lt-leb _ _ (behind 0 (omega arith) (omega arith)) in
    rw late (first_packets starts at 0 (omega arith) (λ k lt. absurd (omega arith)) (λ k from lt. behind (suc k) (omega arith) (omega arith)))
first_packets (start ∷ starts) at (suc count) within before behind =
    let early : nat_le start.at at ≡ true = le-leb _ _ (before 0 (omega arith)) in
    rw early (ap (λ (xs : List PesStart). start ∷ xs) (first_packets starts at count (omega arith) (λ k lt. before (suc k) (omega arith)) (λ k from lt. behind (suc k) (omega arith) (omega arith))))

last_taken : (o : Option PesStart) (xs : List PesStart) (n : ℕ) (d : PesStart) → n < length xs → last_or o (take (suc n) xs) ≡ Some (get_or xs n d)
last_taken o [] n d lt = absurd (omega arith)
last_taken o (x ∷ xs) zero d lt = by_rest xs
  where
    by_rest : (xs : List PesStart) → last_or (Some x) (take 0 xs) ≡ Some x
    by_rest [] = refl
    by_rest (y ∷ ys) = refl
last_taken o (x ∷ xs) (suc n) d lt = last_taken (Some x) xs n d (omega arith)

-- the packet of a place
packet_is : (starts : List PesStart) (at n : ℕ) (d : PesStart) → IsCountUpTo starts at (suc n) → pes_packet_of starts at ≡ Some (get_or starts n d)
packet_is starts at n d count =
    ap (last_or None) (first_packets starts at (suc n) count.within count.before count.behind) ∙ last_taken None starts n d (omega (arith, count.within))

-- the k-th frame's given time, by how many packets begin up to it and up to the frame before
pub given_is : (starts : List PesStart) (places : List ℕ) (k from up_to : ℕ) (d : PesStart) → IsCountUpTo starts (slice_index places k) from
    → IsCountUpTo starts (slice_index places (k + 1)) up_to → from ≤ up_to → 0 < from
    → given_time starts places (k + 1) ≡ time_between starts from up_to
given_is starts places k from up_to d before here le some =
    let n = up_to - 1 in
    let count : up_to ≡ suc n = omega arith in
    let packet : pes_packet_of starts (slice_index places (k + 1))
    ≡ Some (get_or starts n d) = packet_is starts (slice_index places (k + 1)) n d
    (subst (IsCountUpTo starts (slice_index places (k + 1))) count here) in
    let start : start_of starts n ≡ (get_or starts n d).at = get_or-map (λ (start : PesStart). start.at) starts n d 0 (omega (arith, here.within)) in
    let time : time_of starts n ≡ (get_or starts n d).time = get_or-map (λ (start : PesStart). start.time) starts n d None (omega (arith, here.within)) in
    let back : (k + 1) - 1 ≡ k = omega arith in
    let later : ((k + 1) == 0) ≡ false = ne_eqb (k + 1) 0 (omega arith) in
    rw (packet, later, back) (elim (cases_lt from up_to) [
      | inl more ↦ (let first : nat_lt (slice_index places k) (get_or starts n d).at ≡ true = lt-ltb _ _ (omega (arith, start, before.behind n (omega arith) (omega (arith, here.within)))) in
          let between : nat_lt from up_to ≡ true = lt-ltb _ _ more in
          rw (first, between) (sym time))
      | inr same ↦ (let other : nat_lt (slice_index places k) (get_or starts n d).at ≡ false = le-ltb _ _ (omega (arith, start, before.before n (omega arith))) in
          let between : nat_lt from up_to ≡ false = le-ltb _ _ same in
          rw (other, between) refl)
    ])

pub first_given : (starts : List PesStart) (places : List ℕ) (n : ℕ) (d : PesStart) → IsCountUpTo starts (slice_index places 0) (suc n) → given_time starts places 0 ≡ (get_or starts n d).time
first_given starts places n d count = rw (packet_is starts (slice_index places 0) n d count) refl
