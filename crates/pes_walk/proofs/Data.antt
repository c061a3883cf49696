-- The bytes behind headers, one payload further.
use Rattle.std.proofs.Common.{◌≡◌, ℕ, ◌+◌, ◌-◌, ◌<◌, ◌≤◌, min, Bool, true, false, cond, List, [], ◌∷◌, ◌++◌, length, take, drop, Option, Some, None, IsSome, refl, sym, ap, ◌∙◌, inl, inr, arith, append_assoc}
use Rattle.std.specs.Option.{option_map, option_to_list}
use Rattle.std.proofs.Math.Seq.{drop-append-add}
use Rattle.std.proofs.lemmas.Bool.{cases_lt}
use Rattle.std.proofs.lemmas.Grind.{flat_map-append}
use Rattle.std.proofs.lemmas.List.{append-nil, drop_all, drop-append-le, drop-take, length-take}
use Rattle.bit_lists.specs.Payload.{CarriedPayload, is_start}
use Rattle.pes_units.specs.PesHeader.{header_length}
use Rattle.pes_units.specs.PesPackets.{Gathered, gathered}
use Rattle.pes_walk.specs.declared.walk.PesWalk.{PesWalk}
use Rattle.pes_walk.specs.Walk.{begun_in, with_more, HasWalked, packet_data, all_data, kept_data}
use Rattle.pes_walk.proofs.Fronts.{length_same}
use Rattle.pes_walk.proofs.Headers.{header_some, header_few, header_more}
use Rattle.pes_walk.proofs.Walking.{Changes, walked}

-- a packet's bytes go on
more_data : (bytes more : List ℕ) → drop (header_length (bytes ++ more)) (bytes ++ more) ≡ drop (header_length bytes) bytes ++ drop (header_length (bytes ++ more) - length bytes) more
more_data bytes more = elim (cases_lt (length bytes) (header_length bytes)) [
  | inl less ↦ (
      let behind : length bytes ≤ header_length (bytes ++ more) = elim (cases_lt (length bytes) 9) [
        | inl few ↦ omega (arith, few, header_some (bytes ++ more))
        | inr some ↦ omega (arith, less, header_more bytes more some)
      ] in
      let rest : header_length (bytes ++ more) ≡ length bytes + (header_length (bytes ++ more) - length bytes) = omega (arith, behind) in
      ap (λ (n : ℕ). drop n (bytes ++ more)) rest ∙ drop-append-add bytes more (header_length (bytes ++ more) - length bytes)
      ∙ sym (ap (λ (xs : List ℕ). xs ++ drop (header_length (bytes ++ more) - length bytes) more) (drop_all (header_length bytes) bytes (omega (arith, less))))
      )
  | inr whole ↦ (
      let same : header_length (bytes ++ more) ≡ header_length bytes = header_more bytes more (omega (arith, whole, header_some bytes)) in
      let nothing : header_length (bytes ++ more) - length bytes ≡ 0 = omega (arith, same, whole) in
      ap (λ (n : ℕ). drop n (bytes ++ more)) same ∙ drop-append-le (header_length bytes) bytes more whole
      ∙ sym (ap (λ (n : ℕ). drop (header_length bytes) bytes ++ drop n more) nothing)
      )
]

all_push : (closed : List Gathered) (packet : Gathered) → all_data (closed ++ packet ∷ []) ≡ all_data closed ++ packet_data packet
all_push closed packet = flat_map-append packet_data closed (packet ∷ []) ∙ ap (λ (xs : List ℕ). all_data closed ++ xs) (append-nil (packet_data packet))

-- what the code answers
pub record Answered (begun : Option ℕ) (front : List ℕ) (x : CarriedPayload) (new : PesWalk) (brought : List ℕ) : Type 0 where
  pub none : begun ≡ None → brought ≡ []
  pub some : IsSome begun → brought ≡ drop (header_length new.front.items - length front) x.payload.bytes

module _ (most : ℕ) (many : 265 ≤ most) (enough : (bytes : List ℕ) → header_length (take most bytes) ≡ header_length bytes) where
  -- where the front is all that had come, or the header lies before its end
  same_rest : (bytes more : List ℕ) → header_length (take most (bytes ++ more)) - length (take most bytes) ≡ header_length (bytes ++ more) - length bytes
  same_rest bytes more =
      let size : length (take most bytes) ≡ min most (length bytes) = length-take most bytes in
      let few : header_length (bytes ++ more) < 265 = header_few (bytes ++ more) in
      omega (arith, enough (bytes ++ more), size, few, many)

  kept_is : (bytes : List ℕ) → drop (header_length (take most bytes)) (take most bytes) ≡ take (most - header_length bytes) (drop (header_length bytes) bytes)
  kept_is bytes =
      let all : most ≡ header_length bytes + (most - header_length bytes) = omega (arith, header_few bytes, many) in
      ap (λ (n : ℕ). drop n (take most bytes)) (enough bytes)
      ∙ ap (λ (n : ℕ). drop (header_length bytes) (take n bytes)) all
      ∙ drop-take (header_length bytes) (most - header_length bytes) bytes

data_by : (starts : Bool) (carried : List CarriedPayload) (closed : List Gathered) (last : Option Gathered) (x : CarriedPayload) (old new : PesWalk) (begun : Option ℕ) (front brought : List ℕ)
    → HasWalked carried closed last old → Changes starts x old new begun front → Answered begun front x new brought
    → HasWalked (carried ++ x ∷ []) (cond starts (closed ++ option_to_list last) closed) (cond starts (Some (begun_in x)) (option_map (with_more x) last)) new
    → all_data (gathered (carried ++ x ∷ [])) ≡ all_data (gathered carried) ++ brought
data_by true carried closed last x old new begun front brought has changes answered after =
    let some : IsSome begun = rw changes.turned refl in
    let rest : header_length (take 65542 x.payload.bytes) - length front ≡ header_length x.payload.bytes =
    omega (arith, length_same 65542 x.payload.bytes (omega arith), ap length changes.cleared) in
    let is : brought ≡ packet_data (begun_in x) =
    answered.some some
    ∙ ap (λ (kept : List ℕ). drop (header_length kept - length front) x.payload.bytes) after.front
    ∙ ap (λ (n : ℕ). drop n x.payload.bytes) rest in
    ap all_data after.packets ∙ ap (λ (ps : List Gathered). all_data (ps ++ begun_in x ∷ [])) (sym has.packets) ∙ all_push (gathered carried) (begun_in x)
    ∙ ap (λ (xs : List ℕ). all_data (gathered carried) ++ xs) (sym is)
data_by false carried closed None x old new begun front brought has changes answered after =
    let is : brought ≡ [] = answered.none (changes.turned ∙ has.place) in
    ap all_data (after.packets ∙ sym has.packets) ∙ sym (ap (λ (xs : List ℕ). all_data (gathered carried) ++ xs) is ∙ append-nil (all_data (gathered carried)))
data_by false carried closed (Some packet) x old new begun front brought has changes answered after =
    let some : IsSome begun = rw (changes.turned, has.place) refl in
    let enough : (bytes : List ℕ) → header_length (take 65542 bytes) ≡ header_length bytes = λ bytes. length_same 65542 bytes (omega arith) in
    let is : brought ≡ drop (header_length (packet.bytes ++ x.payload.bytes) - length packet.bytes) x.payload.bytes =
    answered.some some
    ∙ ap (λ (kept : List ℕ). drop (header_length kept - length front) x.payload.bytes) after.front
    ∙ ap (λ (before : List ℕ). drop (header_length (take 65542 (packet.bytes ++ x.payload.bytes)) - length before) x.payload.bytes) (changes.cleared ∙ has.front)
    ∙ ap (λ (n : ℕ). drop n x.payload.bytes) (same_rest 65542 (omega arith) enough packet.bytes x.payload.bytes) in
    ap all_data after.packets ∙ all_push closed (with_more x packet)
    ∙ ap (λ (xs : List ℕ). all_data closed ++ xs) (more_data packet.bytes x.payload.bytes)
    ∙ sym (append_assoc (all_data closed) (packet_data packet) (drop (header_length (packet.bytes ++ x.payload.bytes) - length packet.bytes) x.payload.bytes))
    ∙ ap (λ (xs : List ℕ). xs ++ drop (header_length (packet.bytes ++ x.payload.bytes) - length packet.bytes) x.payload.bytes) (sym (all_push closed packet) ∙ sym (ap all_data has.packets))
    ∙ ap (λ (xs : List ℕ). all_data (gathered carried) ++ xs) (sym is)

pub data_comes : (carried : List CarriedPayload) (closed : List Gathered) (last : Option Gathered) (x : CarriedPayload) (old new : PesWalk) (begun : Option ℕ) (front brought : List ℕ)
    → HasWalked carried closed last old → Changes (is_start x.payload) x old new begun front → Answered begun front x new brought
    → all_data (gathered (carried ++ x ∷ [])) ≡ all_data (gathered carried) ++ brought
data_comes carried closed last x old new begun front brought has changes answered =
    data_by (is_start x.payload) carried closed last x old new begun front brought has changes answered (walked carried closed last x old new begun front has changes)

pub kept_data_is : (carried : List CarriedPayload) (closed : List Gathered) (last : Option Gathered) (walk : PesWalk) → HasWalked carried closed last walk
    → drop (header_length walk.front.items) walk.front.items ≡ kept_data last
kept_data_is carried closed None walk has = ap (λ (kept : List ℕ). drop (header_length kept) kept) has.front ∙ drop_all (header_length []) [] (omega arith)
kept_data_is carried closed (Some packet) walk has =
    ap (λ (kept : List ℕ). drop (header_length kept) kept) has.front
    ∙ kept_is 65542 (omega arith) (λ bytes. length_same 65542 bytes (omega arith)) packet.bytes
