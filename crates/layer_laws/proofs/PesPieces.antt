-- PES packets gathered from payloads, wherever these stand.
use Rattle.std.proofs.Common.{
  ◌≡◌,
  ℕ,
  zero,
  suc,
  ◌+◌,
  ◌-◌,
  ◌*◌,
  ◌/◌,
  ◌<◌,
  ◌≤◌,
  ◌==◌,
  Bool,
  true,
  false,
  cond,
  List,
  [],
  ◌∷◌,
  ◌++◌,
  length,
  take,
  drop,
  map,
  refl,
  sym,
  ap,
  ap₂,
  ◌∙◌,
  arith,
  append_assoc,
  length-take,
}
use Rattle.std.specs.List.{concat, flat_map, range_with_len}
use Rattle.std.proofs.lemmas.Bool.{lt-ltb, eqb-true}
use Rattle.std.proofs.lemmas.List.{append-nil, take-append-drop, drop_all, drop-drop}
use Rattle.bit_lists.specs.Payload.{Payload, CarriedPayload, is_start}
use Rattle.pes_units.specs.PesPackets.{Gathered, up_to_start, gathered}
use Rattle.pes_units.specs.PesPieces.{pes_pieces, piece_of}
use Rattle.psi_tables.specs.Sections.{going}
use Rattle.layer_laws.specs.PesPieces.{Carries, CarryAll}

-- ---- gathering looks at payloads alone

up_to : List Payload → List ℕ
up_to [] = []
up_to (payload ∷ more) = cond (is_start payload) [] (payload.bytes ++ up_to more)

gather : List Payload → List (List ℕ)
gather [] = []
gather (payload ∷ more) = cond (is_start payload) ((payload.bytes ++ up_to more) ∷ gather more) (gather more)

abbrev payloads_in : List CarriedPayload → List Payload
payloads_in carried = map (λ (carried : CarriedPayload). carried.payload) carried

up_to-is : (carried : List CarriedPayload) → up_to_start carried ≡ up_to (payloads_in carried)
unfolding up_to
up_to-is [] = refl
up_to-is (first ∷ more) = ap (λ (bytes : List ℕ). cond (is_start first.payload) [] (first.payload.bytes ++ bytes)) (up_to-is more)

gather-is : (carried : List CarriedPayload) → map (λ (packet : Gathered). packet.bytes) (gathered carried) ≡ gather (payloads_in carried)
unfolding gather
gather-is [] = refl
gather-is (first ∷ more) = by_start (is_start first.payload) (gather-is more)
  where
    by_start : (start : Bool) → map (λ (packet : Gathered). packet.bytes) (gathered more) ≡ gather (payloads_in more)
        → map (λ (packet : Gathered). packet.bytes) (cond start (record { at = first.at; bytes = first.payload.bytes ++ up_to_start more } ∷ gathered more) (gathered more))
        ≡ cond start ((first.payload.bytes ++ up_to (payloads_in more)) ∷ gather (payloads_in more)) (gather (payloads_in more))
    by_start true again = ap₂ (λ (bytes : List ℕ) (packets : List (List ℕ)). (first.payload.bytes ++ bytes) ∷ packets) (up_to-is more) again
    by_start false again = again

-- ---- packets in payloads

abbrev all_of : List (List Payload) → List Payload
all_of cuts = flat_map (λ (payloads : List Payload). payloads) cuts

goes_on : (others : List (List ℕ)) (more : List Payload) → up_to (map going others ++ more) ≡ concat others ++ up_to more
unfolding up_to
goes_on [] more = refl
goes_on (bytes ∷ others) more = ap (λ (rest : List ℕ). bytes ++ rest) (goes_on others more) ∙ sym (append_assoc bytes (concat others) (up_to more))

passed_over : (others : List (List ℕ)) (more : List Payload) → gather (map going others ++ more) ≡ gather more
unfolding gather
passed_over [] more = refl
passed_over (bytes ∷ others) more = passed_over others more

abbrev beginning : List ℕ → Payload
beginning bytes = record { start = true; bytes = bytes }

starts : (first : List ℕ) → 0 < length first → is_start (beginning first) ≡ true
starts first some = lt-ltb 0 (length first) some

ended : (packets : List (List ℕ)) (cuts : List (List Payload)) → CarryAll packets cuts → up_to (all_of cuts) ≡ []
unfolding up_to
ended [] [] all = refl
ended [] (_ ∷ _) all = absurd all
ended (_ ∷ _) [] all = absurd all
ended (packet ∷ packets) (payloads ∷ cuts) all =
    ap (λ (first : List Payload). up_to (first ++ all_of cuts)) all.0.payloads_are
    ∙ ap (λ (start : Bool). cond start [] (all.0.first ++ up_to (map going all.0.others ++ all_of cuts))) (starts all.0.first all.0.some)

gathered-cuts : (packets : List (List ℕ)) (cuts : List (List Payload)) → CarryAll packets cuts → gather (all_of cuts) ≡ packets
unfolding gather
gathered-cuts [] [] all = refl
gathered-cuts [] (_ ∷ _) all = absurd all
gathered-cuts (_ ∷ _) [] all = absurd all
gathered-cuts (packet ∷ packets) (payloads ∷ cuts) all =
    let others : List Payload = map going all.0.others ++ all_of cuts in
    let behind : up_to others ≡ concat all.0.others =
    goes_on all.0.others (all_of cuts) ∙ ap (λ (rest : List ℕ). concat all.0.others ++ rest) (ended packets cuts all.1) ∙ append-nil (concat all.0.others) in
    ap (λ (first : List Payload). gather (first ++ all_of cuts)) all.0.payloads_are
    ∙ ap (λ (start : Bool). cond start ((all.0.first ++ up_to others) ∷ gather others) (gather others)) (starts all.0.first all.0.some)
    ∙ ap₂ (λ (bytes : List ℕ) (more : List (List ℕ)). bytes ∷ more) (ap (λ (rest : List ℕ). all.0.first ++ rest) behind ∙ sym all.0.joined)
    (passed_over all.0.others (all_of cuts) ∙ gathered-cuts packets cuts all.1)

pub gathered_again : (packets : List (List ℕ)) (cuts : List (List Payload)) (carried : List CarriedPayload) → CarryAll packets cuts
    → payloads_in carried ≡ all_of cuts → map (λ (packet : Gathered). packet.bytes) (gathered carried) ≡ packets
gathered_again packets cuts carried all same = gather-is carried ∙ ap gather same ∙ gathered-cuts packets cuts all

-- ---- pieces of 184 bytes

part : List ℕ → ℕ → List ℕ
part packet k = take 184 (drop (184 * k) packet)

not_first : (k : ℕ) → 0 < k → (k == 0) ≡ false
not_first k behind = by_test (k == 0) refl
  where
    by_test : (is : Bool) → (k == 0) ≡ is → (k == 0) ≡ false
    by_test false is = is
    by_test true is = absurd (omega (arith, eqb-true k 0 is, behind))

-- those behind the first have no flag
no_flags : (packet : List ℕ) (n from : ℕ) → 0 < from → map (piece_of packet) (range_with_len from n) ≡ map going (map (part packet) (range_with_len from n))
unfolding part
no_flags packet zero from behind = refl
no_flags packet (suc n) from behind =
    ap₂ (λ (start : Bool) (pieces : List Payload). record { start = start; bytes = take 184 (drop (184 * from) packet) } ∷ pieces) (not_first from behind) (no_flags packet n (from + 1) (omega arith))

parts_joined : (packet : List ℕ) (n from : ℕ) → length packet ≤ 184 * (from + n) → concat (map (part packet) (range_with_len from n)) ≡ drop (184 * from) packet
unfolding part
parts_joined packet zero from fits = sym (drop_all (184 * from) packet (omega arith))
parts_joined packet (suc n) from fits =
    let next : 184 * (from + 1) ≡ 184 * from + 184 = omega arith in
    ap (λ (rest : List ℕ). part packet from ++ rest) (parts_joined packet n (from + 1) (omega (arith, fits)) ∙ ap (λ (k : ℕ). drop k packet) next ∙ sym (drop-drop 184 (184 * from) packet))
    ∙ take-append-drop 184 (drop (184 * from) packet)

pub pieces_carry : (packet : List ℕ) → 0 < length packet → Carries packet (pes_pieces packet)
unfolding part
pieces_carry packet some =
    let n : ℕ = (length packet + 183) / 184 - 1 in
    let count : (length packet + 183) / 184 ≡ suc n = omega (arith, some) in
    record {
      first = take 184 packet;
      others = map (part packet) (range_with_len 1 n);
      payloads_are =
          ap (λ (k : ℕ). map (piece_of packet) (range_with_len 0 k)) count
          ∙ ap (λ (pieces : List Payload). beginning (take 184 packet) ∷ pieces) (no_flags packet n 1 (omega arith));
      some = omega (arith, some, length-take 184 packet);
      joined = sym (ap (λ (rest : List ℕ). take 184 packet ++ rest) (parts_joined packet n 1 (omega (arith, some))) ∙ take-append-drop 184 packet);
    }
