-- PES packets in pieces.
use Rattle.std.proofs.Common.{◌≡◌, ℕ, ◌<◌, nat_lt, Bool, true, false, cond, List, [], ◌∷◌, ◌++◌, length, All, refl, sym, ap, ◌∙◌, append_assoc, suc, arith}
use Rattle.std.specs.List.{flat_map}
use Rattle.std.proofs.lemmas.Bool.{and_left, lt-ltb}
use Rattle.std.proofs.lemmas.List.{append-nil}
use Rattle.bit_lists.specs.Payload.{CarriedPayload, is_start}
use Rattle.pes_units.specs.PesPackets.{Gathered, up_to_start, gathered, IsCut, AreCuts}

abbrev joined : List (List CarriedPayload) → List CarriedPayload
joined cuts = flat_map (λ (pieces : List CarriedPayload). pieces) cuts

no_flag : (carried : CarriedPayload) → carried.payload.start ≡ false → is_start carried.payload ≡ false
no_flag carried flag = and_left carried.payload.start (nat_lt 0 (length carried.payload.bytes)) flag

-- payloads without the flag go on with the packet before them
goes_on : (others more : List CarriedPayload) → All (λ carried. carried.payload.start ≡ false) others
    → up_to_start (others ++ more) ≡ flat_map (λ carried. carried.payload.bytes) others ++ up_to_start more
goes_on [] more flags = refl
goes_on (carried ∷ others) more flags =
    let none : is_start carried.payload ≡ false = no_flag carried (flags 0 carried (omega arith)) in
    ap (λ (start : Bool). cond start [] (carried.payload.bytes ++ up_to_start (others ++ more))) none
    ∙ ap (λ (bytes : List ℕ). carried.payload.bytes ++ bytes) (goes_on others more (λ k d lt. flags (suc k) d (omega arith)))
    ∙ sym (append_assoc carried.payload.bytes (flat_map (λ carried. carried.payload.bytes) others) (up_to_start more))

passed_over : (others more : List CarriedPayload) → All (λ carried. carried.payload.start ≡ false) others → gathered (others ++ more) ≡ gathered more
passed_over [] more flags = refl
passed_over (carried ∷ others) more flags =
    let none : is_start carried.payload ≡ false = no_flag carried (flags 0 carried (omega arith)) in
    ap (λ (start : Bool). cond start (record { at = carried.at; bytes = carried.payload.bytes ++ up_to_start (others ++ more) } ∷ gathered (others ++ more)) (gathered (others ++ more))) none
    ∙ passed_over others more (λ k d lt. flags (suc k) d (omega arith))

-- the first piece of a packet, with the others and whatever follows
first_of : Gathered → List ℕ → CarriedPayload
first_of packet first = record { at = packet.at; payload = record { start = true; bytes = first } }

starts : (packet : Gathered) (first : List ℕ) → 0 < length first → is_start (first_of packet first).payload ≡ true
unfolding first_of
starts packet first some = lt-ltb 0 (length first) some

cut_behind : (packet : Gathered) (pieces more : List CarriedPayload) (cut : IsCut packet pieces) → pieces ++ more ≡ first_of packet cut.first ∷ (cut.others ++ more)
unfolding first_of
cut_behind packet pieces more cut = ap (λ (xs : List CarriedPayload). xs ++ more) cut.pieces_are

-- where the next packet begins, nothing goes on
ended : (packets : List Gathered) (cuts : List (List CarriedPayload)) → AreCuts packets cuts → up_to_start (joined cuts) ≡ []
ended [] [] cut = refl
ended [] (_ ∷ _) cut = absurd cut
ended (_ ∷ _) [] cut = absurd cut
ended (packet ∷ packets) (pieces ∷ cuts) cut =
    ap up_to_start (cut_behind packet pieces (joined cuts) cut.0)
    ∙ ap (λ (start : Bool). cond start [] ((first_of packet cut.0.first).payload.bytes ++ up_to_start (cut.0.others ++ joined cuts))) (starts packet cut.0.first cut.0.some)

pub gathered_again : (packets : List Gathered) (cuts : List (List CarriedPayload)) → AreCuts packets cuts → gathered (joined cuts) ≡ packets
unfolding first_of
gathered_again [] [] cut = refl
gathered_again [] (_ ∷ _) cut = absurd cut
gathered_again (_ ∷ _) [] cut = absurd cut
gathered_again (packet ∷ packets) (pieces ∷ cuts) cut =
    let first = first_of packet cut.0.first in
    let rest = cut.0.others ++ joined cuts in
    let bytes : cut.0.first ++ up_to_start rest ≡ packet.bytes =
    ap (λ (more : List ℕ). cut.0.first ++ more) (goes_on cut.0.others (joined cuts) cut.0.flags
    ∙ ap (λ (more : List ℕ). flat_map (λ (carried : CarriedPayload). carried.payload.bytes) cut.0.others ++ more) (ended packets cuts cut.1)
    ∙ append-nil (flat_map (λ (carried : CarriedPayload). carried.payload.bytes) cut.0.others)) ∙ sym cut.0.joined in
    ap gathered (cut_behind packet pieces (joined cuts) cut.0)
    ∙ ap (λ (start : Bool). cond start (record { at = first.at; bytes = first.payload.bytes ++ up_to_start rest } ∷ gathered rest) (gathered rest)) (starts packet cut.0.first cut.0.some)
    ∙ ap (λ (bytes : List ℕ). record { at = packet.at; bytes = bytes } ∷ gathered rest) bytes
    ∙ ap (λ (more : List Gathered). packet ∷ more) (passed_over cut.0.others (joined cuts) cut.0.flags ∙ gathered_again packets cuts cut.1)
