-- The packets of a coded picture: their sizes, their sum, and those from a place on.
use Rattle.std.proofs.Common.{
  ◌≡◌,
  ℕ,
  zero,
  suc,
  min,
  ◌+◌,
  ◌-◌,
  ◌*◌,
  ◌/◌,
  ◌<◌,
  ◌≤◌,
  List,
  [],
  ◌∷◌,
  ◌++◌,
  All,
  length,
  map,
  get_or,
  drop,
  replicate,
  sum,
  sum_by,
  refl,
  sym,
  ap,
  ap₂,
  ◌∙◌,
  inl,
  inr,
  add-zero,
  arith,
}
use Rattle.std.specs.List.{enumerate_from}
use Rattle.std.proofs.lemmas.Bool.{cases_lt}
use Rattle.std.proofs.lemmas.List.{length-append, length-map, length-replicate, get_or_append_left, get_or-replicate, get_or_at, get_or-map}
use Rattle.std.proofs.lemmas.List.Elements.{All-nil, All-cons, All-append, All-replicate, All-head, All-tail}
use Rattle.std.proofs.lemmas.List.FromFn.{length-enumerate_from, get_or-enumerate_from}
use Rattle.std.proofs.lemmas.List.Sums.{sum_by-cons}
use Rattle.stream_constants.specs.declared.packets.TheConstants.{PAYLOAD_BYTES}
use Rattle.slot_rule.specs.Queues.{QueuedPacket, payloads}
use Rattle.slot_rule.proofs.RuleSent.{payload_of}

-- ---- the payloads of so many bytes
payloads-at : (full bytes : ℕ) → (bytes - 1) / PAYLOAD_BYTES ≡ full → payloads bytes ≡ replicate full PAYLOAD_BYTES ++ (bytes - PAYLOAD_BYTES * full) ∷ []
payloads-at full bytes e = ap (λ n. replicate n PAYLOAD_BYTES ++ (bytes - PAYLOAD_BYTES * n) ∷ []) e

pub payloads-last : (bytes : ℕ) → bytes ≤ PAYLOAD_BYTES → payloads bytes ≡ bytes ∷ []
payloads-last bytes small = payloads-at 0 bytes (omega arith) ∙ ap (λ n. n ∷ []) (let e : bytes - PAYLOAD_BYTES * 0 ≡ bytes = omega arith in e)

pub payloads-more : (bytes : ℕ) → PAYLOAD_BYTES < bytes → payloads bytes ≡ PAYLOAD_BYTES ∷ payloads (bytes - PAYLOAD_BYTES)
payloads-more bytes large =
    let full = (bytes - PAYLOAD_BYTES - 1) / PAYLOAD_BYTES in
    let last : bytes - PAYLOAD_BYTES * suc full ≡ (bytes - PAYLOAD_BYTES) - PAYLOAD_BYTES * full = omega arith in
    payloads-at (suc full) bytes (omega arith) ∙ ap (λ n. PAYLOAD_BYTES ∷ (replicate full PAYLOAD_BYTES ++ n ∷ [])) last

pub length-payloads : (bytes : ℕ) → length (payloads bytes) ≡ (bytes - 1) / PAYLOAD_BYTES + 1
length-payloads bytes = length-append (replicate ((bytes - 1) / PAYLOAD_BYTES) PAYLOAD_BYTES) (_ ∷ []) ∙ ap (λ n. n + 1) (length-replicate ((bytes - 1) / PAYLOAD_BYTES) PAYLOAD_BYTES)

-- a payload has 1 byte to a packet's full payload
abbrev pub IsPayload : ℕ → Type 0
IsPayload bytes = (1 ≤ bytes) × (bytes ≤ PAYLOAD_BYTES)

pub payloads-each : (bytes : ℕ) → 1 ≤ bytes → All IsPayload (payloads bytes)
payloads-each bytes some =
    let full = (bytes - 1) / PAYLOAD_BYTES in
    All-append IsPayload (replicate full PAYLOAD_BYTES) ((bytes - PAYLOAD_BYTES * full) ∷ []) (All-replicate IsPayload full PAYLOAD_BYTES (omega arith, omega arith))
    (All-cons IsPayload (bytes - PAYLOAD_BYTES * full) [] (omega arith, omega arith) (All-nil IsPayload))

get_or_of_full : (full last i : ℕ) → i < full → get_or (replicate full PAYLOAD_BYTES ++ last ∷ []) i 0 ≡ PAYLOAD_BYTES
get_or_of_full full last i below =
    let size : length (replicate full PAYLOAD_BYTES) ≡ full = length-replicate full PAYLOAD_BYTES in
    get_or_append_left (replicate full PAYLOAD_BYTES) (last ∷ []) 0 i (omega arith) ∙ get_or-replicate full i PAYLOAD_BYTES 0 below

pub get_or-payloads : (bytes i : ℕ) → i < length (payloads bytes) → get_or (payloads bytes) i 0 ≡ min PAYLOAD_BYTES (bytes - PAYLOAD_BYTES * i)
get_or-payloads bytes i within =
    let full = (bytes - 1) / PAYLOAD_BYTES in
    let size : i < full + 1 = omega (arith, length-payloads bytes) in
    elim (cases_lt i full) as (λ _. get_or (payloads bytes) i 0 ≡ min PAYLOAD_BYTES (bytes - PAYLOAD_BYTES * i)) [
      | inl below ↦ get_or_of_full full (bytes - PAYLOAD_BYTES * full) i below ∙ (let e : PAYLOAD_BYTES ≡ min PAYLOAD_BYTES (bytes - PAYLOAD_BYTES * i) = omega arith in e)
      | inr above ↦
          (let same : full ≡ i = omega arith in
          get_or_at (replicate full PAYLOAD_BYTES) (bytes - PAYLOAD_BYTES * full) [] 0 i (length-replicate full PAYLOAD_BYTES ∙ same)
          ∙ (let e : bytes - PAYLOAD_BYTES * full ≡ min PAYLOAD_BYTES (bytes - PAYLOAD_BYTES * i) = omega arith in e))
    ]

-- ---- the packets of a unit from a piece on
-- a packet of a unit, from its piece and its payload
abbrev pub piece_of : (item due : ℕ) → (piece payload : ℕ) → QueuedPacket
piece_of item due piece payload = record { item = item; piece = piece; payload = payload; due = due; gone = due }

-- the packets of a unit from a piece on, where so many bytes are left from there; from piece 0 on, they are `unit_packets`
abbrev pub unit_rest : (item piece due left : ℕ) → List QueuedPacket
unit_rest item piece due left = map (λ (n, payload). piece_of item due n payload) (enumerate_from piece (payloads left))

pub unit_rest-last : (item piece due left : ℕ) → left ≤ PAYLOAD_BYTES → unit_rest item piece due left ≡ piece_of item due piece left ∷ []
unit_rest-last item piece due left small = ap (λ (list : List ℕ). map (λ (n, payload). piece_of item due n payload) (enumerate_from piece list)) (payloads-last left small)

pub unit_rest-more : (item piece due left : ℕ) → PAYLOAD_BYTES < left
    → unit_rest item piece due left ≡ piece_of item due piece PAYLOAD_BYTES ∷ unit_rest item (piece + 1) due (left - PAYLOAD_BYTES)
unit_rest-more item piece due left large = ap (λ (list : List ℕ). map (λ (n, payload). piece_of item due n payload) (enumerate_from piece list)) (payloads-more left large)

pub drop-unit_rest : (item piece due left n : ℕ) → PAYLOAD_BYTES * n < left → drop n (unit_rest item piece due left) ≡ unit_rest item (piece + n) due (left - PAYLOAD_BYTES * n)
drop-unit_rest item piece due left zero fits =
    let same : left ≡ left - PAYLOAD_BYTES * 0 = omega arith in ap₂ (λ (p l : ℕ). unit_rest item p due l) (sym (add-zero piece)) same
drop-unit_rest item piece due left (suc n) fits =
    let next : (piece + 1) + n ≡ piece + suc n = omega arith in
    let rest : (left - PAYLOAD_BYTES) - PAYLOAD_BYTES * n ≡ left - PAYLOAD_BYTES * suc n = omega arith in
    ap (λ (list : List QueuedPacket). drop (suc n) list) (unit_rest-more item piece due left (omega arith))
    ∙ drop-unit_rest item (piece + 1) due (left - PAYLOAD_BYTES) n (omega arith) ∙ ap₂ (λ (p l : ℕ). unit_rest item p due l) next rest

pub length-unit_rest : (item piece due left : ℕ) → length (unit_rest item piece due left) ≡ (left - 1) / PAYLOAD_BYTES + 1
length-unit_rest item piece due left =
    length-map (enumerate_from piece (payloads left)) (λ (n, payload). piece_of item due n payload) ∙ length-enumerate_from piece (payloads left) ∙ length-payloads left

sum_of_pieces : (item piece due : ℕ) (list : List ℕ) → sum_by payload_of (map (λ (n, payload). piece_of item due n payload) (enumerate_from piece list)) ≡ sum list
sum_of_pieces item piece due [] = refl
sum_of_pieces item piece due (payload ∷ list) =
    sum_by-cons payload_of (piece_of item due piece payload) (map (λ (n, payload). piece_of item due n payload) (enumerate_from (piece + 1) list))
    ∙ ap (λ n. payload + n) (sum_of_pieces item (piece + 1) due list) ∙ sym (sum_by-cons (λ x. x) payload list)

-- what each packet of a unit has
pub record IsOfUnit (item due : ℕ) (packet : QueuedPacket) : Type 0 where
  pub item_is : packet.item ≡ item
  pub due_is : packet.due ≡ due
  pub gone_is : packet.gone ≡ due
  pub some_payload : 1 ≤ packet.payload
  pub payload : packet.payload ≤ PAYLOAD_BYTES

pieces_each : (item piece due : ℕ) (list : List ℕ) → All IsPayload list → All (IsOfUnit item due) (map (λ (n, payload). piece_of item due n payload) (enumerate_from piece list))
pieces_each item piece due [] each = All-nil (IsOfUnit item due)
pieces_each item piece due (payload ∷ list) each =
    let here : IsPayload payload = All-head IsPayload payload list each in
    All-cons (IsOfUnit item due) (piece_of item due piece payload) (map (λ (n, payload). piece_of item due n payload) (enumerate_from (piece + 1) list))
    (record { item_is = refl; due_is = refl; gone_is = refl; some_payload = here.0; payload = here.1 }) (pieces_each item (piece + 1) due list (All-tail IsPayload payload list each))

pub unit_rest-each : (item piece due left : ℕ) → 1 ≤ left → All (IsOfUnit item due) (unit_rest item piece due left)
unit_rest-each item piece due left some = pieces_each item piece due (payloads left) (payloads-each left some)

-- the packet at a place of what is left of a unit
pub get_or-unit_rest : (item piece due left i : ℕ) (d : QueuedPacket) → i < length (unit_rest item piece due left)
    → get_or (unit_rest item piece due left) i d ≡ piece_of item due (piece + i) (min PAYLOAD_BYTES (left - PAYLOAD_BYTES * i))
get_or-unit_rest item piece due left i d within =
    let fits : i < length (payloads left) = omega (arith, length-unit_rest item piece due left, length-payloads left) in
    let fits' : i < length (enumerate_from piece (payloads left)) = rw length-enumerate_from fits in
    get_or-map (λ (n, payload). piece_of item due n payload) (enumerate_from piece (payloads left)) i (0, 0) d fits'
    ∙ ap (λ (at : ℕ × ℕ). piece_of item due at.0 at.1) (get_or-enumerate_from piece (payloads left) i (0, 0) fits)
    ∙ ap (λ (payload : ℕ). piece_of item due (piece + i) payload) (get_or-payloads left i fits)

-- the pieces of a unit are fewer than its bytes
pub unit_rest-pieces : (item due bytes : ℕ) → 1 ≤ bytes → All (λ packet. packet.piece < bytes) (unit_rest item 0 due bytes)
unit_rest-pieces item due bytes some i d within =
    let size : length (unit_rest item 0 due bytes) ≡ (bytes - 1) / PAYLOAD_BYTES + 1 = length-unit_rest item 0 due bytes in
    rw (get_or-unit_rest item 0 due bytes i d within) (omega arith)
