-- A stream's items, which its queue sends piece by piece: of video the PES packets of its units, of audio single packets' payloads.
use Rattle.std.specs.Prelude.{◌≡◌, ℕ, ◌+◌, false, List, [], ◌∷◌, ◌++◌, length, map, All, slice_index_or}
use Rattle.std.specs.List.{range_with_len}
use Rattle.bit_lists.specs.Payload.{Payload}
use Rattle.slot_rule.specs.declared.queue_kind.QueueKind.TheVariants.{Audio}
use Rattle.slot_rule.specs.Queues.{Queue}

-- the pieces by the numbers of their item and their place in it: item by item, of which the first has this number, each from its first piece on
abbrev pub piece_numbers : (first : ℕ) → List (List Payload) → List (ℕ × ℕ)
piece_numbers first [] = []
piece_numbers first (pieces ∷ items) = map (λ piece. (first, piece)) (range_with_len 0 (length pieces)) ++ piece_numbers (first + 1) items

-- The queue sends these items: it names each of their pieces once, in order. An item of audio is one packet's payload.
pub record Sends (queue : Queue) (items : List (List Payload)) : Type 0 where
  pub in_order : map (λ packet. (packet.item, packet.piece)) queue.packets ≡ piece_numbers 0 items
  pub single : queue.kind ≡ Audio → All (λ pieces. length pieces ≡ 1) items

-- a source gives the pieces of these items, by their numbers
abbrev pub GivesPieces : List (List Payload) → (source : (item piece : ℕ) → Payload) → Type 0
GivesPieces items source =
    (item piece : ℕ) → source item piece ≡ slice_index_or (slice_index_or items item []) piece (record { start = false; bytes = [] })
