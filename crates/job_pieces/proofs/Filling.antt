-- Packets that are held to be added to a file, one slot further.
use Rattle.std.proofs.Common.{◌≡◌, ℕ, ◌<◌, List, [], ◌++◌, All, length, Option, None, Some, refl, subst, sym}
use Rattle.std.specs.Prelude.{IfSome}
use Rattle.std.proofs.lemmas.List.Elements.{All-weaker}
use Rattle.shelf_io.proofs.Written.{with_bytes-none}
use Rattle.slot_rule.specs.declared.sent.Sent.{Sent}
use Rattle.slot_rule.specs.declared.sent.Sent.TheVariants.{Null, Pat, Pmt, Pcr, Video, Audio}
use Rattle.ts_packets.specs.Packet.{written}
use Rattle.mux_writer.specs.declared.layout.Layout.{Layout}
use Rattle.mux_writer.specs.Output.{IsOfLayout, packet_in}
use Rattle.mux_writer.specs.Pieces.{Pieces}
use Rattle.mux_writer.specs.Writing.{Writing, further}
use Rattle.mux_writer.proofs.Told.{told-both}
use Rattle.mux_writer.proofs.Writing.{held-more, writing-more}
use Rattle.job_pieces.specs.Private.Filled.{HoldsMore, WritesOn}

-- what stands in slots is of the layout, whatever has the pieces
sent_of : (layout : Layout) (has other : (stream item piece : ℕ) → Type 0) → ((stream item piece : ℕ) → has stream item piece → other stream item piece) → (sent : Sent)
    → IsOfLayout layout has sent → IsOfLayout layout other sent
sent_of layout has other on Null is = tt
sent_of layout has other on Pat is = tt
sent_of layout has other on (Pmt program) is = is
sent_of layout has other on (Pcr program) is = is
sent_of layout has other on (Video stream unit piece) is = (is.0, on stream unit piece is.1)
sent_of layout has other on (Audio stream packet) is = (is.0, on stream packet 0 is.1)

pub rows_of : (layout : Layout) (has other : (stream item piece : ℕ) → Type 0) (rows : List Sent) → ((stream item piece : ℕ) → has stream item piece → other stream item piece)
    → All (IsOfLayout layout has) rows → All (IsOfLayout layout other) rows
rows_of layout has other rows on all = All-weaker (IsOfLayout layout has) (IsOfLayout layout other) (sent_of layout has other on) rows all

-- the same of a writer that has come further
pub rows_still : (first now : Writing) (has other : (stream item piece : ℕ) → Type 0) → now.layout ≡ first.layout → now.rows ≡ first.rows
    → ((stream item piece : ℕ) → has stream item piece → other stream item piece) → All (IsOfLayout first.layout has) first.rows → All (IsOfLayout now.layout other) now.rows
rows_still first now has other layout rows on all =
    subst (λ (l : Layout). All (IsOfLayout l other) now.rows) (sym layout)
    (subst (λ (list : List Sent). All (IsOfLayout first.layout other) list) (sym rows) (rows_of first.layout has other first.rows on all))

-- ---- one slot further

pub writes_more : (first old new : Writing) → WritesOn first old → old.at < length old.rows → new ≡ further old → WritesOn first new
writes_more first old new before less is = λ layout slot rows writing. writing-more layout slot rows old new (before layout slot rows writing) less is

holds_more : (told : Pieces) (first old new : Writing) (held bytes packet : List ℕ) → WritesOn first old → new ≡ further old → HoldsMore told first old held
    → packet ≡ written (packet_in old.layout old.slot told old.rows old.at) → bytes ≡ held ++ packet → HoldsMore told first new bytes
holds_more told first old new held bytes packet writes is before made pushed = λ layout slot rows was now writing from.
    held-more layout slot rows old new (Some told) was now now held held bytes packet (writes layout slot rows writing) is (before layout slot rows was now writing from)
    (record { front = []; added = with_bytes-none now; whole = refl }) made pushed

pub told_more : (pieces : Option Pieces) (first old new : Writing) (held bytes packet : List ℕ) → WritesOn first old → new ≡ further old
    → IfSome pieces (λ told. HoldsMore told first old held) → IfSome pieces (λ told. packet ≡ written (packet_in old.layout old.slot told old.rows old.at)) → bytes ≡ held ++ packet
    → IfSome pieces (λ told. HoldsMore told first new bytes)
told_more pieces first old new held bytes packet writes is before made pushed =
    told-both pieces before made (λ (told : Pieces) holds packet_is. holds_more told first old new held bytes packet writes is holds packet_is pushed)

-- before the first one
pub none_held : (pieces : Option Pieces) (first : Writing) (held : List ℕ) → held ≡ [] → IfSome pieces (λ told. HoldsMore told first first held)
none_held None first held empty = tt
none_held (Some told) first held empty = λ layout slot rows was now writing from. rw empty from
