-- A writer of one slot after the other, one slot further.
use Rattle.std.proofs.Common.{◌≡◌, ℕ, ◌<◌, List, ◌++◌, Option, length, sym, ap, subst, ◌∙◌, arith}
use Rattle.std.specs.Prelude.{IfSome}
use Rattle.std.specs.List.{flat_map}
use Rattle.shelf_io.specs.Sink.{Told}
use Rattle.slot_rule.specs.declared.sent.Sent.{Sent}
use Rattle.ts_packets.specs.Packet.{written}
use Rattle.mux_writer.specs.declared.layout.Layout.{Layout}
use Rattle.mux_writer.specs.Output.{packet_in, packets_of_first}
use Rattle.mux_writer.specs.Pieces.{Pieces}
use Rattle.mux_writer.specs.Writing.{further, Writing}
use Rattle.mux_writer.specs.Private.Writer.{HoldsRest, IsWriting}
use Rattle.mux_writer.proofs.Fronts.{slot-more}
use Rattle.mux_writer.proofs.Told.{told-both}

pub writing-more : (layout : Layout) (slot : ℕ) (rows : List Sent) (old new : Writing) → IsWriting layout slot rows old → old.at < length old.rows → new ≡ further old
    → IsWriting layout slot rows new
writing-more layout slot rows old new is less new_is = subst (IsWriting layout slot rows) (sym new_is) (record {
  layout_is = is.layout_is;
  slot_is = is.slot_is;
  rows_are = is.rows_are;
  within = omega (arith, less, ap length is.rows_are);
})

same-packet : (layout : Layout) (slot : ℕ) (rows : List Sent) (old : Writing) (told : Pieces) (bytes : List ℕ) → IsWriting layout slot rows old
    → bytes ≡ written (packet_in old.layout old.slot told old.rows old.at) → bytes ≡ written (packet_in layout slot told rows old.at)
same-packet layout slot rows old told bytes is made =
    made
    ∙ ap (λ (l : Layout). written (packet_in l old.slot told old.rows old.at)) is.layout_is
    ∙ ap (λ (s : ℕ). written (packet_in layout s told old.rows old.at)) is.slot_is
    ∙ ap (λ (list : List Sent). written (packet_in layout slot told list old.at)) is.rows_are

-- what the sink holds, and what is held back, is that of one slot more
pub held-more : (layout : Layout) (slot : ℕ) (rows : List Sent) (old new : Writing) (pieces : Option Pieces) (was mid now : Told) (held kept bytes packet : List ℕ)
    → IsWriting layout slot rows old → new ≡ further old
    → IfSome pieces (λ told. HoldsRest was mid held (flat_map written (packets_of_first layout slot told rows old.at)))
    → HoldsRest mid now kept held → IfSome pieces (λ told. packet ≡ written (packet_in old.layout old.slot told old.rows old.at)) → bytes ≡ kept ++ packet
    → IfSome pieces (λ told. HoldsRest was now bytes (flat_map written (packets_of_first layout slot told rows new.at)))
held-more layout slot rows old new pieces was mid now held kept bytes packet is new_is had then made pushed =
    subst (λ (n : ℕ). IfSome pieces (λ told. HoldsRest was now bytes (flat_map written (packets_of_first layout slot told rows n)))) (sym (ap (λ (w : Writing). w.at) new_is))
    (told-both pieces had made (λ (told : Pieces) holds packet_is. slot-more layout slot told rows old.at was mid now held kept bytes packet holds then
    (same-packet layout slot rows old told packet is packet_is) pushed))
