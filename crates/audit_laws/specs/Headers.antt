-- Packets of which no less is PES header.
use Rattle.std.specs.Prelude.{◌≡◌, ◌≤◌, List}
use Rattle.std.specs.List.{AllZip}
use Rattle.tstd_model.specs.declared.decoder_input.Arrival.{Arrival}

-- the packet comes in the same slot with the same payload, of which no less is PES header
pub record HasNoLessHeader (more fewer : Arrival) : Type 0 where
  pub slot : more.slot_no ≡ fewer.slot_no
  pub payload : more.payload ≡ fewer.payload
  pub header : fewer.header ≤ more.header
  pub within : more.header ≤ more.payload

-- packets, one beside each
abbrev pub HaveNoLessHeaders : List Arrival → List Arrival → Type 0
HaveNoLessHeaders more fewer = AllZip HasNoLessHeader more fewer
