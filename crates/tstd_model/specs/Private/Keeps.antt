-- Lists of instants of which one stays below the other; no public clause cites these.
use Rattle.std.specs.Prelude.{◌≡◌, ℕ, ◌+◌, ◌-◌, ◌*◌, ◌<◌, ◌≤◌, List, [], ◌∷◌, ◌++◌, length, replicate, max, Option, Some, None}
use Rattle.stream_constants.specs.declared.packets.TheConstants.{PACKET_BYTES}
pub use Rattle.tstd_model.specs.Keeping.{Keeps}
use Rattle.tstd_model.specs.declared.passing.Wanted.{Wanted}
use Rattle.tstd_model.specs.declared.passing.Wanted.TheVariants.{Payload, DataAlone}
use Rattle.tstd_model.specs.declared.runs.Passed.{Passed}
use Rattle.tstd_model.specs.declared.runs.Run.{Run}
use Rattle.tstd_model.specs.PacketBytes.{Arrival}
use Rattle.tstd_model.specs.Private.Server.{EachAtMost}

-- each instant is at least this one
abbrev pub EachAtLeast : (least : ℕ) → List ℕ → Type 0
EachAtLeast least [] = Unit {0}
EachAtLeast least (instant ∷ later) = (least ≤ instant) × EachAtLeast least later

-- a run of bytes and what is left behind it, or none where none is left
abbrev pub GivesRun : Option Run → (before after : List ℕ) → Type 0
GivesRun None before after = (before ≡ []) × (after ≡ [])
GivesRun (Some run) before after = (0 < run.count) × (before ≡ replicate run.count run.at ++ after)

-- so many bytes were passed of those before, and these are left
pub record HasPassed (passed : Passed) (before after : List ℕ) : Type 0 where
  pub taken : List ℕ
  pub split : before ≡ taken ++ after
  pub number : length taken ≡ passed.count
  pub least : EachAtLeast passed.first taken
  pub most : EachAtMost passed.last taken

-- so many bytes were passed, or all where they are fewer
pub record Passes (count : ℕ) (passed : Passed) (before after : List ℕ) : Type 0 where
  pub has : HasPassed passed before after
  pub few : passed.count ≤ count
  pub all : passed.count < count → after ≡ []

-- how many bytes of a packet are looked at
abbrev pub wanted_count : Wanted → Arrival → ℕ
wanted_count Payload arrival = arrival.payload
wanted_count DataAlone arrival = arrival.payload - arrival.header

-- when the last byte of a packet has left TB, which is empty of those before from an instant on
abbrev pub tb_end : (subticks step before first : ℕ) → ℕ
tb_end subticks step before first = max before (first + (PACKET_BYTES - 1) * (step - subticks)) + PACKET_BYTES * subticks
