-- What stands in the slots of made-up schedules is of the made layout.
use Rattle.std.proofs.Common.{◌≡◌, List, All, length, arith}
use Rattle.std.proofs.lemmas.List.Elements.{All-weaker}
use Rattle.slot_rule.specs.declared.sent.Sent.{Sent}
use Rattle.slot_rule.specs.declared.sent.Sent.TheVariants.{Null, Pat, Pmt, Pcr, Video, Audio}
use Rattle.mux_writer.specs.declared.layout.Layout.{Layout}
use Rattle.mux_writer.specs.Layout.{stream_pids}
use Rattle.mux_writer.specs.Output.{IsOfLayout}
use Rattle.bench_streams.specs.Private.Rows.{IsMade}

of-layout : (layout : Layout) → length layout.maps.items ≡ 2 → length (stream_pids layout) ≡ 4 → (sent : Sent) → IsMade sent → IsOfLayout layout (λ _ _ _. Unit {0}) sent
of-layout layout two four Null is = is
of-layout layout two four Pat is = is
of-layout layout two four (Pmt program) is = omega (arith, is, two)
of-layout layout two four (Pcr program) is = omega (arith, is, two)
of-layout layout two four (Video stream unit piece) is = (omega (arith, is, four), tt)
of-layout layout two four (Audio stream packet) is = (omega (arith, is, four), tt)

pub all_of_layout : (layout : Layout) (rows : List Sent) → length layout.maps.items ≡ 2 → length (stream_pids layout) ≡ 4 → All IsMade rows
    → All (IsOfLayout layout (λ _ _ _. Unit {0})) rows
all_of_layout layout rows two four all = All-weaker IsMade (IsOfLayout layout (λ _ _ _. Unit {0})) (of-layout layout two four) rows all
