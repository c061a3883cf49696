-- One step of a reader of a stream's bytes.
use Rattle.std.specs.Prelude.{ℕ, ◌+◌, ◌-◌, List, Option, if◌then◌else◌}
use Rattle.std.specs.Option.{option_to_list}
use Rattle.shelf_io.specs.Source.{source_bytes_most}
use Rattle.ts_demux.specs.declared.demuxed.PesUnit.{PesUnit}
use Rattle.pes_passing.specs.PassingPackets.{count_of}
use Rattle.pes_passing.specs.Private.ElementWalk as elements
use Rattle.es_window.specs.declared.element_bytes.ElementBytes.{ElementBytes}
use Rattle.es_window.specs.declared.held_part.HeldPart.{HeldPart}
use Rattle.es_window.specs.declared.passing_bytes.PassingBytes.{PassingBytes}
use Rattle.es_window.specs.PassingBytes.{bytes_in}

-- what is held of one PES packet, and nothing where there is none
abbrev pub held_part : HeldPart → Option PesUnit → List ℕ
held_part part packet = bytes_in part (option_to_list packet)

-- no more steps than these are left
abbrev pub steps_left : PassingBytes → ℕ
steps_left bytes = (source_bytes_most - count_of bytes.packets) + (if bytes.has_ended then 0 else 1)

abbrev pub element_steps_left : ElementBytes → ℕ
element_steps_left bytes = (source_bytes_most - elements.count_of bytes.packets) + (if bytes.has_ended then 0 else 1)
