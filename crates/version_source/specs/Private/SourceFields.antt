-- What a source of pieces stands for, and what it keeps.
use Rattle.std.specs.Prelude.{List}
use Rattle.bit_lists.specs.Payload.{Payload}
use Rattle.version_source.specs.declared.source.VersionSource.TheInside.{Inside}
use Rattle.version_source.specs.Pieces.{stream_items}
use Rattle.version_source.specs.Private.Kept.{AreSent}

-- the items of all its streams
abbrev pub items_of : Inside → List (List (List Payload))
items_of source = stream_items source.chosen.programs.now source.chosen.made.0 source.chosen.choice.now

-- its programs can be sent as it keeps them
abbrev pub IsSource : Inside → Type 0
IsSource source = AreSent source.chosen.programs.now source.chosen.jobs.now source.chosen.choice.now source.sent.items
