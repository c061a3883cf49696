-- What contracts see of a shelf and of a sink, each as one value.
use Rattle.std.specs.Prelude.{ℕ, List, Option}
use Rattle.shelf_io.specs.Counts.{ShelfCounts}
use Rattle.shelf_io.specs.Files.{Files}
use Rattle.shelf_io.specs.Sink.{Told}

-- a shelf: its files where it tells them, its counts, how far each file was asked for, and how many calls came after its last fault
pub record ShelfFacts : Type 0 where
  pub files : Option Files
  pub counts : ShelfCounts
  pub asked : List ℕ → ℕ
  pub since_fault : ℕ

-- a sink: what it tells of the bytes that were written, its count of faults, and how many calls came after its last fault
pub record SinkFacts : Type 0 where
  pub written : Told
  pub faults : ℕ
  pub since_fault : ℕ

-- what contracts see of a shelf of any type
abbrev pub shelf_facts : {K : Type 0} (files : K → Option Files) (counts : K → ShelfCounts) (asked : K → List ℕ → ℕ) (since_fault : K → ℕ) → K → ShelfFacts
shelf_facts files counts asked since_fault shelf =
    record { files = files shelf; counts = counts shelf; asked = asked shelf; since_fault = since_fault shelf }

-- what contracts see of a sink of any type
abbrev pub sink_facts : {O : Type 0} (written : O → Told) (faults : O → ℕ) (since_fault : O → ℕ) → O → SinkFacts
sink_facts written faults since_fault sink = record { written = written sink; faults = faults sink; since_fault = since_fault sink }
