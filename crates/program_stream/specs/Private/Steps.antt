-- Where a walk over the elements of a file stands.
use Rattle.std.specs.Prelude.{◌≡◌, ℕ, ◌<◌, ◌≤◌, List, ◌++◌, length, drop, Result, Ok, Err}
use Rattle.std.specs.List.{AllByRecursion}
use Rattle.program_stream.specs.declared.split_fault.SplitFault.{SplitFault}
use Rattle.program_stream.specs.declared.found_elements.Step.{Step}
use Rattle.program_stream.specs.declared.found_elements.Step.TheVariants.{End, Next}
use Rattle.program_stream.specs.declared.stream_walk.StreamWalk.{StreamWalk}
use Rattle.program_stream.specs.Elements.{Element, all_spelled, IsSoundElement, AreElements, IsFirstRefusal}
use Rattle.program_stream.specs.Private.Walks.{HasWalked}

-- these elements stand before a place of the file, and none of them is refused
pub record AreBefore (file : List ℕ) (elements : List Element) (at : ℕ) : Type 0 where
  pub sound : AllByRecursion IsSoundElement elements
  pub place : at ≡ length (all_spelled elements)
  pub front : file ≡ all_spelled elements ++ drop at file

-- all elements of the file are taken
pub record StandsBehind (file ids : List ℕ) (cut : ℕ) (walk : StreamWalk) : Type 0 where
  pub elements : List Element
  pub are : AreElements file elements cut
  pub walked : HasWalked ids elements walk

-- a next place is one of a file of so many bytes, or its end
abbrev pub IsWithin : ℕ → Step → Type 0
IsWithin bytes (End cut) = Unit {0}
IsWithin bytes (Next next) = next ≤ bytes

-- what comes of the elements from a place on
abbrev pub Finds : List ℕ → Result Step SplitFault → Type 0
Finds file (Ok (End cut)) = (elements : List Element) × AreElements file elements cut
Finds file (Ok (Next next)) = (elements : List Element) × AreBefore file elements next
Finds file (Err fault) = IsFirstRefusal file fault

-- a next place is behind this one
abbrev pub GoesOn : ℕ → Step → Type 0
GoesOn at (End cut) = Unit {0}
GoesOn at (Next next) = at < next
