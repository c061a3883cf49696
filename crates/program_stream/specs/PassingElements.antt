-- The elements of a program stream that have passed out of a source, and what is held of it.
use Rattle.std.specs.Prelude.{◌≡◌, ℕ, ◌+◌, ◌<◌, ◌≤◌, List, [], ◌∷◌, ◌++◌, length, replicate, take, drop, Option}
use Rattle.std.specs.List.{AllByRecursion}
use Rattle.shelf_io.specs.Source.{source_bytes_most}
use Rattle.ts_demux.specs.PacketBuffer.{Passes}
use Rattle.ts_demux.specs.Pass.{IsWhole}
use Rattle.program_stream.specs.declared.element_fault.ElementFault.{ElementFault}
use Rattle.program_stream.specs.declared.element_fault.ElementFault.TheVariants as faults
use Rattle.program_stream.specs.declared.passing_elements.Passed.{Passed}
use Rattle.program_stream.specs.declared.passing_elements.Passed.TheVariants as steps
use Rattle.program_stream.specs.declared.passing_elements.PassingElements.{PassingElements}
use Rattle.program_stream.specs.declared.split_fault.SplitFault.{SplitFault}
use Rattle.program_stream.specs.declared.split_fault.SplitFault.TheVariants.{ShortFile}
use Rattle.program_stream.specs.declared.stream_ids.TheConstants.{PACK_HEADER_BYTES}
use Rattle.program_stream.specs.Elements.{Element, element_bytes, all_spelled, IsSoundElement, IsFirstRefusal}
use Rattle.program_stream.specs.Split.{HasElements}

-- ---- the element that has passed last

-- its place in the file
abbrev pub place_of : PassingElements → ℕ
place_of passing = passing.place

-- its bytes
abbrev pub bytes_of : PassingElements → List ℕ
bytes_of passing = take passing.len passing.buffer

-- what was taken from the source behind it: zero bytes that are counted alone, and the bytes that are held
abbrev pub rest_of : PassingElements → List ℕ
rest_of passing = replicate passing.zeros 0 ++ drop passing.len passing.buffer

-- how many bytes were taken from it
abbrev pub taken_of : PassingElements → ℕ
taken_of passing = passing.place + passing.zeros + length passing.buffer

-- where zero bytes are counted alone, two more stand first among the bytes that are held, so that a start code prefix stands whole
abbrev pub KeepsTwo : ℕ → List ℕ → Type 0
KeepsTwo zeros held = 0 < zeros → (more : List ℕ) × (held ≡ 0 ∷ 0 ∷ more)

-- ---- what has passed of a source

-- These elements have passed of a source that has the bytes of a pack header or more, from its front on, and none of them is refused.
pub record HasPassed (left left_after : Option (List ℕ)) (most most_after : ℕ) (elements : List Element) (passing : PassingElements) : Type 0 where
  pub most_few : most ≤ source_bytes_most
  pub passes : Passes left left_after most most_after [] (all_spelled elements) (rest_of passing)
  pub sound : AllByRecursion IsSoundElement elements
  pub long : PACK_HEADER_BYTES ≤ length (all_spelled elements) + length (rest_of passing)
  pub place : passing.place + passing.len ≡ length (all_spelled elements)
  pub held : passing.len ≤ length passing.buffer
  pub two : KeepsTwo passing.zeros (drop passing.len passing.buffer)

-- what comes of a step behind some elements: one more has passed, with its place and its bytes; or all elements of the file have, all its bytes were taken, and
-- so many last elements are cut
abbrev pub Goes : Passed → (left left_after : Option (List ℕ)) → (most most_after : ℕ) → List Element → PassingElements → Type 0
Goes steps.Element left left_after most most_after elements passing =
    (element : Element) × (bytes_of passing ≡ element_bytes element) × (place_of passing ≡ length (all_spelled elements) + element.zeros)
    × HasPassed left left_after most most_after (elements ++ element ∷ []) passing
Goes (steps.End cut) left left_after most most_after elements passing = IsWhole left left_after most most_after [] (λ file. HasElements file elements cut × (length file ≡ taken_of passing))

-- ---- refusals

-- what is said of a refusal; a fault of the outside has its cause in the counts
abbrev pub OnRefused : ElementFault → (SplitFault → Type 0) → Type 0
OnRefused (faults.Outside fault) P = Unit {0}
OnRefused (faults.Refused fault) P = P fault

-- the file has fewer bytes than a pack header
abbrev pub IsShortFile : List ℕ → SplitFault → Type 0
IsShortFile file fault = (length file < PACK_HEADER_BYTES) × (fault ≡ ShortFile 0)

-- it has no fewer, and this is the first refusal among its elements
abbrev pub AreRefused : List ℕ → SplitFault → Type 0
AreRefused file fault = (PACK_HEADER_BYTES ≤ length file) × IsFirstRefusal file fault
