-- Bits that are asked for before an element is read.
use Rattle.std.proofs.Common.{◌≡◌, List, ℕ, [], ◌++◌, Option, Some, None, Result, refl, subst, arith}
use Rattle.std.specs.Option.{option_map}
use Rattle.shelf_io.specs.declared.source.Source.{Ghosts}
use Rattle.bit_cursor.specs.declared.bit_reader.BitReader.{BitReader}
use Rattle.bit_cursor.specs.BitReader.{bits_left, place, KeepsSource}
use Rattle.picture_grammar.specs.Grammar.{Grammar}
use Rattle.macroblock_reader.specs.declared.fault.SliceFault.{SliceFault}
use Rattle.macroblock_reader.specs.Private.Answers.{Answers, Course}
use Rattle.macroblock_reader.proofs.Courses.{course-rest, no-front}

-- a reader that only asked for bits ahead answers what it answers then
pub answers-ahead : {M A S : Type 0} {g : Ghosts S} {grammar : Grammar A} {old middle new : BitReader S g} → ((x y z : S) → g.keeps x y → g.keeps y z → g.keeps x z) → (result : Result A SliceFault)
    → bits_left middle ≡ bits_left old → place middle ≡ place old → KeepsSource old middle → Answers M grammar result middle new → Answers M grammar result old new
answers-ahead {grammar = grammar} {old = old} {middle = m} keeps_on result same stays keeps a = course-rest keeps_on result ahead a where
  ahead : Course grammar grammar old m
  ahead = record {
    front = [];
    left = subst (λ b. b ≡ option_map (λ (others : List ℕ). [] ++ others) (bits_left m)) same (no-front (bits_left m));
    moved = omega (arith, stays);
    spelled = λ value middle after s. s;
    refused = λ refusal middle others r. r;
    keeps = keeps;
  }
