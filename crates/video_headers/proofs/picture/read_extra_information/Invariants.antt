use Rattle.std.proofs.Common.{ℕ, ◌-◌, ◌^◌, List, Ok}
use Rattle.bit_cursor.specs.BitReader.{place}
use Rattle.picture_grammar.specs.Slice.{extra_information}
use Rattle.grammar_reading.specs.Several.{several}
use Rattle.video_headers.specs.Private.Reading.{Answers, Rests}
use Rattle.video_headers.proofs.picture.read_extra_information.Given as goal

abbrev pub invariant-bytes : goal.invariant-bytes
invariant-bytes g l = record {
  bytes : List ℕ;
  so_far : Answers (several extra_information) (λ (x : List ℕ). x) (Ok bytes) (Rests l.fn.reader) (λ _. Rests l.reader) l.fn.reader l.reader;
}

abbrev pub decreases-bytes : goal.decreases-bytes
decreases-bytes g l = 2 ^ 63 - place l.reader
