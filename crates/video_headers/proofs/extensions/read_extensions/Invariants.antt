use Rattle.std.proofs.Common.{◌≡◌, ◌-◌, ◌^◌, List, Ok, fold}
use Rattle.bit_cursor.specs.BitReader.{place}
use Rattle.picture_grammar.specs.Headers.{Loaded, with_loaded}
use Rattle.grammar_reading.specs.Several.{several}
use Rattle.video_headers.specs.Private.Extensions.{item}
use Rattle.video_headers.specs.Private.Reading.{Answers}
use Rattle.video_headers.specs.Private.Wholes.{Wholes}
use Rattle.video_headers.proofs.extensions.read_extensions.Given as goal

abbrev pub invariant-parts : goal.invariant-parts
invariant-parts g l = record {
  loads : List Loaded;
  so_far : Answers (several (item l.fn.part)) (λ (x : List Loaded). x) (Ok loads) (Wholes l.fn.reader) (λ x. Wholes l.reader) l.fn.reader l.reader;
  made : l.state ≡ fold with_loaded l.fn.seq loads;
}

abbrev pub decreases-parts : goal.decreases-parts
decreases-parts g l = 2 ^ 63 - place l.reader
