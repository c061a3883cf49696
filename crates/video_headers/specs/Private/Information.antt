-- Information bytes that nobody reads.
use Rattle.picture_grammar.specs.Grammar.{Grammar, done, ◌>>=◌, many}
use Rattle.picture_grammar.specs.Slice.{extra_information}

-- extra_information_picture (6.2.3), without its bytes
abbrev pub information_bytes : Grammar (Unit {0})
information_bytes = many extra_information >>= λ bytes. done tt
