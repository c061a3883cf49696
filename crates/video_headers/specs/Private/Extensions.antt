-- Extensions and user data behind a header.
use Rattle.std.specs.Prelude.{ℕ, fold, List, [], Bool}
use Rattle.std.specs.Option.{option_map}
use Rattle.syntax_types.specs.declared.picture.SeqState.{SeqState}
use Rattle.picture_grammar.specs.Grammar.{Grammar, done, ◌>>=◌, many, Next}
use Rattle.picture_grammar.specs.Headers.{Loaded, with_loaded}
use Rattle.picture_grammar.specs.Head.{extension_or_user_data}
use Rattle.video_headers.specs.declared.matrix.LoadedWeights.{LoadedWeights}
use Rattle.video_headers.specs.declared.part.Part.{Part}
use Rattle.video_headers.specs.Private.Part.{codes_of, identifiers_of}

-- the matrices that were loaded, as lists of weights
abbrev pub loaded_of : LoadedWeights → Loaded
loaded_of loaded = record { intra = option_map (λ w. w.items) loaded.intra; non_intra = option_map (λ w. w.items) loaded.non_intra }

-- one of them, or their end
abbrev pub item : Part → List Loaded → Grammar (Next Loaded (Unit {0}))
item part before = extension_or_user_data (codes_of part) (identifiers_of part) before

-- all of them, with the state that they leave
abbrev pub items : Part → SeqState → Grammar SeqState
items part seq = many (item part) >>= λ loaded. done (fold with_loaded seq loaded.0)
