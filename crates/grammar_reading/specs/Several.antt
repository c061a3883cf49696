-- A list told from its front: what was read of it so far, where a reader takes one value at a time.
use Rattle.std.specs.Prelude.{◌≡◌, ℕ, List, [], ◌∷◌, ◌++◌}
use Rattle.picture_grammar.specs.Grammar.{Grammar, RefusesAfter, Next}
use Rattle.picture_grammar.specs.Grammar.Next.{more}

module _ {A B : Type 0} (next : List A → Grammar (Next A B)) where
  -- behind the values before: these values, then the rest, in which more of them or the end may follow
  abbrev pub SpellsFront : List A → List A → List ℕ → List ℕ → Type 0
  SpellsFront before [] bits rest = bits ≡ rest
  SpellsFront before (value ∷ values) bits rest =
      (middle : List ℕ) × (next before).Spells (more value) bits middle × SpellsFront (before ++ value ∷ []) values middle rest

  -- the first values of a list, so far as it was read
  abbrev pub several : Grammar (List A)
  several = record {
    Spells = λ values bits rest. SpellsFront [] values bits rest;
    Refuses = λ bits refusal left. (values : List A) × RefusesAfter next [] values bits refusal left;
  }
