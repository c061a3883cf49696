-- What is found at the front of a window, where a code of a table must stand.
use Rattle.std.specs.Prelude.{◌≤◌, ℕ, nat_le, List, [], ◌∷◌}
use Rattle.prefix_codes.specs.declared.table_name.TableName.{TableName}
use Rattle.picture_grammar.specs.Refusal.{Refusal}
use Rattle.picture_grammar.specs.Refusal.Refusal.{End}
use Rattle.picture_grammar.specs.Grammar.{Grammar}
use Rattle.picture_grammar.specs.Element.{rule, vlclbf}
use Rattle.grammar_reading.specs.declared.window.BitWindow.{BitWindow}
use Rattle.grammar_reading.specs.declared.symbol.SymbolFound.{SymbolFound}
use Rattle.grammar_reading.specs.declared.symbol.SymbolFound.TheVariants.{Symbol, NoCode, PastMost, Cut}
use Rattle.grammar_reading.specs.Window.{seen, ShowsFront}

-- a code of a table, of a symbol up to this one: the kinds of refusal where there is no code, and where the symbol is greater
abbrev pub symbol_up_to : TableName → ℕ → Refusal → Refusal → Grammar ℕ
symbol_up_to table most no_code past_most = vlclbf table no_code (rule past_most (λ symbol. nat_le symbol most) ∷ [])

-- all bits that the window shows are refused at the first one, and so by the kind that the grammar names for this
abbrev pub IsNoneFound : TableName → ℕ → BitWindow → SymbolFound → Type 0
IsNoneFound table most window (Symbol symbol len) = ⊥
IsNoneFound table most window NoCode = (no_code past_most : Refusal) (bits : List ℕ) → ShowsFront window bits → (symbol_up_to table most no_code past_most).Refuses bits no_code bits
IsNoneFound table most window PastMost = (no_code past_most : Refusal) (bits : List ℕ) → ShowsFront window bits → (symbol_up_to table most no_code past_most).Refuses bits past_most bits
IsNoneFound table most window Cut = (no_code past_most : Refusal) (bits : List ℕ) → ShowsFront window bits → (symbol_up_to table most no_code past_most).Refuses bits End bits

-- the symbol that is found is spelled there, by so many bits; where none is, all bits that the window shows are refused
abbrev pub IsSymbolFound : TableName → ℕ → BitWindow → SymbolFound → Type 0
IsSymbolFound table most window (Symbol symbol len) =
    (len ≤ window.known) × ((no_code past_most : Refusal) → (symbol_up_to table most no_code past_most).Spells symbol (seen window len) [])
IsSymbolFound table most window NoCode = IsNoneFound table most window NoCode
IsSymbolFound table most window PastMost = IsNoneFound table most window PastMost
IsSymbolFound table most window Cut = IsNoneFound table most window Cut
