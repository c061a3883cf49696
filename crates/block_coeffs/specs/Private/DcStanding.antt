-- What is found at the front of a window, where a DC coefficient must stand (ISO/IEC 13818-2, 7.2.1).
use Rattle.std.specs.Prelude.{◌≡◌, ◌≤◌, ℕ, Some, List, [], drop}
use Rattle.prefix_codes.specs.declared.table_name.TableName.{TableName}
use Rattle.prefix_codes.specs.TableName.{code_in}
use Rattle.syntax_types.specs.declared.block.Dc.{Dc}
use Rattle.picture_grammar.specs.Refusal.Refusal.{NoCode}
use Rattle.picture_grammar.specs.Grammar.{Grammar, done, ◌>>=◌}
use Rattle.picture_grammar.specs.Element.{IsRefused, vlclbf, uimsbf}
use Rattle.grammar_reading.specs.declared.window.BitWindow.{BitWindow}
use Rattle.block_coeffs.specs.declared.why.Why.{Why}
use Rattle.block_coeffs.specs.declared.dc_standing.DcStanding.{DcStanding}
use Rattle.block_coeffs.specs.declared.dc_standing.DcStanding.TheVariants.{Coefficient, Refused}
use Rattle.block_coeffs.specs.Private.Why.{refusal_of}
use Rattle.grammar_reading.specs.Window.{seen, ShowsFront}

-- a DC coefficient by a table of sizes
abbrev pub dc_by : TableName → Grammar Dc
dc_by table = do
  size ← vlclbf table NoCode []
  bits ← uimsbf size []
  done (record { size = size; bits = bits })

-- for this reason the bits begin with no size
abbrev pub IsWhyNoSize : TableName → Why → List ℕ → Type 0
IsWhyNoSize table reason bits = IsRefused (λ symbol code. code_in table symbol ≡ Some code) NoCode [] bits (refusal_of reason)

-- what is found there stands there, and a refusal is that of all bits that the window shows
abbrev pub IsDcFound : TableName → BitWindow → DcStanding → Type 0
IsDcFound table window (Coefficient dc len) = (len ≤ window.known) × (dc_by table).Spells dc (seen window len) []
IsDcFound table window (Refused why behind) =
    (behind ≤ window.known) × ((bits : List ℕ) → ShowsFront window bits → (dc_by table).Refuses bits (refusal_of why) (drop behind bits))
