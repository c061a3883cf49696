-- The names in a table are the keys of its map.
use Rattle.std.proofs.Common.{◌≡◌, ℕ, Bool, ◌&&◌, List, [], ◌∷◌, refl, ap, String, Global, string_bytes}
use Rattle.std.specs.List.{list_all}
use Rattle.std.specs.Map.{keys_of}
use Rattle.toml.specs.View.{members_view}
use Rattle.toml.specs.declared.value.Value.{Value}
use Rattle.job_report.specs.Refusal.{names_in}

pub list_all-names_in : (p : List ℕ → Bool) (entries : List (String Global × Value)) → list_all p (names_in (members_view entries)) ≡ list_all (λ key. p (string_bytes key)) (keys_of entries)
list_all-names_in p [] = refl
list_all-names_in p (entry ∷ entries) = ap (λ b. p (string_bytes entry.0) && b) (list_all-names_in p entries)
