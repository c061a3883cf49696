-- Facts about a whole table, each shown by computing a test over it.
use Rattle.std.proofs.Common.{◌≡◌, ℕ, ◌<◌, List, Bool, true, length, get_or}
use Rattle.std.specs.List.{list_all}
use Rattle.std.proofs.lemmas.List.Sums.{AllPass-from_list_all}
use Rattle.std.proofs.lemmas.List.Elements.{All-get_or}

-- where a test passes at all entries of a table, it passes at each
pub entry_passes : (test : ℕ → Bool) (xs : List ℕ) (k : ℕ) → list_all test xs ≡ true → k < length xs → test (get_or xs k 0) ≡ true
entry_passes test xs k passes within =
    All-get_or (λ x. test x ≡ true) xs k 0 within (AllPass-from_list_all test xs passes)
