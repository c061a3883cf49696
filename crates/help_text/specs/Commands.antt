-- The commands that a text tells.
use Rattle.std.specs.Prelude.{◌≡◌, ◌⊎◌, ℕ, List, codes}

-- a text that is the name of a command
abbrev pub IsVerb : List ℕ → Type 0
IsVerb name = (name ≡ codes "run") ⊎ ((name ≡ codes "check") ⊎ ((name ≡ codes "fit") ⊎ ((name ≡ codes "plan") ⊎ ((name ≡ codes "check-plan")
    ⊎ ((name ≡ codes "impossible") ⊎ ((name ≡ codes "probe") ⊎ ((name ≡ codes "audit") ⊎ (name ≡ codes "gen"))))))))
