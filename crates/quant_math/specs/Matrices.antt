use Rattle.std.specs.Prelude.{ℕ, Bool, true, false, List, [], ◌∷◌, replicate}

-- the default matrix of intra blocks, in raster order (ISO/IEC 13818-2, 6.3.11)
abbrev pub default_intra_matrix : List ℕ
default_intra_matrix =
    8 ∷ 16 ∷ 19 ∷ 22 ∷ 26 ∷ 27 ∷ 29 ∷ 34
    ∷ 16 ∷ 16 ∷ 22 ∷ 24 ∷ 27 ∷ 29 ∷ 34 ∷ 37
    ∷ 19 ∷ 22 ∷ 26 ∷ 27 ∷ 29 ∷ 34 ∷ 34 ∷ 38
    ∷ 22 ∷ 22 ∷ 26 ∷ 27 ∷ 29 ∷ 34 ∷ 37 ∷ 40
    ∷ 22 ∷ 26 ∷ 27 ∷ 29 ∷ 32 ∷ 35 ∷ 40 ∷ 48
    ∷ 26 ∷ 27 ∷ 29 ∷ 32 ∷ 35 ∷ 40 ∷ 48 ∷ 58
    ∷ 26 ∷ 27 ∷ 29 ∷ 34 ∷ 38 ∷ 46 ∷ 56 ∷ 69
    ∷ 27 ∷ 29 ∷ 35 ∷ 38 ∷ 46 ∷ 56 ∷ 69 ∷ 83 ∷ []

-- the matrix of a sequence header that loads none, in raster order (ISO/IEC 13818-2, 6.3.11)
abbrev pub default_weights : Bool → List ℕ
default_weights true = default_intra_matrix
default_weights false = replicate 64 16
