-- Worked examples, computed by the check: the bytes of a node of windows that see the buffers, and in which versions it stands.
use Rattle.std.proofs.Common.{◌≡◌, ℕ, List, [], ◌∷◌, refl, arith, inl, inr}
use Rattle.std.specs.Int.{w16, w32, w64, to_be_bytes}
use Rattle.std.specs.List.{flat_map}
use Rattle.buffer_windows.specs.declared.windows.BufferWindow.{BufferWindow as SeeingWindow}
use Rattle.dual_bounds.specs.declared.windows.Window.{Window as PricedWindow}
use Rattle.bound_certificate.specs.declared.cert.Node.{Node}
use Rattle.bound_certificate.specs.declared.cert.Node.TheVariants.{Branch, Dual, Run, Open, Window, BufferWindow}
use Rattle.bound_certificate.specs.Cert.{IsOfVersion}
use Rattle.bound_certificate.specs.Spelling.{bytes_of_node}

-- slots 10 to 20, due by 27,200, the buffers of programs 0 and 2, 2,560 parts of a distortion a byte
one_window : SeeingWindow
one_window = record { first = 10; due = 27200; programs = 5; tail = 20; lambda = 2560 }

its_node : Node
its_node = BufferWindow (one_window ∷ [])

its_bytes : List ℕ
its_bytes =
    0x06 ∷ 0 ∷ 1
    ∷ 0 ∷ 0 ∷ 0 ∷ 0x0A
    ∷ 0 ∷ 0 ∷ 0 ∷ 0 ∷ 0 ∷ 0 ∷ 0x6A ∷ 0x40
    ∷ 0x05
    ∷ 0 ∷ 0 ∷ 0 ∷ 0x14
    ∷ 0 ∷ 0 ∷ 0 ∷ 0 ∷ 0 ∷ 0 ∷ 0x0A ∷ 0 ∷ []

node_is_spelled : bytes_of_node its_node ≡ its_bytes
unfolding one_window its_node its_bytes bytes_of_node
node_is_spelled = refl

no_window_is_spelled : bytes_of_node (BufferWindow []) ≡ 0x06 ∷ 0 ∷ 0 ∷ []
unfolding bytes_of_node
no_window_is_spelled = refl

-- it stands in version 3 and not in version 2, where windows of time do, as in version 3
in_version_3 : IsOfVersion 3 its_node
unfolding its_node
in_version_3 = refl

not_in_version_2 : IsOfVersion 2 its_node → ⊥
unfolding its_node
not_in_version_2 is = omega (arith, is)

windows_in_version_2 : IsOfVersion 2 (Window (record { items = [] }))
windows_in_version_2 = inl refl

windows_in_version_3 : IsOfVersion 3 (Window (record { items = [] }))
windows_in_version_3 = inr refl

no_multipliers_in_version_3 : IsOfVersion 3 (Dual (record { items = [] })) → ⊥
no_multipliers_in_version_3 is = omega (arith, is)
