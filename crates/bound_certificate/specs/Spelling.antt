-- The one spelling of a certificate in bytes. Numbers have no sign, and their most significant byte comes first.
use Rattle.std.specs.Prelude.{ℕ, List, [], ◌∷◌, ◌++◌, length}
use Rattle.std.specs.List.{flat_map}
use Rattle.std.specs.Int.{w16, w32, w64, to_be_bytes}
use Rattle.bit_lists.specs.Fields.{flag}
use Rattle.dual_bounds.specs.declared.windows.Multiplier.{Multiplier}
use Rattle.dual_bounds.specs.declared.windows.Window.{Window as PricedWindow}
use Rattle.buffer_windows.specs.declared.windows.BufferWindow.{BufferWindow as SeeingWindow}
use Rattle.bound_certificate.specs.declared.cert.Node.{Node}
use Rattle.bound_certificate.specs.declared.cert.Node.TheVariants.{Branch, Dual, Run, Open, Window, BufferWindow}
use Rattle.bound_certificate.specs.declared.cert.Cert.{Cert}

-- the letters RMXC, with which a certificate begins
abbrev pub mark : List ℕ
mark = 0x52 ∷ 0x4D ∷ 0x58 ∷ 0x43 ∷ []

-- a multiplier: its due time and its lambda, of 8 bytes each
abbrev pub bytes_of_multiplier : Multiplier → List ℕ
bytes_of_multiplier multiplier = to_be_bytes w64 multiplier.due ++ to_be_bytes w64 multiplier.lambda

-- a window: where it begins, its due time and its lambda, of 8 bytes each
abbrev pub bytes_of_window : PricedWindow → List ℕ
bytes_of_window window = to_be_bytes w64 window.from ++ (to_be_bytes w64 window.due ++ to_be_bytes w64 window.lambda)

-- a window that sees the buffers: its first slot in 4 bytes, its due time in 8, its programs in 1, its tail slot in 4, its lambda in 8
abbrev pub bytes_of_buffer_window : SeeingWindow → List ℕ
bytes_of_buffer_window window =
    to_be_bytes w32 window.first ++ (to_be_bytes w64 window.due ++ (window.programs ∷ (to_be_bytes w32 window.tail ++ to_be_bytes w64 window.lambda)))

-- a node: its kind, then the number of its unit in 4 bytes, a count of 2 bytes and as many multipliers or windows, a flag, or nothing
unfoldable pub bytes_of_node : Node → List ℕ
bytes_of_node (Branch unit) = 0x01 ∷ to_be_bytes w32 unit
bytes_of_node (Dual priced) = 0x02 ∷ (to_be_bytes w16 (length priced.items) ++ flat_map bytes_of_multiplier priced.items)
bytes_of_node (Run scheduled) = 0x03 ∷ flag scheduled ∷ []
bytes_of_node Open = 0x04 ∷ []
bytes_of_node (Window priced) = 0x05 ∷ (to_be_bytes w16 (length priced.items) ++ flat_map bytes_of_window priced.items)
bytes_of_node (BufferWindow priced) = 0x06 ∷ (to_be_bytes w16 (length priced) ++ flat_map bytes_of_buffer_window priced)

-- a certificate: mark, version, bound and distortion; how many units there are and the version that is sent of each; how many nodes
-- there are and each of them
unfoldable pub cert_spelling : Cert → List ℕ
cert_spelling cert =
    mark
    ++ (cert.version ∷ (to_be_bytes w64 cert.bound
    ++ (to_be_bytes w64 cert.distortion
    ++ (to_be_bytes w32 (length cert.choice)
    ++ (cert.choice
    ++ (to_be_bytes w32 (length cert.nodes)
    ++ flat_map bytes_of_node cert.nodes))))))
