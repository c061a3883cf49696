-- Which records are certificates.
use Rattle.std.specs.Prelude.{◌≡◌, ℕ, ◌^◌, ◌<◌, ◌≤◌, ◌⊎◌, length}
use Rattle.std.specs.List.{AllByRecursion}
use Rattle.bit_lists.specs.Fields.{AreBytes}
use Rattle.version_table.specs.declared.limits.TheConstants.{NODES_MOST}
use Rattle.dual_bounds.specs.declared.constants.TheConstants.{WINDOWS_MOST}
use Rattle.dual_bounds.specs.declared.windows.Multiplier.{Multiplier}
use Rattle.dual_bounds.specs.declared.windows.Window.{Window as PricedWindow}
use Rattle.buffer_windows.specs.declared.constants.TheConstants.{BUFFER_WINDOWS_MOST}
use Rattle.buffer_windows.specs.declared.windows.BufferWindow.{BufferWindow as SeeingWindow}
use Rattle.bound_certificate.specs.declared.cert.Node.{Node}
use Rattle.bound_certificate.specs.declared.cert.Node.TheVariants.{Branch, Dual, Run, Open, Window, BufferWindow}
use Rattle.bound_certificate.specs.declared.cert.Cert.{Cert}

-- the numbers of a multiplier are below 2^64
abbrev pub IsStatedMultiplier : Multiplier → Type 0
IsStatedMultiplier multiplier = (multiplier.due < 2 ^ 64) × (multiplier.lambda < 2 ^ 64)

-- the numbers of a window are below 2^64
abbrev pub IsStatedWindow : PricedWindow → Type 0
IsStatedWindow window = (window.from < 2 ^ 64) × (window.due < 2 ^ 64) × (window.lambda < 2 ^ 64)

-- the numbers of a window that sees the buffers are below 2^32, but its programs below 2^8, its due time and lambda below 2^64
abbrev pub IsStatedBufferWindow : SeeingWindow → Type 0
IsStatedBufferWindow window = (window.first < 2 ^ 32) × (window.due < 2 ^ 64) × (window.programs < 2 ^ 8) × (window.tail < 2 ^ 32) × (window.lambda < 2 ^ 64)

-- multipliers stand in version 1 alone, windows in versions 2 and 3, windows that see the buffers in version 3 alone; the other nodes stand in
-- each
abbrev pub IsOfVersion : (version : ℕ) → Node → Type 0
IsOfVersion version (Branch unit) = Unit {0}
IsOfVersion version (Dual priced) = version ≡ 1
IsOfVersion version (Run scheduled) = Unit {0}
IsOfVersion version Open = Unit {0}
IsOfVersion version (Window priced) = (version ≡ 2) ⊎ (version ≡ 3)
IsOfVersion version (BufferWindow priced) = version ≡ 3

-- the numbers of a node have room in its bytes, and it has up to 64 multipliers or windows, or up to 4,096 windows that see the buffers
abbrev pub HasRoom : Node → Type 0
HasRoom (Branch unit) = unit < 2 ^ 32
HasRoom (Dual priced) = (length priced.items ≤ WINDOWS_MOST) × AllByRecursion IsStatedMultiplier priced.items
HasRoom (Run scheduled) = Unit {0}
HasRoom Open = Unit {0}
HasRoom (Window priced) = (length priced.items ≤ WINDOWS_MOST) × AllByRecursion IsStatedWindow priced.items
HasRoom (BufferWindow priced) = (length priced ≤ BUFFER_WINDOWS_MOST) × AllByRecursion IsStatedBufferWindow priced

-- a node that may stand in a certificate of this version
abbrev pub NodeMayStand : (version : ℕ) → Node → Type 0
NodeMayStand version node = IsOfVersion version node × HasRoom node

-- a certificate: of version 1, 2 or 3, with 1 to 1,048,576 nodes of that version, and numbers that have room in their bytes
pub record IsCert (cert : Cert) : Type 0 where
  pub version : (cert.version ≡ 1) ⊎ (cert.version ≡ 2) ⊎ (cert.version ≡ 3)
  pub bound : cert.bound < 2 ^ 64
  pub distortion : cert.distortion < 2 ^ 64
  pub few_units : length cert.choice < 2 ^ 32
  pub choice : AreBytes cert.choice
  pub some_nodes : 1 ≤ length cert.nodes
  pub few_nodes : length cert.nodes ≤ NODES_MOST
  pub nodes : AllByRecursion (NodeMayStand cert.version) cert.nodes
