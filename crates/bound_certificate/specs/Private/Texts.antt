-- Texts in bytes, as sets of byte lists, and where bytes are refused as the beginning of such a text.
use Rattle.std.specs.Prelude.{◌≡◌, ◌⊎◌, ℕ, zero, suc, ◌+◌, ◌*◌, ◌^◌, ◌<◌, ◌≤◌, ◌==◌, if◌then◌else◌, List, [], ◌∷◌, ◌++◌, length, slice_index}
use Rattle.std.specs.Int.{w16, w32, from_be_bytes}
use Rattle.bit_lists.specs.Fields.{AreBytes}
use Rattle.bound_certificate.specs.declared.fault.Stop.{Stop}
use Rattle.bound_certificate.specs.declared.fault.Stop.TheVariants.{At, OutOfMemory}
use Rattle.bound_certificate.specs.declared.read_node.Kind.{Kind}
use Rattle.bound_certificate.specs.declared.read_node.Kind.TheVariants.{Branch, Dual, Run, Open, Window, BufferWindow}
use Rattle.bound_certificate.specs.declared.cert.Node.{Node}
use Rattle.bound_certificate.specs.declared.cert.Node.TheVariants as nodes
use Rattle.bound_certificate.specs.Cert.{HasRoom}
use Rattle.bound_certificate.specs.Reading.{IsCertSyntaxRefusal}

-- one text behind another, where the first one decides what may follow
pub record Then (first : List ℕ → Type 0) (second : List ℕ → List ℕ → Type 0) (bytes : List ℕ) : Type 0 where
  pub front : List ℕ
  pub behind : List ℕ
  pub joined : bytes ≡ front ++ behind
  pub first_is : first front
  pub second_is : second front behind

-- one byte of some
pub record IsOneOf (allowed : ℕ → Type 0) (bytes : List ℕ) : Type 0 where
  pub byte : ℕ
  pub allows : allowed byte
  pub fits : byte < 2 ^ 8
  pub is : bytes ≡ byte ∷ []

-- a byte from one number to another
abbrev pub IsByte : (least most : ℕ) → List ℕ → Type 0
IsByte least most bytes = IsOneOf (λ byte. (least ≤ byte) × (byte ≤ most)) bytes

-- so many bytes
pub record IsBlock (count : ℕ) (bytes : List ℕ) : Type 0 where
  pub size : length bytes ≡ count
  pub are_bytes : AreBytes bytes

-- so many texts of one kind, one behind the other
abbrev pub AreTexts : ℕ → (List ℕ → Type 0) → List ℕ → Type 0
AreTexts zero text bytes = bytes ≡ []
AreTexts (suc n) text bytes = Then text (λ _ rest. AreTexts n text rest) bytes

-- bytes don't begin with a text, and the first byte that shows it has so many bytes from it on
pub record IsRefused (text : List ℕ → Type 0) (bytes : List ℕ) (left : ℕ) : Type 0 where
  pub before : List ℕ
  pub rest : List ℕ
  pub parts : bytes ≡ before ++ rest
  pub left_is : left ≡ length rest
  pub more : List ℕ
  pub begun : text (before ++ more)
  pub byte : (next : ℕ) (behind others : List ℕ) → rest ≡ next ∷ behind → text (before ++ next ∷ others) → ⊥
  pub whole : (front others : List ℕ) → bytes ≡ front ++ others → text front → ⊥

-- why a text wasn't read
abbrev pub IsStop : (List ℕ → Type 0) → List ℕ → Stop → Type 0
IsStop text bytes (At left) = AreBytes bytes → IsRefused text bytes left
IsStop text bytes OutOfMemory = Unit {0}

-- ---- the texts of a certificate's parts

-- the kinds of nodes in a version: 2, multipliers, in version 1 alone, 5, windows, in versions 2 and 3, and 6, windows that see the buffers, in
-- version 3 alone
abbrev pub IsKind : (version kind : ℕ) → Type 0
IsKind version zero = ⊥
IsKind version (suc zero) = Unit {0}
IsKind version (suc (suc zero)) = version ≡ 1
IsKind version (suc (suc (suc zero))) = Unit {0}
IsKind version (suc (suc (suc (suc zero)))) = Unit {0}
IsKind version (suc (suc (suc (suc (suc zero))))) = (version ≡ 2) ⊎ (version ≡ 3)
IsKind version (suc (suc (suc (suc (suc (suc zero)))))) = version ≡ 3
IsKind version (suc (suc (suc (suc (suc (suc (suc kind))))))) = ⊥

-- a count of up to 64, in two bytes
abbrev pub IsCount : List ℕ → Type 0
IsCount = Then (IsByte 0 0) (λ _. IsByte 0 64)

-- the count that two bytes hold, the first one being 0
abbrev pub count_of : List ℕ → ℕ
count_of bytes = slice_index bytes 1

-- a count and as many items of so many bytes
abbrev pub AreCounted : (size : ℕ) → List ℕ → Type 0
AreCounted size = Then IsCount (λ count. IsBlock (size * count_of count))

-- the greatest byte behind this one, where both are a number of up to 16 times 256
abbrev pub last_most : ℕ → ℕ
last_most second = if second == 16 then 0 else 255

-- a count of up to 4,096, in two bytes
abbrev pub IsLongCount : List ℕ → Type 0
IsLongCount = Then (IsByte 0 16) (λ high. IsByte 0 (last_most (slice_index high 0)))

-- such a count and as many items of so many bytes
abbrev pub AreLongCounted : (size : ℕ) → List ℕ → Type 0
AreLongCounted size = Then IsLongCount (λ count. IsBlock (size * from_be_bytes w16 count))

-- what stands behind a node's kind
abbrev pub IsBody : (kind : ℕ) → List ℕ → Type 0
IsBody zero bytes = bytes ≡ []
IsBody (suc zero) bytes = IsBlock 4 bytes
IsBody (suc (suc zero)) bytes = AreCounted 16 bytes
IsBody (suc (suc (suc zero))) bytes = IsByte 0 1 bytes
IsBody (suc (suc (suc (suc zero)))) bytes = bytes ≡ []
IsBody (suc (suc (suc (suc (suc zero))))) bytes = AreCounted 24 bytes
IsBody (suc (suc (suc (suc (suc (suc zero)))))) bytes = AreLongCounted 25 bytes
IsBody (suc (suc (suc (suc (suc (suc (suc kind))))))) bytes = bytes ≡ []

-- a node
abbrev pub IsNode : (version : ℕ) → List ℕ → Type 0
IsNode version = Then (IsOneOf (IsKind version)) (λ kind. IsBody (slice_index kind 0))

-- the mark at the front
abbrev pub IsMark : List ℕ → Type 0
IsMark = Then (IsByte 0x52 0x52) (λ _. Then (IsByte 0x4D 0x4D) (λ _. Then (IsByte 0x58 0x58) (λ _. IsByte 0x43 0x43)))

-- how many units there are and the version of each
abbrev pub IsChoice : List ℕ → Type 0
IsChoice = Then (IsBlock 4) (λ count. IsBlock (from_be_bytes w32 count))

-- the least fourth byte of the number of nodes, behind this second and third one
abbrev pub last_least : ℕ → ℕ → ℕ
last_least second third = if second + third == 0 then 1 else 0

-- the last byte of the number of nodes, behind the second and the third
abbrev pub AfterThird : (second third : List ℕ) → List ℕ → Type 0
AfterThird second third = IsByte (last_least (slice_index second 0) (slice_index third 0)) (last_most (slice_index second 0))

-- the last two bytes of the number of nodes, behind the second
abbrev pub AfterSecond : (second : List ℕ) → List ℕ → Type 0
AfterSecond second = Then (IsByte 0 (last_most (slice_index second 0))) (AfterThird second)

-- the last three bytes of the number of nodes
abbrev pub AfterFirst : List ℕ → Type 0
AfterFirst = Then (IsByte 0 16) AfterSecond

-- the number of nodes, from 1 to 2^20
abbrev pub IsNodeCount : List ℕ → Type 0
IsNodeCount = Then (IsByte 0 0) (λ _. AfterFirst)

-- how many nodes there are and each of them
abbrev pub IsTree : (version : ℕ) → List ℕ → Type 0
IsTree version = Then IsNodeCount (λ count. AreTexts (from_be_bytes w32 count) (IsNode version))

-- a certificate
abbrev pub IsText : List ℕ → Type 0
IsText = Then IsMark (λ _. Then (IsByte 1 3) (λ version. Then (IsBlock 16) (λ _. Then IsChoice (λ _. IsTree (slice_index version 0)))))

-- why whole bytes are no certificate's
abbrev pub IsWholeStop : List ℕ → Stop → Type 0
IsWholeStop bytes (At left) = AreBytes bytes → (n : ℕ) × (n + left ≡ length bytes) × IsCertSyntaxRefusal bytes n
IsWholeStop bytes OutOfMemory = Unit {0}

-- the first byte of a node of this kind
abbrev pub code_of : Kind → ℕ
code_of Branch = 1
code_of Dual = 2
code_of Run = 3
code_of Open = 4
code_of Window = 5
code_of BufferWindow = 6

-- a node of this kind whose numbers have room
abbrev pub IsOfKind : Kind → Node → Type 0
IsOfKind Branch (nodes.Branch unit) = HasRoom (nodes.Branch unit)
IsOfKind Dual (nodes.Dual priced) = HasRoom (nodes.Dual priced)
IsOfKind Run (nodes.Run scheduled) = Unit {0}
IsOfKind Open nodes.Open = Unit {0}
IsOfKind Window (nodes.Window priced) = HasRoom (nodes.Window priced)
IsOfKind BufferWindow (nodes.BufferWindow priced) = HasRoom (nodes.BufferWindow priced)
IsOfKind kind node = ⊥
