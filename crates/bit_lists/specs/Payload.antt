-- Payloads of transport packets (ISO/IEC 13818-1, 2.4.3.3).
use Rattle.std.specs.Prelude.{ℕ, nat_lt, Bool, ◌&&◌, List, length, refl}
use Rattle.std.specs.Coded.{Coded, code_by, coded×, coded_bool, coded_list, coded_ℕ}

-- a packet's payload_unit_start_indicator and its payload
pub record Payload : Type 0 where
  pub start : Bool
  pub bytes : List ℕ

-- by this code a proof tells payloads apart
abbrev pub payload_code : Coded Payload
payload_code =
    code_by (Bool × List ℕ) (coded× coded_bool (coded_list coded_ℕ))
    (λ payload. (payload.start, payload.bytes)) (λ pair. record { start = pair.0; bytes = pair.1 }) (λ _. refl)

-- a section or a PES packet begins in the payload; the start flag of one without bytes means nothing
abbrev pub is_start : Payload → Bool
is_start payload = payload.start && nat_lt 0 (length payload.bytes)

-- a payload, and the place in the file of the packet that carries it
pub record CarriedPayload : Type 0 where
  pub at : ℕ
  pub payload : Payload
