-- A header, and a first frame, in bytes that more follow.
use Rattle.std.proofs.Common.{◌≡◌, ℕ, ◌+◌, ◌*◌, ◌/◌, ◌%◌, ◌≤◌, ◌<◌, ◌==◌, nat_le, Bool, true, false, cond, ◌&&◌, ◌||◌, List, ◌++◌, length, drop, get_or, Some, None, refl, sym, ap, ap₂, ◌∙◌, arith, length-append, length-drop}
use Rattle.std.proofs.Math.ListN.{get_or-append}
use Rattle.std.proofs.lemmas.List.{drop-append-le}
use Rattle.std.proofs.lemmas.Bool.{and_left, le-leb, le-ltb}
use Rattle.audio_frames.specs.declared.frame_header.FrameHeader.{FrameHeader}
use Rattle.audio_frames.specs.FrameHeader.{syncword, id, layer, bit_rate_index, sampling_index, padding_bit, frame_length, is_header}
use Rattle.audio_frames.specs.Format.{header_of}
use Rattle.audio_frames.specs.Private.Format.{has_format}
use Rattle.audio_frames.specs.Frames.{end_of, goes_on, is_near_end, is_first}
use Rattle.audio_frames.specs.Walk.{NeverFirst}
use Rattle.audio_frames.proofs.Elements.{syncword-is, id-is, layer-is, bit_rate_index-is, sampling_index-is, padding_bit-is}
use Rattle.audio_frames.proofs.Formats.{format_goes_on, kept_length, header_stands}

module _ (bytes more : List ℕ) (long : 4 ≤ length bytes) where
  byte_more : (i : ℕ) → i < 4 → get_or (bytes ++ more) i 0 ≡ get_or bytes i 0
  byte_more i few = get_or-append bytes more 0 i (omega (arith, long, few))

  pub syncword_more : syncword (bytes ++ more) ≡ syncword bytes
  syncword_more =
      syncword-is (bytes ++ more) ∙ ap₂ (λ (a b : ℕ). a % 256 * 16 + b / 16 % 16) (byte_more 0 (omega arith)) (byte_more 1 (omega arith)) ∙ sym (syncword-is bytes)

  id_more : id (bytes ++ more) ≡ id bytes
  id_more = id-is (bytes ++ more) ∙ ap (λ (b : ℕ). b / 8 % 2) (byte_more 1 (omega arith)) ∙ sym (id-is bytes)

  layer_more : layer (bytes ++ more) ≡ layer bytes
  layer_more = layer-is (bytes ++ more) ∙ ap (λ (b : ℕ). b / 2 % 4) (byte_more 1 (omega arith)) ∙ sym (layer-is bytes)

  rate_more : bit_rate_index (bytes ++ more) ≡ bit_rate_index bytes
  rate_more = bit_rate_index-is (bytes ++ more) ∙ ap (λ (b : ℕ). b / 16 % 16) (byte_more 2 (omega arith)) ∙ sym (bit_rate_index-is bytes)

  index_more : sampling_index (bytes ++ more) ≡ sampling_index bytes
  index_more = sampling_index-is (bytes ++ more) ∙ ap (λ (b : ℕ). b / 4 % 4) (byte_more 2 (omega arith)) ∙ sym (sampling_index-is bytes)

  padding_more : padding_bit (bytes ++ more) ≡ padding_bit bytes
  padding_more = padding_bit-is (bytes ++ more) ∙ ap (λ (b : ℕ). b / 2 % 2) (byte_more 2 (omega arith)) ∙ sym (padding_bit-is bytes)

  long_more : nat_le 4 (length (bytes ++ more)) ≡ nat_le 4 (length bytes)
  long_more = le-leb 4 (length (bytes ++ more)) (omega (arith, long, length-append bytes more)) ∙ sym (le-leb 4 (length bytes) long)

  abbrev passes : Bool → ℕ → ℕ → ℕ → ℕ → Bool
  passes wide sync kind rate index = wide && (sync == 0xFFF) && (kind == 2) && nat_le 1 rate && nat_le rate 14 && nat_le index 2

  pub header_more : is_header (bytes ++ more) ≡ is_header bytes
  header_more = λ i. passes (long_more i) (syncword_more i) (layer_more i) (rate_more i) (index_more i)

  pub length_more : frame_length (bytes ++ more) ≡ frame_length bytes
  length_more = rw (id_more, rate_more, index_more, padding_more) refl

  pub kept_more : header_of (bytes ++ more) ≡ header_of bytes
  kept_more = λ i. cond (header_more i) (Some (record { id = id_more i; sampling_index = index_more i; len = length_more i })) None

  pub format_more : (format : FrameHeader) → has_format format (bytes ++ more) ≡ has_format format bytes
  format_more format = λ i. header_more i && ((format.id == id_more i) && (format.sampling_index == index_more i))

-- bytes without a header begin no first frame
pub never_first : (bytes : List ℕ) → 4 ≤ length bytes → is_header bytes ≡ false → NeverFirst bytes 0
never_first bytes long none = λ more. and_left _ _ (header_more bytes more long ∙ none)

module _ (bytes more : List ℕ) (header : FrameHeader) (is : header_of bytes ≡ Some header) (long : 4 ≤ length bytes) (far : header.len + 4 ≤ length bytes) where
  end_is : end_of (bytes ++ more) 0 ≡ header.len
  end_is = omega (arith, length_more bytes more long, kept_length bytes header is)

  behind_is : drop header.len (bytes ++ more) ≡ drop header.len bytes ++ more
  behind_is = drop-append-le header.len bytes more (omega (arith, far))

  pub goes_is : goes_on (bytes ++ more) 0 (end_of (bytes ++ more) 0) ≡ has_format header (drop header.len bytes)
  goes_is =
      ap (goes_on (bytes ++ more) 0) end_is
      ∙ sym (format_goes_on (bytes ++ more) 0 header.len header (kept_more bytes more long ∙ is))
      ∙ ap (has_format header) behind_is
      ∙ format_more (drop header.len bytes) more (omega (arith, far, length-drop header.len bytes)) header

  pub near_is : is_near_end (bytes ++ more) (end_of (bytes ++ more) 0) ≡ false
  near_is = ap (is_near_end (bytes ++ more)) end_is ∙ le-ltb (length (bytes ++ more)) (header.len + 4) (omega (arith, far, length-append bytes more))

  pub first_is : is_first (bytes ++ more) 0 ≡ has_format header (drop header.len bytes)
  first_is = by_parts _ _ _ _ _ (header_more bytes more long ∙ header_stands bytes header is) goes_is near_is
    where
      by_parts : (here next whole near on : Bool) → here ≡ true → next ≡ on → near ≡ false → (here && (next || (whole && near))) ≡ on
      by_parts here next whole near on h n f = rw (h, n, f) (last whole on)
        where
          last : (whole on : Bool) → (on || (whole && false)) ≡ on
          last true true = refl
          last true false = refl
          last false true = refl
          last false false = refl
