-- Layouts, program by program.
use Rattle.std.proofs.Common.{◌≡◌, ℕ, suc, ◌+◌, ◌^◌, ◌<◌, ◌≤◌, List, [], ◌∷◌, ◌++◌, All, length, map, refl, sym, ap, subst, ◌∙◌, arith, inl, inr, length-append}
use Rattle.std.specs.Prelude.{slice_get, Some}
use Rattle.std.specs.List.{flat_map, range_with_len}
use Rattle.std.proofs.lemmas.List.Elements.{All-cons, All-head, All-nil, All-push, All-tail}
use Rattle.std.proofs.lemmas.Option.{slice_get_within}
use Rattle.slot_rule.proofs.CheckpointLaws.{push_cases}
use Rattle.psi_tables.specs.declared.program_map.ProgramMap.{ProgramMap}
use Rattle.psi_tables.specs.declared.stream.Stream.{Stream}
use Rattle.psi_tables.specs.Pmt.{IsWritableMap, pmt_length}
use Rattle.psi_tables.specs.Streams.{IsStreamWritable, written_stream}
use Rattle.pcr_writer.specs.declared.pcr.TheConstants.{PCR_MODULUS}
use Rattle.mux_writer.specs.declared.layout.Layout.{Layout}
use Rattle.mux_writer.specs.Layout.{video_pid, with_pids_from, with_output_pids, IsOutputMap, IsLayout}

-- ---- a map that goes out

length-with_pids : (first : ℕ) (streams : List Stream) → length (with_pids_from first streams) ≡ length streams
length-with_pids first [] = refl
length-with_pids first (stream ∷ streams) = ap suc (length-with_pids (first + 1) streams)

pids-in_order : (first : ℕ) (streams : List Stream) → map (λ (stream : Stream). stream.pid) (with_pids_from first streams) ≡ range_with_len first (length (with_pids_from first streams))
pids-in_order first [] = refl
pids-in_order first (stream ∷ streams) = ap (λ (pids : List ℕ). first ∷ pids) (pids-in_order (first + 1) streams)

with_pids-writable : (first : ℕ) (streams : List Stream) → first + length streams ≤ 2 ^ 13 → All IsStreamWritable streams → All IsStreamWritable (with_pids_from first streams)
with_pids-writable first [] below all = All-nil IsStreamWritable
with_pids-writable first (stream ∷ streams) below all =
    let is : IsStreamWritable stream = All-head IsStreamWritable stream streams all in
    All-cons IsStreamWritable (record stream { pid = first }) (with_pids_from (first + 1) streams)
    (record { pid = omega (arith, below); descriptors = is.descriptors; descriptors_are = is.descriptors_are; kept = is.kept })
    (with_pids-writable (first + 1) streams (omega (arith, below)) (All-tail IsStreamWritable stream streams all))

with_pids-written : (first : ℕ) (streams : List Stream) → length (flat_map written_stream (with_pids_from first streams)) ≡ length (flat_map written_stream streams)
with_pids-written first [] = refl
with_pids-written first (stream ∷ streams) =
    length-append (written_stream (record stream { pid = first })) (flat_map written_stream (with_pids_from (first + 1) streams))
    ∙ ap (λ (n : ℕ). length (written_stream stream) + n) (with_pids-written (first + 1) streams)
    ∙ sym (length-append (written_stream stream) (flat_map written_stream streams))

-- a program's map goes out once it has the PIDs of its place
pub goes-out : (program number : ℕ) (program_map : ProgramMap) → program < 8 → IsWritableMap program_map → length program_map.streams.items ≤ 9 → pmt_length program_map ≤ 183
    → IsOutputMap program (with_output_pids program number program_map)
goes-out program number program_map few writable streams fits = record {
  pcr = refl;
  pids = pids-in_order (video_pid program) program_map.streams.items;
  few = omega (arith, streams, length-with_pids (video_pid program) program_map.streams.items);
  writable = record {
    pcr = omega (arith, few);
    streams = with_pids-writable (video_pid program) program_map.streams.items (omega (arith, few, streams)) writable.streams;
  };
  fits = omega (arith, fits, with_pids-written (video_pid program) program_map.streams.items);
}

-- ---- programs, one after another

no-maps : (program : ℕ) (program_map : ProgramMap) → slice_get {X = ProgramMap} [] program ≡ Some program_map → IsOutputMap program program_map
no-maps program program_map is = absurd (omega (arith, slice_get_within {A = ProgramMap} [] program program_map is))

pub layout-begins : (layout : Layout) → layout.maps.items ≡ [] → layout.bases.items ≡ [] → IsLayout layout
layout-begins layout maps bases = record {
  maps = λ program program_map found. no-maps program program_map (subst (λ (list : List ProgramMap). slice_get list program ≡ Some program_map) maps found);
  one_base_each = ap length bases ∙ sym (ap length maps);
  bases = subst (All (λ (base : ℕ). base < PCR_MODULUS)) (sym bases) (All-nil (λ (base : ℕ). base < PCR_MODULUS));
}

pub layout-more : (before after : Layout) (program_map : ProgramMap) (base : ℕ) → IsLayout before → IsOutputMap (length before.maps.items) program_map → base < PCR_MODULUS
    → after.maps.items ≡ before.maps.items ++ program_map ∷ [] → after.bases.items ≡ before.bases.items ++ base ∷ [] → IsLayout after
layout-more before after program_map base is goes below maps bases = record {
  maps = λ program found found-is.
      elim (push_cases before.maps.items program_map found program (subst (λ (list : List ProgramMap). slice_get list program ≡ Some found) maps found-is)) [
        | inl old ↦ is.maps program found old.1
        | inr new ↦ subst (λ (m : ProgramMap). IsOutputMap program m) new.1 (subst (λ (n : ℕ). IsOutputMap n program_map) (sym new.0) goes)
      ];
  one_base_each = omega (
    arith,
    is.one_base_each,
    ap length maps,
    ap length bases,
    length-append before.maps.items (program_map ∷ []),
    length-append before.bases.items (base ∷ []),
  );
  bases = subst (All (λ (b : ℕ). b < PCR_MODULUS)) (sym bases) (All-push (λ (b : ℕ). b < PCR_MODULUS) before.bases.items base is.bases below);
}
