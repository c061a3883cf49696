-- Windows that see the buffers in order, and one more behind them.
use Rattle.std.proofs.Common.{◌≡◌, ℕ, ◌+◌, List, [], ◌∷◌, ◌++◌, length, get_or, subst, sym, ap, ◌∙◌, inl, inr, arith}
use Rattle.std.proofs.lemmas.Bool.{cases_lt}
use Rattle.std.proofs.lemmas.List.{get_or_append_left, length-append}
use Rattle.std.proofs.lemmas.List.Elements.{All-nil, All-push}
use Rattle.std.proofs.Math.Seq.{get_or-append_seam}
use Rattle.version_table.specs.declared.table.Table.{Table}
use Rattle.buffer_windows.specs.declared.windows.BufferWindow.{BufferWindow}
use Rattle.multiplier_search.specs.Buffered.{AreSearchedBuffered, IsSoundBuffered, PrecedesBuffered}

pub searched-none : (table : Table) → AreSearchedBuffered table []
searched-none table = record { sound = All-nil (IsSoundBuffered table); rise = λ k d within. absurd (omega arith) }

pub searched-push : (table : Table) (windows : List BufferWindow) (window : BufferWindow) → AreSearchedBuffered table windows → IsSoundBuffered table window
    → ((k : ℕ) (d : BufferWindow) → k + 1 ≡ length windows → PrecedesBuffered (get_or windows k d) window) → AreSearchedBuffered table (windows ++ window ∷ [])
searched-push table windows window searched sound behind =
    record {
      sound = All-push (IsSoundBuffered table) windows window searched.sound sound;
      rise = λ k d within.
          let size : length (windows ++ window ∷ []) ≡ length windows + 1 = length-append windows (window ∷ []) in
          let own : get_or (windows ++ window ∷ []) k d ≡ get_or windows k d = get_or_append_left windows (window ∷ []) d k (omega arith) in
          elim (cases_lt (k + 1) (length windows)) as (λ _. PrecedesBuffered (get_or (windows ++ window ∷ []) k d) (get_or (windows ++ window ∷ []) (k + 1) d)) [
            | inl before ↦
                (let next : get_or (windows ++ window ∷ []) (k + 1) d ≡ get_or windows (k + 1) d = get_or_append_left windows (window ∷ []) d (k + 1) before in
                subst (λ (a : BufferWindow). PrecedesBuffered a (get_or (windows ++ window ∷ []) (k + 1) d)) (sym own)
                (subst (λ (b : BufferWindow). PrecedesBuffered (get_or windows k d) b) (sym next) (searched.rise k d before)))
            | inr last ↦
                (let place : k + 1 ≡ length windows = omega arith in
                let next : get_or (windows ++ window ∷ []) (k + 1) d ≡ window =
                ap (λ n. get_or (windows ++ window ∷ []) n d) place ∙ get_or-append_seam windows window [] d in
                subst (λ (a : BufferWindow). PrecedesBuffered a (get_or (windows ++ window ∷ []) (k + 1) d)) (sym own)
                (subst (λ (b : BufferWindow). PrecedesBuffered (get_or windows k d) b) (sym next) (behind k d place)))
          ];
    }
