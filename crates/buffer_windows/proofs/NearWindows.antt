-- Windows that are near: none, one more, and one that can't charge.
use Rattle.std.proofs.Common.{◌≡◌, ℕ, ◌+◌, ◌*◌, ◌<◌, List, [], ◌∷◌, ◌++◌, take, length, get_or, ap, arith}
use Rattle.std.proofs.lemmas.List.Sums.{sum_by_push}
use Rattle.buffer_windows.specs.declared.windows.BufferWindow.{BufferWindow}
use Rattle.buffer_windows.specs.Charges.{charged_bytes as charge}
use Rattle.buffer_windows.specs.Private.Prices.{charged_by}
use Rattle.buffer_windows.proofs.OwnedCosts.{charged_next}

pub charged_push : (slot : ℕ) (windows : List BufferWindow) (window : BufferWindow) (program due bytes : ℕ)
    → charged_by slot (windows ++ window ∷ []) program due bytes ≡ charged_by slot windows program due bytes + window.lambda * charge slot window program due bytes
unfolding charged_by
charged_push slot windows window program due bytes = sum_by_push (λ (w : BufferWindow). w.lambda * charge slot w program due bytes) windows window

-- one window more charges the same on both sides
pub alike_more : (slot : ℕ) (near windows : List BufferWindow) (program due bytes i : ℕ) (d : BufferWindow) → i < length windows
    → charged_by slot near program due bytes ≡ charged_by slot (take i windows) program due bytes
    → charged_by slot (near ++ get_or windows i d ∷ []) program due bytes ≡ charged_by slot (take (i + 1) windows) program due bytes
alike_more slot near windows program due bytes i d within alike =
    omega (arith, charged_push slot near (get_or windows i d) program due bytes, charged_next slot windows program due bytes i d within, alike)

-- one that can't charge is left out
pub alike_without : (slot : ℕ) (near windows : List BufferWindow) (program due bytes i : ℕ) (d : BufferWindow) → i < length windows
    → charge slot (get_or windows i d) program due bytes ≡ 0
    → charged_by slot near program due bytes ≡ charged_by slot (take i windows) program due bytes
    → charged_by slot near program due bytes ≡ charged_by slot (take (i + 1) windows) program due bytes
alike_without slot near windows program due bytes i d within nothing alike =
    let free = ap (λ n. (get_or windows i d).lambda * n) nothing in
    omega (arith, free, charged_next slot windows program due bytes i d within, alike)
