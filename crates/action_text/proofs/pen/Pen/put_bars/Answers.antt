use Rattle.std.proofs.Common.{◌≡◌, ℕ, List, [], ◌∷◌, ◌++◌, ap, ◌∙◌}
use Rattle.job.specs.BarCodes.{kind_number}
use Rattle.job.specs.NormalText.{flag}
use Rattle.action_text.proofs.Columns.{as_flag}
use Rattle.action_text.proofs.Progress.{next, spelt}
use Rattle.action_text.proofs.pen.Pen.put_bars.Goals as goal

same : (k k' w w' h h' f f' : ℕ) (s s' : List ℕ) → k ≡ k' → w ≡ w' → h ≡ h' → f ≡ f' → s ≡ s'
    → (0x1B ∷ 0x62 ∷ k ∷ w ∷ h ∷ f ∷ s) ++ 0 ∷ [] ≡ (0x1B ∷ 0x62 ∷ k' ∷ w' ∷ h' ∷ f' ∷ s') ++ 0 ∷ []
same k k' w w' h h' f f' s s' e₁ e₂ e₃ e₄ e₅ = λ i. (0x1B ∷ 0x62 ∷ e₁ i ∷ e₂ i ∷ e₃ i ∷ e₄ i ∷ e₅ i) ++ 0 ∷ []

pub returns : goal.returns
returns c =
    let kind = c.from-kind.ensures ∙ ap kind_number c.kind.ensures in
    let shown = c.from-shown.ensures ∙ as_flag c.is_shown.result ∙ ap flag c.is_shown.ensures in
    spelt (same _ _ _ _ _ _ _ _ _ _ kind c.width.ensures c.height.ensures shown c.string.ensures)
    (next (next c.put.ensures c.put-2.ensures) c.put-3.ensures)
