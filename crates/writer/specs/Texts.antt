-- The normal text is a form of actions.
use Rattle.std.specs.Prelude.{ℕ, List, length, refl}
use Rattle.std.proofs.Common.{arith}
use Rattle.job.specs.Actions.{Act}
use Rattle.job.specs.NormalText.{action_text}
use Rattle.action_text.specs.Needs.{text_need}
use Rattle.action_text.proofs.Sizes.{at_most_345, texts_fit}
use Rattle.recorder.specs.Forms.{FormLaws}

-- whatever the advance count
abbrev pub text : ℕ → Act → List ℕ
text advance a = action_text a

abbrev pub size : Act → ℕ
size a = length (action_text a)

pub form_laws : FormLaws text_need size text
form_laws = record {
  sized = λ advance a h. refl;
  within_need = λ a h. (texts_fit a h).within_need;
  need_bounded = λ a h. omega (arith, (texts_fit a h).need_bounded, at_most_345 a);
}
