-- The picture is a form of actions.
use Rattle.std.specs.Prelude.{◌≡◌, ℕ, ◌≤◌, length}
use Rattle.std.proofs.Common.{arith}
use lib.ListN.{length-map}
use Rattle.job.specs.Actions.{Act, row, advance, bars, total_cut, partial_cut, pulse, beep, reply}
use Rattle.job.specs.Orderable.{Orderable}
use Rattle.mechanism.specs.Mechanisms.{need_limit}
use Rattle.recorder.specs.Forms.{FormLaws}
use Rattle.page.specs.Pictures.{character_of, page_need, picture}

sized : (n : ℕ) (a : Act) → Orderable a → length (picture n a) ≡ page_need a
sized n (row cells) h = omega (arith, length-map cells character_of, h.1)
sized n (advance m) h = omega arith
sized n (bars kind width height shown s) h = omega arith
sized n total_cut h = omega arith
sized n partial_cut h = omega arith
sized n pulse h = omega arith
sized n beep h = omega arith
sized n (reply r) h = omega arith

need_bounded : (a : Act) → Orderable a → page_need a ≤ need_limit
need_bounded (row cells) h = omega arith
need_bounded (advance n) h = omega arith
need_bounded (bars kind width height shown s) h = omega arith
need_bounded total_cut h = omega arith
need_bounded partial_cut h = omega arith
need_bounded pulse h = omega arith
need_bounded beep h = omega arith
need_bounded (reply r) h = omega arith

pub form_laws : FormLaws page_need page_need picture
form_laws = record { sized = sized; within_need = λ a h. omega arith; need_bounded = need_bounded }
