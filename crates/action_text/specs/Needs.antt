-- How much room an action's text needs.
use Rattle.std.specs.Prelude.{ℕ, ◌≤◌, List, length, Option}
use Rattle.job.specs.Actions.{Act, row, advance, bars, total_cut, partial_cut, pulse, beep, reply}
use Rattle.job.specs.NormalText.{action_text, reply_text}
use Rattle.job.specs.Orderable.{Orderable}
use Rattle.mechanism.specs.Buffers as buffers

-- a row needs 345, all else the length of its text
abbrev pub text_need : Act → ℕ
text_need (row cells) = 345
text_need (advance n) = length (action_text (advance n))
text_need (bars kind width height shown s) = length (action_text (bars kind width height shown s))
text_need total_cut = length (action_text total_cut)
text_need partial_cut = length (action_text partial_cut)
text_need pulse = length (action_text pulse)
text_need beep = length (action_text beep)
text_need (reply r) = length (reply_text r)

-- no action needs more: the longest text but a row's is a partial cut's
abbrev pub longest : Act → ℕ
longest (row cells) = 345
longest (advance n) = 86
longest (bars kind width height shown s) = 86
longest total_cut = 86
longest partial_cut = 86
longest pulse = 86
longest beep = 86
longest (reply r) = 86

-- of an action that a stream can order
pub record TextFits (a : Act) : Type 0 where
  pub within_need : length (action_text a) ≤ text_need a
  pub need_bounded : text_need a ≤ longest a
  pub not_empty : 1 ≤ length (action_text a)

-- of all of them
abbrev pub TextsFit : Type 0
TextsFit = (a : Act) → Orderable a → TextFits a

-- what writing an action into a buffer answers: nothing, and the buffer as it was, exactly where there is less room than it needs,
-- else the length of its text, which then stands at the buffer's front, with the rest as found
abbrev pub Writes : List ℕ → Act → Option ℕ → List ℕ → Type 0
Writes found a n out = buffers.Writes (text_need a) (action_text a) found n out
