-- What holds of bar codes, in the words of their rules.
use Rattle.std.specs.Prelude.{◌≡◌, ℕ, ◌≤◌, true, false, ◌||◌, List, [], ◌∷◌, ◌++◌, length, Some, None, ◌==◌}
use Rattle.std.specs.List.{AllByRecursion}
use Rattle.reading.specs.declared.Reply.{Reply}
use Rattle.reading.specs.declared.Reply.TheVariants.{WrongCharacter, WrongLength, UnknownKind}
use Rattle.reading.specs.Tests.{between}
use Rattle.job.specs.Actions.{bars, reply}
use Rattle.job.specs.Printer.{Printer, emptied}
use Rattle.job.specs.Row.{closing}
use Rattle.job.specs.BarCodes.{BarKind, kind_of, right_characters, right_length}
use Rattle.job.specs.Commands.{or_default}
use Rattle.job.specs.Job.{Run, run}
use Rattle.job.specs.CommandLaws.{between_commands}

-- a bar code command: its four parameters, its string, 00
abbrev pub bar_command : ℕ → ℕ → ℕ → ℕ → List ℕ → List ℕ
bar_command n1 n2 n3 n4 s = 0x1B ∷ 0x62 ∷ n1 ∷ n2 ∷ n3 ∷ n4 ∷ s ++ 0x00 ∷ []

-- a reply alone: the row stays open, and the printer as it was
abbrev pub replies_alone : Reply → Printer → Run
replies_alone r p = record { acts = reply r ∷ []; refusals = []; state = between_commands p }

-- with n2 and n3 in range come the verdicts, in order: an unknown kind, a wrong character, a wrong length;
-- otherwise the row is closed and the bars are ordered, with the parameters filled in
pub record Judged (p : Printer) (n1 n2 n3 n4 : ℕ) (s : List ℕ) : Type 0 where
  pub unknown_kind : kind_of n1 ≡ None → run (between_commands p) (bar_command n1 n2 n3 n4 s) ≡ replies_alone UnknownKind p
  pub wrong_character :
      (kind : BarKind) → kind_of n1 ≡ Some kind → right_characters kind s ≡ false
      → run (between_commands p) (bar_command n1 n2 n3 n4 s) ≡ replies_alone WrongCharacter p
  pub wrong_length :
      (kind : BarKind) → kind_of n1 ≡ Some kind → right_characters kind s ≡ true → right_length kind (length s) ≡ false
      → run (between_commands p) (bar_command n1 n2 n3 n4 s) ≡ replies_alone WrongLength p
  pub accepted :
      (kind : BarKind) → kind_of n1 ≡ Some kind → right_characters kind s ≡ true → right_length kind (length s) ≡ true
      → run (between_commands p) (bar_command n1 n2 n3 n4 s)
      ≡ record { acts = closing p.row ++ bars kind (or_default 2 n2) (or_default 50 n3) (n4 == 1) s ∷ []; refusals = []; state = between_commands (emptied p) }

-- of every string of at most 25 bytes other than 00
abbrev pub BarCodesAreJudged : Type 0
BarCodesAreJudged =
    (p : Printer) (n1 n2 n3 n4 : ℕ) (s : List ℕ) → (n2 == 0 || between 2 5 n2) ≡ true → (n3 == 0 || between 50 200 n3) ≡ true
    → AllByRecursion (λ b. 1 ≤ b) s → length s ≤ 25 → Judged p n1 n2 n3 n4 s
