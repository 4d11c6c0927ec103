-- What the plate answers to the host.
use Rattle.std.specs.Prelude.{ℕ, List, [], ◌∷◌, ◌++◌, codes}
use Rattle.reading.specs.declared.Reply.{Reply}
use Rattle.reading.specs.declared.Reply.TheVariants.{Status1, Status2, Identity, Configuration, WrongCharacter, WrongLength, UnknownKind}
use Rattle.job.specs.Actions.{Act, row, advance, bars, total_cut, partial_cut, pulse, beep, reply}
use Rattle.mechanism.specs.declared.status.Status.{Status}

-- a text with a carriage return
abbrev pub line : List ℕ → List ℕ
line text = text ++ 0x0D ∷ []

-- the bytes of a reply, at these status bytes
abbrev pub reply_bytes : Status → Reply → List ℕ
reply_bytes status Status1 = status.status1 ∷ []
reply_bytes status Status2 = status.status2 ∷ []
reply_bytes status Identity = line (codes ":20002")
reply_bytes status Configuration = line (codes ":")
reply_bytes status WrongCharacter = line (codes ":E01")
reply_bytes status WrongLength = line (codes ":E02")
reply_bytes status UnknownKind = line (codes ":E99")

-- the latest reply after an action: a reply, the answer to bars, or still the one before
abbrev pub latest_after : List ℕ → Status → Act → List ℕ
latest_after latest status (reply r) = reply_bytes status r
latest_after latest status (bars kind width height shown s) = line (codes ":E00")
latest_after latest status (row cells) = latest
latest_after latest status (advance n) = latest
latest_after latest status total_cut = latest
latest_after latest status partial_cut = latest
latest_after latest status pulse = latest
latest_after latest status beep = latest
