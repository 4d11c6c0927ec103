-- The normal text: of an action, of a job, of a stream.
use Rattle.std.specs.Prelude.{ℕ, ◌+◌, ◌*◌, Bool, true, false, cond, List, [], ◌∷◌, ◌++◌, replicate, ◌==◌}
use Rattle.std.specs.Bool.{beq}
use Rattle.std.specs.List.{flat_map}
use Rattle.reading.specs.declared.Reply.{Reply}
use Rattle.reading.specs.declared.Reply.TheVariants.{Status1, Status2, Identity, Configuration, WrongCharacter, WrongLength, UnknownKind}
use Rattle.job.specs.Actions.{Attributes, plain, Cell, Blank, Character, Tail, Act, row, advance, bars, total_cut, partial_cut, pulse, beep, reply}
use Rattle.job.specs.BarCodes.{kind_number}
use Rattle.job.specs.Job.{job}

-- 1 for on, 0 for off
abbrev pub flag : Bool → ℕ
flag true = 1
flag false = 0

-- the four attributes that 1B 21 sets, as its bits
abbrev pub mode_bits : Attributes → ℕ
mode_bits a = 8 * flag a.emphasised + 16 * flag a.tall + 32 * flag a.wide + 128 * flag a.underlined

-- from some attributes to others: 1B 21 n if the bits differ, then 1B 34 n if italic differs
abbrev pub attribute_change : Attributes → Attributes → List ℕ
attribute_change from to =
    cond (mode_bits from == mode_bits to) [] (0x1B ∷ 0x21 ∷ mode_bits to ∷ [])
    ++ cond (beq from.italic to.italic) [] (0x1B ∷ 0x34 ∷ flag to.italic ∷ [])

-- columns from left to right, with the attributes in force; a blank is a space with all of them off, and at the end they are off again
abbrev pub cells_text : Attributes → List Cell → List ℕ
cells_text now [] = attribute_change now plain
cells_text now (Blank ∷ cells) = attribute_change now plain ++ 0x20 ∷ cells_text plain cells
cells_text now (Character code a ∷ cells) = attribute_change now a ++ code ∷ cells_text a cells
cells_text now (Tail code a ∷ cells) = cells_text now cells

-- a column before others, unless it is blank and no other follows
abbrev pub unless_last_blank : Cell → List Cell → List Cell
unless_last_blank Blank [] = []
unless_last_blank Blank (c ∷ cells) = Blank ∷ c ∷ cells
unless_last_blank (Character code a) cells = Character code a ∷ cells
unless_last_blank (Tail code a) cells = Tail code a ∷ cells

-- the columns up to the last one that is not blank
abbrev pub up_to_last : List Cell → List Cell
up_to_last [] = []
up_to_last (c ∷ cells) = unless_last_blank c (up_to_last cells)

-- the new body, with digit 08 as given: cutter on, 48 columns, no line before a cut
abbrev pub new_body : ℕ → List ℕ
new_body kind = replicate 7 0x30 ++ 0x31 ∷ kind ∷ replicate 26 0x30 ++ 0x31 ∷ replicate 4 0x30

-- a status, the identity, or a command that is answered so; the bar codes among them are refused for their string or kind
abbrev pub reply_text : Reply → List ℕ
reply_text Status1 = 0x05 ∷ []
reply_text Status2 = 0x1D ∷ 0x05 ∷ []
reply_text Identity = 0x1B ∷ 0xC3 ∷ []
reply_text Configuration = 0x1B ∷ 0xE4 ∷ new_body 0x30
reply_text WrongCharacter = 0x1B ∷ 0x62 ∷ 0x01 ∷ 0x00 ∷ 0x00 ∷ 0x00 ∷ 0x41 ∷ 0x00 ∷ []
reply_text WrongLength = 0x1B ∷ 0x62 ∷ 0x01 ∷ 0x00 ∷ 0x00 ∷ 0x00 ∷ 0x00 ∷ []
reply_text UnknownKind = 0x1B ∷ 0x62 ∷ 0x00 ∷ 0x00 ∷ 0x00 ∷ 0x00 ∷ 0x00 ∷ []

-- the text of one action
abbrev pub action_text : Act → List ℕ
action_text (row cells) = cells_text plain (up_to_last cells) ++ 0x1B ∷ 0x4A ∷ 0x00 ∷ []
action_text (advance n) = 0x1B ∷ 0x4A ∷ n ∷ []
action_text (bars kind width height shown s) = 0x1B ∷ 0x62 ∷ kind_number kind ∷ width ∷ height ∷ flag shown ∷ s ++ 0x00 ∷ []
action_text total_cut = 0x1B ∷ 0x6D ∷ []
action_text partial_cut = 0x1B ∷ 0xC6 ∷ new_body 0x31 ++ 0x1B ∷ 0x6D ∷ 0x1B ∷ 0xC6 ∷ new_body 0x30
action_text pulse = 0x1B ∷ 0x70 ∷ []
action_text beep = 0x07 ∷ []
action_text (reply r) = reply_text r

-- the texts of the actions, joined
abbrev pub job_text : List Act → List ℕ
job_text = flat_map action_text

-- the normal text of a stream is the text of its job
abbrev pub normal_text : List ℕ → List ℕ
normal_text s = job_text (job s)
