-- What is still awaited of a command, without the bytes that have come.
use Rattle.std.specs.Prelude.{ℕ, ◌+◌, ◌-◌, cond, List, [], ◌∷◌, length, ◌==◌, Some, None, Ok, Err, Option, Result, nat_le}
use Rattle.reading.specs.Reading.{Reading, text, escape, group, parameter, repeat_what, repeat_count, bar_parameters, bar_string, vertical_list, horizontal_list, body, Meaning, more, done, refused, meaning}
use Rattle.stream.specs.Kind as kind
use Rattle.stream.specs.Kind.{Extent}
use Rattle.reading.specs.declared.Refusal.{Refusal}
use Rattle.reading.specs.declared.Refusal.TheVariants.{TooLong}
use Rattle.stream.specs.declared.parts.Awaited.{Awaited}
use Rattle.stream.specs.declared.parts.Awaited.TheVariants.{Text, EscapeCode, GroupCode, Bytes, List as ListOf}
use Rattle.stream.specs.Parts.{extent}

abbrev pub awaited : Reading → Awaited
awaited text = Text
awaited escape = EscapeCode
awaited group = GroupCode
awaited (parameter code) = Bytes 1
awaited repeat_what = Bytes 2
awaited (repeat_count what) = Bytes 1
awaited (bar_parameters got) = ListOf (4 - length got) 25
awaited (bar_string ps got) = ListOf 0 (25 - length got)
awaited (vertical_list got) = ListOf 0 (16 - length got)
awaited (horizontal_list got) = ListOf 0 (8 - length got)
awaited (body replies got) = Bytes (40 - length got)

-- what a byte makes of what is awaited: what is awaited behind it, nothing any more, or a refusal
abbrev pub Progress : Type 0
Progress = Result (Option Awaited) Refusal

-- a byte's meaning, by what is awaited behind it
abbrev pub outline : Meaning → Progress
outline (more r) = Ok (Some (awaited r))
outline (done c r) = Ok None
outline (refused why r) = Err why

-- a byte's meaning, from what is awaited alone
abbrev pub progress : Awaited → ℕ → Progress
progress Text b = outline (meaning text b)
progress EscapeCode b = outline (meaning escape b)
progress GroupCode b = outline (meaning group b)
progress (Bytes n) b = cond (nat_le n 1) (Ok None) (Ok (Some (Bytes (n - 1))))
progress (ListOf before most) b =
    cond (before == 0)
    (cond (b == 0) (Ok None) (cond (most == 0) (Err TooLong) (Ok (Some (ListOf 0 (most - 1))))))
    (Ok (Some (ListOf (before - 1) most)))

-- a command of which n bytes are read, followed by these
abbrev pub follow : ℕ → Awaited → List ℕ → Extent
follow n a [] = extent kind.Unfinished n
follow n a (b ∷ bs) =
    elim (progress a b) [ Ok (Some next) ↦ follow (n + 1) next bs | Ok None ↦ extent kind.Command (n + 1) | Err why ↦ extent kind.Refused (n + 1) ]
