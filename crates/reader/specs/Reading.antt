-- What the reader's values stand for.
use Rattle.std.specs.Prelude.{◌≡◌, ◌≢◌, ℕ, Bool, true, false, not, ◌&&◌, ◌==◌, nat_lt, ◌<◌, ◌∷◌, [], ◌++◌, length, Some, None, Ok, Err, Option, Result}
use Rattle.reading.specs.declared.Refusal.{Refusal}
use Rattle.reading.specs.declared.Refusal.TheVariants.{TooLong}
use Rattle.reading.specs.Reading as table
use Rattle.short.specs.declared.Short.{Short}
use Rattle.short.specs.Short.{listed}
use Rattle.reader.specs.Commands.{parameters_of, command_of}
use Rattle.reader.specs.declared.read_state.Reading.{Reading}
use Rattle.reader.specs.declared.read_state.Reading.TheVariants.{Text, Escape, Group, Parameter, RepeatWhat, RepeatCount, Collecting}
use Rattle.reader.specs.declared.read_state.Collected.{Collected}
use Rattle.reader.specs.declared.read_state.Collected.TheVariants.{BarParameters, BarString, VerticalList, HorizontalList, Body}
use Rattle.reader.specs.declared.read_state.Meaning.{Meaning}
use Rattle.reader.specs.declared.read_state.Meaning.TheVariants.{More, Done}

-- what is collected byte by byte
abbrev pub collected_of : Collected → table.Reading
collected_of (BarParameters got) = table.bar_parameters (listed got)
collected_of (BarString ps got) = table.bar_string (parameters_of ps) (listed got)
collected_of (VerticalList got) = table.vertical_list (listed got)
collected_of (HorizontalList got) = table.horizontal_list (listed got)
collected_of (Body replies got) = table.body replies (listed got)

-- what is being read
abbrev pub reading_of : Reading → table.Reading
reading_of Text = table.text
reading_of Escape = table.escape
reading_of Group = table.group
reading_of (Parameter code) = table.parameter code
reading_of RepeatWhat = table.repeat_what
reading_of (RepeatCount what) = table.repeat_count what
reading_of (Collecting got) = collected_of got

-- what a byte makes of it; behind a complete or refused command, text is read
abbrev pub meaning_of : Result Meaning Refusal → table.Meaning
meaning_of (Ok (More r)) = table.more (reading_of r)
meaning_of (Ok (Done c)) = table.done (command_of c) table.text
meaning_of (Err why) = table.refused why table.text

-- a byte more of a list that a 00 ends: the list with the byte behind it, the end of the list, or a list that is full
abbrev pub UpToZero : {N : ℕ} → Short N → ℕ → Result (Option (Short N)) Refusal → Type 0
UpToZero {N} got b (Ok (Some more)) = (b ≢ 0) × (length (listed got) < N) × (listed more ≡ listed got ++ b ∷ [])
UpToZero {N} got b (Ok None) = b ≡ 0
UpToZero {N} got b (Err why) = (b ≢ 0) × (length (listed got) ≡ N) × (why ≡ TooLong)

-- whether a byte only adds to what is collected: it neither ends a list nor is one too many, and more is to come of the same
abbrev pub only_adds : table.Reading → ℕ → Bool
only_adds table.text b = false
only_adds table.escape b = false
only_adds table.group b = false
only_adds (table.parameter code) b = false
only_adds table.repeat_what b = false
only_adds (table.repeat_count what) b = false
only_adds (table.bar_parameters got) b = nat_lt (length got) 3
only_adds (table.bar_string ps got) b = not (b == 0) && nat_lt (length got) 25
only_adds (table.vertical_list got) b = not (b == 0) && nat_lt (length got) 16
only_adds (table.horizontal_list got) b = not (b == 0) && nat_lt (length got) 8
only_adds (table.body replies got) b = nat_lt (length got) 39

-- a byte that only adds is taken: it asks for more, and this is being read behind it; any other changes nothing
abbrev pub GoesOn : table.Reading → ℕ → Bool → table.Reading → Type 0
GoesOn before b true after = (only_adds before b ≡ true) × (table.meaning before b ≡ table.more after)
GoesOn before b false after = (only_adds before b ≡ false) × (after ≡ before)
