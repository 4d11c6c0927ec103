-- Named changes of a setting.
use Rattle.std.specs.Prelude.{ℕ, ◌/◌, ◌%◌, ◌^◌, Bool, true, ◌&&◌, List, [], ◌∷◌, ◌==◌, nat_lt}
use Rattle.job.specs.Actions.{Attributes}
use Rattle.job.specs.Printer.{Margins, Paper}

-- attributes

-- emphasised on or off
abbrev pub emphasise : Bool → Attributes → Attributes
emphasise on a = record { emphasised = on; tall = a.tall; wide = a.wide; underlined = a.underlined; italic = a.italic }

-- double height on or off
abbrev pub make_tall : Bool → Attributes → Attributes
make_tall on a = record { emphasised = a.emphasised; tall = on; wide = a.wide; underlined = a.underlined; italic = a.italic }

-- expanded on or off
abbrev pub make_wide : Bool → Attributes → Attributes
make_wide on a = record { emphasised = a.emphasised; tall = a.tall; wide = on; underlined = a.underlined; italic = a.italic }

-- underline on or off
abbrev pub underline : Bool → Attributes → Attributes
underline on a = record { emphasised = a.emphasised; tall = a.tall; wide = a.wide; underlined = on; italic = a.italic }

-- italic on or off
abbrev pub make_italic : Bool → Attributes → Attributes
make_italic on a = record { emphasised = a.emphasised; tall = a.tall; wide = a.wide; underlined = a.underlined; italic = on }

-- bit k of a number, counted from 0
abbrev pub bit : ℕ → ℕ → Bool
bit k n = n / 2 ^ k % 2 == 1

-- four attributes by bits; italic stays
abbrev pub print_mode : ℕ → Attributes → Attributes
print_mode n a = record { emphasised = bit 3 n; tall = bit 4 n; wide = bit 5 n; underlined = bit 7 n; italic = a.italic }

-- paper and margins

-- a line feed of n steps
abbrev pub space_lines : ℕ → Paper → Paper
space_lines n q = record { spacing = n; page = q.page; line = q.line }

-- a page of n lines begins at line 1
abbrev pub page_of : ℕ → Paper → Paper
page_of n q = record { spacing = q.spacing; page = n; line = 1 }

-- a new right margin unsets nothing
abbrev pub right_margin_at : ℕ → Margins → Margins
right_margin_at n m = record { columns = m.columns; left = m.left; right = n }

-- each number above the one before it, the first above n
abbrev pub rising : ℕ → List ℕ → Bool
rising n [] = true
rising n (x ∷ xs) = nat_lt n x && rising x xs
