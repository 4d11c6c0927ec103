-- Typed characters and repeated spaces.
use Rattle.std.proofs.Common.{◌≡◌, ℕ, zero, suc, ◌+◌, Bool, true, false, cond, List, [], ◌∷◌, ◌++◌, length, replicate, sym, refl, ap, ◌∙◌, subst, append-nil, arith}
use lib.ListN.{length-replicate}
use Rattle.std.proofs.lemmas.Bool.{le-leb, lt-leb}
use Rattle.reading.specs.Reading.{is_text}
use Rattle.job.specs.Actions.{Attributes, Act}
use Rattle.job.specs.Printer.{Printer, change_attributes}
use Rattle.job.specs.Row.{width_of, next_attributes, fits, with_character}
use Rattle.job.specs.Effects.{Effect, quiet, ◌then◌, times}
use Rattle.job.specs.Lines.{feed_line, put}
use Rattle.job.specs.Changes.{underline}
use Rattle.job.specs.Job.{Run, run, run_byte, followed_by}
use Rattle.job.specs.CommandLaws.{between_commands, Typing, RepeatedSpaces}
use Rattle.job.proofs.Runs.{Reads, reads_then}
use Rattle.job.proofs.Columns.{width_two}

-- a text byte's run
typed_run : (p : Printer) (code : ℕ) → is_text code ≡ true → Reads (between_commands p) (code ∷ []) (put true code p).acts (between_commands (put true code p).printer)
typed_run p code e = rw e (ap (λ (x : List Act). let r : Run = record { acts = x; refusals = []; state = between_commands (put true code p).printer } in r) (append-nil (put true code p).acts))

fits_here : (typed : Bool) (code : ℕ) (p : Printer) → fits typed p ≡ true → put typed code p ≡ quiet (with_character typed code p)
fits_here typed code p e = rw e

wraps_here : (typed : Bool) (code : ℕ) (p : Printer) → fits typed p ≡ false → put typed code p ≡ feed_line p then (λ q. quiet (with_character typed code q))
wraps_here typed code p e = rw e

abbrev as_read : Effect → Run
as_read e = record { acts = e.acts; refusals = []; state = between_commands e.printer }

pub typing : Typing
typing p code e first apart = record {
  within = λ h. typed_run p code e ∙ ap as_read (fits_here true code p (le-leb (length p.row + width_of (next_attributes true p.settings)) p.settings.margins.right h));
  beyond = λ h.
      let wraps : put true code p ≡ feed_line p then (λ q. quiet (with_character true code q)) =
      wraps_here true code p (lt-leb (length p.row + width_of (next_attributes true p.settings)) p.settings.margins.right h) in
      let room : put true code (feed_line p).printer ≡ quiet (with_character true code (feed_line p).printer) =
      fits_here true code (feed_line p).printer
      (le-leb (length (feed_line p).printer.row + width_of (next_attributes true (feed_line p).printer.settings)) p.settings.margins.right
      (simp length-replicate (omega (arith, width_two (next_attributes true (feed_line p).printer.settings))))) in
      typed_run p code e ∙ ap as_read wraps
      ∙ sym (ap (λ (r : Run). followed_by (run_byte (between_commands p) 0x0A) 1 r) (typed_run (feed_line p).printer code e ∙ ap as_read room));
}

-- spaces without underline

abbrev underlined_as : Bool → Printer → Printer
underlined_as on p = change_attributes (underline on) p

same_put : (p : Printer) → p.settings.attributes.underlined ≡ false → put true 0x20 p ≡ put false 0x20 p
same_put p e = subst (λ (on : Bool). put true 0x20 (underlined_as on p) ≡ put false 0x20 (underlined_as on p)) (sym e) refl

put_underlined : (p : Printer) (typed : Bool) (code : ℕ) → (put typed code p).printer.settings.attributes ≡ p.settings.attributes
put_underlined p typed code = go (fits typed p)
  where
    go : (b : Bool) → (cond b (quiet (with_character typed code p)) (feed_line p then (λ q. quiet (with_character typed code q)))).printer.settings.attributes ≡ p.settings.attributes
    go true = refl
    go false = refl

spaces_read : (n : ℕ) (p : Printer) → p.settings.attributes.underlined ≡ false → run (between_commands p) (replicate n 0x20) ≡ as_read (times n (put false 0x20) p)
spaces_read zero p e = refl
spaces_read (suc n) p e =
    let q : Printer = (put false 0x20 p).printer in
    let same : run (between_commands p) (0x20 ∷ []) ≡ as_read (put false 0x20 p) = typed_run p 0x20 refl ∙ ap as_read (same_put p e) in
    reads_then (between_commands p) (0x20 ∷ []) (replicate n 0x20) same
    (spaces_read n q (ap (λ (a : Attributes). a.underlined) (put_underlined p false 0x20) ∙ e))

pub repeated_spaces : RepeatedSpaces
repeated_spaces p n h e =
    let all : Reads (between_commands p) (0x1B ∷ 0x66 ∷ 0x00 ∷ n ∷ []) ((times n (put false 0x20) p).acts ++ []) (between_commands (times n (put false 0x20) p).printer) = rw (le-leb n 127 h) in
    all ∙ ap (λ (x : List Act). let r : Run = record { acts = x; refusals = []; state = between_commands (times n (put false 0x20) p).printer } in r) (append-nil (times n (put false 0x20) p).acts)
    ∙ sym (spaces_read n p e)
