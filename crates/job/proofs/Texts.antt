-- Normal texts consist of bytes, are settled and canonical.
use Rattle.std.proofs.Common.{◌≡◌, ℕ, ◌<◌, ◌≤◌, Bool, true, false, cond, eqb, ltb, List, [], ◌∷◌, ◌++◌, sym, refl, ap, ◌∙◌, subst, ⊎_elim, arith, lit≤}
use mathlib.Core.Bool.{beq}
use Rattle.std.specs.List.{ContainsAt as Has, AllByRecursion}
use Rattle.std.proofs.lemmas.Bool.{and_parts, or_cases, ltb-true, cond_both}
use Rattle.std.proofs.ByRecursion.{All-append, All-weaker, all-has, has_push}
use Rattle.reading.specs.declared.Reply.{Reply}
use Rattle.reading.specs.declared.Reply.TheVariants.{Status1, Status2, Identity, Configuration, WrongCharacter, WrongLength, UnknownKind}
use Rattle.reading.specs.Tests.{between, every}
use Rattle.reading.specs.Reading.{is_text}
use Rattle.job.specs.Actions.{Attributes, plain, Cell, Act, row, advance, bars, total_cut, partial_cut, pulse, beep, reply}
use Rattle.job.specs.BarCodes.{BarKind, Ean13, Ean8, Standard2of5, Interleaved2of5, Code128, Code39, Code93, UpcA, Codabar, Msi, Code11, kind_number, kind_of}
use Rattle.job.specs.Job.{job}
use Rattle.job.specs.NormalText.{flag, mode_bits, attribute_change, cells_text, up_to_last, reply_text, action_text, job_text, normal_text}
use Rattle.job.specs.Orderable.{LaidOut, none, blank, narrow, wide, Visible, Orderable}
use Rattle.job.specs.Laws.{Bytes, Canonical, Settled, OrderableIsWhatStreamsOrder}
use Rattle.job.proofs.Strings.{Filled, accepted_filled, between_true}
use Rattle.job.proofs.Rows.{laid_up_to_last}
use Rattle.job.proofs.Back.{job_back, by_its_text}
use Rattle.job.proofs.Reach.{only_orderable}

-- bytes that are written out
bytes_by_test : (s : List ℕ) → every (λ b. ltb b 256) s ≡ true → Bytes s
bytes_by_test [] h = tt
bytes_by_test (b ∷ s) h =
    let parts : (ltb b 256 ≡ true) × (every (λ c. ltb c 256) s ≡ true) = and_parts (ltb b 256) (every (λ c. ltb c 256) s) h in
    (ltb-true b 256 parts.0, bytes_by_test s parts.1)

joined_bytes : (s t : List ℕ) → Bytes s → Bytes t → Bytes (s ++ t)
joined_bytes = All-append (λ b. b < 256)

flag_small : (b : Bool) → flag b ≤ 1
flag_small true = lit≤ tt
flag_small false = lit≤ tt

mode_byte : (a : Attributes) → mode_bits a < 256
mode_byte a = omega (arith, flag_small a.emphasised, flag_small a.tall, flag_small a.wide, flag_small a.underlined)

change_bytes : (now to : Attributes) → Bytes (attribute_change now to)
change_bytes now to =
    joined_bytes (cond (eqb (mode_bits now) (mode_bits to)) [] (0x1B ∷ 0x21 ∷ mode_bits to ∷ [])) (cond (beq now.italic to.italic) [] (0x1B ∷ 0x34 ∷ flag to.italic ∷ []))
    (cond_both (eqb (mode_bits now) (mode_bits to)) [] (0x1B ∷ 0x21 ∷ mode_bits to ∷ []) Bytes (λ e. tt) (λ e. (lit≤ tt, (lit≤ tt, (mode_byte to, tt)))))
    (cond_both (beq now.italic to.italic) [] (0x1B ∷ 0x34 ∷ flag to.italic ∷ []) Bytes (λ e. tt) (λ e. (lit≤ tt, (lit≤ tt, (omega (arith, flag_small to.italic), tt)))))

text_byte : (code : ℕ) → is_text code ≡ true → code < 256
text_byte code e =
    ⊎_elim (λ k. omega (arith, between_true 0x20 0x7E code k)) (λ k. omega (arith, between_true 0x80 0xFF code k)) (or_cases (between 0x20 0x7E code) (between 0x80 0xFF code) e)

cells_bytes : (now : Attributes) {cells : List Cell} → LaidOut Visible cells → Bytes (cells_text now cells)
cells_bytes now none = change_bytes now plain
cells_bytes now (blank {cells = cells} h) = joined_bytes (attribute_change now plain) (0x20 ∷ cells_text plain cells) (change_bytes now plain) (lit≤ tt, cells_bytes plain h)
cells_bytes now (narrow {code = code} {a = a} {cells = cells} v w h) =
    joined_bytes (attribute_change now a) (code ∷ cells_text a cells) (change_bytes now a) (text_byte code v.0, cells_bytes a h)
cells_bytes now (wide {code = code} {a = a} {cells = cells} v w h) =
    joined_bytes (attribute_change now a) (code ∷ cells_text a cells) (change_bytes now a) (text_byte code v.0, cells_bytes a h)

kind_byte : (kind : BarKind) → kind_number kind < 256
kind_byte Ean13 = lit≤ tt
kind_byte Ean8 = lit≤ tt
kind_byte Standard2of5 = lit≤ tt
kind_byte Interleaved2of5 = lit≤ tt
kind_byte Code128 = lit≤ tt
kind_byte Code39 = lit≤ tt
kind_byte Code93 = lit≤ tt
kind_byte UpcA = lit≤ tt
kind_byte Codabar = lit≤ tt
kind_byte Msi = lit≤ tt
kind_byte Code11 = lit≤ tt

reply_bytes : (r : Reply) → Bytes (reply_text r)
reply_bytes Status1 = bytes_by_test (reply_text Status1) refl
reply_bytes Status2 = bytes_by_test (reply_text Status2) refl
reply_bytes Identity = bytes_by_test (reply_text Identity) refl
reply_bytes Configuration = bytes_by_test (reply_text Configuration) refl
reply_bytes WrongCharacter = bytes_by_test (reply_text WrongCharacter) refl
reply_bytes WrongLength = bytes_by_test (reply_text WrongLength) refl
reply_bytes UnknownKind = bytes_by_test (reply_text UnknownKind) refl

pub action_bytes : (a : Act) → Orderable a → Bytes (action_text a)
action_bytes (row cells) h =
    joined_bytes (cells_text plain (up_to_last cells)) (0x1B ∷ 0x4A ∷ 0x00 ∷ []) (cells_bytes plain (laid_up_to_last h.0)) (bytes_by_test (0x1B ∷ 0x4A ∷ 0x00 ∷ []) refl)
action_bytes (advance n) h = (lit≤ tt, (lit≤ tt, (omega arith, tt)))
action_bytes (bars kind width height shown s) h = (
  lit≤ tt,
  (
    lit≤ tt,
    (
      kind_byte kind,
      (
        omega arith,
        (
          omega arith,
          (
            omega (arith, flag_small shown),
            joined_bytes s (0x00 ∷ []) (All-weaker Filled (λ b. b < 256) (λ b f. f.1) s (accepted_filled (kind_of (kind_number kind)) s h.4)) (lit≤ tt, tt),
          ),
        ),
      ),
    ),
  ),
)
action_bytes total_cut h = bytes_by_test (action_text total_cut) refl
action_bytes partial_cut h = bytes_by_test (action_text partial_cut) refl
action_bytes pulse h = bytes_by_test (action_text pulse) refl
action_bytes beep h = bytes_by_test (action_text beep) refl
action_bytes (reply r) h = reply_bytes r

pub job_bytes : (acts : List Act) → AllByRecursion Orderable acts → Bytes (job_text acts)
job_bytes [] h = tt
job_bytes (a ∷ acts) h = joined_bytes (action_text a) (job_text acts) (action_bytes a h.0) (job_bytes acts h.1)

pub normal_texts_canonical : Canonical
normal_texts_canonical s t hs ht =
    ((λ e. sym (job_back (job s) (only_orderable s hs)) ∙ ap job e ∙ job_back (job t) (only_orderable t ht)), (λ e. ap job_text e))

pub settled : Settled
settled s h =
    let back : job (normal_text s) ≡ job s = job_back (job s) (only_orderable s h) in
    record { own_text = ap job_text back; same_job = back; bytes = job_bytes (job s) (only_orderable s h) }

pub orderable_is_ordered : OrderableIsWhatStreamsOrder
orderable_is_ordered a = record {
  same = (
    (λ h. (action_text a, action_bytes a h, subst (λ (acts : List Act). Has acts a) (sym (by_its_text a h)) (has_push [] a))),
    (λ w. all-has Orderable (job w.0) a (only_orderable w.0 w.1) w.2),
  );
  by_its_text = λ h. (action_bytes a h, by_its_text a h);
}
