-- Refused commands are passed over.
use Rattle.std.proofs.Common.{◌≡◌, ℕ, suc, ◌+◌, ◌≤◌, Bool, true, false, List, [], ◌∷◌, ◌++◌, length, ℤ, pos, ◌+ℤ◌, neg_ℤ, Some, sym, refl, ap, ◌∙◌, subst, append_assoc, arith}
use lib.IntN.{+ℤ_invr}
use Rattle.std.proofs.lemmas.List.{length_push}
use Rattle.reading.specs.declared.Refusal.{Refusal}
use Rattle.reading.specs.Reading.{Reading, text, Meaning, more, done, refused, meaning, next_reading, reading_after}
use Rattle.reading.specs.Unfinished.{begun}
use Rattle.reading.proofs.Within.{Within, Moves, moves}
use Rattle.reading.proofs.Kept.{within_after}
use Rattle.job.specs.Printer.{Printer}
use Rattle.job.specs.Commands.{in_range}
use Rattle.job.specs.Job.{State, Step, Run, refused_here, carry_out, act_on, step, run, run_byte, stay, followed_by}
use Rattle.job.specs.CommandLaws.{between_commands, RefusedCommandsArePassedOver}
use Rattle.job.proofs.Runs.{run_append}

abbrev in_state : Reading → Printer → State
in_state r p = record { reading = r; printer = p }

-- at most the bytes that have come are kept
kept_few : (s : List ℕ) (r : Reading) → Within r → length (begun (reading_after r s)) ≤ length (begun r) + length s
kept_few [] r h = omega arith
kept_few (b ∷ s) r h = go (meaning r b) (moves r b h) (λ q w. kept_few s q w)
  where
    go : (m : Meaning) → Moves (begun r ++ b ∷ []) m → ((q : Reading) → Within q → length (begun (reading_after q s)) ≤ length (begun q) + length s)
        → length (begun (reading_after (next_reading m) s)) ≤ length (begun r) + suc (length s)
    go (more q) k f = omega (arith, f q k.0, ap length k.1, length_push (begun r) b)
    go (done c q) k f = let w : Within q = subst Within (sym k) tt in omega (arith, f q w, ap (λ (x : Reading). length (begun x)) k)
    go (refused why q) k f = let w : Within q = subst Within (sym k) tt in omega (arith, f q w, ap (λ (x : Reading). length (begun x)) k)

-- bytes all of which are kept do nothing yet
unfinished : (s : List ℕ) (r : Reading) (p : Printer) → Within r → length (begun (reading_after r s)) ≡ length (begun r) + length s
    → run (in_state r p) s ≡ stay (in_state (reading_after r s) p)
unfinished [] r p h e = refl
unfinished (b ∷ s) r p h e = go (meaning r b) (moves r b h) e (λ q w k. unfinished s q p w k)
  where
    go : (m : Meaning) → Moves (begun r ++ b ∷ []) m → length (begun (reading_after (next_reading m) s)) ≡ length (begun r) + suc (length s)
        → ((q : Reading) → Within q → length (begun (reading_after q s)) ≡ length (begun q) + length s → run (in_state q p) s ≡ stay (in_state (reading_after q s) p))
        → followed_by (record { acts = (act_on m p).acts; refusals = refused_here r (act_on m p).refusal; state = (act_on m p).next }) 1 (run (act_on m p).next s)
        ≡ stay (in_state (reading_after (next_reading m) s) p)
    go (more q) k n f =
        ap (λ (x : Run). followed_by (stay (in_state q p)) 1 x) (f q k.0 (omega (arith, n, ap length k.1, length_push (begun r) b)))
    go (done c q) k n f = let w : Within q = subst Within (sym k) tt in absurd (omega (arith, n, kept_few s q w, ap (λ (x : Reading). length (begun x)) k))
    go (refused why q) k n f = let w : Within q = subst Within (sym k) tt in absurd (omega (arith, n, kept_few s q w, ap (λ (x : Reading). length (begun x)) k))

-- the byte at which a command is refused
refused_byte : (r : Reading) (p : Printer) (b : ℕ) (why : Refusal) → Within r → (step (in_state r p) b).refusal ≡ Some why
    → run_byte (in_state r p) b ≡ record { acts = []; refusals = (why, neg_ℤ (pos (length (begun r)))) ∷ []; state = between_commands p }
refused_byte r p b why h e = go (meaning r b) (moves r b h) e
  where
    as_run : Step → Run
    as_run t = record { acts = t.acts; refusals = refused_here r t.refusal; state = t.next }

    passed : Refusal → Reading → Run
    passed w q = record { acts = []; refusals = (w, neg_ℤ (pos (length (begun r)))) ∷ []; state = in_state q p }

    same : (w : Refusal) (q : Reading) → q ≡ text → Some w ≡ Some why → passed w q ≡ passed why text
    same w q k f = let v : w ≡ why = cc in ap (λ (x : Reading). passed w x) k ∙ ap (λ (x : Refusal). passed x text) v

    go : (m : Meaning) → Moves (begun r ++ b ∷ []) m → (act_on m p).refusal ≡ Some why → as_run (act_on m p) ≡ passed why text
    go (more q) k f = let z : ◌≡◌ {A = ℕ} 0 1 = cc in absurd (omega arith)
    go (done c q) k f = test (in_range c p) f
      where
        test : (t : Bool) → (carry_out t c q p).refusal ≡ Some why → as_run (carry_out t c q p) ≡ passed why text
        test true g = let z : ◌≡◌ {A = ℕ} 0 1 = cc in absurd (omega arith)
        test false g = same _ q k g
    go (refused w q) k f = same w q k f

pub passed_over : RefusedCommandsArePassedOver
passed_over p c b why t h e =
    let r : Reading = reading_after text c in
    let w : Within r = within_after c in
    let size : length (begun r) ≡ length c = ap (λ (x : List ℕ). length x) h in
    let place : pos (length c) +ℤ neg_ℤ (pos (length (begun r))) ≡ pos 0 = ap (λ (n : ℕ). pos (length c) +ℤ neg_ℤ (pos n)) size ∙ +ℤ_invr (pos (length c)) in
    let first : run (between_commands p) (c ++ b ∷ []) ≡ record { acts = []; refusals = (why, pos 0) ∷ []; state = between_commands p } =
    run_append c (between_commands p) (b ∷ [])
    ∙ ap (λ (x : Run). followed_by x (length c) (run x.state (b ∷ []))) (unfinished c text p tt (omega (arith, size)))
    ∙ ap (λ (x : Run). followed_by (stay (in_state r p)) (length c) (followed_by x 1 (stay x.state))) (refused_byte r p b why w e)
    ∙ ap (λ (z : ℤ). let x : Run = record { acts = []; refusals = (why, z) ∷ []; state = between_commands p } in x) place in
    ap (run (between_commands p)) (sym (append_assoc c (b ∷ []) t))
    ∙ run_append (c ++ b ∷ []) (between_commands p) t
    ∙ ap (λ (x : Run). followed_by x (length (c ++ b ∷ [])) (run x.state t)) first
