-- One feed more along a stream.
use Rattle.std.proofs.Common.{◌≡◌, ℕ, ◌+◌, ◌-◌, ◌<◌, ◌≤◌, true, false, List, length, take, drop, Ok, Err, sym, refl, ap, ◌∙◌, subst, ⊎_elim, arith, length-drop}
use Rattle.std.proofs.lemmas.List.{take_rest}
use Rattle.std.proofs.lemmas.Bool.{both_ways, cases_lt}
use Rattle.job.specs.Job.{Refused, run}
use Rattle.mechanism.specs.declared.mechanism.Mechanism.{Ghosts}
use Rattle.interpreter.specs.declared.Interpreter.{Interpreter}
use Rattle.interpreter.specs.Interpreter.{owes, state_of}
use Rattle.runs.specs.declared.fault.FeedFault.TheVariants.{Command, Mechanism}
use Rattle.runs.specs.Outcomes.{Outcome, told}
use Rattle.runs.specs.Feeds.{ended, FeedsTo}
use Rattle.runs.specs.FeedLaws.{Does}
use Rattle.runs.specs.Whole.{Passing, Passes}
use Rattle.runs.proofs.Doing.{feeds_do_the_job}
use Rattle.runs.proofs.Passing.{passing_on}
use Rattle.station.specs.Feeding.{Fed}
use Rattle.station.specs.Whole.{by_command}

-- what a `&stream[k..]` holds
abbrev pub from : ℕ → List ℕ → List ℕ
from k stream = take (length stream - k) (drop k stream)

module _ {S : Type 0} (g : Ghosts S) (i : Interpreter) (m : S) (stream : List ℕ) (k passed : ℕ) (q : Interpreter) (p : S)
    (before : Passing g (owes i) (state_of i) m stream k passed (owes q) (state_of q) p) where
  module _ (j : Interpreter) (n : S) (count : ℕ) (e : Outcome) (f : Fed g q p (from k stream) count e j n) where
    fed_rest : FeedsTo g (owes q) (state_of q) p (drop k stream) (ended count e (owes j) (state_of j) n)
    fed_rest =
        let P : List ℕ → Type 0 = λ l. FeedsTo g (owes q) (state_of q) p l (ended count e (owes j) (state_of j) n) in
        subst P (take_rest stream k) f

    did : Does g (owes q) (state_of q) p (drop k stream) (ended count e (owes j) (state_of j) n)
    did = feeds_do_the_job g (owes q) (state_of q) p (drop k stream) (ended count e (owes j) (state_of j) n) fed_rest

    pub within : k + count ≤ length stream
    within = omega (arith, did.within, before.within, length-drop k stream)

    on : Passing g (owes i) (state_of i) m stream (k + count) (passed + length (told e)) (owes j) (state_of j) n
    on = passing_on g (owes i) (owes q) (state_of i) (state_of q) m p stream k passed before (owes j) (state_of j) n count e fed_rest

    -- the same number of commands passed over, said otherwise
    on_with : (total : ℕ) → passed + length (told e) ≡ total → Passing g (owes i) (state_of i) m stream (k + count) total (owes j) (state_of j) n
    on_with total h = let P : ℕ → Type 0 = λ x. Passing g (owes i) (state_of i) m stream (k + count) x (owes j) (state_of j) n in subst P h on

  -- a refused command has at least one byte, and is counted
  pub passed_one : (j : Interpreter) (n : S) (count : ℕ) (e : Outcome) → Fed g q p (from k stream) count e j n → by_command e ≡ true
      → (0 < count) × Passing g (owes i) (state_of i) m stream (k + count) (passed + 1) (owes j) (state_of j) n
  passed_one j n count (Ok u) f h = absurd (both_ways false refl h)
  passed_one j n count (Err (Mechanism x)) f h = absurd (both_ways false refl h)
  passed_one j n count (Err (Command c)) f h = (
    ⊎_elim (λ b. b)
        (
        λ b.
        let z : count ≡ 0 = omega arith in
        let none : ◌≡◌ {A = ℕ} 1 0 = ap (λ (l : List Refused). length l) (sym (did j n count (Err (Command c)) f).refusals) ∙ ap (λ x. length (run (state_of q) (take x (drop k stream))).refusals) z in
        absurd (omega arith)
        )
        (cases_lt 0 count),
    on_with j n count (Err (Command c)) f (passed + 1) refl,
  )

  -- any other outcome ends the feeds
  pub ended_so : (j : Interpreter) (n : S) (count : ℕ) (e : Outcome) → Fed g q p (from k stream) count e j n → by_command e ≡ false
      → Passes g (owes i) (state_of i) m stream (k + count) passed e (owes j) (state_of j) n
  ended_so j n count (Ok u) f h =
      let d = did j n count (Ok u) f in
      record {
        passing = on_with j n count (Ok u) f passed (omega arith);
        ended_there = (omega (arith, d.ended_there.0, length-drop k stream, before.within), d.ended_there.1);
      }
  ended_so j n count (Err (Mechanism x)) f h =
      record { passing = on_with j n count (Err (Mechanism x)) f passed (omega arith); ended_there = (did j n count (Err (Mechanism x)) f).ended_there }
  ended_so j n count (Err (Command c)) f h = absurd (both_ways true h refl)
