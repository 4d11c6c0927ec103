-- How a feed goes, by what its parts do to the interpreter and the mechanism.
use Rattle.std.proofs.Common.{◌≡◌, ℕ, ◌+◌, ◌<◌, ◌≤◌, List, [], length, get_or, Ok, Err, sym, subst, arith}
use Rattle.job.specs.Job.{State}
use Rattle.mechanism.specs.declared.fault.Fault.{Fault}
use Rattle.mechanism.specs.declared.mechanism.Mechanism.{Ghosts}
use Rattle.interpreter.specs.declared.Interpreter.{Interpreter}
use Rattle.interpreter.specs.Interpreter.{owes, state_of}
use Rattle.runs.specs.declared.fault.FeedFault.{FeedFault}
use Rattle.runs.specs.declared.fault.FeedFault.TheVariants.{Command, Mechanism}
use Rattle.runs.specs.Feeds.{End, FeedsTo, ended}
use Rattle.runs.proofs.Courses.{settled_on, settled_stuck, Along, along_more, course_refused, course_stuck, course_whole}
use Rattle.runs.proofs.Steps.{byte_accepted, byte_refused}
use Rattle.station.specs.Feeding.{Settles, FeedsByte, Fed}

module _ {S : Type 0} (g : Ghosts S) where
  -- what was owed is taken first, and the rest of the feed goes on from there
  pub after_settling : (i j : Interpreter) (m n : S) (piece : List ℕ) (e : End S) → Settles g i m (Ok tt) j n → FeedsTo g [] (state_of j) n piece e → FeedsTo g (owes i) (state_of i) m piece e
  after_settling i j m n piece e s f =
      let P : State → Type 0 = λ st. FeedsTo g (owes i) st m piece e in
      subst P s.state (settled_on g (owes i) (owes j) (state_of j) m n piece e s.settled f)

  -- an action that was owed is refused at once
  pub stuck_at_once : (i j : Interpreter) (m n : S) (piece : List ℕ) (e : FeedFault) (f : Fault) → e ≡ Mechanism f → Settles g i m (Err f) j n → Fed g i m piece 0 (Err e) j n
  stuck_at_once i j m n piece e f is s =
      let E : FeedFault → Type 0 = λ x. Fed g i m piece 0 (Err x) j n in
      let P : State → Type 0 = λ st. FeedsTo g (owes i) (state_of i) m piece (ended 0 (Err (Mechanism f)) (owes j) st n) in
      subst E (sym is) (subst P (sym s.state) (settled_stuck g (owes i) (owes j) (state_of i) m n piece f s.settled))

  module _ (start : State) (m n : S) (piece : List ℕ) (k : ℕ) (q : Interpreter) (a : Along g start m piece k (state_of q) n) where
    -- a byte more, and all that it ordered
    pub byte_more : (j : Interpreter) (p : S) → k < length piece → FeedsByte g piece k q n (Ok tt) j p → Along g start m piece (k + 1) (state_of j) p × (owes j ≡ [])
    byte_more j p h (r, t, s) =
        let b = byte_accepted (state_of q) k (get_or piece k 0) (owes r) (state_of r) t.does in
        let P : State → Type 0 = λ st. Along g start m piece (k + 1) st p in (
          subst P (sym s.state) (along_more g start (state_of q) (state_of r) m n p piece k (owes r) (owes j) h a b.0 b.1 b.2 s.settled),
          s.settled.3,
        )

    -- at the next byte a command is refused, or an action that it ordered
    pub byte_ends : (e : FeedFault) (j : Interpreter) (p : S) → k < length piece → FeedsByte g piece k q n (Err e) j p → FeedsTo g [] start m piece (ended (k + 1) (Err e) (owes j) (state_of j) p)
    byte_ends (Command f) j p h (t, same) =
        let b = byte_refused (state_of q) k (get_or piece k 0) (owes j) f.refusal f.place (state_of j) t.does in
        let P : S → Type 0 = λ x. FeedsTo g [] start m piece (ended (k + 1) (Err (Command f)) (owes j) (state_of j) x) in
        subst P (sym same) (course_refused g start (state_of q) (state_of j) m n piece k (owes j) f.refusal f.place a h b.0 b.1 b.2 b.3)
    byte_ends (Mechanism f) j p h (r, t, s) =
        let b = byte_accepted (state_of q) k (get_or piece k 0) (owes r) (state_of r) t.does in
        let P : State → Type 0 = λ st. FeedsTo g [] start m piece (ended (k + 1) (Err (Mechanism f)) (owes j) st p) in
        subst P (sym s.state) (course_stuck g start (state_of q) (state_of r) m n p piece k (owes r) (owes j) f a h b.0 b.1 b.2 s.settled)

    -- all bytes are taken
    pub all_taken : length piece ≤ k → k ≤ length piece → owes q ≡ [] → FeedsTo g [] start m piece (ended (length piece) (Ok tt) (owes q) (state_of q) n)
    all_taken h b z =
        let P : ℕ → Type 0 = λ x. FeedsTo g [] start m piece (ended x (Ok tt) (owes q) (state_of q) n) in
        let whole : k ≡ length piece = omega arith in
        subst P whole (course_whole g start (state_of q) m n piece k (owes q) a h z)
