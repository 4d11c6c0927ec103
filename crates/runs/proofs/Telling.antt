-- Refused commands are told, by number and place.
use Rattle.std.proofs.Common.{◌≡◌, ℕ, ◌+◌, ◌≤◌, List, [], ◌∷◌, ◌++◌, length, take, ℤ, pos, ◌+ℤ◌, neg_ℤ, Some, None, Ok, Err, Option, sym, refl, ap, ◌∙◌, subst, arith, length-append}
use lib.IntN.{+ℤ_assoc, +ℤ_invr, +ℤ_idr}
use Rattle.reading.specs.declared.Refusal.{Refusal}
use Rattle.reading.specs.Reading.{Reading, text, reading_after}
use Rattle.reading.specs.Unfinished.{begun, BegunBy}
use Rattle.reading.proofs.Kept.{kept}
use Rattle.job.specs.Actions.{Act}
use Rattle.job.specs.Job.{State, Run, Refused, later, refused_here, step, run, new}
use Rattle.job.proofs.Runs.{run_append}
use Rattle.job.proofs.Reach.{run_reading}
use Rattle.runs.specs.Outcomes.{Outcome, Command, Mechanism, refused_at_once, outcome_later, told, Placed}
use Rattle.runs.specs.Count.{Count, state_behind, Goes, acts, stuck, reads, refused, ends}
use Rattle.runs.specs.Calls.{none, then_fed, then_covered, then_supplied, then_status, then_settings, bytes_taken, refusals_told}
use Rattle.runs.specs.CountLaws.{RefusalsAreTold, PlacesAreNear}
use Rattle.runs.proofs.Counts.{take_one, joins}
use Rattle.runs.proofs.Steps.{one_more}

pub told_later : (n : ℕ) (e : Outcome) → later n (told e) ≡ told (outcome_later n e)
told_later n (Ok u) = refl
told_later n (Err (Command c)) = refl
told_later n (Err (Mechanism f)) = refl

-- a byte at which nothing is refused, and the bytes behind it
pub read_on : (st : State) (b : ℕ) (bs : List ℕ) → (step st b).refusal ≡ None → (run st (b ∷ bs)).refusals ≡ later 1 (run (step st b).next bs).refusals
read_on st b bs h = ap (λ (x : Option Refusal). refused_here st.reading x ++ later 1 (run (step st b).next bs).refusals) h

-- a byte at which a command is refused
pub read_refused : (st : State) (b : ℕ) (why : Refusal) → (step st b).refusal ≡ Some why → (run st (b ∷ [])).refusals ≡ told (Err (Command (refused_at_once st.reading why)))
read_refused st b why h = ap (λ (x : Option Refusal). refused_here st.reading x ++ []) h

feed_tells : (need : Act → ℕ) (fs : List ℕ) (c : Count) (piece : List ℕ) (k : ℕ) (e : Outcome) (d : Count) → Goes need fs c piece k e d
    → (run (state_behind c.taken) (take k piece)).refusals ≡ told e
feed_tells need _ _ piece k e d (acts {falls = fs} p q g) = feed_tells need fs _ piece k e d g
feed_tells need _ _ piece k e d (stuck w) = refl
feed_tells need fs _ _ k _ d (reads {t} {b = b} {piece = piece} {k = i} {e = e} p g) =
    let w = feed_tells need fs _ piece i e d g in
    let st = state_behind t in
    ap (λ (l : List ℕ). (run st l).refusals) (sym (take_one i b piece))
    ∙ read_on st b (take i piece) p
    ∙ ap (λ (x : State). later 1 (run x (take i piece)).refusals) (one_more st t b refl)
    ∙ ap (later 1) w
    ∙ told_later 1 e
feed_tells need _ _ _ k _ d (refused {t} {b = b} {why = why} p) = read_refused (state_behind t) b why p
feed_tells need _ _ _ k e d ends = refl

pub refusals_are_told : RefusalsAreTold
refusals_are_told need reserve stopped _ _ c none = refl
refusals_are_told need reserve stopped _ _ c (then_fed {choices} {calls} {c = b} {fs = fs} {piece = piece} {k = k} {e = e} x g) =
    let t = bytes_taken calls in
    ap (λ (r : Run). r.refusals) (run_append t new (take k piece))
    ∙ ap (λ (l : List Refused). l ++ later (length t) (run (state_behind t) (take k piece)).refusals) (refusals_are_told need reserve stopped choices calls b x)
    ∙ ap (λ (s : List ℕ). refusals_told calls ++ later (length t) (run (state_behind s) (take k piece)).refusals) (sym (joins need reserve stopped choices calls b x))
    ∙ ap (λ (l : List Refused). refusals_told calls ++ later (length t) l) (feed_tells need fs b piece k e c g)
refusals_are_told need reserve stopped choices _ c (then_covered {calls = calls} {c = b} x) = refusals_are_told need reserve stopped choices calls b x
refusals_are_told need reserve stopped _ _ c (then_supplied {choices = choices} {calls = calls} {c = b} x p) = refusals_are_told need reserve stopped choices calls b x
refusals_are_told need reserve stopped choices _ c (then_status {calls = calls} x) = refusals_are_told need reserve stopped choices calls c x
refusals_are_told need reserve stopped choices _ c (then_settings {calls = calls} x) = refusals_are_told need reserve stopped choices calls c x

-- so many bytes before the end
before_end : (first n : ℕ) → pos (first + n) +ℤ neg_ℤ (pos n) ≡ pos first
before_end first n = +ℤ_assoc (pos first) (pos n) (neg_ℤ (pos n)) ∙ ap (λ (z : ℤ). pos first +ℤ z) (+ℤ_invr (pos n)) ∙ +ℤ_idr (pos first)

refused_near : (t : List ℕ) (why : Refusal) → Placed (length t) 1 (Err (Command (refused_at_once (state_behind t).reading why)))
refused_near t why =
    let h : BegunBy t = kept t in
    let r = (state_behind t).reading in
    let same = run_reading t new in
    let n = length (begun r) in
    let few : n ≤ 41 = let P : Reading → Type 0 = λ q. length (begun q) ≤ 41 in subst P (sym same) h.few in
    let size : length t ≡ length h.front + n =
    ap length h.joins ∙ length-append h.front (begun (reading_after text t)) ∙ ap (λ (q : Reading). length h.front + length (begun q)) (sym same) in
    (length h.front, ap (λ (l : ℕ). pos l +ℤ neg_ℤ (pos n)) size ∙ before_end (length h.front) n, omega arith, omega arith)

one_nearer : (before k : ℕ) (e : Outcome) → Placed (before + 1) k e → Placed before (1 + k) (outcome_later 1 e)
one_nearer before k (Ok u) p = tt
one_nearer before k (Err (Command c)) (first, is, low, high) = (first, sym (+ℤ_assoc (pos before) (pos 1) c.place) ∙ is, omega arith, omega arith)
one_nearer before k (Err (Mechanism f)) p = tt

feed_near : (need : Act → ℕ) (fs : List ℕ) (c : Count) (piece : List ℕ) (k : ℕ) (e : Outcome) (d : Count) → Goes need fs c piece k e d → Placed (length c.taken) k e
feed_near need _ _ piece k e d (acts {falls = fs} p q g) = feed_near need fs _ piece k e d g
feed_near need _ _ piece k e d (stuck w) = tt
feed_near need fs _ _ k _ d (reads {t} {b = b} {piece = piece} {k = i} {e = e} p g) =
    let P : ℕ → Type 0 = λ n. Placed n i e in
    let size : length (t ++ b ∷ []) ≡ length t + 1 = length-append t (b ∷ []) in
    one_nearer (length t) i e (subst P size (feed_near need fs _ piece i e d g))
feed_near need _ _ _ k _ d (refused {t} {why = why} p) = refused_near t why
feed_near need _ _ _ k e d ends = tt

pub places_are_near : PlacesAreNear
places_are_near need reserve stopped _ calls piece k e c (then_fed {choices} {c = b} {fs = fs} x g) =
    let P : List ℕ → Type 0 = λ t. Placed (length t) k e in
    subst P (joins need reserve stopped choices calls b x) (feed_near need fs b piece k e c g)
