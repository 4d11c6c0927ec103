-- What a full plate has counted when a whole stream was fed to it.
use Rattle.std.proofs.Common.{◌≡◌, ℕ, zero, suc, false, List, [], ◌∷◌, ◌++◌, take, replicate, Ok, Err, sym, ap, ◌∙◌, subst, append-nil, arith}
use Rattle.std.specs.List.{AllByRecursion}
use Rattle.std.proofs.lemmas.List.{take_all}
use Rattle.std.proofs.lemmas.Bool.{both_ways}
use Rattle.job.specs.Actions.{Act}
use Rattle.job.specs.Job.{State, new, job}
use Rattle.job.specs.Laws.{Bytes}
use Rattle.job.specs.Orderable.{Orderable}
use Rattle.job.proofs.Reach.{only_orderable}
use Rattle.mechanism.specs.declared.mechanism.Mechanism.{Ghosts}
use Rattle.mechanism.specs.declared.fault.Fault.TheVariants.{Stopped, ShortReserve}
use Rattle.mechanism.specs.Counts.{counted, leading_counts}
use Rattle.mechanism.specs.Mechanisms.{Taken}
use Rattle.plate.specs.Plates.{plate_need, plate_rule, plate_sheet}
use Rattle.runs.specs.declared.fault.FeedFault.TheVariants.{Command, Mechanism}
use Rattle.runs.specs.Outcomes.{Outcome}
use Rattle.runs.specs.Offers.{Chain, along}
use Rattle.runs.specs.Whole.{Passes}
use Rattle.normal.specs.Normalises.{refused_in}
use Rattle.ticket_c.specs.declared.full_plate.FullPlate.{FullPlate}
use Rattle.ticket_c.specs.Calls.{counted_all}
use Rattle.ticket_c.specs.Full.{Stays, Took, shown_paper}
use Rattle.ticket_c.specs.Lawful.{lawful}

-- the full plate, by the members of the interface of mechanisms
abbrev full_plate : Ghosts FullPlate
full_plate = record {
  sheet = λ p. plate_sheet p.plate;
  reserve = shown_paper;
  stopped = λ p. p.plate.stopped;
  need = plate_need;
  rule = plate_rule;
  counts = leading_counts;
  took = Took;
  grants = λ p offered grant. grant ≡ 0;
  stays = Stays;
  laws = lawful;
}

chain_counts : (acts : List Act) (p q : FullPlate) → Chain (Taken full_plate.reserve full_plate.stopped plate_need Took) p acts q
    → (plate_sheet q.plate ≡ along counted (plate_sheet p.plate) acts) × (q.plate.stopped ≡ p.plate.stopped)
chain_counts [] p q e = (ap (λ (x : FullPlate). plate_sheet x.plate) (sym e), ap (λ (x : FullPlate). x.plate.stopped) (sym e))
chain_counts (a ∷ acts) p q (m, t, c) =
    let rest = chain_counts acts m q c in
    (rest.0 ∙ ap (λ (s : List ℕ). along counted s acts) t.1.sheet_moves, rest.1 ∙ t.1.mark_stays)

orderable_behind : (done : List Act) (a : Act) (more : List Act) → AllByRecursion Orderable (done ++ a ∷ more) → Orderable a
orderable_behind [] a more h = h.0
orderable_behind (x ∷ done) a more h = orderable_behind done a more h.1

first_bytes : (k : ℕ) (s : List ℕ) → Bytes s → Bytes (take k s)
first_bytes zero s h = tt
first_bytes (suc k) [] h = tt
first_bytes (suc k) (b ∷ s) h = (h.0, first_bytes k s h.1)

module _ (p q : FullPlate) (begins : plate_sheet p.plate ≡ replicate 7 0) (at_work : p.plate.stopped ≡ false) (stream : List ℕ) (bytes : Bytes stream) (k passed : ℕ) (owed : List Act) (st : State) where
  -- by the outcome: such a plate at work refuses nothing
  by_outcome : (e : Outcome) → Passes full_plate [] new p stream k passed e owed st q → (plate_sheet q.plate ≡ counted_all (job stream)) × (passed ≡ refused_in stream)
  by_outcome (Ok u) f =
      let w = f.passing in
      let all : take k stream ≡ stream = take_all k stream (omega (arith, f.ended_there.0)) in
      let does : w.done ≡ job stream = sym (ap job (sym all) ∙ w.jobs ∙ ap (λ (l : List Act). w.done ++ l) f.ended_there.1 ∙ append-nil w.done) in
      let counts = (chain_counts w.done p q w.chain).0 in
      (counts ∙ (ap (λ (s : List ℕ). along counted s w.done) begins ∙ ap counted_all does), w.counts ∙ ap refused_in all)
  by_outcome (Err (Mechanism Stopped)) f =
      absurd (both_ways q.plate.stopped ((chain_counts f.passing.done p q f.passing.chain).1 ∙ at_work) f.ended_there.3.0)
  by_outcome (Err (Mechanism ShortReserve)) f =
      let w = f.passing in
      let left = f.ended_there in
      let jobs : job (take k stream) ≡ w.done ++ left.0 ∷ left.1 = w.jobs ∙ ap (λ (l : List Act). w.done ++ l) left.2 in
      let can : AllByRecursion Orderable (w.done ++ left.0 ∷ left.1) = subst (λ (l : List Act). AllByRecursion Orderable l) jobs (only_orderable (take k stream) (first_bytes k stream bytes)) in
      let few = lawful.need_bounded left.0 (orderable_behind w.done left.0 left.1 can) in
      absurd (omega (arith, few, left.3.1))
  by_outcome (Err (Command c)) f = absurd f.ended_there

-- the same from an interpreter that is new
pub fed_whole : (p q : FullPlate) (first owed : List Act) (before st : State) (stream : List ℕ) (k passed : ℕ) (e : Outcome)
    → plate_sheet p.plate ≡ replicate 7 0 → p.plate.stopped ≡ false → Bytes stream → first ≡ [] → before ≡ new
    → Passes full_plate first before p stream k passed e owed st q → (plate_sheet q.plate ≡ counted_all (job stream)) × (passed ≡ refused_in stream)
fed_whole p q first owed before st stream k passed e begins at_work bytes none fresh f =
    let P : List Act → Type 0 = λ acts. Passes full_plate acts before p stream k passed e owed st q in
    let Q : State → Type 0 = λ s. Passes full_plate [] s p stream k passed e owed st q in
    by_outcome p q begins at_work stream bytes k passed owed st e (subst Q fresh (subst P none f))
