-- What normalise has written, by how the feeds to its writer ended.
use Rattle.std.proofs.Common.{◌≡◌, ℕ, ◌+◌, ◌-◌, ◌<◌, List, ◌∷◌, ◌++◌, length, take, drop, Ok, Err, Result, sym, ap, ◌∙◌, subst, ⊎_elim, append_assoc, append-nil, arith, length-append}
use Rattle.std.proofs.lemmas.List.{take_all, take-append-drop}
use Rattle.std.proofs.lemmas.Bool.{both_ways, cases_lt}
use Rattle.job.specs.Actions.{Act}
use Rattle.job.specs.Job.{run, new, job}
use Rattle.job.specs.Laws.{Bytes}
use Rattle.job.specs.NormalText.{job_text}
use Rattle.mechanism.specs.Buffers.{Appended}
use Rattle.mechanism.specs.declared.fault.Fault.TheVariants.{Stopped, ShortReserve}
use Rattle.action_text.specs.Needs.{text_need}
use Rattle.runs.specs.declared.fault.FeedFault.TheVariants.{Command, Mechanism}
use Rattle.runs.specs.Outcomes.{Outcome}
use Rattle.runs.proofs.Steps.{acts_join}
use Rattle.writer.specs.Writers.{Writer, Begins}
use Rattle.normal.specs.declared.answer.NormaliseFault.{NormaliseFault}
use Rattle.normal.specs.declared.answer.NormaliseFault.TheVariants.{StreamTooLong, Feed}
use Rattle.normal.specs.Fitting.{Fit, room}
use Rattle.normal.specs.Written.{FedToWriter, WritesText}
use Rattle.normal.specs.Normalises.{refused_in, WholeText, PartText, EndsSo, Normalises}
use Rattle.normal.proofs.Writing.{Over, chain_over}
use Rattle.normal.proofs.Released.{releases}

-- a writer that began with a buffer as found, the same writer later, and the buffer when it is given back
module _ (found : List ℕ) (w v : Writer) (begins : Begins w found) (out : List ℕ) (back : w.out.ghost_name ≡ v.out.ghost_name → out ≡ v.out.now) where
  wrote : (acts : List Act) → Over w acts v → Appended found 0 (job_text acts) v.len out
  wrote acts o =
      let is : out ≡ v.out.now = back (sym o.same_buffer) in
      let was = begins.buffer in
      let none = begins.len in
      record {
        ends = o.writes.ends ∙ ap (λ n. n + length (job_text acts)) none;
        front = ap (take v.len) is ∙ o.writes.front ∙ ap (λ n. take n w.out.now ++ job_text acts) none;
        rest = ap (drop v.len) is ∙ o.writes.rest ∙ ap (drop v.len) was;
      }

  found_room : (acts : List Act) → Over w acts v → Fit (room found) acts
  found_room acts o = let P : ℕ → Type 0 = λ n. Fit n acts in subst P begins.reserve o.fit

  module _ (stream : List ℕ) (passed : ℕ) where
    over : (e : Outcome) (f : FedToWriter w stream passed e v) → Over w f.passes.passing.done v
    over e f = chain_over f.passes.passing.done w v f.passes.passing.chain

    whole : Bytes stream → (f : FedToWriter w stream passed (Ok tt) v) → WholeText stream found v.len passed out
    whole b f =
        let p = f.passes.passing in
        let o = over (Ok tt) f in
        let all : take f.taken stream ≡ stream = take_all f.taken stream (omega (arith, f.passes.ended_there.0)) in
        let does : p.done ≡ job stream = sym (ap job (sym all) ∙ p.jobs ∙ ap (λ (l : List Act). p.done ++ l) f.passes.ended_there.1 ∙ append-nil p.done) in
        let P : List Act → Type 0 = λ acts. Over w acts v in
        let done : Over w (job stream) v = subst P does o in
        let text = wrote (job stream) done in
        record {
          not_too_long = f.not_too_long;
          all_fit = found_room (job stream) done;
          writes = text;
          passes = p.counts ∙ ap refused_in all;
          releases = releases stream (take v.len out) b text.front;
        }

    part : (f : FedToWriter w stream passed (Err (Mechanism ShortReserve)) v) → PartText stream found v.len passed out
    part f =
        let p = f.passes.passing in
        let left = f.passes.ended_there in
        let o = over (Err (Mechanism ShortReserve)) f in
        let k = f.taken in
        let later = (run (run new (take k stream)).state (drop k stream)).acts in
        let jobs : job (take k stream) ≡ p.done ++ left.0 ∷ left.1 = p.jobs ∙ ap (λ (l : List Act). p.done ++ l) left.2 in
        let whole_job : job stream ≡ p.done ++ left.0 ∷ (left.1 ++ later) =
        ap job (sym (take-append-drop k stream)) ∙ acts_join new (take k stream) (drop k stream) ∙ ap (λ (l : List Act). l ++ later) jobs ∙ append_assoc p.done (left.0 ∷ left.1) later in
        let short : room found < length (job_text p.done) + text_need left.0 = omega (arith, left.3.1, o.falls, begins.reserve) in
        record {
          not_too_long = f.not_too_long;
          not_all_fit = λ fit. omega (arith, fit p.done (left.1 ++ later) left.0 whole_job);
          taken = k;
          within = p.within;
          done = p.done;
          next = left.0;
          more = left.1;
          jobs = jobs;
          ordered_last =
              ⊎_elim
              (λ h. let b = p.before_last h in omega (arith, ap (λ (l : List Act). length l) b.1, length-append (job (take (k - 1) stream)) b.0))
              (λ h. let z : k - 1 ≡ 0 = omega arith in omega (arith, ap (λ n. length (job (take n stream))) z))
              (cases_lt 0 k);
          done_fit = found_room p.done o;
          no_room = short;
          writes = wrote p.done o;
          passes = p.counts;
        }

    pub ends_so : Bytes stream → (r : Result Unit NormaliseFault) → WritesText w stream passed r v → EndsSo stream found v.len passed r out
    ends_so b (Ok u) f = whole b f
    ends_so b (Err StreamTooLong) (long, none, same) = (
      long,
      ap (λ (x : Writer). x.len) same ∙ begins.len,
      none,
      back (sym (ap (λ (x : Writer). x.out.ghost_name) same)) ∙ ap (λ (x : Writer). x.out.now) same ∙ begins.buffer,
    )
    ends_so b (Err (Feed (Mechanism ShortReserve))) f = part f
    ends_so b (Err (Feed (Mechanism Stopped))) f =
        let o = over (Err (Mechanism Stopped)) f in
        both_ways v.stopped (o.mark_stays ∙ begins.stopped) f.passes.ended_there.3.0
    ends_so b (Err (Feed (Command c))) f = f.passes.ended_there

-- the same of the answer
pub answers : (found stream : List ℕ) (w v : Writer) (n passed : ℕ) (r : Result Unit NormaliseFault) {out : List ℕ} → Begins w found → Bytes stream → WritesText w stream passed r v → n ≡ v.len
    → (w.out.ghost_name ≡ v.out.ghost_name → out ≡ v.out.now) → Normalises stream found (record { written = n; passed_over = passed; outcome = r }) out
answers found stream w v n passed r {out} begins bytes writes len back =
    let P : ℕ → Type 0 = λ k. EndsSo stream found k passed r out in
    record { ends = subst P (sym len) (ends_so found w v begins out back stream passed bytes r writes) }
