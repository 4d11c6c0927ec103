-- Every job that a stream can order is read back from its text.
use Rattle.std.proofs.Common.{◌≡◌, ℕ, List, [], ◌∷◌, length, refl, ap, ◌∙◌}
use Rattle.std.specs.List.{AllByRecursion}
use Rattle.job.specs.Actions.{Act, row, advance, bars, total_cut, partial_cut, pulse, beep, reply}
use Rattle.job.specs.Job.{Run, run, followed_by, resting, job}
use Rattle.job.specs.NormalText.{action_text, job_text}
use Rattle.job.specs.Orderable.{Orderable}
use Rattle.job.specs.Laws.{line_after, just, ReadBack, ReadBeforeOthers}
use Rattle.job.proofs.Runs.{reads_then, run_append}
use Rattle.job.proofs.Simple.{cut_read, partial_read, pulse_read, beep_read, reply_read, advance_read, bars_read}
use Rattle.job.proofs.Rows.{row_read}

pub act_read : (a : Act) (line : ℕ) → Orderable a → run (resting line) (action_text a) ≡ just (a ∷ []) (line_after a line)
act_read (row cells) line h = row_read line cells h
act_read (advance n) line h = advance_read n line h.0
act_read (bars kind width height shown s) line h = bars_read kind width height shown line s h
act_read total_cut line h = cut_read line
act_read partial_cut line h = partial_read line
act_read pulse line h = pulse_read line
act_read beep line h = beep_read line
act_read (reply r) line h = reply_read r line

pub read_back : ReadBack
read_back [] line h = refl
read_back (a ∷ acts) line h =
    reads_then (resting line) (action_text a) (job_text acts) (act_read a line h.0) (read_back acts (line_after a line) h.1)

pub read_before_others : ReadBeforeOthers
read_before_others a line t h =
    run_append (action_text a) (resting line) t
    ∙ ap (λ (r : Run). followed_by r (length (action_text a)) (run r.state t)) (act_read a line h)

pub job_back : (acts : List Act) → AllByRecursion Orderable acts → job (job_text acts) ≡ acts
job_back acts h = ap (λ (r : Run). r.acts) (read_back acts 1 h)

pub by_its_text : (a : Act) → Orderable a → job (action_text a) ≡ a ∷ []
by_its_text a h = ap (λ (r : Run). r.acts) (act_read a 1 h)
