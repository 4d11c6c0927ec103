-- A report, byte by byte.
use Rattle.std.proofs.Common.{◌≡◌, ℕ, ◌+◌, ◌<◌, List, [], ◌∷◌, ◌++◌, length, get_or, take, sym, ap, ◌∙◌, append-nil, arith}
use Rattle.std.proofs.lemmas.Grind.{flat_map-append}
use Rattle.std.proofs.lemmas.List.{take_more, length-take-le}
use Rattle.job.specs.Job.{State, Run, Refused, later, run_byte, followed_by, run, new}
use Rattle.job.proofs.Runs.{run_append}
use Rattle.interpreter.specs.declared.Interpreter.{Interpreter}
use Rattle.interpreter.specs.Interpreter.{state_of}
use Rattle.runs.specs.declared.fault.RefusedCommand.{RefusedCommand}
use Rattle.report.specs.Reports.{action_line, action_lines, AddsByte, Reports}

-- what one byte more does
one_byte : (st : State) (b : ℕ) → run st (b ∷ []) ≡ run_byte st b
one_byte st b =
    let r = run_byte st b in
    λ i. record { acts = append-nil r.acts i; refusals = append-nil r.refusals i; state = r.state }

behind : (s : List ℕ) (i : ℕ) → i < length s → run new (take (i + 1) s) ≡ followed_by (run new (take i s)) i (run_byte (run new (take i s)).state (get_or s i 0))
behind s i h =
    let r = run new (take i s) in
    let size : length (take i s) ≡ i = length-take-le i s (omega arith) in
    ap (λ l. run new l) (take_more s i 0 h) ∙ run_append (take i s) new (get_or s i 0 ∷ [])
    ∙ ap (λ (q : Run). followed_by r (length (take i s)) q) (one_byte r.state (get_or s i 0))
    ∙ ap (λ n. followed_by r n (run_byte r.state (get_or s i 0))) size

module _ (s : List ℕ) (i : ℕ) (h : i < length s) (p q : Interpreter) (lines lines' : List ℕ) (refused refused' : List RefusedCommand)
    (before : Reports (take i s) lines refused) (at : state_of p ≡ (run new (take i s)).state) (a : AddsByte s i p lines refused q lines' refused') where
  next : run new (take (i + 1) s) ≡ followed_by (run new (take i s)) i (run_byte (state_of p) (get_or s i 0))
  next = behind s i h ∙ ap (λ (st : State). followed_by (run new (take i s)) i (run_byte st (get_or s i 0))) (sym at)

  pub reports_more : Reports (take (i + 1) s) lines' refused'
  reports_more =
      let r = run_byte (state_of p) (get_or s i 0) in
      record {
        job_lines =
            a.ordered ∙ ap (λ l. l ++ action_lines r.acts) before.job_lines ∙ sym (flat_map-append action_line (run new (take i s)).acts r.acts)
            ∙ ap (λ (x : Run). action_lines x.acts) (sym next);
        refusals = a.refusals ∙ ap (λ (l : List Refused). l ++ later i r.refusals) before.refusals ∙ ap (λ (x : Run). x.refusals) (sym next);
      }

  pub state_more : state_of q ≡ (run new (take (i + 1) s)).state
  state_more = a.state ∙ ap (λ (x : Run). x.state) (sym next)
