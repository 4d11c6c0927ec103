-- Bar codes and cuts.
use Rattle.std.proofs.Common.{◌≡◌, ℕ, ◌≤◌, Bool, true, false, cond, ◌||◌, eqb, List, [], ◌∷◌, ◌++◌, length, replicate, Some, None, Option, Ok, Err, sym, refl, ap, ◌∙◌, subst, append-nil, arith}
use Rattle.std.specs.List.{AllByRecursion}
use Rattle.reading.specs.Tests.{between}
use Rattle.job.specs.declared.bars.BarFault.TheVariants as fault
use Rattle.job.specs.Actions.{Act}
use Rattle.job.specs.Printer.{Printer, emptied}
use Rattle.job.specs.Row.{closing}
use Rattle.job.specs.BarCodes.{BarKind, Verdict, kind_of, right_characters, right_length, verdict}
use Rattle.job.specs.Effects.{Effect, times}
use Rattle.job.specs.Lines.{feed_line}
use Rattle.job.specs.Commands.{cut_of, or_default, bars_of, judge}
use Rattle.job.specs.Job.{Run, run}
use Rattle.job.specs.CommandLaws.{between_commands, Cutting}
use Rattle.job.specs.BarLaws.{bar_command, BarCodesAreJudged}
use Rattle.job.proofs.Runs.{Reads, reads_then}
use Rattle.job.proofs.Simple.{in_string, string_read}
use Rattle.job.proofs.Feeds.{fed}

-- the end of a bar code command in range
judged : (p : Printer) (n1 n2 n3 n4 : ℕ) (s : List ℕ) (k : Option BarKind) (v : Verdict)
    → (eqb n2 0 || between 2 5 n2) ≡ true → (eqb n3 0 || between 50 200 n3) ≡ true → kind_of n1 ≡ k → verdict k s ≡ v
    → let e : Effect = judge v (bars_of k (or_default 2 n2) (or_default 50 n3) (eqb n4 1) s) p in
    Reads (in_string p (n1 ∷ n2 ∷ n3 ∷ n4 ∷ []) s) (0x00 ∷ []) (e.acts ++ []) (between_commands e.printer)
judged p n1 n2 n3 n4 s k v a b i j = rw (a, b, i, j)

-- a whole command, by its verdict
by_verdict : (p : Printer) (n1 n2 n3 n4 : ℕ) (s : List ℕ) (k : Option BarKind) (v : Verdict)
    → (eqb n2 0 || between 2 5 n2) ≡ true → (eqb n3 0 || between 50 200 n3) ≡ true → AllByRecursion (λ b. 1 ≤ b) s → length s ≤ 25 → kind_of n1 ≡ k → verdict k s ≡ v
    → let e : Effect = judge v (bars_of k (or_default 2 n2) (or_default 50 n3) (eqb n4 1) s) p in
    Reads (between_commands p) (bar_command n1 n2 n3 n4 s) e.acts (between_commands e.printer)
by_verdict p n1 n2 n3 n4 s k v a b h l i j =
    let e : Effect = judge v (bars_of k (or_default 2 n2) (or_default 50 n3) (eqb n4 1) s) p in
    let ps : List ℕ = n1 ∷ n2 ∷ n3 ∷ n4 ∷ [] in
    subst (λ (acts : List Act). Reads (between_commands p) (bar_command n1 n2 n3 n4 s) acts (between_commands e.printer)) (append-nil e.acts)
    (reads_then (between_commands p) (0x1B ∷ 0x62 ∷ ps) (s ++ 0x00 ∷ []) refl
    (reads_then (in_string p ps []) s (0x00 ∷ []) (string_read p ps [] s h (omega arith)) (judged p n1 n2 n3 n4 s k v a b i j)))

-- the verdict by its tests
tested : (kind : BarKind) (s : List ℕ) (x y : Bool) → right_characters kind s ≡ x → right_length kind (length s) ≡ y
    → verdict (Some kind) s ≡ cond x (cond y (Ok tt) (Err fault.WrongLength)) (Err fault.WrongCharacter)
tested kind s x y e f = rw (e, f)

pub bar_codes_are_judged : BarCodesAreJudged
bar_codes_are_judged p n1 n2 n3 n4 s a b h l = record {
  unknown_kind = λ i. by_verdict p n1 n2 n3 n4 s None (Err fault.UnknownKind) a b h l i refl;
  wrong_character = λ kind i c. by_verdict p n1 n2 n3 n4 s (Some kind) (Err fault.WrongCharacter) a b h l i (tested kind s false (right_length kind (length s)) c refl);
  wrong_length = λ kind i c d. by_verdict p n1 n2 n3 n4 s (Some kind) (Err fault.WrongLength) a b h l i (tested kind s true false c d);
  accepted = λ kind i c d. by_verdict p n1 n2 n3 n4 s (Some kind) (Ok tt) a b h l i (tested kind s true true c d);
}

-- cuts

-- a run that refuses nothing and ends between two commands
abbrev as_read : List Act → Printer → Run
as_read acts p = record { acts = acts; refusals = []; state = between_commands p }

closed_read : (p : Printer) → Reads (between_commands p) (0x1B ∷ 0x4A ∷ 0x00 ∷ []) (closing p.row) (between_commands (emptied p))
closed_read p = ap (λ (acts : List Act). as_read acts (emptied p)) (append-nil (closing p.row ++ []) ∙ append-nil (closing p.row))

cut_done : (p : Printer) (n : ℕ) (a : Act) → p.settings.cutter.on ≡ true → p.settings.cutter.lines ≡ n → cut_of p.settings.cutter ≡ a
    → run (between_commands p) (0x1B ∷ 0x6D ∷ []) ≡ as_read (((closing p.row ++ (times n feed_line (emptied p)).acts) ++ a ∷ []) ++ []) (times n feed_line (emptied p)).printer
cut_done p n a e i j = rw (e, i, j)

pub cutting : Cutting
cutting p = record {
  on = λ e.
      let n : ℕ = p.settings.cutter.lines in
      let a : Act = cut_of p.settings.cutter in
      let acts : List Act = closing p.row ++ (times n feed_line (emptied p)).acts in
      let before : Reads (between_commands p) (0x1B ∷ 0x4A ∷ 0x00 ∷ replicate n 0x0A) acts (between_commands (times n feed_line (emptied p)).printer) =
      reads_then (between_commands p) (0x1B ∷ 0x4A ∷ 0x00 ∷ []) (replicate n 0x0A) (closed_read p) (fed n (emptied p)) in
      cut_done p n a e refl refl
      ∙ ap (λ (x : List Act). as_read x (times n feed_line (emptied p)).printer) (append-nil (acts ++ a ∷ []))
      ∙ sym (ap (λ (r : Run). let q : Run = record { acts = r.acts ++ a ∷ []; refusals = r.refusals; state = r.state } in q) before);
  off = λ e. rw e;
}
