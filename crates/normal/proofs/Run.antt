-- The feeds that normalise makes keep the law of every run.
use Rattle.std.proofs.Common.{◌≡◌, ℕ, ◌-◌, Bool, List, [], ◌++◌, length, take, replicate, Ok, Err, Result, sym, refl, ap, ◌∙◌, subst, append-nil, arith}
use Rattle.std.proofs.lemmas.Bool.{both_ways}
use Rattle.stream.specs.Answers.{too_long}
use Rattle.job.specs.Job.{new}
use Rattle.mechanism.specs.Counts.{tally}
use Rattle.action_text.specs.Needs.{text_need}
use Rattle.runs.specs.Outcomes.{Outcome}
use Rattle.runs.specs.Calls.{Call}
use Rattle.runs.specs.Stands.{View, Stands, viewed}
use Rattle.runs.proofs.Standing.{new_stands}
use Rattle.writer.specs.Writers.{Writer, writer_rule, Begins}
use Rattle.normal.specs.declared.answer.NormaliseFault.{NormaliseFault}
use Rattle.normal.specs.declared.answer.NormaliseFault.TheVariants.{StreamTooLong, Feed}
use Rattle.normal.specs.Fitting.{room}
use Rattle.normal.specs.Written.{text_writer, FedToWriter, WritesText}
use Rattle.normal.specs.Runs.{writer_view, RunStands, StandsBehindFeeds}
use Rattle.normal.proofs.Writing.{chain_over}

abbrev view_of : List ℕ → ℕ → Bool → View
view_of sheet reserve stopped = record { sheet = sheet; reserve = reserve; stopped = stopped }

module _ (found : List ℕ) (w v : Writer) (begins : Begins w found) (out : List ℕ) (back : w.out.ghost_name ≡ v.out.ghost_name → out ≡ v.out.now)
    (stream : List ℕ) (passed : ℕ) (e : Outcome) (f : FedToWriter w stream passed e v) where
  first_view : viewed text_writer w ≡ writer_view (room found) (replicate 7 0) (take 0 out) 0
  first_view =
      let none : room found - 0 ≡ room found = omega arith in
      λ i. view_of (begins.sheet i) ((begins.reserve ∙ sym none) i) (begins.stopped i)

  last_view : viewed text_writer v ≡ writer_view (room found) (tally v.counts) (take v.len out) v.len
  last_view =
      let o = chain_over f.passes.passing.done w v f.passes.passing.chain in
      let left : text_writer.reserve v ≡ room found - v.len = omega (arith, o.same_length, ap length begins.buffer) in
      λ i. view_of (tally v.counts ++ take v.len (sym (back (sym o.same_buffer)) i)) (left i) ((o.mark_stays ∙ begins.stopped) i)

  ran : RunStands stream found v.len out
  ran =
      let p = f.passes.passing in
      let none : p.feeds ++ [] ≡ p.feeds = append-nil p.feeds in
      let s = p.stands (viewed text_writer w) [] (new_stands new [] refl refl text_need writer_rule (viewed text_writer w)) in
      let C : List Call → Type 0 = λ calls. Stands text_need writer_rule (viewed text_writer w) calls f.state f.owed (viewed text_writer v) in
      let F : View → Type 0 = λ first. Stands text_need writer_rule first p.feeds f.state f.owed (viewed text_writer v) in
      let L : View → Type 0 = λ last. Stands text_need writer_rule (writer_view (room found) (replicate 7 0) (take 0 out) 0) p.feeds f.state f.owed last in
      record {
        feeds = p.feeds;
        taken = f.taken;
        follow = p.follow;
        state = f.state;
        owed = f.owed;
        counts = tally v.counts;
        stands = subst L last_view (subst F first_view (subst C none s));
      }

module _ (found stream : List ℕ) (w v : Writer) (n passed : ℕ) where
  pub stands_behind : (r : Result Unit NormaliseFault) {out : List ℕ} → Begins w found → WritesText w stream passed r v → n ≡ v.len
      → (w.out.ghost_name ≡ v.out.ghost_name → out ≡ v.out.now) → StandsBehindFeeds stream found (record { written = n; passed_over = passed; outcome = r }) out
  stands_behind (Ok u) {out} begins writes len back short =
      let P : ℕ → Type 0 = λ k. RunStands stream found k out in
      subst P (sym len) (ran found w v begins out back stream passed (Ok u) writes)
  stands_behind (Err (Feed f)) {out} begins writes len back short =
      let P : ℕ → Type 0 = λ k. RunStands stream found k out in
      subst P (sym len) (ran found w v begins out back stream passed (Err f) writes)
  stands_behind (Err StreamTooLong) begins (long, none, same) len back short = absurd (both_ways (too_long stream) short long)
