-- A feed has an end, and a run goes on whatever is asked.
use Rattle.std.proofs.Common.{◌≡◌, ℕ, ◌+◌, ◌-◌, ◌≤◌, Bool, true, false, ◌⊎◌, List, [], ◌∷◌, ◌++◌, Some, None, Ok, Err, Option, refl, ap, inl, inr, arith}
use native.Mathlib.Decide.{dec_le}
use Rattle.reading.specs.declared.Refusal.{Refusal}
use Rattle.job.specs.Actions.{Act}
use Rattle.job.specs.Job.{step}
use Rattle.mechanism.specs.declared.fault.Fault.{Fault}
use Rattle.mechanism.specs.declared.fault.Fault.TheVariants.{Stopped, ShortReserve}
use Rattle.mechanism.specs.Refusals.{Barred, Free, is_reply}
use Rattle.mechanism.specs.Statuses.{status_of}
use Rattle.runs.specs.Outcomes.{Outcome, Command, Mechanism, refused_at_once, outcome_later}
use Rattle.runs.specs.Count.{Count, counting, state_behind, Goes, acts, stuck, reads, refused, ends}
use Rattle.runs.specs.Calls.{fed, covered, supplied, status, settings, falls, grant, none, then_fed, then_covered, then_supplied, then_status, then_settings, Asked, to_feed, to_cover, to_supply, for_status, for_settings}
use Rattle.runs.specs.Choices.{FallsBy}
use Rattle.runs.specs.CountLaws.{GoesOn, RunsOn}

module _ (need : Act → ℕ) (rule : Count → Act → ℕ) (within : (c : Count) (a : Act) → rule c a ≤ need a) where
  abbrev SomeWay : Count → List ℕ → Type 0
  SomeWay c piece = (fs : List ℕ) × (k : ℕ) × (e : Outcome) × (d : Count) × (w : Goes need fs c piece k e d) × FallsBy need rule w

  -- an action is taken or refused
  abbrev Decided : ℕ → Bool → Act → Type 0
  Decided r s a = Free (need a) r s a ⊎ ((f : Fault) × Barred (need a) r s a f)

  unstopped : (r : ℕ) (s : Bool) (a : Act) → (s ≡ true → is_reply a ≡ true) → Decided r s a
  unstopped r s a h = elim (dec_le (need a) r) [ yes le ↦ inl (h, le) | no not ↦ inr (ShortReserve, (h, omega arith)) ]

  decided : (r : ℕ) (s x : Bool) (a : Act) → is_reply a ≡ x → Decided r s a
  decided r true false a h = inr (Stopped, (refl, h))
  decided r true true a h = unstopped r true a (λ _. h)
  decided r false x a h = unstopped r false a (λ e. absurd (let z : ◌≡◌ {A = ℕ} 0 1 = cc in omega arith))

  -- the reserve after the first action owed is taken
  abbrev after : List ℕ → Act → List Act → ℕ → Bool → ℕ
  after t a o r s = r - rule (counting t (a ∷ o) r s) a

  offered : (t : List ℕ) (a : Act) (o : List Act) (r : ℕ) (s : Bool) (piece : List ℕ) → Decided r s a → SomeWay (counting t o (after t a o r s) s) piece → SomeWay (counting t (a ∷ o) r s) piece
  offered t a o r s piece (inl free) (fs, k, e, d, g, x) =
      let c : Count = counting t (a ∷ o) r s in
      (rule c a ∷ fs, k, e, d, acts free (within c a) g, (refl, x))
  offered t a o r s piece (inr (f, b)) w = ([], 0, Err (Mechanism f), counting t (a ∷ o) r s, stuck b, tt)

  settles : (t : List ℕ) (o : List Act) (s : Bool) (piece : List ℕ) → ((r : ℕ) → SomeWay (counting t [] r s) piece) → (r : ℕ) → SomeWay (counting t o r s) piece
  settles t [] s piece h r = h r
  settles t (a ∷ o) s piece h r = offered t a o r s piece (decided r s (is_reply a) a refl) (settles t o s piece h (after t a o r s))

  byte : (t : List ℕ) (s : Bool) (b : ℕ) (piece : List ℕ) (r : ℕ) (x : Option Refusal) → (step (state_behind t) b).refusal ≡ x
      → ((r : ℕ) → SomeWay (counting (t ++ b ∷ []) [] r s) piece) → SomeWay (counting t [] r s) (b ∷ piece)
  byte t s b piece r None h more =
      let w = settles (t ++ b ∷ []) (step (state_behind t) b).acts s piece more r in
      (w.0, 1 + w.1, outcome_later 1 w.2, w.3, reads h w.4, w.5)
  byte t s b piece r (Some why) h more = ([], 1, Err (Command (refused_at_once (state_behind t).reading why)), counting (t ++ b ∷ []) [] r s, refused h, tt)

  feeds : (t : List ℕ) (s : Bool) (piece : List ℕ) (r : ℕ) → SomeWay (counting t [] r s) piece
  feeds t s [] r = ([], 0, Ok tt, counting t [] r s, ends, tt)
  feeds t s (b ∷ piece) r = byte t s b piece r (step (state_behind t) b).refusal refl (feeds (t ++ b ∷ []) s piece)

pub goes_on : GoesOn
goes_on need rule within c piece = settles need rule within c.taken c.owed c.stopped piece (feeds need rule within c.taken c.stopped piece) c.reserve

pub runs_on : RunsOn
runs_on need rule grants within offers reserve stopped [] = ([], [], counting [] [] reserve stopped, refl, none, tt)
runs_on need rule grants within offers reserve stopped (to_feed piece ∷ asks) =
    let r = runs_on need rule grants within offers reserve stopped asks in
    let g = goes_on need rule within r.2 piece in
    (falls g.0 ∷ r.0, fed piece g.1 g.2 ∷ r.1, g.3, ap (λ (l : List Asked). to_feed piece ∷ l) r.3, then_fed r.4 g.4, (g.5, r.5))
runs_on need rule grants within offers reserve stopped (to_cover opened ∷ asks) =
    let r = runs_on need rule grants within offers reserve stopped asks in
    let c = r.2 in
    (r.0, covered opened ∷ r.1, counting c.taken c.owed c.reserve opened, ap (λ (l : List Asked). to_cover opened ∷ l) r.3, then_covered r.4, r.5)
runs_on need rule grants within offers reserve stopped (to_supply offer ∷ asks) =
    let r = runs_on need rule grants within offers reserve stopped asks in
    let c = r.2 in
    let n = grants c offer in (
      grant n ∷ r.0,
      supplied offer n ∷ r.1,
      counting c.taken c.owed (c.reserve + n) c.stopped,
      ap (λ (l : List Asked). to_supply offer ∷ l) r.3,
      then_supplied r.4 (offers c offer),
      (refl, r.5),
    )
runs_on need rule grants within offers reserve stopped (for_status ∷ asks) =
    let r = runs_on need rule grants within offers reserve stopped asks in
    let c = r.2 in
    (r.0, status (status_of c.reserve c.stopped) ∷ r.1, c, ap (λ (l : List Asked). for_status ∷ l) r.3, then_status r.4, r.5)
runs_on need rule grants within offers reserve stopped (for_settings ∷ asks) =
    let r = runs_on need rule grants within offers reserve stopped asks in
    let c = r.2 in
    (r.0, settings (state_behind c.taken).printer.settings ∷ r.1, c, ap (λ (l : List Asked). for_settings ∷ l) r.3, then_settings r.4, r.5)
