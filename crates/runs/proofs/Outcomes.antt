-- Places counted from earlier bytes.
use Rattle.std.proofs.Common.{◌≡◌, ℕ, ◌+◌, ℤ, pos, Ok, Err, sym, refl, ap, ◌∙◌, arith}
use lib.IntN.{+ℤ_idl, +ℤ_assoc}
use Rattle.reading.specs.declared.Refusal.{Refusal}
use Rattle.runs.specs.Outcomes.{Outcome, Command, Mechanism, outcome_later}
use Rattle.runs.specs.Feeds.{End, ended, later}

abbrev at_place : Refusal → ℤ → Outcome
at_place why z = Err (Command (record { refusal = why; place = z }))

pub outcome_later_none : (e : Outcome) → outcome_later 0 e ≡ e
outcome_later_none (Ok u) = refl
outcome_later_none (Err (Command c)) = ap (at_place c.refusal) (+ℤ_idl c.place)
outcome_later_none (Err (Mechanism f)) = refl

pub outcome_later_later : (m n : ℕ) (e : Outcome) → outcome_later m (outcome_later n e) ≡ outcome_later (m + n) e
outcome_later_later m n (Ok u) = refl
outcome_later_later m n (Err (Command c)) = ap (at_place c.refusal) (sym (+ℤ_assoc (pos m) (pos n) c.place))
outcome_later_later m n (Err (Mechanism f)) = refl

pub later_none : {S : Type 0} (e : End S) → later 0 e ≡ e
later_none e =
    let n : 0 + e.taken ≡ e.taken = omega arith in
    ap (λ (k : ℕ). ended k (outcome_later 0 e.outcome) e.owed e.state e.mechanism) n
    ∙ ap (λ (o : Outcome). ended e.taken o e.owed e.state e.mechanism) (outcome_later_none e.outcome)

pub later_later : {S : Type 0} (m n : ℕ) (e : End S) → later m (later n e) ≡ later (m + n) e
later_later m n e =
    let k : m + (n + e.taken) ≡ m + n + e.taken = omega arith in
    ap (λ (k : ℕ). ended k (outcome_later m (outcome_later n e.outcome)) e.owed e.state e.mechanism) k
    ∙ ap (λ (o : Outcome). ended (m + n + e.taken) o e.owed e.state e.mechanism) (outcome_later_later m n e.outcome)
