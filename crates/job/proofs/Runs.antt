-- Runs one after the other.
use Rattle.std.proofs.Common.{◌≡◌, ℕ, suc, ◌+◌, List, [], ◌∷◌, ◌++◌, length, ℤ, pos, ◌+ℤ◌, sym, refl, ap, ◌∙◌, append_assoc, arith}
use lib.IntN.{+ℤ_idl, +ℤ_assoc}
use Rattle.std.proofs.lemmas.List.{map-append}
use Rattle.std.specs.List.{flat_map}
use Rattle.job.specs.Actions.{Act}
use Rattle.job.specs.Job.{State, Run, Refused, later, stay, followed_by, run_byte, run}
use Rattle.job.specs.Laws.{InPieces}

pub later_none : (rs : List Refused) → later 0 rs ≡ rs
later_none [] = refl
later_none (r ∷ rs) = ap (λ (z : ℤ). (r.0, z) ∷ later 0 rs) (+ℤ_idl r.1) ∙ ap (λ (x : List Refused). r ∷ x) (later_none rs)

later_later : (m n : ℕ) (rs : List Refused) → later m (later n rs) ≡ later (m + n) rs
later_later m n [] = refl
later_later m n (r ∷ rs) =
    ap (λ (z : ℤ). (r.0, z) ∷ later m (later n rs)) (sym (+ℤ_assoc (pos m) (pos n) r.1))
    ∙ ap (λ (x : List Refused). (r.0, pos (m + n) +ℤ r.1) ∷ x) (later_later m n rs)

later_append : (n : ℕ) (rs qs : List Refused) → later n (rs ++ qs) ≡ later n rs ++ later n qs
later_append n rs qs = map-append (λ (r : Refused). (r.0, pos n +ℤ r.1)) rs qs

-- a run of these parts
abbrev parts : List Act → List Refused → State → Run
parts acts refusals st = record { acts = acts; refusals = refusals; state = st }

stay_followed : (st : State) (r : Run) → followed_by (stay st) 0 r ≡ r
stay_followed st r = ap (λ (x : List Refused). parts r.acts x r.state) (later_none r.refusals)

followed_assoc : (r : Run) (m : ℕ) (q : Run) (n : ℕ) (p : Run) → followed_by r m (followed_by q n p) ≡ followed_by (followed_by r m q) (m + n) p
followed_assoc r m q n p =
    ap (λ (x : List Act). parts x (r.refusals ++ later m (q.refusals ++ later n p.refusals)) p.state) (sym (append_assoc r.acts q.acts p.acts))
    ∙ ap (λ (x : List Refused). parts ((r.acts ++ q.acts) ++ p.acts) x p.state)
    (ap (λ (x : List Refused). r.refusals ++ x)
    (later_append m q.refusals (later n p.refusals) ∙ ap (λ (x : List Refused). later m q.refusals ++ x) (later_later m n p.refusals))
    ∙ sym (append_assoc r.refusals (later m q.refusals) (later (m + n) p.refusals)))

one_more : (n : ℕ) → 1 + n ≡ suc n
one_more n = omega arith

pub run_append : (s : List ℕ) (st : State) (t : List ℕ) → run st (s ++ t) ≡ followed_by (run st s) (length s) (run (run st s).state t)
run_append [] st t = sym (stay_followed st (run st t))
run_append (b ∷ s) st t =
    let next : State = (run_byte st b).state in
    let end : Run = run (run next s).state t in
    ap (λ (r : Run). followed_by (run_byte st b) 1 r) (run_append s next t)
    ∙ followed_assoc (run_byte st b) 1 (run next s) (length s) end
    ∙ ap (λ (n : ℕ). followed_by (followed_by (run_byte st b) 1 (run next s)) n end) (one_more (length s))

pub in_pieces : InPieces
in_pieces st [] = refl
in_pieces st (s ∷ pieces) =
    run_append s st (flat_map (λ p. p) pieces)
    ∙ ap (λ (r : Run). followed_by (run st s) (length s) r) (in_pieces (run st s).state pieces)

-- bytes that order these actions, refuse nothing and lead to this state
abbrev pub Reads : State → List ℕ → List Act → State → Type 0
Reads st s acts end = run st s ≡ parts acts [] end

pub reads_then : (st : State) (s t : List ℕ) {mid end : State} {a b : List Act} → Reads st s a mid → Reads mid t b end → Reads st (s ++ t) (a ++ b) end
reads_then st s t {mid} {end} {a} {b} h k =
    run_append s st t
    ∙ ap (λ (r : Run). followed_by r (length s) (run r.state t)) h
    ∙ ap (λ (r : Run). followed_by (parts a [] mid) (length s) r) k
