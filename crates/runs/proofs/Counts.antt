-- One count, and one answer to each call.
use Rattle.std.proofs.Common.{◌≡◌, ℕ, suc, ◌+◌, Bool, List, [], ◌∷◌, ◌++◌, take, Err, sym, refl, ap, ◌∙◌, subst, append_assoc, arith}
use Rattle.reading.specs.declared.Refusal.{Refusal}
use Rattle.job.specs.Actions.{Act}
use Rattle.mechanism.specs.declared.fault.Fault.{Fault}
use Rattle.mechanism.specs.declared.fault.Fault.TheVariants.{Stopped, ShortReserve}
use Rattle.mechanism.specs.Refusals.{Barred, Free}
use Rattle.runs.specs.Outcomes.{Outcome, Command, Mechanism, refused_at_once, outcome_later}
use Rattle.runs.specs.Count.{Count, state_behind, Goes, acts, stuck, reads, refused, ends}
use Rattle.runs.specs.Calls.{Call, Choice, Counted, none, then_fed, then_covered, then_supplied, then_status, then_settings, all_asked}
use Rattle.runs.specs.CountLaws.{Follows, Joins, CountsBytes}

pub never_both : (n r : ℕ) (s : Bool) (a : Act) (f : Fault) → Free n r s a → Barred n r s a f → ⊥
never_both n r s a Stopped (o, p) (x, y) = let e = o x in let z : ◌≡◌ {A = ℕ} 0 1 = cc in omega arith
never_both n r s a ShortReserve (o, p) (x, y) = omega arith

pub same_fault : (n r : ℕ) (s : Bool) (a : Act) (f g : Fault) → Barred n r s a f → Barred n r s a g → f ≡ g
same_fault n r s a Stopped Stopped x y = refl
same_fault n r s a ShortReserve ShortReserve x y = refl
same_fault n r s a Stopped ShortReserve (x, y) (v, w) = let e = v x in cc
same_fault n r s a ShortReserve Stopped (v, w) (x, y) = let e = v x in cc

module _ (need : Act → ℕ) where
  pub one_way : (falls : List ℕ) (c : Count) (piece : List ℕ) (k l : ℕ) (e f : Outcome) (x y : Count)
      → Goes need falls c piece k e x → Goes need falls c piece l f y → (k ≡ l) × (e ≡ f) × (x ≡ y)
  one_way _ _ piece k l e f x y (acts {falls = falls} p q g) (acts u v h) = one_way falls _ piece k l e f x y g h
  one_way _ _ piece k l e f x y (acts {a = a} {r = r} {s = s} p q g) (stuck {f = z} w) = absurd (never_both (need a) r s a z p w)
  one_way _ _ piece k l e f x y (stuck {f = z} w) (acts {a = a} {r = r} {s = s} p q g) = absurd (never_both (need a) r s a z p w)
  one_way _ _ piece k l e f x y (stuck {a = a} {r = r} {s = s} {f = z} w) (stuck {f = v} u) =
      (refl, ap (λ (i : Fault). let o : Outcome = Err (Mechanism i) in o) (same_fault (need a) r s a z v w u), refl)
  one_way falls _ _ k l e f x y (reads {piece = piece} {k = i} {e = d} p g) (reads {k = j} {e = c} q h) =
      let w = one_way falls _ piece i j d c x y g h in
      (ap (λ z. 1 + z) w.0, ap (outcome_later 1) w.1, w.2)
  one_way _ _ _ k l e f x y (reads {t = t} {b = b} p g) (refused {why = why} q) = absurd cc
  one_way _ _ _ k l e f x y (refused {why = why} q) (reads {t = t} {b = b} p g) = absurd cc
  one_way _ _ _ k l e f x y (refused {t = t} {b = b} {why = why} p) (refused {why = other} q) = (
    refl,
    ap (λ (z : Refusal). let o : Outcome = Err (Command (refused_at_once (state_behind t).reading z)) in o) (let same : why ≡ other = cc in same),
    refl,
  )
  one_way _ _ _ k l e f x y ends ends = (refl, refl, refl)

module _ (need : Act → ℕ) (reserve : ℕ) (stopped : Bool) where
  pub follows_here : (choices : List Choice) (calls others : List Call) (c d : Count)
      → Counted need reserve stopped choices calls c → Counted need reserve stopped choices others d → all_asked calls ≡ all_asked others
      → (calls ≡ others) × (c ≡ d)
  follows_here _ _ _ c d none none q = (refl, refl)
  follows_here _ _ _ c d (then_fed {choices = choices} {calls = calls} {c = i} {fs = fs} {piece = piece} {k = k} {e = e} x g) (then_fed {calls = others} {c = j} {piece = other} {k = l} {e = f} y h) q =
      let rest : all_asked calls ≡ all_asked others = cc in
      let same : other ≡ piece = cc in
      let w = follows_here choices calls others i j x y rest in
      let P : List ℕ → Type 0 = λ z. Goes need fs j z l f d in
      let C : Count → Type 0 = λ z. Goes need fs z piece l f d in
      let u = one_way need fs i piece k l e f c d g (subst C (sym w.1) (subst P same h)) in
      let a = w.0 in let ks = u.0 in let es = u.1 in
      (cc, u.2)
  follows_here choices _ _ c d (then_covered {calls = calls} {c = i} x) (then_covered {calls = others} {c = j} y) q =
      let rest : all_asked calls ≡ all_asked others = cc in
      let w = follows_here choices calls others i j x y rest in let a = w.0 in let b = w.1 in (cc, cc)
  follows_here _ _ _ c d (then_supplied {choices = choices} {calls = calls} {c = i} x p) (then_supplied {calls = others} {c = j} y r) q =
      let rest : all_asked calls ≡ all_asked others = cc in
      let w = follows_here choices calls others i j x y rest in let a = w.0 in let b = w.1 in (cc, cc)
  follows_here choices _ _ c d (then_status {calls = calls} x) (then_status {calls = others} y) q =
      let rest : all_asked calls ≡ all_asked others = cc in
      let w = follows_here choices calls others c d x y rest in let a = w.0 in let b = w.1 in (cc, b)
  follows_here choices _ _ c d (then_settings {calls = calls} x) (then_settings {calls = others} y) q =
      let rest : all_asked calls ≡ all_asked others = cc in
      let w = follows_here choices calls others c d x y rest in let a = w.0 in let b = w.1 in (cc, b)
  -- calls of two kinds are not asked alike
  follows_here _ _ _ c d none (then_covered y) q = absurd (let z : ◌≡◌ {A = ℕ} 0 1 = cc in omega arith)
  follows_here _ _ _ c d none (then_status y) q = absurd (let z : ◌≡◌ {A = ℕ} 0 1 = cc in omega arith)
  follows_here _ _ _ c d none (then_settings y) q = absurd (let z : ◌≡◌ {A = ℕ} 0 1 = cc in omega arith)
  follows_here _ _ _ c d (then_fed x g) (then_covered y) q = absurd (let z : ◌≡◌ {A = ℕ} 0 1 = cc in omega arith)
  follows_here _ _ _ c d (then_fed x g) (then_status y) q = absurd (let z : ◌≡◌ {A = ℕ} 0 1 = cc in omega arith)
  follows_here _ _ _ c d (then_fed x g) (then_settings y) q = absurd (let z : ◌≡◌ {A = ℕ} 0 1 = cc in omega arith)
  follows_here _ _ _ c d (then_covered x) none q = absurd (let z : ◌≡◌ {A = ℕ} 0 1 = cc in omega arith)
  follows_here _ _ _ c d (then_covered x) (then_fed y h) q = absurd (let z : ◌≡◌ {A = ℕ} 0 1 = cc in omega arith)
  follows_here _ _ _ c d (then_covered x) (then_supplied y r) q = absurd (let z : ◌≡◌ {A = ℕ} 0 1 = cc in omega arith)
  follows_here _ _ _ c d (then_covered x) (then_status y) q = absurd (let z : ◌≡◌ {A = ℕ} 0 1 = cc in omega arith)
  follows_here _ _ _ c d (then_covered x) (then_settings y) q = absurd (let z : ◌≡◌ {A = ℕ} 0 1 = cc in omega arith)
  follows_here _ _ _ c d (then_supplied x p) (then_covered y) q = absurd (let z : ◌≡◌ {A = ℕ} 0 1 = cc in omega arith)
  follows_here _ _ _ c d (then_supplied x p) (then_status y) q = absurd (let z : ◌≡◌ {A = ℕ} 0 1 = cc in omega arith)
  follows_here _ _ _ c d (then_supplied x p) (then_settings y) q = absurd (let z : ◌≡◌ {A = ℕ} 0 1 = cc in omega arith)
  follows_here _ _ _ c d (then_status x) none q = absurd (let z : ◌≡◌ {A = ℕ} 0 1 = cc in omega arith)
  follows_here _ _ _ c d (then_status x) (then_fed y h) q = absurd (let z : ◌≡◌ {A = ℕ} 0 1 = cc in omega arith)
  follows_here _ _ _ c d (then_status x) (then_covered y) q = absurd (let z : ◌≡◌ {A = ℕ} 0 1 = cc in omega arith)
  follows_here _ _ _ c d (then_status x) (then_supplied y r) q = absurd (let z : ◌≡◌ {A = ℕ} 0 1 = cc in omega arith)
  follows_here _ _ _ c d (then_status x) (then_settings y) q = absurd (let z : ◌≡◌ {A = ℕ} 0 1 = cc in omega arith)
  follows_here _ _ _ c d (then_settings x) none q = absurd (let z : ◌≡◌ {A = ℕ} 0 1 = cc in omega arith)
  follows_here _ _ _ c d (then_settings x) (then_fed y h) q = absurd (let z : ◌≡◌ {A = ℕ} 0 1 = cc in omega arith)
  follows_here _ _ _ c d (then_settings x) (then_covered y) q = absurd (let z : ◌≡◌ {A = ℕ} 0 1 = cc in omega arith)
  follows_here _ _ _ c d (then_settings x) (then_supplied y r) q = absurd (let z : ◌≡◌ {A = ℕ} 0 1 = cc in omega arith)
  follows_here _ _ _ c d (then_settings x) (then_status y) q = absurd (let z : ◌≡◌ {A = ℕ} 0 1 = cc in omega arith)

pub follows : Follows
follows need reserve stopped choices calls others c d = follows_here need reserve stopped choices calls others c d

pub none_more : {A : Type 0} (xs : List A) → xs ≡ xs ++ []
none_more [] = refl
none_more (x ∷ xs) = ap (λ l. x ∷ l) (none_more xs)

pub take_one : (k b : ℕ) (bs : List ℕ) → b ∷ take k bs ≡ take (1 + k) (b ∷ bs)
take_one k b bs = let e : suc k ≡ 1 + k = omega arith in ap (λ z. take z (b ∷ bs)) e

pub counts_bytes : CountsBytes
counts_bytes need _ _ d piece k e (acts {falls = falls} p q g) = counts_bytes need falls _ d piece k e g
counts_bytes need _ _ d piece k e (stuck {t} w) = (omega arith, none_more t)
counts_bytes need falls _ d _ k _ (reads {t} {b = b} {piece = piece} {k = i} {e = e} p g) =
    let w = counts_bytes need falls _ d piece i e g in
    let l = w.0 in
    (omega arith, w.1 ∙ append_assoc t (b ∷ []) (take i piece) ∙ ap (λ z. t ++ z) (take_one i b piece))
counts_bytes need _ _ d _ k e (refused p) = (omega arith, refl)
counts_bytes need _ _ d _ k e (ends {t}) = (omega arith, none_more t)

pub joins : Joins
joins need reserve stopped _ _ c none = refl
joins need reserve stopped _ _ c (then_fed {choices} {calls} {c = b} {fs = fs} {piece = piece} {k = k} {e = e} x g) =
    (counts_bytes need fs b c piece k e g).1 ∙ ap (λ z. z ++ take k piece) (joins need reserve stopped choices calls b x)
joins need reserve stopped choices _ c (then_covered {calls = calls} {c = b} x) = joins need reserve stopped choices calls b x
joins need reserve stopped _ _ c (then_supplied {choices = choices} {calls = calls} {c = b} x p) = joins need reserve stopped choices calls b x
joins need reserve stopped choices _ c (then_status {calls = calls} x) = joins need reserve stopped choices calls c x
joins need reserve stopped choices _ c (then_settings {calls = calls} x) = joins need reserve stopped choices calls c x
