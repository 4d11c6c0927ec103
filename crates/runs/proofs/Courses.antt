-- How a feed goes, loop by loop: the actions owed are offered, and then, byte by byte, a byte is read and what it orders is offered.
use Rattle.std.proofs.Common.{◌≡◌, ℕ, ◌+◌, ◌<◌, ◌≤◌, List, [], ◌∷◌, ◌++◌, length, get_or, drop, ℤ, pos, ◌+ℤ◌, neg_ℤ, Some, None, Ok, Err, sym, ap, ◌∙◌, subst, arith}
use Rattle.std.proofs.lemmas.List.{drop_more, drop_all}
use Rattle.reading.specs.declared.Refusal.{Refusal}
use Rattle.reading.specs.Unfinished.{begun}
use Rattle.job.specs.Actions.{Act}
use Rattle.job.specs.Job.{State, step}
use Rattle.mechanism.specs.declared.fault.Fault.{Fault}
use Rattle.mechanism.specs.declared.mechanism.Mechanism.{Ghosts}
use Rattle.mechanism.specs.Mechanisms.{Taken}
use Rattle.runs.specs.Outcomes.{Command, Mechanism, refused_at_once}
use Rattle.runs.specs.Offers.{Chain, Settled}
use Rattle.runs.specs.Feeds.{End, ended, later, FeedsTo, takes, stuck, reads, refused, ends}
use Rattle.runs.proofs.Outcomes.{later_none, later_later}

module _ {S : Type 0} (g : Ghosts S) where
  chain_on : (done more : List Act) (st : State) (m n : S) (bs : List ℕ) (e : End S)
      → Chain (Taken g.reserve g.stopped g.need g.took) m done n → FeedsTo g more st n bs e → FeedsTo g (done ++ more) st m bs e
  chain_on [] more st m n bs e c f = let P : S → Type 0 = λ x. FeedsTo g more st x bs e in subst P (sym c) f
  chain_on (a ∷ done) more st m n bs e (p, t, c) f = takes t (chain_on done more st p n bs e c f)

  -- all that was owed is taken, and the feed goes on with nothing owed
  pub settled_on : (owed left : List Act) (st : State) (m n : S) (bs : List ℕ) (e : End S)
      → Settled g owed m (Ok tt) left n → FeedsTo g [] st n bs e → FeedsTo g owed st m bs e
  settled_on owed left st m n bs e s f =
      let P : List Act → Type 0 = λ x. FeedsTo g x st m bs e in
      subst P (sym (s.1 ∙ ap (λ x. s.0 ++ x) s.3)) (chain_on s.0 [] st m n bs e s.2 f)

  -- one of the actions owed is refused, which ends the feed
  pub settled_stuck : (owed left : List Act) (st : State) (m n : S) (bs : List ℕ) (f : Fault)
      → Settled g owed m (Err f) left n
      → FeedsTo g owed st m bs (ended 0 (Err (Mechanism f)) left st n)
  settled_stuck owed left st m n bs f s =
      let x = s.3 in
      let E : List Act → End S = λ l. ended 0 (Err (Mechanism f)) l st n in
      let Q : List Act → Type 0 = λ l. FeedsTo g l st n bs (E l) in
      let P : List Act → Type 0 = λ l. FeedsTo g l st m bs (E left) in
      subst P (sym s.1) (chain_on s.0 left st m n bs (E left) s.2 (subst Q (sym x.2) (stuck x.3)))

  -- from the loop's start, with nothing owed, to where so many bytes of the piece are taken and nothing is owed
  unfoldable pub Along : State → S → List ℕ → ℕ → State → S → Type 0
  Along st m piece k q n = (e : End S) → FeedsTo g [] q n (drop k piece) e → FeedsTo g [] st m piece (later k e)

  pub along_none : (st : State) (m : S) (piece : List ℕ) (k : ℕ) → k ≡ 0 → Along st m piece k st m
  unfolding Along
  along_none st m piece k z e f =
      let P : ℕ → Type 0 = λ x. FeedsTo g [] st m (drop x piece) e in
      let E : End S → Type 0 = λ x. FeedsTo g [] st m piece x in
      let Q : ℕ → Type 0 = λ x. FeedsTo g [] st m piece (later x e) in
      subst Q (sym z) (subst E (sym (later_none e)) (subst P z f))

  pub along_more : (st q t : State) (m n p : S) (piece : List ℕ) (k : ℕ) (owed left : List Act) → k < length piece → Along st m piece k q n
      → (step q (get_or piece k 0)).refusal ≡ None → (step q (get_or piece k 0)).acts ≡ owed → (step q (get_or piece k 0)).next ≡ t
      → Settled g owed n (Ok tt) left p → Along st m piece (k + 1) t p
  unfolding Along
  along_more st q t m n p piece k owed left h a fine orders next d e f =
      let b = get_or piece k 0 in
      let rest = drop (k + 1) piece in
      let O : List Act → Type 0 = λ x. FeedsTo g x t n rest e in
      let T : State → Type 0 = λ x. FeedsTo g (step q b).acts x n rest e in
      let L : List ℕ → Type 0 = λ x. FeedsTo g [] q n x (later 1 e) in
      let E : End S → Type 0 = λ x. FeedsTo g [] st m piece x in
      let one = reads fine (subst T (sym next) (subst O (sym orders) (settled_on owed left t n p rest e d f))) in
      subst E (later_later k 1 e) (a (later 1 e) (subst L (sym (drop_more piece k 0 h)) one))

  -- the piece is at its end
  pub course_whole : (st q : State) (m n : S) (piece : List ℕ) (k : ℕ) (owed : List Act) → Along st m piece k q n → length piece ≤ k → owed ≡ []
      → FeedsTo g [] st m piece (ended k (Ok tt) owed q n)
  unfolding Along
  course_whole st q m n piece k owed a h z =
      let E : ℕ → List Act → End S = λ x o. ended x (Ok tt) o q n in
      let L : List ℕ → Type 0 = λ x. FeedsTo g [] q n x (E 0 []) in
      let Q : ℕ → Type 0 = λ x. FeedsTo g [] st m piece (E x []) in
      let O : List Act → Type 0 = λ o. FeedsTo g [] st m piece (E k o) in
      let c : k + 0 ≡ k = omega arith in
      subst O (sym z) (subst Q c (a (E 0 []) (subst L (sym (drop_all k piece h)) ends)))

  -- a command is refused at the next byte
  pub course_refused : (st q t : State) (m n : S) (piece : List ℕ) (k : ℕ) (owed : List Act) (why : Refusal) (place : ℤ) → Along st m piece k q n → k < length piece
      → (step q (get_or piece k 0)).refusal ≡ Some why → (step q (get_or piece k 0)).next ≡ t → owed ≡ [] → place ≡ pos k +ℤ neg_ℤ (pos (length (begun q.reading)))
      → FeedsTo g [] st m piece (ended (k + 1) (Err (Command (record { refusal = why; place = place }))) owed t n)
  unfolding Along
  course_refused st q t m n piece k owed why place a h bad next z is =
      let b = get_or piece k 0 in
      let E : End S = ended 1 (Err (Command (refused_at_once q.reading why))) [] (step q b).next n in
      let L : List ℕ → Type 0 = λ x. FeedsTo g [] q n x E in
      let there : ℤ → List Act → State → End S = λ x o y. ended (k + 1) (Err (Command (record { refusal = why; place = x }))) o y n in
      let here = pos k +ℤ neg_ℤ (pos (length (begun q.reading))) in
      let T : State → Type 0 = λ y. FeedsTo g [] st m piece (there here [] y) in
      let O : List Act → Type 0 = λ o. FeedsTo g [] st m piece (there here o t) in
      let P : ℤ → Type 0 = λ x. FeedsTo g [] st m piece (there x owed t) in
      subst P (sym is) (subst O (sym z) (subst T next (a E (subst L (sym (drop_more piece k 0 h)) (refused bad)))))

  -- an action that the next byte orders is refused
  pub course_stuck : (st q t : State) (m n p : S) (piece : List ℕ) (k : ℕ) (owed left : List Act) (f : Fault) → Along st m piece k q n → k < length piece
      → (step q (get_or piece k 0)).refusal ≡ None → (step q (get_or piece k 0)).acts ≡ owed → (step q (get_or piece k 0)).next ≡ t
      → Settled g owed n (Err f) left p
      → FeedsTo g [] st m piece (ended (k + 1) (Err (Mechanism f)) left t p)
  unfolding Along
  course_stuck st q t m n p piece k owed left f a h fine orders next d =
      let b = get_or piece k 0 in
      let rest = drop (k + 1) piece in
      let E : ℕ → End S = λ x. ended x (Err (Mechanism f)) left t p in
      let O : List Act → Type 0 = λ x. FeedsTo g x t n rest (E 0) in
      let T : State → Type 0 = λ x. FeedsTo g (step q b).acts x n rest (E 0) in
      let L : List ℕ → Type 0 = λ x. FeedsTo g [] q n x (E 1) in
      a (E 1) (subst L (sym (drop_more piece k 0 h)) (reads fine (subst T (sym next) (subst O (sym orders) (settled_stuck owed left t n p rest f d)))))
