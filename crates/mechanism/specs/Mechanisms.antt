-- What a mechanism promises, over its ghost members.
use Rattle.std.specs.Prelude.{◌≡◌, ℕ, ◌+◌, ◌%◌, ◌^◌, ◌<◌, ◌≤◌, Bool, List, map, length, Ok, Err, Result}
use Rattle.job.specs.Actions.{Act}
use Rattle.job.specs.Orderable.{Orderable}
use Rattle.mechanism.specs.declared.fault.Fault.{Fault}
use Rattle.mechanism.specs.Counts.{counted}
use Rattle.mechanism.specs.Refusals.{Barred, Free}

-- from one state to the next by an action taken
pub record Moved {S : Type 0} (sheet : S → List ℕ) (reserve : S → ℕ) (stopped : S → Bool) (need : Act → ℕ)
    (rule : List ℕ → Act → List ℕ) (m : S) (a : Act) (n : S) : Type 0 where
  pub sheet_moves : sheet n ≡ rule (sheet m) a
  pub reserve_falls : reserve n ≤ reserve m
  pub within_need : reserve m ≤ reserve n + need a
  pub mark_stays : stopped n ≡ stopped m

-- no action that a stream can order needs more
abbrev pub need_limit : ℕ
need_limit = 512

-- what every mechanism keeps
pub record Laws {S : Type 0} (sheet : S → List ℕ) (reserve : S → ℕ) (stopped : S → Bool) (need : Act → ℕ)
    (rule : List ℕ → Act → List ℕ) (counts : List ℕ → List ℕ) (took : S → Act → S → Type 0) : Type 0 where
  -- every sheet shows seven counts modulo 2^32, and they move as the action says
  pub seven_counts : (s : List ℕ) → length (counts s) ≡ 7
  pub counts_modulo : (s : List ℕ) → map (λ n. n % 2 ^ 32) (counts s) ≡ counts s
  pub counts_move : (s : List ℕ) (a : Act) → counts (rule s a) ≡ counted (counts s) a
  pub need_bounded : (a : Act) → Orderable a → need a ≤ need_limit
  pub reserve_bounded : (m : S) → reserve m < 2 ^ 32
  pub took_moves : (m : S) (a : Act) (n : S) → took m a n → Moved sheet reserve stopped need rule m a n

-- an action that is not refused, and what the mechanism makes of it
abbrev pub Taken : {S : Type 0} → (S → ℕ) → (S → Bool) → (Act → ℕ) → (S → Act → S → Type 0) → S → Act → S → Type 0
Taken reserve stopped need took m a n = Free (need a) (reserve m) (stopped m) a × took m a n

-- what `act` answers: refused, nothing moves
abbrev pub Acted : {S : Type 0} → (S → ℕ) → (S → Bool) → (Act → ℕ) → (S → Act → S → Type 0) → S → Act → Result Unit Fault → S → Type 0
Acted reserve stopped need took m a (Ok _) n = Taken reserve stopped need took m a n
Acted reserve stopped need took m a (Err f) n = Barred (need a) (reserve m) (stopped m) a f × (n ≡ m)

-- a cover opened or closed sets only the mark
pub record Covered {S : Type 0} (sheet : S → List ℕ) (reserve : S → ℕ) (stopped : S → Bool) (stays : S → S → Type 0)
    (m : S) (opened : Bool) (n : S) : Type 0 where
  pub mark_set : stopped n ≡ opened
  pub sheet_stays : sheet n ≡ sheet m
  pub reserve_stays : reserve n ≡ reserve m
  pub others_stay : stays m n

-- a supply raises only the reserve, by the grant
pub record Supplied {S : Type 0} (sheet : S → List ℕ) (reserve : S → ℕ) (stopped : S → Bool) (grants : S → ℕ → ℕ → Type 0)
    (stays : S → S → Type 0) (m : S) (offered grant : ℕ) (n : S) : Type 0 where
  pub reserve_rises : reserve n ≡ reserve m + grant
  pub within_offer : grant ≤ offered
  pub grant_made : grants m offered grant
  pub sheet_stays : sheet n ≡ sheet m
  pub mark_stays : stopped n ≡ stopped m
  pub others_stay : stays m n
