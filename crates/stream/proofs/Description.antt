-- A stream begins with a part exactly as described.
use Rattle.std.proofs.Common.{◌≡◌, ℕ, zero, suc, ◌+◌, ◌<◌, ◌≤◌, min, Bool, true, false, cond, eqb, ◌⊎◌, List, [], ◌∷◌, ◌++◌, length, take, drop, sym, refl, ap, ◌∙◌, subst, inl, inr, arith, length-append, rules}
use Rattle.std.specs.List.{prefix_len, AllByRecursion}
use Rattle.std.proofs.lemmas.List.{take-append-drop, take_at, take_all, length-take-le}
use Rattle.std.proofs.lemmas.List.Sums.{prefix_len-le-length}
use Rattle.std.proofs.lemmas.Bool.{cond-true, cond-false, cond_both, cases_lt}
use Rattle.reading.specs.declared.Refusal.{Refusal}
use Rattle.reading.specs.Tests.{find}
use Rattle.reading.specs.Commands.{print}
use Rattle.reading.specs.Reading.{Reading, text, escape, group, parameter, repeat_what, repeat_count, bar_parameters, bar_string, vertical_list, horizontal_list, body, Meaning, more, done, refused, complete, unknown, is_text, single_bytes, escape_codes, group_codes, meaning}
use Rattle.reading.proofs.Within.{Within, Moves, moves}
use Rattle.stream.specs.Kind.{Text, Control, Command, Refused, Unfinished}
use Rattle.stream.specs.Kind.{Extent}
use Rattle.stream.specs.Parts.{extent, read_on, first, Part, a_part, part}
use Rattle.stream.specs.Awaited.{awaited, follow}
use Rattle.stream.specs.Described.{TextEnds, Described, text_run, control, unknown_byte, no_code, pair, unknown_pair, whole, overlong, cut_short}
use Rattle.stream.proofs.Agree.{by_meaning, agree}
use Rattle.stream.proofs.Followed.{Fits, Followed, completed, passed, begun, followed, complete_ends, overlong_ends, begun_ends}

-- the readings in which a code is awaited
abbrev Leads : Reading → Type 0
Leads text = ⊥
Leads escape = Unit {0}
Leads group = Unit {0}
Leads (parameter code) = ⊥
Leads repeat_what = ⊥
Leads (repeat_count what) = ⊥
Leads (bar_parameters got) = ⊥
Leads (bar_string ps got) = ⊥
Leads (vertical_list got) = ⊥
Leads (horizontal_list got) = ⊥
Leads (body replies got) = ⊥

abbrev Opens : Meaning → Type 0
Opens (more r) = Leads r
Opens (done o r) = Unit {0}
Opens (refused why r) = Unit {0}

-- behind a code there are at most 40 bytes
abbrev Holds : Meaning → Type 0
Holds (more q) = Fits (awaited q)
Holds (done o q) = Unit {0}
Holds (refused why q) = Unit {0}

in_table : (P : Meaning → Type 0) → P unknown → (table : List (ℕ × Meaning)) (b : ℕ) → AllByRecursion (λ row. P row.1) table → P (find unknown table b)
in_table P u [] b h = u
in_table P u (row ∷ table) b h = cond_both (eqb row.0 b) row.1 (find unknown table b) P (λ e. h.0) (λ e. in_table P u table b h.1)

single_opens : AllByRecursion (λ row. Opens row.1) single_bytes
single_opens = search rules

escape_holds : AllByRecursion (λ row. Holds row.1) escape_codes
escape_holds = search rules

group_holds : AllByRecursion (λ row. Holds row.1) group_codes
group_holds = search rules

opens : (b : ℕ) → Opens (meaning text b)
opens b = cond_both (is_text b) (complete (print b)) (find unknown single_bytes b) Opens (λ e. tt) (λ e. in_table Opens tt single_bytes b single_opens)

holds : (r : Reading) (c : ℕ) → Leads r → Holds (meaning r c)
holds text c h = absurd h
holds escape c h = in_table Holds tt escape_codes c escape_holds
holds group c h = in_table Holds tt group_codes c group_holds
holds (parameter code) c h = absurd h
holds repeat_what c h = absurd h
holds (repeat_count what) c h = absurd h
holds (bar_parameters got) c h = absurd h
holds (bar_string ps got) c h = absurd h
holds (vertical_list got) c h = absurd h
holds (horizontal_list got) c h = absurd h
holds (body replies got) c h = absurd h

-- a first byte and a code behind which more is awaited
pub record Coded (b c : ℕ) (r q : Reading) : Type 0 where
  pub plain : is_text b ≡ false
  pub within : Within q
  pub fits : Fits (awaited q)

not_printed : (b : ℕ) (m : Meaning) → meaning text b ≡ m → (complete (print b) ≡ m → ⊥) → is_text b ≡ false
not_printed b m e never = go (is_text b) e
  where
    go : (t : Bool) → cond t (complete (print b)) (find unknown single_bytes b) ≡ m → t ≡ false
    go true e = absurd (never e)
    go false e = refl

pub plain_more : (b : ℕ) (r : Reading) → meaning text b ≡ more r → is_text b ≡ false
plain_more b r e = not_printed b (more r) e (λ k. cc)

pub plain_refused : (b : ℕ) (why : Refusal) (r : Reading) → meaning text b ≡ refused why r → is_text b ≡ false
plain_refused b why r e = not_printed b (refused why r) e (λ k. cc)

leads : (b : ℕ) (r : Reading) → meaning text b ≡ more r → Leads r
leads b r e = subst Opens e (opens b)

pub coded : (b c : ℕ) (r q : Reading) → meaning text b ≡ more r → meaning r c ≡ more q → Coded b c r q
coded b c r q e k =
    let first_in : Within r = (subst (Moves (b ∷ [])) e (moves text b tt)).0 in
    record {
      plain = plain_more b r e;
      within = (subst (Moves _) k (moves r c first_in)).0;
      fits = subst Holds k (holds r c (leads b r e));
    }

-- a command that begins with a byte other than text
abbrev pub by_first : List ℕ → Meaning → Extent
by_first bs m = elim m [ more q ↦ read_on 1 q bs | done o q ↦ extent Control 1 | refused why q ↦ extent Refused 1 ]

pub first_command : (b : ℕ) (bs : List ℕ) (m : Meaning) → is_text b ≡ false → meaning text b ≡ m → first (b ∷ bs) ≡ by_first bs m
first_command b bs m e k =
    cond-false (is_text b) (extent Text (min 16 (prefix_len is_text (b ∷ bs)))) (by_first bs (meaning text b)) e ∙ ap (by_first bs) k

-- text in front
run_text : (s : List ℕ) (n : ℕ) → n ≤ prefix_len is_text s → AllByRecursion (λ b. is_text b ≡ true) (take n s)
run_text s zero h = tt
run_text [] (suc n) h = tt
run_text (b ∷ s) (suc n) h = go (is_text b) refl h (run_text s n)
  where
    go : (t : Bool) → is_text b ≡ t → suc n ≤ cond t (1 + prefix_len is_text s) 0 → (n ≤ prefix_len is_text s → AllByRecursion (λ b. is_text b ≡ true) (take n s)) → AllByRecursion (λ b. is_text b ≡ true) (take (suc n) (b ∷ s))
    go true e h f = (e, f (omega arith))
    go false e h f = absurd (omega arith)

run_ends : (s : List ℕ) → TextEnds (drop (prefix_len is_text s) s)
run_ends [] = tt
run_ends (b ∷ s) = go (is_text b) refl (run_ends s)
  where
    go : (t : Bool) → is_text b ≡ t → TextEnds (drop (prefix_len is_text s) s) → TextEnds (drop (cond t (1 + prefix_len is_text s) 0) (b ∷ s))
    go true e h = let same : suc (prefix_len is_text s) ≡ 1 + prefix_len is_text s = omega arith in subst (λ (n : ℕ). TextEnds (drop n (b ∷ s))) same h
    go false e h = e

run_long : (run rest : List ℕ) → AllByRecursion (λ b. is_text b ≡ true) run → length run ≤ prefix_len is_text (run ++ rest)
run_long [] rest h = omega arith
run_long (b ∷ run) rest h =
    let more_text : prefix_len is_text (b ∷ (run ++ rest)) ≡ 1 + prefix_len is_text (run ++ rest) = cond-true (is_text b) (1 + prefix_len is_text (run ++ rest)) 0 h.0 in
    omega (arith, run_long run rest h.1)

run_exact : (run rest : List ℕ) → AllByRecursion (λ b. is_text b ≡ true) run → TextEnds rest → prefix_len is_text (run ++ rest) ≡ length run
run_exact [] [] h e = refl
run_exact [] (b ∷ rest) h e = cond-false (is_text b) (1 + prefix_len is_text rest) 0 e
run_exact (b ∷ run) rest h e =
    cond-true (is_text b) (1 + prefix_len is_text (run ++ rest)) 0 h.0 ∙ ap (λ (n : ℕ). 1 + n) (run_exact run rest h.1 e) ∙ omega arith

text_described : (s : List ℕ) (n : ℕ) → n ≡ min 16 (prefix_len is_text s) → 1 ≤ n → Described s (a_part Text (take n s))
text_described s n e h =
    text_run (take n s) (drop n s) (sym (take-append-drop n s)) (run_text s n (omega arith)) (omega (arith, long)) (omega (arith, long)) (stops (cases_lt (prefix_len is_text s) 16))
  where
    long : length (take n s) ≡ n
    long = length-take-le n s (omega (arith, e, prefix_len-le-length is_text s))

    stops : (prefix_len is_text s < 16) ⊎ (16 ≤ prefix_len is_text s) → (length (take n s) ≡ 16) ⊎ TextEnds (drop n s)
    stops (inl k) =
        let same : prefix_len is_text s ≡ n = omega (arith, e) in
        inr (subst (λ (m : ℕ). TextEnds (drop m s)) same (run_ends s))
    stops (inr k) = inl (omega (arith, e, long))

-- the front of a list, by its length
front_taken : (front rest : List ℕ) (n : ℕ) → n ≡ length front → take n (front ++ rest) ≡ front
front_taken front rest n e = take_at front rest n (sym e)

module _ (b c : ℕ) (rest : List ℕ) (r : Reading) (e : meaning text b ≡ more r) where
  behind_code : (q : Reading) → meaning r c ≡ more q → (x : Extent) → Followed (awaited q) 2 rest x → Described (b ∷ c ∷ rest) (a_part x.kind (take x.count (b ∷ c ∷ rest)))
  behind_code q k _ (completed front back {c = n} l j w) =
      let all : b ∷ c ∷ rest ≡ (b ∷ c ∷ front) ++ back = ap (λ (l : List ℕ). b ∷ c ∷ l) j in
      let these : take n (b ∷ c ∷ rest) ≡ b ∷ c ∷ front = ap (take n) all ∙ front_taken (b ∷ c ∷ front) back n (omega (arith, l)) in
      subst (λ (bs : List ℕ). Described (b ∷ c ∷ rest) (a_part Command bs)) (sym these) (whole front back all e k w)
  behind_code q k _ (passed front back {c = n} l j w) =
      let all : b ∷ c ∷ rest ≡ (b ∷ c ∷ front) ++ back = ap (λ (l : List ℕ). b ∷ c ∷ l) j in
      let these : take n (b ∷ c ∷ rest) ≡ b ∷ c ∷ front = ap (take n) all ∙ front_taken (b ∷ c ∷ front) back n (omega (arith, l)) in
      subst (λ (bs : List ℕ). Described (b ∷ c ∷ rest) (a_part Refused bs)) (sym these) (overlong front back all e k w)
  behind_code q k _ (begun {c = n} l w) =
      let these : take n (b ∷ c ∷ rest) ≡ b ∷ c ∷ rest = take_all n (b ∷ c ∷ rest) (omega (arith, l)) in
      subst (λ (bs : List ℕ). Described (b ∷ c ∷ rest) (a_part Unfinished bs)) (sym these) (cut_short refl e k w)

  by_code : (m : Meaning) → meaning r c ≡ m → Described (b ∷ c ∷ rest) (a_part (by_meaning 1 rest m).kind (take (by_meaning 1 rest m).count (b ∷ c ∷ rest)))
  by_code (more q) k =
      let h : Coded b c r q = coded b c r q e k in
      subst (λ (x : Extent). Described (b ∷ c ∷ rest) (a_part x.kind (take x.count (b ∷ c ∷ rest)))) (sym (agree rest 2 q h.within))
      (behind_code q k (follow 2 (awaited q) rest) (followed (awaited q) rest 2 h.fits))
  by_code (done o q) k = pair refl e k
  by_code (refused why q) k = unknown_pair refl e k

by_byte : (b : ℕ) (bs : List ℕ) (m : Meaning) → is_text b ≡ false → meaning text b ≡ m → Described (b ∷ bs) (a_part (by_first bs m).kind (take (by_first bs m).count (b ∷ bs)))
by_byte b [] (more r) e k = no_code refl k
by_byte b (c ∷ rest) (more r) e k = by_code b c rest r k (meaning r c) refl
by_byte b bs (done o r) e k = control refl e k
by_byte b bs (refused why r) e k = unknown_byte refl k

pub describe : (s : List ℕ) → 1 ≤ length s → Described s (part s)
describe [] h = absurd (omega arith)
describe (b ∷ bs) h = go (is_text b) refl
  where
    go : (t : Bool) → is_text b ≡ t
        → let x : Extent = cond t (extent Text (min 16 (prefix_len is_text (b ∷ bs)))) (by_first bs (meaning text b)) in Described (b ∷ bs) (a_part x.kind (take x.count (b ∷ bs)))
    go true e =
        let some : prefix_len is_text (b ∷ bs) ≡ 1 + prefix_len is_text bs = cond-true (is_text b) (1 + prefix_len is_text bs) 0 e in
        text_described (b ∷ bs) (min 16 (prefix_len is_text (b ∷ bs))) refl (omega arith)
    go false e = by_byte b bs (meaning text b) e refl

-- the other way
taken_part : (s : List ℕ) (x : Extent) (bs rest : List ℕ) → first s ≡ x → s ≡ bs ++ rest → x.count ≡ length bs → part s ≡ a_part x.kind bs
taken_part s x bs rest e j l =
    ap (λ (x : Extent). a_part x.kind (take x.count s)) e ∙ ap (a_part x.kind) (ap (take x.count) j ∙ front_taken bs rest x.count l)

of_text : (run rest : List ℕ) → AllByRecursion (λ b. is_text b ≡ true) run → 1 ≤ length run → length run ≤ 16 → (length run ≡ 16) ⊎ TextEnds rest → first (run ++ rest) ≡ extent Text (length run)
of_text [] rest all some few stop = absurd (omega arith)
of_text (b ∷ run) rest all some few stop =
    cond-true (is_text b) (extent Text (min 16 (prefix_len is_text (b ∷ (run ++ rest))))) (by_first (run ++ rest) (meaning text b)) all.0 ∙ ap (extent Text) (count stop)
  where
    count : (length (b ∷ run) ≡ 16) ⊎ TextEnds rest → min 16 (prefix_len is_text (b ∷ (run ++ rest))) ≡ length (b ∷ run)
    count (inl k) = omega (arith, run_long (b ∷ run) rest all)
    count (inr k) = omega (arith, run_exact (b ∷ run) rest all k, few)

coded_first : (b c : ℕ) (rest : List ℕ) (r q : Reading) → meaning text b ≡ more r → meaning r c ≡ more q → first (b ∷ c ∷ rest) ≡ follow 2 (awaited q) rest
coded_first b c rest r q e k =
    let h : Coded b c r q = coded b c r q e k in
    first_command b (c ∷ rest) (more r) h.plain e ∙ ap (by_meaning 1 rest) k ∙ agree rest 2 q h.within

-- the part of some bytes is the one described; of them, there is at least one
pub record Determined (s : List ℕ) (p : Part) : Type 0 where
  pub some : 1 ≤ length s
  pub is : part s ≡ p

determined : (s bs rest : List ℕ) (x : Extent) → 1 ≤ length bs → first (bs ++ rest) ≡ x → s ≡ bs ++ rest → x.count ≡ length bs → Determined s (a_part x.kind bs)
determined s bs rest x some e j l =
    record { some = omega (arith, ap length j, length-append bs rest); is = taken_part s x bs rest (ap first j ∙ e) j l }

pub determine : (s : List ℕ) (p : Part) → Described s p → Determined s p
determine s _ (text_run run rest j all some few stop) = determined s run rest (extent Text (length run)) some (of_text run rest all some few stop) j refl
determine s _ (control {b = b} {rest = rest} {o = o} {r = r} j e k) = determined s (b ∷ []) rest (extent Control 1) (omega arith) (first_command b rest (done o r) e k) j refl
determine s _ (unknown_byte {b = b} {rest = rest} {why = why} {r = r} j k) =
    determined s (b ∷ []) rest (extent Refused 1) (omega arith) (first_command b rest (refused why r) (plain_refused b why r k) k) j refl
determine s _ (no_code {b = b} {r = r} j k) = determined s (b ∷ []) [] (extent Unfinished 1) (omega arith) (first_command b [] (more r) (plain_more b r k) k) j refl
determine s _ (pair {b = b} {c = c} {rest = rest} {r = r} {q = q} {o = o} j e k) =
    determined s (b ∷ c ∷ []) rest (extent Command 2) (omega arith) (first_command b (c ∷ rest) (more r) (plain_more b r e) e ∙ ap (by_meaning 1 rest) k) j refl
determine s _ (unknown_pair {b = b} {c = c} {rest = rest} {r = r} {q = q} {why = why} j e k) =
    determined s (b ∷ c ∷ []) rest (extent Refused 2) (omega arith) (first_command b (c ∷ rest) (more r) (plain_more b r e) e ∙ ap (by_meaning 1 rest) k) j refl
determine s _ (whole {b = b} {c = c} front rest {r = r} {q = q} j e k w) =
    determined s (b ∷ c ∷ front) rest (extent Command (2 + length front)) (omega arith)
    (coded_first b c (front ++ rest) r q e k ∙ complete_ends (awaited q) front rest 2 (coded b c r q e k).fits w) j (omega arith)
determine s _ (overlong {b = b} {c = c} front rest {r = r} {q = q} j e k w) =
    determined s (b ∷ c ∷ front) rest (extent Refused (2 + length front)) (omega arith)
    (coded_first b c (front ++ rest) r q e k ∙ overlong_ends (awaited q) front rest 2 (coded b c r q e k).fits w) j (omega arith)
determine s _ (cut_short {b = b} {c = c} {front = front} {r = r} {q = q} j e k w) =
    record {
      some = omega (arith, ap length j);
      is = ap part j ∙ ap (λ (x : Extent). a_part x.kind (take x.count (b ∷ c ∷ front))) (coded_first b c front r q e k ∙ begun_ends (awaited q) front 2 (coded b c r q e k).fits w)
          ∙ ap (a_part Unfinished) (take_all (2 + length front) (b ∷ c ∷ front) (omega arith));
    }
