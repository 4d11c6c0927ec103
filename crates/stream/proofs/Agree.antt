-- What is awaited tells how a command ends as well as what is being read does.
use Rattle.std.proofs.Common.{◌≡◌, ℕ, ◌+◌, ◌-◌, ◌<◌, ◌≤◌, Bool, true, false, cond, eqb, ltb, leb, List, [], ◌∷◌, ◌++◌, length, get_or, take, drop, Some, None, Ok, Err, sym, refl, ap, ◌∙◌, arith}
use Rattle.std.proofs.lemmas.List.{length-drop, length_push, at_drop_more, at_drop_all}
use Rattle.std.proofs.lemmas.Bool.{ltb-true, ltb-false, le-leb, lt-leb, eq-eqb, ne_eqb, cond-true, cond-false}
use Rattle.reading.specs.Commands.{Command, bar_code, set_vertical_stops, set_horizontal_stops, configure}
use Rattle.reading.specs.Reading.{Reading, text, escape, group, parameter, repeat_what, repeat_count, bar_parameters, bar_string, vertical_list, horizontal_list, body, Meaning, more, done, refused, complete, too_long, up_to_zero, meaning}
use Rattle.reading.specs.Unfinished.{begun}
use Rattle.reading.proofs.Within.{Within, Moves, moves}
use Rattle.stream.specs.Kind as kind
use Rattle.stream.specs.Kind.{Kind, Extent}
use Rattle.stream.specs.declared.parts.Awaited.{Awaited}
use Rattle.stream.specs.declared.parts.Awaited.TheVariants.{Bytes, List as ListOf}
use Rattle.stream.specs.Parts.{extent, read_on, a_part, cut}
use Rattle.reading.specs.declared.Refusal.TheVariants.{TooLong}
use Rattle.stream.specs.Awaited.{Progress, awaited, outline, progress, follow}

-- what a byte makes of what is awaited
abbrev pub going_on : Awaited → Progress
going_on a = Ok (Some a)

abbrev pub over : Progress
over = Ok None

abbrev pub too_many : Progress
too_many = Err TooLong

-- the cases of it
pub last_byte : (n b : ℕ) → n ≤ 1 → progress (Bytes n) b ≡ over
last_byte n b h = cond-true (leb n 1) over (going_on (Bytes (n - 1))) (le-leb n 1 h)

pub byte_of_more : (n b : ℕ) → 1 < n → progress (Bytes n) b ≡ going_on (Bytes (n - 1))
byte_of_more n b h = cond-false (leb n 1) over (going_on (Bytes (n - 1))) (lt-leb n 1 h)

pub before_list : (before most b : ℕ) → 1 ≤ before → progress (ListOf before most) b ≡ going_on (ListOf (before - 1) most)
before_list before most b h =
    cond-false (eqb before 0) (cond (eqb b 0) over (cond (eqb most 0) too_many (going_on (ListOf 0 (most - 1))))) (going_on (ListOf (before - 1) most))
    (ne_eqb before 0 (λ e. omega arith))

pub list_byte : (most b : ℕ) → 1 ≤ b → 1 ≤ most → progress (ListOf 0 most) b ≡ going_on (ListOf 0 (most - 1))
list_byte most b h k = rw (ne_eqb b 0 (λ e. omega arith), ne_eqb most 0 (λ e. omega arith))

pub list_past : (b : ℕ) → 1 ≤ b → progress (ListOf 0 0) b ≡ too_many
list_past b h = rw (ne_eqb b 0 (λ e. omega arith))

-- a list, by the bytes that have come of it
listed : (most : ℕ) (command : List ℕ → Command) (reading : List ℕ → Reading) (got : List ℕ) (b : ℕ)
    → ((l : List ℕ) → awaited (reading l) ≡ ListOf 0 (most - length l)) → length got ≤ most
    → outline (up_to_zero most command reading got b) ≡ progress (ListOf 0 (most - length got)) b
listed most command reading got b shape h = go (eqb b 0) (ltb (length got) most) refl
  where
    long : length (got ++ b ∷ []) ≡ length got + 1
    long = length_push got b

    go : (z u : Bool) → ltb (length got) most ≡ u
        → outline (cond z (complete (command got)) (cond u (more (reading (got ++ b ∷ []))) too_long))
        ≡ cond z over (cond (eqb (most - length got) 0) too_many (going_on (ListOf 0 (most - length got - 1))))
    go true u e = refl
    go false true e =
        let less : most - length (got ++ b ∷ []) ≡ most - length got - 1 = omega (arith, long) in
        ap going_on (shape (got ++ b ∷ []) ∙ ap (ListOf 0) less)
        ∙ sym (cond-false (eqb (most - length got) 0) too_many (going_on (ListOf 0 (most - length got - 1))) (ne_eqb (most - length got) 0 (λ k. omega (arith, ltb-true (length got) most e))))
    go false false e = sym (cond-true (eqb (most - length got) 0) too_many (going_on (ListOf 0 (most - length got - 1))) (eq-eqb (most - length got) 0 (omega (arith, ltb-false (length got) most e))))

pub outlined : (r : Reading) (b : ℕ) → Within r → outline (meaning r b) ≡ progress (awaited r) b
outlined text b h = refl
outlined escape b h = refl
outlined group b h = refl
outlined (parameter code) b h = refl
outlined repeat_what b h = refl
outlined (repeat_count what) b h = refl
outlined (bar_parameters got) b h = go (ltb (length (got ++ b ∷ [])) 4) refl ∙ sym (before_list (4 - length got) 25 b (omega arith))
  where
    long : length (got ++ b ∷ []) ≡ length got + 1
    long = length_push got b

    go : (t : Bool) → ltb (length (got ++ b ∷ [])) 4 ≡ t
        → outline (cond t (more (bar_parameters (got ++ b ∷ []))) (more (bar_string (got ++ b ∷ []) []))) ≡ going_on (ListOf (4 - length got - 1) 25)
    go true e = ap (λ (n : ℕ). going_on (ListOf n 25)) (omega (arith, long))
    go false e = ap (λ (n : ℕ). going_on (ListOf n 25)) (omega (arith, long, ltb-false (length (got ++ b ∷ [])) 4 e))
outlined (bar_string ps got) b h = listed 25 (bar_code ps) (bar_string ps) got b (λ l. refl) h.1
outlined (vertical_list got) b h = listed 16 set_vertical_stops vertical_list got b (λ l. refl) h
outlined (horizontal_list got) b h = listed 8 set_horizontal_stops horizontal_list got b (λ l. refl) h
outlined (body replies got) b h = go (ltb (length (got ++ b ∷ [])) 40) refl
  where
    long : length (got ++ b ∷ []) ≡ length got + 1
    long = length_push got b

    go : (t : Bool) → ltb (length (got ++ b ∷ [])) 40 ≡ t
        → outline (cond t (more (body replies (got ++ b ∷ []))) (complete (configure replies (got ++ b ∷ [])))) ≡ progress (Bytes (40 - length got)) b
    go true e =
        let less : 40 - length (got ++ b ∷ []) ≡ 40 - length got - 1 = omega (arith, long) in
        ap (λ (n : ℕ). going_on (Bytes n)) less ∙ sym (byte_of_more (40 - length got) b (omega (arith, long, ltb-true (length (got ++ b ∷ [])) 40 e)))
    go false e = sym (last_byte (40 - length got) b (omega (arith, long, ltb-false (length (got ++ b ∷ [])) 40 e)))

abbrev pub by_meaning : ℕ → List ℕ → Meaning → Extent
by_meaning n bs x = elim x [ more q ↦ read_on (n + 1) q bs | done o q ↦ extent kind.Command (n + 1) | refused why q ↦ extent kind.Refused (n + 1) ]

abbrev pub by_progress : ℕ → List ℕ → Progress → Extent
by_progress n bs x = elim x [ Ok (Some a) ↦ follow (n + 1) a bs | Ok None ↦ extent kind.Command (n + 1) | Err why ↦ extent kind.Refused (n + 1) ]

pub agree : (bs : List ℕ) (n : ℕ) (r : Reading) → Within r → read_on n r bs ≡ follow n (awaited r) bs
agree [] n r h = refl
agree (b ∷ bs) n r h = go (meaning r b) (moves r b h) (agree bs (n + 1)) ∙ ap (by_progress n bs) (outlined r b h)
  where
    go : (m : Meaning) → Moves (begun r ++ b ∷ []) m → ((q : Reading) → Within q → read_on (n + 1) q bs ≡ follow (n + 1) (awaited q) bs) → by_meaning n bs m ≡ by_progress n bs (outline m)
    go (more q) k f = f q k.0
    go (done o q) k f = refl
    go (refused why q) k f = refl

-- a turn of the loop that follows a command through the bytes behind its first, and its end
pub turn : (s l : List ℕ) (i n : ℕ) (a : Awaited) (x : Progress) → l ≡ s → i < length s → x ≡ progress a (get_or l i 0)
    → by_progress n (drop (i + 1) s) x ≡ follow n a (drop i s)
turn s l i n a x w h e =
    ap (by_progress n (drop (i + 1) s)) (e ∙ ap (λ (l : List ℕ). progress a (get_or l i 0)) w) ∙ sym (at_drop_more (follow n a) s i 0 h)

pub ended : (s l : List ℕ) (i : ℕ) (a : Awaited) (k : Kind) (x : Progress) (e : Extent) → by_progress (i + 1) (drop (i + 1) (drop 1 s)) x ≡ extent k (i + 2)
    → l ≡ drop 1 s → i < length (drop 1 s) → x ≡ progress a (get_or l i 0) → follow (i + 1) a (drop i (drop 1 s)) ≡ e
    → a_part k (take (i + 2) s) ≡ cut e s
ended s l i a k x e f w h p so_far =
    ap (λ (e : Extent). cut e s) (sym f ∙ turn (drop 1 s) l i (i + 1) a x w h p ∙ so_far)

pub at_end : (s : List ℕ) (i : ℕ) (a : Awaited) → i + 1 ≡ length s → extent kind.Unfinished (length s) ≡ follow (i + 1) a (drop i (drop 1 s))
at_end s i a e = ap (extent kind.Unfinished) (sym e) ∙ sym (at_drop_all (follow (i + 1) a) (drop 1 s) i (omega (arith, length-drop 1 s)))
