-- How a command ends, told by what is awaited behind its code and the bytes that follow, all at once.
use Rattle.std.proofs.Common.{◌≡◌, ℕ, ◌+◌, ◌-◌, ◌<◌, ◌≤◌, Bool, true, false, cond, eqb, leb, List, [], ◌∷◌, ◌++◌, length, replicate, sym, refl, ap, ◌∙◌, append_assoc, arith, length-append}
use Rattle.std.specs.List.{AllByRecursion}
use Rattle.std.proofs.lemmas.List.{length-replicate, nil_from_length, append-nil}
use Rattle.std.proofs.lemmas.Bool.{leb-true, leb-false, eqb-true, eqb-false}
use Rattle.stream.specs.Kind.{Kind}
use Rattle.stream.specs.Kind as kind
use Rattle.stream.specs.Kind.{Extent}
use Rattle.stream.specs.declared.parts.Awaited.{Awaited}
use Rattle.stream.specs.declared.parts.Awaited.TheVariants.{Text, EscapeCode, GroupCode, Bytes, List as ListOf}
use Rattle.stream.specs.Parts.{extent}
use Rattle.stream.specs.Awaited.{follow}
use Rattle.stream.specs.Described.{WholeList, OverlongList, Completes, Passes, Begins}
use Rattle.stream.proofs.Agree.{going_on, over, too_many, by_progress, last_byte, byte_of_more, before_list, list_byte, list_past}

-- what is awaited behind a code: at most 40 bytes
abbrev pub Fits : Awaited → Type 0
Fits Text = ⊥
Fits EscapeCode = ⊥
Fits GroupCode = ⊥
Fits (Bytes n) = (1 ≤ n) × (n ≤ 40)
Fits (ListOf before most) = before + most + 1 ≤ 40

-- the end of a command of which n bytes are read, followed by bs
pub data Followed (a : Awaited) (n : ℕ) (bs : List ℕ) : Extent → Type 0 where
  completed : (front rest : List ℕ) {c : ℕ} → c ≡ n + length front → bs ≡ front ++ rest → Completes a front → Followed a n bs (extent kind.Command c)
  passed : (front rest : List ℕ) {c : ℕ} → c ≡ n + length front → bs ≡ front ++ rest → Passes a front → Followed a n bs (extent kind.Refused c)
  begun : {c : ℕ} → c ≡ n + length bs → Begins a bs → Followed a n bs (extent kind.Unfinished c)

-- one byte in front
module _ (a next : Awaited) (b : ℕ) (whole : (l : List ℕ) → Completes next l → Completes a (b ∷ l)) (past : (l : List ℕ) → Passes next l → Passes a (b ∷ l)) where
  grow : (n : ℕ) (bs : List ℕ) (e : Extent) → Followed next (n + 1) bs e → Followed a n (b ∷ bs) e
  grow n bs _ (completed front rest e j h) = completed (b ∷ front) rest (omega arith) (ap (λ (l : List ℕ). b ∷ l) j) (whole front h)
  grow n bs _ (passed front rest e j h) = passed (b ∷ front) rest (omega arith) (ap (λ (l : List ℕ). b ∷ l) j) (past front h)
  grow n bs _ (begun e h) = begun (omega arith) (record { rest = h.rest; some = h.some; would = whole (bs ++ h.rest) h.would })

bytes_followed : (bs : List ℕ) (n k : ℕ) → 1 ≤ k → Followed (Bytes k) n bs (follow n (Bytes k) bs)
bytes_followed [] n k h =
    begun (omega arith) (record { rest = replicate k 0; some = omega (arith, length-replicate {A = ℕ} k 0); would = length-replicate k 0 })
bytes_followed (b ∷ bs) n k h = go (leb k 1) refl (λ l. bytes_followed bs (n + 1) (k - 1) (omega arith))
  where
    go : (t : Bool) → leb k 1 ≡ t → (1 < k → Followed (Bytes (k - 1)) (n + 1) bs (follow (n + 1) (Bytes (k - 1)) bs))
        → Followed (Bytes k) n (b ∷ bs) (by_progress n bs (cond t over (going_on (Bytes (k - 1)))))
    go true e f = completed (b ∷ []) bs (omega arith) refl (omega (arith, leb-true k 1 e))
    go false e f =
        grow (Bytes k) (Bytes (k - 1)) b (λ l m. omega (arith, leb-false k 1 e)) (λ l m. absurd m) n bs (follow (n + 1) (Bytes (k - 1)) bs) (f (leb-false k 1 e))

-- a byte in front of a list
module _ (most b : ℕ) where
  one_before : (before : ℕ) → 1 ≤ before → (l : List ℕ) → WholeList (before - 1) most l → WholeList before most (b ∷ l)
  one_before before h l w =
      record { parameters = b ∷ w.parameters; list = w.list; joins = ap (λ (l : List ℕ). b ∷ l) w.joins; counted = omega (arith, w.counted); nonzero = w.nonzero; short = w.short }

  one_before_overlong : (before : ℕ) → 1 ≤ before → (l : List ℕ) → OverlongList (before - 1) most l → OverlongList before most (b ∷ l)
  one_before_overlong before h l w =
      record { parameters = b ∷ w.parameters; list = w.list; joins = ap (λ (l : List ℕ). b ∷ l) w.joins; counted = omega (arith, w.counted); nonzero = w.nonzero; long = w.long }

  one_listed : (before : ℕ) → before ≡ 0 → 1 ≤ b → 1 ≤ most → (l : List ℕ) → WholeList 0 (most - 1) l → WholeList before most (b ∷ l)
  one_listed before z h k l w =
      record {
        parameters = [];
        list = b ∷ w.list;
        joins = ap (λ (l : List ℕ). b ∷ l) (w.joins ∙ ap (λ (p : List ℕ). p ++ (w.list ++ 0 ∷ [])) (nil_from_length w.parameters w.counted));
        counted = sym z;
        nonzero = (h, w.nonzero);
        short = omega (arith, w.short);
      }

  one_listed_overlong : (before : ℕ) → before ≡ 0 → 1 ≤ b → 1 ≤ most → (l : List ℕ) → OverlongList 0 (most - 1) l → OverlongList before most (b ∷ l)
  one_listed_overlong before z h k l w =
      record {
        parameters = [];
        list = b ∷ w.list;
        joins = ap (λ (l : List ℕ). b ∷ l) (w.joins ∙ ap (λ (p : List ℕ). p ++ w.list) (nil_from_length w.parameters w.counted));
        counted = sym z;
        nonzero = (h, w.nonzero);
        long = omega (arith, w.long);
      }

list_followed : (bs : List ℕ) (n before most : ℕ) → Followed (ListOf before most) n bs (follow n (ListOf before most) bs)
list_followed [] n before most =
    begun (omega arith)
    (record {
      rest = replicate before 0 ++ 0 ∷ [];
      some = omega (arith, length-append {A = ℕ} (replicate before 0) (0 ∷ []));
      would = record { parameters = replicate before 0; list = []; joins = refl; counted = length-replicate before 0; nonzero = tt; short = omega arith };
    })
list_followed (b ∷ bs) n before most = go (eqb before 0) (eqb b 0) (eqb most 0) refl refl refl (list_followed bs (n + 1) (before - 1) most) (list_followed bs (n + 1) 0 (most - 1))
  where
    go : (t z u : Bool) → eqb before 0 ≡ t → eqb b 0 ≡ z → eqb most 0 ≡ u
        → Followed (ListOf (before - 1) most) (n + 1) bs (follow (n + 1) (ListOf (before - 1) most) bs)
        → Followed (ListOf 0 (most - 1)) (n + 1) bs (follow (n + 1) (ListOf 0 (most - 1)) bs)
        → Followed (ListOf before most) n (b ∷ bs)
        (by_progress n bs (cond t (cond z over (cond u too_many (going_on (ListOf 0 (most - 1))))) (going_on (ListOf (before - 1) most))))
    go true true u e k m f g =
        completed (b ∷ []) bs (omega arith) refl
        (record { parameters = []; list = []; joins = ap (λ (x : ℕ). x ∷ []) (eqb-true b 0 k); counted = sym (eqb-true before 0 e); nonzero = tt; short = omega arith })
    go true false true e k m f g =
        passed (b ∷ []) bs (omega arith) refl
        (record { parameters = []; list = b ∷ []; joins = refl; counted = sym (eqb-true before 0 e); nonzero = (omega (arith, eqb-false b 0 k), tt); long = omega (arith, eqb-true most 0 m) })
    go true false false e k m f g =
        let some : 1 ≤ b = omega (arith, eqb-false b 0 k) in
        let room : 1 ≤ most = omega (arith, eqb-false most 0 m) in
        grow (ListOf before most) (ListOf 0 (most - 1)) b (one_listed most b before (eqb-true before 0 e) some room) (one_listed_overlong most b before (eqb-true before 0 e) some room)
        n bs (follow (n + 1) (ListOf 0 (most - 1)) bs) g
    go false z u e k m f g =
        let some : 1 ≤ before = omega (arith, eqb-false before 0 e) in
        grow (ListOf before most) (ListOf (before - 1) most) b (one_before most b before some) (one_before_overlong most b before some) n bs (follow (n + 1) (ListOf (before - 1) most) bs) f

pub followed : (a : Awaited) (bs : List ℕ) (n : ℕ) → Fits a → Followed a n bs (follow n a bs)
followed Text bs n h = absurd h
followed EscapeCode bs n h = absurd h
followed GroupCode bs n h = absurd h
followed (Bytes k) bs n h = bytes_followed bs n k h.0
followed (ListOf before most) bs n h = list_followed bs n before most

-- and the other way: the description gives the end
bytes_complete : (front rest : List ℕ) (n k : ℕ) → 1 ≤ k → length front ≡ k → follow n (Bytes k) (front ++ rest) ≡ extent kind.Command (n + length front)
bytes_complete [] rest n k h e = absurd (omega arith)
bytes_complete (b ∷ []) rest n k h e = ap (by_progress n rest) (last_byte k b (omega arith))
bytes_complete (b ∷ (c ∷ front)) rest n k h e =
    ap (by_progress n ((c ∷ front) ++ rest)) (byte_of_more k b (omega arith)) ∙ bytes_complete (c ∷ front) rest (n + 1) (k - 1) (omega arith) (omega arith)
    ∙ ap (extent kind.Command) (omega arith)

past_parameters : (ps rest : List ℕ) (n before most : ℕ) → length ps ≡ before → follow n (ListOf before most) (ps ++ rest) ≡ follow (n + before) (ListOf 0 most) rest
past_parameters [] rest n before most e =
    ap (λ (k : ℕ). follow n (ListOf k most) rest) (sym e) ∙ ap (λ (k : ℕ). follow k (ListOf 0 most) rest) (omega arith)
past_parameters (b ∷ ps) rest n before most e =
    ap (by_progress n (ps ++ rest)) (before_list before most b (omega arith)) ∙ past_parameters ps rest (n + 1) (before - 1) most (omega arith)
    ∙ ap (λ (k : ℕ). follow k (ListOf 0 most) rest) (omega arith)

list_complete : (list rest : List ℕ) (n most : ℕ) → AllByRecursion (λ b. 1 ≤ b) list → length list ≤ most → follow n (ListOf 0 most) (list ++ 0 ∷ rest) ≡ extent kind.Command (n + length list + 1)
list_complete [] rest n most h k = ap (extent kind.Command) (omega arith)
list_complete (b ∷ list) rest n most h k =
    ap (by_progress n (list ++ 0 ∷ rest)) (list_byte most b h.0 (omega arith)) ∙ list_complete list rest (n + 1) (most - 1) h.1 (omega arith)
    ∙ ap (extent kind.Command) (omega arith)

list_overlong : (list rest : List ℕ) (n most : ℕ) → AllByRecursion (λ b. 1 ≤ b) list → length list ≡ most + 1 → follow n (ListOf 0 most) (list ++ rest) ≡ extent kind.Refused (n + length list)
list_overlong [] rest n most h k = absurd (omega arith)
list_overlong (b ∷ []) rest n most h k =
    let none : most ≡ 0 = omega arith in
    ap (λ (m : ℕ). follow n (ListOf 0 m) (b ∷ rest)) none ∙ ap (by_progress n rest) (list_past b h.0)
list_overlong (b ∷ (c ∷ list)) rest n most h k =
    ap (by_progress n ((c ∷ list) ++ rest)) (list_byte most b h.0 (omega arith)) ∙ list_overlong (c ∷ list) rest (n + 1) (most - 1) h.1 (omega arith)
    ∙ ap (extent kind.Refused) (omega arith)

pub complete_ends : (a : Awaited) (front rest : List ℕ) (n : ℕ) → Fits a → Completes a front → follow n a (front ++ rest) ≡ extent kind.Command (n + length front)
complete_ends Text front rest n h w = absurd h
complete_ends EscapeCode front rest n h w = absurd h
complete_ends GroupCode front rest n h w = absurd h
complete_ends (Bytes k) front rest n h w = bytes_complete front rest n k h.0 w
complete_ends (ListOf before most) front rest n h w =
    let ps : List ℕ = w.parameters in
    let list : List ℕ = w.list in
    let split : front ++ rest ≡ ps ++ (list ++ 0 ∷ rest) =
    ap (λ (l : List ℕ). l ++ rest) w.joins ∙ append_assoc ps (list ++ 0 ∷ []) rest ∙ ap (λ (l : List ℕ). ps ++ l) (append_assoc list (0 ∷ []) rest) in
    let long : length front ≡ length ps + (length list + 1) =
    ap length w.joins ∙ length-append ps (list ++ 0 ∷ []) ∙ ap (λ (k : ℕ). length ps + k) (length-append list (0 ∷ [])) in
    ap (follow n (ListOf before most)) split ∙ past_parameters ps (list ++ 0 ∷ rest) n before most w.counted
    ∙ list_complete list rest (n + before) most w.nonzero w.short ∙ ap (extent kind.Command) (omega (arith, w.counted))

pub overlong_ends : (a : Awaited) (front rest : List ℕ) (n : ℕ) → Fits a → Passes a front → follow n a (front ++ rest) ≡ extent kind.Refused (n + length front)
overlong_ends Text front rest n h w = absurd h
overlong_ends EscapeCode front rest n h w = absurd h
overlong_ends GroupCode front rest n h w = absurd h
overlong_ends (Bytes k) front rest n h w = absurd w
overlong_ends (ListOf before most) front rest n h w =
    let ps : List ℕ = w.parameters in
    let list : List ℕ = w.list in
    let split : front ++ rest ≡ ps ++ (list ++ rest) = ap (λ (l : List ℕ). l ++ rest) w.joins ∙ append_assoc ps list rest in
    let long : length front ≡ length ps + length list = ap length w.joins ∙ length-append ps list in
    ap (follow n (ListOf before most)) split ∙ past_parameters ps (list ++ rest) n before most w.counted
    ∙ list_overlong list rest (n + before) most w.nonzero w.long ∙ ap (extent kind.Refused) (omega (arith, w.counted))

-- bytes that some more would complete neither complete nor pass it
pub begun_ends : (a : Awaited) (bs : List ℕ) (n : ℕ) → Fits a → Begins a bs → follow n a bs ≡ extent kind.Unfinished (n + length bs)
begun_ends a bs n h w = go (follow n a bs) (followed a bs n h)
  where
    later : follow n a (bs ++ w.rest) ≡ extent kind.Command (n + length (bs ++ w.rest))
    later = ap (follow n a) (sym (append-nil (bs ++ w.rest))) ∙ complete_ends a (bs ++ w.rest) [] n h w.would

    -- where it ends does not depend on what comes behind
    onward : (k : Kind) (front rest : List ℕ) → bs ≡ front ++ rest → ((l : List ℕ) → follow n a (front ++ l) ≡ extent k (n + length front))
        → extent k (n + length front) ≡ extent kind.Command (n + length (bs ++ w.rest))
    onward k front rest j f =
        sym (f (rest ++ w.rest)) ∙ ap (follow n a) (sym (append_assoc front rest w.rest) ∙ ap (λ (l : List ℕ). l ++ w.rest) (sym j)) ∙ later

    go : (e : Extent) → Followed a n bs e → e ≡ extent kind.Unfinished (n + length bs)
    go _ (begun e k) = ap (extent kind.Unfinished) e
    go _ (completed front rest e j k) =
        let same : n + length front ≡ n + length (bs ++ w.rest) = ap (λ (x : Extent). x.count) (onward kind.Command front rest j (λ l. complete_ends a front l n h k)) in
        absurd (omega (arith, same, length-append bs w.rest, ap length j, length-append front rest, w.some))
    go _ (passed front rest e j k) =
        let same : kind.Refused ≡ kind.Command = ap (λ (x : Extent). x.kind) (onward kind.Refused front rest j (λ l. overlong_ends a front l n h k)) in
        absurd cc

-- so many bytes the description allows
pub complete_fits : (a : Awaited) (bs : List ℕ) → Fits a → Completes a bs → length bs ≤ 40
complete_fits Text bs h w = absurd h
complete_fits EscapeCode bs h w = absurd h
complete_fits GroupCode bs h w = absurd h
complete_fits (Bytes k) bs h w = omega arith
complete_fits (ListOf before most) bs h w =
    omega (arith, ap length w.joins, length-append w.parameters (w.list ++ 0 ∷ []), length-append w.list (0 ∷ []), w.counted, w.short)

pub overlong_fits : (a : Awaited) (bs : List ℕ) → Fits a → Passes a bs → length bs ≤ 40
overlong_fits Text bs h w = absurd h
overlong_fits EscapeCode bs h w = absurd h
overlong_fits GroupCode bs h w = absurd h
overlong_fits (Bytes k) bs h w = absurd w
overlong_fits (ListOf before most) bs h w = omega (arith, ap length w.joins, length-append w.parameters w.list, w.counted, w.long)

pub begun_fits : (a : Awaited) (bs : List ℕ) → Fits a → Begins a bs → length bs ≤ 40
begun_fits a bs h w = omega (arith, complete_fits a (bs ++ w.rest) h w.would, length-append bs w.rest)
