-- What a part is, told without reading byte by byte.
use Rattle.std.specs.Prelude.{◌≡◌, ℕ, ◌+◌, ◌≤◌, true, false, ◌⊎◌, List, [], ◌∷◌, ◌++◌, length}
use Rattle.std.specs.List.{AllByRecursion}
use Rattle.reading.specs.Commands.{Command as Order}
use Rattle.reading.specs.Reading.{Reading, text, more, done, refused, meaning, is_text}
use Rattle.reading.specs.declared.Refusal.{Refusal}
use Rattle.stream.specs.Kind.{Text, Control, Command, Refused, Unfinished}
use Rattle.stream.specs.declared.parts.Awaited.{Awaited}
use Rattle.stream.specs.declared.parts.Awaited.TheVariants as awaits
use Rattle.stream.specs.Awaited.{awaited}
use Rattle.stream.specs.Parts.{Part, a_part}

-- so many bytes, a list of at most so many that are not 00, and 00
pub record WholeList (before most : ℕ) (bs : List ℕ) : Type 0 where
  pub parameters : List ℕ
  pub list : List ℕ
  pub joins : bs ≡ parameters ++ (list ++ 0x00 ∷ [])
  pub counted : length parameters ≡ before
  pub nonzero : AllByRecursion (λ b. 1 ≤ b) list
  pub short : length list ≤ most

-- so many bytes, and one byte more that is not 00 than the list may have
pub record OverlongList (before most : ℕ) (bs : List ℕ) : Type 0 where
  pub parameters : List ℕ
  pub list : List ℕ
  pub joins : bs ≡ parameters ++ list
  pub counted : length parameters ≡ before
  pub nonzero : AllByRecursion (λ b. 1 ≤ b) list
  pub long : length list ≡ most + 1

-- the bytes are exactly what is awaited behind a code
abbrev pub Completes : Awaited → List ℕ → Type 0
Completes awaits.Text bs = ⊥
Completes awaits.EscapeCode bs = ⊥
Completes awaits.GroupCode bs = ⊥
Completes (awaits.Bytes n) bs = length bs ≡ n
Completes (awaits.List before most) bs = WholeList before most bs

-- the bytes are past what is awaited behind a code, by the last of them
abbrev pub Passes : Awaited → List ℕ → Type 0
Passes awaits.Text bs = ⊥
Passes awaits.EscapeCode bs = ⊥
Passes awaits.GroupCode bs = ⊥
Passes (awaits.Bytes n) bs = ⊥
Passes (awaits.List before most) bs = OverlongList before most bs

-- some bytes more, at least one, would complete them
pub record Begins (a : Awaited) (bs : List ℕ) : Type 0 where
  pub rest : List ℕ
  pub some : 1 ≤ length rest
  pub would : Completes a (bs ++ rest)

-- no text byte comes next
abbrev pub TextEnds : List ℕ → Type 0
TextEnds [] = Unit {0}
TextEnds (b ∷ bs) = is_text b ≡ false

-- the part that begins these bytes; b is a first byte, c the code behind it, r and q what is read behind them
pub data Described (bs : List ℕ) : Part → Type 0 where
  -- T: text bytes, as many as follow, up to 16
  text_run : (run rest : List ℕ) → bs ≡ run ++ rest → AllByRecursion (λ b. is_text b ≡ true) run → 1 ≤ length run → length run ≤ 16
      → (length run ≡ 16) ⊎ TextEnds rest → Described bs (a_part Text run)
  -- C: a byte other than text that is a whole command
  control : {b : ℕ} {rest : List ℕ} {o : Order} {r : Reading} → bs ≡ b ∷ rest → is_text b ≡ false → meaning text b ≡ done o r
      → Described bs (a_part Control (b ∷ []))
  -- X: a byte that is not in the table
  unknown_byte : {b : ℕ} {rest : List ℕ} {why : Refusal} {r : Reading} → bs ≡ b ∷ rest → meaning text b ≡ refused why r
      → Described bs (a_part Refused (b ∷ []))
  -- U: a first byte whose code is missing
  no_code : {b : ℕ} {r : Reading} → bs ≡ b ∷ [] → meaning text b ≡ more r → Described bs (a_part Unfinished (b ∷ []))
  -- E: a pair that is a whole command
  pair : {b c : ℕ} {rest : List ℕ} {r q : Reading} {o : Order} → bs ≡ b ∷ c ∷ rest → meaning text b ≡ more r → meaning r c ≡ done o q
      → Described bs (a_part Command (b ∷ c ∷ []))
  -- X: a pair that is not in the table
  unknown_pair : {b c : ℕ} {rest : List ℕ} {r q : Reading} {why : Refusal} → bs ≡ b ∷ c ∷ rest → meaning text b ≡ more r → meaning r c ≡ refused why q
      → Described bs (a_part Refused (b ∷ c ∷ []))
  -- E: a pair with all that is awaited behind it
  whole : {b c : ℕ} (front rest : List ℕ) {r q : Reading} → bs ≡ b ∷ c ∷ (front ++ rest) → meaning text b ≡ more r → meaning r c ≡ more q
      → Completes (awaited q) front → Described bs (a_part Command (b ∷ c ∷ front))
  -- X: a pair and a list behind it, past its length
  overlong : {b c : ℕ} (front rest : List ℕ) {r q : Reading} → bs ≡ b ∷ c ∷ (front ++ rest) → meaning text b ≡ more r → meaning r c ≡ more q
      → Passes (awaited q) front → Described bs (a_part Refused (b ∷ c ∷ front))
  -- U: a pair with a beginning of what is awaited behind it, and the end
  cut_short : {b c : ℕ} {front : List ℕ} {r q : Reading} → bs ≡ b ∷ c ∷ front → meaning text b ≡ more r → meaning r c ≡ more q
      → Begins (awaited q) front → Described bs (a_part Unfinished (b ∷ c ∷ front))
