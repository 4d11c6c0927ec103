-- What is being read behind a stream is told by the stream's last bytes.
use Rattle.std.proofs.Common.{◌≡◌, ℕ, List, [], ◌∷◌, ◌++◌, sym, refl, ap, ◌∙◌, subst, append_assoc}
use Rattle.std.proofs.lemmas.List.{append-nil}
use Rattle.reading.specs.Reading.{Reading, text, Meaning, more, done, refused, meaning, next_reading, reading_after}
use Rattle.reading.specs.Unfinished.{begun, UnfinishedCommandsAreKept}
use Rattle.reading.proofs.Within.{Within, Moves, moves, few}

-- bytes in pieces
pub after_append : (r : Reading) (s t : List ℕ) → reading_after r (s ++ t) ≡ reading_after (reading_after r s) t
after_append r [] t = refl
after_append r (b ∷ s) t = after_append (next_reading (meaning r b)) s t

-- r is read behind s, and s ends with the bytes that have come of it
record Reached (s : List ℕ) (r : Reading) : Type 0 where
  front : List ℕ
  joins : s ≡ front ++ begun r
  apart : reading_after text front ≡ text
  within : Within r
  is : reading_after text s ≡ r

ended : (s : List ℕ) (r : Reading) → reading_after text s ≡ r → r ≡ text → Reached s r
ended s r e k =
    record {
      front = s;
      joins = sym (append-nil s) ∙ ap (λ (q : Reading). s ++ begun q) (sym k);
      apart = e ∙ k;
      within = subst Within (sym k) tt;
      is = e;
    }

one_more : (s : List ℕ) (r : Reading) (b : ℕ) → Reached s r → Reached (s ++ b ∷ []) (next_reading (meaning r b))
one_more s r b h = go (meaning r b) refl (moves r b h.within)
  where
    is : reading_after text (s ++ b ∷ []) ≡ next_reading (meaning r b)
    is = after_append text s (b ∷ []) ∙ ap (λ (q : Reading). next_reading (meaning q b)) h.is

    go : (m : Meaning) → meaning r b ≡ m → Moves (begun r ++ b ∷ []) m → Reached (s ++ b ∷ []) (next_reading m)
    go (more q) e k =
        record {
          front = h.front;
          joins = ap (λ (l : List ℕ). l ++ b ∷ []) h.joins ∙ append_assoc h.front (begun r) (b ∷ []) ∙ ap (λ (l : List ℕ). h.front ++ l) (sym k.1);
          apart = h.apart;
          within = k.0;
          is = is ∙ ap next_reading e;
        }
    go (done c q) e k = ended (s ++ b ∷ []) q (is ∙ ap next_reading e) k
    go (refused why q) e k = ended (s ++ b ∷ []) q (is ∙ ap next_reading e) k

many_more : (t s : List ℕ) (r : Reading) → Reached s r → Reached (s ++ t) (reading_after r t)
many_more [] s r h = subst (λ (l : List ℕ). Reached l r) (sym (append-nil s)) h
many_more (b ∷ t) s r h =
    subst (λ (l : List ℕ). Reached l (reading_after (next_reading (meaning r b)) t)) (append_assoc s (b ∷ []) t)
    (many_more t (s ++ b ∷ []) (next_reading (meaning r b)) (one_more s r b h))

reached : (s : List ℕ) → Reached s (reading_after text s)
reached s = many_more s [] text (record { front = []; joins = refl; apart = refl; within = tt; is = refl })

-- what is read behind any stream is within its length
pub within_after : (s : List ℕ) → Within (reading_after text s)
within_after s = (reached s).within

pub kept : UnfinishedCommandsAreKept
kept s = let h = reached s in record { front = h.front; joins = h.joins; apart = h.apart; few = few (reading_after text s) h.within }
