-- A text that is being written.
use Rattle.std.proofs.Common.{◌≡◌, ℕ, ◌≤◌, List, [], ◌++◌, length, take, sym, refl, ap, ◌∙◌, append_assoc, append-nil, arith, length-append}
use Rattle.mechanism.proofs.Appending as appending
use Rattle.action_text.specs.declared.pen.Pen.{Pen}
use Rattle.action_text.specs.Pens.{left, Wrote}

pub next : {p q r : Pen} {s t : List ℕ} → Wrote p s q → Wrote q t r → Wrote p (s ++ t) r
next a b = record {
  writes = appending.next a.writes b.writes;
  same_length = b.same_length ∙ a.same_length;
  same_buffer = b.same_buffer ∙ a.same_buffer;
}

-- the same bytes, said otherwise
pub spelt : {p q : Pen} {s t : List ℕ} → s ≡ t → Wrote p s q → Wrote p t q
spelt e a = record { writes = appending.spelt e a.writes; same_length = a.same_length; same_buffer = a.same_buffer }

pub nothing : (p : Pen) → Wrote p [] p
nothing p = record {
  writes = record { ends = omega arith; front = sym (append-nil (take p.at p.out.now)); rest = refl };
  same_length = refl;
  same_buffer = refl;
}

-- of the whole text, some is done, and some is to come
pub record Progress (p : Pen) (whole : List ℕ) (q : Pen) (coming : List ℕ) : Type 0 where
  pub done : List ℕ
  pub wrote : Wrote p done q
  pub joins : done ++ coming ≡ whole

pub start : (p : Pen) (whole : List ℕ) → Progress p whole p whole
start p whole = record { done = []; wrote = nothing p; joins = refl }

module _ {p q : Pen} {whole coming : List ℕ} (f : Progress p whole q coming) (t more : List ℕ) (e : coming ≡ t ++ more) where
  -- there is room for what comes next
  pub room : length whole ≤ left p → length t ≤ left q
  room h = omega (arith, f.wrote.writes.ends, f.wrote.same_length, length-append f.done coming, length-append t more, ap length e, ap length f.joins)

  -- and it is written
  pub onward : {r : Pen} → Wrote q t r → Progress p whole r more
  onward w = record {
    done = f.done ++ t;
    wrote = next f.wrote w;
    joins = append_assoc f.done t more ∙ ap (λ l. f.done ++ l) (sym e) ∙ f.joins;
  }

pub finished : {p q r : Pen} {whole t coming : List ℕ} → Progress p whole q coming → coming ≡ t → Wrote q t r → Wrote p whole r
finished f e w = spelt (ap (λ l. f.done ++ l) (sym e) ∙ f.joins) (next f.wrote w)
