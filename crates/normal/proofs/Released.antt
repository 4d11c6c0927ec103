-- A normal text releases its stream's ticket.
use Rattle.std.proofs.Common.{◌≡◌, ℕ, List, sym, refl, subst}
use Rattle.job.specs.Laws.{Bytes}
use Rattle.job.specs.NormalText.{normal_text}
use Rattle.job.proofs.Texts.{normal_texts_canonical, settled}
use Rattle.normal.specs.Releases.{Releases}

pub releases : (stream text : List ℕ) → Bytes stream → text ≡ normal_text stream → Releases stream text
releases stream text b e =
    let s = settled stream b in
    let P : List ℕ → Type 0 = λ t. Releases stream t in
    subst P (sym e) (record {
      is_normal = refl;
      same_job = λ other c. normal_texts_canonical other stream c b;
      orders_the_job = s.same_job;
      own_text = s.own_text;
      bytes = s.bytes;
    })
