-- How a configuration's body is read.
use Rattle.std.specs.Prelude.{◌≡◌, ℕ, ◌≤◌, true, false, ◌⊎◌, List, Option, MatchOption}
use Rattle.job.specs.declared.settings.BodySettings.{BodySettings}
use Rattle.job.specs.Configuration.{body_in_range, body_settings}

-- the settings of a body in range, with 48 or 34 columns and at most 20 lines before a cut; nothing of any other
abbrev pub BodyRead : List ℕ → Option BodySettings → Type 0
BodyRead body r =
    MatchOption r (body_in_range body ≡ false)
    (λ s. (body_in_range body ≡ true) × (s ≡ body_settings body) × ((s.columns ≡ 48) ⊎ (s.columns ≡ 34)) × (s.cutter.lines ≤ 20))
