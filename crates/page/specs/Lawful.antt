-- The page keeps the laws of mechanisms.
use Rattle.mechanism.specs.Counts.{leading_counts}
use Rattle.mechanism.specs.Mechanisms.{Laws}
use Rattle.recorder.specs.Lawful as recorder
use Rattle.page.specs.Pictures.{page_need}
use Rattle.page.specs.Pages.{page_reserve, page_rule, page_sheet, Took}
use Rattle.page.specs.Formed.{form_laws}

abbrev pub lawful : Laws page_sheet page_reserve (λ p. p.stopped) page_need page_rule leading_counts Took
lawful = recorder.lawful form_laws
