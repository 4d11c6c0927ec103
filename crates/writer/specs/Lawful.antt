-- The writer keeps the laws of mechanisms.
use Rattle.mechanism.specs.Counts.{leading_counts}
use Rattle.mechanism.specs.Mechanisms.{Laws}
use Rattle.recorder.specs.Lawful as recorder
use Rattle.action_text.specs.Needs.{text_need}
use Rattle.writer.specs.Texts.{form_laws}
use Rattle.writer.specs.Writers.{writer_reserve, writer_rule, writer_sheet, Took}

abbrev pub lawful : Laws writer_sheet writer_reserve (λ w. w.stopped) text_need writer_rule leading_counts Took
lawful = recorder.lawful form_laws
