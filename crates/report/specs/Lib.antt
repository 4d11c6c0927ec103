pub mod Reports
pub mod WholeTexts
