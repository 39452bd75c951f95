mod GoingItems
mod GoingRules
mod WholeTexts
mod ValueLoop
mod ItemLoop
