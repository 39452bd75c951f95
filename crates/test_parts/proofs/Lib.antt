mod LineLaws
mod SmallTreeLaws
