mod FirstHits
mod ReasonLaws
mod SoFar
mod LineLaws
mod ToldLaws
mod VerdictLaws
