-- Lemmas behind the answers.
mod Laid
mod Sums
mod Exact
mod Mixed
mod Rivals
mod Small
mod Allowance
mod SidesExact
mod Flips
mod EndsExact
mod Mirrors
mod Causes
mod Changes
mod Winners
mod Determined
mod RunsAlike
