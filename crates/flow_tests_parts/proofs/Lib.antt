mod TestLemmas
mod Playing
