-- What is told of the bytes that arrive: the program lends the longest bytes that a message may have and throws them away.
use Rattle.std.specs.Prelude.{ℕ, List, replicate, Result}
use Rattle.refusal.specs.declared.Broken.{Broken}
use Rattle.record.specs.declared.Counted.{Counted}
use Rattle.record.specs.Meant.{lent_size, Meant}
use Rattle.reading.specs.declared.Unframed.{Unframed}
use Rattle.reading.specs.Framed.{MeantFramed}

abbrev pub scratch : List ℕ
scratch = replicate lent_size 0

pub record Means (s : List ℕ) (t : Result Counted Broken) : Type 0 where
  pub lent : List ℕ
  pub meant : Meant s scratch (record { told = t; lent = lent })

pub record MeansFramed (s : List ℕ) (u : Unframed) : Type 0 where
  pub lent : List ℕ
  pub meant : MeantFramed s scratch u lent
