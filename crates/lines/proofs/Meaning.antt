-- What is told of a payload, and of the bytes that arrived, with bytes lent and thrown away: something is, and no second thing. Assumes nothing.
use mathlib.Core.{Path.◌≡◌, List.List}
use Prim.Native.Nat.{ℕ}
use Rattle.std.specs.Prelude.{Result}
use Rattle.refusal.specs.declared.Broken.{Broken}
use Rattle.record.specs.declared.Counted.{Counted}
use Rattle.record.specs.Code.Places.{answer_at}
use Rattle.record.proofs.Answered.{answer_meant}
use Rattle.reading.specs.declared.Unframed.{Unframed}
use Rattle.reading.proofs.Settled.{read_framed_settled}
use Rattle.lines.specs.Means.{scratch, Means, MeansFramed}

pub told_means : (s : List ℕ) → (t : Result Counted Broken) × Means s t
told_means s = ((answer_at s scratch).told, record { lent = (answer_at s scratch).lent; meant = answer_meant s scratch })

pub framed_once : (s : List ℕ) (u v : Unframed) → MeansFramed s u → MeansFramed s v → u ≡ v
framed_once s u v m n = (read_framed_settled s scratch u v m.lent n.lent m.meant n.meant).0
