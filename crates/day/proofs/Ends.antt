-- A refusal with the number 33 is that of an input that ends. Assumes nothing.
use mathlib.Core.Path.{◌≡◌, refl}
use native.Mathlib.Omega.{arith}
use Rattle.refusal.specs.declared.Refusal.{Refusal}
use Rattle.refusal.specs.declared.Refusal.TheVariants as refusal
use Rattle.refusal.specs.Number.{number_of}

pub ends : (k : Refusal) → number_of k ≡ 33 → k ≡ refusal.InputEnds
ends refusal.FrameIncomplete e = absurd (omega arith)
ends refusal.FrameIdentifier e = absurd (omega arith)
ends refusal.Size e = absurd (omega arith)
ends refusal.Cut e = absurd (omega arith)
ends refusal.NeverUsed e = absurd (omega arith)
ends refusal.TooDeep e = absurd (omega arith)
ends refusal.TooManyElements e = absurd (omega arith)
ends refusal.KeyNotText e = absurd (omega arith)
ends refusal.OuterNotMap e = absurd (omega arith)
ends refusal.LeftOver e = absurd (omega arith)
ends refusal.NoCommand e = absurd (omega arith)
ends refusal.UnknownCommand e = absurd (omega arith)
ends refusal.KeyTwice e = absurd (omega arith)
ends refusal.FieldMissing e = absurd (omega arith)
ends refusal.Invalid e = absurd (omega arith)
ends refusal.Version e = absurd (omega arith)
ends refusal.State e = absurd (omega arith)
ends refusal.IdOutOfOrder e = absurd (omega arith)
ends refusal.SixteenOpen e = absurd (omega arith)
ends refusal.RoomTooShort e = absurd (omega arith)
ends refusal.NoRow e = absurd (omega arith)
ends refusal.AlreadyEnrolled e = absurd (omega arith)
ends refusal.NoFreeRow e = absurd (omega arith)
ends refusal.UnequalColumns e = absurd (omega arith)
ends refusal.StationNumber e = absurd (omega arith)
ends refusal.Stale e = absurd (omega arith)
ends refusal.QueueIdThere e = absurd (omega arith)
ends refusal.QueueFull e = absurd (omega arith)
ends refusal.NoQueueId e = absurd (omega arith)
ends refusal.NothingSuitable e = absurd (omega arith)
ends refusal.NotATrace e = absurd (omega arith)
ends refusal.NotShortest e = absurd (omega arith)
ends refusal.InputEnds e = refl
ends refusal.TimeSum e = absurd (omega arith)
ends refusal.NotOneFrame e = absurd (omega arith)
