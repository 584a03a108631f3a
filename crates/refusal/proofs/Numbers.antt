-- Each refusal has a number of its own, from 1 to 35. Assumes nothing.
use Prim.Native.Nat.{◌≤◌, ◌<◌}
use native.Mathlib.Omega.{arith}
use lib.Dec.{lit≤}
use Rattle.refusal.specs.Number.{number_of}
use Rattle.refusal.specs.declared.Refusal.{Refusal}
use Rattle.refusal.specs.declared.Refusal.TheVariants.{FrameIncomplete, FrameIdentifier, Size, Cut, NeverUsed, TooDeep, TooManyElements, KeyNotText, OuterNotMap, LeftOver, NoCommand, UnknownCommand, KeyTwice, FieldMissing, Invalid, Version, State, IdOutOfOrder, SixteenOpen, RoomTooShort, NoRow, AlreadyEnrolled, NoFreeRow, UnequalColumns, StationNumber, Stale, QueueIdThere, QueueFull, NoQueueId, NothingSuitable, NotATrace, NotShortest, InputEnds, TimeSum, NotOneFrame}

pub number_some : (r : Refusal) → 1 ≤ number_of r
number_some FrameIncomplete = lit≤ tt
number_some FrameIdentifier = lit≤ tt
number_some Size = lit≤ tt
number_some Cut = lit≤ tt
number_some NeverUsed = lit≤ tt
number_some TooDeep = lit≤ tt
number_some TooManyElements = lit≤ tt
number_some KeyNotText = lit≤ tt
number_some OuterNotMap = lit≤ tt
number_some LeftOver = lit≤ tt
number_some NoCommand = lit≤ tt
number_some UnknownCommand = lit≤ tt
number_some KeyTwice = lit≤ tt
number_some FieldMissing = lit≤ tt
number_some Invalid = lit≤ tt
number_some Version = lit≤ tt
number_some State = lit≤ tt
number_some IdOutOfOrder = lit≤ tt
number_some SixteenOpen = lit≤ tt
number_some RoomTooShort = lit≤ tt
number_some NoRow = lit≤ tt
number_some AlreadyEnrolled = lit≤ tt
number_some NoFreeRow = lit≤ tt
number_some UnequalColumns = lit≤ tt
number_some StationNumber = lit≤ tt
number_some Stale = lit≤ tt
number_some QueueIdThere = lit≤ tt
number_some QueueFull = lit≤ tt
number_some NoQueueId = lit≤ tt
number_some NothingSuitable = lit≤ tt
number_some NotATrace = lit≤ tt
number_some NotShortest = lit≤ tt
number_some InputEnds = lit≤ tt
number_some TimeSum = lit≤ tt
number_some NotOneFrame = lit≤ tt

pub number_most : (r : Refusal) → number_of r ≤ 35
number_most FrameIncomplete = lit≤ tt
number_most FrameIdentifier = lit≤ tt
number_most Size = lit≤ tt
number_most Cut = lit≤ tt
number_most NeverUsed = lit≤ tt
number_most TooDeep = lit≤ tt
number_most TooManyElements = lit≤ tt
number_most KeyNotText = lit≤ tt
number_most OuterNotMap = lit≤ tt
number_most LeftOver = lit≤ tt
number_most NoCommand = lit≤ tt
number_most UnknownCommand = lit≤ tt
number_most KeyTwice = lit≤ tt
number_most FieldMissing = lit≤ tt
number_most Invalid = lit≤ tt
number_most Version = lit≤ tt
number_most State = lit≤ tt
number_most IdOutOfOrder = lit≤ tt
number_most SixteenOpen = lit≤ tt
number_most RoomTooShort = lit≤ tt
number_most NoRow = lit≤ tt
number_most AlreadyEnrolled = lit≤ tt
number_most NoFreeRow = lit≤ tt
number_most UnequalColumns = lit≤ tt
number_most StationNumber = lit≤ tt
number_most Stale = lit≤ tt
number_most QueueIdThere = lit≤ tt
number_most QueueFull = lit≤ tt
number_most NoQueueId = lit≤ tt
number_most NothingSuitable = lit≤ tt
number_most NotATrace = lit≤ tt
number_most NotShortest = lit≤ tt
number_most InputEnds = lit≤ tt
number_most TimeSum = lit≤ tt
number_most NotOneFrame = lit≤ tt

pub number_byte : (r : Refusal) → number_of r < 256
number_byte r = omega (arith, number_most r)
