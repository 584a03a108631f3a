-- The numbers of document 01 and 02 for what they refuse.
use Rattle.std.specs.Prelude.{ℕ}
use Rattle.refusal.specs.declared.Refusal.{Refusal}
use Rattle.refusal.specs.declared.Refusal.TheVariants.{FrameIncomplete, FrameIdentifier, Size, Cut, NeverUsed, TooDeep, TooManyElements, KeyNotText, OuterNotMap, LeftOver, NoCommand, UnknownCommand, KeyTwice, FieldMissing, Invalid, Version, State, IdOutOfOrder, SixteenOpen, RoomTooShort, NoRow, AlreadyEnrolled, NoFreeRow, UnequalColumns, StationNumber, Stale, QueueIdThere, QueueFull, NoQueueId, NothingSuitable, NotATrace, NotShortest, InputEnds, TimeSum, NotOneFrame}

abbrev pub number_of : Refusal → ℕ
number_of FrameIncomplete = 1
number_of FrameIdentifier = 2
number_of Size = 3
number_of Cut = 4
number_of NeverUsed = 5
number_of TooDeep = 6
number_of TooManyElements = 7
number_of KeyNotText = 8
number_of OuterNotMap = 9
number_of LeftOver = 10
number_of NoCommand = 11
number_of UnknownCommand = 12
number_of KeyTwice = 13
number_of FieldMissing = 14
number_of Invalid = 15
number_of Version = 16
number_of State = 17
number_of IdOutOfOrder = 18
number_of SixteenOpen = 19
number_of RoomTooShort = 20
number_of NoRow = 21
number_of AlreadyEnrolled = 22
number_of NoFreeRow = 23
number_of UnequalColumns = 24
number_of StationNumber = 25
number_of Stale = 26
number_of QueueIdThere = 27
number_of QueueFull = 28
number_of NoQueueId = 29
number_of NothingSuitable = 30
number_of NotATrace = 31
number_of NotShortest = 32
number_of InputEnds = 33
number_of TimeSum = 34
number_of NotOneFrame = 35
