-- What happened in a step, as the host is told: the header's numbers.
use Rattle.std.specs.Prelude.{ℕ}
use Rattle.session.specs.declared.Happened.{Happened}
use Rattle.session.specs.declared.Happened.TheVariants.{Begun, Resumed, Opened, Started, Completed, Answered, Issued, Stored, Nothing}

-- con: a new session, or the stored one again
abbrev pub is_begun : ℕ
is_begun = 1

abbrev pub is_resumed : ℕ
is_resumed = 2

-- conCmp
abbrev pub is_opened : ℕ
is_opened = 3

-- a station's start, its Cmp, its Rsp to the centre
abbrev pub is_started : ℕ
is_started = 4

abbrev pub is_completed : ℕ
is_completed = 5

abbrev pub is_answered : ℕ
is_answered = 6

-- a start of the centre
abbrev pub is_issued : ℕ
is_issued = 7

-- a lost connection: the session is stored, or was waiting already
abbrev pub is_stored : ℕ
is_stored = 8

abbrev pub is_nothing : ℕ
is_nothing = 9

-- the number of each
abbrev pub happened_number : Happened → ℕ
happened_number Begun = is_begun
happened_number Resumed = is_resumed
happened_number Opened = is_opened
happened_number Started = is_started
happened_number Completed = is_completed
happened_number Answered = is_answered
happened_number Issued = is_issued
happened_number Stored = is_stored
happened_number Nothing = is_nothing
