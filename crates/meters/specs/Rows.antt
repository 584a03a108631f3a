-- One row of the meter table: whose it is, and what enrolment, withdrawal and an uplink make of it (document 01, "Meter table").
use Rattle.std.specs.Prelude.{ℕ, Bool, not, ◌&&◌, cond, eqb, ltb, Ok, Err}
use Rattle.refusal.specs.declared.Refusal.TheVariants.{Stale}
use Rattle.meters.specs.declared.{Row.Row, Credit.Credit, Heard.Heard}
use Rattle.meters.specs.declared.Kind.{Kind, TheVariants.New, TheVariants.Copy}
use Rattle.meters.specs.Stations.{hearers, nobody, alone, with_hearer}

-- "used (a byte: 0 free, else used)"
abbrev pub is_free_row : Row → Bool
is_free_row r = eqb r.used 0

-- "used row with that EUI": no other column decides
abbrev pub is_mark : ℕ → ℕ → ℕ → Bool
is_mark used eui wanted = not (eqb used 0) && eqb eui wanted

abbrev pub is_meter : ℕ → Row → Bool
is_meter wanted r = is_mark r.used r.eui wanted

-- "enrol writes 1", the EUI, the short address and the counter, "heard empty"
abbrev pub enrolled : ℕ → ℕ → ℕ → Row
enrolled eui short counter = record { used = 1; eui = eui; short = short; last = counter; heard = nobody }

-- "clears the used mark and nothing else"
abbrev pub withdrawn : Row → Row
withdrawn r = record { used = 0; eui = r.eui; short = r.short; last = r.last; heard = r.heard }

-- the row with this last counter and heard set
abbrev pub heard_as : Row → ℕ → ℕ → Row
heard_as r counter heard = record { used = r.used; eui = r.eui; short = r.short; last = counter; heard = heard }

-- new or a copy, with the count of the row's heard set and the row's number i
abbrev pub credit_of : Kind → ℕ → ℕ → Credit
credit_of kind hearers row = record { kind = kind; hearers = hearers; row = row }

abbrev pub credited : Kind → ℕ → Row → Heard
credited kind i r = record { row = r; answer = Ok (credit_of kind (hearers r.heard) i) }

-- "counter above last: new, last set, heard is this station only; equal with heard not empty: copy, station added; else 26"
unfoldable pub hear_of : ℕ → Row → ℕ → ℕ → Heard
hear_of i r counter station =
    cond (ltb r.last counter)
    (credited New i (heard_as r counter (alone station)))
    (cond (eqb counter r.last && not (eqb r.heard nobody))
    (credited Copy i (heard_as r r.last (with_hearer r.heard station)))
    (record { row = r; answer = Err Stale }))
