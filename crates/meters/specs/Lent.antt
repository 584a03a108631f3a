-- The table as its columns are lent to each call: what they hold, and that a call leaves the same columns in it, of which those lent to read hold what they held.
use Rattle.std.specs.Prelude.{◌≡◌, ℕ, List}
use Rattle.std.specs.Borrow.{Bor, MutBor}
use Rattle.meters.specs.declared.table.Table.{Table}
use Rattle.meters.specs.Columns.{Columns, columns}

abbrev pub Read : Type 0
Read = Bor (List ℕ)

abbrev pub Write : Type 0
Write = MutBor (List ℕ)

abbrev pub found_in : Table Read Read Read Read Read → Columns
found_in t = columns t.used.now t.euis.now t.shorts.now t.lasts.now t.heards.now

abbrev pub enrolled_in : Table Write Write Write Write Write → Columns
enrolled_in t = columns t.used.now t.euis.now t.shorts.now t.lasts.now t.heards.now

abbrev pub StillEnrols : Table Write Write Write Write Write → Table Write Write Write Write Write → Type 0
StillEnrols t n =
    (n.used.ghost_name ≡ t.used.ghost_name) × (n.euis.ghost_name ≡ t.euis.ghost_name) × (n.shorts.ghost_name ≡ t.shorts.ghost_name)
    × (n.lasts.ghost_name ≡ t.lasts.ghost_name) × (n.heards.ghost_name ≡ t.heards.ghost_name)

abbrev pub withdrawn_in : Table Write Read Read Read Read → Columns
withdrawn_in t = columns t.used.now t.euis.now t.shorts.now t.lasts.now t.heards.now

abbrev pub StillWithdraws : Table Write Read Read Read Read → Table Write Read Read Read Read → Type 0
StillWithdraws t n =
    (n.used.ghost_name ≡ t.used.ghost_name) × (n.euis.now ≡ t.euis.now) × (n.shorts.now ≡ t.shorts.now) × (n.lasts.now ≡ t.lasts.now) × (n.heards.now ≡ t.heards.now)

abbrev pub credited_in : Table Read Read Read Write Write → Columns
credited_in t = columns t.used.now t.euis.now t.shorts.now t.lasts.now t.heards.now

abbrev pub StillCredits : Table Read Read Read Write Write → Table Read Read Read Write Write → Type 0
StillCredits t n =
    (n.lasts.ghost_name ≡ t.lasts.ghost_name) × (n.heards.ghost_name ≡ t.heards.ghost_name)
    × (n.used.now ≡ t.used.now) × (n.euis.now ≡ t.euis.now) × (n.shorts.now ≡ t.shorts.now)
