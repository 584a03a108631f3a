-- What the inner functions on columns go by: one row put, the lookup, the search for a free row, columns of equal lengths.
use Rattle.std.specs.Prelude.{◌≡◌, ℕ, ◌==◌, length, set, Option, position, zip}
use Rattle.meters.specs.declared.Row.{Row}
use Rattle.meters.specs.{Rows.is_mark, Columns.Columns, Columns.columns}

-- entry i of each column becomes the row's
abbrev pub put_row : Columns → ℕ → Row → Columns
put_row c i r = columns (set c.used i r.used) (set c.euis i r.eui) (set c.shorts i r.short) (set c.lasts i r.last) (set c.heards i r.heard)

-- the lookup reads the marks and the EUIs, the search for a free row the marks: what the other columns hold decides nothing
unfoldable pub meter_place : Columns → ℕ → Option ℕ
meter_place c eui = position (λ p. is_mark p.0 p.1 eui) (zip c.used c.euis)

unfoldable pub free_row : Columns → Option ℕ
free_row c = position (λ mark. mark == 0) c.used

pub record Even (c : Columns) : Type 0 where
  pub euis : length c.euis ≡ length c.used
  pub shorts : length c.shorts ≡ length c.used
  pub lasts : length c.lasts ≡ length c.used
  pub heards : length c.heards ≡ length c.used
