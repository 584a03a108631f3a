-- `leads` meets its contract: the test of the 256 entries is computed. Assumes nothing.
use Rattle.element.specs.Lead.{lead_bytes, row_in}
use Rattle.walk.specs.Code.Table.{entries}
use Rattle.walk.proofs.Tables.{is_table_lem}
use Rattle.walk.proofs.table.leads.Goals as goal

pub returns : goal.returns
unfolding entries lead_bytes row_in
returns c = is_table_lem _ tt
