-- For the private function that enrols a meter. No statement of a public function rests on this page.
use Rattle.std.specs.Prelude.{ℕ}
use Rattle.meters.specs.Columns.{Columns, enrol_on}
use Rattle.turns.specs.Turns.{Turn}
use Rattle.day.specs.Enrolments.{enrolled_by}

unfoldable pub enrol_meter : Columns → ℕ → ℕ → ℕ → Turn Columns
enrol_meter c eui short counter = enrolled_by (enrol_on c eui short counter).answer (enrol_on c eui short counter).columns
