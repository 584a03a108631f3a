use Rattle.field.proofs.Octets.{octet_large}
use Rattle.field.proofs.array.any_octet.Goals as goal

pub returns-else-n-lt256 : goal.returns-else-n-lt256
returns-else-n-lt256 c = octet_large _ _ _ c.number_at.ensures _ c.in_ok-n.was _ c.in-Unsigned.is c.if-n-lt256.false
