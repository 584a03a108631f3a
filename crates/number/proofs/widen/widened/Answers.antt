-- A normal float 32, a zero and a subnormal, each by its law; a subnormal's digits are short enough to be moved up. Assumes nothing.
use native.Mathlib.Omega.{arith}
use lib.Count.{leading_le}
use Rattle.number.proofs.Widening.{normal_is, signed_zero_is, subnormal_is, length_few, moved_below}
use Rattle.number.proofs.widen.widened.Goals as goal

pub overflow_mul-sign : goal.overflow_mul-sign
overflow_mul-sign c = omega arith

pub overflow_add-result : goal.overflow_add-result
overflow_add-result c = omega arith

pub overflow_mul-result : goal.overflow_mul-result
overflow_mul-result c = omega arith

pub overflow_add-result-then-field-gt0 : goal.overflow_add-result-then-field-gt0
overflow_add-result-then-field-gt0 c = omega arith

pub overflow_mul-result-then-field-gt0 : goal.overflow_mul-result-then-field-gt0
overflow_mul-result-then-field-gt0 c = omega arith

pub overflow_add-result-then-field-gt0-2 : goal.overflow_add-result-then-field-gt0-2
overflow_add-result-then-field-gt0-2 c = omega arith

pub returns-then-field-gt0 : goal.returns-then-field-gt0
returns-then-field-gt0 c f = normal_is c.args.n _ (omega arith) (omega arith) (omega arith) f

pub returns-then-digits-eq0 : goal.returns-then-digits-eq0
returns-then-digits-eq0 c f = signed_zero_is c.args.n _ (omega arith) (omega arith) (omega arith) (omega arith)

pub overflow_sub-length : goal.overflow_sub-length
overflow_sub-length c = leading_le 64 _

pub overflow_cast-result : goal.overflow_cast-result
overflow_cast-result c = omega arith

pub overflow_add-result-2 : goal.overflow_add-result-2
overflow_add-result-2 c = omega arith

pub overflow_mul-result-2 : goal.overflow_mul-result-2
overflow_mul-result-2 c = omega arith

pub overflow_add-result-3 : goal.overflow_add-result-3
overflow_add-result-3 c = omega arith

pub overflow_sub-result : goal.overflow_sub-result
overflow_sub-result c = length_few c.args.n c.if-digits-eq0.false

pub overflow_cast-result-2 : goal.overflow_cast-result-2
overflow_cast-result-2 c = omega arith

pub overflow_shl-result : goal.overflow_shl-result
overflow_shl-result c = omega arith

pub overflow_add-result-4 : goal.overflow_add-result-4
overflow_add-result-4 c = omega (arith, moved_below c.args.n c.if-digits-eq0.false)

pub returns : goal.returns
returns c f = subnormal_is c.args.n _ (omega arith) (omega arith) c.if-digits-eq0.false (omega arith)
