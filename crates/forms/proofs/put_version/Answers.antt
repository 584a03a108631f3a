-- The text has room in the 17 bytes, so what stands in front of the place behind it is the text. Assumes nothing.
use mathlib.Core.Path.{refl}
use Rattle.forms.proofs.Versions.{version_size, version_put}
use Rattle.forms.proofs.put_version.Goals as goal

pub overflow_cast-size : goal.overflow_cast-size
overflow_cast-size c =
    version_size _ _ _ _ refl _ _ _ _ _
    c.put_digits-major.ensures
    c.put_led-dot.ensures
    c.put_digits-minor.ensures
    c.put_led-last.ensures
    c.put_digits-size.ensures

pub returns : goal.returns
returns c =
    version_put _ _ _ _ refl _ _ _ _ _
    c.put_digits-major.ensures
    c.put_led-dot.ensures
    c.put_digits-minor.ensures
    c.put_led-last.ensures
    c.put_digits-size.ensures
    _ _ c.put_text.ensures
