-- The line is made in a room of 80 bytes, where it fits, and put into the lent one as one part. Assumes nothing.
use mathlib.Core.Path.{refl, ap, ◌∙◌}
use mathlib.Core.List.{[], ◌∷◌}
use Rattle.forms.specs.Code.Put.{put, put_parts}
use Rattle.day.specs.Lines.{refused_line}
use Rattle.day.proofs.Texts.{refused_size, refused_taken, refused_made}
use Rattle.day.proofs.stop.Goals as goal

pub slice_bounds-text-end : goal.slice_bounds-text-end
slice_bounds-text-end c = refused_size _ _ refl _ c.put_counted-n.ensures

pub slice_bounds-put_run-end : goal.slice_bounds-put_run-end
slice_bounds-put_run-end c = refused_taken _ _ refl _ c.put_counted-n.ensures

pub returns : goal.returns
returns c =
    refused_made _ _ refl _ c.put_counted-n.ensures _ _ c.put_run.ensures
    ∙ ap (λ k. put_parts (refused_line k ∷ []) (put c.args.room.now 0)) (c.from.ensures ∙ c.number.ensures.is)
