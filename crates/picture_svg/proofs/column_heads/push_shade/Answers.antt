use Rattle.picture_svg.proofs.column_heads.push_shade.Goals as goal

pub returns : goal.returns
returns c = record { value = rw (← c.column.ensures.value, ← c.bottom.ensures.value) c.push_all.ensures.value }
