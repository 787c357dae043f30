use Rattle.std.proofs.Common.{[], ap, is_some, sym, ◌∙◌, ◌∷◌}
use Rattle.std.specs.Prelude.{option_map}
use Rattle.std.proofs.KnownBytes.{Appends-nil}
use Rattle.casdisk_texts.specs.Traces.{kept_as, kept_by, line_kept}
use Rattle.casdisk_texts.proofs.Collected.{takes_option, thing_collected}
use Rattle.casdisk_texts.proofs.trace_reading.CollectorLineMeaning.take_line.Goals as goal

pub returns-in-Some-clause-taken : goal.returns-in-Some-clause-taken
returns-in-Some-clause-taken g c = λ n past h.
    takes_option c.keep_option.result (is_some c.args.self.now.wide) (is_some c.keep_option.new.self.wide) past
    c.args.line.now c.in-Some.option _ _ (sym c.parse_option.ensures.value ∙ c.in-Some.is)
    (ap is_some c.keep_option.ensures.same) (c.keep_option.ensures.taken n past h)

pub returns-in-Ok-keep-clause-taken : goal.returns-in-Ok-keep-clause-taken
returns-in-Ok-keep-clause-taken g c = λ n past h.
    let x = c.args.self.now in
    let thing = c.in-Ok.thing in
    let kept = c.in-Ok-keep.ensures.kept in
    let room = is_some x.wide in (
      (kept_as thing ∷ past, []),
      ap (kept_by room past c.args.line.now) (sym c.parse_option.ensures.value ∙ c.in_default.is)
          ∙ ap (option_map (λ s. (kept_as s ∷ past, []))) c.in-Ok.ensures.value,
      rw (kept.0, kept.1, kept.2, kept.3, kept.4)
          (thing_collected n x.wide x.history x.options x.rank x.things.items thing past h),
      ap (λ w. line_kept (is_some w)) kept.4,
      Appends-nil _,
    )
