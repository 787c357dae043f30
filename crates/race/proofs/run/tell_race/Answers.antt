use Rattle.std.proofs.Common.{ap, reverse, subst, sym, ◌∙◌, ◌≡◌}
use Rattle.std.proofs.lemmas.List.{reverse-reverse}
use Rattle.std.specs.Prelude.{OnOk}
use Rattle.nvme_model.specs.History.{Past}
use Rattle.nvme_model.specs.declared.config.ConfigNumbers.{ConfigNumbers}
use Rattle.many_host_laws.specs.Closing.{HasRounds}
use Rattle.race.specs.Slots.{PrintsRounds, PrintsSlots, slots_of}
use Rattle.race.proofs.run.tell_race.Goals as goal

pub returns-clause-slots : goal.returns-clause-slots
returns-clause-slots g c =
    subst (λ (k : ConfigNumbers). OnOk c.finish.result (PrintsSlots k (slots_of c.args.race.now)
    (g.W.Write.contents c.args.writer.now) (g.W.Write.contents c.finish.new.writer)))
    (c.config-config.ensures.value ∙ c.requires.config) c.finish.ensures.slots

pub returns-clause-rounds : goal.returns-clause-rounds
returns-clause-rounds g c =
    let race = c.args.race.now in
    let core = c.args.core.now in
    let same = c.config-config.ensures.value ∙ c.requires.config in
    let back : reverse c.in-Some.entries.now ≡ core.past =
    ap reverse (c.in-Some.ensures ∙ ap reverse c.history.ensures.past) ∙ reverse-reverse core.past in
    subst (λ (k : ConfigNumbers). OnOk c.finish.result (PrintsRounds k (slots_of race) race.rounds
    (g.W.Write.contents c.args.writer.now) (g.W.Write.contents c.finish.new.writer))) same
    (c.finish.ensures.rounds race.rounds
    (subst (λ (z : ConfigNumbers × Past). HasRounds z.0 (slots_of race) race.rounds z.1)
    (λ i. (sym same i, sym back i)) c.requires.rounds))
