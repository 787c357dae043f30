use Rattle.std.proofs.Common.{◌+◌, ◌++◌, drop, sym, ap, ◌∙◌, append_assoc, append-nil}
use Rattle.std.specs.Prelude.{flat_map, string_bytes}
use Rattle.std.proofs.lemmas.List.{drop_all, drop_more}
use Rattle.history_words.specs.Commands.{batch_told, next_told}
use Rattle.history_words.proofs.commands.batch_text.Goals as goal

pub loop-item-init : goal.loop-item-init
loop-item-init c =
    ap batch_told c.in-Some.ensures.cases.0
    ∙ ap (λ l. l ++ flat_map next_told c.in-Some.others.now) (sym c.in_ok-text.ensures.value)

pub loop-item-preserved : goal.loop-item-preserved
loop-item-preserved c =
    let others = c.in-Some.others.now in
    let i = c.loop-item.item-index in
    let item = c.item-item.result in
    let text = string_bytes c.loop-item.text in
    c.loop-item.invariant
    ∙ ap (λ l. text ++ flat_map next_told l) (drop_more others i item c.loop-item-test.true)
    ∙ ap (λ x. text ++ (next_told x ++ flat_map next_told (drop (i + 1) others))) (sym c.item-item.is)
    ∙ sym (append_assoc text (next_told item) (flat_map next_told (drop (i + 1) others)))
    ∙ ap (λ l. l ++ flat_map next_told (drop (i + 1) others)) (sym c.in_ok-push_next.ensures.value)

pub returns : goal.returns
returns c =
    let text = string_bytes c.loop-item.text in
    record {
      value = sym (c.loop-item.invariant
          ∙ ap (λ l. text ++ flat_map next_told l)
          (drop_all c.loop-item.item-index c.in-Some.others.now c.loop-item-test.false) ∙ append-nil text);
    }
