use Rattle.std.proofs.Common.{ap, arith, get_or, length, None, ◌%◌, ◌+◌, ◌∙◌, ◌≡◌}
use Rattle.std.proofs.lemmas.List.{get_or_read_under}
use Rattle.rings.proofs.Queues.{get_or-item}
use Rattle.rings.proofs.slots.RingSlots.get.Goals as goal

pub returns : goal.returns
returns g c =
    let slots = c.self.inside.slots.items in
    let h = c.self.inside.head in
    let i = c.remainder-place.result in
    let place : i ≡ (h + c.args.k) % length slots =
    c.remainder-place.ensures.value ∙ ap (λ n. (n + c.args.k) % c.len-2.result) c.from.ensures
    ∙ ap (λ n. (h + c.args.k) % n) (omega arith) in
    record {
      value =
          c.as_ref.ensures.value
          ∙ get_or_read_under slots i c.len-2.result c.index.result.now None c.index.ensures (omega arith) (omega arith)
          ∙ ap (λ j. get_or slots j None) place
          ∙ get_or-item slots h c.self.inside.tail c.self.invariant c.args.self.now c.self.view_is c.args.k
          (omega arith);
    }
