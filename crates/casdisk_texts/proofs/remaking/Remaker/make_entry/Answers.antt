use Rattle.casdisk_texts.proofs.MadeAgain.{made_entry}
use Rattle.casdisk_texts.proofs.remaking.Remaker.make_entry.Goals as goal

pub returns-clause-made : goal.returns-clause-made
returns-clause-made c read =
    let config = c.args.self.now.core.config in
    let past = c.args.self.now.core.past in
    let made = rw (c.step_of.ensures.value, c.if-not-made.false) at c.in_ok-made.ensures.made in
    made_entry config past c.args.entry c.args.line.now _ _ c.eq.result read made
    (rw c.as_slice.ensures.value at c.eq.ensures)
